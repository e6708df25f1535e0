use Rattle.std.proofs.Common.{◌≡◌, ◌∙◌, ap, sym, refl, to_z, of_z, w64, ℕ, ◌*◌, length, arith, rules}
use Rattle.std.specs.Vec.{with_items}
use Rattle.std.proofs.lemmas.Grind.{common_steps}
use Rattle.std.proofs.lemmas.List.{with_items_is}
use Rattle.frame_index.proofs.ToldLemmas.{WhereTold-weaker}
use Rattle.station_stream.specs.declared.thread_frames.ThreadFrames.{ThreadFrames}
use Rattle.station_stream.specs.ThreadFrames.{Reach}
use Rattle.station_stream.proofs.ThreadLemmas.{BeginsAt-place, Reach-read, chan_sample-read}
use Rattle.station_stream.proofs.thread_frames.ThreadFrames.read.Goals as goal

pub fill-requires-clause-near : goal.fill-requires-clause-near
fill-requires-clause-near g c =
    (BeginsAt-place c.args.part.now c.args.first c.of-start.result c.slot_len.ensures.invariant c.requires.near_first c.of-start.ensures).near

pub returns-clause-reach : goal.returns-clause-reach
returns-clause-reach g c =
    let part = c.args.part.now in
    let begins = BeginsAt-place part c.args.first c.of-start.result c.slot_len.ensures.invariant c.requires.near_first c.of-start.ensures in
    let count : c.in_ok-there.there.len ≡ c.frames_up_to-count.result = first_of (search rules, omega (arith, c.in_ok-there.ensures.len)) in
    let size : c.in-Some.size ≡ c.frames_up_to-count.result * c.slot_len.result = first_of (search rules, grind (arith, common_steps)) in
    let total : c.in_ok-bytes.bytes.len ≡ c.in-Some.size = c.in_ok-bytes.bytes.ok.0 ∙ c.in_ok-bytes.ensures in
    Reach-read part c.args.first c.args.last c.of-start.result.start c.frames_up_to-count.result c.samples_per_frame.result
    (record {
      start = to_z w64 (of_z w64 c.of-start.result.start);
      there = with_items c.in_ok-there.there c.fill.new.there;
      bytes = with_items c.in_ok-bytes.bytes c.fill.new.bytes;
    }) begins refl
    (sym (with_items c.in_ok-there.there c.fill.new.there).ok.0 ∙ count)
    (sym (with_items c.in_ok-bytes.bytes c.fill.new.bytes).ok.0 ∙ total ∙ size ∙ ap (λ (n : ℕ). c.frames_up_to-count.result * n) c.slot_len.ensures.value)
    c.samples_per_frame.ensures.value c.requires.near_last c.frames_up_to-count.ensures.reach

pub returns-clause-levels : goal.returns-clause-levels
returns-clause-levels g c =
    let part = c.args.part.now in
    let begins = BeginsAt-place part c.args.first c.of-start.result c.slot_len.ensures.invariant c.requires.near_first c.of-start.ensures in
    let f : ThreadFrames = record {
      start = to_z w64 (of_z w64 c.of-start.result.start);
      there = with_items c.in_ok-there.there c.fill.new.there;
      bytes = with_items c.in_ok-bytes.bytes c.fill.new.bytes;
    } in
    let reach : Reach part.shape c.args.first c.args.last f = returns-clause-reach g c in
    let there : f.there.items ≡ c.fill.new.there =
    with_items_is c.in_ok-there.there c.fill.new.there (c.fill.auto.there ∙ ap length c.deref_mut.ensures.value ∙ sym c.in_ok-there.there.ok.0) in
    let bytes : f.bytes.items ≡ c.fill.new.bytes =
    with_items_is c.in_ok-bytes.bytes c.fill.new.bytes (c.fill.auto.bytes ∙ ap length c.deref_mut-2.ensures.value ∙ sym c.in_ok-bytes.bytes.ok.0) in
    WhereTold-weaker (g.F.Shelf.told c.args.shelf.now) _ _
    (λ told slots indexed chan is_chan same p low under.
    chan_sample-read told part chan c.args.first c.args.last p c.of-start.result.start c.args.thread f c.fill.new.there c.fill.new.bytes
    c.slot_len.ensures.invariant begins refl there bytes reach (slots indexed) same low under)
    c.in_ok-fill.ensures.slots
