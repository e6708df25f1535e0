use Rattle.std.proofs.Common.{◌≡◌, ◌∙◌, ap, sym, subst, ℕ, ◌+◌, ◌*◌, ◌≤◌, ℤ, w64, length, arith, rules}
use Rattle.std.proofs.lemmas.Grind.{common_steps}
use Rattle.std.proofs.lemmas.Int.{ints, to_z-of_z}
use Rattle.std.proofs.lemmas.Nat.{mul-le}
use Rattle.vdif_frame.specs.Shape.{samples_per_frame}
use Rattle.frame_index.proofs.ToldLemmas.{WhereTold-always, WhereTold-weaker}
use Rattle.station_stream.specs.FrameSlots.{place_from, slot_at, IsRun}
use Rattle.station_stream.proofs.ThreadLemmas.{slot_of-none, slot_of-run, run_fits, AreSlots-none, AreSlots-run}
use Rattle.station_stream.proofs.frame_run.read_run.Goals as goal

pub run_len-n-requires-clause-near_end : goal.run_len-n-requires-clause-near_end
run_len-n-requires-clause-near_end g c =
    let spf = samples_per_frame c.args.part.now.shape in
    let under = mul-le (c.args.i + c.min.result) spf (length c.args.there.now) spf (grind (arith, common_steps)) (omega arith) in
    omega (arith, ints, under)

pub overflow_add-run : goal.overflow_add-run
overflow_add-run g c =
    let within : c.args.i + c.run_len-n.result ≤ length c.args.there.now = first_of (omega arith, grind (arith, common_steps)) in
    let fits = run_fits c.args.i c.run_len-n.result c.slot_len-size.result c.args.part.now.shape.frame_bytes (length c.args.there.now) (length c.args.bytes.now) c.slot_len-size.ensures.value within c.requires.room in
    first_of (omega (arith, fits), search (rules, fits), grind (arith, common_steps, fits))

pub slice_bounds-run-end : goal.slice_bounds-run-end
slice_bounds-run-end g c =
    let within : c.args.i + c.run_len-n.result ≤ length c.args.there.now = first_of (omega arith, grind (arith, common_steps)) in
    omega (arith, run_fits c.args.i c.run_len-n.result c.slot_len-size.result c.args.part.now.shape.frame_bytes (length c.args.there.now) (length c.args.bytes.now) c.slot_len-size.ensures.value within c.requires.room)

pub returns-in_default-clause-slots : goal.returns-in_default-clause-slots
returns-in_default-clause-slots g c =
    let none = ap (λ (z : ℤ). slot_at c.args.index.now c.args.part.now c.args.thread z c.args.i) (sym (to_z-of_z w64 c.args.start c.ranges.start)) ∙ sym c.find_slot.ensures ∙ c.in_default.is in
    WhereTold-always (g.F.Shelf.told c.args.shelf.now) _
    (λ told indexed. AreSlots-none told c.args.part.now c.args.thread c.args.start c.args.i c.args.there.now c.args.bytes.now c.requires.inside
    (slot_of-none told c.args.part.now c.args.index.now c.args.thread (place_from c.args.part.now c.args.start c.args.i) none indexed))

pub returns-clause-slots : goal.returns-clause-slots
returns-clause-slots g c =
    let part = c.args.part.now in
    let wide : ℕ = part.shape.frame_bytes in
    let within : c.args.i + c.run_len-n.result ≤ length c.args.there.now = first_of (omega arith, grind (arith, common_steps)) in
    let fits = run_fits c.args.i c.run_len-n.result c.slot_len-size.result wide (length c.args.there.now) (length c.args.bytes.now) c.slot_len-size.ensures.value within c.requires.room in
    let passed = to_z-of_z w64 c.args.start c.ranges.start in
    let long : length c.read_slot.new.slot ≡ c.run_len-n.result * c.slot_len-size.result = first_of (search rules, grind (arith, common_steps, fits)) in
    let run : IsRun c.args.index.now part c.args.thread c.args.start c.args.i c.in-Some.at wide c.run_len-n.result =
    subst (λ (n : ℕ). IsRun c.args.index.now part c.args.thread c.args.start c.args.i c.in-Some.at n c.run_len-n.result) c.slot_len-size.ensures.value
    (subst (λ (z : ℤ). IsRun c.args.index.now part c.args.thread z c.args.i c.in-Some.at c.slot_len-size.result c.run_len-n.result) passed c.run_len-n.ensures.run) in
    WhereTold-weaker (g.F.Shelf.told c.args.shelf.now) _ _
    (λ told reads indexed slots.
    AreSlots-run told part c.args.thread c.args.start c.args.i c.run_len-n.result _ c.slot_len-size.result c.in_ok-is_there.is_there c.args.there.now c.mark.new.there c.args.bytes.now c.read_slot.new.slot
    c.slot_len-size.ensures.value within c.requires.room (long ∙ ap (λ (m : ℕ). c.run_len-n.result * m) c.slot_len-size.ensures.value) c.mark.ensures.before c.mark.ensures.marked
    (slot_of-run told part c.args.index.now c.args.thread c.args.start c.args.i c.run_len-n.result c.in-Some.at _ c.read_slot.new.slot c.in_ok-is_there.is_there run c.run_len-n.ensures.some
    (sym c.read_slot.auto.slot ∙ long ∙ ap (λ (m : ℕ). c.run_len-n.result * m) c.slot_len-size.ensures.value) reads indexed)
    slots)
    c.in_ok-is_there.ensures.read
