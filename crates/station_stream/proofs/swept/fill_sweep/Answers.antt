use Rattle.std.proofs.Common.{◌≡◌, ◌∙◌, ◌-◌, ◌+◌, ◌≤◌, ℕ, List, min, max, take, drop, length, arith}
use Rattle.std.proofs.lemmas.List.{length-take, length-drop}
use borrow.Rule.Slice.PartMut.{put_mid}
use Rattle.station_stream.specs.declared.threads.Threads.{Threads}
use Rattle.station_stream.specs.declared.window.Window.{Window}
use Rattle.station_stream.proofs.FillLemmas.{IsPut, IsPut-of}
use Rattle.station_stream.proofs.SweptLemmas.{AreFramesOf-at, values-put, beside-put}
use Rattle.station_stream.proofs.ValueLemmas.{value_of-frames}
use Rattle.station_stream.proofs.swept.fill_sweep.Goals as goal

-- the bytes of a sweep are put where its samples stand in the window
put_there : (w : Window) (t : Threads) (at to from upto : ℕ) (old mid : List ℕ)
    → w.from + at ≡ from → from ≡ min (max t.sweep.from w.from) (w.from + w.count) → w.from + to ≡ upto → upto ≡ min (max t.sweep.to w.from) (w.from + w.count)
    → length old ≡ w.count → t.sweep.from ≤ t.sweep.to → length mid ≡ length (take (to - at) (drop at old)) → IsPut at to old mid (put_mid at (to - at) old mid)
put_there w t at to from upto old mid at_is from_is to_is upto_is long swept same =
    let order : at ≤ to = omega (arith, at_is, from_is, to_is, upto_is, swept) in
    let inside : to ≤ length old = omega (arith, to_is, upto_is, long) in
    IsPut-of at to old mid order inside (omega (arith, same, length-take (to - at) (drop at old), length-drop at old, order, inside))

pub returns-clause-beside : goal.returns-clause-beside
returns-clause-beside c =
    let put = put_there c.args.window c.args.threads.now c.place-at.result c.place-to.result c.clip-from.result c.clip-upto.result c.args.codes.now c.fill_values.new.codes
    c.place-at.ensures c.clip-from.ensures c.place-to.ensures c.clip-upto.ensures c.requires.long c.requires.swept.order c.fill_values.auto.codes in
    beside-put c.args.window c.args.threads.now c.place-at.result c.place-to.result c.clip-from.result c.args.codes.now c.fill_values.new.codes _
    c.place-at.ensures c.clip-from.ensures (c.place-to.ensures ∙ c.clip-upto.ensures) c.requires.long c.requires.swept.order put

pub returns-clause-values : goal.returns-clause-values
returns-clause-values c = λ told swept.
    let t = c.args.threads.now in
    let mid = c.fill_values.new.codes in
    let put = put_there c.args.window c.args.threads.now c.place-at.result c.place-to.result c.clip-from.result c.clip-upto.result c.args.codes.now c.fill_values.new.codes
    c.place-at.ensures c.clip-from.ensures c.place-to.ensures c.clip-upto.ensures c.requires.long c.requires.swept.order c.fill_values.auto.codes in
    let last = c.place-to.ensures ∙ c.clip-upto.ensures in
    values-put told c.args.part.now c.args.chan.now c.args.window t c.place-at.result c.place-to.result c.clip-from.result c.args.codes.now mid _
    c.place-at.ensures c.clip-from.ensures last c.requires.long put
    (value_of-frames told c.args.part.now c.args.chan.now c.index.result.now t.sweep.first t.sweep.last c.clip-from.result (length mid) mid c.requires.chan
    (λ n low high. swept.lie n (omega (arith, low, high, put.count, c.place-at.ensures, last, c.clip-from.ensures))
    (omega (arith, low, high, put.count, c.place-at.ensures, last, c.clip-from.ensures)))
    (AreFramesOf-at told c.args.part.now t c.args.chan.now.thread c.place-place.result c.index.result.now swept.threads c.place-place.ensures.inside c.place-place.ensures.thread c.index.ensures)
    (λ k h. c.fill_values.ensures k (omega (arith, h, c.fill_values.auto.codes))))
