use Rattle.std.specs.Vec.{with_items}
use Rattle.std.proofs.Common.{◌≡◌, ◌∙◌, ◌+◌, ◌<◌, ℕ, List, sym, ap, subst, length, get_or, arith}
use Rattle.epoch_run.proofs.PlaneValues.{kept_items}
use Rattle.run_sums.specs.Frames.{IsRowIn, IsStretch}
use Rattle.run_sums.proofs.MadeLemmas.{AreAllMade-done, AreDone-next, AreDone-none}
use Rattle.run_sums.proofs.made.fill_each.Goals as goal

pub loop-i-init : goal.loop-i-init
loop-i-init g c = AreDone-none c.args.making.now c.args.first c.args.rows.now c.requires.long

pub loop-i-preserved : goal.loop-i-preserved
loop-i-preserved g c =
    let m = c.args.making.now in
    let i = c.loop-i.i in
    let rows = c.loop-i.rows in
    let inside : i < length rows = omega (arith, c.loop-i-test.true, c.loop-i.auto.rows) in
    let codes = c.fill_stretch.new.codes in
    let old = get_or rows i c.index-rows-i.result in
    let size : length codes ≡ length old.items = c.fill_stretch.auto.codes ∙ ap (λ (xs : List ℕ). length xs) c.deref_mut.ensures.value in
    let kept = kept_items old codes size in
    let was : IsRowIn m old = c.loop-i.invariant.long i c.index-rows-i.result inside in
    AreDone-next m c.args.first i rows (with_items old codes) inside
    (omega (arith, was, size, ap (λ (xs : List ℕ). length xs) kept))
    (subst (IsStretch m (c.args.first + i) 0) (sym kept) c.fill_stretch.ensures) c.loop-i.invariant

pub returns : goal.returns
returns g c = AreAllMade-done c.args.making.now c.args.first c.loop-i.i c.loop-i.rows (omega arith) c.loop-i.invariant
