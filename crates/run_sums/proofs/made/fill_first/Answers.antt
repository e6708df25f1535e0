use Rattle.std.proofs.Common.{◌≡◌, ◌∙◌, ℕ, List, sym, ap, subst, length}
use Rattle.epoch_run.proofs.PlaneValues.{kept_items}
use Rattle.run_sums.specs.Frames.{IsStretch}
use Rattle.run_sums.proofs.made.fill_first.Goals as goal

pub returns-clause-made : goal.returns-clause-made
returns-clause-made g c =
    let size : length c.fill_on.new.codes ≡ length c.args.first.now.items = c.fill_on.auto.codes ∙ ap (λ (xs : List ℕ). length xs) c.deref_mut.ensures.value in
    subst (IsStretch c.args.making.now 0 0) (sym (kept_items c.args.first.now c.fill_on.new.codes size)) c.fill_on.ensures.made
