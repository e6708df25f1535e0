use Rattle.std.proofs.Common.{◌≡◌, inl, inr, get_or, subst, arith}
use Rattle.std.proofs.lemmas.Bool.{cases_lt}
use Rattle.std.proofs.lemmas.List.{get_or_default}
use Rattle.epoch_run.specs.Planes.{IsNumbered}
use Rattle.epoch_run.proofs.run.are_numbered.Goals as goal

pub loop-pair-preserved : goal.loop-pair-preserved
loop-pair-preserved c k d h =
    let pairs = c.args.pairs.now in
    let i = c.loop-pair.pair-index in
    elim (cases_lt k i) [
      | inl q ↦ c.loop-pair.invariant k d q
      | inr q ↦
          let same : i ≡ k = omega (arith, h, q) in
          subst (λ j. IsNumbered (get_or pairs j d)) same
          (subst IsNumbered (get_or_default pairs i _ d c.loop-pair-test.true) c.is_numbered.ensures)
    ]

pub returns : goal.returns
returns c k d h = c.loop-pair.invariant k d (omega (arith, h))
