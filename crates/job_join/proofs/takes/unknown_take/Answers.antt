use Rattle.std.proofs.Common.{◌≡◌, ◌<◌, ℕ, Bool, true, false, not, is_some, Some, List, [], length, get_or, slice_get, ap, ◌∙◌, arith}
use Rattle.std.proofs.lemmas.List.{length-map}
use Rattle.std.proofs.lemmas.Option.{slice_get_within}
use Rattle.named_list.specs.Named.{named, names}
use Rattle.job_plan.proofs.FirstLemmas.{first-start, first-skip, first-found}
use Rattle.job_join.proofs.Sets.{get_or-names}
use Rattle.job_join.proofs.takes.unknown_take.Goals as goal

abbrev unknown : List (List ℕ × Unit {0}) → List ℕ → Bool
unknown scans name = not (is_some (named scans name))

pub loop-i-init : goal.loop-i-init
loop-i-init c = first-start (unknown c.args.scans.now) (names c.args.takes.now)

-- whether the take of a number is unknown
unknown-at : (takes scans : List (List ℕ × Unit {0})) (i : ℕ) (take : List ℕ × Unit {0}) (known : Bool) → slice_get takes i ≡ Some take → is_some (named scans take.0) ≡ known
    → (i < length (names takes)) × (unknown scans (get_or (names takes) i []) ≡ not known)
unknown-at takes scans i take known is has = (
  omega (arith, slice_get_within takes i take is, length-map takes (λ (x : List ℕ × Unit {0}). x.0)),
  ap (unknown scans) (get_or-names takes i take [] is) ∙ ap not has,
)

pub returns-then-not-has : goal.returns-then-not-has
returns-then-not-has c =
    let its = unknown-at c.args.takes.now c.args.scans.now c.loop-i.i (c.at.result.0.now, c.at.result.1.now) false c.at.ensures.entry cc in
    first-found (unknown c.args.scans.now) (names c.args.takes.now) _ c.loop-i.i [] its.0 its.1 c.loop-i.invariant

pub loop-i-preserved : goal.loop-i-preserved
loop-i-preserved c =
    let its = unknown-at c.args.takes.now c.args.scans.now c.loop-i.i (c.at.result.0.now, c.at.result.1.now) true c.at.ensures.entry cc in
    first-skip (unknown c.args.scans.now) (names c.args.takes.now) _ c.loop-i.i [] its.0 its.1 c.loop-i.invariant
