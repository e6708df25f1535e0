-- Where two integrations have different cells, and what is found in those of several shards.
use Rattle.std.specs.Prelude.{Option, None, Some, option_map}
use Rattle.std.proofs.Common.{◌≡◌, ◌∙◌, sym, ap, refl, ℕ, suc, ◌+◌, ◌≤◌, ◌<◌, true, false, List, [], ◌∷◌, ◌++◌, length, drop, get_or, arith}
use Rattle.std.proofs.Math.Seq.{drop-cons}
use Rattle.std.proofs.lemmas.List.{drop_all}
use Rattle.std.proofs.lemmas.List.Sums.{fold-append}
use Rattle.corr_model.specs.declared.cell.Cell.{Cell}
use Rattle.piece_plan.specs.Epochs.{JobSizes}
use Rattle.shard_merge.specs.declared.comparison.Place.{Place}
use Rattle.shard_merge.specs.declared.comparison.Found.{Found}
use Rattle.shard_merge.specs.declared.fault.MergeFault.TheVariants.{Uncovered, Differs}
use Rattle.shard_merge.specs.Verdict.{Difference, same_cell, difference, earlier, first_difference, differ_in, verdict_on}
use Rattle.shard_merge.specs.CompareSteps.{as_difference, Stands}

difference-cons_same : (at : ℕ) (c d : Cell) (cells others : List Cell) → same_cell c d ≡ true
    → difference at (c ∷ cells) (d ∷ others) ≡ difference (at + 1) cells others
difference-cons_same at c d cells others same = rw same refl

difference-cons_other : (at : ℕ) (c d : Cell) (cells others : List Cell) → same_cell c d ≡ false
    → difference at (c ∷ cells) (d ∷ others) ≡ Some (record { at = at; first = c; other = d })
difference-cons_other at c d cells others same = rw same refl

drop-next : (cells : List Cell) (at : ℕ) (c : Cell) → at < length cells → c ≡ get_or cells at c → drop at cells ≡ c ∷ drop (at + 1) cells
drop-next cells at c within is =
    let next : suc at ≡ at + 1 = omega arith in
    drop-cons cells at c within ∙ ap (λ (d : Cell). d ∷ drop (suc at) cells) (sym is) ∙ ap (λ n. c ∷ drop n cells) next

pub difference-drop_same : (first other : List Cell) (at : ℕ) (c d : Cell) → at < length first → at < length other
    → c ≡ get_or first at c → d ≡ get_or other at d → same_cell c d ≡ true
    → difference at (drop at first) (drop at other) ≡ difference (at + 1) (drop (at + 1) first) (drop (at + 1) other)
difference-drop_same first other at c d within also is is' same =
    ap (λ cells. difference at cells (drop at other)) (drop-next first at c within is)
    ∙ ap (λ cells. difference at (c ∷ drop (at + 1) first) cells) (drop-next other at d also is')
    ∙ difference-cons_same at c d (drop (at + 1) first) (drop (at + 1) other) same

pub difference-drop_other : (first other : List Cell) (at : ℕ) (c d : Cell) → at < length first → at < length other
    → c ≡ get_or first at c → d ≡ get_or other at d → same_cell c d ≡ false
    → difference at (drop at first) (drop at other) ≡ Some (record { at = at; first = c; other = d })
difference-drop_other first other at c d within also is is' same =
    ap (λ cells. difference at cells (drop at other)) (drop-next first at c within is)
    ∙ ap (λ cells. difference at (c ∷ drop (at + 1) first) cells) (drop-next other at d also is')
    ∙ difference-cons_other at c d (drop (at + 1) first) (drop (at + 1) other) same

pub difference-drop_none : (first other : List Cell) (at : ℕ) → length first ≤ at → difference at (drop at first) (drop at other) ≡ None
difference-drop_none first other at all = ap (λ cells. difference at cells (drop at other)) (drop_all at first all)

-- the first shard that covers the integration
pub Stands-first : (found next : Found) (first c : List Cell) (cells : List (List Cell)) → found.some ≡ false → Stands found first cells
    → next.some ≡ true → next.least ≡ None → Stands next c (cells ++ (c ∷ []))
Stands-first found next first c [] none stands some least = (some, refl, ap (option_map as_difference) least)
Stands-first found next first c (x ∷ xs) none stands some least = cc

first_difference-append : (x c : List Cell) (xs : List (List Cell))
    → first_difference x (xs ++ (c ∷ [])) ≡ earlier (first_difference x xs) (difference 0 x c)
first_difference-append x c xs = fold-append (λ (least : Option Difference) other. earlier least (difference 0 x other)) None xs (c ∷ [])

-- one that comes later
pub Stands-more : (found next : Found) (first c : List Cell) (cells : List (List Cell)) → found.some ≡ true → Stands found first cells
    → next.some ≡ true → option_map as_difference next.least ≡ earlier (option_map as_difference found.least) (difference 0 first c)
    → Stands next first (cells ++ (c ∷ []))
Stands-more found next first c [] some stands some' least = cc
Stands-more found next first c (x ∷ xs) some stands some' least = (
  some',
  stands.1,
  least
      ∙ ap (λ (place : Option Difference). earlier place (difference 0 first c)) stands.2
      ∙ ap (λ (cells : List Cell). earlier (first_difference x xs) (difference 0 cells c)) stands.1
      ∙ sym (first_difference-append x c xs),
)

pub Stands-uncovered : (job : JobSizes) (i : ℕ) (found : Found) (first : List Cell) (cells : List (List Cell)) → found.some ≡ false
    → Stands found first cells → verdict_on job i cells ≡ Some (Uncovered i)
Stands-uncovered job i found first [] none stands = refl
Stands-uncovered job i found first (x ∷ xs) none stands = cc

pub Stands-same : (job : JobSizes) (i : ℕ) (found : Found) (first : List Cell) (cells : List (List Cell)) → found.some ≡ true
    → found.least ≡ None → Stands found first cells → verdict_on job i cells ≡ None
Stands-same job i found first [] some least stands = cc
Stands-same job i found first (x ∷ xs) some least stands =
    ap (option_map (λ (d : Difference). Differs (differ_in job i d))) (sym stands.2 ∙ ap (option_map as_difference) least)

pub Stands-other : (job : JobSizes) (i : ℕ) (found : Found) (d : Place) (first : List Cell) (cells : List (List Cell)) → found.some ≡ true
    → found.least ≡ Some d → Stands found first cells → verdict_on job i cells ≡ Some (Differs (differ_in job i (as_difference d)))
Stands-other job i found d first [] some least stands = cc
Stands-other job i found d first (x ∷ xs) some least stands =
    ap (option_map (λ (d : Difference). Differs (differ_in job i d))) (sym stands.2 ∙ ap (option_map as_difference) least)
