-- The verdict on shards, integration by integration.
use Rattle.std.specs.Prelude.{fold, option_map, slice_get}
use Rattle.std.specs.Ordering.{int_eq}
use Rattle.std.specs.List.{range_with_len, enumerate_from}
use Rattle.std.proofs.Common.{◌≡◌, ◌∙◌, refl, sym, ap, subst, ℕ, zero, suc, ◌+◌, ◌<◌, ◌≤◌, Bool, true, ◌==◌, ◌&&◌, List, [], ◌∷◌, map, Option, Some, None, arith}
use Rattle.std.proofs.lemmas.Bool.{eq-eqb, cond-true}
use Rattle.std.proofs.lemmas.Bool.Decides.{Decides-int_eq}
use Rattle.corr_model.specs.declared.cell.Cell.{Cell}
use Rattle.piece_plan.specs.declared.job.ScanSize.{ScanSize}
use Rattle.piece_plan.specs.Epochs.{JobSizes, integration_count}
use Rattle.job_epochs.proofs.EachLemmas.{Each}
use Rattle.journal_image.specs.Image.{KeptEpoch}
use Rattle.shard_merge.specs.declared.fault.CellsDiffer.{CellsDiffer}
use Rattle.shard_merge.specs.declared.fault.MergeFault.{MergeFault}
use Rattle.shard_merge.specs.declared.fault.MergeFault.TheVariants.{Uncovered, Differs}
use Rattle.shard_merge.specs.Verdict.{integrations_in, Difference, same_cell, difference, earlier, first_difference, differ_in, verdict_on, verdict_at, verdict_from}
use Rattle.shard_merge.proofs.LawLists.{Each-flat_map-part, Each-map-part, Each-enumerate-part, Each-range-part}

same_cell-self : (c : Cell) → same_cell c c ≡ true
same_cell-self c =
    let re : int_eq c.re c.re ≡ true = (Decides-int_eq c.re c.re).1 refl in
    let im : int_eq c.im c.im ≡ true = (Decides-int_eq c.im c.im).1 refl in
    let count : (c.count == c.count) ≡ true = eq-eqb c.count c.count refl in
    ap (λ (b : Bool). b && (int_eq c.im c.im && (c.count == c.count))) re ∙ ap (λ (b : Bool). b && (c.count == c.count)) im ∙ count

-- cells do not differ from themselves
difference-self : (at : ℕ) (cells : List Cell) → difference at cells cells ≡ None
difference-self at [] = refl
difference-self at (c ∷ cells) =
    cond-true (same_cell c c) (difference (at + 1) cells cells) (Some (record { at = at; first = c; other = c })) (same_cell-self c)
    ∙ difference-self (at + 1) cells

first_difference-none : (first : List Cell) (others : List (List Cell)) → Each (λ (other : List Cell). other ≡ first) others
    → first_difference first others ≡ None
first_difference-none first [] same = refl
first_difference-none first (other ∷ others) same =
    ap (λ (d : Option Difference). fold (λ (least : Option Difference) row. earlier least (difference 0 first row)) d others)
    (ap (difference 0 first) (same 0 other refl) ∙ difference-self 0 first)
    ∙ first_difference-none first others (λ i row there. same (suc i) row there)

-- rows that are one do not differ
pub verdict_on-one : (job : JobSizes) (i : ℕ) (cells : List Cell) (rows : List (List Cell)) (d : CellsDiffer)
    → Each (λ (row : List Cell). row ≡ cells) rows → verdict_on job i rows ≡ Some (Differs d) → ⊥
verdict_on-one job i cells [] d one says =
    let never : ◌≡◌ {A = Option MergeFault} (Some (Uncovered i)) (Some (Differs d)) = says in
    cc
verdict_on-one job i cells (first ∷ others) d one says =
    let none : first_difference first others ≡ None =
    first_difference-none first others (λ k row there. one (suc k) row there ∙ sym (one 0 first refl)) in
    let never : ◌≡◌ {A = Option MergeFault} None (Some (Differs d)) =
    sym (ap (option_map (λ (e : Difference). Differs (differ_in job i e))) none) ∙ says in
    cc

-- some row is there
pub verdict_on-some : {X : Type 0} (job : JobSizes) (i : ℕ) (f : X → List Cell) (xs : List X) → verdict_on job i (map f xs) ≡ None
    → (x : X) × (rest : List X) × (xs ≡ x ∷ rest)
verdict_on-some job i f [] says =
    let never : ◌≡◌ {A = Option MergeFault} (Some (Uncovered i)) None = says in
    absurd (cc)
verdict_on-some job i f (x ∷ xs) says = (x, xs, refl)

module _ (job : JobSizes) (keeps : List (List KeptEpoch)) where
  verdict_from-later : (i : ℕ) (p : ℕ × ℕ) (places : List (ℕ × ℕ)) → verdict_at job keeps i p ≡ None
      → verdict_from job keeps i (p ∷ places) ≡ verdict_from job keeps (i + 1) places
  verdict_from-later i p places here = rw here

  verdict_from-here : (i : ℕ) (p : ℕ × ℕ) (places : List (ℕ × ℕ)) (fault : MergeFault) → verdict_at job keeps i p ≡ Some fault
      → verdict_from job keeps i (p ∷ places) ≡ Some fault
  verdict_from-here i p places fault here = rw here

  -- where no integration has a difference there is none
  pub verdict_from-agrees : (d : CellsDiffer) (i : ℕ) (places : List (ℕ × ℕ))
      → ((k : ℕ) (p : ℕ × ℕ) → verdict_at job keeps k p ≡ Some (Differs d) → ⊥) → verdict_from job keeps i places ≡ Some (Differs d) → ⊥
  verdict_from-agrees d i [] agree says =
      let never : ◌≡◌ {A = Option MergeFault} None (Some (Differs d)) = says in
      cc
  verdict_from-agrees d i (p ∷ places) agree says = by (verdict_from-agrees d (i + 1) places agree) (verdict_at job keeps i p) refl
    where
      by : (verdict_from job keeps (i + 1) places ≡ Some (Differs d) → ⊥) → (o : Option MergeFault) → verdict_at job keeps i p ≡ o → ⊥
      by rest None here = rest (sym (verdict_from-later i p places here) ∙ says)
      by rest (Some fault) here =
          agree i p (here ∙ sym (verdict_from-here i p places fault here) ∙ says)

  -- where the verdict is none it is none on each integration
  verdict_from-none : (i : ℕ) (places : List (ℕ × ℕ)) → verdict_from job keeps i places ≡ None
      → Each (λ (p : ℕ × ℕ). (k : ℕ) × (verdict_at job keeps k p ≡ None)) places
  verdict_from-none i [] says = λ j q there. absurd (cc)
  verdict_from-none i (p ∷ places) says = by (verdict_from-none (i + 1) places) (verdict_at job keeps i p) refl
    where
      by : (verdict_from job keeps (i + 1) places ≡ None → Each (λ (q : ℕ × ℕ). (k : ℕ) × (verdict_at job keeps k q ≡ None)) places)
          → (o : Option MergeFault) → verdict_at job keeps i p ≡ o
          → Each (λ (q : ℕ × ℕ). (k : ℕ) × (verdict_at job keeps k q ≡ None)) (p ∷ places)
      by rest None here zero q there =
          let same : p ≡ q = cc in
          subst (λ (r : ℕ × ℕ). (k : ℕ) × (verdict_at job keeps k r ≡ None)) same (i, here)
      by rest None here (suc j) q there =
          rest (sym (verdict_from-later i p places here) ∙ says) j q there
      by rest (Some fault) here j q there =
          let never : ◌≡◌ {A = Option MergeFault} (Some fault) None = sym (verdict_from-here i p places fault here) ∙ says in
          absurd (cc)

  pub verdict-none : (number m : ℕ) (size : ScanSize) → verdict_from job keeps 0 (integrations_in job) ≡ None
      → slice_get job.scans number ≡ Some size → size.first ≤ m → m < size.first + integration_count job size
      → (k : ℕ) × (verdict_at job keeps k (number, m) ≡ None)
  verdict-none number m size says there low high =
      let P : ℕ × ℕ → Type 0 = λ p. (k : ℕ) × (verdict_at job keeps k p ≡ None) in
      let of_scan : ℕ × ScanSize → List (ℕ × ℕ) =
      λ s. map (λ (j : ℕ). (s.0, j)) (range_with_len s.1.first (integration_count job s.1)) in
      let each : Each P (integrations_in job) = verdict_from-none 0 (integrations_in job) says in
      let scans : Each (λ (s : ℕ × ScanSize). Each P (of_scan s)) (enumerate_from 0 job.scans) =
      Each-flat_map-part P of_scan (enumerate_from 0 job.scans) each in
      let one : Each P (of_scan (0 + number, size)) =
      Each-enumerate-part (λ (s : ℕ × ScanSize). Each P (of_scan s)) 0 job.scans scans number size there in
      let all : Each (λ (j : ℕ). P (0 + number, j)) (range_with_len size.first (integration_count job size)) =
      Each-map-part P (λ (j : ℕ). (0 + number, j)) (range_with_len size.first (integration_count job size)) one in
      let here : 0 + number ≡ number = omega arith in
      subst (λ (n : ℕ). P (n, m)) here
      (Each-range-part (λ (j : ℕ). P (0 + number, j)) size.first (integration_count job size) all m low high)
