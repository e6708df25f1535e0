-- Whether a second is among those of some entries, by the entry in force at it.
use Rattle.std.proofs.Common.{◌≡◌, ◌≢◌, ◌<◌, ℕ, Bool, true, false, List, length, get_or, refl, sym, ◌∙◌, ap, arith}
use Rattle.std.specs.Prelude.{Option, Some, ℤ, ◌<ℤ◌, ◌≤ℤ◌}
use Rattle.std.specs.List.{All, list_any}
use Rattle.std.specs.Ordering.{int_eq}
use Rattle.std.proofs.lemmas.Int.{ints}
use Rattle.std.proofs.lemmas.Bool.Decides.{Decides-int_eq}
use Rattle.std.proofs.lemmas.List.Folds.{list_any_none, list_any_at}
use Rattle.std.proofs.lemmas.List.Elements.{All-weaker}
use Rattle.entry_list.specs.Latest.{IsLatest}
use Rattle.job_lines.proofs.SecondLemmas.{fails, passes, differs}
use Rattle.job_text.specs.Faults.{is_taken}

module _ {E : Type 0} (second_of : E → ℤ) (entries : List E) (t : ℤ) where
  abbrev at : E → Bool
  at e = int_eq (second_of e) t

  apart : (e : E) → (second_of e ≡ t → ⊥) → at e ≡ false
  apart e lacks = fails (at e) (second_of e ≡ t) (Decides-int_eq (second_of e) t) lacks

  -- where all begin later, none begins then
  pub later-none : All (λ x. t <ℤ second_of x) entries → list_any at entries ≡ false
  later-none later = list_any_none at entries (All-weaker (λ x. t <ℤ second_of x) (λ x. at x ≡ false) (λ x less. apart x (λ same. omega (arith, ints, less, same))) entries later)

  -- the entry in force begins then, or none does
  pub latest-at : (e : E) → IsLatest second_of entries t e → list_any at entries ≡ at e
  latest-at e h = by (at e) refl
    where
      by : (b : Bool) → at e ≡ b → list_any at entries ≡ b
      by true here = list_any_at at entries h.among.0 e h.among.1 (ap at h.among.2 ∙ here)
      by false here =
          let lacks : second_of e ≡ t → ⊥ = differs (at e) (second_of e ≡ t) (Decides-int_eq (second_of e) t) here in
          list_any_none at entries (All-weaker (λ x. second_of x ≤ℤ t → second_of x ≤ℤ second_of e) (λ x. at x ≡ false)
          (λ x most. apart x (λ same.
          let up : t ≤ℤ second_of e = let le : second_of x ≤ℤ t = omega (arith, ints, same) in omega (arith, ints, same, most le) in
          lacks (omega (arith, ints, up, h.not_after))))
          entries h.latest)

  -- where none begins then, an entry of that second is added
  pub free-differs : list_any at entries ≡ false → All (λ x. second_of x ≢ t) entries
  free-differs none =
      All-from (λ i d less same.
      let odd : list_any at entries ≡ true = list_any_at at entries i d less (passes (at (get_or entries i d)) (second_of (get_or entries i d) ≡ t) (Decides-int_eq (second_of (get_or entries i d)) t) same) in
      let both : true ≡ false = sym odd ∙ none in cc)
    where
      All-from : ((i : ℕ) (d : E) → i < length entries → second_of (get_or entries i d) ≢ t) → All (λ x. second_of x ≢ t) entries
      All-from f = f

module _ {E : Type 0} (second_of : E → ℤ) (entries : List E) (t : ℤ) (o : Option ℤ) (is : o ≡ Some t) where
  pub taken_by : (s : ℤ) (e : E) (b : Bool) → s ≡ second_of e → b ≡ int_eq s t → IsLatest second_of entries t e → b ≡ is_taken second_of o entries
  taken_by s e b same test latest =
      test ∙ ap (λ x. int_eq x t) same ∙ sym (latest-at second_of entries t e latest) ∙ ap (λ p. is_taken second_of p entries) (sym is)

  pub none_by : All (λ x. t <ℤ second_of x) entries → false ≡ is_taken second_of o entries
  none_by later = sym (later-none second_of entries t later) ∙ ap (λ p. is_taken second_of p entries) (sym is)
