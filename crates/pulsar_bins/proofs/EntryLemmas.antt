-- Whether a phase begins at a second, by the one in force at it.
use Rattle.std.proofs.Common.{◌≡◌, ◌≢◌, Bool, true, false, List, get_or, refl, sym, ◌∙◌, ap, arith}
use Rattle.std.specs.Prelude.{Option, Some, ℤ, ◌<ℤ◌, ◌≤ℤ◌}
use Rattle.std.specs.List.{All, list_any}
use Rattle.std.specs.Ordering.{int_eq}
use Rattle.std.proofs.lemmas.Int.{ints}
use Rattle.std.proofs.lemmas.Bool.Decides.{Decides-int_eq}
use Rattle.std.proofs.lemmas.List.Folds.{list_any_none, list_any_at}
use Rattle.std.proofs.lemmas.List.Elements.{All-weaker}
use Rattle.entry_list.specs.Latest.{IsLatest}
use Rattle.delay_poly.specs.declared.entry.PolyEntry.{PolyEntry}
use Rattle.corr_model.specs.Delay.{poly_second}
use Rattle.job_lines.proofs.SecondLemmas.{fails, differs}
use Rattle.pulsar_bins.specs.Faults.{is_taken}

module _ (entries : List PolyEntry) (t : ℤ) where
  abbrev at : PolyEntry → Bool
  at e = int_eq e.second t

  apart : (e : PolyEntry) → (e.second ≡ t → ⊥) → at e ≡ false
  apart e lacks = fails (at e) (e.second ≡ t) (Decides-int_eq e.second t) lacks

  -- where all begin later, none begins then
  later-none : All (λ (x : PolyEntry). t <ℤ x.second) entries → list_any at entries ≡ false
  later-none later =
      list_any_none at entries (All-weaker (λ (x : PolyEntry). t <ℤ x.second) (λ x. at x ≡ false) (λ x less. apart x (λ same. omega (arith, ints, less, same))) entries later)

  -- the one in force begins then, or none does
  latest-at : (e : PolyEntry) → IsLatest poly_second entries t e → list_any at entries ≡ at e
  latest-at e h = by (at e) refl
    where
      by : (b : Bool) → at e ≡ b → list_any at entries ≡ b
      by true here = list_any_at at entries h.among.0 e h.among.1 (ap at h.among.2 ∙ here)
      by false here =
          let lacks : e.second ≡ t → ⊥ = differs (at e) (e.second ≡ t) (Decides-int_eq e.second t) here in
          list_any_none at entries (All-weaker (λ (x : PolyEntry). x.second ≤ℤ t → x.second ≤ℤ e.second) (λ x. at x ≡ false)
          (λ x most. apart x (λ same.
          let up : t ≤ℤ e.second = let le : x.second ≤ℤ t = omega (arith, ints, same) in omega (arith, ints, same, most le) in
          lacks (omega (arith, ints, up, h.not_after))))
          entries h.latest)

  -- where none begins then, one of that second is added
  pub free-differs : list_any at entries ≡ false → All (λ (x : PolyEntry). x.second ≢ t) entries
  free-differs none = λ i d less same.
      let here : at (get_or entries i d) ≡ true = (Decides-int_eq (get_or entries i d).second t).1 same in
      let odd : list_any at entries ≡ true = list_any_at at entries i d less here in
      let both : true ≡ false = sym odd ∙ none in cc

  module _ (o : Option ℤ) (is : o ≡ Some t) where
    pub taken_by : (s : ℤ) (e : PolyEntry) (b : Bool) → s ≡ e.second → b ≡ int_eq s t → IsLatest poly_second entries t e → b ≡ is_taken o entries
    taken_by s e b same test latest = test ∙ ap (λ x. int_eq x t) same ∙ sym (latest-at e latest) ∙ ap (λ p. is_taken p entries) (sym is)

    pub none_by : All (λ (x : PolyEntry). t <ℤ x.second) entries → false ≡ is_taken o entries
    none_by later = sym (later-none later) ∙ ap (λ p. is_taken p entries) (sym is)
