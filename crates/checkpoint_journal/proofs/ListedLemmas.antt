-- The epochs that a journal keeps, listed one after another.
use Rattle.std.specs.Prelude.{slice_get}
use Rattle.std.specs.List.{AllZip}
use Rattle.std.proofs.Common.{◌≡◌, ◌∙◌, inr, ℕ, zero, suc, ◌+◌, ◌*◌, ◌<◌, ◌≤◌, min, List, [], ◌∷◌, ◌++◌, length, take, Some, None, refl, sym, ap, subst, arith}
use Rattle.std.proofs.lemmas.List.{take_all}
use Rattle.std.proofs.lemmas.List.FromFn.{take-map-range_with_len}
use Rattle.piece_plan.specs.Epochs.{JobSizes, IsJob, cell_count}
use Rattle.journal_image.specs.Image.{KeptEpoch, records, start, Reading, Reads}
use Rattle.journal_image.proofs.ThingLemmas.{some_same}
use Rattle.checkpoint_journal.specs.declared.finding.Found.{Found}
use Rattle.checkpoint_journal.specs.declared.listed.KeptAt.{KeptAt}
use Rattle.checkpoint_journal.specs.Cells.{cell_from, cells_at}
use Rattle.checkpoint_journal.specs.Finding.{due_of, IsEnd, IsFound}
use Rattle.checkpoint_journal.specs.Next.{HasMore}
use Rattle.checkpoint_journal.specs.Standing.{IsFirst, IsGate}
use Rattle.checkpoint_journal.specs.Listed.{IsKeptAt, Lists, TellsListed}
use Rattle.checkpoint_journal.proofs.GateLemmas.{first-IsGate}
use Rattle.checkpoint_journal.proofs.NextLemmas.{gate_within, gate_up_to}
use Rattle.checkpoint_journal.proofs.CursorLemmas.{covered_kept}

-- the first of so many cells, as many as there are
pub take-cells_at : (bytes : List ℕ) (at n : ℕ) → take n (cells_at bytes at n) ≡ cells_at bytes at n
take-cells_at bytes at n = take-map-range_with_len (λ (i : ℕ). cell_from bytes (at + 24 * i)) 0 n n (omega arith)

-- one more of each of two lists
zip_more : {A B : Type 0} (R : A → B → Type 0) (xs : List A) (ys : List B) (n : ℕ) (x : A) (y : B) → slice_get xs n ≡ Some x → AllZip R (take n xs) ys → R x y → AllZip R (take (suc n) xs) (ys ++ y ∷ [])
zip_more R [] ys n x y at zip both = cc
zip_more R (z ∷ xs) [] zero x y at zip both = (subst (λ w. R w y) (sym (some_same z x at)) both, tt)
zip_more R (z ∷ xs) (w ∷ ys) zero x y at zip both = absurd zip
zip_more R (z ∷ xs) [] (suc n) x y at zip both = absurd zip
zip_more R (z ∷ xs) (w ∷ ys) (suc n) x y at zip both = (zip.0, zip_more R xs ys n x y at zip.1 both)

-- a gate of what an image says, and the epochs before it, listed
pub record ListedTo (id : List ℕ) (job : JobSizes) (image : List ℕ) (r : Reading) (f : Found) (listed : List KeptAt) : Type 0 where
  pub gate : IsGate id job r f
  pub places : AllZip (IsKeptAt image) (take f.kept (records r.things)) listed

-- so it is where the image ends with this gate
abbrev pub IsListed : List ℕ → JobSizes → List ℕ → Found → Found → List KeptAt → Type 0
IsListed id job image last f listed = (r : Reading) → Reads id job image r → IsEnd id job r last → ListedTo id job image r f listed

module _ (id : List ℕ) (job : JobSizes) (image : List ℕ) (last : Found) where
  -- nothing stands before the first gate
  pub listed_none : (first here : Found) → first.old ≡ last.old → first.kept ≡ 0 → due_of first ≡ start job last.old → first.gate ≡ 1 + length id → here ≡ record first { gate = min first.gate last.gate } → IsListed id job image last here []
  listed_none first here old kept due gate is r reads end =
      let first_is : IsFirst id job first = record { kept = kept; gate = gate; due = due ∙ ap (start job) (sym old) } in
      let there : IsGate id job r first = first-IsGate id job r first first_is (old ∙ end.old) in
      let within : first.gate ≤ last.gate = omega (arith, end.gate, gate_within id job image r reads first there) in
      let here_kept : here.kept ≡ 0 = ap (λ (x : Found). x.kept) is ∙ kept in
      record {
        gate = gate_up_to id job r first here last.gate within is there;
        places = subst (λ (n : ℕ). AllZip (IsKeptAt image) (take n (records r.things)) []) (sym here_kept) tt;
      }

  -- one more epoch
  pub listed_more : (f g : Found) (a : KeptAt) (listed : List KeptAt) → f.kept < last.kept → g.kept ≡ f.kept + 1 → TellsListed job image f last.gate a g → IsListed id job image last f listed → IsListed id job image last g (listed ++ a ∷ [])
  listed_more f g a listed more kept tells before r reads end =
      let there = before r reads end in
      let has : HasMore id job image r f = record { reads = reads; gate = there.gate; more = omega (arith, end.kept, more) } in
      let read = tells id r has end.gate in
      let one : KeptEpoch = record { epoch = a.epoch; body = read.body } in
      let here : IsKeptAt image one a = record { epoch = refl; cells = sym (take-cells_at image a.at (cell_count a.epoch)) ∙ read.cells_are } in
      let count : suc f.kept ≡ g.kept = omega (arith, kept) in
      record {
        gate = read.gate;
        places = subst (λ (n : ℕ). AllZip (IsKeptAt image) (take n (records r.things)) (listed ++ a ∷ [])) count
            (zip_more (IsKeptAt image) (records r.things) listed f.kept one a read.at there.places here);
      }

  all_listed : (r : Reading) (f : Found) (listed : List KeptAt) → Reads id job image r → length (records r.things) ≤ f.kept → ListedTo id job image r f listed → Lists id job image listed
  all_listed r f listed reads all there = record {
    kept = records r.things;
    keeps = inr (r, reads, refl);
    places = subst (λ (l : List KeptEpoch). AllZip (IsKeptAt image) l listed) (take_all f.kept (records r.things) all) there.places;
  }

  -- as many were listed as the image keeps
  pub lists_all : (f : Found) (listed : List KeptAt) → last.kept ≤ f.kept → IsListed id job image last f listed → IsFound id job image last → Lists id job image listed
  lists_all f listed all before found = all_listed found.reading f listed found.reads (omega (arith, found.end.kept, all)) (before found.reading found.reads found.end)

  -- no place is due behind those that were listed
  pub lists_covered : (f : Found) (listed : List KeptAt) → IsJob job → f.next ≡ None → IsListed id job image last f listed → IsFound id job image last → Lists id job image listed
  lists_covered f listed is none before found =
      let there = before found.reading found.reads found.end in
      all_listed found.reading f listed found.reads (omega (arith, covered_kept id job image found.reading found.reads f there.gate is none)) there
