-- A read into the rest of a buffer.
use Rattle.std.proofs.Common.{◌≡◌, ◌∙◌, sym, ap, ap₂, ℕ, ◌+◌, ◌-◌, ◌≤◌, List, ◌++◌, Option, length, take, drop, arith}
use Rattle.std.proofs.Math.Seq.{take-add}
use Rattle.std.proofs.lemmas.List.{take_at, drop_at, drop-drop, length-drop, length-take-le, take-append-le}
use Rattle.dev_traits.specs.Files.{bytes_of, ReadsAt}
use Rattle.shelf_stretch.specs.Fronts.{ReadsOn}

-- what a buffer has where a part from `done` on was written
take-written : (done n : ℕ) (old part rest : List ℕ) → done ≤ length old → n ≤ length part
    → take (done + n) (take done old ++ (part ++ rest)) ≡ take done old ++ take n part
take-written done n old part rest inside within =
    let front : length (take done old) ≡ done = length-take-le done old inside in
    take-add done n (take done old ++ (part ++ rest))
    ∙ ap₂ (λ (x : List ℕ) (y : List ℕ). x ++ y)
    (take_at (take done old) (part ++ rest) done front)
    (ap (take n) (drop_at (take done old) (part ++ rest) done front) ∙ take-append-le n part rest within)

pub ReadsOn-from : (file : Option (List ℕ)) (at done n : ℕ) (old mid part rest : List ℕ)
    → done ≤ length old → length mid ≡ length old - done → length part ≡ length mid
    → ReadsAt file (at + done) mid n part
    → ReadsOn (drop at (bytes_of file)) done old n (take done old ++ (part ++ rest))
ReadsOn-from file at done n old mid part rest inside middle same read = record {
  count = omega (arith, read.count, length-drop at (bytes_of file));
  front = λ before.
      take-written done n old part rest inside (omega (arith, read.count))
      ∙ ap₂ (λ (x : List ℕ) (y : List ℕ). x ++ y) before (read.front ∙ ap (take n) (sym (drop-drop done at (bytes_of file))))
      ∙ sym (take-add done n (drop at (bytes_of file)));
}
