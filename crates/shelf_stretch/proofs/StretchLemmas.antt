-- Stretches that a file has whole.
use Rattle.std.proofs.Common.{◌≡◌, ◌∙◌, ap, ℕ, ◌+◌, ◌-◌, ◌≤◌, List, ◌++◌, length, take, drop, replicate, arith}
use Rattle.std.proofs.lemmas.List.{append-nil, length-drop, take_all}
use Rattle.shelf_stretch.specs.Stretch.{stretch}

pub stretch-inside : (at len : ℕ) (bytes : List ℕ) → at + len ≤ length bytes → stretch at len bytes ≡ take len (drop at bytes)
stretch-inside at len bytes inside =
    let none : len - length (drop at bytes) ≡ 0 = omega (arith, length-drop at bytes) in
    ap (λ (n : ℕ). take len (drop at bytes) ++ replicate n 0) none
    ∙ append-nil (take len (drop at bytes))

pub stretch-whole : (bytes : List ℕ) → stretch 0 (length bytes) bytes ≡ bytes
stretch-whole bytes = stretch-inside 0 (length bytes) bytes (omega arith) ∙ take_all (length bytes) bytes (omega arith)
