-- Codes packed into a byte (VDIF 1.1.1, data array).
use Rattle.std.specs.Prelude.{ℕ, ◌+◌, ◌*◌, ◌^◌, List, [], ◌∷◌}

-- codes of so many bits as one number, the first of them in the lowest bits
abbrev pub packed : ℕ → List ℕ → ℕ
packed bits [] = 0
packed bits (code ∷ codes) = code + 2 ^ bits * packed bits codes
