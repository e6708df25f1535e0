-- A row of gates. A gate is one byte, and open where it is 1. Behind each open gate of the row stands a thing, and the
-- next gate comes directly after the thing. The last gate of a row is closed, or nothing more is due behind it.
use Rattle.std.specs.Prelude.{◌≡◌, ℕ, List, [], ◌∷◌, ◌++◌}

-- What is due decides which things fit and how their bytes read; a thing decides what is due after it.
module _ {S I : Type 0} (Fits : S → I → Type 0) (text : S → I → List ℕ) (next : S → I → S) (Ended : S → Type 0) where
  -- things that fit one after another, from what is due before the first to what is due behind the last
  abbrev pub Goes : S → List I → S → Type 0
  Goes due [] end = due ≡ end
  Goes due (i ∷ things) end = Fits due i × Goes (next due i) things end

  -- their bytes, each behind an open gate
  abbrev pub row_text : S → List I → List ℕ
  row_text due [] = []
  row_text due (i ∷ things) = 1 ∷ (text due i ++ row_text (next due i) things)

  -- Bytes that begin with a row of these things and its last gate. The bytes behind that gate may be any.
  pub record IsRow (due : S) (things : List I) (end : S) (bytes : List ℕ) : Type 0 where
    pub goes : Goes due things end
    pub gate : ℕ
    pub rest : List ℕ
    pub is : bytes ≡ row_text due things ++ (gate ∷ rest)
    pub stops : gate ≡ 1 → Ended end
