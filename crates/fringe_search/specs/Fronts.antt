-- The first wrong line of a text.
use Rattle.std.specs.Prelude.{◌≡◌, ◌≢◌, ℕ, ◌≤◌, List, [], ◌++◌, length}
use Rattle.vis_records.specs.Content.{Content}
use Rattle.fringe_search.specs.declared.grid.Grid.{Grid}
use Rattle.fringe_search.specs.Certificates.{Line, Due, AtGrid, AtPeak, line_text, lines_text, IsLine, AreLines, IsRight}

-- a text begins with lines that are the due ones and true, and goes on with `rest`, where `next` is due
pub record IsRead (content : Content) (due : Due) (text : List ℕ) (next : Due) (rest : List ℕ) : Type 0 where
  pub lines : List Line
  pub are : AreLines content due lines next
  pub is : text ≡ lines_text lines ++ rest

-- a text begins with no line that is the due one and true
abbrev pub IsStuck : Content → Due → List ℕ → Type 0
IsStuck content due text = (line : Line) (next : Due) (rest : List ℕ) → IsLine content due line next → text ≢ line_text line ++ rest

-- `at` bytes of a text are such lines
pub record IsFront (content : Content) (text : List ℕ) (at : ℕ) : Type 0 where
  pub next : Due
  pub rest : List ℕ
  pub read : IsRead content AtGrid text next rest
  pub at_is : at ≡ length (lines_text read.lines)

-- The first line that is not the due one or not true begins at `at`, or a line is due there and the text has ended: before it
-- stands the longest front of such lines, and the text is not right.
pub record IsWrongAt (content : Content) (text : List ℕ) (at : ℕ) : Type 0 where
  pub front : IsFront content text at
  pub longest : (more : ℕ) → IsFront content text more → more ≤ at
  pub wrong : ¬ IsRight content text

-- a text begins with such lines, and goes on with `rest`, which begins with no line that is the due one and true; where none is due,
-- it is not empty
pub record IsStopped (content : Content) (due : Due) (text rest : List ℕ) : Type 0 where
  pub next : Due
  pub read : IsRead content due text next rest
  pub stuck : IsStuck content next rest
  pub goes_on : (g : Grid) → next ≡ AtPeak g [] → rest ≢ []
