-- The rows of the table of statements: what each asks of a statement's tokens.
use Rattle.std.specs.Prelude.{◌≡◌, ◌≢◌, ◌⊎◌, ◌↔◌, ℕ, ◌||◌, true, false, List, [], ◌∷◌, codes, None, Some}
use Rattle.vex_lex.specs.declared.token.TokenKind.TheVariants.{Word, Literal, Equals}
use Rattle.vex_reader.specs.declared.file.Statement.{Statement}
use Rattle.vex_reader.specs.declared.shape.ItemKind.{ItemKind}
use Rattle.vex_reader.specs.declared.shape.ItemKind.TheVariants.{Def, Scan}
use Rattle.vex_reader.specs.declared.shape.Shape.{Shape}
use Rattle.vex_reader.specs.declared.shape.Shape.TheVariants.{Blank, Block, Begin, End, Entry, Other, Bad}
use Rattle.vex_reader.specs.Shapes.{Mark, is_block_name, is_keyword, are_values, values_of, shape_of}

-- A word that is no keyword and not `ref`, `=` and values.
pub record IsAssignment (at : ℕ) (marks : List Mark) (statement : Statement) : Type 0 where
  pub sign : List ℕ
  pub values : List Mark
  pub row : marks ≡ (Word, statement.key) ∷ (Equals, sign) ∷ values
  pub free : is_keyword statement.key ≡ false
  pub no_ref : statement.key ≢ codes "ref"
  pub plain : are_values values ≡ true
  pub place : statement.at ≡ at
  pub to_none : statement.target ≡ None
  pub says : statement.values ≡ values_of values

-- `ref`, the name of a block, `=` and values.
pub record IsRef (at : ℕ) (marks : List Mark) (statement : Statement) : Type 0 where
  pub target : List ℕ
  pub sign : List ℕ
  pub values : List Mark
  pub row : marks ≡ (Word, codes "ref") ∷ (Word, target) ∷ (Equals, sign) ∷ values
  pub block : is_block_name target ≡ true
  pub plain : are_values values ≡ true
  pub place : statement.at ≡ at
  pub key : statement.key ≡ codes "ref"
  pub to_block : statement.target ≡ Some target
  pub says : statement.values ≡ values_of values

-- The words by which defs and scans begin and end.
abbrev pub opening : ItemKind → List ℕ
opening Def = codes "def"
opening Scan = codes "scan"

abbrev pub closing : ItemKind → List ℕ
closing Def = codes "enddef"
closing Scan = codes "endscan"

-- The rows of the statements that say something, and of those that say nothing. The place is that of the statement.
abbrev pub Says : ℕ → List Mark → Shape → Type 0
Says at marks Blank = (marks ≡ []) ⊎ ((bytes : List ℕ) × (marks ≡ (Literal, bytes) ∷ []))
Says at marks (Block name) = (marks ≡ (Word, name) ∷ []) × (is_block_name name ≡ true)
Says at marks (Begin kind name) = marks ≡ (Word, opening kind) ∷ (Word, name) ∷ []
Says at marks (End kind) = marks ≡ (Word, closing kind) ∷ []
Says at marks (Entry statement) = IsAssignment at marks statement ⊎ IsRef at marks statement
Says at marks Other = ⊥
Says at marks Bad = ⊥

-- None of these rows fits.
abbrev pub FitsNone : ℕ → List Mark → Type 0
FitsNone at marks = (shape : Shape) → ¬ Says at marks shape

-- The first token is a keyword, or a word that names a block.
pub record BeginsReserved (marks : List Mark) : Type 0 where
  pub word : List ℕ
  pub rest : List Mark
  pub row : marks ≡ (Word, word) ∷ rest
  pub reserved : (is_keyword word || is_block_name word) ≡ true

-- All rows: where none of the others fits, the first token decides.
abbrev pub IsRow : ℕ → List Mark → Shape → Type 0
IsRow at marks Bad = FitsNone at marks × BeginsReserved marks
IsRow at marks Other = FitsNone at marks × (¬ BeginsReserved marks)
IsRow at marks shape = Says at marks shape

-- A statement has a shape exactly where the shape's row fits.
abbrev pub HasShapeOfRow : ℕ → List Mark → Shape → Type 0
HasShapeOfRow at marks shape = (shape_of at marks ≡ shape) ↔ IsRow at marks shape

-- A row fits, and no second one.
pub record FitsOneRow (at : ℕ) (marks : List Mark) : Type 0 where
  pub shape : Shape
  pub fits : IsRow at marks shape
  pub only : (other : Shape) → IsRow at marks other → shape ≡ other
