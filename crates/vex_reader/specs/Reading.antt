-- What the statements of a VEX text say, one after another.
use Rattle.std.specs.Prelude.{ℕ, Bool, true, false, ◌&&◌, List, [], ◌∷◌, ◌++◌, map, Option, None, Some, is_some, unwrap_or, Result, Ok, Err, codes, bytes_eq, length, if◌then◌else◌}
use Rattle.std.specs.List.{slice_split}
use Rattle.vex_lex.specs.declared.token.TokenKind.TheVariants.{Semicolon}
use Rattle.vex_lex.specs.declared.token.Token.{Token}
use Rattle.vex_reader.specs.declared.fault.VexKind.{VexKind}
use Rattle.vex_reader.specs.declared.fault.VexKind.TheVariants.{Revision, Statement as StatementKind, OpenDef, DoubleDef, DoubleScan, Outside as OutsideKind}
use Rattle.vex_reader.specs.declared.fault.VexFault.{VexFault}
use Rattle.vex_reader.specs.declared.file.Statement.{Statement}
use Rattle.vex_reader.specs.declared.file.Item.{Item}
use Rattle.vex_reader.specs.declared.file.Block.{Block}
use Rattle.vex_reader.specs.declared.file.VexFile.{VexFile}
use Rattle.vex_reader.specs.declared.shape.ItemKind.{ItemKind}
use Rattle.vex_reader.specs.declared.shape.ItemKind.TheVariants.{Def, Scan}
use Rattle.vex_reader.specs.declared.shape.Shape.{Shape}
use Rattle.vex_reader.specs.declared.shape.Shape.TheVariants.{Blank, Block as BlockShape, Begin, End, Entry, Other, Bad}
use Rattle.named_list.specs.Named.{named, put}
use Rattle.vex_reader.specs.Shapes.{mark_of, shape_of, is_sign}

-- Where a text's reading stands: no statement has counted yet; before any block; in the block of a name; in a def or scan
-- of that block, with its kind, its name, and what it has so far.
pub data Place : Type 0 where
  Before : Place
  Outside : Place
  InBlock : List ℕ → Place
  InItem : List ℕ → ItemKind → List ℕ → Item → Place

-- The blocks so far by their names, and the place.
pub record State : Type 0 where
  pub blocks : List (List ℕ × Block)
  pub place : Place

-- The state before a text.
abbrev pub start : State
start = record { blocks = []; place = Before }

-- Whether there is one value, of this one word.
abbrev pub is_one_word : List (List (List ℕ)) → List ℕ → Bool
is_one_word ((word ∷ []) ∷ []) wanted = bytes_eq word wanted
is_one_word _ wanted = false

-- The revision is the assignment of the one word `1.5` to `VEX_rev`.
abbrev pub is_revision : Shape → Bool
is_revision (Entry entry) = bytes_eq entry.key (codes "VEX_rev") && is_one_word entry.values (codes "1.5")
is_revision _ = false

-- Whether two are both defs or both scans.
abbrev pub is_kind : ItemKind → ItemKind → Bool
is_kind Def Def = true
is_kind Scan Scan = true
is_kind _ _ = false

-- A block in which nothing stands.
abbrev pub empty_block : Block
empty_block = record { loose = []; defs = []; scans = [] }

-- The block of a name as it is so far, empty where it is not there.
abbrev pub block_at : List (List ℕ × Block) → List ℕ → Block
block_at blocks name = unwrap_or (named blocks name) empty_block

-- The defs or the scans of a block.
abbrev pub items_of : ItemKind → Block → List (List ℕ × Item)
items_of Def block = block.defs
items_of Scan block = block.scans

-- The fault of a name that is there twice.
abbrev pub double : ItemKind → VexKind
double Def = DoubleDef
double Scan = DoubleScan

-- The fault of a statement before any block: all but a block is outside.
abbrev pub outside_fault : Shape → Option VexKind
outside_fault (BlockShape _) = None
outside_fault _ = Some OutsideKind

-- The fault of a statement in a block: no def or scan is open that could end, and a name of a def or a scan is not there twice.
abbrev pub block_fault : Block → Shape → Option VexKind
block_fault block (Begin kind name) = if is_some (named (items_of kind block) name) then Some (double kind) else None
block_fault block (End _) = Some OutsideKind
block_fault _ _ = None

-- The fault of a statement in a def or a scan: it goes on, and ends by its own word.
abbrev pub item_fault : ItemKind → Shape → Option VexKind
item_fault kind (End other) = if is_kind kind other then None else Some OpenDef
item_fault _ (Entry _) = None
item_fault _ _ = Some OpenDef

-- The fault of a statement, if it has one.
abbrev pub fault_at : List (List ℕ × Block) → Place → Shape → Option VexKind
fault_at blocks place Blank = None
fault_at blocks Before shape = if is_revision shape then None else Some Revision
fault_at blocks place Bad = Some StatementKind
fault_at blocks place Other = None
fault_at blocks Outside shape = outside_fault shape
fault_at blocks (InBlock block) shape = block_fault (block_at blocks block) shape
fault_at blocks (InItem _ kind _ _) shape = item_fault kind shape

-- The same, in a state.
abbrev pub fault_of : State → Shape → Option VexKind
fault_of state shape = fault_at state.blocks state.place shape

-- The blocks with a change of one, which is there from then on.
abbrev pub changed : List (List ℕ × Block) → List ℕ → (Block → Block) → List (List ℕ × Block)
changed blocks name change = put blocks name (change (block_at blocks name))

-- A block with one more statement outside its defs and scans.
abbrev pub with_loose : Statement → Block → Block
with_loose entry block = record block { loose = block.loose ++ entry ∷ [] }

-- A block with one more def or scan.
abbrev pub with_item : ItemKind → List ℕ → Item → Block → Block
with_item Def name item block = record block { defs = put block.defs name item }
with_item Scan name item block = record block { scans = put block.scans name item }

-- A def or a scan with one more statement.
abbrev pub with_statement : Statement → Item → Item
with_statement entry item = record item { statements = item.statements ++ entry ∷ [] }

-- The state behind a statement that begins at this byte. The first that counts says the revision and nothing else.
abbrev pub after_at : List (List ℕ × Block) → Place → ℕ → Shape → State
after_at blocks Before at Blank = record { blocks = blocks; place = Before }
after_at blocks Before at _ = record { blocks = blocks; place = Outside }
after_at blocks Outside at (BlockShape name) = record { blocks = changed blocks name (λ block. block); place = InBlock name }
after_at blocks (InBlock _) at (BlockShape name) = record { blocks = changed blocks name (λ block. block); place = InBlock name }
after_at blocks (InBlock block) at (Begin kind name) =
    record { blocks = blocks; place = InItem block kind name (record { at = at; statements = [] }) }
after_at blocks (InBlock block) at (Entry entry) = record { blocks = changed blocks block (with_loose entry); place = InBlock block }
after_at blocks (InItem block kind name item) at (Entry entry) =
    record { blocks = blocks; place = InItem block kind name (with_statement entry item) }
after_at blocks (InItem block kind name item) at (End _) =
    record { blocks = changed blocks block (with_item kind name item); place = InBlock block }
after_at blocks place at _ = record { blocks = blocks; place = place }

-- The same, of a state.
abbrev pub after : State → ℕ → Shape → State
after state at shape = after_at state.blocks state.place at shape

-- The answer where the text ends with no tokens left.
abbrev pub closed : ℕ → List (List ℕ × Block) → Place → Result VexFile VexFault
closed end blocks Before = Err (record { kind = Revision; at = end })
closed end blocks (InItem _ _ _ _) = Err (record { kind = OpenDef; at = end })
closed end blocks _ = Ok (record { blocks = blocks })

-- The answer where the text ends with these tokens behind its last semicolon.
abbrev pub ended : ℕ → State → List Token → Result VexFile VexFault
ended end state [] = closed end state.blocks state.place
ended end state (token ∷ _) = Err (record { kind = StatementKind; at = token.at })

-- A statement is where its first token is.
abbrev pub place_of : List Token → ℕ
place_of [] = 0
place_of (token ∷ _) = token.at

-- The shape of the statement of these tokens of a text.
abbrev pub shape_at : List ℕ → List Token → Shape
shape_at text tokens = shape_of (place_of tokens) (map (mark_of text) tokens)

-- This fault at the place, where there is one, else the answer behind it.
abbrev pub unless : Option VexKind → ℕ → Result VexFile VexFault → Result VexFile VexFault
unless (Some kind) at answer = Err (record { kind = kind; at = at })
unless None at answer = answer

-- The first of two answers where nothing is behind, else the second.
abbrev pub if_last : {A R : Type 0} → List A → R → R → R
if_last [] last before = last
if_last (_ ∷ _) last before = before

-- The answer to what stands between the semicolons, from a state on. Each part but the last is a statement, and the last is what is left.
abbrev pub reading_from : List ℕ → State → List (List Token) → Result VexFile VexFault
reading_from text state [] = ended (length text) state []
reading_from text state (part ∷ parts) =
    if_last parts
    (ended (length text) state part)
    (unless (fault_of state (shape_at text part)) (place_of part) (reading_from text (after state (place_of part) (shape_at text part)) parts))

-- The answer to a text of these tokens: the file, or the first fault.
abbrev pub reading : List ℕ → List Token → Result VexFile VexFault
reading text tokens = reading_from text start (slice_split (λ token. is_sign Semicolon token.kind) tokens)
