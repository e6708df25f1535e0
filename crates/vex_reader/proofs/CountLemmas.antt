-- A text has at least as many bytes as tokens, and at least as many tokens as scans.
use Rattle.std.proofs.Common.{◌≡◌, ℕ, ◌+◌, ◌-◌, ◌<◌, ◌≤◌, Bool, true, false, cond, List, [], ◌∷◌, ◌++◌, length, drop, None, Some, Ok, Err, arith, sym, ap, subst, bytes_eq, unwrap_or, length-append, length-drop}
use Rattle.std.specs.Prelude.{Option, Result, All, IfSome, IfOk}
use Rattle.std.specs.List.{slice_split}
use Rattle.std.proofs.lemmas.List.{length-take}
use Rattle.std.proofs.lemmas.List.Elements.{All-head, All-tail}
use Rattle.std.proofs.lemmas.List.Splits.{length-slice_split}
use Rattle.std.proofs.lemmas.List.Sums.{count_by-le-length}
use Rattle.vex_lex.specs.declared.token.Token.{Token}
use Rattle.vex_lex.specs.declared.token.TokenKind.TheVariants.{Semicolon}
use Rattle.vex_lex.specs.Laws.{put_together, CoverText}
use Rattle.vex_lex.specs.Shapes.{span}
use Rattle.vex_reader.specs.declared.fault.VexKind.{VexKind}
use Rattle.vex_reader.specs.declared.fault.VexFault.{VexFault}
use Rattle.vex_reader.specs.declared.file.Item.{Item}
use Rattle.vex_reader.specs.declared.file.Block.{Block}
use Rattle.vex_reader.specs.declared.file.VexFile.{VexFile}
use Rattle.vex_reader.specs.declared.shape.ItemKind.{ItemKind}
use Rattle.vex_reader.specs.declared.shape.ItemKind.TheVariants.{Def, Scan}
use Rattle.vex_reader.specs.declared.shape.Shape.{Shape}
use Rattle.vex_reader.specs.declared.shape.Shape.TheVariants.{Blank, Block as BlockShape, Begin, End, Entry}
use Rattle.named_list.specs.Named.{named, put}
use Rattle.vex_reader.specs.Grammar.{Answers}
use Rattle.vex_reader.specs.Counts.{HasAtMostScans}
use Rattle.vex_reader.specs.Shapes.{is_sign}
use Rattle.vex_reader.specs.Reading.{Place, Before, Outside, InBlock, InItem, State, start, empty_block, block_at, changed, with_loose, with_item, after_at, after, closed, ended, place_of, shape_at, fault_of, unless, reading_from, reading}
use Rattle.named_list.proofs.NamedLemmas.{named-put_at}

-- each token has a byte of its own
tokens_fit_from : (text : List ℕ) (from : ℕ) (tokens : List Token) → All (λ token. 0 < token.len) tokens → All (λ token. token.at + token.len ≤ length text) tokens
    → length tokens ≤ length (put_together text from tokens)
tokens_fit_from text from [] some within = omega arith
tokens_fit_from text from (t ∷ ts) some within =
    let one : 0 < t.len = All-head (λ token. 0 < token.len) t ts some in
    let inside : t.at + t.len ≤ length text = All-head (λ token. token.at + token.len ≤ length text) t ts within in
    let rest = tokens_fit_from text (t.at + t.len) ts (All-tail (λ token. 0 < token.len) t ts some) (All-tail (λ token. token.at + token.len ≤ length text) t ts within) in
    let long = length-append (span text from t.at) (span text t.at (t.at + t.len) ++ put_together text (t.at + t.len) ts) in
    let behind = length-append (span text t.at (t.at + t.len)) (put_together text (t.at + t.len) ts) in
    let width = length-take (t.at + t.len - t.at) (drop t.at text) in
    let left = length-drop t.at text in
    omega (arith, long, behind, width, left, rest)

pub tokens_fit : (text : List ℕ) (tokens : List Token) → CoverText text tokens → length tokens ≤ length text
tokens_fit text tokens cover = let whole = ap length cover.together in omega (arith, tokens_fit_from text 0 tokens cover.some cover.within, whole)

-- each block of some has at most `n` scans, empty where it is not there
abbrev pub Few : ℕ → List (List ℕ × Block) → Type 0
Few n blocks = (name : List ℕ) → length (block_at blocks name).scans ≤ n

few_more : (n : ℕ) (blocks : List (List ℕ × Block)) → Few n blocks → Few (n + 1) blocks
few_more n blocks few = λ name. let here = few name in omega (arith, here)

length-put : (xs : List (List ℕ × Item)) (name : List ℕ) (item : Item) → length (put xs name item) ≤ length xs + 1
length-put [] name item = omega arith
length-put (x ∷ xs) name item = by (bytes_eq x.0 name) (length-put xs name item)
  where
    by : (b : Bool) → length (put xs name item) ≤ length xs + 1 → length (cond b ((x.0, item) ∷ xs) (x ∷ put xs name item)) ≤ length (x ∷ xs) + 1
    by true rest = omega arith
    by false rest = omega (arith, rest)

-- a block with one more def or scan has at most one scan more
length-with_item : (kind : ItemKind) (name : List ℕ) (item : Item) (block : Block) → length (with_item kind name item block).scans ≤ length block.scans + 1
length-with_item Def name item block = omega arith
length-with_item Scan name item block = length-put block.scans name item

-- a change that adds a scan at most
few_changed : (n : ℕ) (blocks : List (List ℕ × Block)) (name : List ℕ) (change : Block → Block) → Few n blocks → ((block : Block) → length (change block).scans ≤ length block.scans + 1)
    → Few (n + 1) (changed blocks name change)
few_changed n blocks name change few adds = λ other.
    let at = ap (λ o. length (unwrap_or o empty_block).scans) (named-put_at blocks name (change (block_at blocks name)) other) in
    subst (λ m. m ≤ n + 1) (sym at) (by (bytes_eq name other) other)
  where
    by : (b : Bool) (other : List ℕ) → length (unwrap_or (cond b (Some (change (block_at blocks name))) (named blocks other)) empty_block).scans ≤ n + 1
    by true other = let here = few name in let more = adds (block_at blocks name) in omega (arith, here, more)
    by false other = let here = few other in omega (arith, here)

same_scans : (block : Block) → length block.scans ≤ length block.scans + 1
same_scans block = omega arith

-- a statement adds a scan at most
few_after : (n : ℕ) (blocks : List (List ℕ × Block)) (place : Place) (at : ℕ) (shape : Shape) → Few n blocks → Few (n + 1) (after_at blocks place at shape).blocks
few_after n blocks Before at Blank few = few_more n blocks few
few_after n blocks Before at _ few = few_more n blocks few
few_after n blocks Outside at (BlockShape name) few = few_changed n blocks name (λ block. block) few same_scans
few_after n blocks (InBlock _) at (BlockShape name) few = few_changed n blocks name (λ block. block) few same_scans
few_after n blocks (InBlock block) at (Begin kind name) few = few_more n blocks few
few_after n blocks (InBlock block) at (Entry entry) few = few_changed n blocks block (with_loose entry) few same_scans
few_after n blocks (InItem block kind name item) at (Entry entry) few = few_more n blocks few
few_after n blocks (InItem block kind name item) at (End _) few = few_changed n blocks block (with_item kind name item) few (length-with_item kind name item)
few_after n blocks place at _ few = few_more n blocks few

few_closed : (end n : ℕ) (blocks : List (List ℕ × Block)) (place : Place) (file : VexFile) → Few n blocks → closed end blocks place ≡ Ok file → Few n file.blocks
few_closed end n blocks Before file few is = absurd cc
few_closed end n blocks Outside file few is = let same : blocks ≡ file.blocks = cc in subst (λ bs. Few n bs) same few
few_closed end n blocks (InBlock name) file few is = let same : blocks ≡ file.blocks = cc in subst (λ bs. Few n bs) same few
few_closed end n blocks (InItem block kind name item) file few is = absurd cc

few_ended : (end n : ℕ) (state : State) (left : List Token) (file : VexFile) → Few n state.blocks → ended end state left ≡ Ok file → Few n file.blocks
few_ended end n state [] file few is = few_closed end n state.blocks state.place file few is
few_ended end n state (token ∷ left) file few is = absurd cc

-- a reading has a scan more for each statement at most
few_reading : (text : List ℕ) (parts : List (List Token)) (state : State) (n : ℕ) (file : VexFile) → Few n state.blocks → reading_from text state parts ≡ Ok file
    → Few (n + (length parts - 1)) file.blocks
few_reading text [] state n file few is = let P : ℕ → Type 0 = λ m. Few m file.blocks in subst P (omega arith) (few_ended (length text) n state [] file few is)
few_reading text (part ∷ []) state n file few is = let P : ℕ → Type 0 = λ m. Few m file.blocks in subst P (omega arith) (few_ended (length text) n state part file few is)
few_reading text (part ∷ next ∷ parts) state n file few is =
    by (fault_of state (shape_at text part)) is (few_reading text (next ∷ parts) (after state (place_of part) (shape_at text part)) (n + 1) file (few_after n state.blocks state.place (place_of part) (shape_at text part) few))
  where
    by : (fault : Option VexKind) → unless fault (place_of part) (reading_from text (after state (place_of part) (shape_at text part)) (next ∷ parts)) ≡ Ok file
        → (reading_from text (after state (place_of part) (shape_at text part)) (next ∷ parts) ≡ Ok file → Few (n + 1 + (length (next ∷ parts) - 1)) file.blocks)
        → Few (n + (length (part ∷ next ∷ parts) - 1)) file.blocks
    by None is rest = let P : ℕ → Type 0 = λ m. Few m file.blocks in subst P (omega arith) (rest is)
    by (Some kind) is rest = absurd cc

few_named : (n : ℕ) (found : Option Block) → length (unwrap_or found empty_block).scans ≤ n → IfSome found (λ block. length block.scans ≤ n)
few_named n None few = tt
few_named n (Some block) few = few

-- the file of a text has at most as many scans in a block as the text has bytes
pub scans_fit : (text : List ℕ) (tokens : List Token) (file : VexFile) → CoverText text tokens → reading text tokens ≡ Ok file → HasAtMostScans (length text) file.blocks
scans_fit text tokens file cover is = λ name.
    let parts = slice_split (λ (token : Token). is_sign Semicolon token.kind) tokens in
    let few = few_reading text parts start 0 file (λ other. omega arith) is name in
    let many = length-slice_split (λ (token : Token). is_sign Semicolon token.kind) tokens in
    let some = count_by-le-length (λ (token : Token). is_sign Semicolon token.kind) tokens in
    let fit = tokens_fit text tokens cover in
    few_named (length text) (named file.blocks name) (omega (arith, few, many, some, fit))

-- so has the file of an answer
pub answer_fits : (text : List ℕ) (tokens : List Token) (answer : Result VexFile VexFault) → CoverText text tokens → Answers (reading text tokens) answer
    → IfOk answer (λ file. HasAtMostScans (length text) file.blocks)
answer_fits text tokens (Ok file) cover due = scans_fit text tokens file cover due
answer_fits text tokens (Err fault) cover due = tt
