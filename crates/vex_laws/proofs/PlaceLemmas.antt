-- The places of the faults of a text.
use Rattle.std.proofs.Common.{◌≡◌, ◌≢◌, ◌⊎◌, inl, inr, ℕ, ◌+◌, ◌<◌, ◌≤◌, Bool, true, false, cond, List, [], ◌∷◌, ◌++◌, length, get_or, None, Some, Option, is_some, IfSome, Result, IfErr, arith, refl, sym, ap, ◌∙◌, subst, append_assoc}
use Rattle.std.specs.List.{slice_split, onto_first}
use Rattle.std.proofs.Math.Seq.{get_or-append_seam}
use Rattle.std.proofs.lemmas.List.{length-append}
use Rattle.vex_lex.specs.declared.token.TokenKind.{TokenKind}
use Rattle.vex_lex.specs.declared.token.TokenKind.TheVariants.{Word, Quoted, Literal, Equals, Colon, Semicolon}
use Rattle.vex_lex.specs.declared.token.Token.{Token}
use Rattle.vex_lex.specs.declared.fault.LexKind.{LexKind}
use Rattle.vex_lex.specs.declared.fault.LexKind.TheVariants as lex
use Rattle.vex_lex.specs.Shapes.{OpensLiteral}
use Rattle.vex_lex.specs.Bytes.{HasByte}
use Rattle.vex_lex.specs.Grammar.{BreaksFrom, Lexes}
use Rattle.vex_lex.proofs.GrammarLaws.{cover_text}
use Rattle.vex_reader.specs.declared.file.Block.{Block}
use Rattle.vex_reader.specs.declared.file.VexFile.{VexFile}
use Rattle.vex_reader.specs.declared.fault.VexKind.{VexKind}
use Rattle.vex_reader.specs.declared.fault.VexKind.TheVariants.{Revision, OpenDef}
use Rattle.vex_reader.specs.declared.fault.VexFault.{VexFault}
use Rattle.vex_reader.specs.declared.shape.ItemKind.{ItemKind}
use Rattle.vex_reader.specs.declared.shape.ItemKind.TheVariants.{Def, Scan}
use Rattle.vex_reader.specs.declared.shape.Shape.{Shape}
use Rattle.vex_reader.specs.declared.shape.Shape.TheVariants.{Blank, Block as BlockShape, Begin, End, Entry, Other, Bad}
use Rattle.named_list.specs.Named.{named}
use Rattle.vex_reader.specs.Shapes.{is_sign}
use Rattle.vex_reader.specs.Reading.{Place, Before, Outside, InBlock, InItem, State, start, is_revision, is_kind, block_at, items_of, double, fault_at, fault_of, after, closed, ended, place_of, shape_at, unless, reading_from, reading}
use Rattle.vex_laws.specs.Places.{EndWithSemicolon, BeginsStatement, IsLexPlace, IsPlace, HasPlacedFault}

abbrev is_end : Token → Bool
is_end token = is_sign Semicolon token.kind

ends : (kind : TokenKind) → is_sign Semicolon kind ≡ true → kind ≡ Semicolon
ends Semicolon is = refl
ends Word is = absurd cc
ends Quoted is = absurd cc
ends Literal is = absurd cc
ends Equals is = absurd cc
ends Colon is = absurd cc

goes_on : (kind : TokenKind) → is_sign Semicolon kind ≡ false → kind ≢ Semicolon
goes_on kind is same = let P : TokenKind → Type 0 = λ k. is_sign Semicolon k ≡ false in absurd (let one : true ≡ false = subst P same is in cc)

lex_place : (text : List ℕ) (kind : LexKind) (from place : ℕ) → BreaksFrom text kind from place → IsLexPlace text kind place
lex_place text lex.OpenQuote from place broken = subst (HasByte 34 text) (sym broken.0) broken.1
lex_place text lex.OpenLiteral from place broken = subst (OpensLiteral text) (sym broken.0) broken.1
lex_place text lex.BadByte from place broken = broken.control
lex_place text lex.Memory from place broken = absurd broken

module _ (text : List ℕ) (tokens : List Token) (lexes : Lexes text tokens) where
  -- each statement of some, with tokens of its own, begins where one begins
  abbrev Begins : List Token → Type 0
  Begins [] = Unit {0}
  Begins (token ∷ _) = BeginsStatement text token.at

  abbrev AllBegin : List (List Token) → Type 0
  AllBegin [] = Unit {0}
  AllBegin (part ∷ parts) = Begins part × AllBegin parts

  abbrev AllBehind : List (List Token) → Type 0
  AllBehind [] = Unit {0}
  AllBehind (_ ∷ parts) = AllBegin parts

  abbrev IsSeam : List Token → Type 0
  IsSeam front = (front ≡ []) ⊎ EndWithSemicolon front

  inside : (front : List Token) (token : Token) (behind : List Token) → tokens ≡ front ++ token ∷ behind → token.at < length text
  inside front token behind cut =
      let cover = cover_text text tokens lexes in
      let long : length front < length tokens = rw cut (simp length-append (omega arith)) in
      let here : get_or tokens (length front) token ≡ token = ap (λ ts. get_or ts (length front) token) cut ∙ get_or-append_seam front token behind token in
      let some = subst (λ (t : Token). 0 < t.len) here (cover.some (length front) token long) in
      let within = subst (λ (t : Token). t.at + t.len ≤ length text) here (cover.within (length front) token long) in
      omega arith

  begun : (front : List Token) (token : Token) (behind : List Token) → tokens ≡ front ++ token ∷ behind → IsSeam front → is_end token ≡ false → BeginsStatement text token.at
  begun front token behind cut seam no_end = record {
    tokens = tokens;
    lexes = lexes;
    front = front;
    first = token;
    behind = behind;
    cut = cut;
    begins = seam;
    some = goes_on token.kind no_end;
    place = refl;
    within = inside front token behind cut;
  }

  onto_begin : (token : Token) (parts : List (List Token)) → Begins (token ∷ []) → AllBehind parts → AllBegin (onto_first token parts)
  onto_begin token [] here behind = (here, tt)
  onto_begin token (part ∷ parts) here behind = (here, behind)

  onto_behind : (token : Token) (parts : List (List Token)) → AllBehind parts → AllBehind (onto_first token parts)
  onto_behind token [] behind = tt
  onto_behind token (part ∷ parts) behind = behind

  -- the statements from a place among the tokens on
  parts_begin : (rest front : List Token) → tokens ≡ front ++ rest → (IsSeam front → AllBegin (slice_split is_end rest)) × AllBehind (slice_split is_end rest)
  parts_begin [] front cut = (λ _. (tt, tt), tt)
  parts_begin (token ∷ rest) front cut =
      by (is_end token) refl (parts_begin rest (front ++ token ∷ []) (cut ∙ sym (append_assoc front (token ∷ []) rest)))
    where
      by : (b : Bool) → is_end token ≡ b → (IsSeam (front ++ token ∷ []) → AllBegin (slice_split is_end rest)) × AllBehind (slice_split is_end rest)
          → (IsSeam front → AllBegin (cond b ([] ∷ slice_split is_end rest) (onto_first token (slice_split is_end rest))))
          × AllBehind (cond b ([] ∷ slice_split is_end rest) (onto_first token (slice_split is_end rest)))
      by true e behind =
          let all = behind.0 (inr (record { front = front; last = token; cut = refl; sign = ends token.kind e })) in
          (λ _. (tt, all), all)
      by false e behind = (λ seam. onto_begin token (slice_split is_end rest) (begun front token rest cut seam e) behind.1, onto_behind token (slice_split is_end rest) behind.1)

  abbrev Placed : VexFault → Type 0
  Placed found = IsPlace text found.kind found.at

  -- the fault of a statement that begins there
  revision_place : (b : Bool) (at : ℕ) → BeginsStatement text at → IfSome (cond b None (Some Revision)) (λ kind. IsPlace text kind at)
  revision_place true at begins = tt
  revision_place false at begins = inl begins

  double_place : (b : Bool) (kind : ItemKind) (at : ℕ) → BeginsStatement text at → IfSome (cond b (Some (double kind)) None) (λ k. IsPlace text k at)
  double_place true Def at begins = begins
  double_place true Scan at begins = begins
  double_place false kind at begins = tt

  open_place : (b : Bool) (at : ℕ) → BeginsStatement text at → IfSome (cond b None (Some OpenDef)) (λ kind. IsPlace text kind at)
  open_place true at begins = tt
  open_place false at begins = inl begins

  statement_place : (blocks : List (List ℕ × Block)) (place : Place) (at : ℕ) (shape : Shape) → BeginsStatement text at → IfSome (fault_at blocks place shape) (λ kind. IsPlace text kind at)
  statement_place blocks place at Blank begins = tt
  statement_place blocks Before at (BlockShape name) begins = inl begins
  statement_place blocks Before at (Begin kind name) begins = inl begins
  statement_place blocks Before at (End kind) begins = inl begins
  statement_place blocks Before at (Entry entry) begins = revision_place (is_revision (Entry entry)) at begins
  statement_place blocks Before at Other begins = inl begins
  statement_place blocks Before at Bad begins = inl begins
  statement_place blocks Outside at (BlockShape name) begins = tt
  statement_place blocks Outside at (Begin kind name) begins = begins
  statement_place blocks Outside at (End kind) begins = begins
  statement_place blocks Outside at (Entry entry) begins = begins
  statement_place blocks Outside at Other begins = tt
  statement_place blocks Outside at Bad begins = begins
  statement_place blocks (InBlock block) at (BlockShape name) begins = tt
  statement_place blocks (InBlock block) at (Begin kind name) begins = double_place (is_some (named (items_of kind (block_at blocks block)) name)) kind at begins
  statement_place blocks (InBlock block) at (End kind) begins = begins
  statement_place blocks (InBlock block) at (Entry entry) begins = tt
  statement_place blocks (InBlock block) at Other begins = tt
  statement_place blocks (InBlock block) at Bad begins = begins
  statement_place blocks (InItem block kind name item) at (BlockShape other) begins = inl begins
  statement_place blocks (InItem block kind name item) at (Begin begun named) begins = inl begins
  statement_place blocks (InItem block kind name item) at (End other) begins = open_place (is_kind kind other) at begins
  statement_place blocks (InItem block kind name item) at (Entry entry) begins = tt
  statement_place blocks (InItem block kind name item) at Other begins = tt
  statement_place blocks (InItem block kind name item) at Bad begins = begins

  part_place : (state : State) (part : List Token) → Begins part → IfSome (fault_of state (shape_at text part)) (λ kind. IsPlace text kind (place_of part))
  part_place state [] begins = tt
  part_place state (token ∷ rest) begins = statement_place state.blocks state.place token.at (shape_at text (token ∷ rest)) begins

  -- the fault of the text's end
  closed_place : (blocks : List (List ℕ × Block)) (place : Place) → IfErr (closed (length text) blocks place) Placed
  closed_place blocks Before = inr refl
  closed_place blocks Outside = tt
  closed_place blocks (InBlock block) = tt
  closed_place blocks (InItem block kind name item) = inr refl

  end_place : (state : State) (part : List Token) → Begins part → IfErr (ended (length text) state part) Placed
  end_place state [] begins = closed_place state.blocks state.place
  end_place state (token ∷ rest) begins = begins

  unless_place : (found : Option VexKind) (at : ℕ) (answer : Result VexFile VexFault) → IfSome found (λ kind. IsPlace text kind at) → IfErr answer Placed
      → IfErr (unless found at answer) Placed
  unless_place None at answer here behind = behind
  unless_place (Some kind) at answer here behind = here

  reading_place : (state : State) (parts : List (List Token)) → AllBegin parts → IfErr (reading_from text state parts) Placed
  reading_place state [] all = end_place state [] tt
  reading_place state (part ∷ []) all = end_place state part all.0
  reading_place state (part ∷ next ∷ parts) all =
      unless_place (fault_of state (shape_at text part)) (place_of part) (reading_from text (after state (place_of part) (shape_at text part)) (next ∷ parts))
      (part_place state part all.0)
      (reading_place (after state (place_of part) (shape_at text part)) (next ∷ parts) all.1)

  tokens_place : IfErr (reading text tokens) Placed
  tokens_place = reading_place start (slice_split is_end tokens) ((parts_begin tokens [] refl).0 (inl refl))

pub placed_fault : (text : List ℕ) → HasPlacedFault text
placed_fault text found (inl broken) =
    subst (λ kind. IsPlace text kind found.at) (sym broken.kind) (lex_place text broken.rule broken.breaks.from found.at broken.breaks.broken)
placed_fault text found (inr told) = subst (λ answer. IfErr answer (Placed text told.tokens told.lexes)) told.says (tokens_place text told.tokens told.lexes)
