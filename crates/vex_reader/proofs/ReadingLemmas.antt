-- The blocks with the open one among them.
use Rattle.std.proofs.Common.{◌≡◌, ℕ, ◌<◌, Bool, true, false, cond, List, [], ◌∷◌, length, refl, sym, ap, ◌∙◌, unwrap_or, None, Some, Result, Err}
use Rattle.std.specs.List.{slice_split, onto_first, position_or_len, before_first, after_first}
use Rattle.std.proofs.lemmas.List.Splits.{slice_split_first}
use Rattle.vex_lex.specs.declared.token.Token.{Token}
use Rattle.vex_lex.specs.declared.token.TokenKind.TheVariants.{Semicolon}
use Rattle.vex_reader.specs.declared.fault.VexFault.{VexFault}
use Rattle.vex_reader.specs.declared.file.Block.{Block}
use Rattle.vex_reader.specs.declared.file.VexFile.{VexFile}
use Rattle.named_list.specs.Named.{put}
use Rattle.vex_reader.specs.Shapes.{is_sign}
use Rattle.vex_reader.specs.Reading.{State, block_at, empty_block, changed, fault_of, after, ended, place_of, shape_at, unless, if_last, reading_from}
use Rattle.named_list.proofs.NamedLemmas.{named-put, put-put}
use Rattle.vex_reader.proofs.PartLemmas.{some_token, slice_split-last}

-- the block that is open
pub block_at_put : (blocks : List (List ℕ × Block)) (name : List ℕ) (block : Block) → block_at (put blocks name block) name ≡ block
block_at_put blocks name block = ap (λ found. unwrap_or found empty_block) (named-put blocks name block)

-- a change of the block that is open
pub changed_put : (blocks : List (List ℕ × Block)) (name : List ℕ) (block : Block) (change : Block → Block) → changed (put blocks name block) name change ≡ put blocks name (change block)
changed_put blocks name block change =
    put-put blocks name block (change (block_at (put blocks name block) name))
    ∙ ap (λ now. put blocks name (change now)) (block_at_put blocks name block)

module _ {X R : Type 0} (p : X → Bool) (last before : R) where
  onto_is_some : (x : X) (parts : List (List X)) → if_last (onto_first x parts) last before ≡ before
  onto_is_some x [] = refl
  onto_is_some x (part ∷ parts) = refl

  -- a row has at least one part
  split_is_some : (xs : List X) → if_last (slice_split p xs) last before ≡ before
  split_is_some [] = refl
  split_is_some (x ∷ xs) = by (p x)
    where
      by : (b : Bool) → if_last (cond b ([] ∷ slice_split p xs) (onto_first x (slice_split p xs))) last before ≡ before
      by true = refl
      by false = onto_is_some x (slice_split p xs)

module _ (text : List ℕ) (state : State) where
  abbrev is_end : Token → Bool
  is_end token = is_sign Semicolon token.kind

  -- behind the last semicolon
  pub reading_last : (rest : List Token) → position_or_len is_end rest ≡ length rest → reading_from text state (slice_split is_end rest) ≡ ended (length text) state rest
  reading_last rest h = ap (reading_from text state) (slice_split-last is_end rest h)

  -- the first statement, and what is behind it
  pub reading_next : (rest statement behind : List Token)
      → (position_or_len is_end rest < length rest) × (statement ≡ before_first is_end rest) × (behind ≡ after_first is_end rest)
      → reading_from text state (slice_split is_end rest)
      ≡ unless (fault_of state (shape_at text statement)) (place_of statement) (reading_from text (after state (place_of statement) (shape_at text statement)) (slice_split is_end behind))
  reading_next rest statement behind part =
      ap (reading_from text state) (slice_split_first is_end rest some_token part.0 ∙ (λ i. sym part.1 i ∷ slice_split is_end (sym part.2 i)))
      ∙ split_is_some is_end (ended (length text) state statement)
      (unless (fault_of state (shape_at text statement)) (place_of statement) (reading_from text (after state (place_of statement) (shape_at text statement)) (slice_split is_end behind)))
      behind

  -- a statement with no fault
  pub reading_past : (rest statement behind : List Token) (next : State)
      → (position_or_len is_end rest < length rest) × (statement ≡ before_first is_end rest) × (behind ≡ after_first is_end rest)
      → fault_of state (shape_at text statement) ≡ None
      → next ≡ after state (place_of statement) (shape_at text statement)
      → reading_from text state (slice_split is_end rest) ≡ reading_from text next (slice_split is_end behind)
  reading_past rest statement behind next part none is_next =
      reading_next rest statement behind part
      ∙ ap (λ fault. unless fault (place_of statement) (reading_from text (after state (place_of statement) (shape_at text statement)) (slice_split is_end behind))) none
      ∙ ap (λ state. reading_from text state (slice_split is_end behind)) (sym is_next)

  -- a statement with a fault
  pub reading_stops : (rest statement behind : List Token) (fault : VexFault)
      → (position_or_len is_end rest < length rest) × (statement ≡ before_first is_end rest) × (behind ≡ after_first is_end rest)
      → (fault_of state (shape_at text statement) ≡ Some fault.kind) × (fault.at ≡ place_of statement)
      → reading_from text state (slice_split is_end rest) ≡ Err fault
  reading_stops rest statement behind fault part h =
      reading_next rest statement behind part
      ∙ ap (λ found. unless found (place_of statement) (reading_from text (after state (place_of statement) (shape_at text statement)) (slice_split is_end behind))) h.0
      ∙ ap (λ at. let found : Result VexFile VexFault = Err (record { kind = fault.kind; at = at }) in found) (sym h.1)
