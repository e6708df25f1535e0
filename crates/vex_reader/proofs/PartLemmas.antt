-- The parts of a row of tokens.
use Rattle.std.proofs.Common.{◌≡◌, ℕ, ◌+◌, ◌<◌, Bool, true, false, cond, List, [], ◌∷◌, ◌++◌, map, length, refl, sym, ap, ◌∙◌, arith}
use Rattle.std.specs.List.{slice_split, onto_first, position_or_len, before_first, after_first}
use Rattle.std.proofs.lemmas.List.{append_assoc}
use Rattle.std.proofs.lemmas.List.Splits.{slice_split_none, slice_split_first}
use Rattle.std.proofs.lemmas.List.Sums.{fails_before_first}
use Rattle.vex_lex.specs.declared.token.Token.{Token}
use Rattle.vex_lex.specs.declared.token.TokenKind.TheVariants.{Word, Colon}
use Rattle.vex_lex.specs.Shapes.{span}
use Rattle.vex_reader.specs.Shapes.{mark_of, values_of, is_sign}

-- Without the sign the row is one part.
pub slice_split-last : {X : Type 0} (p : X → Bool) (xs : List X) → position_or_len p xs ≡ length xs → slice_split p xs ≡ xs ∷ []
slice_split-last p xs h = slice_split_none p xs (λ k d below. fails_before_first p xs k d (omega arith))

module _ {X Y : Type 0} (p : Y → Bool) (f : X → Y) where
  onto_first-map : (x : X) (parts : List (List X)) → onto_first (f x) (map (map f) parts) ≡ map (map f) (onto_first x parts)
  onto_first-map x [] = refl
  onto_first-map x (part ∷ parts) = refl

  cond-map : (b : Bool) (parts others : List (List X)) → cond b (map (map f) parts) (map (map f) others) ≡ map (map f) (cond b parts others)
  cond-map true parts others = refl
  cond-map false parts others = refl

  slice_split-map : (xs : List X) → slice_split p (map f xs) ≡ map (map f) (slice_split (λ x. p (f x)) xs)
  slice_split-map [] = refl
  slice_split-map (x ∷ xs) =
      (λ i. cond (p (f x)) ([] ∷ slice_split-map xs i) (onto_first (f x) (slice_split-map xs i)))
      ∙ (λ i. cond (p (f x)) ([] ∷ map (map f) (slice_split (λ y. p (f y)) xs)) (onto_first-map x (slice_split (λ y. p (f y)) xs) i))
      ∙ cond-map (p (f x)) ([] ∷ slice_split (λ y. p (f y)) xs) (onto_first x (slice_split (λ y. p (f y)) xs))

abbrev pub some_token : Token
some_token = record { kind = Word; at = 0; len = 0 }

module _ (text : List ℕ) where
  abbrev pub texts : List Token → List (List ℕ)
  texts = map (λ token. span text token.at (token.at + token.len))

  abbrev is_colon : Token → Bool
  is_colon token = is_sign Colon token.kind

  texts_of_marks : (tokens : List Token) → map (λ mark. mark.1) (map (mark_of text) tokens) ≡ texts tokens
  texts_of_marks [] = refl
  texts_of_marks (token ∷ tokens) = ap (λ rest. span text token.at (token.at + token.len) ∷ rest) (texts_of_marks tokens)

  -- Without a colon there is one value.
  pub values_of-last : (tokens : List Token) → position_or_len is_colon tokens ≡ length tokens → values_of (map (mark_of text) tokens) ≡ texts tokens ∷ []
  values_of-last tokens h =
      ap (map (map (λ mark. mark.1))) (slice_split-map (λ mark. is_sign Colon mark.0) (mark_of text) tokens ∙ ap (map (map (mark_of text))) (slice_split-last is_colon tokens h))
      ∙ ap (λ value. value ∷ []) (texts_of_marks tokens)

  -- The first value ends at the first colon.
  pub values_of-first : (tokens : List Token) → position_or_len is_colon tokens < length tokens
      → values_of (map (mark_of text) tokens) ≡ texts (before_first is_colon tokens) ∷ values_of (map (mark_of text) (after_first is_colon tokens))
  values_of-first tokens h =
      ap (map (map (λ mark. mark.1))) (slice_split-map (λ mark. is_sign Colon mark.0) (mark_of text) tokens ∙ ap (map (map (mark_of text))) (slice_split_first is_colon tokens some_token h))
      ∙ ap (λ value. value ∷ map (map (λ mark. mark.1)) (map (map (mark_of text)) (slice_split is_colon (after_first is_colon tokens)))) (texts_of_marks (before_first is_colon tokens))
      ∙ ap (λ parts. texts (before_first is_colon tokens) ∷ map (map (λ mark. mark.1)) parts) (sym (slice_split-map (λ mark. is_sign Colon mark.0) (mark_of text) (after_first is_colon tokens)))

  -- One value more is read.
  pub values_of-step : (values all : List (List (List ℕ))) (rest value behind : List Token)
      → (position_or_len is_colon rest < length rest) × (value ≡ before_first is_colon rest) × (behind ≡ after_first is_colon rest)
      → values ++ values_of (map (mark_of text) rest) ≡ all
      → (values ++ texts value ∷ []) ++ values_of (map (mark_of text) behind) ≡ all
  values_of-step values all rest value behind part h =
      append_assoc values (texts value ∷ []) (values_of (map (mark_of text) behind))
      ∙ ap (λ tokens. values ++ texts tokens ∷ values_of (map (mark_of text) behind)) part.1
      ∙ ap (λ tokens. values ++ texts (before_first is_colon rest) ∷ values_of (map (mark_of text) tokens)) part.2
      ∙ ap (λ parts. values ++ parts) (sym (values_of-first rest part.0))
      ∙ h
