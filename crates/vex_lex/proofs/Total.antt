-- Every text has tokens or breaks a rule.
use Rattle.std.proofs.Common.{◌≡◌, ◌⊎◌, ℕ, zero, suc, ◌+◌, ◌-◌, ◌<◌, ◌≤◌, List, [], ◌∷◌, ◌++◌, length, take, drop, get_or, Bool, true, false, refl, subst, ⊎_elim, inl, inr, arith, add-zero}
use Rattle.std.proofs.str.Laws.{order}
use Rattle.std.proofs.lemmas.Bool.Decides.{Decides-eqb}
use Rattle.std.proofs.lemmas.Slice.Eq.{starts_is}
use Rattle.std.specs.Cmp.Lexicographic.{pointwise}
use Rattle.std.specs.Prelude.{nat_eq, codes}
use Rattle.vex_lex.specs.declared.token.TokenKind.{TokenKind}
use Rattle.vex_lex.specs.declared.token.TokenKind.TheVariants.{Word, Quoted, Literal, Equals, Colon, Semicolon}
use Rattle.vex_lex.specs.declared.token.Token.{Token}
use Rattle.vex_lex.specs.declared.fault.LexKind.{LexKind}
use Rattle.vex_lex.specs.declared.fault.LexKind.TheVariants.{OpenQuote, OpenLiteral, BadByte}
use Rattle.vex_lex.specs.Bytes.{IsWhite, IsSeparator, EndsWord, IsControl, HasByte, HasBytes}
use Rattle.vex_lex.specs.First.{NoneFrom, IsFirst}
use Rattle.vex_lex.specs.Shapes.{EndsComment, EndsWordAt, StopsWord, ClosesQuoted, IsQuoted, IsTag, OpensLiteral, ClosesLiteral, IsLiteral, span}
use Rattle.vex_lex.specs.Grammar.{IsGap, IsToken, LexesBetween, BreaksFrom}
use Rattle.vex_lex.specs.Grammar.IsGap.{none, white, comment}
use Rattle.vex_lex.proofs.Firsts.{NoneFrom-start, NoneFrom-next, NoneFrom-never, IsFirst-one}
use Rattle.vex_lex.specs.Laws.{HasTokensOrBreak}
use Rattle.vex_lex.proofs.Gaps.{EndsComment-within, IsGap-append, IsGap-forward}
use Rattle.vex_lex.proofs.Fronts.{token_of}
use Rattle.vex_lex.proofs.Literals.{ClosesLiteral-within, OpensLiteral-within}
use Rattle.vex_lex.proofs.TokenShapes.{StopsGap, IsToken-within}

-- A fact that holds or does not.
abbrev pub Decided : Type 0 → Type 0
Decided fact = fact ⊎ (¬ fact)

both : {A B : Type 0} → Decided A → Decided B → Decided (A × B)
both (inl a) (inl b) = inl (a, b)
both (inl a) (inr not_b) = inr (λ pair. not_b pair.1)
both (inr not_a) b = inr (λ pair. not_a pair.0)

either : {A B : Type 0} → Decided A → Decided B → Decided (A ⊎ B)
either (inl a) b = inl (inl a)
either (inr not_a) (inl b) = inl (inr b)
either (inr not_a) (inr not_b) = inr (λ one. ⊎_elim not_a not_b one)

not : {A : Type 0} → Decided A → Decided (¬ A)
not (inl a) = inr (λ not_a. not_a a)
not (inr not_a) = inl not_a

below : (a b : ℕ) → Decided (a < b)
below a b = ⊎_elim (λ less. inl less) (λ at_least. inr (λ less. omega arith)) (order a b)

same : (a b : ℕ) → Decided (a ≡ b)
same a b = ⊎_elim (λ less. inr (λ is. omega arith)) (λ at_least. ⊎_elim (λ less. inr (λ is. omega arith)) (λ at_most. inl (omega arith)) (order b a)) (order a b)

up_to : (a b : ℕ) → Decided (a ≤ b)
up_to a b = ⊎_elim (λ less. inr (λ is. omega arith)) (λ at_least. inl at_least) (order b a)

is_white : (byte : ℕ) → Decided (IsWhite byte)
is_white byte = either (both (up_to 9 byte) (up_to byte 13)) (same byte 32)

is_separator : (byte : ℕ) → Decided (IsSeparator byte)
is_separator byte = either (is_white byte) (either (same byte 61) (either (same byte 58) (same byte 59)))

ends_word : (byte : ℕ) → Decided (EndsWord byte)
ends_word byte = either (is_separator byte) (same byte 42)

is_control : (byte : ℕ) → Decided (IsControl byte)
is_control byte = either (both (below byte 32) (not (is_white byte))) (same byte 127)

has_byte : (byte : ℕ) (text : List ℕ) (place : ℕ) → Decided (HasByte byte text place)
has_byte byte text place = both (below place (length text)) (same (get_or text place 0) byte)

is_true : (b : Bool) → Decided (b ≡ true)
is_true true = inl refl
is_true false = inr (λ is. cc)

has_bytes : (bytes text : List ℕ) (place : ℕ) → Decided (HasBytes bytes text place)
has_bytes bytes text place =
    let begins = starts_is Decides-eqb (drop place text) bytes (pointwise nat_eq bytes (take (length bytes) (drop place text))) refl in
    ⊎_elim
    (λ equal. inl (drop (length bytes) (drop place text), begins.0 equal))
    (λ apart. inr (λ has. apart (begins.1 has.0 has.1)))
    (is_true (pointwise nat_eq bytes (take (length bytes) (drop place text))))

module _ (property : ℕ → Type 0) (decided : (place : ℕ) → Decided (property place)) where
  -- The first place among n, or none of them.
  first_of : (from n : ℕ) → ((place : ℕ) × IsFirst property from place × (place < from + n)) ⊎ NoneFrom property from (from + n)
  first_of from zero = inr (rw (add-zero from) (NoneFrom-start property from))
  first_of from (suc n) =
      ⊎_elim
      (λ found. inl (found.0, found.1, let near = found.2 in omega arith))
      (λ passed.
      ⊎_elim
      (λ here. inl (from + n, record { before = passed; here = here }, omega arith))
      (λ not_here. inr (subst (NoneFrom property from) (let next : from + n + 1 ≡ from + suc n = omega arith in next) (NoneFrom-next property from (from + n) passed not_here)))
      (decided (from + n)))
      (first_of from n)

  -- Where a place has the property, there is a first one.
  first_up_to : (from bound : ℕ) → from ≤ bound → property bound → (place : ℕ) × IsFirst property from place
  first_up_to from bound forward here =
      ⊎_elim
      (λ found. (found.0, found.1))
      (λ passed. absurd (passed.none bound (omega arith) forward here))
      (first_of from (bound - from + 1))

  -- Where all that have the property are below a bound, there is a first one or none.
  first_below : (from bound : ℕ) → from ≤ bound → ((place : ℕ) → property place → place < bound) → ((place : ℕ) × IsFirst property from place) ⊎ ((place : ℕ) → ¬ IsFirst property from place)
  first_below from bound forward within =
      ⊎_elim
      (λ found. inl (found.0, found.1))
      (λ passed. inr (NoneFrom-never property from bound (subst (NoneFrom property from) (let end : from + (bound - from) ≡ bound = omega arith in end) passed) within))
      (first_of from (bound - from))

-- A comment goes on past its `*`.
after_star : (text : List ℕ) (from end : ℕ) → HasByte 42 text from → IsFirst (EndsComment text) from end → from < end
after_star text from end star first =
    ⊎_elim
    (λ less. less)
    (λ at_most.
    let reached = first.before.reached in
    let is_end : EndsComment text from = subst (EndsComment text) (let here : end ≡ from = omega arith in here) first.here in
    let inside = star.0 in
    let byte = star.1 in
    absurd (⊎_elim (λ at_end. omega arith) (λ line_feed. omega arith) is_end))
    (order from end)

-- From a place on there is a gap up to a place at which none goes on. The count is the most bytes left.
gap_from : (text : List ℕ) (n from : ℕ) → from ≤ length text → length text ≤ from + n → (to : ℕ) × IsGap text from to × StopsGap text to × (to ≤ length text)
gap_from text zero from within enough =
    (from, none, record { no_white = λ here. let inside = here.0 in omega arith; no_comment = λ here. let inside = here.0 in omega arith }, within)
gap_from text (suc n) from within enough =
    ⊎_elim
    (λ star.
    let end = first_up_to (EndsComment text) (λ place. either (same place (length text)) (has_byte 10 text place)) from (length text) within (inl refl) in
    let inside = EndsComment-within text end.0 end.1.here in
    let forward : from < end.0 = after_star text from end.0 star end.1 in
    let rest = gap_from text n end.0 inside (omega arith) in
    (rest.0, comment (record { opens = star; ends = end.1 }) rest.1, rest.2, rest.3))
    (λ no_star.
    ⊎_elim
    (λ here.
    let inside = here.0 in
    let rest = gap_from text n (from + 1) (omega arith) (omega arith) in
    (rest.0, white here rest.1, rest.2, rest.3))
    (λ not_here. (from, none, record { no_white = not_here; no_comment = no_star }, within))
    (both (below from (length text)) (is_white (get_or text from 0))))
    (has_byte 42 text from)

-- A quoted text begins at a `"`, or none does.
quoted_from : (text : List ℕ) (from : ℕ) → HasByte 34 text from → ((to : ℕ) × IsQuoted text from to) ⊎ ((to : ℕ) → ¬ IsQuoted text from to)
quoted_from text from opens =
    let inside = opens.0 in
    ⊎_elim
    (λ found. inl (found.0 + 1, record { opens = opens; last = found.0; closes = found.1; end = refl }))
    (λ never. inr (λ to quoted. never quoted.last quoted.closes))
    (first_below (ClosesQuoted text) (λ place. both (has_byte 34 text place) (not (same (get_or text (place - 1) 0) 92))) (from + 1) (length text) (omega arith) (λ place closes. closes.0.0))

-- A tag begins at a place, or none does.
tag_from : (text : List ℕ) (from : ℕ) → from ≤ length text → ((to : ℕ) × IsTag text from to) ⊎ ((to : ℕ) → ¬ IsTag text from to)
tag_from text from within =
    ⊎_elim
    (λ found.
    ⊎_elim
    (λ separator. inr (λ to tag.
    let same_end = IsFirst-one (HasByte 41 text) from to found.0 tag.ends found.1 in
    let reached = found.1.before.reached in
    let near = separator.2 in
    tag.plain separator.0 (omega arith) separator.1.before.reached separator.1.here))
    (λ passed. inl (
      found.0,
      record {
        ends = found.1;
        plain = λ place less at_least. let reached = found.1.before.reached in passed.none place (omega arith) at_least;
      },
    ))
    (first_of (λ place. IsSeparator (get_or text place 0)) (λ place. is_separator (get_or text place 0)) from (found.0 - from)))
    (λ never. inr (λ to tag. never to tag.ends))
    (first_below (HasByte 41 text) (has_byte 41 text) from (length text) within (λ place has. has.0))

-- A literal begins where one is opened, or none does.
literal_from : (text : List ℕ) (from : ℕ) → OpensLiteral text from → ((to : ℕ) × IsLiteral text from to) ⊎ ((to : ℕ) → ¬ IsLiteral text from to)
literal_from text from opens =
    ⊎_elim
    (λ tag.
    let inside = tag.1.ends.here.0 in
    ⊎_elim
    (λ found. inl (found.0 + 13 + (tag.0 - (from + 14)), record { opens = opens; tag_end = tag.0; tag = tag.1; last = found.0; closes = found.1; end = refl }))
    (λ never. inr (λ to literal.
    let same_tag = IsFirst-one (HasByte 41 text) (from + 14) literal.tag_end tag.0 literal.tag.ends tag.1.ends in
    never literal.last (subst (λ (end : ℕ). IsFirst (ClosesLiteral (span text (from + 14) end) text) (end + 1) literal.last) same_tag literal.closes)))
    (first_below (ClosesLiteral (span text (from + 14) tag.0) text) (has_bytes (codes "end_literal(" ++ span text (from + 14) tag.0 ++ codes ")") text) (tag.0 + 1) (length text) (omega arith)
    (λ place closes. let within = ClosesLiteral-within (span text (from + 14) tag.0) text place closes in omega arith)))
    (λ no_tag. inr (λ to literal. no_tag literal.tag_end literal.tag))
    (tag_from text (from + 14) (OpensLiteral-within text from opens))

-- What begins at a place: a token, or what breaks a rule.
abbrev Begins : List ℕ → ℕ → Type 0
Begins text from =
    ((kind : TokenKind) × (to : ℕ) × IsToken text kind from to)
    ⊎ ((kind : LexKind) × (place : ℕ) × BreaksFrom text kind from place)

-- Where no gap and no sign is, a word has a byte.
word_some : (text : List ℕ) (from stop : ℕ) → from < length text → StopsGap text from → ¬ HasByte 61 text from → ¬ HasByte 58 text from → ¬ HasByte 59 text from → from ≤ stop → EndsWordAt text stop → from < stop
word_some text from stop inside stops no_equals no_colon no_semicolon reached end =
    ⊎_elim
    (λ less. less)
    (λ at_most.
    let is_end : EndsWordAt text from = subst (EndsWordAt text) (let here : stop ≡ from = omega arith in here) end in
    absurd (⊎_elim
    (λ at_end. omega arith)
    (λ byte.
    ⊎_elim
    (λ separator.
    ⊎_elim
    (λ space. stops.no_white (inside, space))
    (λ sign. ⊎_elim (λ is. no_equals (inside, is)) (λ sign. ⊎_elim (λ is. no_colon (inside, is)) (λ is. no_semicolon (inside, is)) sign) sign)
    separator)
    (λ star. stops.no_comment (inside, star))
    byte.1)
    is_end))
    (order from stop)

word_from : (text : List ℕ) (from : ℕ) → from < length text → StopsGap text from → ¬ HasByte 34 text from → ¬ OpensLiteral text from → ¬ HasByte 61 text from → ¬ HasByte 58 text from → ¬ HasByte 59 text from → Begins text from
word_from text from inside stops no_quoted no_literal no_equals no_colon no_semicolon =
    let ends = λ (place : ℕ). either (same place (length text)) (both (below place (length text)) (ends_word (get_or text place 0))) in
    let stop = first_up_to (StopsWord text) (λ place. either (ends place) (both (below place (length text)) (is_control (get_or text place 0)))) from (length text) (omega arith) (inl (inl refl)) in
    ⊎_elim
    (λ end. inl (
      Word,
      stop.0,
      record {
        opens = record { no_quoted = no_quoted; no_literal = no_literal };
        some = word_some text from stop.0 inside stops no_equals no_colon no_semicolon stop.1.before.reached end;
        first = stop.1;
        ends = end;
      },
    ))
    (λ control. inr (
      BadByte,
      stop.0,
      record {
        opens = record { no_quoted = no_quoted; no_literal = no_literal };
        first = stop.1;
        control = control;
      },
    ))
    stop.1.here

begins : (text : List ℕ) (from : ℕ) → from < length text → StopsGap text from → Begins text from
begins text from inside stops =
    ⊎_elim
    (λ quote. ⊎_elim (λ quoted. inl (Quoted, quoted.0, quoted.1)) (λ never. inr (OpenQuote, from, (refl, quote, never))) (quoted_from text from quote))
    (λ no_quote.
    ⊎_elim
    (λ opens. ⊎_elim (λ literal. inl (Literal, literal.0, literal.1)) (λ never. inr (OpenLiteral, from, (refl, opens, never))) (literal_from text from opens))
    (λ no_literal.
    ⊎_elim
    (λ equals. inl (Equals, from + 1, record { sign = equals; end = refl }))
    (λ no_equals.
    ⊎_elim
    (λ colon. inl (Colon, from + 1, record { sign = colon; end = refl }))
    (λ no_colon.
    ⊎_elim
    (λ semicolon. inl (Semicolon, from + 1, record { sign = semicolon; end = refl }))
    (λ no_semicolon. word_from text from inside stops no_quote no_literal no_equals no_colon no_semicolon)
    (has_byte 59 text from))
    (has_byte 58 text from))
    (has_byte 61 text from))
    (has_bytes (codes "start_literal(") text from))
    (has_byte 34 text from)

-- A gap before a front belongs to it.
gap_before : (text : List ℕ) (from mid : ℕ) (tokens : List Token) (to : ℕ) → IsGap text from mid → LexesBetween text mid tokens to → LexesBetween text from tokens to
gap_before text from mid [] to gap front = IsGap-append text gap front
gap_before text from mid (token ∷ tokens) to gap front = (IsGap-append text gap front.0, front.1, front.2)

-- From a place on there are tokens up to the end, or up to what breaks a rule.
abbrev Goes : List ℕ → ℕ → Type 0
Goes text from =
    ((tokens : List Token) × LexesBetween text from tokens (length text))
    ⊎ ((tokens : List Token) × (stop : ℕ) × LexesBetween text from tokens stop × ((kind : LexKind) × (place : ℕ) × BreaksFrom text kind stop place))

goes_before : (text : List ℕ) (from mid : ℕ) → IsGap text from mid → Goes text mid → Goes text from
goes_before text from mid gap goes =
    ⊎_elim
    (λ front. inl (front.0, gap_before text from mid front.0 (length text) gap front.1))
    (λ front. inr (front.0, front.1, gap_before text from mid front.0 front.1 gap front.2, front.3))
    goes

goes_behind : (text : List ℕ) (kind : TokenKind) (from to : ℕ) → IsToken text kind from to → Goes text to → Goes text from
goes_behind text kind from to token goes =
    let within = IsToken-within text kind from to token in
    let end : to ≡ from + (to - from) = omega (arith, within.some) in
    let here = subst (IsToken text kind from) end token in
    ⊎_elim
    (λ front. inl (token_of kind from to ∷ front.0, (none, here, subst (λ place. LexesBetween text place front.0 (length text)) end front.1)))
    (λ front. inr (token_of kind from to ∷ front.0, front.1, (none, here, subst (λ place. LexesBetween text place front.0 front.1) end front.2), front.3))
    goes

-- The count is the most bytes left.
goes_from : (text : List ℕ) (n from : ℕ) → from ≤ length text → length text ≤ from + n → StopsGap text from → Goes text from
goes_from text zero from within enough stops =
    inl ([], subst (IsGap text from) (let end : from ≡ length text = omega arith in end) none)
goes_from text (suc n) from within enough stops =
    ⊎_elim
    (λ inside.
    ⊎_elim
    (λ token.
    let token_within = IsToken-within text token.0 from token.1 token.2 in
    let forward = token_within.some in
    let gap = gap_from text (length text) token.1 token_within.within (omega arith) in
    let behind = IsGap-forward text gap.1 in
    goes_behind text token.0 from token.1 token.2
    (goes_before text token.1 gap.0 gap.1 (goes_from text n gap.0 gap.3 (omega arith) gap.2)))
    (λ broken. inr ([], from, none, broken))
    (begins text from inside stops))
    (λ not_inside. inl ([], subst (IsGap text from) (let end : from ≡ length text = omega arith in end) none))
    (below from (length text))

pub tokens_or_break : (text : List ℕ) → HasTokensOrBreak text
tokens_or_break text =
    let gap = gap_from text (length text) 0 (omega arith) (omega arith) in
    ⊎_elim
    (λ front. inl front)
    (λ front. inr (front.3.0, front.3.1, record { tokens = front.0; from = front.1; front = front.2; broken = front.3.2 }))
    (goes_before text 0 gap.0 gap.1 (goes_from text (length text) gap.0 gap.3 (omega arith) gap.2))
