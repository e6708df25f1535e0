-- A number before the byte that ends it.
use Rattle.std.proofs.Common.{◌≡◌, ℕ, zero, ◌<◌, ◌^◌, ◌==◌, false, List, [], ◌∷◌, ◌++◌, ℤ, pos, negsuc, FitsSigned, Result, Ok, Err, suc, length, get_or, take, decimal, sym, ap, ◌∙◌, arith, length-append, append_assoc}
use Rattle.std.specs.List.{position_or_len, before_first}
use Rattle.std.specs.Fmt.{signed_decimal}
use Rattle.std.specs.Int.{w32}
use lib.Signed.{mag}
use Rattle.std.specs.Str.Parse.{AllDigits, digits_value, ParsesUnsigned, ParsesSigned}
use Rattle.std.proofs.Math.Seq.{take-append_seam, get_or-append_seam}
use Rattle.std.proofs.lemmas.Bool.{ne_eqb, eq-eqb}
use Rattle.std.proofs.lemmas.List.{get_or_append_left}
use Rattle.std.proofs.lemmas.List.Sums.{position_or_len_is}
use Rattle.std.proofs.lemmas.Str.Parse.{numerals_by_value, tells_digits, IsNumeralModel, not_in_digits}
use Rattle.std.proofs.lemmas.Fmt.{digits_decimal, parse-decimal, parse-signed_decimal}

own : IsNumeralModel (AllDigits 10) (digits_value 10)
own = numerals_by_value (AllDigits 10) tells_digits

-- the byte stands first behind the digits of a number
place : (stop : ℕ) (ds behind : List ℕ) → stop < 48 → AllDigits 10 ds → position_or_len (λ b. b == stop) (ds ++ stop ∷ behind) ≡ length ds
place stop ds behind low digits =
    position_or_len_is (λ b. b == stop) (ds ++ stop ∷ behind) (length ds) 0 (omega (arith, length-append ds (stop ∷ behind)))
    (λ k h. ap (λ b. b == stop) (get_or_append_left ds (stop ∷ behind) 0 k h) ∙ ne_eqb (get_or ds k 0) stop (not_in_digits own ds stop digits (λ q. omega (arith, q)) k h))
    (λ _. eq-eqb (get_or (ds ++ stop ∷ behind) (length ds) 0) stop (get_or-append_seam ds stop behind 0))

pub word_of_number : (n stop : ℕ) (text behind : List ℕ) → stop < 48 → n < 2 ^ 32 → text ≡ decimal n ++ stop ∷ behind
    → before_first (λ b. b == stop) text ≡ decimal n
word_of_number n stop text behind low small is =
    let at = place stop (decimal n) behind low (digits_decimal own n (omega arith)) in
    ap (λ t. before_first (λ b. b == stop) t) is ∙ ap (λ k. take k (decimal n ++ stop ∷ behind)) at ∙ take-append_seam (decimal n) (stop ∷ behind)

-- what `parse` reads of a number's digits
pub read_ok : (E : Type 0) (n m : ℕ) (bs : List ℕ) (r : Result ℕ E) → n < 2 ^ 32 → bs ≡ decimal n → r ≡ Ok m → ParsesUnsigned 32 10 bs r → m ≡ n
read_ok E n m bs r small is ok parsed =
    let read : r ≡ Ok n = parse-decimal 32 n bs r small (omega arith) is parsed in
    cc

-- ---- numbers that may be below zero

minus_apart : (stop : ℕ) (ds behind : List ℕ) → stop < 45 → AllDigits 10 ds → (k : ℕ) → k < length (45 ∷ ds)
    → (get_or (45 ∷ (ds ++ stop ∷ behind)) k 0 == stop) ≡ false
minus_apart stop ds behind low digits zero h = ne_eqb 45 stop (λ e. omega (arith, e))
minus_apart stop ds behind low digits (suc k) h =
    ap (λ b. b == stop) (get_or_append_left ds (stop ∷ behind) 0 k (omega arith))
    ∙ ne_eqb (get_or ds k 0) stop (not_in_digits own ds stop digits (λ q. omega (arith, q)) k (omega arith))

signed_place : (stop : ℕ) (z : ℤ) (behind : List ℕ) → stop < 45 → mag z < 2 ^ 63
    → position_or_len (λ b. b == stop) (signed_decimal z ++ stop ∷ behind) ≡ length (signed_decimal z)
signed_place stop (pos n) behind low small = place stop (decimal n) behind (omega arith) (digits_decimal own n (omega arith))
signed_place stop (negsuc n) behind low small =
    let ds = decimal (suc n) in
    position_or_len_is (λ b. b == stop) (45 ∷ (ds ++ stop ∷ behind)) (length (45 ∷ ds)) 0 (omega (arith, length-append ds (stop ∷ behind)))
    (minus_apart stop ds behind low (digits_decimal own (suc n) (omega arith)))
    (λ _. eq-eqb (get_or (ds ++ stop ∷ behind) (length ds) 0) stop (get_or-append_seam ds stop behind 0))

pub word_of_signed : (z : ℤ) (stop : ℕ) (text behind : List ℕ) → stop < 45 → FitsSigned w32 z → text ≡ signed_decimal z ++ stop ∷ behind
    → before_first (λ b. b == stop) text ≡ signed_decimal z
word_of_signed z stop text behind low fits is =
    let at = signed_place stop z behind low (omega (arith, fits.sfits)) in
    ap (λ t. before_first (λ b. b == stop) t) is ∙ ap (λ k. take k (signed_decimal z ++ stop ∷ behind)) at ∙ take-append_seam (signed_decimal z) (stop ∷ behind)

pub read_signed : (E : Type 0) (z y : ℤ) (bs : List ℕ) (r : Result ℤ E) → FitsSigned w32 z → bs ≡ signed_decimal z → r ≡ Ok y → ParsesSigned w32 10 bs r → y ≡ z
read_signed E z y bs r fits is ok parsed =
    let read : r ≡ Ok z = parse-signed_decimal w32 z bs r fits (omega (arith, fits.sfits)) is parsed in
    cc

pub read_no_signed : (E : Type 0) (z : ℤ) (bs : List ℕ) (e : E) (r : Result ℤ E) → FitsSigned w32 z → bs ≡ signed_decimal z → r ≡ Err e → ParsesSigned w32 10 bs r → ⊥
read_no_signed E z bs e r fits is err parsed =
    let read : r ≡ Ok z = parse-signed_decimal w32 z bs r fits (omega (arith, fits.sfits)) is parsed in
    cc

-- a number and the byte that ends it, as they are taken from the front
pub ended : (text : List ℕ) (m n stop : ℕ) (word behind : List ℕ) → m ≡ n → word ≡ stop ∷ [] → text ≡ decimal n ++ stop ∷ behind
    → text ≡ (decimal m ++ word) ++ behind
ended text m n stop word behind same one is =
    is ∙ ap (λ k. decimal k ++ stop ∷ behind) (sym same) ∙ sym (append_assoc (decimal m) (stop ∷ []) behind) ∙ ap (λ w. (decimal m ++ w) ++ behind) (sym one)

pub ended_signed : (text : List ℕ) (y z : ℤ) (stop : ℕ) (word behind : List ℕ) → y ≡ z → word ≡ stop ∷ [] → text ≡ signed_decimal z ++ stop ∷ behind
    → text ≡ (signed_decimal y ++ word) ++ behind
ended_signed text y z stop word behind same one is =
    is ∙ ap (λ k. signed_decimal k ++ stop ∷ behind) (sym same) ∙ sym (append_assoc (signed_decimal y) (stop ∷ []) behind)
    ∙ ap (λ w. (signed_decimal y ++ w) ++ behind) (sym one)
