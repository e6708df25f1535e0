-- Parts of a text, each with what it may say and how that is written.
use Rattle.std.proofs.Common.{◌≡◌, ◌≤◌, ◌<◌, ◌+◌, ◌*◌, ◌^◌, ℕ, Bool, true, false, ◌&&◌, zero, suc, List, [], ◌∷◌, ◌++◌, length, take, drop, subst, ap, sym, refl, ◌∙◌, arith, append_assoc, append-nil, length-append, lit<, FitsSigned, w64}
use Rattle.std.specs.Prelude.{nat_le, ℤ}
use Rattle.std.specs.Int.{cast_signed, cast_unsigned, bytes_low_first, byte_at}
use Rattle.std.specs.List.{flat_map, range_with_len, All}
use Rattle.std.proofs.lemmas.List.FromFn.{length-range_with_len}
use Rattle.std.proofs.lemmas.List.Elements.{All-append}
use Rattle.std.proofs.Math.Seq.{get_or-append_seam}
use Rattle.std.proofs.lemmas.List.{take-append-drop, take_at, drop_at, get_or-append-add, get_or_append_left}
use Rattle.std.proofs.lemmas.Bool.{leb-true}
use Rattle.std.proofs.lemmas.Grind.{common_steps}
use Rattle.std.proofs.lemmas.Int.{of_z-to_z, to_z-of_z}
use Rattle.std.proofs.Math.Facts.{Fits-of_z, Fits-of_lt, sfits_to_z}
use Rattle.byteorder.specs.Endian.{little_bytes, little_number, little_from}
use Rattle.byteorder.specs.Numbers.{little_number-reads_back, little_from-lt, little_from-cons, length-bytes_low_first}
use Rattle.vis_records.specs.declared.fault.VisKind.{VisKind}
use Rattle.vis_records.specs.Parts.{Part, Took, Stops, chain, checked, piece, number_of, field, in_turn, one_more, list_of, AreBytes}
use Rattle.vis_records.specs.Reading.{word, signed_word}
use Rattle.vis_records.proofs.PartLemmas.{took-later, in_turn-none, in_turn-cons}
use Rattle.vis_records.proofs.FieldLemmas.{piece-enough, field-took}

-- A part says only what it may say, and what it says is written so in the text; and where it is written so, the part says it.
pub record IsForm {A : Type 0} (part : List ℕ → Part A) (Good : A → Type 0) (text : A → List ℕ) : Type 0 where
  pub reads : (a : A) (rest : List ℕ) → Good a → part (text a ++ rest) ≡ Took a rest
  pub good : (t : List ℕ) (a : A) (rest : List ℕ) → AreBytes t → part t ≡ Took a rest → Good a
  pub is : (t : List ℕ) (a : A) (rest : List ℕ) → AreBytes t → part t ≡ Took a rest → t ≡ text a ++ rest

pub AreBytes-behind : (a t : List ℕ) → AreBytes (a ++ t) → AreBytes t
AreBytes-behind a t bytes = λ k. subst (λ n. n < 256) (get_or-append-add a t k 0) (bytes (length a + k))

-- a fact that is held by a name
pub holding : {P C : Type 0} → P → (P → C) → C
holding p f = f p

-- one part that was read, and what came behind it
pub record Read {A B : Type 0} (part : Part A) (behind : A → List ℕ → Part B) (b : B) (last : List ℕ) : Type 0 where
  pub what : A
  pub rest : List ℕ
  pub first : part ≡ Took what rest
  pub second : behind what rest ≡ Took b last

pub read-parts : {A B : Type 0} (part : Part A) (behind : A → List ℕ → Part B) (b : B) (last : List ℕ)
    → chain part behind ≡ Took b last
    → Read part behind b last
unfolding chain
read-parts (Took a rest) behind b last e = record { what = a; rest = rest; first = refl; second = e }
read-parts (Stops kind left) behind b last e = let no : ⊥ = cc in absurd no

-- the same of a part with a form
pub record Peeled {A B : Type 0} (Good : A → Type 0) (text : A → List ℕ) (behind : A → List ℕ → Part B) (t : List ℕ) (b : B) (last : List ℕ) : Type 0 where
  pub what : A
  pub rest : List ℕ
  pub good : Good what
  pub is : t ≡ text what ++ rest
  pub bytes : AreBytes rest
  pub more : behind what rest ≡ Took b last

pub peel : {A B : Type 0} {part : List ℕ → Part A} {Good : A → Type 0} {text : A → List ℕ} {b : B} {last : List ℕ}
    (behind : A → List ℕ → Part B) (t : List ℕ)
    → IsForm part Good text
    → AreBytes t
    → chain (part t) behind ≡ Took b last
    → Peeled Good text behind t b last
peel {part = part} {text = text} {b = b} {last = last} behind t form bytes e =
    let r : Read (part t) behind b last = read-parts (part t) behind b last e in
    let is = form.is t r.what r.rest bytes r.first in
    record {
      what = r.what;
      rest = r.rest;
      good = form.good t r.what r.rest bytes r.first;
      is = is;
      bytes = AreBytes-behind (text r.what) r.rest (subst AreBytes is bytes);
      more = r.second;
    }

-- what a test lets through
pub record Passed {A : Type 0} (ok : Bool) (a a' : A) (rest rest' : List ℕ) : Type 0 where
  pub passed : ok ≡ true
  pub what : a ≡ a'
  pub behind : rest ≡ rest'

pub checked-parts : {A : Type 0} (ok : Bool) (a a' : A) (rest rest' : List ℕ) (kind : VisKind) (left : ℕ)
    → checked ok a rest kind left ≡ Took a' rest'
    → Passed ok a a' rest rest'
unfolding checked
checked-parts true a a' rest rest' kind left e = record { passed = refl; what = cc; behind = cc }
checked-parts false a a' rest rest' kind left e = let no : ⊥ = cc in absurd no

-- the next bytes
pub piece-reads : (n : ℕ) (a rest : List ℕ) → length a ≡ n → piece n (a ++ rest) ≡ Took a rest
piece-reads n a rest long =
    let enough : n ≤ length (a ++ rest) = omega (arith, length-append a rest) in
    let front : take n (a ++ rest) ≡ a = take_at a rest n long in
    let back : drop n (a ++ rest) ≡ rest = drop_at a rest n long in
    piece-enough n (a ++ rest) enough ∙ rw (front, back) refl

pub record PieceIs (n : ℕ) (t a rest : List ℕ) : Type 0 where
  pub enough : n ≤ length t
  pub front : take n t ≡ a
  pub is : t ≡ a ++ rest

pub piece-parts : (n : ℕ) (t a rest : List ℕ) → piece n t ≡ Took a rest → PieceIs n t a rest
unfolding piece
piece-parts n t a rest e =
    let p : Passed (nat_le n (length t)) (take n t) a (drop n t) rest = checked-parts (nat_le n (length t)) (take n t) a (drop n t) rest _ _ e in
    record {
      enough = leb-true n (length t) p.passed;
      front = p.what;
      is = sym (take-append-drop n t) ∙ rw (p.what, p.behind) refl;
    }

-- numbers as bytes
byte_at-lt : (i n : ℕ) → byte_at i n < 256
byte_at-lt zero n = omega arith
byte_at-lt (suc i) n = omega arith

AreBytes-cons : (x : ℕ) (xs : List ℕ) → x < 256 → AreBytes xs → AreBytes (x ∷ xs)
AreBytes-cons x xs small rest zero = small
AreBytes-cons x xs small rest (suc k) = rest k

AreBytes-low_first : (i n x : ℕ) → AreBytes (bytes_low_first i n x)
AreBytes-low_first i zero x = λ k. lit< tt
AreBytes-low_first i (suc n) x =
    AreBytes-cons (byte_at i x) (bytes_low_first (suc i) n x) (byte_at-lt i x) (AreBytes-low_first (suc i) n x)

-- two rows of bytes of one number are equal
digits : (x y r s : ℕ) → x < 256 → y < 256 → x + 256 * r ≡ y + 256 * s → (x ≡ y) × (r ≡ s)
digits x y r s p q e = (omega arith, omega arith)

same_number : (n : ℕ) (xs ys : List ℕ) → length xs ≡ n → length ys ≡ n → AreBytes xs → AreBytes ys → little_from 0 n xs ≡ little_from 0 n ys → xs ≡ ys
same_number zero [] [] a b p q e = refl
same_number zero [] (y ∷ ys) a b p q e = absurd (omega arith)
same_number zero (x ∷ xs) ys a b p q e = absurd (omega arith)
same_number (suc n) [] ys a b p q e = absurd (omega arith)
same_number (suc n) (x ∷ xs) [] a b p q e = absurd (omega arith)
same_number (suc n) (x ∷ xs) (y ∷ ys) a b p q e =
    let both = digits x y (little_from 1 n (x ∷ xs)) (little_from 1 n (y ∷ ys)) (p 0) (q 0) e in
    let rest : little_from 0 n xs ≡ little_from 0 n ys =
    sym (little_from-cons 0 n x xs) ∙ both.1 ∙ little_from-cons 0 n y ys in
    let tails : xs ≡ ys = same_number n xs ys (omega arith) (omega arith) (λ k. p (suc k)) (λ k. q (suc k)) rest in
    rw (both.0, tails) refl

AreBytes-front : (a t : List ℕ) → AreBytes (a ++ t) → AreBytes a
AreBytes-front [] t bytes = λ k. lit< tt
AreBytes-front (x ∷ a) t bytes = AreBytes-cons x a (bytes 0) (AreBytes-front a t (λ k. bytes (suc k)))

pub bytes_of_number : (n : ℕ) (a : List ℕ) → length a ≡ n → AreBytes a → little_bytes n (little_number n a) ≡ a
bytes_of_number n a long bytes =
    let x : ℕ = little_number n a in
    let small : x < 256 ^ n = little_from-lt 0 n a bytes in
    let back : little_from 0 n (little_bytes n x) ≡ x =
    ap (little_from 0 n) (sym (append-nil (little_bytes n x))) ∙ little_number-reads_back n x [] small in
    same_number n (little_bytes n x) a (length-bytes_low_first 0 n x) long (AreBytes-low_first 0 n x) bytes back

pub number_of-bytes : (n x : ℕ) → x < 256 ^ n → number_of n (little_bytes n x) ≡ x
unfolding number_of
number_of-bytes n x small = ap (little_from 0 n) (sym (append-nil (little_bytes n x))) ∙ little_number-reads_back n x [] small

number_of-is : (n : ℕ) (a : List ℕ) → number_of n a ≡ little_number n a
unfolding number_of
number_of-is n a = refl

-- a field of bytes that a number is made from
word_bytes : (n : ℕ) (t a rest : List ℕ) → AreBytes t → PieceIs n t a rest → AreBytes a × (little_bytes n (number_of n a) ≡ a)
word_bytes n t a rest bytes p =
    let are : AreBytes a = AreBytes-front a rest (subst AreBytes p.is bytes) in
    let long : length a ≡ n = ap length (sym p.front) ∙ omega (arith, length_take n t p.enough) in
    (are, ap (little_bytes n) (number_of-is n a) ∙ bytes_of_number n a long are)
  where
    length_take : (n : ℕ) (t : List ℕ) → n ≤ length t → length (take n t) ≡ n
    length_take n t enough = grind (arith, common_steps)

number_of-lt : (n : ℕ) (a : List ℕ) → AreBytes a → number_of n a < 256 ^ n
number_of-lt n a bytes = subst (λ x. x < 256 ^ n) (sym (number_of-is n a)) (little_from-lt 0 n a bytes)

pub word-form : IsForm word (λ n. n < 2 ^ 64) (little_bytes 8)
word-form = record {
  reads = λ n rest small.
      took-later _ (piece-reads 8 (little_bytes 8 n) rest (length-bytes_low_first 0 8 n)) (ap (λ x. Took x rest) (number_of-bytes 8 n small));
  good = λ t n rest bytes e.
      let r = read-parts (piece 8 t) _ n rest e in
      let w = word_bytes 8 t r.what r.rest bytes (piece-parts 8 t r.what r.rest r.first) in
      let same : number_of 8 r.what ≡ n = cc in
      subst (λ x. x < 2 ^ 64) same (number_of-lt 8 r.what w.0);
  is = λ t n rest bytes e.
      let r = read-parts (piece 8 t) _ n rest e in
      let p = piece-parts 8 t r.what r.rest r.first in
      let w = word_bytes 8 t r.what r.rest bytes p in
      let same : number_of 8 r.what ≡ n = cc in
      let behind : r.rest ≡ rest = cc in
      p.is ∙ ap (λ a. a ++ r.rest) (sym w.1) ∙ rw (same, behind) refl;
}

pub signed_word-form : IsForm signed_word (FitsSigned w64) (λ z. little_bytes 8 (cast_unsigned w64 z))
signed_word-form = record {
  reads = λ z rest fits.
      let n : ℕ = cast_unsigned w64 z in
      took-later _ (piece-reads 8 (little_bytes 8 n) rest (length-bytes_low_first 0 8 n))
      (ap (λ x. Took (cast_signed w64 x) rest) (number_of-bytes 8 n (unsigned-fits z fits)) ∙ ap (λ x. Took x rest) (to_z-of_z w64 z fits));
  good = λ t z rest bytes e.
      let r = read-parts (piece 8 t) _ z rest e in
      let w = word_bytes 8 t r.what r.rest bytes (piece-parts 8 t r.what r.rest r.first) in
      let same : cast_signed w64 (number_of 8 r.what) ≡ z = cc in
      subst (FitsSigned w64) same (signed-fits (number_of 8 r.what) (number_of-lt 8 r.what w.0));
  is = λ t z rest bytes e.
      let r = read-parts (piece 8 t) _ z rest e in
      let p = piece-parts 8 t r.what r.rest r.first in
      let w = word_bytes 8 t r.what r.rest bytes p in
      let same : cast_signed w64 (number_of 8 r.what) ≡ z = cc in
      let behind : r.rest ≡ rest = cc in
      let back : cast_unsigned w64 z ≡ number_of 8 r.what =
      ap (cast_unsigned w64) (sym same) ∙ of_z-to_z w64 (number_of 8 r.what) (number_of-lt 8 r.what w.0) in
      p.is ∙ ap (λ a. a ++ r.rest) (sym w.1) ∙ rw (behind, back) refl;
}
  where
    unsigned-fits : (z : ℤ) → FitsSigned w64 z → cast_unsigned w64 z < 2 ^ 64
    unsigned-fits z fits = omega (arith, Fits-of_z fits)

    signed-fits : (n : ℕ) → n < 2 ^ 64 → FitsSigned w64 (cast_signed w64 n)
    signed-fits n small = sfits_to_z (Fits-of_lt small)

-- a field says a number of its range
pub record FieldSaid (size low high : ℕ) (t : List ℕ) (n : ℕ) (rest : List ℕ) : Type 0 where
  pub above : low ≤ n
  pub below : n ≤ high
  pub fits : n < 256 ^ size
  pub is : t ≡ little_bytes size n ++ rest

and-parts : (a b : Bool) → (a && b) ≡ true → (a ≡ true) × (b ≡ true)
and-parts true b e = (refl, e)
and-parts false b e = let no : ⊥ = cc in absurd no

pub field-said : (size low high : ℕ) (kind : VisKind) (t : List ℕ) (n : ℕ) (rest : List ℕ) → AreBytes t
    → field size low high kind t ≡ Took n rest
    → FieldSaid size low high t n rest
unfolding field
field-said size low high kind t n rest bytes e =
    let r = read-parts (piece size t) _ n rest e in
    let x : ℕ = number_of size r.what in
    let k = checked-parts (nat_le low x && nat_le x high) x n r.rest rest kind (length t) r.second in
    let both = and-parts (nat_le low x) (nat_le x high) k.passed in
    let p = piece-parts size t r.what r.rest r.first in
    let w = word_bytes size t r.what r.rest bytes p in
    record {
      above = subst (λ y. low ≤ y) k.what (leb-true low x both.0);
      below = subst (λ y. y ≤ high) k.what (leb-true x high both.1);
      fits = subst (λ y. y < 256 ^ size) k.what (number_of-lt size r.what w.0);
      is = p.is ∙ ap (λ a. a ++ r.rest) (sym w.1) ∙ rw (k.what, k.behind) refl;
    }

pub field-reads : (size low high : ℕ) (kind : VisKind) (n : ℕ) (rest : List ℕ) → low ≤ n → n ≤ high → n < 256 ^ size
    → field size low high kind (little_bytes size n ++ rest) ≡ Took n rest
field-reads size low high kind n rest above below small =
    field-took size low high kind (little_bytes size n ++ rest) n
    (piece-reads size (little_bytes size n) rest (length-bytes_low_first 0 size n))
    (sym (number_of-bytes size n small)) above below

pub field-form : (size low high : ℕ) (kind : VisKind) → high < 256 ^ size
    → IsForm (field size low high kind) (λ n. (low ≤ n) × (n ≤ high)) (little_bytes size)
field-form size low high kind small = record {
  reads = λ n rest range. field-reads size low high kind n rest range.0 range.1 (omega (arith, range.1, small));
  good = λ t n rest bytes e. let s = field-said size low high kind t n rest bytes e in (s.above, s.below);
  is = λ t n rest bytes e. (field-said size low high kind t n rest bytes e).is;
}

-- a list, where each thing has a form beside those before it
pub record IsItem {A : Type 0} (one : List A → List ℕ → Part A) (Good : List A → Type 0) (text : A → List ℕ) : Type 0 where
  pub front : (xs ys : List A) → Good (xs ++ ys) → Good xs
  pub reads : (xs : List A) (x : A) (rest : List ℕ) → Good (xs ++ x ∷ []) → one xs (text x ++ rest) ≡ Took x rest
  pub good : (xs : List A) (t : List ℕ) (x : A) (rest : List ℕ) → Good xs → AreBytes t → one xs t ≡ Took x rest → Good (xs ++ x ∷ [])
  pub is : (xs : List A) (t : List ℕ) (x : A) (rest : List ℕ) → Good xs → AreBytes t → one xs t ≡ Took x rest → t ≡ text x ++ rest

-- the things that stand in a text behind those before them
pub record Listed {A Y : Type 0} (Good : List A → Type 0) (text : A → List ℕ) (xs : List A) (ys : List Y) (t : List ℕ) (all : List A) (rest : List ℕ) : Type 0 where
  pub things : List A
  pub whole : all ≡ xs ++ things
  pub count : length things ≡ length ys
  pub good : Good all
  pub is : t ≡ flat_map text things ++ rest

pub more-reads : {A Y : Type 0} (one : List A → List ℕ → Part A) (Good : List A → Type 0) (text : A → List ℕ)
    → IsItem one Good text
    → (xs zs : List A) (ys : List Y) (rest : List ℕ)
    → Good (xs ++ zs)
    → length zs ≡ length ys
    → in_turn (one_more one) xs ys (flat_map text zs ++ rest) ≡ Took (xs ++ zs) rest
more-reads one Good text item xs [] [] rest good same =
    in_turn-none (one_more one) xs rest ∙ ap (λ all. Took all rest) (sym (append-nil xs))
more-reads one Good text item xs [] (y ∷ ys) rest good same = absurd (omega arith)
more-reads one Good text item xs (z ∷ zs) [] rest good same = absurd (omega arith)
more-reads one Good text item xs (z ∷ zs) (y ∷ ys) rest good same =
    let shift : (xs ++ z ∷ []) ++ zs ≡ xs ++ z ∷ zs = append_assoc xs (z ∷ []) zs in
    let front : Good ((xs ++ z ∷ []) ++ zs) = subst Good (sym shift) good in
    let first : one xs (text z ++ (flat_map text zs ++ rest)) ≡ Took z (flat_map text zs ++ rest) =
    item.reads xs z (flat_map text zs ++ rest) (item.front (xs ++ z ∷ []) zs front) in
    ap (in_turn (one_more one) xs (y ∷ ys)) (append_assoc (text z) (flat_map text zs) rest)
    ∙ in_turn-cons (one_more one) y ys xs (text z ++ (flat_map text zs ++ rest))
    ∙ took-later _ (took-later _ first refl)
    (more-reads one Good text item (xs ++ z ∷ []) zs ys rest front (omega arith) ∙ ap (λ all. Took all rest) shift)

pub more-is : {A Y : Type 0} (one : List A → List ℕ → Part A) (Good : List A → Type 0) (text : A → List ℕ)
    → IsItem one Good text
    → (xs : List A) (ys : List Y) (t : List ℕ) (all : List A) (rest : List ℕ)
    → Good xs
    → AreBytes t
    → in_turn (one_more one) xs ys t ≡ Took all rest
    → Listed Good text xs ys t all rest
more-is one Good text item xs [] t all rest good bytes e =
    let same : Took xs t ≡ Took all rest = sym (in_turn-none (one_more one) xs t) ∙ e in
    let whole : xs ≡ all = cc in
    let behind : t ≡ rest = cc in
    record { things = []; whole = sym whole ∙ sym (append-nil xs); count = refl; good = subst Good whole good; is = behind }
more-is {Y = Y} one Good text item xs (y ∷ ys) t all rest good bytes e =
    let r = read-parts (one_more one xs y t) _ all rest (sym (in_turn-cons (one_more one) y ys xs t) ∙ e) in
    let s = read-parts (one xs t) _ r.what r.rest r.first in
    let grown : xs ++ s.what ∷ [] ≡ r.what = cc in
    let behind : s.rest ≡ r.rest = cc in
    let is : t ≡ text s.what ++ s.rest = item.is xs t s.what s.rest good bytes s.first in
    let next : Good (xs ++ s.what ∷ []) = item.good xs t s.what s.rest good bytes s.first in
    let left : AreBytes r.rest = subst AreBytes behind (AreBytes-behind (text s.what) s.rest (subst AreBytes is bytes)) in
    let more : Listed {Y = Y} Good text r.what ys r.rest all rest =
    more-is one Good text item r.what ys r.rest all rest (subst Good grown next) left r.second in
    record {
      things = s.what ∷ more.things;
      whole = more.whole ∙ ap (λ front. front ++ more.things) (sym grown) ∙ append_assoc xs (s.what ∷ []) more.things;
      count = omega (arith, more.count);
      good = more.good;
      is = is ∙ ap (λ left. text s.what ++ left) (behind ∙ more.is) ∙ sym (append_assoc (text s.what) (flat_map text more.things) rest);
    }

pub list-form : {A : Type 0} (one : List A → List ℕ → Part A) (Good : List A → Type 0) (text : A → List ℕ) (n : ℕ)
    → IsItem one Good text
    → Good []
    → IsForm (list_of one n) (λ xs. Good xs × (length xs ≡ n)) (flat_map text)
list-form one Good text n item none = record {
  reads = λ xs rest good. more-reads one Good text item [] xs (range_with_len 0 n) rest good.0 (good.1 ∙ sym (length-range_with_len 0 n));
  good = λ t xs rest bytes e.
      let l = more-is one Good text item [] (range_with_len 0 n) t xs rest none bytes e in
      (l.good, ap length l.whole ∙ l.count ∙ length-range_with_len 0 n);
  is = λ t xs rest bytes e.
      let l = more-is one Good text item [] (range_with_len 0 n) t xs rest none bytes e in
      l.is ∙ ap (λ zs. flat_map text zs ++ rest) (sym l.whole);
}

-- things that have a form by themselves
pub All-front : {A : Type 0} (P : A → Type 0) (xs ys : List A) → All P (xs ++ ys) → All P xs
All-front P xs ys all k d within =
    subst P (get_or_append_left xs ys d k within) (all k d (omega (arith, length-append xs ys)))

pub All-last : {A : Type 0} (P : A → Type 0) (xs : List A) (x : A) → All P (xs ++ x ∷ []) → P x
All-last P xs x all = subst P (get_or-append_seam xs x [] x) (all (length xs) x (omega (arith, length-append xs (x ∷ []))))

pub All-one : {A : Type 0} (P : A → Type 0) (x : A) → P x → All P (x ∷ [])
All-one P x fact zero d within = fact
All-one P x fact (suc k) d within = absurd (omega arith)

pub form-item : {A : Type 0} {part : List ℕ → Part A} {P : A → Type 0} {text : A → List ℕ}
    → IsForm part P text
    → IsItem (λ _. part) (λ xs. All P xs) text
form-item {P = P} form = record {
  front = λ xs ys all. All-front P xs ys all;
  reads = λ xs x rest all. form.reads x rest (All-last P xs x all);
  good = λ xs t x rest all bytes e. All-append P xs (x ∷ []) all (All-one P x (form.good t x rest bytes e));
  is = λ xs t x rest all bytes e. form.is t x rest bytes e;
}
