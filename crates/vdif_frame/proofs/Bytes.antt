-- The bytes of a header say its fields.
use Rattle.std.proofs.Common.{◌≡◌, ℕ, ◌+◌, ◌-◌, ◌^◌, ◌≤◌, ◌<◌, Bool, true, false, ◌==◌, List, [], ◌++◌, length, take, drop, replicate, if◌then◌else◌, arith, refl, sym, ap, ◌∙◌, length-append}
use Rattle.std.proofs.lemmas.List.{take_at, drop-drop}
use borrow.Rule.Slice.PartMut.{put_mid}
use Rattle.byteorder.specs.Endian.{little_bytes}
use Rattle.byteorder.specs.Numbers.{little_number-reads_back}
use Rattle.vdif_frame.specs.Header.{HeaderFields, AreInRange, HasHeader, fields_of, field, header_bytes, legacy_bit, word, bit_of, word_0, word_1, word_2, word_3}
use Rattle.vdif_frame.specs.Shape.{head_bytes}

bit_of-le : (b : Bool) → bit_of b ≤ 1
bit_of-le true = omega arith
bit_of-le false = omega arith

bit_of-is : (b : Bool) → (bit_of b == 1) ≡ b
bit_of-is true = refl
bit_of-is false = refl

-- each word fits 32 bits
word_0-lt : (h : HeaderFields) → AreInRange h → word_0 h < 256 ^ 4
word_0-lt h r = omega (arith, bit_of-le h.invalid, bit_of-le h.legacy, r.seconds)

word_1-lt : (h : HeaderFields) → AreInRange h → word_1 h < 256 ^ 4
word_1-lt h r = omega (arith, r.spare, r.epoch, r.frame)

word_2-lt : (h : HeaderFields) → AreInRange h → word_2 h < 256 ^ 4
word_2-lt h r = omega (arith, r.version, r.chans_log2, r.units)

word_3-lt : (h : HeaderFields) → AreInRange h → word_3 h < 256 ^ 4
word_3-lt h r = omega (arith, bit_of-le h.complex, r.bits, r.thread, r.station)

-- the extended words, zero in a legacy header
extended_is : (b : Bool) (xs ext : List ℕ) → (b ≡ true → ext ≡ replicate 16 0) → (b ≡ false → xs ≡ ext) → (if b then replicate 16 0 else xs) ≡ ext
extended_is true xs ext p q = sym (p refl)
extended_is false xs ext p q = q refl

length_of : (b : Bool) (ext : List ℕ) → length ext ≡ 16 → 16 + length (if b then [] else ext) ≡ head_bytes b
length_of true ext e = refl
length_of false ext e = omega (arith, e)

-- a header is its fields
same_fields : (h : HeaderFields) (invalid legacy : Bool) (seconds spare epoch frame version chans_log2 units : ℕ) (complex : Bool) (bits thread station : ℕ) (extended : List ℕ)
    → invalid ≡ h.invalid → legacy ≡ h.legacy → seconds ≡ h.seconds → spare ≡ h.spare → epoch ≡ h.epoch → frame ≡ h.frame
    → version ≡ h.version → chans_log2 ≡ h.chans_log2 → units ≡ h.units → complex ≡ h.complex → bits ≡ h.bits → thread ≡ h.thread
    → station ≡ h.station → extended ≡ h.extended
    → (let f : HeaderFields = record {
      invalid = invalid;
      legacy = legacy;
      seconds = seconds;
      spare = spare;
      epoch = epoch;
      frame = frame;
      version = version;
      chans_log2 = chans_log2;
      units = units;
      complex = complex;
      bits = bits;
      thread = thread;
      station = station;
      extended = extended;
    } in f ≡ h)
same_fields h invalid legacy seconds spare epoch frame version chans_log2 units complex bits thread station extended e1 e2 e3 e4 e5 e6 e7 e8 e9 e10 e11 e12 e13 e14 =
    rw (e1, e2, e3, e4, e5, e6, e7, e8, e9, e10, e11, e12, e13, e14) refl

-- the fields of bytes that hold a header's words
fields_of-words : (h : HeaderFields) (bytes : List ℕ) → AreInRange h → word bytes 0 ≡ word_0 h → word bytes 1 ≡ word_1 h → word bytes 2 ≡ word_2 h
    → word bytes 3 ≡ word_3 h
    → (h.legacy ≡ false → take 16 (drop 16 bytes) ≡ h.extended)
    → fields_of bytes ≡ h
unfolding fields_of
fields_of-words h bytes r w0 w1 w2 w3 e =
    let li = bit_of-le h.invalid in
    let ll = bit_of-le h.legacy in
    let lc = bit_of-le h.complex in
    let legacy_is : field bytes 0 30 30 ≡ bit_of h.legacy = omega (arith, w0, li, ll, r.seconds) in
    let legacy : legacy_bit bytes ≡ h.legacy = ap (λ n. n == 1) legacy_is ∙ bit_of-is h.legacy in
    let invalid_is : field bytes 0 31 31 ≡ bit_of h.invalid = omega (arith, w0, li, ll, r.seconds) in
    let invalid : (field bytes 0 31 31 == 1) ≡ h.invalid = ap (λ n. n == 1) invalid_is ∙ bit_of-is h.invalid in
    let seconds : field bytes 0 29 0 ≡ h.seconds = omega (arith, w0, r.seconds) in
    let spare : field bytes 1 31 30 ≡ h.spare = omega (arith, w1, r.spare, r.epoch, r.frame) in
    let epoch : field bytes 1 29 24 ≡ h.epoch = omega (arith, w1, r.spare, r.epoch, r.frame) in
    let frame : field bytes 1 23 0 ≡ h.frame = omega (arith, w1, r.frame) in
    let version : field bytes 2 31 29 ≡ h.version = omega (arith, w2, r.version, r.chans_log2, r.units) in
    let chans : field bytes 2 28 24 ≡ h.chans_log2 = omega (arith, w2, r.version, r.chans_log2, r.units) in
    let units : field bytes 2 23 0 ≡ h.units = omega (arith, w2, r.units) in
    let complex_is : field bytes 3 31 31 ≡ bit_of h.complex = omega (arith, w3, lc, r.bits, r.thread, r.station) in
    let complex : (field bytes 3 31 31 == 1) ≡ h.complex = ap (λ n. n == 1) complex_is ∙ bit_of-is h.complex in
    let bits : field bytes 3 30 26 + 1 ≡ h.bits = omega (arith, w3, lc, r.some_bits, r.bits, r.thread, r.station) in
    let thread : field bytes 3 25 16 ≡ h.thread = omega (arith, w3, r.thread, r.station) in
    let station : field bytes 3 15 0 ≡ h.station = omega (arith, w3, r.station) in
    let extended : (if legacy_bit bytes then replicate 16 0 else take 16 (drop 16 bytes)) ≡ h.extended =
    ap (λ b. if b then replicate 16 0 else take 16 (drop 16 bytes)) legacy ∙ extended_is h.legacy _ _ r.legacy_zero e in
    same_fields h _ _ _ _ _ _ _ _ _ _ _ _ _ _ invalid legacy seconds spare epoch frame version chans units complex bits thread station extended

-- the bytes begin with the words
header_bytes-words : (h : HeaderFields) (rest : List ℕ)
    → header_bytes h ++ rest
    ≡ little_bytes 4 (word_0 h) ++ (little_bytes 4 (word_1 h) ++ (little_bytes 4 (word_2 h) ++ (little_bytes 4 (word_3 h) ++ ((if h.legacy then [] else h.extended) ++ rest))))
unfolding header_bytes
header_bytes-words h rest = refl

-- what a header's bytes say is the header, whatever follows them
pub fields_of-header_bytes : (h : HeaderFields) → AreInRange h → (rest : List ℕ) → fields_of (header_bytes h ++ rest) ≡ h
fields_of-header_bytes h r rest =
    let from_3 : List ℕ = (if h.legacy then [] else h.extended) ++ rest in
    let from_2 : List ℕ = little_bytes 4 (word_3 h) ++ from_3 in
    let from_1 : List ℕ = little_bytes 4 (word_2 h) ++ from_2 in
    let from_0 : List ℕ = little_bytes 4 (word_1 h) ++ from_1 in
    let all : List ℕ = header_bytes h ++ rest in
    let is = header_bytes-words h rest in
    let w0 : word all 0 ≡ word_0 h =
    ap (λ bytes. word bytes 0) is ∙ little_number-reads_back 4 (word_0 h) from_0 (word_0-lt h r) in
    let w1 : word all 1 ≡ word_1 h =
    ap (λ bytes. word bytes 1) is ∙ little_number-reads_back 4 (word_1 h) from_1 (word_1-lt h r) in
    let w2 : word all 2 ≡ word_2 h =
    ap (λ bytes. word bytes 2) is ∙ little_number-reads_back 4 (word_2 h) from_2 (word_2-lt h r) in
    let w3 : word all 3 ≡ word_3 h =
    ap (λ bytes. word bytes 3) is ∙ little_number-reads_back 4 (word_3 h) from_3 (word_3-lt h r) in
    let behind : drop 16 all ≡ from_3 = ap (λ bytes. drop 16 bytes) is in
    fields_of-words h all r w0 w1 w2 w3
    (λ l. ap (λ bytes. take 16 bytes) (behind ∙ ap (λ b. (if b then [] else h.extended) ++ rest) l) ∙ take_at h.extended rest 16 r.extended)

-- the bit of a legacy frame
legacy_bit-fields_of : (bytes : List ℕ) → (fields_of bytes).legacy ≡ legacy_bit bytes
unfolding fields_of
legacy_bit-fields_of bytes = refl

legacy_bit-header_bytes : (h : HeaderFields) → AreInRange h → (rest : List ℕ) → legacy_bit (header_bytes h ++ rest) ≡ h.legacy
legacy_bit-header_bytes h r rest =
    sym (legacy_bit-fields_of (header_bytes h ++ rest)) ∙ ap (λ (f : HeaderFields). f.legacy) (fields_of-header_bytes h r rest)

head_bytes-ge : (b : Bool) → 16 ≤ head_bytes b
head_bytes-ge true = omega arith
head_bytes-ge false = omega arith

head_bytes-data : (b : Bool) → b ≡ false → head_bytes b ≡ 32
head_bytes-data b e = rw e refl

-- a header has as many bytes as its form
pub length-header_bytes : (h : HeaderFields) → AreInRange h → length (header_bytes h) ≡ head_bytes h.legacy
unfolding header_bytes
length-header_bytes h r = omega (arith, length_of h.legacy h.extended r.extended)

-- words 0 to 3 in front of other bytes
abbrev pub words_before : HeaderFields → List ℕ → List ℕ
words_before h rest =
    little_bytes 4 (word_0 h) ++ little_bytes 4 (word_1 h) ++ little_bytes 4 (word_2 h) ++ little_bytes 4 (word_3 h) ++ rest

-- a legacy header's bytes are its words
pub legacy_bytes : (h : HeaderFields) (out : List ℕ) → h.legacy ≡ true
    → words_before h (drop 16 out) ≡ header_bytes h ++ drop (head_bytes h.legacy) out
unfolding header_bytes
legacy_bytes h out l = rw l refl

-- another's are its words and its extended words
pub extended_bytes : (h : HeaderFields) (out written ext : List ℕ) → h.legacy ≡ false → written ≡ words_before h (drop 16 out) → ext ≡ h.extended
    → put_mid 16 16 written ext ≡ header_bytes h ++ drop (head_bytes h.legacy) out
unfolding header_bytes
extended_bytes h out written ext l e x =
    ap (λ w. put_mid 16 16 w ext) e
    ∙ ap (λ tail. words_before h (ext ++ tail)) (drop-drop 16 16 out)
    ∙ ap (λ front. words_before h (front ++ drop 32 out)) x
    ∙ rw l refl

-- bytes that a header begins are enough for it
pub HasHeader-header_bytes : (h : HeaderFields) (rest : List ℕ) → AreInRange h → HasHeader (header_bytes h ++ rest)
HasHeader-header_bytes h rest r =
    let long : length (header_bytes h ++ rest) ≡ head_bytes h.legacy + length rest =
    length-append (header_bytes h) rest ∙ ap (λ n. n + length rest) (length-header_bytes h r) in
    record {
      four_words = omega (arith, long, head_bytes-ge h.legacy);
      eight_words = λ l. omega (arith, long, head_bytes-data h.legacy (sym (legacy_bit-header_bytes h r rest) ∙ l));
    }
