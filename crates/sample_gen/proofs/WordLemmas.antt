-- Words that are drawn in turns.
use Rattle.std.proofs.Common.{◌≡◌, ◌+◌, ◌*◌, ◌/◌, ℕ, zero, suc, List, [], ◌∷◌, ◌++◌, length, take, refl, sym, ap, ◌∙◌, arith, add-one, append-nil, length-append}
use Rattle.std.specs.Int.{w64, to_le_bytes}
use Rattle.std.specs.List.{flat_map, range_with_len}
use Rattle.std.proofs.lemmas.List.{take_all}
use Rattle.std.proofs.lemmas.Grind.{flat_map-append}
use Rattle.rand_core.specs.Stream.{Stream, next_u64, fill_bytes}
use Rattle.rand_core.specs.Steps.{stream_of, word_bytes}
use Rattle.rand_core.proofs.StepsLemmas.{next_u64-stream_of, fill_bytes-stream_of}
use Rattle.rand_xoshiro.specs.SplitMix64.{mix_u64, splitmix_steps}
use Rattle.sample_gen.specs.Words.{words_from, word, AreNext, bytes_of}

-- no word is drawn yet
pub AreNext-zero : (seed state : ℕ) → state ≡ seed → AreNext seed 0 state
unfolding words_from
AreNext-zero seed state same = ap (stream_of splitmix_steps) same

words_from-suc : (seed n : ℕ) → words_from seed (suc n) ≡ (next_u64 (words_from seed n)).1
unfolding words_from
words_from-suc seed n = refl

-- one word is drawn
pub word-is : (seed n x : ℕ) (before after : Stream) → before ≡ words_from seed n → (x, after) ≡ next_u64 before → x ≡ word seed n
word-is seed n x before after here drawn = ap (λ (p : ℕ × Stream). p.0) (drawn ∙ ap next_u64 here)

pub words_from-next : (seed n x : ℕ) (before after : Stream) → before ≡ words_from seed n → (x, after) ≡ next_u64 before → after ≡ words_from seed (n + 1)
words_from-next seed n x before after here drawn =
    ap (λ (p : ℕ × Stream). p.1) (drawn ∙ ap next_u64 here) ∙ sym (words_from-suc seed n) ∙ ap (words_from seed) (sym (add-one n))

-- numbers in a row, and one more
pub range-more : (a n : ℕ) → range_with_len a (suc n) ≡ range_with_len a n ++ (a + n) ∷ []
range-more a zero = ap (λ m. m ∷ []) (omega arith)
range-more a (suc n) =
    ap (λ (r : List ℕ). a ∷ r) (range-more (a + 1) n)
    ∙ ap (λ m. a ∷ (range_with_len (a + 1) n ++ m ∷ [])) (omega arith)

pub flat_map-more : (f : ℕ → List ℕ) (a n : ℕ) → flat_map f (range_with_len a (suc n)) ≡ flat_map f (range_with_len a n) ++ f (a + n)
flat_map-more f a n =
    ap (flat_map f) (range-more a n)
    ∙ flat_map-append f (range_with_len a n) ((a + n) ∷ [])
    ∙ ap (λ (t : List ℕ). flat_map f (range_with_len a n) ++ t) (append-nil (f (a + n)))

bytes_of-zero : (seed n : ℕ) → bytes_of seed n 0 ≡ []
unfolding bytes_of
bytes_of-zero seed n = refl

bytes_of-suc : (seed n count : ℕ) → bytes_of seed n (suc count) ≡ bytes_of seed n count ++ to_le_bytes w64 (word seed (n + count))
unfolding bytes_of
bytes_of-suc seed n count = flat_map-more (λ i. to_le_bytes w64 (word seed i)) n count

length-word : (x : ℕ) → length (to_le_bytes w64 x) ≡ 8
length-word x = refl

pub length-bytes_of : (seed n count : ℕ) → length (bytes_of seed n count) ≡ 8 * count
length-bytes_of seed n zero = ap length (bytes_of-zero seed n)
length-bytes_of seed n (suc count) =
    let here = length-bytes_of seed n count in
    let more = length-append (bytes_of seed n count) (to_le_bytes w64 (word seed (n + count))) in
    let word = length-word (word seed (n + count)) in
    ap length (bytes_of-suc seed n count) ∙ omega (arith, here, more, word)

-- the bytes of the next words, and what is left to draw
record Filled (seed n count : ℕ) (all : List ℕ × ℕ) : Type 0 where
  bytes : all.0 ≡ bytes_of seed n count
  next : AreNext seed (n + count) all.1

filled : (count state seed n : ℕ) → AreNext seed n state → Filled seed n count (word_bytes (to_le_bytes w64) mix_u64 count state)
unfolding word_bytes
filled zero state seed n here = record {
  bytes = sym (bytes_of-zero seed n);
  next = here ∙ ap (words_from seed) (omega arith);
}
filled (suc count) state seed n here =
    let before = filled count state seed n here in
    let mid : ℕ = (word_bytes (to_le_bytes w64) mix_u64 count state).1 in
    let drawn = sym (next_u64-stream_of splitmix_steps mid) in
    let one = word-is seed (n + count) (mix_u64 mid).0 _ _ before.next drawn in
    let then = words_from-next seed (n + count) (mix_u64 mid).0 _ _ before.next drawn in
    let on : n + count + 1 ≡ n + suc count = omega arith in record {
      bytes =
          ap (λ (front : List ℕ). front ++ to_le_bytes w64 (mix_u64 mid).0) before.bytes
          ∙ ap (λ x. bytes_of seed n count ++ to_le_bytes w64 x) one
          ∙ sym (bytes_of-suc seed n count);
      next = then ∙ ap (words_from seed) on;
    }

-- whole words are drawn as bytes
record Whole (seed n count : ℕ) (bytes : List ℕ) (left : Stream) : Type 0 where
  bytes_are : bytes ≡ bytes_of seed n count
  left_is : left ≡ words_from seed (n + count)

whole : (count size state seed n : ℕ) → (size + 7) / 8 ≡ count → 8 * count ≡ size → AreNext seed n state
    → (let drawn = fill_bytes size (stream_of splitmix_steps state) in Whole seed n count drawn.0 drawn.1)
whole count size state seed n words fits here =
    let all = filled count state seed n here in
    let is : fill_bytes size (stream_of splitmix_steps state) ≡ (take size (word_bytes (to_le_bytes w64) mix_u64 count state).0, stream_of splitmix_steps (word_bytes (to_le_bytes w64) mix_u64 count state).1) =
    fill_bytes-stream_of splitmix_steps size state
    ∙ ap (λ k. (take size (word_bytes (to_le_bytes w64) mix_u64 k state).0, stream_of splitmix_steps (word_bytes (to_le_bytes w64) mix_u64 k state).1)) words in
    let long = length-bytes_of seed n count in
    record {
      bytes_are =
          ap (λ (p : List ℕ × Stream). p.0) is ∙ ap (take size) all.bytes
          ∙ take_all size (bytes_of seed n count) (omega (arith, long, fits));
      left_is = ap (λ (p : List ℕ × Stream). p.1) is ∙ all.next;
    }

pub bytes-are : (count size state seed n : ℕ) (bytes : List ℕ) (after : Stream) → (size + 7) / 8 ≡ count → 8 * count ≡ size → AreNext seed n state
    → (bytes, after) ≡ fill_bytes size (stream_of splitmix_steps state) → bytes ≡ bytes_of seed n count
bytes-are count size state seed n bytes after words fits here drawn =
    ap (λ (p : List ℕ × Stream). p.0) drawn ∙ (whole count size state seed n words fits here).bytes_are

pub words_from-bytes : (count size state seed n : ℕ) (bytes : List ℕ) (after : Stream) → (size + 7) / 8 ≡ count → 8 * count ≡ size → AreNext seed n state
    → (bytes, after) ≡ fill_bytes size (stream_of splitmix_steps state) → after ≡ words_from seed (n + count)
words_from-bytes count size state seed n bytes after words fits here drawn =
    ap (λ (p : List ℕ × Stream). p.1) drawn ∙ (whole count size state seed n words fits here).left_is
