-- The streams of words and of codes.
use Rattle.std.proofs.Common.{◌≡◌, ℕ, ◌*◌, ◌/◌, ◌%◌, ◌<◌, ◌≤◌, List, length, get_or, ℤ, inl, inr, refl, ap, ◌∙◌, arith}
use Rattle.byte_streams.specs.Values.{AreStreams, byte_value}
use Rattle.byte_streams.proofs.Bytes.{all_small}
use Rattle.value_codes.specs.Codes.{value_of}
use Rattle.packed_values.specs.Words.{IsWord, AreWords, word_value, word_at, field_of}
use Rattle.packed_values.specs.Tables.{biased_of, there_of, IsBiasOf}
use Rattle.packed_values.specs.declared.codes.TheConstants.{LEVELS, REAL, IMAGINARY}
use Rattle.packed_values.proofs.Cuts.{word_at-all}
use Rattle.packed_values.proofs.Tables.{IsBias, bias-at, code-value, real-most, imaginary-most, real-none, imaginary-none}

none_word : IsWord 495
none_word = record { re = omega arith; im = omega arith; there = omega arith; none = λ zero. refl }

-- the word at a place is one also outside the row
pub word_at-word : (words : List ℕ) → AreWords words → (n : ℤ) → IsWord (word_at words 495 n)
word_at-word words are n = word_at-all IsWord words 495 are none_word n

-- the streams of the fields of words
pub fields_are : (n : ℕ) (f : ℕ → ℕ) (r i t : List ℕ) → ((k : ℕ) → IsWord (f k)) → length r ≡ n → length i ≡ n → length t ≡ n
    → ((k : ℕ) → k < n → get_or r k 0 ≡ field_of 0 (f k))
    → ((k : ℕ) → k < n → get_or i k 0 ≡ field_of 5 (f k))
    → ((k : ℕ) → k < n → get_or t k 0 ≡ field_of 10 (f k))
    → AreStreams 15 r i t
fields_are n f r i t packed long_r long_i long_t is_r is_i is_t = record {
  low = omega arith;
  long_re = omega (arith, long_r, long_t);
  long_im = omega (arith, long_i, long_t);
  re = all_small 30 r (λ k lt. omega (arith, is_r k (omega (arith, lt, long_r)), (packed k).re));
  im = all_small 30 i (λ k lt. omega (arith, is_i k (omega (arith, lt, long_i)), (packed k).im));
  there = all_small 1 t (λ k lt. omega (arith, is_t k (omega (arith, lt, long_t)), (packed k).there));
  none = λ k lt zero.
      let within : k < n = omega (arith, lt, long_t) in
      let word : f k ≡ 495 = (packed k).none (omega (arith, is_t k within, zero, (packed k).there)) in
      (is_r k within ∙ ap (field_of 0) word, is_i k within ∙ ap (field_of 5) word);
}

-- the value of the fields of a word
pub fields-value : (word r i t : ℕ) → IsWord word → r ≡ field_of 0 word → i ≡ field_of 5 word → t ≡ field_of 10 word
    → byte_value 15 r i t ≡ word_value word
fields-value word r i t packed e f g =
    let re : r ≡ word % 32 = omega (arith, e) in
    let im : i ≡ word / 32 % 32 = omega (arith, f) in
    let there : t ≡ word / 1024 = omega (arith, g, packed.there) in
    rw (re, im, there) refl

-- the streams of the components of codes
module _
    (n bias : ℕ) (f : ℕ → ℕ) (r i t : List ℕ) (low : bias ≤ 15) (bytes : (k : ℕ) → f k < 256) (is_bias : (k : ℕ) → IsBias bias (f k))
    (long_r : length r ≡ n) (long_i : length i ≡ n) (long_t : length t ≡ n)
    (is_r : (k : ℕ) → k < n → get_or r k 0 ≡ biased_of LEVELS REAL bias (f k))
    (is_i : (k : ℕ) → k < n → get_or i k 0 ≡ biased_of LEVELS IMAGINARY bias (f k))
    (is_t : (k : ℕ) → k < n → get_or t k 0 ≡ there_of (f k)) where
  pub components_are : AreStreams bias r i t
  components_are = record {
    low = low;
    long_re = omega (arith, long_r, long_t);
    long_im = omega (arith, long_i, long_t);
    re = all_small (2 * bias) r (λ k lt.
        let within : k < n = omega (arith, lt, long_r) in
        omega (arith, is_r k within, real-most bias (f k) (bytes k) (is_bias k)));
    im = all_small (2 * bias) i (λ k lt.
        let within : k < n = omega (arith, lt, long_i) in
        omega (arith, is_i k within, imaginary-most bias (f k) (bytes k) (is_bias k)));
    there = all_small 1 t (λ k lt. omega (arith, is_t k (omega (arith, lt, long_t))));
    none = λ k lt none.
        let within : k < n = omega (arith, lt, long_t) in
        let zero : there_of (f k) ≡ 0 = omega (arith, is_t k within, none) in
        (is_r k within ∙ real-none bias (f k) (bytes k) (is_bias k) zero, is_i k within ∙ imaginary-none bias (f k) (bytes k) (is_bias k) zero);
  }

  pub components-value : (k : ℕ) → k < n → byte_value bias (get_or r k 0) (get_or i k 0) (get_or t k 0) ≡ value_of (f k)
  components-value k lt = rw (is_r k lt, is_i k lt, is_t k lt) (code-value bias (f k) (bytes k) (is_bias k))

-- the codes of a cut are bytes and have the bias of those in the row

pub code-byte : (codes : List ℕ) → ((k : ℕ) → get_or codes k 0 < 256) → (n : ℤ) → word_at codes 0 n < 256
code-byte codes bytes n = word_at-all (λ c. c < 256) codes 0 (λ j l. bytes j) (omega arith) n

pub code-bias : (bias : ℕ) (codes : List ℕ) → IsBiasOf bias codes → (n : ℤ) → IsBias bias (word_at codes 0 n)
code-bias bias codes is n =
    let outside : IsBias bias 0 = elim is [ inl wide ↦ inl wide | inr narrow ↦ inr (narrow.0, refl) ] in
    word_at-all (IsBias bias) codes 0 (bias-at bias codes is) outside n
