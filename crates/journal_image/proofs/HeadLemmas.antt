-- The bytes of a record's head.
use Rattle.std.proofs.Common.{◌≡◌, ◌∙◌, ℕ, ◌+◌, ◌-◌, List, ◌++◌, length, take, drop, sym, ap, arith, append_assoc}
use Rattle.std.proofs.lemmas.List.{take-append-drop, drop-drop, take_all, length-drop}
use Rattle.byteorder.specs.Endian.{little_from}
use Rattle.journal_image.specs.Head.{head_text, head_of}
use Rattle.journal_image.proofs.Numbers.{AreBytes, read_number, bytes_at}

-- the next n bytes from a place on, and those behind them
apart : (n a : ℕ) (xs : List ℕ) → take n (drop a xs) ++ drop (a + n) xs ≡ drop a xs
apart n a xs = ap (λ (l : List ℕ). take n (drop a xs) ++ l) (sym (drop-drop n a xs)) ∙ take-append-drop n (drop a xs)

head_text-head_of : (bytes : List ℕ) → length bytes ≡ 28 → AreBytes bytes → head_text (head_of bytes) ≡ bytes
head_text-head_of bytes long are =
    let scan = bytes_at 4 0 bytes (omega (arith, long)) (λ k below. are (0 + k)) in
    let m = bytes_at 8 4 bytes (omega (arith, long)) (λ k below. are (4 + k)) in
    let from = bytes_at 8 12 bytes (omega (arith, long)) (λ k below. are (12 + k)) in
    let to = bytes_at 8 20 bytes (omega (arith, long)) (λ k below. are (20 + k)) in
    let last : take 8 (drop 20 bytes) ≡ drop 20 bytes = take_all 8 (drop 20 bytes) (omega (arith, long, length-drop 20 bytes)) in
    (λ i. (scan i ++ (m i ++ from i)) ++ (to ∙ last) i)
    ∙ append_assoc (take 4 (drop 0 bytes)) (take 8 (drop 4 bytes) ++ take 8 (drop 12 bytes)) (drop 20 bytes)
    ∙ ap (λ (l : List ℕ). take 4 (drop 0 bytes) ++ l)
    (append_assoc (take 8 (drop 4 bytes)) (take 8 (drop 12 bytes)) (drop 20 bytes) ∙ ap (λ (l : List ℕ). take 8 (drop 4 bytes) ++ l) (apart 8 12 bytes) ∙ apart 8 4 bytes)
    ∙ apart 4 0 bytes

-- 28 bytes are the text of the range that is read of them
pub head_read : (bytes : List ℕ) (scan m from to : ℕ) → length bytes ≡ 28 → AreBytes bytes → scan ≡ little_from 0 4 bytes
    → m ≡ little_from 0 8 (take (length bytes - 4) (drop 4 bytes)) → from ≡ little_from 0 8 (take (length bytes - 12) (drop 12 bytes))
    → to ≡ little_from 0 8 (take (length bytes - 20) (drop 20 bytes)) → bytes ≡ head_text (record { scan = scan; m = m; from = from; to = to })
head_read bytes scan m from to long are one two three four =
    sym (head_text-head_of bytes long are)
    ∙ (λ i. head_text (record {
      scan = sym one i;
      m = sym (read_number 8 4 bytes m two) i;
      from = sym (read_number 8 12 bytes from three) i;
      to = sym (read_number 8 20 bytes to four) i;
    }))
