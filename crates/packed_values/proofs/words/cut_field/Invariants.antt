-- The fields so far.
use Rattle.std.proofs.Common.{◌≡◌, ◌<◌, ℕ, pos, ◌+ℤ◌, length, slice_index}
use Rattle.packed_values.specs.Words.{field_of, word_at}
use Rattle.packed_values.proofs.words.cut_field.Given as goal

abbrev pub invariant-loop-k : goal.invariant-loop-k
invariant-loop-k l = record {
  len : length l.out ≡ length l.fn.out;
  done : (k : ℕ) → k < l.k → slice_index l.out k ≡ field_of l.shift (word_at l.words 495 (l.start +ℤ pos k));
}

abbrev pub invariant-loop-k-2 : goal.invariant-loop-k-2
invariant-loop-k-2 l = record {
  len : length l.out ≡ length l.fn.out;
  done : (k : ℕ) → k < l.k → slice_index l.out k ≡ field_of l.shift (word_at l.words 495 (l.start +ℤ pos k));
}

abbrev pub invariant-loop-k-3 : goal.invariant-loop-k-3
invariant-loop-k-3 l = record {
  len : length l.out ≡ length l.fn.out;
  done : (k : ℕ) → k < l.k → slice_index l.out k ≡ field_of l.shift (word_at l.words 495 (l.start +ℤ pos k));
}
