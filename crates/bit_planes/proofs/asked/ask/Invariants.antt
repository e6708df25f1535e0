-- The values so far.
use Rattle.std.proofs.Common.{◌≡◌, ◌<◌, ◌+◌, ℕ, None, length, map, pos, slice_index_or}
use Rattle.packed_values.specs.Words.{AreWords, word_value}
use Rattle.bit_planes.proofs.asked.ask.Given as goal

abbrev pub invariant-loop-k : goal.invariant-loop-k
invariant-loop-k g l = record {
  are : AreWords l.words.items;
  long : length l.words.items ≡ l.k;
  values : (j : ℕ) → j < l.k → slice_index_or (map word_value l.words.items) j None ≡ g.V.Values.samples l.v l.station l.chan (pos (l.n + j));
}
