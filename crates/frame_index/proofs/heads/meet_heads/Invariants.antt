use Rattle.std.proofs.Common.{◌≡◌, ◌+◌, ℕ, List}
use Rattle.frame_index.specs.Building.{Extends}
use Rattle.frame_index.specs.Pieces.{placed_run, IsPieceOf}
use Rattle.frame_index.proofs.heads.meet_heads.Given as goal

abbrev pub invariant-loop-j : goal.invariant-loop-j
invariant-loop-j l = record {
  extends : (bytes : List ℕ) → IsPieceOf l.shape.frame_bytes bytes l.k l.n l.heads
      → Extends l.shape l.initial.builder l.builder (placed_run l.shape.frame_bytes l.file bytes l.k l.j);
  slots : l.builder.counts.slots ≡ l.initial.builder.counts.slots + l.j;
}
