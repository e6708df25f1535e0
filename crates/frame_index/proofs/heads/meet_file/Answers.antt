use Rattle.std.proofs.Common.{◌∙◌, ◌+◌, ◌≤◌, ap, ℕ, arith}
use Rattle.dev_traits.specs.Files.{bytes_of}
use Rattle.frame_index.specs.Pieces.{placed_run}
use Rattle.frame_index.proofs.ToldLemmas.{WhereTold-weaker}
use Rattle.frame_index.proofs.PieceLemmas.{file-step, Extends-same}
use Rattle.frame_index.proofs.heads.meet_file.Goals as goal

pub loop-k-preserved : goal.loop-k-preserved
loop-k-preserved g c =
    let within : c.loop-k.k + c.min-n.result ≤ c.args.count = omega (arith, c.min-n.ensures) in
    record {
      within = within;
      same = c.in_ok-meet_piece.ensures.same ∙ c.loop-k.invariant.same;
      faults = c.in_ok-meet_piece.ensures.counts.kept ∙ c.loop-k.invariant.faults;
      extends = λ utf8. file-step (g.F.Shelf.told c.args.shelf.now) (g.F.Shelf.told c.loop-k.shelf) c.args.shape.now c.args.file c.args.count c.loop-k.k c.min-n.result c.args.name.now
          c.args.builder.now c.loop-k.builder c.meet_piece.new.builder c.loop-k.invariant.same within (c.loop-k.invariant.extends utf8) (c.in_ok-meet_piece.ensures.extends utf8);
      slots = omega (arith, c.in_ok-meet_piece.ensures.slots, c.loop-k.invariant.slots);
    }

pub returns-clause-extends : goal.returns-clause-extends
returns-clause-extends g c = λ utf8.
    WhereTold-weaker (g.F.Shelf.told c.args.shelf.now) _ _
    (λ files so_far count. Extends-same c.args.shape.now c.args.builder.now c.loop-k.builder _ _
    (ap (λ (n : ℕ). placed_run c.args.shape.now.frame_bytes c.args.file (bytes_of (files c.args.name.now)) 0 n) (omega (arith, count, c.loop-k.invariant.within)))
    (so_far count))
    (c.loop-k.invariant.extends utf8)
