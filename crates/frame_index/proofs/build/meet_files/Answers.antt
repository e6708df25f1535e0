use Rattle.std.proofs.Common.{◌∙◌, refl, ap, ℕ, ◌/◌, arith}
use Rattle.frame_index.proofs.PieceLemmas.{files-step, slot_total-more}
use Rattle.frame_index.proofs.build.meet_files.Goals as goal

pub loop-i-preserved : goal.loop-i-preserved
loop-i-preserved g c = record {
  same = c.in_ok-meet_file.ensures.same ∙ c.loop-i.invariant.same;
  faults = c.in_ok-meet_file.ensures.counts.kept ∙ c.loop-i.invariant.faults;
  extends = files-step (g.F.Shelf.told c.args.shelf.now) (g.F.Shelf.told c.loop-i.shelf) c.args.shape.now c.args.files.now c.index-files-i.result c.loop-i.i c.loop-i.i
      (c.index-files-i.result.size / c.args.layout.now.size) c.bytes.result.now
      c.args.builder.now c.loop-i.builder c.meet_file.new.builder c.loop-i.invariant.same c.loop-i-test.true c.index-files-i.is refl
      (ap (λ (n : ℕ). c.index-files-i.result.size / n) c.requires.layout.size) c.bytes.ensures
      c.loop-i.invariant.extends c.in_ok-meet_file.ensures.extends;
  slots = omega (
    arith,
    c.in_ok-meet_file.ensures.slots,
    c.loop-i.invariant.slots,
    slot_total-more c.args.shape.now c.args.files.now c.index-files-i.result c.loop-i.i c.loop-i-test.true c.index-files-i.is,
    ap (λ (n : ℕ). c.index-files-i.result.size / n) c.requires.layout.size,
  );
}
