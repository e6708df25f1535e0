use Rattle.std.proofs.Common.{Ok}
use Rattle.std.specs.List.{flat_map, range_with_len}
use Rattle.vis_writer.specs.Texts.{text_at}
use Rattle.shard_merge.specs.Writing.{WritesMerged}
use Rattle.shard_merge.proofs.writer.write_scans.Given as goal

abbrev pub invariant-loop-number : goal.invariant-loop-number
invariant-loop-number g l =
    WritesMerged {T = Unit {0}} g.F.Shelf.told g.F.Shelf.faults l.head l.epochs l.shards (λ of. flat_map (text_at l.head of) (range_with_len 0 l.number))
    l.initial.shelf l.shelf (g.S.Sink.told l.initial.out) (g.S.Sink.told l.out) (g.S.Sink.faults l.initial.out) (g.S.Sink.faults l.out) (Ok tt)
