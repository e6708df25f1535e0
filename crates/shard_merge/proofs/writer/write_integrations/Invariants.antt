use Rattle.std.proofs.Common.{Ok}
use Rattle.std.specs.List.{flat_map, range_with_len}
use Rattle.vis_writer.specs.Texts.{integration_at}
use Rattle.shard_merge.specs.Writing.{WritesMerged}
use Rattle.shard_merge.proofs.writer.write_integrations.Given as goal

abbrev pub invariant-loop-m : goal.invariant-loop-m
invariant-loop-m g l =
    WritesMerged {T = Unit {0}} g.F.Shelf.told g.F.Shelf.faults l.head l.epochs l.shards
    (λ of. flat_map (λ m. integration_at l.head l.number m (of l.number m)) (range_with_len 0 l.m))
    l.initial.shelf l.shelf (g.S.Sink.told l.initial.out) (g.S.Sink.told l.out) (g.S.Sink.faults l.initial.out) (g.S.Sink.faults l.out) (Ok tt)
