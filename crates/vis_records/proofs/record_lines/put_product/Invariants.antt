use Rattle.std.proofs.Common.{take, ℕ, [], ◌∷◌}
use Rattle.std.specs.List.{flat_map, range_with_len}
use Rattle.vis_records.specs.Dumping.{PutsRecords}
use Rattle.vis_records.proofs.record_lines.put_product.Given as goal

abbrev pub invariant-loop-i : goal.invariant-loop-i
invariant-loop-i g l =
    PutsRecords l.lags (flat_map (λ (b : ℕ). record { scan = l.number; m = l.m; product = l.product; baseline = b } ∷ []) (take l.i (range_with_len 0 l.count))) l.cells l.left l.initial.lines l.lines
    (g.S.Sink.told l.initial.out) (g.S.Sink.told l.out)
    (g.S.Sink.faults l.initial.out) (g.S.Sink.faults l.out)
