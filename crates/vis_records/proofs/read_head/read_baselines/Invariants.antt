use Rattle.std.proofs.Common.{◌≡◌, [], take, map}
use Rattle.std.specs.List.{range_with_len}
use Rattle.vis_records.specs.Heads.{baseline_of}
use Rattle.vis_records.specs.Parts.{Took, in_turn, one_more}
use Rattle.vis_records.specs.Reading.{baseline, last_of}
use Rattle.vis_records.proofs.read_head.read_baselines.Given as goal

abbrev pub invariant-loop-i : goal.invariant-loop-i
invariant-loop-i l =
    in_turn (one_more (λ before. baseline l.stations (last_of before))) [] (take l.i (range_with_len 0 l.count)) l.initial.rest
    ≡ Took (map baseline_of l.baselines.items) l.rest
