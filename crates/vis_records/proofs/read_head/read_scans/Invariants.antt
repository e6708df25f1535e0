use Rattle.std.proofs.Common.{◌≡◌, [], take, map}
use Rattle.std.specs.List.{range_with_len}
use Rattle.vis_records.specs.Heads.{scan_of}
use Rattle.vis_records.specs.Parts.{Took, in_turn, one_more}
use Rattle.vis_records.specs.Reading.{scan}
use Rattle.vis_records.proofs.read_head.read_scans.Given as goal

abbrev pub invariant-loop-i : goal.invariant-loop-i
invariant-loop-i l =
    in_turn (one_more (λ _. scan l.stations)) [] (take l.i (range_with_len 0 l.count)) l.initial.rest
    ≡ Took (map scan_of l.scans.items) l.rest
