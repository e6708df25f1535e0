use Rattle.std.proofs.Common.{◌≡◌, [], take}
use Rattle.std.specs.List.{range_with_len}
use Rattle.vis_records.specs.Parts.{Took, in_turn, one_more}
use Rattle.vis_records.specs.Reading.{name}
use Rattle.vis_records.proofs.read_head.read_names.Given as goal

abbrev pub invariant-loop-i : goal.invariant-loop-i
invariant-loop-i l =
    in_turn (one_more (λ _. name)) [] (take l.i (range_with_len 0 l.count)) l.initial.rest ≡ Took l.names.items l.rest
