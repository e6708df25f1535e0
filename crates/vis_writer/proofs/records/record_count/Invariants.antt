use Rattle.std.proofs.Common.{◌≡◌, ◌%◌, ◌^◌, length}
use Rattle.std.specs.List.{flat_map, range_with_len}
use Rattle.vis_writer.proofs.FileText.{places_at}
use Rattle.vis_writer.proofs.records.record_count.Given as goal

abbrev pub invariant-loop-number : goal.invariant-loop-number
invariant-loop-number l = l.count ≡ length (flat_map (places_at l.head) (range_with_len 0 l.number)) % 2 ^ 64
