use Rattle.std.proofs.Common.{◌≡◌, drop}
use Rattle.std.specs.List.{list_any}
use Rattle.named_list.specs.Named.{names}
use Rattle.job_join.specs.Channels.{differ}
use Rattle.job_join.specs.Places.{stands_of, chans_under}
use Rattle.job_join.proofs.channels.has_other_band.Given as goal

abbrev pub invariant-loop-i : goal.invariant-loop-i
invariant-loop-i l =
    list_any (λ name. differ (chans_under (stands_of l.place.stands.items) name)) (drop l.i (names l.channels))
    ≡ list_any (λ name. differ (chans_under (stands_of l.place.stands.items) name)) (names l.channels)
