use Rattle.std.proofs.Common.{◌≡◌, drop}
use Rattle.std.specs.List.{list_any}
use Rattle.job_join.specs.Places.{stands_of}
use Rattle.job_join.proofs.ChannelsLemmas.{is_unlike}
use Rattle.job_join.proofs.channels.has_unlike_product.Given as goal

abbrev pub invariant-loop-i : goal.invariant-loop-i
invariant-loop-i l =
    list_any (is_unlike (stands_of l.place.stands.items)) (drop l.i l.products) ≡ list_any (is_unlike (stands_of l.place.stands.items)) l.products
