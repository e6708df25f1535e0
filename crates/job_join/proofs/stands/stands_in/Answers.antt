use Rattle.std.proofs.Common.{rules}
use Rattle.std.proofs.lemmas.List.Sorted.{IsPermutation-map, IsNonDecreasingBy-from_sort_by_key}
use Rattle.job_join.specs.declared.stands.Here.{Here}
use Rattle.job_join.specs.Standing.{Stand}
use Rattle.job_join.specs.Places.{stand_of, stands_of}
use Rattle.job_join.proofs.StandsLemmas.{stands_in-found, IsNonDecreasingBy-map}
use Rattle.job_join.proofs.stands.stands_in.Goals as goal

pub returns : goal.returns
returns c =
    let up = IsNonDecreasingBy-from_sort_by_key (λ (h : Here). h.number) c.sort_by_key.new.self.items c.in_ok-sort_by_key.ensures.sorted (λ a r q k. search rules) in
    stands_in-found c.args.job.now c.args.scan.now (stands_of c.in_ok-stands.stands.items) (stands_of c.sort_by_key.new.self.items) c.stations.ensures.ranges c.requires.scan
    (rw (← c.stations.ensures.value, ← c.items.ensures) c.in_ok-stands.ensures)
    (IsPermutation-map stand_of c.in_ok-stands.stands.items c.sort_by_key.new.self.items c.in_ok-sort_by_key.ensures.permutation)
    (IsNonDecreasingBy-map stand_of (λ (s : Stand). s.number) c.sort_by_key.new.self.items up)
