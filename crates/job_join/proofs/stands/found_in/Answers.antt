use Rattle.std.proofs.Common.{◌++◌, filter_map, ap, ◌∙◌, arith}
use Rattle.std.proofs.lemmas.List.{take_all}
use Rattle.std.specs.Option.{option_to_list}
use Rattle.job_join.specs.Places.{stands_of, found_at}
use Rattle.job_join.proofs.StandsLemmas.{filter_map-turn}
use Rattle.job_join.proofs.stands.found_in.Goals as goal

pub loop-pass-preserved : goal.loop-pass-preserved
loop-pass-preserved c =
    filter_map-turn (found_at c.args.stations.now) c.args.passes.now c.loop-pass.pass-index c.pass-item.result (stands_of c.loop-pass.found.items) _ (omega arith) c.pass-item.is c.loop-pass.invariant
    (c.in_ok-add.ensures ∙ ap (λ o. stands_of c.loop-pass.found.items ++ option_to_list o) c.here_of.ensures)

pub returns : goal.returns
returns c = c.loop-pass.invariant ∙ ap (filter_map (found_at c.args.stations.now)) (take_all c.loop-pass.pass-index c.args.passes.now c.loop-pass-test.false)
