use Rattle.std.proofs.Common.{◌++◌, ◌∷◌, [], List, ℕ, take, ap, ◌∙◌, arith}
use Rattle.std.proofs.lemmas.List.{take_all, length-map, map-id}
use Rattle.named_list.specs.Named.{names}
use Rattle.job_join.proofs.Sets.{map-names}
use Rattle.job_join.proofs.plans.channel_names.Goals as goal

pub loop-i-preserved : goal.loop-i-preserved
loop-i-preserved c =
    map-names (λ (name : List ℕ). name) c.args.channels.now c.loop-i.i (c.at.result.0.now, c.at.result.1.now) c.loop-i.all.items c.push.new.self.items c.at.ensures.entry c.loop-i.invariant
    (c.in_ok-push.ensures.items ∙ ap (λ y. c.loop-i.all.items ++ y ∷ []) c.in_ok-name.ensures)

pub returns : goal.returns
returns c =
    c.loop-i.invariant ∙ map-id (take c.loop-i.i (names c.args.channels.now)) ∙ take_all c.loop-i.i (names c.args.channels.now) (omega (arith, length-map c.args.channels.now (λ (x : List ℕ × Unit {0}). x.0)))
