use Rattle.std.proofs.Common.{ap, ◌∙◌, arith}
use Rattle.std.proofs.lemmas.List.{take_all}
use Rattle.named_list.specs.Named.{names}
use Rattle.job_join.proofs.ChannelsLemmas.{used, used-turn, names-used}
use Rattle.job_join.proofs.channels.channels_of.Goals as goal

pub loop-i-preserved : goal.loop-i-preserved
loop-i-preserved c =
    used-turn c.args.products.now c.loop-i.i c.at.result.0.now c.at.result.1.now c.loop-i.channels c.add.new.channels c.at.ensures c.loop-i.invariant c.in_ok-add.ensures

pub returns : goal.returns
returns c =
    ap names (c.loop-i.invariant ∙ ap used (take_all c.loop-i.i c.args.products.now (omega arith))) ∙ names-used c.args.products.now
