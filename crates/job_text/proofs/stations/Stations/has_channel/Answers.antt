use Rattle.std.proofs.Common.{sym, ◌∙◌}
use Rattle.job_text.proofs.ChannelLemmas.{has_channel-name}
use Rattle.job_text.proofs.stations.Stations.has_channel.Goals as goal

pub returns-clause-name : goal.returns-clause-name
returns-clause-name c =
    λ yes. has_channel-name c.self.inside.list.items c.args.name.now c.self.invariant.each
    (sym (c.self.invariant.has_names c.args.name.now) ∙ sym c.has.ensures ∙ yes)
