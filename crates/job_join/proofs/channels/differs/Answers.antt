use Rattle.std.proofs.Common.{ap, ◌∙◌, Option}
use Rattle.std.specs.List.{list_any}
use Rattle.scan_list.specs.declared.scan.Chan.{Chan}
use Rattle.job_join.specs.declared.stands.Here.{Here}
use Rattle.job_join.specs.Channels.{chan_with, are_different}
use Rattle.job_join.proofs.ChannelsLemmas.{differ-by_first}
use Rattle.job_join.proofs.channels.differs.Goals as goal

pub returns : goal.returns
returns c =
    c.have_another.ensures
    ∙ ap (λ (o : Option Chan). list_any (λ (h : Here). are_different o (chan_with h.pass.now c.args.name.now)) c.args.stands.now) c.first_chan.ensures
    ∙ differ-by_first c.args.stands.now c.args.name.now
