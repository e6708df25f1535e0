use Rattle.std.proofs.Common.{◌<◌, length, arith}
use Rattle.job_text.specs.Inline.{chan_of}
use Rattle.job_text.proofs.InlineLemmas.{map-more}
use Rattle.job_text.proofs.inline.chans_of.Goals as goal

pub loop-i-preserved : goal.loop-i-preserved
loop-i-preserved c =
    let less : c.loop-i.i < length c.args.bands.now = omega arith in
    map-more chan_of c.args.bands.now c.loop-i.i (c.at.result.0.now, c.at.result.1.now) c.loop-i.chans.items c.push.new.self.items c.in_ok-chan.chan less c.at.ensures.entry c.loop-i.invariant c.in_ok-chan.ensures c.in_ok-push.ensures.items
