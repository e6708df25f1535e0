use Rattle.std.proofs.Common.{◌∙◌, ◌<◌, sym, None, Some, length, arith}
use Rattle.frame_index.proofs.PassedLemmas.{is_passed-at}
use Rattle.frame_index.proofs.latest.LatestFrames.is_passed.Goals as goal

pub returns-in-None : goal.returns-in-None
returns-in-None c =
    let inside : c.args.frame.now.thread < length c.args.self.now.last.items = omega (arith, c.args.self.now.threads) in
    sym (is_passed-at c.args.self.now.last.items c.args.frame.now c.from.result c.index.result.now None inside c.from.ensures c.index.ensures c.in-None.is)

pub returns-in-Some : goal.returns-in-Some
returns-in-Some c =
    let inside : c.args.frame.now.thread < length c.args.self.now.last.items = omega (arith, c.args.self.now.threads) in
    c.is_before.ensures
    ∙ sym (is_passed-at c.args.self.now.last.items c.args.frame.now c.from.result c.index.result.now (Some c.in-Some.latest) inside c.from.ensures c.index.ensures c.in-Some.is)
