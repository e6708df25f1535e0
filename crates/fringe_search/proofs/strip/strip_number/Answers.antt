use Rattle.std.proofs.Common.{◌≡◌, ◌++◌, decimal, rules}
use Rattle.fringe_search.proofs.Strips.{strips_more}
use Rattle.fringe_search.proofs.strip.strip_number.Goals as goal

pub returns : goal.returns
returns c =
    let front : c.args.text.now ≡ decimal c.args.n ++ c.in_ok-middle.middle.now = search rules in
    strips_more c.args.text.now (decimal c.args.n) c.in_ok-middle.middle.now c.args.word.now c.strip-2.result front c.strip-2.ensures
