use Rattle.std.proofs.Common.{None, arith, rules}
use Rattle.run_sums.proofs.FrameLemmas.{rows_few}
use Rattle.run_sums.proofs.MadeLemmas.{AreAllMade-append}
use Rattle.run_sums.proofs.made.+groups.Goals as goal

pub join_mut+arg3-overflow_add-first : goal.join_mut+arg3-overflow_add-first
join_mut+arg3-overflow_add-first g t c = omega (arith, c.requires.inside, rows_few None c.captures.making.now c.requires.making)

pub returns : goal.returns
returns g t c =
    AreAllMade-append c.args.making.now c.args.first c.args.share c.own-1.given.0 c.rest-1.given.0
    (first_of (omega (arith, c.split_at_mut-own.ensures.front_len), grind (arith, c.split_at_mut-own.ensures.front_len), search rules)) (search rules) (search rules)
