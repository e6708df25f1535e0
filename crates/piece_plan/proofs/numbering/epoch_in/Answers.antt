use Rattle.std.proofs.Common.{arith}
use Rattle.piece_plan.proofs.EpochLemmas.{epoch-IsWithin, epoch-is}
use Rattle.piece_plan.proofs.numbering.epoch_in.Goals as goal

pub overflow_mul-start : goal.overflow_mul-start
overflow_mul-start c =
    let within = epoch-IsWithin c.args.size.now.first c.args.size.now.samples c.args.integration c.args.epoch c.args.j c.div_ceil-per.result
    c.requires.integration c.requires.epoch c.requires.inside c.div_ceil-per.ensures in
    omega (arith, within.start)

pub overflow_add-start : goal.overflow_add-start
overflow_add-start c =
    let within = epoch-IsWithin c.args.size.now.first c.args.size.now.samples c.args.integration c.args.epoch c.args.j c.div_ceil-per.result
    c.requires.integration c.requires.epoch c.requires.inside c.div_ceil-per.ensures in
    omega (arith, within.start)

pub overflow_add-from : goal.overflow_add-from
overflow_add-from c =
    let within = epoch-IsWithin c.args.size.now.first c.args.size.now.samples c.args.integration c.args.epoch c.args.j c.div_ceil-per.result
    c.requires.integration c.requires.epoch c.requires.inside c.div_ceil-per.ensures in
    omega (arith, within.from)

pub overflow_add-from-2 : goal.overflow_add-from-2
overflow_add-from-2 c =
    let within = epoch-IsWithin c.args.size.now.first c.args.size.now.samples c.args.integration c.args.epoch c.args.j c.div_ceil-per.result
    c.requires.integration c.requires.epoch c.requires.inside c.div_ceil-per.ensures in
    omega (arith, within.from)

pub returns : goal.returns
returns c scans =
    epoch-is c.args.size.now.first c.args.size.now.samples c.args.integration c.args.epoch c.args.j c.div_ceil-per.result c.args.number _ _ _ c.min-end.result c.min.result
    c.div_ceil-per.ensures c.min-end.ensures c.min.ensures
