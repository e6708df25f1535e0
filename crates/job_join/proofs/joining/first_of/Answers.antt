use Rattle.job_join.proofs.JoinLemmas.{first_there-or}
use Rattle.job_join.proofs.joining.first_of.Goals as goal

pub returns : goal.returns
returns c =
    let e = first_there-or c.args.take c.args.station c.args.rate c.args.channel c.args.product c.args.frame in
    cc
