use Rattle.run_merge.proofs.LawLemmas.{MergeOf-honest}
use Rattle.run_merge.proofs.laws.honest_merge.Goals as goal

pub returns : goal.returns
returns c files job vex names x is honest =
    MergeOf-honest files job vex names x c.kept_epochs_fit.ensures (λ plan keeps. c.honest_shards_make_the_output.ensures plan files keeps) is honest
