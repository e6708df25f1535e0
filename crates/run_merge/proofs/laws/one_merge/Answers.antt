use Rattle.run_ready.specs.Recordings.{files_answer}
use Rattle.std.proofs.Common.{None}
use Rattle.run_merge.proofs.LawLemmas.{MergeOf-one}
use Rattle.run_merge.proofs.laws.one_merge.Goals as goal

pub returns : goal.returns
returns c files job vex names a b p q = MergeOf-one files job vex names (c.one_outcome.ensures files (files_answer files) job vex None) a b p q
