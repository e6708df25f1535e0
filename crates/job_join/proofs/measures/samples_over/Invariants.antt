use Rattle.std.proofs.Common.{◌≡◌, nat_lt, map, filter, find, drop}
use Rattle.job_join.specs.Standing.{is_taken}
use Rattle.job_join.specs.Spans.{samples_of}
use Rattle.job_join.specs.Joining.{scans_of}
use Rattle.job_join.proofs.measures.samples_over.Given as goal

abbrev pub invariant-loop-i : goal.invariant-loop-i
invariant-loop-i l =
    find (λ n. nat_lt l.most n) (map (samples_of l.j.job.now l.j.rate) (filter (is_taken l.j.job.now.takes) (drop l.i (scans_of l.j))))
    ≡ find (λ n. nat_lt l.most n) (map (samples_of l.j.job.now l.j.rate) (filter (is_taken l.j.job.now.takes) (scans_of l.j)))
