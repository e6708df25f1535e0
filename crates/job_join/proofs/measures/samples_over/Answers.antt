use Rattle.std.proofs.Common.{◌<◌, nat_lt, length, None, Some, arith}
use Rattle.job_join.specs.declared.joining.Joining.{Joining}
use Rattle.job_join.specs.declared.places.Place.{Place}
use Rattle.job_join.specs.Standing.{is_taken, taken}
use Rattle.job_join.specs.Spans.{samples_of}
use Rattle.job_join.specs.Joining.{scans_of}
use Rattle.job_join.proofs.LimitsLemmas.{taken-found, taken-skip, past-at}
use Rattle.job_join.proofs.measures.samples_over.Goals as goal

pub loop-i-preserved : goal.loop-i-preserved
loop-i-preserved c =
    let j : Joining = c.args.j.now in
    let p : Place = c.index.result.now in
    let less : c.loop-i.i < length j.places.items = omega (arith, j.places.ok.0) in
    let its = past-at j c.args.most c.loop-i.i p None c.requires.visits less c.index.ensures c.in-None.ensures in
    taken-skip (is_taken j.job.now.takes) (samples_of j.job.now j.rate) (λ n. nat_lt c.args.most n) (scans_of j) c.loop-i.i p.scan.now _ its.0 its.1 c.loop-i.invariant

pub returns-in-Some : goal.returns-in-Some
unfolding taken
returns-in-Some c =
    let j : Joining = c.args.j.now in
    let p : Place = c.index.result.now in
    let less : c.loop-i.i < length j.places.items = omega (arith, j.places.ok.0) in
    let its = past-at j c.args.most c.loop-i.i p (Some c.in-Some.samples) c.requires.visits less c.index.ensures c.in-Some.ensures in
    taken-found (is_taken j.job.now.takes) (samples_of j.job.now j.rate) (λ n. nat_lt c.args.most n) (scans_of j) c.loop-i.i p.scan.now c.in-Some.samples _ its.0 its.1 c.loop-i.invariant
