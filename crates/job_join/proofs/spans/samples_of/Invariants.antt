use Rattle.std.proofs.Common.{◌≡◌, ◌<◌, ◌^◌, max, fold, take}
use Rattle.job_join.specs.declared.stands.Here.{Here}
use Rattle.job_join.specs.Spans.{end_sample}
use Rattle.job_join.proofs.spans.samples_of.Given as goal

abbrev pub invariant-loop-here : goal.invariant-loop-here
invariant-loop-here l = record {
  value : l.most ≡ fold (λ most (h : Here). max most (end_sample l.rate h.pass.now)) 0 (take l.here-index l.stands);
  bound : l.most < 2 ^ 95;
}
