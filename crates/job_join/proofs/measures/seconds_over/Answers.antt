use Rattle.std.proofs.Common.{nat_lt, ap, ◌∙◌, arith}
use Rattle.job_join.specs.declared.places.Place.{Place}
use Rattle.job_join.specs.Measured.{held_seconds}
use Rattle.job_join.proofs.LimitsLemmas.{taken_value, taken-found, taken-skip}
use Rattle.job_join.proofs.measures.seconds_over.Goals as goal

pub loop-place-preserved : goal.loop-place-preserved
loop-place-preserved c =
    let p : Place = c.place-item.result in
    let value = c.in-None.ensures ∙ ap (taken_value (λ (q : Place). q.taken) (held_seconds c.args.rate) (λ n. nat_lt c.args.most n)) c.place-item.is in
    taken-skip (λ (q : Place). q.taken) (held_seconds c.args.rate) (λ n. nat_lt c.args.most n) c.args.places.now c.loop-place.place-index p _ (omega arith) value c.loop-place.invariant

pub returns-in-Some : goal.returns-in-Some
returns-in-Some c =
    let p : Place = c.place-item.result in
    let value = c.in-Some.ensures ∙ ap (taken_value (λ (q : Place). q.taken) (held_seconds c.args.rate) (λ n. nat_lt c.args.most n)) c.place-item.is in
    taken-found (λ (q : Place). q.taken) (held_seconds c.args.rate) (λ n. nat_lt c.args.most n) c.args.places.now c.loop-place.place-index p c.in-Some.seconds _ (omega arith) value c.loop-place.invariant
