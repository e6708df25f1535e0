use Rattle.std.proofs.Common.{◌≡◌, ℕ, List, cond, Some, None, bytes_eq, ap, sym, ◌∙◌, arith}
use Rattle.std.specs.List.{position}
use Rattle.std.specs.Option.{option_or}
use Rattle.std.proofs.lemmas.List.{take_all}
use Rattle.named_list.specs.Named.{named}
use Rattle.job_text.specs.Job.{StationFields}
use Rattle.job_join.proofs.StandsLemmas.{position-more}
use Rattle.job_join.proofs.stands.station_numbers.Goals as goal

pub loop-i-preserved : goal.loop-i-preserved
loop-i-preserved c = λ q.
    let i : ℕ = c.loop-i.i in
    let xs : List StationFields = c.args.stations.now in
    let s : StationFields = c.index-stations-i.result in
    let key : c.bytes.result.now ≡ s.key = c.bytes.ensures ∙ ap (λ (t : StationFields). t.key) c.station.view_is in
    c.in_ok-number.ensures q
    ∙ ap (λ k. option_or (named c.loop-i.numbers q) (cond (bytes_eq k q) (Some i) None)) key
    ∙ ap (λ o. option_or o (cond (bytes_eq s.key q) (Some i) None)) (c.loop-i.invariant q)
    ∙ sym (position-more (λ (t : StationFields). bytes_eq t.key q) xs i s (omega arith) c.index-stations-i.is)

pub returns : goal.returns
returns c = λ q. c.loop-i.invariant q ∙ ap (position (λ (s : StationFields). bytes_eq s.key q)) (take_all c.loop-i.i c.args.stations.now (omega arith))
