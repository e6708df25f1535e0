use Rattle.std.proofs.Common.{◌≡◌, ◌<◌, ℕ, List, cond, Some, None, bytes_eq, length, get_or, ap, sym, ◌∙◌, arith}
use Rattle.std.specs.List.{position}
use Rattle.std.specs.Option.{option_or}
use Rattle.std.proofs.lemmas.List.{take_all, length-map}
use Rattle.named_list.specs.Named.{names}
use Rattle.job_join.proofs.Sets.{get_or-names}
use Rattle.job_join.proofs.StandsLemmas.{position-more}
use Rattle.job_join.proofs.plans.channel_numbers.Goals as goal

pub loop-i-preserved : goal.loop-i-preserved
loop-i-preserved c = λ q.
    let i : ℕ = c.loop-i.i in
    let xs : List (List ℕ) = names c.args.channels.now in
    let n : List ℕ = c.at.result.0.now in
    let here : n ≡ get_or xs i n = sym (get_or-names c.args.channels.now i (c.at.result.0.now, c.at.result.1.now) n c.at.ensures.entry) in
    let less : i < length xs = omega (arith, length-map c.args.channels.now (λ (x : List ℕ × Unit {0}). x.0)) in
    c.in_ok-number.ensures q
    ∙ ap (λ o. option_or o (cond (bytes_eq n q) (Some i) None)) (c.loop-i.invariant q)
    ∙ sym (position-more (λ other. bytes_eq other q) xs i n less here)

pub returns : goal.returns
returns c = λ q. c.loop-i.invariant q
    ∙ ap (position (λ other. bytes_eq other q)) (take_all c.loop-i.i (names c.args.channels.now) (omega (arith, length-map c.args.channels.now (λ (x : List ℕ × Unit {0}). x.0))))
