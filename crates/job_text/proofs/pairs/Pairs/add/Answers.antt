use Rattle.std.proofs.Common.{◌≡◌, ◌∙◌, ap, not, rules}
use Rattle.job_text.specs.Faults.{is_pair_among}
use Rattle.job_text.proofs.PairLemmas.{shown, among-shown}
use Rattle.job_text.proofs.pairs.Pairs.add.Goals as goal

pub returns-clause-answer : goal.returns-clause-answer
returns-clause-answer c =
    let x : c.in_ok-x.x.items ≡ c.args.x.now = search rules in
    let y : c.in_ok-y.y.items ≡ c.args.y.now = search rules in
    rw (← c.self.view_is)
    (c.in_ok-insert.ensures.added
    ∙ ap not (among-shown c.in_ok-x.x c.in_ok-y.y c.self.inside.pairs.keys)
    ∙ (λ i. not (is_pair_among (x i) (y i) (shown c.self.inside.pairs.keys))))
