use Rattle.std.proofs.Common.{◌∙◌}
use Rattle.num_time.proofs.GrammarLemmas.{decimal_of-written, IsNumber-decimal_of}
use Rattle.num_time.proofs.numerals.decimal.Goals as goal

pub returns-clause-written : goal.returns-clause-written
returns-clause-written c = λ negative front back w.
    c.split_and_scaled.ensures ∙ decimal_of-written c.args.text.now c.args.places negative front back w

pub returns-clause-number : goal.returns-clause-number
returns-clause-number c = λ h. IsNumber-decimal_of c.args.text.now c.args.places (λ e. h (c.split_and_scaled.ensures ∙ e))
