use Rattle.std.proofs.Common.{◌/◌, ◌%◌}
use Rattle.byte_sums.proofs.Joined.{lowers, uppers, lowers-small, uppers-small, added-value, added-len, added-within, added-fits}
use Rattle.byte_sums.proofs.fields.parted.Goals as goal

pub overflow_add-result : goal.overflow_add-result
overflow_add-result c =
    added-fits c.args.sums.lower _ c.args.both (λ n. n % 64) (lowers c.args.both c.requires.lens.2) c.requires.lens.0 c.requires.lens.2 c.requires.lower (lowers-small c.args.both c.requires.both)

pub overflow_add-result-2 : goal.overflow_add-result-2
overflow_add-result-2 c =
    added-fits c.args.sums.upper _ c.args.both (λ n. n / 64) (uppers c.args.both c.requires.lens.2) c.requires.lens.1 c.requires.lens.2 c.requires.upper (uppers-small c.args.both c.requires.both)

pub returns-clause-lower_len : goal.returns-clause-lower_len
returns-clause-lower_len c = added-len c.args.sums.lower _ c.args.both (λ n. n % 64) (lowers c.args.both c.requires.lens.2) c.requires.lens.0 c.requires.lens.2

pub returns-clause-upper_len : goal.returns-clause-upper_len
returns-clause-upper_len c = added-len c.args.sums.upper _ c.args.both (λ n. n / 64) (uppers c.args.both c.requires.lens.2) c.requires.lens.1 c.requires.lens.2

pub returns-clause-lower : goal.returns-clause-lower
returns-clause-lower c = added-value c.args.sums.lower _ c.args.both (λ n. n % 64) (lowers c.args.both c.requires.lens.2) c.requires.lens.0 c.requires.lens.2

pub returns-clause-upper : goal.returns-clause-upper
returns-clause-upper c = added-value c.args.sums.upper _ c.args.both (λ n. n / 64) (uppers c.args.both c.requires.lens.2) c.requires.lens.1 c.requires.lens.2

pub returns-clause-lower_small : goal.returns-clause-lower_small
returns-clause-lower_small c = λ most h.
    added-within c.args.sums.lower _ c.args.both (λ n. n % 64) (lowers c.args.both c.requires.lens.2) c.requires.lens.0 c.requires.lens.2 most h (lowers-small c.args.both c.requires.both)

pub returns-clause-upper_small : goal.returns-clause-upper_small
returns-clause-upper_small c = λ most h.
    added-within c.args.sums.upper _ c.args.both (λ n. n / 64) (uppers c.args.both c.requires.lens.2) c.requires.lens.1 c.requires.lens.2 most h (uppers-small c.args.both c.requires.both)
