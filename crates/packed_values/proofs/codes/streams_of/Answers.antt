use Rattle.std.proofs.Common.{◌-ℤ◌, ℕ, pos, length}
use Rattle.packed_values.specs.Words.{word_at}
use Rattle.packed_values.proofs.Fields.{components_are, components-value, code-byte, code-bias}
use Rattle.packed_values.proofs.Tables.{bias-low}
use Rattle.packed_values.proofs.codes.streams_of.Goals as goal

pub invariant_of-result : goal.invariant_of-result
invariant_of-result c =
    let codes = c.args.codes.now in
    let at = λ (k : ℕ). pos k -ℤ pos c.args.first in
    let cut = c.fill_cut.ensures in
    record {
      streams = components_are (length c.args.there.now) c.args.bias (λ k. word_at codes 0 (at k)) c.fill_cut.new.re c.fill_cut.new.im c.fill_cut.new.there
          (bias-low c.args.bias codes c.requires.bias) (λ k. code-byte codes (λ j. (c.type_inv.codes j).fits) (at k)) (λ k. code-bias c.args.bias codes c.requires.bias (at k))
          cut.re_len cut.im_len cut.there_len cut.re cut.im cut.there;
    }

pub returns-clause-values : goal.returns-clause-values
returns-clause-values c =
    let codes = c.args.codes.now in
    let at = λ (k : ℕ). pos k -ℤ pos c.args.first in
    let cut = c.fill_cut.ensures in
    components-value (length c.args.there.now) c.args.bias (λ k. word_at codes 0 (at k)) c.fill_cut.new.re c.fill_cut.new.im c.fill_cut.new.there
    (bias-low c.args.bias codes c.requires.bias) (λ k. code-byte codes (λ j. (c.type_inv.codes j).fits) (at k)) (λ k. code-bias c.args.bias codes c.requires.bias (at k))
    cut.re_len cut.im_len cut.there_len cut.re cut.im cut.there
