use Rattle.std.proofs.Common.{take, sym, ap, ◌∙◌}
use Rattle.std.proofs.lemmas.List.{take-map}
use Rattle.value_codes.specs.Codes.{value_of}
use Rattle.packed_values.specs.Words.{word_value}
use Rattle.packed_values.specs.Packed.{values_of}
use Rattle.packed_values.proofs.row.Packed.first.Goals as goal

pub returns-in-Codes : goal.returns-in-Codes
returns-in-Codes c = sym (take-map value_of c.args.count c.in-Codes.codes.now) ∙ ap (λ s. take c.args.count (values_of s)) (sym c.in-Codes.is)

pub returns-in-Words : goal.returns-in-Words
returns-in-Words c = sym (take-map word_value c.args.count c.in-Words.row.words.now) ∙ ap (λ s. take c.args.count (values_of s)) (sym c.in-Words.is)
