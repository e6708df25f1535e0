use Rattle.std.proofs.Common.{◌≡◌, ◌++◌, map, drop}
use Rattle.std.specs.Prelude.{option_map}
use Rattle.job_lines.specs.Values.{wholes_of}
use Rattle.job_lines.proofs.values.wholes_of.Given as goal

abbrev pub invariant-loop-text : goal.invariant-loop-text
invariant-loop-text l = option_map (λ more. l.numbers.items ++ more) (wholes_of (map (λ text. text.now) (drop l.text-index l.texts))) ≡ wholes_of (map (λ text. text.now) l.fn.texts)
