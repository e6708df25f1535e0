use Rattle.std.proofs.Common.{◌≡◌, map, take}
use Rattle.std.specs.List.{All}
use Rattle.std.specs.Str.{IsUtf8}
use Rattle.run_words.proofs.given.names_of.Given as goal

abbrev pub invariant-loop-text : goal.invariant-loop-text
invariant-loop-text l = record {
  same : l.names.items ≡ map (λ text. text.now) (take l.text-index l.texts);
  texts : All IsUtf8 l.names.items;
}
