use Rattle.std.proofs.Common.{◌∙◌, sym, ℕ, List, [], ◌∷◌, ◌++◌}
use Rattle.std.proofs.lemmas.List.{map_more}
use Rattle.std.proofs.lemmas.List.Elements.{All-push}
use Rattle.std.specs.Borrow.{Bor}
use Rattle.std.specs.Str.{IsUtf8}
use Rattle.run_words.proofs.given.names_of.Goals as goal

pub loop-text-preserved : goal.loop-text-preserved
loop-text-preserved c = record {
  same =
      c.in_ok-push.ensures.items ∙ (λ j. c.loop-text.invariant.same j ++ c.in_ok-name_of.ensures.same j ∷ [])
      ∙ sym (map_more (λ (text : Bor (List ℕ)). text.now) c.args.texts.now c.loop-text.text-index _ c.loop-text-test.true);
  texts = rw c.in_ok-push.ensures.items (All-push IsUtf8 c.loop-text.names.items c.in_ok-name_of.field-0 c.loop-text.invariant.texts c.in_ok-name_of.ensures.text);
}

pub returns-clause-texts : goal.returns-clause-texts
returns-clause-texts c = rw c.of.ensures c.loop-text.invariant.texts
