use Rattle.std.proofs.Common.{◌≡◌, None, Some, inr, map, ap, sym, ◌∙◌, subst}
use Rattle.std.specs.List.{All}
use Rattle.std.specs.Str.{IsUtf8}
use Rattle.std.proofs.lemmas.List.{length-map}
use Rattle.std.proofs.lemmas.List.Elements.{All-tail}
use Rattle.job_lines.specs.Words.{word_of}
use Rattle.job_text.proofs.TextLemmas.{field-text}
use Rattle.job_text.proofs.RowLemmas.{taken-none, fields_fault-unknown, taken-word}
use Rattle.job_text.proofs.rows.take_fields.Goals as goal

pub returns-in_default-clause-taken : goal.returns-in_default-clause-taken
returns-in_default-clause-taken c = taken-none c.args.inline c.args.draft.now (map (λ field. field.now) c.args.fields.now) (length-map c.args.fields.now (λ field. field.now) ∙ c.in_default.ensures.cases)

pub returns-in_default-word_of-clause-taken : goal.returns-in_default-word_of-clause-taken
returns-in_default-word_of-clause-taken c =
    let are = ap (map (λ field. field.now)) c.in-Some.ensures.cases.0 in
    let unknown : word_of c.in-Some.first.now.now ≡ None = sym c.word_of.ensures ∙ c.in_default-word_of.is in
    inr (fields_fault-unknown c.args.inline c.args.draft.now (map (λ field. field.now) c.args.fields.now) c.in-Some.first.now.now (map (λ field. field.now) c.in-Some.fields.now) are unknown)

pub take_word-requires : goal.take_word-requires
take_word-requires c =
    let are = ap (map (λ field. field.now)) c.in-Some.ensures.cases.0 in
    field-text (map (λ field. field.now) c.in-Some.fields.now) 1 (All-tail IsUtf8 c.in-Some.first.now.now (map (λ field. field.now) c.in-Some.fields.now) (subst (All IsUtf8) are c.requires))

pub returns-clause-taken : goal.returns-clause-taken
returns-clause-taken c =
    let are = ap (map (λ field. field.now)) c.in-Some.ensures.cases.0 in
    let is : word_of c.in-Some.first.now.now ≡ Some c.in-Some-word_of.word = sym c.word_of.ensures ∙ c.in-Some-word_of.is in
    taken-word c.args.inline c.args.draft.now (map (λ field. field.now) c.args.fields.now) c.in-Some.first.now.now (map (λ field. field.now) c.in-Some.fields.now) are c.in-Some-word_of.word c.take_word.result c.take_word.new.draft is c.take_word.ensures.taken
