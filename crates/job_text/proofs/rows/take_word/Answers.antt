use Rattle.std.proofs.Common.{◌≡◌, inr, map, sym, ◌∙◌, false, ◌&&◌, not}
use Rattle.job_lines.specs.Words.{is_inline}
use Rattle.job_text.proofs.RowLemmas.{word_fault-early, word_fault-unwritten, taken-row}
use Rattle.job_text.proofs.SoundLemmas.{sound-taken}
use Rattle.job_text.proofs.rows.take_word.Goals as goal

pub returns-then-is_out_of_place-clause-taken : goal.returns-then-is_out_of_place-clause-taken
returns-then-is_out_of_place-clause-taken c =
    inr (word_fault-early c.args.inline c.args.draft.now c.args.word (map (λ field. field.now) c.args.fields.now) (sym c.is_out_of_place.ensures ∙ c.if-is_out_of_place.true))

pub returns-then-not-are_written-clause-taken : goal.returns-then-not-are_written-clause-taken
returns-then-not-are_written-clause-taken c =
    let here : (is_inline c.args.word && not c.args.inline) ≡ false = sym c.is_out_of_place.ensures ∙ c.if-is_out_of_place.false in
    let answer = rw (c.needed.ensures, c.further.ensures) at c.are_written.ensures in
    inr (word_fault-unwritten c.args.inline c.args.draft.now c.args.word (map (λ field. field.now) c.args.fields.now) here (sym answer ∙ c.if-not-are_written.true))

pub returns-clause-taken : goal.returns-clause-taken
returns-clause-taken c =
    let here : (is_inline c.args.word && not c.args.inline) ≡ false = sym c.is_out_of_place.ensures ∙ c.if-is_out_of_place.false in
    let answer = rw (c.needed.ensures, c.further.ensures) at c.are_written.ensures in
    taken-row c.args.inline c.args.draft.now c.args.word (map (λ field. field.now) c.args.fields.now) here c.take_row.result c.take_row.new.self (sym answer ∙ c.if-not-are_written.false) c.take_row.ensures.taken

pub returns-clause-sound : goal.returns-clause-sound
returns-clause-sound c = sound-taken c.args.draft.now c.take_row.new.self c.args.word (map (λ field. field.now) c.args.fields.now) c.take_row.result c.take_row.ensures.taken c.take_row.ensures.sound
