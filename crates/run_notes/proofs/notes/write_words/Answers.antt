use Rattle.run_notes.proofs.notes.write_words.Goals as goal

pub returns : goal.returns
returns g c = rw (← c.name.ensures) c.append_pieces.ensures
