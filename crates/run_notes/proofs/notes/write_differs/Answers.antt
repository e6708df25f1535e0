use Rattle.std.proofs.Common.{◌≡◌, ◌∙◌, ◌++◌, [], ◌∷◌, ℕ, ℤ, w64, FitsSigned, to_z, of_z, rules, refl, sym, ap, append_assoc}
use Rattle.std.proofs.lemmas.Int.{to_z-of_z}
use Rattle.sink_text.proofs.WrittenText.{Puts-then, Appends-written}
use Rattle.run_notes.specs.Answers.{place_text, cell_text}
use Rattle.run_notes.proofs.notes.write_differs.Goals as goal

pub returns : goal.returns
returns g c =
    let place = place_text c.args.integration c.args.group.now c.args.lag.now in
    let first = cell_text c.args.first.now in
    let other = cell_text c.args.other.now in
    let fits : FitsSigned w64 c.from-2.result = search rules in
    let group : c.from.result ≡ c.args.group.now = search rules in
    let lag : to_z w64 (of_z w64 c.from-2.result) ≡ c.args.lag.now = to_z-of_z w64 c.from-2.result fits ∙ search rules in
    Appends-written c.new-line.ensures
    (Puts-then
    (sym (ap (λ (z : ℤ). ((place_text c.args.integration c.from.result z ++ first) ++ other) ++ (10 ∷ [])) lag
    ∙ ap (λ (n : ℕ). ((place_text c.args.integration n c.args.lag.now ++ first) ++ other) ++ (10 ∷ [])) group
    ∙ append_assoc (place ++ first) other (10 ∷ []) ∙ append_assoc place first (other ++ (10 ∷ []))))
    (Puts-then refl (Puts-then refl c.put_place.ensures c.put_cell.ensures) c.put_cell-2.ensures)
    c.put.ensures)
    c.finish.ensures
