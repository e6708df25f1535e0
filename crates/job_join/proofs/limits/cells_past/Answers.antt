use Rattle.std.proofs.Common.{ℕ, ◌*◌, ◌≤◌, nat_lt, length, map, filter, find, option_map, All, ap, sym, ◌∙◌, subst}
use Rattle.job_join.specs.declared.fault.Quantity.TheVariants.{Cells}
use Rattle.job_join.specs.declared.joining.Joining.{Joining}
use Rattle.job_join.specs.declared.places.Place.{Place}
use Rattle.job_join.specs.Standing.{taken}
use Rattle.job_join.specs.Limits.{baselines_in}
use Rattle.job_join.specs.Measured.{held_cells}
use Rattle.job_join.proofs.HeldLemmas.{map-taken, cells-held, few-All}
use Rattle.job_join.proofs.limits.cells_past.Goals as goal

pub cells_over-requires-clause-stations : goal.cells_over-requires-clause-stations
cells_over-requires-clause-stations c =
    let j : Joining = c.args.j.now in
    subst (All (λ (p : Place). length p.stands.items ≤ 32)) (sym c.deref.ensures.value) (few-All j.job.now j.places.items c.requires.joining.visits 32 c.requires.stations)

pub returns : goal.returns
unfolding taken
returns c =
    let j : Joining = c.args.j.now in
    c.with_first.ensures ∙ ap (option_map (λ (v : ℕ). (Cells, v))) (c.cells_over.ensures
    ∙ ap (λ ps. find (λ n. nat_lt 4194304 n) (map (held_cells j.job.now) (filter (λ (p : Place). p.taken) ps))) c.deref.ensures.value
    ∙ ap (find (λ n. nat_lt 4194304 n)) (map-taken j.job.now (held_cells j.job.now) (λ scan. length (baselines_in j.job.now scan) * length j.job.now.products * j.job.now.lags) (λ p held. cells-held j.job.now p held) j.places.items c.requires.joining.visits))
