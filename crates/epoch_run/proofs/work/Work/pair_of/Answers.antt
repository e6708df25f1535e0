use Rattle.std.proofs.Common.{◌≡◌, ◌+◌, ◌*◌, ◌∙◌, ℕ, Some, get_or, ap, sym}
use Rattle.std.proofs.lemmas.Option.{slice_get-get_or}
use Rattle.corr_model.specs.declared.cell.Pair.{Pair}
use Rattle.epoch_run.specs.Amounts.{WorkFields}
use Rattle.epoch_run.proofs.work.Work.pair_of.Goals as goal

pub returns : goal.returns
returns c =
    let w = c.args.self.now in
    let none : Pair = record { a = 0; x = 0; b = 0; y = 0 } in
    let place = c.args.piece.now.product * w.epoch.baselines + c.args.piece.now.baseline in
    let baselines : c.from-2.result ≡ w.epoch.baselines =
    c.from-2.ensures ∙ ap (λ (v : WorkFields). v.epoch.baselines) c.self.view_is in
    let there : c.from.result * c.from-2.result + c.from-3.result ≡ place = cc in
    slice_get-get_or w.pairs place none c.requires
    ∙ ap (λ (i : ℕ). Some (get_or w.pairs i none)) (sym there)
    ∙ ap (λ (v : WorkFields). Some (get_or v.pairs (c.from.result * c.from-2.result + c.from-3.result) none)) (sym c.self.view_is)
