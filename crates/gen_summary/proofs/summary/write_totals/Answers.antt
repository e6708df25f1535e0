use Rattle.std.proofs.Common.{◌∙◌, refl, ap, rules, FitsSigned}
use Rattle.std.specs.Int.{w128}
use Rattle.std.proofs.lemmas.Int.{to_z-of_z}
use Rattle.std.specs.Fmt.{decimal, signed_decimal}
use Rattle.std.specs.List.{sum_by}
use Rattle.sink_text.proofs.WrittenText.{Puts-then, Appends-written}
use Rattle.gen_summary.specs.Totals.{total}
use Rattle.gen_summary.proofs.TotalLemmas.{totals_text-lines}
use Rattle.gen_summary.proofs.summary.write_totals.Goals as goal

pub returns : goal.returns
returns g c =
    let cells = c.cells.ensures.cells in
    let re_fits : FitsSigned w128 c.totals_of-totals.result.re = search rules in
    let im_fits : FitsSigned w128 c.totals_of-totals.result.im = search rules in
    Appends-written c.new-lines.ensures
    (Puts-then
    (totals_text-lines c.args.vis.now c.args.bytes _ _ _ _ _
    (c.format.ensures.text ∙ ap decimal c.records_of.ensures)
    c.format-2.ensures.text
    (c.format-3.ensures.text ∙ ap decimal (c.totals_of-totals.ensures.pairs ∙ ap (sum_by (λ c. c.count)) cells))
    (c.format-4.ensures.text ∙ ap signed_decimal (to_z-of_z w128 c.totals_of-totals.result.re re_fits ∙ c.totals_of-totals.ensures.re ∙ ap (total (λ c. c.re)) cells))
    (c.format-5.ensures.text ∙ ap signed_decimal (to_z-of_z w128 c.totals_of-totals.result.im im_fits ∙ c.totals_of-totals.ensures.im ∙ ap (total (λ c. c.im)) cells)))
    (Puts-then refl (Puts-then refl (Puts-then refl c.put_line.ensures c.put_line-2.ensures) c.put_line-3.ensures) c.put_line-4.ensures)
    c.put_line-5.ensures)
    c.end.ensures
