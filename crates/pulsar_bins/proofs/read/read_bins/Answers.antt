use Rattle.std.proofs.Common.{Some, None, inr}
use Rattle.std.proofs.lemmas.Result.{err_from_is_err_and}
use Rattle.pulsar_bins.proofs.ReadLemmas.{bins_in-refused, bins_in-read}
use Rattle.pulsar_bins.proofs.read.read_bins.Goals as goal

pub returns-in_err-take_lines : goal.returns-in_err-take_lines
returns-in_err-take_lines c =
    let p = err_from_is_err_and c.from_residual.result c.from_residual.ensures.1 in
    rw (p.1, p.2) (bins_in-refused c.args.text.now _ c.in_err-take_lines.ensures.read)

pub returns-in-Some : goal.returns-in-Some
returns-in-Some c =
    bins_in-read c.args.text.now c.take_lines.new.said (Some c.in-Some.bins) c.in_ok-take_lines.ensures.read c.in-Some.ensures

pub returns-in-None : goal.returns-in-None
returns-in-None c =
    inr (bins_in-read c.args.text.now c.take_lines.new.said None c.in_ok-take_lines.ensures.read c.in-None.ensures)
