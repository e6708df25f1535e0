use Rattle.vis_records.proofs.lines.put_sizes.Goals as goal

pub returns : goal.returns
returns g c = rw (← c.lags.ensures, ← c.integration.ensures, ← c.rate.ensures, ← c.from.ensures) c.put_pieces.ensures
