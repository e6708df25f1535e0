use Rattle.corr_model.specs.Delay.{delay_at}
use Rattle.job_plan.specs.Output.{integration_start, integration_end}
use Rattle.pulsar_bins.specs.Scans.{phase_in_scan, scan_bin}
use Rattle.pulsar_bins.proofs.BinLemmas.{bin_of-below}
use Rattle.pulsar_bins.proofs.CellLemmas.{bin_cells-sum}
use Rattle.pulsar_bins.proofs.laws.bins_add_up.Goals as goal

pub returns : goal.returns
returns c = λ plan bins z scan m p b lag some.
    bin_cells-sum (scan_bin plan bins scan) bins.count z (record { a = b.a; x = p.x; b = b.b; y = p.y }) scan.samples lag
    (integration_start plan m) (integration_end plan scan m)
    (λ n. bin_of-below bins.count (delay_at (phase_in_scan plan bins.phases scan) n) some)
