use Rattle.sink_text.proofs.WrittenText.{Appends-written}
use Rattle.fringe_search.proofs.Certified.{certificate_right}
use Rattle.fringe_search.proofs.write.write_certificate.Goals as goal

pub returns : goal.returns
returns g c =
    let put = c.put_certificate.ensures in
    record {
      lines = put.lines;
      is = put.is;
      right = certificate_right c.args.vis.now c.args.grid.now put.lines put.is;
      appends = Appends-written c.new-lines.ensures put.puts c.end.ensures;
    }
