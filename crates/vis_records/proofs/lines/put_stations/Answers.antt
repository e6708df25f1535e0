use Rattle.std.proofs.Common.{sym}
use Rattle.sink_text.proofs.WrittenText.{Puts-then}
use Rattle.vis_records.specs.Dumped.{station_line}
use Rattle.vis_records.proofs.NumberedLines.{numbered_first-next, Puts-numbered}
use Rattle.vis_records.proofs.lines.put_stations.Goals as goal

pub loop-i-preserved : goal.loop-i-preserved
loop-i-preserved g c =
    Puts-then
    (numbered_first-next station_line c.args.stations.now c.loop-i.i c.index-stations-i.result c.index-stations-i.result c.loop-i-test.true (sym c.index-stations-i.is))
    c.loop-i.invariant
    c.put_station.ensures

pub returns : goal.returns
returns g c = Puts-numbered station_line c.args.stations.now c.loop-i.i c.loop-i-test.false c.loop-i.invariant
