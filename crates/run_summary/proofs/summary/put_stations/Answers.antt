use Rattle.std.proofs.Common.{◌≡◌, ◌<◌, length, ap, sym, ◌∙◌, arith}
use Rattle.station_stream.specs.declared.recording.Recording.{Recording}
use Rattle.run_summary.proofs.SummaryLemmas.{PutsLines-next}
use Rattle.run_summary.proofs.summary.put_stations.Goals as goal

pub loop-i-preserved : goal.loop-i-preserved
loop-i-preserved g c =
    let within : c.loop-i.i < length c.args.recordings.now = omega (arith, c.requires.each, c.loop-i-test.true) in
    let counts : c.counts.result ≡ c.index-recordings-i.result.index.counts =
    c.counts.ensures ∙ ap (λ (r : Recording). r.index.counts) (sym c.index-recordings-i.is) in
    PutsLines-next c.args.stations.now c.args.recordings.now c.loop-i.i c.index-stations-i.result c.index-recordings-i.result
    c.requires c.loop-i-test.true c.index-stations-i.is within c.index-recordings-i.is c.loop-i.invariant
    (rw (c.bytes.ensures, counts) at c.put_station.ensures)
