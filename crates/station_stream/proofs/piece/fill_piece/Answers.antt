use Rattle.std.proofs.Common.{◌∙◌, ◌+◌, arith}
use Rattle.corr_model.specs.Delay.{delay_at}
use Rattle.delay_track.specs.Track.{model_of}
use Rattle.station_stream.specs.Sweep.{recorded_at}
use Rattle.station_stream.specs.ThreadFrames.{level_in_frames}
use Rattle.station_stream.proofs.TakenLemmas.{turned_by-direction}
use Rattle.station_stream.proofs.ValueLemmas.{value_in_frames-level}
use Rattle.station_stream.proofs.piece.fill_piece.Goals as goal

pub returns : goal.returns
returns c = λ k h.
    let part = c.args.part.now in
    let chan = c.args.chan.now in
    let frames = c.args.frames.now in
    let n = c.args.from + k in
    let level = level_in_frames part.shape frames chan.index (recorded_at part.track n) in
    c.turn_levels.ensures k level (omega (arith, h, c.fill_levels.auto.codes)) (c.fill_levels.ensures k h)
    ∙ turned_by-direction level (record { hertz = chan.hertz; upper = chan.upper }) part.track.rate (delay_at (model_of part.track) n)
    ∙ value_in_frames-level part chan frames n
