use Rattle.std.proofs.Common.{ap, sym}
use Rattle.station_stream.proofs.LevelledLemmas.{AreLevelled-windowed}
use Rattle.station_stream.proofs.stream.Stream.is_levelled.Goals as goal

pub returns : goal.returns
returns c = λ chan n.
    AreLevelled-windowed (λ list. list.items) c.args.self.now c.self.inside.chans.items chan n (ap (λ s. s.values) (sym c.self.view_is))
