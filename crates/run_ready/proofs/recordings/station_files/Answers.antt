use Rattle.std.proofs.Common.{sym, subst}
use Rattle.std.specs.List.{All}
use Rattle.std.specs.Str.{IsUtf8}
use Rattle.run_ready.proofs.recordings.station_files.Goals as goal

pub sized_files-requires : goal.sized_files-requires
sized_files-requires g c = record { texts = subst (All IsUtf8) (sym c.items.ensures) c.requires.texts }
