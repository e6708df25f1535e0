-- The values that the planes of two channels hold.
use Rattle.std.specs.Prelude.{◌==◌, if◌then◌else◌}
use Rattle.corr_model.specs.declared.cell.Pair.{Pair}
use Rattle.corr_model.specs.Cell.{Samples}
use Rattle.bit_planes.specs.Planes.{PlanesFields, plane_value}

-- those of two stations: a's of station 0, and b's of station 1
abbrev pub plane_samples : PlanesFields → PlanesFields → Samples
plane_samples a b station chan n = if station == 0 then plane_value a n else plane_value b n

abbrev pub plane_pair : Pair
plane_pair = record { a = 0; x = 0; b = 1; y = 0 }
