-- The fronts of a head and of a record, whose numbers are put one after another.
use Rattle.std.specs.Prelude.{ℕ, List, [], ◌∷◌, ◌++◌, length, flat_map, codes}
use Rattle.byteorder.specs.Endian.{little_bytes}
use Rattle.corr_model.specs.declared.records.RecordAt.{RecordAt}
use Rattle.corr_model.specs.Records.{Head, name_text}

-- a head's mark, the number of bins, the sizes, and its stations behind their number
abbrev pub head_front : ℕ → Head → List ℕ
head_front bins head =
    codes "VLBIBIN1"
    ++ little_bytes 4 bins
    ++ little_bytes 4 head.lags
    ++ little_bytes 8 head.integration
    ++ little_bytes 8 head.rate
    ++ little_bytes 4 (length head.stations)
    ++ flat_map name_text head.stations

-- a record's mark, the numbers of a record, and its bin
abbrev pub record_front : RecordAt → ℕ → List ℕ
record_front at bin =
    (2 ∷ [])
    ++ little_bytes 4 at.scan
    ++ little_bytes 8 at.m
    ++ little_bytes 4 at.product
    ++ little_bytes 4 at.baseline
    ++ little_bytes 4 bin
