-- The definitions of the record text and of what it is made from, each by its parts.
use Rattle.std.specs.Prelude.{codes, flat_map}
use Rattle.std.proofs.Common.{◌≡◌, ℕ, List, [], ◌∷◌, ◌++◌, length, take, drop, refl}
use Rattle.std.specs.List.{enumerate_from}
use Rattle.byteorder.specs.Endian.{little_bytes}
use Rattle.corr_model.specs.declared.cell.Cell.{Cell}
use Rattle.corr_model.specs.declared.records.RecordAt.{RecordAt}
use Rattle.corr_model.specs.Records.{Head, HeadScan, cell_text, end_text, head_text, name_text, product_text, record_text, records_text, scan_text, scan_places, places_of, vis_text}

-- what a record has before its cells
abbrev pub record_front : RecordAt → List ℕ
record_front at =
    (1 ∷ []) ++ little_bytes 4 at.scan ++ little_bytes 8 at.m ++ little_bytes 4 at.product ++ little_bytes 4 at.baseline

pub record_text-front : (at : RecordAt) (cells : List Cell)
    → record_text at cells ≡ record_front at ++ flat_map cell_text cells
unfolding record_text
record_text-front at cells = refl

pub head_text-parts : (head : Head)
    → head_text head
    ≡ codes "VLBIVIS1"
    ++ little_bytes 4 head.lags
    ++ little_bytes 8 head.integration
    ++ little_bytes 8 head.rate
    ++ little_bytes 4 (length head.stations)
    ++ flat_map name_text head.stations
    ++ little_bytes 4 (length head.products)
    ++ flat_map product_text head.products
    ++ little_bytes 4 (length head.scans)
    ++ flat_map scan_text head.scans
unfolding head_text
head_text-parts head = refl

pub places_of-scans : (head : Head)
    → places_of head ≡ flat_map (λ (s : ℕ × HeadScan). scan_places head s.0 s.1) (enumerate_from 0 head.scans)
unfolding places_of
places_of-scans head = refl

pub records_text-none : (lags : ℕ) (cells : List Cell) → records_text lags [] cells ≡ []
unfolding records_text
records_text-none lags cells = refl

pub records_text-next : (lags : ℕ) (at : RecordAt) (places : List RecordAt) (cells : List Cell)
    → records_text lags (at ∷ places) cells
    ≡ record_text at (take lags cells) ++ records_text lags places (drop lags cells)
unfolding records_text
records_text-next lags at places cells = refl

pub vis_text-parts : (head : Head) (cells : List Cell)
    → vis_text head cells
    ≡ head_text head ++ records_text head.lags (places_of head) cells ++ end_text (length (places_of head))
unfolding vis_text
vis_text-parts head cells = refl
