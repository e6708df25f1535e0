-- The texts of a head and of a record, each as the pieces that are put.
use Rattle.std.specs.Prelude.{codes}
use Rattle.std.proofs.Common.{◌≡◌, ℕ, List, ◌++◌, drop, length, map, ap, refl}
use Rattle.std.specs.List.{flat_map}
use Rattle.byteorder.specs.Endian.{little_bytes}
use Rattle.corr_model.specs.declared.cell.Cell.{Cell}
use Rattle.corr_model.specs.declared.records.RecordAt.{RecordAt}
use Rattle.corr_model.specs.Records.{Head, name_text, product_text, scan_text, cell_text}
use Rattle.vis_records.specs.declared.head.VisProduct.{VisProduct}
use Rattle.vis_records.specs.declared.head.VisScan.{VisScan}
use Rattle.vis_records.specs.Heads.{product_of, scan_of}
use Rattle.vis_records.proofs.HeadPieces.{head_text-pieces}
use Rattle.bin_records.specs.Texts.{bin_head_text, bin_record_text}
use Rattle.bin_records.specs.Fronts.{head_front, record_front}

pub head_front-pieces : (bins : ℕ) (head : Head) (lags integration rate : ℕ) (counted listed : List (List ℕ))
    → lags ≡ head.lags
    → integration ≡ head.integration
    → rate ≡ head.rate
    → counted ≡ head.stations
    → listed ≡ head.stations
    → head_front bins head
    ≡ codes "VLBIBIN1"
    ++ little_bytes 4 bins
    ++ little_bytes 4 lags
    ++ little_bytes 8 integration
    ++ little_bytes 8 rate
    ++ little_bytes 4 (length counted)
    ++ flat_map name_text listed
head_front-pieces bins head lags integration rate counted listed a b c d e = rw (a, b, c, d, e) refl

pub bin_head_text-pieces : (bins : ℕ) (head : Head) (counted listed : List VisProduct) (counted' listed' : List VisScan)
    → map product_of counted ≡ head.products
    → map product_of listed ≡ head.products
    → map scan_of counted' ≡ head.scans
    → map scan_of listed' ≡ head.scans
    → bin_head_text bins head
    ≡ head_front bins head
    ++ little_bytes 4 (length counted)
    ++ flat_map (λ p. product_text (product_of p)) listed
    ++ little_bytes 4 (length counted')
    ++ flat_map (λ s. scan_text (scan_of s)) listed'
unfolding bin_head_text
bin_head_text-pieces bins head counted listed counted' listed' a b c d =
    ap (λ t. codes "VLBIBIN1" ++ little_bytes 4 bins ++ drop 8 t) (head_text-pieces head head.stations counted listed counted' listed' refl a b c d)

pub bin_record_text-front : (at : RecordAt) (bin : ℕ) (cells : List Cell)
    → bin_record_text at bin cells ≡ record_front at bin ++ flat_map cell_text cells
unfolding bin_record_text
bin_record_text-front at bin cells = refl
