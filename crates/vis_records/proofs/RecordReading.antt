-- The records of a head, read place by place.
use Rattle.std.proofs.Common.{◌≡◌, ◌≤◌, ◌<◌, ℕ, zero-add, List, length, map, get_or, subst, ap, sym, refl, ◌∙◌, arith}
use Rattle.std.specs.Int.{div_ceil}
use Rattle.std.specs.List.{range_with_len, enumerate_from}
use Rattle.std.proofs.lemmas.List.{length-map, get_or-map}
use Rattle.std.proofs.lemmas.List.FromFn.{length-enumerate_from, get_or-enumerate_from}
use Rattle.corr_model.specs.declared.cell.Cell.{Cell}
use Rattle.corr_model.specs.declared.records.RecordAt.{RecordAt}
use Rattle.corr_model.specs.Records.{Head, HeadScan, IsHead, baseline_places, product_places, scan_places, places_of}
use Rattle.corr_model.proofs.RecordLemmas.{places_of-scans}
use Rattle.vis_records.specs.declared.head.VisScan.{VisScan}
use Rattle.vis_records.specs.Heads.{scan_of, baseline_of, product_of}
use Rattle.vis_records.specs.declared.head.VisProduct.{VisProduct}
use Rattle.vis_records.specs.Parts.{in_turn}
use Rattle.vis_records.specs.Reading.{record_due}
use Rattle.vis_records.proofs.PartLemmas.{in_turn-map, in_turn-flat_map}
use Rattle.vis_records.proofs.HeadPieces.{scans-short}

pub product-part : (lags number m product : ℕ) (s : VisScan) (n : ℕ) (cells : List Cell) (t : List ℕ)
    → n ≡ length s.baselines
    → in_turn (λ cells b. record_due lags cells (record { scan = number; m = m; product = product; baseline = b })) cells (range_with_len 0 n) t
    ≡ in_turn (record_due lags) cells (baseline_places number (scan_of s) m product) t
product-part lags number m product s n cells t same =
    let at : ℕ → RecordAt = λ (b : ℕ). record { scan = number; m = m; product = product; baseline = b } in
    let count : n ≡ length (map baseline_of s.baselines) = same ∙ sym (length-map s.baselines baseline_of) in
    ap (λ k. in_turn (λ cells b. record_due lags cells (at b)) cells (range_with_len 0 k) t) count
    ∙ sym (in_turn-map (record_due lags) at (range_with_len 0 (length (map baseline_of s.baselines))) cells t)

pub integration-part : (lags : ℕ) (h : Head) (number : ℕ) (s : HeadScan) (m n : ℕ) (cells : List Cell) (t : List ℕ)
    → n ≡ length h.products
    → in_turn (λ cells p. in_turn (record_due lags) cells (baseline_places number s m p)) cells (range_with_len 0 n) t
    ≡ in_turn (record_due lags) cells (product_places h number s m) t
integration-part lags h number s m n cells t same =
    ap (λ k. in_turn (λ cells p. in_turn (record_due lags) cells (baseline_places number s m p)) cells (range_with_len 0 k) t) same
    ∙ sym (in_turn-flat_map (record_due lags) (baseline_places number s m) (range_with_len 0 (length h.products)) cells t)

pub scan-part : (lags : ℕ) (h : Head) (number : ℕ) (s : HeadScan) (n : ℕ) (cells : List Cell) (t : List ℕ)
    → n ≡ div_ceil s.samples h.integration
    → in_turn (λ cells m. in_turn (record_due lags) cells (product_places h number s m)) cells (range_with_len 0 n) t
    ≡ in_turn (record_due lags) cells (scan_places h number s) t
scan-part lags h number s n cells t same =
    ap (λ k. in_turn (λ cells m. in_turn (record_due lags) cells (product_places h number s m)) cells (range_with_len 0 k) t) same
    ∙ sym (in_turn-flat_map (record_due lags) (product_places h number s) (range_with_len 0 (div_ceil s.samples h.integration)) cells t)

pub records-part : (lags : ℕ) (h : Head) (cells : List Cell) (t : List ℕ)
    → in_turn (λ cells s. in_turn (record_due lags) cells (scan_places h s.0 s.1)) cells (enumerate_from 0 h.scans) t
    ≡ in_turn (record_due lags) cells (places_of h) t
records-part lags h cells t =
    sym (ap (λ ps. in_turn (record_due lags) cells ps t) (places_of-scans h)
    ∙ in_turn-flat_map (record_due lags) (λ (s : ℕ × HeadScan). scan_places h s.0 s.1) (enumerate_from 0 h.scans) cells t)

-- a scan of a head in memory
pub within-scans : (h : Head) (scans : List VisScan) (i : ℕ) → map scan_of scans ≡ h.scans → i < length scans
    → i < length (enumerate_from 0 h.scans)
within-scans h scans i same within =
    omega (arith, length-enumerate_from 0 h.scans, ap length same, length-map scans scan_of, within)

pub past-scans : (h : Head) (scans : List VisScan) (i : ℕ) → map scan_of scans ≡ h.scans → length scans ≤ i
    → length (enumerate_from 0 h.scans) ≤ i
past-scans h scans i same past =
    omega (arith, length-enumerate_from 0 h.scans, ap length same, length-map scans scan_of, past)

pub product-count : (h : Head) (products : List VisProduct) (n : ℕ) → n ≡ length products → map product_of products ≡ h.products → n ≡ length h.products
product-count h products n count same = count ∙ sym (length-map products product_of) ∙ ap length same

pub scan-at : (h : Head) (scans : List VisScan) (i : ℕ) (x : VisScan) → map scan_of scans ≡ h.scans → i < length scans → x ≡ get_or scans i x
    → get_or (enumerate_from 0 h.scans) i (i, scan_of x) ≡ (i, scan_of x)
scan-at h scans i x same within is =
    let inside : i < length h.scans = omega (arith, ap length same, length-map scans scan_of, within) in
    let one : get_or h.scans i (scan_of x) ≡ scan_of x =
    ap (λ ss. get_or ss i (scan_of x)) (sym same) ∙ get_or-map scan_of scans i x (scan_of x) within ∙ ap scan_of (sym is) in
    get_or-enumerate_from 0 h.scans i (i, scan_of x) inside ∙ rw (one, zero-add) refl

pub short-scan : (h : Head) (scans : List VisScan) (i : ℕ) (x : VisScan) → IsHead h → map scan_of scans ≡ h.scans → i < length scans → x ≡ get_or scans i x
    → length x.baselines ≤ 528
short-scan h scans i x good same within is =
    subst (λ (s : VisScan). length s.baselines ≤ 528) (sym is) (scans-short h scans good same i x within).1
