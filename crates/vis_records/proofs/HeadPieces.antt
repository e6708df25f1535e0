-- The texts of a head, each as the pieces that are put.
use Rattle.std.specs.Prelude.{codes}
use Rattle.std.proofs.Common.{◌≡◌, ℕ, ◌≤◌, ◌<◌, List, ◌++◌, length, map, ap, sym, subst, ◌∙◌, refl}
use Rattle.std.specs.List.{All, flat_map}
use Rattle.std.proofs.lemmas.List.{length-map, get_or-map}
use Rattle.std.proofs.lemmas.List.Elements.{All-weaker}
use Rattle.std.proofs.lemmas.List.Folds.{flat_map-map}
use Rattle.byteorder.specs.Endian.{little_bytes}
use Rattle.corr_model.specs.Records.{Head, IsHead, IsHeadScan, IsName, head_text, name_text, product_text, scan_text, baseline_text}
use Rattle.corr_model.proofs.RecordLemmas.{head_text-parts}
use Rattle.vis_records.specs.declared.head.VisProduct.{VisProduct}
use Rattle.vis_records.specs.declared.head.VisBaseline.{VisBaseline}
use Rattle.vis_records.specs.declared.head.VisScan.{VisScan}
use Rattle.vis_records.specs.Heads.{product_of, scan_of, baseline_of, sizes_text, AreNames, IsShort}

All-mapped : {X Y : Type 0} (P : X → Type 0) (f : Y → X) (ys : List Y) → All P (map f ys) → All (λ y. P (f y)) ys
All-mapped P f ys all =
    λ k d within.
    subst P (get_or-map f ys k d (f d) within) (all k (f d) (subst (λ n. k < n) (sym (length-map ys f)) within))

pub products-names : (head : Head) (products : List VisProduct) → IsHead head → map product_of products ≡ head.products
    → All AreNames products
products-names head products is same =
    let P : List ℕ × List ℕ → Type 0 = λ p. IsName p.0 × IsName p.1 in
    All-mapped P product_of products (subst (λ ps. All P ps) (sym same) is.channels)

pub scans-short : (head : Head) (scans : List VisScan) → IsHead head → map scan_of scans ≡ head.scans
    → All IsShort scans
scans-short head scans is same =
    All-weaker (λ (s : VisScan). IsHeadScan (length head.stations) (scan_of s)) IsShort short scans
    (All-mapped (IsHeadScan (length head.stations)) scan_of scans (subst (λ ss. All (IsHeadScan (length head.stations)) ss) (sym same) is.scans))
  where
    short : (s : VisScan) → IsHeadScan (length head.stations) (scan_of s) → IsShort s
    short s fact = (fact.name, subst (λ n. n ≤ 528) (length-map s.baselines baseline_of) fact.baselines)

pub name_text-pieces : (name len bytes rest : List ℕ) → bytes ≡ name → rest ≡ name → len ≡ little_bytes 2 (length bytes)
    → name_text name ≡ len ++ rest
name_text-pieces name len bytes rest first second counted =
    sym (ap (λ t. t ++ rest) counted ∙ ap (λ (x : List ℕ). little_bytes 2 (length x) ++ rest) first ∙ ap (λ t. little_bytes 2 (length name) ++ t) second)

pub sizes_text-pieces : (head : Head) (lags integration rate : ℕ) (stations : List (List ℕ))
    → lags ≡ head.lags
    → integration ≡ head.integration
    → rate ≡ head.rate
    → stations ≡ head.stations
    → sizes_text head
    ≡ codes "VLBIVIS1"
    ++ little_bytes 4 lags
    ++ little_bytes 8 integration
    ++ little_bytes 8 rate
    ++ little_bytes 4 (length stations)
sizes_text-pieces head lags integration rate stations a b c d = rw (a, b, c, d) refl

replaced : (a b c d e b' c' d' e' : List ℕ)
    → b ≡ b'
    → c ≡ c'
    → d ≡ d'
    → e ≡ e'
    → a ++ b ++ c ++ d ++ e ≡ a ++ b' ++ c' ++ d' ++ e'
replaced a b c d e b' c' d' e' p q r s = rw (p, q, r, s) refl

pub scan_text-pieces : (s : VisScan) (counted listed : List VisBaseline)
    → counted ≡ s.baselines
    → listed ≡ s.baselines
    → scan_text (scan_of s)
    ≡ name_text s.name
    ++ little_bytes 8 s.second
    ++ little_bytes 8 s.samples
    ++ little_bytes 4 (length counted)
    ++ flat_map (λ b. baseline_text (baseline_of b)) listed
scan_text-pieces s counted listed first second =
    replaced (name_text s.name) (little_bytes 8 s.second) (little_bytes 8 s.samples)
    (little_bytes 4 (length (map baseline_of s.baselines)))
    (flat_map baseline_text (map baseline_of s.baselines))
    _ _ _ _
    refl
    refl
    (ap (λ (n : ℕ). little_bytes 4 n) (length-map s.baselines baseline_of ∙ ap length (sym first)))
    (flat_map-map baseline_text baseline_of s.baselines ∙ ap (flat_map (λ b. baseline_text (baseline_of b))) (sym second))

pub head_text-pieces : (head : Head) (stations : List (List ℕ)) (counted listed : List VisProduct) (counted' listed' : List VisScan)
    → stations ≡ head.stations
    → map product_of counted ≡ head.products
    → map product_of listed ≡ head.products
    → map scan_of counted' ≡ head.scans
    → map scan_of listed' ≡ head.scans
    → head_text head
    ≡ sizes_text head
    ++ flat_map name_text stations
    ++ little_bytes 4 (length counted)
    ++ flat_map (λ p. product_text (product_of p)) listed
    ++ little_bytes 4 (length counted')
    ++ flat_map (λ s. scan_text (scan_of s)) listed'
head_text-pieces head stations counted listed counted' listed' a b c d e =
    head_text-parts head
    ∙ ap (λ t. t ++ flat_map scan_text head.scans)
    (replaced (sizes_text head) (flat_map name_text head.stations) (little_bytes 4 (length head.products))
    (flat_map product_text head.products)
    (little_bytes 4 (length head.scans))
    _ _ _ _
    (ap (flat_map name_text) (sym a))
    (ap (λ (n : ℕ). little_bytes 4 n) (ap length (sym b) ∙ length-map counted product_of))
    (ap (flat_map product_text) (sym c) ∙ flat_map-map product_text product_of listed)
    (ap (λ (n : ℕ). little_bytes 4 n) (ap length (sym d) ∙ length-map counted' scan_of)))
    ∙ ap (λ t. sizes_text head ++ flat_map name_text stations ++ little_bytes 4 (length counted)
    ++ flat_map (λ p. product_text (product_of p)) listed ++ little_bytes 4 (length counted') ++ t)
    (ap (flat_map scan_text) (sym e) ∙ flat_map-map scan_text scan_of listed')
