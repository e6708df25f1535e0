-- The series of a head from one on, in their order.
use Rattle.std.specs.Prelude.{ℕ, ◌+◌, ◌-◌, List, [], ◌++◌, length, map, flat_map, Option, None, Some}
use Rattle.std.specs.List.{range_with_len}
use Rattle.corr_model.specs.Records.{Head}
use Rattle.fringe_search.specs.declared.places.SeriesAt.{SeriesAt}
use Rattle.fringe_search.specs.Layout.{scan_at, product_series, scan_series}

-- those of the scans from one on, and of a scan's products from one on
unfoldable pub scans_from : Head → ℕ → List SeriesAt
scans_from head scan = flat_map (scan_series head) (range_with_len scan (length head.scans - scan))

unfoldable pub products_from : Head → ℕ → ℕ → List SeriesAt
products_from head scan product = flat_map (product_series head scan) (range_with_len product (length head.products - product))

-- those of a product's baselines from one on
unfoldable pub baselines_from : Head → ℕ → ℕ → ℕ → List SeriesAt
baselines_from head scan product baseline =
    map (λ (b : ℕ). record { scan = scan; product = product; baseline = b })
    (range_with_len baseline (length (scan_at head scan).baselines - baseline))

-- one and all behind it
abbrev pub series_from : Head → SeriesAt → List SeriesAt
series_from head at =
    baselines_from head at.scan at.product at.baseline ++ (products_from head at.scan (at.product + 1) ++ scans_from head (at.scan + 1))

abbrev pub series_next : Head → Option SeriesAt → List SeriesAt
series_next head None = []
series_next head (Some at) = series_from head at
