use Rattle.std.specs.Vec.{with_items}
use Rattle.std.proofs.Common.{◌≡◌, ◌∙◌, ◌+◌, ◌*◌, ◌≤◌, ◌∷◌, [], ℕ, List, sym, ap, subst, length, map, get_or, Vec, Global, arith}
use Rattle.std.proofs.lemmas.List.{length-append, length-map, map-append}
use Rattle.epoch_run.specs.Planes.{items_of}
use Rattle.epoch_run.specs.Rows.{HoldRows, row_value}
use Rattle.epoch_run.proofs.PlaneValues.{kept_items}
use Rattle.epoch_run.proofs.RowPlanes.{HoldRows-more, row_value-same, rows_end}
use Rattle.epoch_run.proofs.coded.stations_of_rows.Goals as goal

pub loop-station-preserved : goal.loop-station-preserved
loop-station-preserved c =
    let inv = c.loop-station.invariant in
    let from = c.args.from in
    let chans = c.args.chans in
    let rows = c.args.rows.items in
    let station = c.loop-station.station in
    let planes = c.loop-station.planes.items in
    let left = c.loop-station.left in
    let new = c.chans_of_rows.new.rows in
    let own = c.in_ok-own.own in
    let was : c.deref_mut.result.now ≡ left.items = c.deref_mut.ensures.value in
    let size : length new ≡ length left.items = c.chans_of_rows.auto.rows ∙ ap (λ (l : List (Vec ℕ Global)). length l) was in
    let kept : (with_items left new).items ≡ new = kept_items left new size in
    let ends : station * chans + chans ≤ c.args.stations * chans = rows_end station c.args.stations chans (omega arith) in
    let count : length (map items_of planes) ≡ station = length-map planes items_of ∙ inv.count in
    record {
      count = omega (arith, ap length c.in_ok-push.ensures.items, length-append planes (own ∷ []), inv.count);
      long = ap (λ (l : List (Vec ℕ Global)). length l) kept ∙ size ∙ inv.long;
      rows = rw c.in_ok-push.ensures.items
          (subst (HoldRows from chans rows) (sym (map-append items_of planes (own ∷ [])))
          (HoldRows-more from chans rows (map items_of planes) own.items inv.rows c.in_ok-own.ensures.count
          (λ chan n small.
          let i : ℕ = station * chans + chan in
          c.in_ok-own.ensures.values chan n small
          ∙ ap (λ (l : List (Vec ℕ Global)). row_value from l i n) was
          ∙ row_value-same from left.items rows i n inv.long (omega (arith, small, ends, inv.long, c.requires.count)) (λ d. inv.left i d (omega arith))
          ∙ ap (λ (s : ℕ). row_value from rows (s * chans + chan) n) (sym count))));
      left = λ k d h.
          let behind : station * chans + chans ≤ k = omega (arith, h) in
          ap (λ (l : List (Vec ℕ Global)). get_or l k d) kept ∙ c.chans_of_rows.ensures.behind k d behind ∙ ap (λ (l : List (Vec ℕ Global)). get_or l k d) was
          ∙ inv.left k d (omega (arith, behind));
    }
