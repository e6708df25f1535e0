use Rattle.std.proofs.Common.{◌≡◌, ◌≢◌, ◌∙◌, ◌+◌, ◌≤◌, ◌^◌, ◌∷◌, [], ℕ, ℤ, pos, ◌-ℤ◌, to_z, w64, ap, subst, sym, length, map, get_or, arith}
use Rattle.std.proofs.lemmas.Int.{ints}
use Rattle.std.proofs.lemmas.List.{length-append}
use Rattle.value_codes.specs.Codes.{value_of}
use Rattle.packed_values.specs.From.{value_from}
use Rattle.epoch_run.specs.Rows.{IsRowOf, row_value}
use Rattle.epoch_run.proofs.PlaneValues.{chans-more}
use Rattle.epoch_run.proofs.RowPlanes.{row_value-there}
use Rattle.epoch_run.proofs.coded.chans_of_rows.Goals as goal

pub of_codes-requires : goal.of_codes-requires
of_codes-requires c =
    let i : ℕ = c.args.first + c.loop-chan.chan in
    let row = c.take_row-row.result in
    let is : row ≡ get_or c.args.rows.now i row = c.take_row-row.ensures.row row ∙ c.loop-chan.invariant.left i row (omega arith) in
    let few : c.args.from + length row.items ≤ 2 ^ 40 = subst (IsRowOf c.args.from) (sym is) (c.requires.end i row (omega arith) (omega arith)) in
    record { start = omega (arith, ints, few); end = omega (arith, ints, few) }

pub loop-chan-preserved : goal.loop-chan-preserved
loop-chan-preserved c =
    let i : ℕ = c.args.first + c.loop-chan.chan in
    let row = c.take_row-row.result in
    let is : row ≡ get_or c.args.rows.now i row = c.take_row-row.ensures.row row ∙ c.loop-chan.invariant.left i row (omega arith) in
    let few : c.args.from + length row.items ≤ 2 ^ 40 = subst (IsRowOf c.args.from) (sym is) (c.requires.end i row (omega arith) (omega arith)) in
    let same : to_z w64 c.args.from ≡ pos c.args.from = omega (arith, ints, few) in
    record {
      count = omega (arith, ap length c.in_ok-push.ensures.items, length-append c.loop-chan.chans.items (c.of_codes.result ∷ []), c.loop-chan.invariant.count);
      values = rw c.in_ok-push.ensures.items
          (chans-more (λ k n. row_value c.args.from c.args.rows.now (c.args.first + k) n) c.loop-chan.chans.items c.of_codes.result c.loop-chan.chan c.loop-chan.invariant.count c.loop-chan.invariant.values
          (λ n. c.of_codes.ensures.values n ∙ ap (λ (z : ℤ). value_from (map value_of row.items) (n -ℤ z)) same ∙ row_value-there c.args.from c.args.rows.now i row n (omega arith) is));
      left = λ k d h. let ne : k ≢ i = omega (arith, h) in c.take_row-row.ensures.beside k d ne ∙ c.loop-chan.invariant.left k d (omega (arith, h));
    }
