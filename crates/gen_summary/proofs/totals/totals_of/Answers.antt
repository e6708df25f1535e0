use Rattle.std.proofs.Common.{◌<◌, ◌^◌, arith, rules, length}
use Rattle.std.proofs.lemmas.List.Elements.{All-get_or}
use Rattle.corr_model.specs.Records.{IsCell}
use Rattle.gen_summary.proofs.TotalLemmas.{pairs-more, sum-more, added_is, added_low, added_high, one_fits}
use Rattle.gen_summary.proofs.totals.totals_of.Goals as goal

pub loop-cell-preserved : goal.loop-cell-preserved
loop-cell-preserved c =
    let here = c.loop-cell.invariant in
    let i = c.loop-cell.cell-index in
    let within = c.loop-cell-test.true in
    let short : length c.args.cells.now < 2 ^ 64 = search rules in
    let few : i < 2 ^ 64 = omega (arith, within, short) in
    let cell = All-get_or IsCell c.args.cells.now i _ within c.requires in
    let re = one_fits _ _ c.from-in-loop-cell.ensures cell.re in
    let im = one_fits _ _ c.from-in-loop-cell-2.ensures cell.im in
    let re_sum = added_is c.loop-cell.totals.re c.from-in-loop-cell.result i few here.re_low here.re_high re in
    let im_sum = added_is c.loop-cell.totals.im c.from-in-loop-cell-2.result i few here.im_low here.im_high im in
    record {
      pairs = pairs-more _ c.args.cells.now i _ _ within here.pairs c.from.ensures;
      re = sum-more _ (λ c. c.re) c.args.cells.now i _ _ _ within here.re c.from-in-loop-cell.ensures cell.re re_sum;
      im = sum-more _ (λ c. c.im) c.args.cells.now i _ _ _ within here.im c.from-in-loop-cell-2.ensures cell.im im_sum;
      few_pairs = let count = cell.count in let few_pairs = here.few_pairs in omega (arith, few_pairs, count, c.from.ensures);
      re_low = added_low _ _ _ i re_sum here.re_low re;
      re_high = added_high _ _ _ i re_sum here.re_high re;
      im_low = added_low _ _ _ i im_sum here.im_low im;
      im_high = added_high _ _ _ i im_sum here.im_high im;
    }
