use Rattle.std.proofs.Common.{◌≡◌, ◌∙◌, ◌*◌, ◌<◌, ◌≤◌, ap, List, length, get_or, arith}
use Rattle.std.proofs.lemmas.List.{get_or_default}
use Rattle.piece_plan.specs.declared.job.ScanSize.{ScanSize}
use Rattle.shard_merge.proofs.CompareWidths.{scan-size, room-more, room-all}
use Rattle.shard_merge.proofs.comparison.widest.Goals as goal

pub loop-size-preserved : goal.loop-size-preserved
loop-size-preserved c =
    let plan = c.args.plan.now in
    let scans = c.scans-size-items.result.now in
    let size : ScanSize = get_or scans c.loop-size.size-index (record { first = 0; samples = 0; products = 0; baselines = 0 }) in
    let within : c.loop-size.size-index < length plan.scans = omega (arith, c.loop-size-test.true, ap length c.scans-size-items.ensures.sizes) in
    let is : size ≡ get_or plan.scans c.loop-size.size-index size =
    get_or_default scans c.loop-size.size-index _ size c.loop-size-test.true
    ∙ ap (λ (xs : List ScanSize). get_or xs c.loop-size.size-index size) c.scans-size-items.ensures.sizes in
    let width : c.width_of.result ≡ size.products * size.baselines * plan.lags =
    c.width_of.ensures ∙ ap (λ n. size.products * size.baselines * n) c.lags-lags.ensures.many in
    let room : size.products * size.baselines * plan.lags ≤ 4194304 = (scan-size plan c.loop-size.size-index size c.scans-size-items.ensures.job within is).cells in
    let few : c.width_of.result ≤ 4194304 = omega (arith, width, room) in
    let grows : c.loop-size.most ≤ c.wider-most.result = c.wider-most.ensures.most in
    let holds : c.width_of.result ≤ c.wider-most.result = c.wider-most.ensures.width in
    record {
      few = c.wider-most.ensures.within 4194304 c.loop-size.invariant.few few;
      each =
          room-more plan.scans plan.lags c.loop-size.most c.wider-most.result c.loop-size.size-index size within is grows
          (omega (arith, width, holds)) c.loop-size.invariant.each;
    }

pub returns-clause-each : goal.returns-clause-each
returns-clause-each c =
    room-all c.args.plan.now.scans c.args.plan.now.lags c.loop-size.most c.loop-size.size-index
    (omega (arith, c.loop-size-test.false, ap length c.scans-size-items.ensures.sizes)) c.loop-size.invariant.each
