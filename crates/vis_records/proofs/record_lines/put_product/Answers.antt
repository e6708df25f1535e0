use Rattle.std.proofs.Common.{ℕ, [], ◌∷◌, length, map, ap, sym, ◌∙◌}
use Rattle.std.specs.List.{range_with_len}
use Rattle.std.proofs.lemmas.List.{length-map}
use Rattle.std.proofs.lemmas.List.Concat.{flat_map_single}
use Rattle.corr_model.specs.declared.records.RecordAt.{RecordAt}
use Rattle.vis_records.specs.Heads.{baseline_of}
use Rattle.vis_records.proofs.RecordLines.{PutsRecords-none, PutsRecords-as, PutsRecords-turn, PutsRecords-turns}
use Rattle.vis_records.proofs.record_lines.put_product.Goals as goal

pub loop-i-init : goal.loop-i-init
loop-i-init g c = PutsRecords-none _ _ _ _ _

pub loop-i-preserved : goal.loop-i-preserved
loop-i-preserved g c =
    let at : ℕ → RecordAt = λ (b : ℕ). record { scan = c.args.number; m = c.args.m; product = c.args.product; baseline = b } in
    PutsRecords-turn (λ b. at b ∷ []) (length c.items-count.result.now) c.loop-i.i c.loop-i-test.true c.loop-i.invariant
    c.put_record-left.ensures

pub returns : goal.returns
returns g c =
    let at : ℕ → RecordAt = λ (b : ℕ). record { scan = c.args.number; m = c.args.m; product = c.args.product; baseline = b } in
    PutsRecords-as (flat_map_single at (range_with_len 0 (length (map baseline_of c.args.scan.now.baselines))))
    (PutsRecords-turns (λ b. at b ∷ []) (length c.items-count.result.now) _ c.loop-i.i
    (ap length c.items-count.ensures ∙ sym (length-map c.args.scan.now.baselines baseline_of)) c.loop-i-test.false
    c.loop-i.invariant)
