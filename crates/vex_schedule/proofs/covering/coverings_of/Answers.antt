use Rattle.std.proofs.Common.{ℕ, ◌+◌, List, length, ap, ◌∙◌}
use Rattle.std.proofs.lemmas.List.{length_push}
use Rattle.vex_reader.specs.declared.file.Item.{Item}
use Rattle.vex_schedule.proofs.Coverings.{SoFar-push}
use Rattle.vex_schedule.proofs.covering.coverings_of.Goals as goal

pub loop-i-preserved : goal.loop-i-preserved
loop-i-preserved c =
    let entry : List ℕ × Item = (c.at.result.0.now, c.at.result.1.now) in
    record {
      long = ap length c.in_ok-push.ensures.items ∙ length_push c.loop-i.coverings.items c.in_ok-covering_of.field-0 ∙ ap (λ n. n + 1) c.loop-i.invariant.long;
      each = SoFar-push c.loop-i.coverings.items c.push.new.self.items c.in-Some.block.now.defs c.loop-i.i c.in_ok-covering_of.field-0 entry
          c.loop-i.invariant.long c.loop-i.invariant.each c.at.ensures.entry c.in_ok-covering_of.ensures c.in_ok-push.ensures.items;
    }
