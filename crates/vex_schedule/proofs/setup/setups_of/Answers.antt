use Rattle.std.proofs.Common.{ℕ, List, ◌<◌, length, arith}
use Rattle.vex_reader.specs.declared.file.Item.{Item}
use Rattle.read_steps.specs.Steps.{seen}
use Rattle.vex_schedule.specs.Schedule.{setup_in}
use Rattle.vex_schedule.specs.Setups.{part_of}
use Rattle.vex_schedule.proofs.Lists.{same-push}
use Rattle.vex_schedule.proofs.setup.setups_of.Goals as goal

pub loop-i-preserved : goal.loop-i-preserved
loop-i-preserved c =
    let entry : List ℕ × Item = (c.at.result.0.now, c.at.result.1.now) in
    let less : c.loop-i.i < length c.in-Some.block.now.defs = omega arith in
    same-push (seen part_of) (λ (def : List ℕ × Item). setup_in def.1) c.loop-i.setups.items c.push.new.self.items c.in_ok-settled.field-0 c.in-Some.block.now.defs c.loop-i.i entry
    c.loop-i.invariant c.in_ok-settled.ensures.settled less c.at.ensures.entry c.in_ok-push.ensures.items
