use Rattle.std.proofs.Common.{arith}
use Rattle.piece_plan.proofs.PartLemmas.{parts-GoThrough}
use Rattle.piece_plan.proofs.piece.PiecePlan.new.Goals as goal

pub returns-clause-partition : goal.returns-clause-partition
returns-clause-partition c = parts-GoThrough _ _ _ (omega (arith, c.requires.epoch.some)) c.requires.some
