-- The texts of some things, one after another.
use Rattle.sink_text.proofs.WrittenText.{Puts-item, Puts-all}

-- what a loop over things puts
pub ruleset each = (Puts-item, Puts-all)
