-- Calls that append a text to a sink.
use Rattle.std.specs.Prelude.{◌≡◌, ℕ, List, Option, Result, OnOk, OnErr}
use Rattle.dev_traits.specs.Fault.{Counts}
use Rattle.dev_traits.specs.Told.{more, PrefixMore}

-- What the sink told before and tells now, the text, the sink's counts of faults before and now, and
-- the answer: all of the text with Ok, a first part of it and a fault with Err.
pub record Appends {T E : Type 0} (old new : Option (List ℕ)) (text : List ℕ) (before now : ℕ)
    (result : Result T E) : Type 0 where
  pub ok : OnOk result (new ≡ more old text)
  pub prefix : OnErr result (PrefixMore old text new)
  pub counts : Counts before now result
