-- Facts about content that is told.
use Rattle.std.proofs.Common.{Option, Some, None}
use Rattle.dev_traits.specs.Told.{WhereTold}

pub WhereTold-weaker : {A : Type 0} (told : Option A) (P Q : A → Type 0)
    → ((content : A) → P content → Q content) → WhereTold told P → WhereTold told Q
WhereTold-weaker None P Q follows fact = tt
WhereTold-weaker (Some content) P Q follows fact = follows content fact
