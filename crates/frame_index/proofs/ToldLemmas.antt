-- Facts about content that is told.
use Rattle.std.proofs.Common.{Option, Some, None}
use Rattle.dev_traits.specs.Told.{WhereTold}

pub WhereTold-weaker : {A : Type 0} (told : Option A) (P Q : A → Type 0)
    → ((content : A) → P content → Q content) → WhereTold told P → WhereTold told Q
WhereTold-weaker None P Q follows fact = tt
WhereTold-weaker (Some content) P Q follows fact = follows content fact

pub WhereTold-both : {A : Type 0} (told : Option A) (P Q R : A → Type 0)
    → ((content : A) → P content → Q content → R content) → WhereTold told P → WhereTold told Q → WhereTold told R
WhereTold-both None P Q R follows first second = tt
WhereTold-both (Some content) P Q R follows first second = follows content first second

pub WhereTold-always : {A : Type 0} (told : Option A) (P : A → Type 0)
    → ((content : A) → P content) → WhereTold told P
WhereTold-always None P holds = tt
WhereTold-always (Some content) P holds = holds content
