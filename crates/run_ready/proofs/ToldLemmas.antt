-- Facts about content that is told, at two times.
use Rattle.std.proofs.Common.{◌≡◌, Option, subst}
use Rattle.dev_traits.specs.Told.{WhereTold}
use Rattle.frame_index.proofs.ToldLemmas.{WhereTold-both}

-- what is told stays the same
pub WhereTold-moved : {F : Type 0} (told later : Option F) (P : F → Type 0) → later ≡ told → WhereTold later P → WhereTold told P
WhereTold-moved {F} told later P same fact = subst (λ (t : Option F). WhereTold t P) same fact

-- two facts, of which the second is told later
pub WhereTold-then : {F : Type 0} (told later : Option F) (P Q R : F → Type 0)
    → ((files : F) → P files → Q files → R files) → later ≡ told → WhereTold told P → WhereTold later Q → WhereTold told R
WhereTold-then told later P Q R follows same first second =
    WhereTold-both told P Q R follows first (WhereTold-moved told later Q same second)
