-- Facts about content that is told.
use Rattle.std.specs.Prelude.{option_map}
use Rattle.std.proofs.Common.{◌≡◌, Option, Some, None, sym, subst}
use Rattle.dev_traits.specs.Told.{WhereTold}

pub told_both : {A : Type 0} (told : Option A) (P Q R : A → Type 0) → ((a : A) → P a → Q a → R a) → WhereTold told P → WhereTold told Q → WhereTold told R
told_both None P Q R follows p q = tt
told_both (Some a) P Q R follows p q = follows a p q

pub told_three : {A : Type 0} (told : Option A) (P Q R S : A → Type 0) → ((a : A) → P a → Q a → R a → S a) → WhereTold told P → WhereTold told Q → WhereTold told R → WhereTold told S
told_three None P Q R S follows p q r = tt
told_three (Some a) P Q R S follows p q r = follows a p q r

-- the same content, told again
pub told_again : {A : Type 0} (new old : Option A) (P : A → Type 0) → new ≡ old → WhereTold old P → WhereTold new P
told_again {A = A} new old P same p = let Q : Option A → Type 0 = λ o. WhereTold o P in subst Q (sym same) p

-- content that was changed
pub told_mapped : {A : Type 0} (old new : Option A) (f : A → A) (P Q : A → Type 0) → new ≡ option_map f old → ((a : A) → P a → Q (f a)) → WhereTold old P → WhereTold new Q
told_mapped {A = A} None new f P Q is follows p = let W : Option A → Type 0 = λ o. WhereTold o Q in subst W (sym is) tt
told_mapped {A = A} (Some a) new f P Q is follows p = let W : Option A → Type 0 = λ o. WhereTold o Q in subst W (sym is) (follows a p)

pub told_four : {A : Type 0} (told : Option A) (P Q R S U : A → Type 0) → ((a : A) → P a → Q a → R a → S a → U a)
    → WhereTold told P → WhereTold told Q → WhereTold told R → WhereTold told S → WhereTold told U
told_four None P Q R S U follows p q r s = tt
told_four (Some a) P Q R S U follows p q r s = follows a p q r s
