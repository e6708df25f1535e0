-- The one image of a file of a shelf is what is seen, and is short; and what reads leave goes on over any number of them.
use Rattle.std.specs.Prelude.{◌≡◌, ℕ, ◌^◌, ◌<◌, nat_lt, ◌==◌, true, List, length, is_some, Option, None, Some}
use Rattle.std.proofs.Common.{refl, ◌∙◌, ap, arith}
use Rattle.std.proofs.lemmas.Bool.{ltb-true, and_parts}
use Rattle.std.proofs.lemmas.Option.{cond_some, none-some}
use Rattle.dev_traits.specs.Moments.{GoesOn}
use Rattle.dev_traits.specs.Told.{WhereTold}
use Rattle.shelf_file.specs.Seen.{of_length, seen_under, Stays}

pub seen_is_image : (seen : Option (List ℕ)) → WhereTold seen (λ image. seen ≡ Some image)
seen_is_image None = tt
seen_is_image (Some image) = refl

pub image_is_told : (seen : Option (List ℕ)) (image : List ℕ) → seen ≡ Some image → is_some seen ≡ true
image_is_told seen image is = ap is_some is

of_length-short : (size : ℕ) (file : Option (List ℕ)) (image : List ℕ) → of_length size file ≡ Some image → length image < 2 ^ 63
of_length-short size None image is = absurd (none-some image is)
of_length-short size (Some bytes) image is =
    let found = cond_some _ bytes image is in
    let short = and_parts (length bytes == size) (nat_lt (length bytes) (2 ^ 63)) found.0 in
    omega (arith, ltb-true (length bytes) (2 ^ 63) short.1, ap length found.1)

pub image_is_short : (told : Option (List ℕ → Option (List ℕ))) (name : List ℕ) (size : ℕ) (image : List ℕ)
    → seen_under told name size ≡ Some image → length image < 2 ^ 63
image_is_short None name size image is = absurd (none-some image is)
image_is_short (Some files) name size image is = of_length-short size (files name) image is

pub Stays-goes_on : {F : Type 0} (told : F → Option (List ℕ → Option (List ℕ))) → GoesOn (Stays told)
Stays-goes_on told = record {
  none = λ file. record { shelf = refl; content = refl; name = refl; size = refl; changes = refl };
  both = λ old mid new first then. record {
    shelf = then.shelf ∙ first.shelf;
    content = then.content ∙ first.content;
    name = then.name ∙ first.name;
    size = then.size ∙ first.size;
    changes = then.changes ∙ first.changes;
  };
}
