-- What is written of a record, part behind part.
use Rattle.std.specs.Prelude.{option_map}
use Rattle.std.proofs.Common.{◌≡◌, ◌∙◌, ℕ, ◌+◌, ◌≤◌, List, ◌++◌, length, take, drop, Option, Some, None, sym, ap, subst, arith, length-append}
use Rattle.std.proofs.lemmas.List.{length-take}
use Rattle.dev_traits.specs.Images.{put_at}
use Rattle.dev_traits.specs.Told.{WhereTold}
use Rattle.checkpoint_journal.specs.Runs.{put_over}
use Rattle.checkpoint_journal.proofs.ToldLemmas.{told_mapped}
use Rattle.checkpoint_journal.proofs.WriteLemmas.{put_at-inside}
use Rattle.checkpoint_journal.proofs.TextLemmas.{put_over-more}

-- a write inside the file
pub written_inside : (at : ℕ) (a : List ℕ) (old new : Option (List ℕ)) → WhereTold old (λ v. at ≤ length v) → new ≡ option_map (put_at at a) old → new ≡ option_map (put_over at a) old
written_inside at a None new within is = is
written_inside at a (Some v) new within is = is ∙ ap (λ (l : List ℕ). Some l) (put_at-inside at a v within)

-- the same of bytes that are a head
pub written_head : (at : ℕ) (bytes head : List ℕ) (old new : Option (List ℕ)) → WhereTold old (λ v. at ≤ length v) → bytes ≡ head → new ≡ option_map (put_at at bytes) old
    → new ≡ option_map (put_over at head) old
written_head at bytes head old new within is written = written_inside at head old new within (written ∙ ap (λ (l : List ℕ). option_map (put_at at l) old) is)

-- the file reaches as far as what was written
long_over : (at : ℕ) (a v : List ℕ) → at ≤ length v → at + length a ≤ length (put_over at a v)
long_over at a v inside =
    omega (arith, length-append (take at v) (a ++ drop (at + length a) v), length-append a (drop (at + length a) v), length-take at v)

pub told_long : (at place : ℕ) (a : List ℕ) (old mid : Option (List ℕ)) → WhereTold old (λ v. at ≤ length v) → place ≡ at + length a → mid ≡ option_map (put_over at a) old
    → WhereTold mid (λ v. place ≤ length v)
told_long at place a old mid within is first =
    told_mapped old mid (put_over at a) (λ v. at ≤ length v) (λ v. place ≤ length v) first (λ v inside. subst (λ (n : ℕ). n ≤ length (put_over at a v)) (sym is) (long_over at a v inside)) within

-- and what is written over behind it
pub written_behind : (at place : ℕ) (a b : List ℕ) (old mid new : Option (List ℕ)) → WhereTold old (λ v. at ≤ length v) → place ≡ at + length a
    → mid ≡ option_map (put_over at a) old → new ≡ option_map (put_over place b) mid → new ≡ option_map (put_over at (a ++ b)) old
written_behind at place a b None mid new within is first second = second ∙ ap (option_map (put_over place b)) first
written_behind at place a b (Some v) mid new within is first second =
    second ∙ ap (option_map (put_over place b)) first ∙ ap (λ (n : ℕ). Some (put_over n b (put_over at a v))) is
    ∙ ap (λ (l : List ℕ). Some l) (sym (put_at-inside (at + length a) b (put_over at a v) (long_over at a v within)) ∙ put_over-more at a b v within)
