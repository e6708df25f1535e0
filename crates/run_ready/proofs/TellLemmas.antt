-- What a command tells that is refused for its files.
use Rattle.std.proofs.Common.{ℕ, List, Option, Some, None, Err, refl, inl}
use Rattle.corr_model.specs.Files.{Files}
use Rattle.dev_traits.specs.Told.{WhereTold}
use Rattle.run_notes.specs.declared.refusal.Refusal.{Refusal}
use Rattle.run_notes.specs.declared.refusal.Refusal.TheVariants.{Memory, Words, Due as DueRefusal, Other, Read, Journal, Write}
use Rattle.run_notes.specs.Refusals.{Outcomes, IsCause}
use Rattle.run_notes.specs.Commands.{Tells, IsPartlyOf, IsOfFilesOrOutput}
use Rattle.run_ready.specs.Stage.{IsOfFiles}

pub tells-refused : {A : Type 0} (told : Option Files) (outcomes : Files → Outcomes A) (text : Files → A → List ℕ) (old : Option (List ℕ)) (r : Refusal)
    → IsOfFiles r → WhereTold told (λ files. IsCause r (outcomes files))
    → WhereTold told (λ files. Tells (outcomes files) (text files) old old (Err r))
tells-refused None outcomes text old r stage cause = tt
tells-refused (Some files) outcomes text old r stage cause = record { done = tt; cause = cause; part = part r stage }
  where
    part : (q : Refusal) → IsOfFiles q → IsPartlyOf q (outcomes files) (text files) old old
    part Memory stage = inl refl
    part (Words fault) stage = refl
    part (DueRefusal due) stage = refl
    part (Other d) stage = refl
    part Read stage = inl refl
    part (Journal kept) stage = absurd stage
    part Write stage = absurd stage

pub stage-files : (r : Refusal) → IsOfFiles r → IsOfFilesOrOutput r
stage-files Memory stage = tt
stage-files (DueRefusal due) stage = tt
stage-files Read stage = tt
stage-files r stage = absurd stage
