-- A text on its way to a sink, of which some is held back.
use Rattle.std.specs.Prelude.{◌≡◌, ◌≤◌, ℕ, Bool, true, false, List, ◌++◌, Option, Result}
use Rattle.dev_traits.specs.Fault.{HasRisen}
use Rattle.dev_traits.specs.Told.{more, PrefixMore}
use Rattle.sink_text.specs.Appends.{Appends}

-- the bytes that are held back, and whether the sink has failed
pub record StretchState : Type 0 where
  pub held : List ℕ
  pub failed : Bool

-- the sink got the front of the text, and the rest of it is held
pub record IsGoing (from told : Option (List ℕ)) (text held : List ℕ) : Type 0 where
  pub front : List ℕ
  pub parts : text ≡ front ++ held
  pub appended : told ≡ more from front

-- The text was put on its way to a sink that told `from` and had so many faults: without a fault the sink got it
-- but for what is held, and since a fault it has a first part of it.
pub record IsWritten (from : Option (List ℕ)) (before : ℕ) (text : List ℕ) (s : StretchState)
    (told : Option (List ℕ)) (now : ℕ) : Type 0 where
  pub going : s.failed ≡ false → IsGoing from told text s.held
  pub kept : s.failed ≡ false → now ≡ before
  pub part : s.failed ≡ true → PrefixMore from text told
  pub risen : s.failed ≡ true → HasRisen before now
  pub no_fall : before ≤ now

-- behind every text on its way, these bytes are now on their way
pub record Puts (bytes : List ℕ) (old new : StretchState) (told_old told_new : Option (List ℕ))
    (faults_old faults_new : ℕ) : Type 0 where
  pub then : (from : Option (List ℕ)) (before : ℕ) (text : List ℕ)
      → IsWritten from before text old told_old faults_old
      → IsWritten from before (text ++ bytes) new told_new faults_new

-- every text that was on its way is appended, or a first part of it with a fault
pub record Ends {T E : Type 0} (s : StretchState) (told_old told_new : Option (List ℕ))
    (faults_old faults_new : ℕ) (result : Result T E) : Type 0 where
  pub appends : (from : Option (List ℕ)) (before : ℕ) (text : List ℕ)
      → IsWritten from before text s told_old faults_old
      → Appends from told_new text before faults_new result
