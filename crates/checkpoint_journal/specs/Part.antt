-- Which part of a job a file is the journal of.
use Rattle.std.specs.Prelude.{◌≡◌, ◌⊎◌, ℕ, ◌<◌, ◌≤◌, true, false, List, ◌∷◌, length, take, codes}
use Rattle.byteorder.specs.Endian.{little_from}
use Rattle.journal_image.specs.declared.difference.Differs.{Differs}
use Rattle.journal_image.specs.Image.{is_blank}
use Rattle.journal_image.specs.Difference.{IsOfFront, end_of}
use Rattle.checkpoint_journal.specs.declared.part.PartFound.{PartFound}
use Rattle.checkpoint_journal.specs.declared.part.PartFound.TheVariants.{Blank, Part, Other}

-- the eight first bytes of a part's identity
abbrev pub part_mark : List ℕ
part_mark = codes "VLBISHD1"

-- the front of a part's journal: the open head gate, that mark, and two numbers
pub record IsOfPart (image : List ℕ) (from to : ℕ) : Type 0 where
  pub begun : is_blank image ≡ false
  pub long : 25 ≤ length image
  pub front : take 9 image ≡ 1 ∷ part_mark
  pub from_is : from ≡ little_from 9 8 image
  pub to_is : to ≡ little_from 17 8 image

-- the file ends behind the mark and before the numbers do
pub record IsCutFront (image : List ℕ) (d : Differs) : Type 0 where
  pub front : take 9 image ≡ 1 ∷ part_mark
  pub short : length image < 25
  pub is : d ≡ end_of (length image)

-- an image that is neither blank nor of a part, and where it differs
pub record IsNoPart (image : List ℕ) (d : Differs) : Type 0 where
  pub begun : is_blank image ≡ false
  pub place : IsOfFront part_mark image d ⊎ IsCutFront image d

-- what an image is
abbrev pub FindsPart : List ℕ → PartFound → Type 0
FindsPart image Blank = is_blank image ≡ true
FindsPart image (Part from to) = IsOfPart image from to
FindsPart image (Other d) = IsNoPart image d

-- the two numbers behind the mark
abbrev pub AreNumbers : List ℕ → ℕ → ℕ → Type 0
AreNumbers image from to = (from ≡ little_from 9 8 image) × (to ≡ little_from 17 8 image)
