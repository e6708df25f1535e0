-- One more file with its size.
use Rattle.std.proofs.Common.{◌≡◌, subst, List, [], ◌∷◌, ◌++◌, Option, Some, None}
use Rattle.std.proofs.lemmas.List.Elements.{All-push}
use Rattle.dev_traits.specs.Told.{WhereTold}
use Rattle.frame_index.specs.declared.recording.FileRef.{FileRef}
use Rattle.frame_index.specs.Recording.{Shelved, IsOnShelf, AreOnShelf}

push_here : (told : Option Shelved) (files : List FileRef) (file : FileRef) → WhereTold told (AreOnShelf files) → WhereTold told (λ shelf. IsOnShelf shelf file)
    → WhereTold told (AreOnShelf (files ++ file ∷ []))
push_here None files file before one = tt
push_here (Some shelf) files file before one = All-push (IsOnShelf shelf) files file before one

pub push_on : (told now : Option Shelved) (files more : List FileRef) (file : FileRef) → now ≡ told → more ≡ files ++ file ∷ []
    → WhereTold told (AreOnShelf files)
    → WhereTold now (λ shelf. IsOnShelf shelf file)
    → WhereTold told (AreOnShelf more)
push_on told now files more file same is before one =
    rw is (push_here told files file before (subst (λ (t : Option Shelved). WhereTold t (λ shelf. IsOnShelf shelf file)) same one))
