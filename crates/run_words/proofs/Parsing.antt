-- What a parse of a simple command gives.
use Rattle.std.proofs.Common.{◌≡◌, ◌∙◌, ap, sym, refl, List, [], ◌∷◌, Some, None, inl, inr, ◌⊎◌}
use Rattle.clap.specs.Words.{App, Row, Text, Kinds, fault_of, matches_of, IsAmong}
use Rattle.clap.specs.declared.error.kind.ErrorKind.{ErrorKind}
use Rattle.clap.specs.declared.error.kind.ErrorKind.TheVariants.{OutOfMemory}
use Rattle.run_words.specs.declared.fault.WordsFault.{WordsFault}
use Rattle.run_words.specs.declared.fault.WordsFault.TheVariants.{Option as OptionFault, Memory}
use Rattle.run_words.specs.Options.{rows_in, unless_refused, kind_fault}

-- without a fault the rows are the matches
pub rows_in-matches : (app : App) (words : List Text) (rows : List Row) → fault_of app words ≡ [] → rows ≡ matches_of app words → rows_in app words ≡ Some rows
unfolding rows_in
rows_in-matches app words rows none is = ap (λ (k : Kinds). unless_refused k (matches_of app words)) none ∙ ap Some (sym is)

kind_fault-cases : (kind : ErrorKind) → (kind_fault kind ≡ Memory) ⊎ (kind_fault kind ≡ OptionFault)
kind_fault-cases OutOfMemory = inl refl
kind_fault-cases _ = inr refl

-- a fault of a kind that the words have, or of want of memory
pub rows_in-refused : (app : App) (words : List Text) (kind : ErrorKind) (fault : WordsFault) → fault ≡ kind_fault kind
    → (kind ≡ OutOfMemory) ⊎ IsAmong kind (fault_of app words) → (fault ≡ Memory) ⊎ ((fault ≡ OptionFault) × (rows_in app words ≡ None))
unfolding rows_in
rows_in-refused app words kind fault is (inl memory) = inl (is ∙ ap kind_fault memory)
rows_in-refused app words kind fault is (inr among) = by (fault_of app words) among (kind_fault-cases kind)
  where
    by : (kinds : Kinds) → IsAmong kind kinds → (kind_fault kind ≡ Memory) ⊎ (kind_fault kind ≡ OptionFault)
        → (fault ≡ Memory) ⊎ ((fault ≡ OptionFault) × (unless_refused kinds (matches_of app words) ≡ None))
    by [] among cases = absurd among
    by (k ∷ kinds) among (inl memory) = inl (is ∙ memory)
    by (k ∷ kinds) among (inr option) = inr (is ∙ option, refl)
