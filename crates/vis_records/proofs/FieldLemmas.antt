-- Pieces of a text and numbers in them.
use Rattle.std.proofs.Common.{◌≡◌, ◌≤◌, ℕ, true, ◌&&◌, List, length, take, drop, sym, refl}
use Rattle.std.specs.Prelude.{nat_le, Result, IfErr, IsErrAnd}
use Rattle.std.proofs.lemmas.Result.{err_from_is_err_and}
use Rattle.std.proofs.lemmas.Bool.{le-leb}
use Rattle.vis_records.specs.declared.fault.VisKind.{VisKind}
use Rattle.vis_records.specs.declared.fault.Stop.{Stop}
use Rattle.vis_records.specs.Parts.{Part, Took, StopsBy, piece, number_of, field}
use Rattle.vis_records.proofs.PartLemmas.{took-later, checked-ok}

pub piece-enough : (n : ℕ) (text : List ℕ) → n ≤ length text → piece n text ≡ Took (take n text) (drop n text)
unfolding piece
piece-enough n text enough = checked-ok _ _ (le-leb n (length text) enough)

within : (low n high : ℕ) → low ≤ n → n ≤ high → (nat_le low n && nat_le n high) ≡ true
within low n high above below = rw (le-leb low n above, le-leb n high below) refl

pub field-took : {bytes rest : List ℕ} (size low high : ℕ) (kind : VisKind) (text : List ℕ) (n : ℕ)
    → piece size text ≡ Took bytes rest
    → n ≡ number_of size bytes
    → low ≤ n
    → n ≤ high
    → field size low high kind text ≡ Took n rest
unfolding field
field-took {bytes = bytes} {rest = rest} size low high kind text n taken is above below =
    let number : number_of size bytes ≡ n = sym is in
    took-later _ taken (rw number (checked-ok _ _ (within low n high above below)))

-- a call that passes the rule on that another answered
pub passed-on : {X A : Type 0} (part : Part A) (r : Result X Stop) (given : Stop)
    → IsErrAnd r (λ e. e ≡ given)
    → StopsBy part given
    → IfErr r (StopsBy part)
passed-on part r given same fact =
    let p = err_from_is_err_and r same in rw (p.1, p.2) fact
