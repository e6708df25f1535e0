use Rattle.std.proofs.Common.{◌≡◌, ◌∙◌, ℕ, ◌+◌, length, get_or, take, not, eqb, Bool, List, Option, Some, None, sym, ap, subst, arith}
use Rattle.dev_traits.specs.Told.{WhereTold}
use Rattle.checkpoint_journal.proofs.RunLemmas.{looks_both, looks_three}
use Rattle.checkpoint_journal.proofs.ToldLemmas.{told_both, told_three, told_again}
use Rattle.journal_image.specs.Image.{MayBeOld, begin}
use Rattle.dev_traits.proofs.ToldLemmas.{WhereTold-weaker}
use Rattle.journal_image.specs.declared.difference.Differs.{Differs}
use Rattle.journal_image.specs.Difference.{IsOfFront}
use Rattle.checkpoint_journal.specs.Front.{IsBegun, FindsHead, IsLong, OursTo, FindsFirst}
use Rattle.checkpoint_journal.specs.Finding.{IsOther}
use Rattle.checkpoint_journal.proofs.FrontLemmas.{front_begin, front_may, found_other}
use Rattle.checkpoint_journal.proofs.reader.find.Goals as goal

abbrev differs : ℕ → ℕ → Bool
differs n m = not (eqb n m)

pub returns-in_err-d-clause-looks : goal.returns-in_err-d-clause-looks
returns-in_err-d-clause-looks g c = looks_both g.D.Disk.seen g.D.Disk.moment g.D.Disk.may_leave _ _ _ c.begun_len.ensures.looks c.first_difference.ensures.looks

-- a fact of a begun front with this version, once the version is read
told_version : (id : List ℕ) (len version : ℕ) (a b c : Option (List ℕ)) (d : Option Differs) (P : List ℕ → Type 0) → d ≡ None → b ≡ a → c ≡ b
    → ((image : List ℕ) → IsBegun image len → OursTo id image (length id) → version ≡ get_or image 8 0 → P image)
    → WhereTold a (λ image. IsBegun image len) → WhereTold a (λ image. FindsFirst id image d) → WhereTold b (λ image. version ≡ get_or image 8 0) → WhereTold c P
told_version id len version a b c d P none same same' follows begun first byte =
    told_again c a P (same' ∙ same)
    (told_three a (λ image. IsBegun image len) (λ image. OursTo id image (length id)) (λ image. version ≡ get_or image 8 0) P follows begun
    (subst (λ (r : Option Differs). WhereTold a (λ image. FindsFirst id image r)) none first) (told_again a b (λ image. version ≡ get_or image 8 0) (sym same) byte))

-- the front of a file whose head gate was found open
told_begun : (a b : Option (List ℕ)) (r : Option ℕ) (len : ℕ) → r ≡ Some len → b ≡ a → WhereTold a (λ image. FindsHead image r) → WhereTold b (λ image. IsBegun image len)
told_begun a b r len is same head = told_again b a (λ image. IsBegun image len) same (subst (λ (o : Option ℕ). WhereTold a (λ image. FindsHead image o)) is head)

pub walk-requires-clause-length : goal.walk-requires-clause-length
walk-requires-clause-length g c =
    let begun = told_begun _ _ _ c.in-Some.len c.in-Some.is c.begun_len.ensures.looks.same c.in_ok-len.ensures.head in
    told_again _ _ (λ image. c.in-Some.len ≡ length image) (c.byte_at.ensures.looks.same ∙ c.first_difference.ensures.looks.same)
    (WhereTold-weaker _ (λ image. IsBegun image c.in-Some.len) (λ image. c.in-Some.len ≡ length image) (λ image begun. begun.length_is) begun)

pub walk-requires-clause-begun : goal.walk-requires-clause-begun
walk-requires-clause-begun g c =
    let id = c.args.id.now in
    let version = c.in_ok-version-in-None.version in
    let begun = told_begun _ _ _ c.in-Some.len c.in-Some.is c.begun_len.ensures.looks.same c.in_ok-len.ensures.head in
    told_version id c.in-Some.len version _ _ _ _ (λ image. take (1 + length id) image ≡ begin id (differs version (get_or id 7 0))) c.in-None.is c.first_difference.ensures.looks.same c.byte_at.ensures.looks.same
    (λ image begun ours byte. front_begin id image (differs version (get_or id 7 0)) c.requires.identity (ap (λ (n : ℕ). differs n (get_or id 7 0)) byte) begun.is_open ours)
    begun c.in_ok-d.ensures.first c.in_ok-version-in-None.ensures.byte

pub walk-requires-clause-version : goal.walk-requires-clause-version
walk-requires-clause-version g c =
    let id = c.args.id.now in
    let version = c.in_ok-version-in-None.version in
    let begun = told_begun _ _ _ c.in-Some.len c.in-Some.is c.begun_len.ensures.looks.same c.in_ok-len.ensures.head in
    told_version id c.in-Some.len version _ _ _ _ (λ image. MayBeOld id (differs version (get_or id 7 0))) c.in-None.is c.first_difference.ensures.looks.same c.byte_at.ensures.looks.same
    (λ image begun ours byte. subst (λ (n : ℕ). MayBeOld id (differs n (get_or id 7 0))) (sym byte) (front_may id image c.requires.identity ours))
    begun c.in_ok-d.ensures.first c.in_ok-version-in-None.ensures.byte

pub returns-in-Some-2-clause-finds : goal.returns-in-Some-2-clause-finds
returns-in-Some-2-clause-finds g c =
    let id = c.args.id.now in
    let job = c.args.plan.now in
    let d = c.in-Some-2.d in
    let long = subst IsLong c.in-Some.is c.in_ok-len.ensures.long in
    told_again _ _ (λ image. IsOther id job image d) (sym c.begun_len.ensures.looks.same)
    (told_both _ (λ image. IsBegun image c.in-Some.len) (λ image. IsOfFront id image d) (λ image. IsOther id job image d)
    (λ image begun found. found_other id job image d c.requires.identity c.epochs-epochs.ensures.job (omega (arith, begun.length_is, long.0)) begun.is_open (Rattle.std.proofs.Common.inl found))
    (told_begun _ _ _ c.in-Some.len c.in-Some.is c.begun_len.ensures.looks.same c.in_ok-len.ensures.head)
    (subst (λ (r : Option Differs). WhereTold (g.D.Disk.seen c.begun_len.new.disk) (λ image. FindsFirst id image r)) c.in-Some-2.is c.in_ok-d.ensures.first))

pub returns-in-Some-2-clause-looks : goal.returns-in-Some-2-clause-looks
returns-in-Some-2-clause-looks g c = looks_both g.D.Disk.seen g.D.Disk.moment g.D.Disk.may_leave _ _ _ c.begun_len.ensures.looks c.first_difference.ensures.looks

pub returns-in_err-version-in-None-clause-looks : goal.returns-in_err-version-in-None-clause-looks
returns-in_err-version-in-None-clause-looks g c = looks_three g.D.Disk.seen g.D.Disk.moment g.D.Disk.may_leave _ _ _ _ c.begun_len.ensures.looks c.first_difference.ensures.looks c.byte_at.ensures.looks

pub returns-in_ok-version-in-None-clause-looks : goal.returns-in_ok-version-in-None-clause-looks
returns-in_ok-version-in-None-clause-looks g c = looks_both g.D.Disk.seen g.D.Disk.moment g.D.Disk.may_leave _ _ _ (looks_three g.D.Disk.seen g.D.Disk.moment g.D.Disk.may_leave _ _ _ _ c.begun_len.ensures.looks c.first_difference.ensures.looks c.byte_at.ensures.looks) c.walk.ensures.looks
