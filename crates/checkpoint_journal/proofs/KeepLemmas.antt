-- The two parts in which a thing is written, each between two syncs.
use Rattle.std.specs.Prelude.{option_map, is_some}
use Rattle.std.proofs.Common.{◌≡◌, ◌≢◌, ◌⊎◌, inl, inr, ⊎_elim, ◌∙◌, ℕ, ◌+◌, ◌<◌, ◌≤◌, List, [], ◌∷◌, ◌++◌, length, get_or, take, drop, Option, refl, sym, ap, subst, arith, length-append, append_assoc}
use Rattle.std.proofs.lemmas.List.{take_at, drop_at, get_or_at, length-take, take-take}
use Rattle.dev_traits.specs.Images.{put_at, Torn}
use Rattle.dev_traits.specs.Told.{WhereTold}
use Rattle.dev_traits.specs.Moments.{Goes, Runs, IsDurable}
use Rattle.dev_traits.proofs.Moments.{runs_of}
use Rattle.checkpoint_journal.specs.Runs.{Changes, KeepsFront, put_over, IsDue, Adds}
use Rattle.checkpoint_journal.proofs.WriteLemmas.{over_gate, put_byte, front_joined, front_same_one, front_at, torn_byte}
use Rattle.checkpoint_journal.proofs.RunLemmas.{changes_of, changes_both, told_value}
use Rattle.checkpoint_journal.proofs.ToldLemmas.{told_mapped}
use Rattle.piece_plan.specs.Epochs.{JobSizes, IsJob}
use Rattle.journal_image.specs.Image.{Thing, text, IsIdentity, Reading, Reads, gate_of, more}
use Rattle.journal_image.proofs.ReadingLemmas.{reads-AtGate, reads_once, ends_at_gate, reads_more}
use Rattle.journal_image.proofs.ThingLemmas.{more_due}
use Rattle.checkpoint_journal.specs.Staged.{IsStaged}

eq_or_ne : (p q : ℕ) → (p ≡ q) ⊎ (p ≢ q)
eq_or_ne p q = grind arith

module _ (id : List ℕ) (job : JobSizes) (named : IsIdentity id) (is_job : IsJob job) (r : Reading) (t : Thing) where
  longer : r ≡ more job r t → ⊥
  longer e = let n : length r.things ≡ length (r.things ++ t ∷ []) = ap (λ (s : Reading). length s.things) e in absurd (omega (arith, length-append r.things (t ∷ [])))

  -- no image says both
  not_both : (v : List ℕ) → Reads id job v r → Reads id job v (more job r t) → ⊥
  not_both v one other = longer (reads_once id job v named is_job r (more job r t) one other)

  pub adds_same : (v : List ℕ) → Adds id job r t v v
  adds_same v = (λ reads. inl reads, λ reads. reads)

  pub adds_joined : (u v w : List ℕ) → Adds id job r t u v → Adds id job r t v w → Adds id job r t u w
  adds_joined u v w first second = (
    λ reads. ⊎_elim (λ (same : Reads id job v r). second.0 same) (λ (one : Reads id job v (more job r t)). inr (second.1 one)) (first.0 reads),
    λ reads. second.1 (first.1 reads),
  )

  -- an image that says what it said
  adds_none : (v image : List ℕ) → Reads id job v r → Reads id job image r → Adds id job r t v image
  adds_none v image before after = (λ reads. inl after, λ reads. absurd (not_both v before reads))

  module _ (gate : ℕ) (bytes : List ℕ) where
    -- the gate of the due thing is closed
    pub record Due (u : List ℕ) : Type 0 where
      pub reads : Reads id job u r
      pub inside : gate < length u
      pub shut : get_or u gate 0 ≢ 1

    pub due_gate : (u : List ℕ) → IsDue id job r t gate bytes u → Due u
    due_gate u due =
        let at = reads-AtGate id job u r due.reads in
        record {
          reads = due.reads;
          inside = omega (arith, due.place, at.inside);
          shut = λ one. more_due job is_job r.due t due.fits (at.stops (ap (λ (n : ℕ). get_or u n 0) (sym due.place) ∙ one));
        }

    -- an image with the same bytes before the gate, where it is not opened
    closed : (u v : List ℕ) → IsDue id job r t gate bytes u → gate < length v → take gate v ≡ take gate u → get_or v gate 0 ≢ 1 → Reads id job v r
    closed u v due long same shut =
        let place = due.place in
        ends_at_gate id job u r v due.reads (omega arith) (subst (λ (n : ℕ). take n v ≡ take n u) place same) (λ one. absurd (shut (ap (λ (n : ℕ). get_or v n 0) place ∙ one)))

    -- where it is, over the thing and a closed gate
    opened : (u v rest : List ℕ) → IsDue id job r t gate bytes u → v ≡ take gate u ++ (1 ∷ ((bytes ++ 0 ∷ []) ++ rest)) → Reads id job v (more job r t)
    opened u v rest due is =
        let place = due.place in
        let same : v ≡ take (gate_of id job r) u ++ (1 ∷ (text r.due t ++ (0 ∷ rest))) =
        is ∙ ap (λ (n : ℕ). take n u ++ (1 ∷ ((bytes ++ 0 ∷ []) ++ rest))) place
        ∙ ap (λ (l : List ℕ). take (gate_of id job r) u ++ (1 ∷ l)) (append_assoc bytes (0 ∷ []) rest ∙ ap (λ (l : List ℕ). l ++ (0 ∷ rest)) due.is) in
        subst (λ (l : List ℕ). Reads id job l (more job r t)) (sym same) (reads_more id job u r t 0 rest due.reads due.fits (omega arith))

    staged_parts : (w : List ℕ) (s : IsStaged id job r t gate bytes w)
        → w ≡ take gate s.before ++ (get_or s.before gate 0 ∷ ((bytes ++ 0 ∷ []) ++ drop (gate + 1 + length (bytes ++ 0 ∷ [])) s.before))
    staged_parts w s = s.is ∙ over_gate gate (bytes ++ 0 ∷ []) s.before (due_gate s.before s.due).inside

    -- one byte of it may differ
    staged_torn : (w image : List ℕ) (s : IsStaged id job r t gate bytes w) → Torn gate (gate + 1) w image
        → image ≡ take gate s.before ++ (get_or image gate 0 ∷ ((bytes ++ 0 ∷ []) ++ drop (gate + 1 + length (bytes ++ 0 ∷ [])) s.before))
    staged_torn w image s torn =
        let u = s.before in
        let d = due_gate u s.due in
        let rest = (bytes ++ 0 ∷ []) ++ drop (gate + 1 + length (bytes ++ 0 ∷ [])) u in
        let x = get_or u gate 0 in
        let is = staged_parts w s in
        let front : length (take gate u) ≡ gate = omega (arith, length-take gate u, d.inside) in
        let one : length (take gate u ++ x ∷ []) ≡ gate + 1 = omega (arith, length-append (take gate u) (x ∷ [])) in
        let inside : gate < length w = omega (arith, ap length is, length-append (take gate u) (x ∷ rest)) in
        let ahead : take gate w ≡ take gate u = ap (take gate) is ∙ take_at (take gate u) (x ∷ rest) gate front in
        let back : drop (gate + 1) w ≡ rest = ap (drop (gate + 1)) (is ∙ sym (append_assoc (take gate u) (x ∷ []) rest)) ∙ drop_at (take gate u ++ x ∷ []) rest (gate + 1) one in
        torn_byte gate w image inside torn ∙ ap (λ (l : List ℕ). l ++ get_or image gate 0 ∷ drop (gate + 1) w) ahead ∙ ap (λ (l : List ℕ). take gate u ++ get_or image gate 0 ∷ l) back

    -- an image with any byte at the gate, over the staged bytes
    at_byte : (u v rest : List ℕ) (x : ℕ) → IsDue id job r t gate bytes u → v ≡ take gate u ++ (x ∷ ((bytes ++ 0 ∷ []) ++ rest))
        → (x ≡ 1 → Reads id job v (more job r t)) × (x ≢ 1 → Reads id job v r)
    at_byte u v rest x due is =
        let d = due_gate u due in
        let tail = x ∷ ((bytes ++ 0 ∷ []) ++ rest) in
        let front : length (take gate u) ≡ gate = omega (arith, length-take gate u, d.inside) in
        let inside : gate < length v = omega (arith, ap length is, length-append (take gate u) tail) in
        let same : take gate v ≡ take gate u = ap (take gate) is ∙ take_at (take gate u) tail gate front in
        let byte : get_or v gate 0 ≡ x = ap (λ (l : List ℕ). get_or l gate 0) is ∙ get_or_at (take gate u) x ((bytes ++ 0 ∷ []) ++ rest) 0 gate front in (
          λ one. opened u v rest due (is ∙ ap (λ (y : ℕ). take gate u ++ (y ∷ ((bytes ++ 0 ∷ []) ++ rest))) one),
          λ shut. closed u v due inside same (λ one. shut (sym byte ∙ one)),
        )

    staged_reads : (w : List ℕ) → IsStaged id job r t gate bytes w → Reads id job w r
    staged_reads w s = (at_byte s.before w _ (get_or s.before gate 0) s.due (staged_parts w s)).1 (due_gate s.before s.due).shut

    torn_adds : (w image : List ℕ) → IsStaged id job r t gate bytes w → Torn gate (gate + 1) w image → Adds id job r t w image
    torn_adds w image s torn =
        let g = at_byte s.before image _ (get_or image gate 0) s.due (staged_torn w image s torn) in
        let before = staged_reads w s in (
          λ reads. ⊎_elim (λ (one : get_or image gate 0 ≡ 1). inr (g.0 one)) (λ (shut : get_or image gate 0 ≢ 1). inl (g.1 shut)) (eq_or_ne (get_or image gate 0) 1),
          λ reads. absurd (not_both w before reads),
        )

    opened_reads : (w : List ℕ) → IsStaged id job r t gate bytes w → Reads id job (put_at gate (1 ∷ []) w) (more job r t)
    opened_reads w s =
        let d = due_gate s.before s.due in
        let front : length (take gate s.before) ≡ gate = omega (arith, length-take gate s.before, d.inside) in
        opened s.before (put_at gate (1 ∷ []) w) _ s.due (ap (put_at gate (1 ∷ [])) (staged_parts w s) ∙ put_byte gate (get_or s.before gate 0) 1 (take gate s.before) _ front)

    pub told_staged : (old mid : Option (List ℕ)) → WhereTold old (IsDue id job r t gate bytes) → mid ≡ option_map (put_over (gate + 1) (bytes ++ 0 ∷ [])) old
        → WhereTold mid (IsStaged id job r t gate bytes)
    told_staged old mid due is = told_mapped old mid (put_over (gate + 1) (bytes ++ 0 ∷ [])) (IsDue id job r t gate bytes) (IsStaged id job r t gate bytes) is
        (λ u d. record { before = u; due = d; is = refl }) due

    pub told_opened : (mid new : Option (List ℕ)) → WhereTold mid (IsStaged id job r t gate bytes) → new ≡ option_map (put_at gate (1 ∷ [])) mid
        → WhereTold new (λ image. Reads id job image (more job r t))
    told_opened mid new staged is =
        told_mapped mid new (put_at gate (1 ∷ [])) (IsStaged id job r t gate bytes) (λ image. Reads id job image (more job r t)) is opened_reads staged

    module _ {D : Type 0} (seen : D → Option (List ℕ)) (moment : D → ℕ) (may_leave : D → ℕ → List ℕ → Type 0) (law : (d : D) → WhereTold (seen d) (may_leave d (moment d))) where
      -- while the bytes are written
      pub part_stage : (old new : D) → IsDurable (seen old) (may_leave old (moment old)) → WhereTold (seen old) (IsDue id job r t gate bytes) → is_some (seen new) ≡ is_some (seen old)
          → Runs moment may_leave (KeepsFront (gate + 1)) old new → Changes seen moment may_leave (Adds id job r t) old new
      part_stage old new durable due tells runs =
          changes_of seen moment may_leave (KeepsFront (gate + 1)) (Adds id job r t) (front_same_one (gate + 1)) old new durable (law new) tells runs (λ u v image is first second.
          let here = told_value (seen old) (IsDue id job r t gate bytes) u is due in
          let d = due_gate u here in
          let inside : gate + 1 ≤ length u = omega (arith, d.inside) in
          let one = first inside in
          let both = front_joined (gate + 1) u v image first second inside in
          adds_none v image (behind u v here d one.0 one.1) (behind u image here d both.0 both.1))
        where
          behind : (u v : List ℕ) → IsDue id job r t gate bytes u → Due u → gate + 1 ≤ length v → take (gate + 1) v ≡ take (gate + 1) u → Reads id job v r
          behind u v here d long same =
              closed u v here (omega arith) (sym (take-take gate (gate + 1) v (omega arith)) ∙ ap (take gate) same ∙ take-take gate (gate + 1) u (omega arith))
              (λ one. d.shut (sym (front_at (gate + 1) gate u v (omega arith) same) ∙ one))

      -- while the gate is opened
      pub part_gate : (old new : D) → IsDurable (seen old) (may_leave old (moment old)) → WhereTold (seen old) (IsStaged id job r t gate bytes) → is_some (seen new) ≡ is_some (seen old)
          → Goes moment may_leave (Torn gate (gate + 1)) old new → Changes seen moment may_leave (Adds id job r t) old new
      part_gate old new durable staged tells goes =
          let runs = runs_of moment may_leave (Adds id job r t) adds_same (Torn gate (gate + 1)) old new goes
          (λ v image now torn. torn_adds v image (told_value (seen old) (IsStaged id job r t gate bytes) v (durable v now) staged) torn) in
          changes_of seen moment may_leave (Adds id job r t) (Adds id job r t) adds_same old new durable (law new) tells runs (λ u v image is first second. second)

      -- one after the other
      pub both_parts : (old mid new : D) → IsDurable (seen old) (may_leave old (moment old)) → WhereTold (seen old) (IsDue id job r t gate bytes) → is_some (seen mid) ≡ is_some (seen old)
          → Runs moment may_leave (KeepsFront (gate + 1)) old mid → seen mid ≡ option_map (put_over (gate + 1) (bytes ++ 0 ∷ [])) (seen old)
          → (WhereTold (seen mid) (IsStaged id job r t gate bytes) → Changes seen moment may_leave (Adds id job r t) mid new) → Changes seen moment may_leave (Adds id job r t) old new
      both_parts old mid new durable due tells runs written second =
          changes_both seen moment may_leave (Adds id job r t) adds_same adds_joined old mid new (part_stage old mid durable due tells runs) (second (told_staged (seen old) (seen mid) due written))
