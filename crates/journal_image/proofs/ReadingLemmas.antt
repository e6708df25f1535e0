-- What an image says, by the gate that ends its row.
use Rattle.std.proofs.Common.{◌≡◌, ◌∙◌, inl, inr, ℕ, ◌+◌, ◌<◌, Bool, true, false, List, [], ◌∷◌, ◌++◌, length, get_or, take, drop, refl, sym, ap, subst, arith, append_assoc, append-nil, length-append, true≢false}
use Rattle.std.proofs.lemmas.List.{get_or_at, take_at, drop_more, take-append-drop}
use Rattle.piece_plan.specs.Epochs.{JobSizes, IsJob}
use Rattle.journal_image.specs.Image.{Due, Thing, text, Fits, next, Covers, ThingsGo, things_text, IsRowOf, records, IsIdentity, MayBeOld, begin, start, Reading, Reads, nothing, gate_of}
use Rattle.journal_image.specs.Laws.{ReadsOnce, KeepsOne, ReadsNothing, EndsAtGate, ReadsMore}
use Rattle.journal_image.proofs.RowLemmas.{row-more, row-once}
use Rattle.journal_image.proofs.ThingLemmas.{told, more_due}
use Rattle.journal_image.proofs.FrontLemmas.{length-begin, same_begin, reads_begun}

same_reading : (a b : Bool) (xs ys : List Thing) (d e : Due) → a ≡ b → xs ≡ ys → d ≡ e
    → ◌≡◌ {A = Reading} (record { old = a; things = xs; due = d }) (record { old = b; things = ys; due = e })
same_reading a b xs ys d e h i j = cc

pub reads_once : (id : List ℕ) (job : JobSizes) (image : List ℕ) → IsIdentity id → IsJob job → ReadsOnce id job image
reads_once id job image named is r s one other =
    let cut = same_begin id one.bytes other.bytes r.old s.old named one.version other.version (sym one.is ∙ other.is) in
    let there : IsRowOf job (start job r.old) s.things s.due one.bytes =
    subst (IsRowOf job (start job r.old) s.things s.due) (sym cut.1) (subst (λ (b : Bool). IsRowOf job (start job b) s.things s.due other.bytes) (sym cut.0) other.row) in
    let both = row-once (Fits job) text (next job) Covers (told job is) (more_due job is) (start job r.old) r.due s.due r.things s.things one.bytes one.row there in
    same_reading r.old s.old r.things s.things r.due s.due cut.0 (sym both.0) (sym both.1)

pub keeps_one : (id : List ℕ) (job : JobSizes) (image : List ℕ) → IsIdentity id → IsJob job → KeepsOne id job image
keeps_one id job image named is kept other (inl a) (inl b) = a.1 ∙ sym b.1
keeps_one id job image named is kept other (inl a) (inr b) = let never : true ≡ false = sym a.0 ∙ reads_begun id job image b.0 named b.1 in cc
keeps_one id job image named is kept other (inr a) (inl b) = let never : true ≡ false = sym b.0 ∙ reads_begun id job image a.0 named a.1 in cc
keeps_one id job image named is kept other (inr a) (inr b) = a.2 ∙ ap (λ (r : Reading). records r.things) (reads_once id job image named is a.0 b.0 a.1 b.1) ∙ sym b.2

-- an image by the bytes before the gate that ends its row, and by that gate
pub record AtGate (id : List ℕ) (job : JobSizes) (image : List ℕ) (r : Reading) : Type 0 where
  pub front : take (gate_of id job r) image ≡ begin id r.old ++ things_text job (start job r.old) r.things
  pub inside : gate_of id job r < length image
  pub stops : get_or image (gate_of id job r) 0 ≡ 1 → Covers r.due

pub reads-AtGate : (id : List ℕ) (job : JobSizes) (image : List ℕ) (r : Reading) → Reads id job image r → AtGate id job image r
reads-AtGate id job image r reads =
    let row = reads.row in
    let behind = things_text job (start job r.old) r.things in
    let front = begin id r.old ++ behind in
    let long : length front ≡ gate_of id job r = length-append (begin id r.old) behind ∙ ap (λ (n : ℕ). n + length behind) (length-begin id r.old) in
    let whole : image ≡ front ++ (row.gate ∷ row.rest) =
    reads.is ∙ ap (λ (l : List ℕ). begin id r.old ++ l) row.is ∙ sym (append_assoc (begin id r.old) behind (row.gate ∷ row.rest)) in
    record {
      front = ap (take (gate_of id job r)) whole ∙ take_at front (row.gate ∷ row.rest) (gate_of id job r) long;
      inside = omega (arith, ap length whole, length-append front (row.gate ∷ row.rest));
      stops = λ one. row.stops (sym (ap (λ (l : List ℕ). get_or l (gate_of id job r) 0) whole ∙ get_or_at front row.gate row.rest 0 (gate_of id job r) long) ∙ one);
    }

-- and back
pub reads_at : (id : List ℕ) (job : JobSizes) (v : List ℕ) (r : Reading) (gate : ℕ) (rest : List ℕ) → MayBeOld id r.old → ThingsGo job (start job r.old) r.things r.due
    → v ≡ (begin id r.old ++ things_text job (start job r.old) r.things) ++ (gate ∷ rest) → (gate ≡ 1 → Covers r.due) → Reads id job v r
reads_at id job v r gate rest may goes is stops = record {
  version = may;
  bytes = things_text job (start job r.old) r.things ++ (gate ∷ rest);
  is = is ∙ append_assoc (begin id r.old) (things_text job (start job r.old) r.things) (gate ∷ rest);
  row = record { goes = goes; gate = gate; rest = rest; is = refl; stops = stops };
}

pub reads_nothing : (id : List ℕ) (job : JobSizes) → ReadsNothing id job
reads_nothing id job =
    reads_at id job (1 ∷ (id ++ 0 ∷ [])) (nothing job) 0 [] (λ never. absurd (true≢false (sym never))) refl (ap (λ (l : List ℕ). l ++ 0 ∷ []) (sym (append-nil (1 ∷ id)))) (λ one. absurd (omega arith))

pub ends_at_gate : (id : List ℕ) (job : JobSizes) (image : List ℕ) → EndsAtGate id job image
ends_at_gate id job image r v reads long front shut =
    let at = reads-AtGate id job image r reads in
    let g = gate_of id job r in
    let whole : v ≡ take g v ++ (get_or v g 0 ∷ drop (g + 1) v) = sym (take-append-drop g v) ∙ ap (λ (l : List ℕ). take g v ++ l) (drop_more v g 0 long) in
    reads_at id job v r (get_or v g 0) (drop (g + 1) v) reads.version reads.row.goes
    (whole ∙ ap (λ (l : List ℕ). l ++ (get_or v g 0 ∷ drop (g + 1) v)) (front ∙ at.front)) (λ one. at.stops (shut one))

pub reads_more : (id : List ℕ) (job : JobSizes) (image : List ℕ) → ReadsMore id job image
reads_more id job image r t gate rest reads fits shut =
    let at = reads-AtGate id job image r reads in
    let behind = things_text job (start job r.old) r.things in
    record {
      version = reads.version;
      bytes = behind ++ (1 ∷ (text r.due t ++ (gate ∷ rest)));
      is = ap (λ (l : List ℕ). l ++ (1 ∷ (text r.due t ++ (gate ∷ rest)))) at.front ∙ append_assoc (begin id r.old) behind (1 ∷ (text r.due t ++ (gate ∷ rest)));
      row = row-more (Fits job) text (next job) Covers (start job r.old) r.due r.things t gate rest reads.row.goes fits shut;
    }
