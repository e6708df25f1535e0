-- Calls that take cells and append records, in turns.
use Rattle.std.proofs.Common.{◌≡◌, ℕ, ◌+◌, ◌<◌, List, [], ◌++◌, Option, Some, None, Result, Ok, Err, refl, sym, ap, ◌∙◌, subst, arith}
use Rattle.std.specs.List.{flat_map, range_with_len}
use Rattle.std.proofs.lemmas.Result.{on_ok_weaker, on_err_weaker}
use Rattle.dev_traits.specs.Told.{more, PrefixMore, WhereTold}
use Rattle.dev_traits.proofs.Appended.{more-more, more-nil, PrefixMore-after, PrefixMore-wider, PrefixMore-none}
use Rattle.sink_text.specs.Appends.{Appends}
use Rattle.vis_records.specs.declared.writer.SinkFault.{SinkFault}
use Rattle.vis_writer.specs.declared.fault.WriteFault.{WriteFault}
use Rattle.vis_writer.specs.declared.fault.WriteFault.TheVariants.{Source, Sink}
use Rattle.vis_writer.specs.Cells.{CellsOf}
use Rattle.vis_writer.proofs.Rows.{flat_map-next, flat_map-rest, rest_of}
use Rattle.vis_writer.specs.Writes.{Composes, Appended, SinkCounts, SourceGoes, Writes, of_sink}

-- what follows from one fact and from two facts about told content
pub where_then : {A : Type 0} (o : Option A) (P Q : A → Type 0) → ((a : A) → P a → Q a) → WhereTold o P → WhereTold o Q
where_then None P Q f p = tt
where_then (Some a) P Q f p = f a p

pub where_both : {A : Type 0} (o : Option A) (P Q R : A → Type 0) → ((a : A) → P a → Q a → R a)
    → WhereTold o P → WhereTold o Q → WhereTold o R
where_both None P Q R f p q = tt
where_both (Some a) P Q R f p q = f a p q

pub where_always : {A : Type 0} (o : Option A) (P : A → Type 0) → ((a : A) → P a) → WhereTold o P
where_always None P f = tt
where_always (Some a) P f = f a

Appended-then : {T U E : Type 0} {old mid new : Option (List ℕ)} {text a b : List ℕ} {x : U} (r : Result T E)
    → text ≡ a ++ b
    → Appended {T = U} {E = E} old a mid (Ok x)
    → Appended mid b new r
    → Appended old text new r
Appended-then {T = T} {U = U} {E = E} {old = old} {mid = mid} {new = new} {text = text} {a = a} {b = b} r whole first second =
    let both : Appended old (a ++ b) new r = record {
      all = on_ok_weaker r (λ (told : new ≡ more mid b). told ∙ ap (λ t. more t b) first.all ∙ more-more old a b) second.all;
      part =
          on_err_weaker r
          (λ (part : PrefixMore mid b new). PrefixMore-after old new a b (subst (λ t. PrefixMore t b new) first.all part))
          second.part;
    } in subst (λ t. Appended old t new r) (sym whole) both

module _ {C H F : Type 0} (head : C → H) (cells : C → Option CellsOf) (steady : C → C → Type 0) (fails : C → C → F → Type 0) (laws : Composes steady fails) where
  goes_then : {T : Type 0} (old mid new : C) (r : Result T (WriteFault F)) → steady old mid
      → SourceGoes steady fails mid new r → SourceGoes steady fails old new r
  goes_then old mid new (Ok x) first second = laws.both old mid new first second
  goes_then old mid new (Err (Source fault)) first second = laws.last old mid new fault first second
  goes_then old mid new (Err Sink) first second = laws.both old mid new first second

  -- nothing yet
  pub Writes-none : {T : Type 0} (x : T) (source : C) (told : Option (List ℕ)) (faults : ℕ)
      → Writes {T = T} head cells steady fails (λ of. []) source source told told faults faults (Ok x)
  Writes-none {T = T} x source told faults = record {
    appended = where_always (cells source) (λ of. Appended {T = T} {E = WriteFault F} told [] told (Ok x)) (λ of. record { all = sym (more-nil told); part = tt });
    counts = refl;
    goes = laws.none source;
    same_head = refl;
    same_cells = refl;
  }

  -- one text, and then another
  pub Writes-then : {T U : Type 0} {x : U} {r : Result T (WriteFault F)} (text a b : CellsOf → List ℕ) (old mid new : C)
      (told_old told_mid told_new : Option (List ℕ)) (faults_old faults_mid faults_new : ℕ)
      → WhereTold (cells old) (λ of. text of ≡ a of ++ b of)
      → Writes {T = U} head cells steady fails a old mid told_old told_mid faults_old faults_mid (Ok x)
      → Writes head cells steady fails b mid new told_mid told_new faults_mid faults_new r
      → Writes head cells steady fails text old new told_old told_new faults_old faults_new r
  Writes-then {T = T} {U = U} {x = x} {r = r} text a b old mid new told_old told_mid told_new faults_old faults_mid faults_new whole first second =
      let Second : CellsOf → Type 0 = λ of. Appended told_mid (b of) told_new r in
      let First : CellsOf → Type 0 = λ of. Appended {T = U} {E = WriteFault F} told_old (a of) told_mid (Ok x) in
      let Whole : CellsOf → Type 0 = λ of. text of ≡ a of ++ b of in
      let Both : CellsOf → Type 0 = λ of. Whole of × First of in
      let later : WhereTold (cells old) Second = subst (λ (o : Option CellsOf). WhereTold o Second) first.same_cells second.appended in
      let before : WhereTold (cells old) Both = where_both (cells old) Whole First Both (λ of p q. (p, q)) whole first.appended in
      record {
        appended = where_both (cells old) Both Second (λ of. Appended told_old (text of) told_new r) (λ of p q. Appended-then r p.0 p.1 q) before later;
        counts = subst (λ n. SinkCounts n faults_new r) first.counts second.counts;
        goes = goes_then old mid new r first.goes second.goes;
        same_head = second.same_head ∙ first.same_head;
        same_cells = second.same_cells ∙ first.same_cells;
      }

  -- a text of which an earlier part failed
  pub Writes-exit : {T U : Type 0} {e : WriteFault F} (text a b : CellsOf → List ℕ) (old new : C)
      (told_old told_new : Option (List ℕ)) (faults_old faults_new : ℕ)
      → WhereTold (cells old) (λ of. text of ≡ a of ++ b of)
      → Writes {T = U} head cells steady fails a old new told_old told_new faults_old faults_new (Err e)
      → Writes {T = T} head cells steady fails text old new told_old told_new faults_old faults_new (Err e)
  Writes-exit {T = T} {U = U} {e = e} text a b old new told_old told_new faults_old faults_new whole first = record {
    appended =
        where_both (cells old) (λ of. text of ≡ a of ++ b of) (λ of. Appended {T = U} {E = WriteFault F} told_old (a of) told_new (Err e))
        (λ of. Appended {T = T} {E = WriteFault F} told_old (text of) told_new (Err e))
        (λ of p q. wider (text of) (a of) (b of) p q) whole first.appended;
    counts = counts e first.counts;
    goes = goes e first.goes;
    same_head = first.same_head;
    same_cells = first.same_cells;
  }
    where
      wider : (t p q : List ℕ) → t ≡ p ++ q → Appended {T = U} {E = WriteFault F} told_old p told_new (Err e) → Appended {T = T} {E = WriteFault F} told_old t told_new (Err e)
      wider t p q same first = record { all = tt; part = subst (λ (t : List ℕ). PrefixMore told_old t told_new) (sym same) (PrefixMore-wider told_old told_new p q first.part) }

      counts : (e : WriteFault F) → SinkCounts {T = U} faults_old faults_new (Err e) → SinkCounts {T = T} faults_old faults_new (Err e)
      counts (Source fault) h = h
      counts Sink h = h

      goes : (e : WriteFault F) → SourceGoes {T = U} steady fails old new (Err e) → SourceGoes {T = T} steady fails old new (Err e)
      goes (Source fault) h = h
      goes Sink h = h

  -- another word for the same text
  pub Writes-same : {T : Type 0} {r : Result T (WriteFault F)} (a b : CellsOf → List ℕ) (old new : C)
      (told_old told_new : Option (List ℕ)) (faults_old faults_new : ℕ)
      → WhereTold (cells old) (λ of. a of ≡ b of)
      → Writes head cells steady fails a old new told_old told_new faults_old faults_new r
      → Writes head cells steady fails b old new told_old told_new faults_old faults_new r
  Writes-same {r = r} a b old new told_old told_new faults_old faults_new same first = record {
    appended =
        where_both (cells old) (λ of. a of ≡ b of) (λ of. Appended told_old (a of) told_new r) (λ of. Appended told_old (b of) told_new r)
        (λ of p q. subst (λ (t : List ℕ). Appended told_old t told_new r) p q) same first.appended;
    counts = first.counts;
    goes = first.goes;
    same_head = first.same_head;
    same_cells = first.same_cells;
  }

  -- a text that goes to the sink while the source rests
  pub Writes-sunk : {T : Type 0} (r : Result T SinkFault) (text : List ℕ) (source : C) (told_old told_new : Option (List ℕ)) (faults_old faults_new : ℕ)
      → Appends told_old told_new text faults_old faults_new r
      → Writes head cells steady fails (λ of. text) source source told_old told_new faults_old faults_new (of_sink {F = F} r)
  Writes-sunk {T = T} (Ok x) text source told_old told_new faults_old faults_new one = record {
    appended = where_always (cells source) (λ of. Appended {T = T} {E = WriteFault F} told_old text told_new (Ok x)) (λ of. record { all = one.ok; part = tt });
    counts = one.counts.kept;
    goes = laws.none source;
    same_head = refl;
    same_cells = refl;
  }
  Writes-sunk {T = T} (Err e) text source told_old told_new faults_old faults_new one = record {
    appended = where_always (cells source) (λ of. Appended {T = T} {E = WriteFault F} told_old text told_new (Err Sink)) (λ of. record { all = tt; part = one.prefix });
    counts = (one.counts.risen, one.counts.no_fall);
    goes = laws.none source;
    same_head = refl;
    same_cells = refl;
  }

  -- cells that were filled without a fault, before anything is appended
  pub Writes-filled : {T : Type 0} (x : T) (old new : C) (told : Option (List ℕ)) (faults : ℕ)
      → steady old new → head new ≡ head old → cells new ≡ cells old
      → Writes {T = T} head cells steady fails (λ of. []) old new told told faults faults (Ok x)
  Writes-filled {T = T} x old new told faults rests same_head same_cells = record {
    appended = where_always (cells old) (λ of. Appended {T = T} {E = WriteFault F} told [] told (Ok x)) (λ of. record { all = sym (more-nil told); part = tt });
    counts = refl;
    goes = rests;
    same_head = same_head;
    same_cells = same_cells;
  }

  -- cells that could not be filled
  pub Writes-failed : {T : Type 0} (fault : F) (text : CellsOf → List ℕ) (old new : C) (told : Option (List ℕ)) (faults : ℕ)
      → fails old new fault → head new ≡ head old → cells new ≡ cells old
      → Writes {T = T} head cells steady fails text old new told told faults faults (Err (Source fault))
  Writes-failed {T = T} fault text old new told faults failed same_head same_cells = record {
    appended =
        where_always (cells old) (λ of. Appended {T = T} {E = WriteFault F} told (text of) told (Err (Source fault)))
        (λ of. record { all = tt; part = PrefixMore-none told told (text of) refl });
    counts = refl;
    goes = failed;
    same_head = same_head;
    same_cells = same_cells;
  }

  -- the texts of the first numbers, and of the next one
  pub Writes-next : {T U : Type 0} {x : U} {r : Result T (WriteFault F)} (text : CellsOf → ℕ → List ℕ) (k : ℕ) (old mid new : C)
      (told_old told_mid told_new : Option (List ℕ)) (faults_old faults_mid faults_new : ℕ)
      → Writes {T = U} head cells steady fails (λ of. flat_map (text of) (range_with_len 0 k)) old mid told_old told_mid faults_old faults_mid (Ok x)
      → Writes head cells steady fails (λ of. text of k) mid new told_mid told_new faults_mid faults_new r
      → Writes head cells steady fails (λ of. flat_map (text of) (range_with_len 0 (k + 1))) old new told_old told_new faults_old faults_new r
  Writes-next text k old mid new told_old told_mid told_new faults_old faults_mid faults_new first second =
      Writes-then (λ of. flat_map (text of) (range_with_len 0 (k + 1))) (λ of. flat_map (text of) (range_with_len 0 k)) (λ of. text of k)
      old mid new told_old told_mid told_new faults_old faults_mid faults_new
      (where_always (cells old) (λ of. flat_map (text of) (range_with_len 0 (k + 1)) ≡ flat_map (text of) (range_with_len 0 k) ++ text of k) (λ of. flat_map-next (text of) k))
      first second

  -- the texts of all numbers, of which one failed
  pub Writes-cut : {T U : Type 0} {e : WriteFault F} {r : Result T (WriteFault F)} (text : CellsOf → ℕ → List ℕ) (k n : ℕ) (old new : C)
      (told_old told_new : Option (List ℕ)) (faults_old faults_new : ℕ)
      → k < n
      → r ≡ Err e
      → Writes {T = U} head cells steady fails (λ of. flat_map (text of) (range_with_len 0 (k + 1))) old new told_old told_new faults_old faults_new (Err e)
      → Writes head cells steady fails (λ of. flat_map (text of) (range_with_len 0 n)) old new told_old told_new faults_old faults_new r
  Writes-cut {T = T} {U = U} {e = e} {r = r} text k n old new told_old told_new faults_old faults_new h failed first =
      subst (λ (r : Result T (WriteFault F)). Writes head cells steady fails (λ of. flat_map (text of) (range_with_len 0 n)) old new told_old told_new faults_old faults_new r) (sym failed)
      (Writes-exit (λ of. flat_map (text of) (range_with_len 0 n)) (λ of. flat_map (text of) (range_with_len 0 (k + 1))) (λ of. rest_of (text of) (k + 1) n)
      old new told_old told_new faults_old faults_new
      (where_always (cells old) (λ of. flat_map (text of) (range_with_len 0 n) ≡ flat_map (text of) (range_with_len 0 (k + 1)) ++ rest_of (text of) (k + 1) n)
      (λ of. flat_map-rest (text of) (k + 1) n (omega (arith, h))))
      first)
