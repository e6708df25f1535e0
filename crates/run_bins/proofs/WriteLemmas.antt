-- Calls that read from a shelf and append a text to a sink, in turns.
use Rattle.std.proofs.Common.{◌≡◌, ◌∙◌, ℕ, suc, ◌+◌, ◌<◌, ◌≤◌, List, [], ◌∷◌, ◌++◌, length, get_or, Option, Some, Result, Ok, Err, refl, sym, ap, subst, arith}
use Rattle.std.specs.List.{All, flat_map, range_with_len, enumerate_from, slice_get}
use Rattle.std.proofs.lemmas.List.Elements.{All-get_or}
use Rattle.std.proofs.lemmas.Option.{slice_get_read, slice_get_within, get_or_from_slice_get}
use Rattle.std.specs.Option.{option_map_or}
use Rattle.std.proofs.lemmas.Result.{on_ok_weaker, on_err_weaker}
use Rattle.dev_traits.specs.Told.{more, PrefixMore, WhereTold}
use Rattle.dev_traits.proofs.Appended.{more-more, more-nil, PrefixMore-after, PrefixMore-wider, PrefixMore-none}
use Rattle.corr_model.specs.Files.{Files}
use Rattle.sink_text.specs.Appends.{Appends}
use Rattle.station_stream.specs.declared.fault.StreamFault.{StreamFault}
use Rattle.station_stream.specs.declared.fault.StreamFault.TheVariants.{Read as StreamRead, Memory as StreamMemory}
use Rattle.station_stream.specs.Faults.{CountsFault}
use Rattle.vis_records.specs.declared.writer.SinkFault.{SinkFault}
use Rattle.vis_writer.specs.Writes.{Appended}
use Rattle.vis_writer.proofs.Rows.{flat_map-next, flat_map-rest, rest_of}
use Rattle.vis_writer.proofs.WritesLemmas.{where_then, where_both, where_always}
use Rattle.run_notes.specs.declared.refusal.Refusal.{Refusal}
use Rattle.run_notes.specs.declared.refusal.Refusal.TheVariants.{Write}
use Rattle.run_notes.specs.Commands.{IsOfOutput}
use Rattle.run_notes.specs.Counted.{CountsReads, CountsWrites}
use Rattle.job_plan.specs.declared.plan.ScanPlan.{ScanPlan}
use Rattle.job_plan.specs.declared.plan.Plan.{Plan}
use Rattle.job_plan.specs.Ranges.{IsPlan, IsScanPlan}
use Rattle.job_plan.specs.Values.{rotated}
use Rattle.pulsar_bins.specs.Bins.{BinsFields}
use Rattle.bin_sums.specs.declared.ahead.BinsAhead.{BinsAhead}
use Rattle.bin_sums.specs.Ahead.{IsAheadOf}
use Rattle.bin_sums.specs.Binned.{bin_width}
use Rattle.run_bins.specs.Texts.{BinPlan, integration_text}
use Rattle.run_bins.specs.declared.job.BinJob.{BinJob}
use Rattle.run_bins.specs.Writes.{WritesText, IsReady, of_sink, of_stream}

appended-then : {T U E : Type 0} {old mid new : Option (List ℕ)} {a b : List ℕ} {x : U} (r : Result T E)
    → Appended {T = U} {E = E} old a mid (Ok x) → Appended mid b new r → Appended old (a ++ b) new r
appended-then {T = T} {U = U} {E = E} {old = old} {mid = mid} {new = new} {a = a} {b = b} r first second = record {
  all = on_ok_weaker r (λ (told : new ≡ more mid b). told ∙ ap (λ t. more t b) first.all ∙ more-more old a b) second.all;
  part = on_err_weaker r (λ (part : PrefixMore mid b new). PrefixMore-after old new a b (subst (λ t. PrefixMore t b new) first.all part)) second.part;
}

-- nothing yet
pub writes-none : {T : Type 0} (x : T) (files : Option Files) (reads : ℕ) (told : Option (List ℕ)) (writes : ℕ)
    → WritesText {T = T} files files reads reads (λ f. []) told told writes writes (Ok x)
writes-none {T = T} x files reads told writes = record {
  same = refl;
  written = where_always files (λ f. Appended {T = T} {E = Refusal} told [] told (Ok x)) (λ f. record { all = sym (more-nil told); part = tt });
  stage = tt;
  read = refl;
  wrote = refl;
}

-- one text, and then another
pub writes-then : {T U : Type 0} {x : U} {r : Result T Refusal} (text a b : Files → List ℕ)
    {files mid files' : Option Files} {reads reads' reads'' : ℕ} {old told new : Option (List ℕ)} {writes writes' writes'' : ℕ}
    → ((f : Files) → text f ≡ a f ++ b f)
    → WritesText {T = U} files mid reads reads' a old told writes writes' (Ok x)
    → WritesText mid files' reads' reads'' b told new writes' writes'' r
    → WritesText files files' reads reads'' text old new writes writes'' r
writes-then {T = T} {U = U} {x = x} {r = r} text a b {files = files} {mid = mid} {reads'' = reads''} {old = old} {told = told} {new = new} {writes'' = writes''} whole first second =
    let First : Files → Type 0 = λ f. Appended {T = U} {E = Refusal} old (a f) told (Ok x) in
    let Second : Files → Type 0 = λ f. Appended told (b f) new r in
    record {
      same = second.same ∙ first.same;
      written =
          where_both files First Second (λ f. Appended old (text f) new r) (λ f p q. subst (λ t. Appended old t new r) (sym (whole f)) (appended-then r p q)) first.written
          (subst (λ (o : Option Files). WhereTold o Second) first.same second.written);
      stage = second.stage;
      read = subst (λ n. CountsReads n reads'' r) first.read second.read;
      wrote = subst (λ n. CountsWrites n writes'' r) first.wrote second.wrote;
    }

-- a text of which an earlier part failed
pub writes-exit : {T U : Type 0} {e : Refusal} (text a b : Files → List ℕ)
    {files files' : Option Files} {reads reads' : ℕ} {old new : Option (List ℕ)} {writes writes' : ℕ}
    → ((f : Files) → text f ≡ a f ++ b f)
    → WritesText {T = U} files files' reads reads' a old new writes writes' (Err e)
    → WritesText {T = T} files files' reads reads' text old new writes writes' (Err e)
writes-exit {T = T} {U = U} {e = e} text a b {files = files} {old = old} {new = new} whole first = record {
  same = first.same;
  written =
      where_then files (λ f. Appended {T = U} {E = Refusal} old (a f) new (Err e)) (λ f. Appended {T = T} {E = Refusal} old (text f) new (Err e))
      (λ f p. record { all = tt; part = subst (λ (t : List ℕ). PrefixMore old t new) (sym (whole f)) (PrefixMore-wider old new (a f) (b f) p.part) }) first.written;
  stage = first.stage;
  read = first.read;
  wrote = first.wrote;
}

-- another word for the same text
pub writes-same : {T : Type 0} {r : Result T Refusal} (a b : Files → List ℕ)
    {files files' : Option Files} {reads reads' : ℕ} {old new : Option (List ℕ)} {writes writes' : ℕ}
    → ((f : Files) → a f ≡ b f)
    → WritesText files files' reads reads' a old new writes writes' r
    → WritesText files files' reads reads' b old new writes writes' r
writes-same {r = r} a b {files = files} {old = old} {new = new} same first = record {
  same = first.same;
  written =
      where_then files (λ f. Appended old (a f) new r) (λ f. Appended old (b f) new r)
      (λ f p. subst (λ (t : List ℕ). Appended old t new r) (same f) p) first.written;
  stage = first.stage;
  read = first.read;
  wrote = first.wrote;
}

-- a text that goes to the sink behind reads without a fault
pub writes-sunk : {T : Type 0} (r : Result T SinkFault) (sunk : List ℕ) (text : Files → List ℕ)
    {files files' : Option Files} {reads reads' : ℕ} {old new : Option (List ℕ)} {writes writes' : ℕ}
    → files' ≡ files → reads' ≡ reads
    → WhereTold files (λ f. sunk ≡ text f)
    → Appends old new sunk writes writes' r
    → WritesText files files' reads reads' text old new writes writes' (of_sink r)
writes-sunk {T = T} (Ok x) sunk text {files = files} {old = old} {new = new} same kept is one = record {
  same = same;
  written =
      where_then files (λ f. sunk ≡ text f) (λ f. Appended {T = T} {E = Refusal} old (text f) new (Ok x))
      (λ f p. record { all = subst (λ (t : List ℕ). new ≡ more old t) p one.ok; part = tt }) is;
  stage = tt;
  read = kept;
  wrote = one.counts.kept;
}
writes-sunk {T = T} (Err e) sunk text {files = files} {old = old} {new = new} same kept is one = record {
  same = same;
  written =
      where_then files (λ f. sunk ≡ text f) (λ f. Appended {T = T} {E = Refusal} old (text f) new (Err Write))
      (λ f p. record { all = tt; part = subst (λ (t : List ℕ). PrefixMore old t new) p one.prefix }) is;
  stage = tt;
  read = kept;
  wrote = one.counts.risen;
}

-- nothing, where the values could not be read
pub writes-unread : {T : Type 0} (fault : StreamFault) (text : Files → List ℕ)
    {files files' : Option Files} {reads reads' : ℕ} {told : Option (List ℕ)} {writes : ℕ}
    → files' ≡ files → CountsFault reads reads' fault
    → WritesText {T = T} files files' reads reads' text told told writes writes (Err (of_stream fault))
writes-unread {T = T} fault text {files = files} {reads = reads} {reads' = reads'} {told = told} {writes = writes} same cause = record {
  same = same;
  written =
      where_always files (λ f. Appended {T = T} {E = Refusal} told (text f) told (Err (of_stream fault)))
      (λ f. record { all = tt; part = PrefixMore-none told told (text f) refl });
  stage = stage fault;
  read = read fault cause;
  wrote = wrote fault;
}
  where
    stage : (f : StreamFault) → IsOfOutput (of_stream f)
    stage StreamRead = tt
    stage StreamMemory = tt

    read : (f : StreamFault) → CountsFault reads reads' f → CountsReads {T = T} reads reads' (Err (of_stream f))
    read StreamRead risen = risen
    read StreamMemory kept = kept

    wrote : (f : StreamFault) → CountsWrites {T = T} writes writes (Err (of_stream f))
    wrote StreamRead = refl
    wrote StreamMemory = refl

-- another word for the same answer
pub writes-is : {T : Type 0} {q r : Result T Refusal} {text : Files → List ℕ}
    {files files' : Option Files} {reads reads' : ℕ} {old new : Option (List ℕ)} {writes writes' : ℕ}
    → q ≡ r
    → WritesText files files' reads reads' text old new writes writes' r
    → WritesText files files' reads reads' text old new writes writes' q
writes-is {T = T} {text = text} {files = files} {files' = files'} {reads = reads} {reads' = reads'} {old = old} {new = new} {writes = writes} {writes' = writes'} same first =
    subst (λ (r : Result T Refusal). WritesText files files' reads reads' text old new writes writes' r) (sym same) first

-- the texts of the first numbers, and of the next one
pub writes-next : {T U : Type 0} {x : U} {r : Result T Refusal} (text : ℕ → Files → List ℕ) (k : ℕ)
    {files mid files' : Option Files} {reads reads' reads'' : ℕ} {old told new : Option (List ℕ)} {writes writes' writes'' : ℕ}
    → WritesText {T = U} files mid reads reads' (λ f. flat_map (λ i. text i f) (range_with_len 0 k)) old told writes writes' (Ok x)
    → WritesText mid files' reads' reads'' (text k) told new writes' writes'' r
    → WritesText files files' reads reads'' (λ f. flat_map (λ i. text i f) (range_with_len 0 (k + 1))) old new writes writes'' r
writes-next text k first second =
    writes-then (λ f. flat_map (λ i. text i f) (range_with_len 0 (k + 1))) (λ f. flat_map (λ i. text i f) (range_with_len 0 k)) (text k)
    (λ f. flat_map-next (λ i. text i f) k) first second

-- the texts of all numbers, of which one failed
pub writes-cut : {T U : Type 0} {e : Refusal} {r : Result T Refusal} (text : ℕ → Files → List ℕ) (k n : ℕ)
    {files files' : Option Files} {reads reads' : ℕ} {old new : Option (List ℕ)} {writes writes' : ℕ}
    → k < n
    → r ≡ Err e
    → WritesText {T = U} files files' reads reads' (λ f. flat_map (λ i. text i f) (range_with_len 0 (k + 1))) old new writes writes' (Err e)
    → WritesText files files' reads reads' (λ f. flat_map (λ i. text i f) (range_with_len 0 n)) old new writes writes' r
writes-cut {T = T} {e = e} text k n {files = files} {files' = files'} {reads = reads} {reads' = reads'} {old = old} {new = new} {writes = writes} {writes' = writes'} h failed first =
    subst (λ (r : Result T Refusal). WritesText files files' reads reads' (λ f. flat_map (λ i. text i f) (range_with_len 0 n)) old new writes writes' r) (sym failed)
    (writes-exit (λ f. flat_map (λ i. text i f) (range_with_len 0 n)) (λ f. flat_map (λ i. text i f) (range_with_len 0 (k + 1))) (λ f. rest_of (λ i. text i f) (k + 1) n)
    (λ f. flat_map-rest (λ i. text i f) (k + 1) n (omega (arith, h))) first)

-- the texts of all numbers
pub writes-all : {T : Type 0} {x : T} (text : ℕ → Files → List ℕ) (k n : ℕ)
    {files files' : Option Files} {reads reads' : ℕ} {old new : Option (List ℕ)} {writes writes' : ℕ}
    → k ≡ n
    → WritesText {T = T} files files' reads reads' (λ f. flat_map (λ i. text i f) (range_with_len 0 k)) old new writes writes' (Ok x)
    → WritesText {T = T} files files' reads reads' (λ f. flat_map (λ i. text i f) (range_with_len 0 n)) old new writes writes' (Ok x)
writes-all {T = T} {x = x} text k n {files = files} {files' = files'} {reads = reads} {reads' = reads'} {old = old} {new = new} {writes = writes} {writes' = writes'} last all =
    subst (λ (n : ℕ). WritesText {T = T} files files' reads reads' (λ f. flat_map (λ i. text i f) (range_with_len 0 n)) old new writes writes' (Ok x)) last all

-- the records of integration m of a scan, by what the files hold
abbrev pub integration-at : BinPlan → ℕ → ScanPlan → ℕ → Files → List ℕ
integration-at x number scan m files = integration_text x (rotated x.plan files scan) number scan m

-- what is read ahead after a call that leaves the shelf as it was
pub still-ready : (job : BinJob) {files files' : Option Files} {old new : BinsAhead} → files' ≡ files → IsReady files job old → IsAheadOf files job.ready new
    → IsReady files' job new
still-ready job {files = files} {files' = files'} {old = old} {new = new} same was ahead =
    subst (λ (o : Option Files). IsReady o job new) (sym same) (record { recorded = was.recorded; ahead = ahead })

-- ---- a list's things by their numbers

numbered-from : {A X : Type 0} (f : ℕ × A → List X) (g : ℕ → List X) (k : ℕ) (xs : List A)
    → ((i : ℕ) (x : A) → slice_get xs i ≡ Some x → f (k + i, x) ≡ g (k + i))
    → flat_map f (enumerate_from k xs) ≡ flat_map g (range_with_len k (length xs))
numbered-from f g k [] each = refl
numbered-from {A = A} {X = X} f g k (x ∷ xs) each =
    let here : k + 0 ≡ k = omega arith in
    let first : f (k, x) ≡ g k = subst (λ (j : ℕ). f (j, x) ≡ g j) here (each 0 x refl) in
    ap (λ (t : List X). t ++ flat_map f (enumerate_from (k + 1) xs)) first
    ∙ ap (λ (t : List X). g k ++ t) (numbered-from f g (k + 1) xs next)
  where
    next : (i : ℕ) (y : A) → slice_get xs i ≡ Some y → f (k + 1 + i, y) ≡ g (k + 1 + i)
    next i y there =
        let same : k + suc i ≡ k + 1 + i = omega arith in
        subst (λ (j : ℕ). f (j, y) ≡ g j) same (each (suc i) y there)

pub numbered : {A X : Type 0} (f : ℕ × A → List X) (xs : List A)
    → flat_map f (enumerate_from 0 xs) ≡ flat_map (λ i. option_map_or (λ (x : A). f (i, x)) (slice_get xs i) []) (range_with_len 0 (length xs))
numbered {A = A} {X = X} f xs =
    numbered-from f (λ i. option_map_or (λ (x : A). f (i, x)) (slice_get xs i) []) 0 xs
    (λ i x there. sym (ap (λ (o : Option A). option_map_or (λ (x : A). f (0 + i, x)) o []) (moved i x there)))
  where
    moved : (i : ℕ) (x : A) → slice_get xs i ≡ Some x → slice_get xs (0 + i) ≡ Some x
    moved i x there = let here : 0 + i ≡ i = omega arith in subst (λ j. slice_get xs j ≡ Some x) (sym here) there

-- ---- a scan of a plan, by its number

-- a scan that was read from the list of the plan's
pub scan-there : (plan : Plan) (listed : List ScanPlan) (number : ℕ) (scan : ScanPlan) → listed ≡ plan.scans
    → number < length plan.scans → scan ≡ get_or listed number scan → slice_get plan.scans number ≡ Some scan
scan-there plan listed number scan same within is =
    ap (λ (l : List ScanPlan). slice_get l number) (sym same)
    ∙ slice_get_read listed (length listed) number scan refl (subst (λ (l : List ScanPlan). number < length l) (sym same) within) is

-- what holds of each scan of a list holds of the one with a number
of-each : (P : ScanPlan → Type 0) (scans : List ScanPlan) (number : ℕ) (scan : ScanPlan) → slice_get scans number ≡ Some scan → All P scans → P scan
of-each P scans number scan there each =
    let is = get_or_from_slice_get scans number scan scan there in
    subst P is (All-get_or P scans number scan (slice_get_within scans number scan there) each)

pub scan-within : (plan : Plan) (bins : BinsFields) (listed : List ScanPlan) (number : ℕ) (scan : ScanPlan) (room : ℕ) → listed ≡ plan.scans
    → number < length plan.scans → scan ≡ get_or listed number scan → All (λ scan. bin_width plan bins scan ≤ room) plan.scans
    → bin_width plan bins scan ≤ room
scan-within plan bins listed number scan room same within is each =
    of-each (λ (scan : ScanPlan). bin_width plan bins scan ≤ room) plan.scans number scan (scan-there plan listed number scan same within is) each

pub scan-few : (plan : Plan) (bins : BinsFields) (number : ℕ) (scan : ScanPlan) → slice_get plan.scans number ≡ Some scan
    → All (λ scan. bin_width plan bins scan ≤ 4194304) plan.scans → bin_width plan bins scan ≤ 4194304
scan-few plan bins number scan there each = of-each (λ (scan : ScanPlan). bin_width plan bins scan ≤ 4194304) plan.scans number scan there each

pub scan-planned : (plan : Plan) (number : ℕ) (scan : ScanPlan) → IsPlan plan → slice_get plan.scans number ≡ Some scan → IsScanPlan plan scan
scan-planned plan number scan is there = of-each (IsScanPlan plan) plan.scans number scan there is.scans
