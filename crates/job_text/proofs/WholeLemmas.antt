-- A whole job against the text that it is read from.
use Rattle.std.proofs.Common.{◌≡◌, ℕ, ◌<◌, ◌≤◌, Bool, true, false, cond, not, ◌&&◌, ◌||◌, nat_lt, List, [], ◌∷◌, length, map, Option, Some, None, Ok, is_some, ok_or, filter_map, refl, sym, ap, subst, ◌∙◌, arith}
use Rattle.std.proofs.lemmas.List.{length-map}
use Rattle.std.specs.List.{cons_option}
use Rattle.std.specs.Str.Lines.{lines}
use Rattle.std.proofs.lemmas.Bool.Decides.{nat_tests}
use Rattle.job_lines.specs.Words.{are_one}
use Rattle.job_lines.specs.Rows.{Row, row_of}
use Rattle.job_lines.specs.declared.word.Word.{Word}
use Rattle.job_lines.specs.declared.word.Word.TheVariants.{Station, Scan}
use Rattle.job_text.specs.declared.fault.JobFault.{JobFault}
use Rattle.job_text.specs.declared.fault.JobKind.TheVariants.{Missing}
use Rattle.job_text.specs.Job.{JobFields}
use Rattle.job_text.specs.Values.{◌>>=◌, station_in, scan_in}
use Rattle.job_text.specs.Said.{Said, said_by, each, filled}
use Rattle.job_text.specs.Numbers.{job_from}
use Rattle.job_text.specs.Answer.{faults_behind, first_fault, rows_in, is_whole, job_by, job_in, answer_behind}
use Rattle.job_text.proofs.TextLemmas.{length-lines, both_left, both_right}

length-filter_map : {A B : Type 0} (f : A → Option B) (xs : List A) → length (filter_map f xs) ≤ length xs
length-filter_map f [] = omega arith
length-filter_map {A} {B} f (x ∷ xs) = by (f x) (length-filter_map f xs)
  where
    by : (o : Option B) → length (filter_map f xs) ≤ length xs → length (cons_option o (filter_map f xs)) ≤ length (x ∷ xs)
    by None h = omega (arith, h)
    by (Some y) h = omega (arith, h)

length-each : {A : Type 0} (w : Word) (read : List (List ℕ) → Option A) (rows : List Row) → length (each w read rows) ≤ length rows
unfolding each
length-each w read rows = length-filter_map (λ row. cond (are_one row.word w) (read row.fields) None) rows

rows-few : (text : List ℕ) → length (rows_in (lines text)) ≤ length text
rows-few text = omega (arith, length-filter_map row_of (lines text), length-lines text)

said-few : (text : List ℕ) → (length (said_by (rows_in (lines text))).scans ≤ length text) × (length (said_by (rows_in (lines text))).stations ≤ length text)
unfolding said_by
said-few text =
    let rows : List Row = rows_in (lines text) in (
      omega (arith, length-each Scan scan_in (rows_in (lines text)), rows-few text),
      (let long : length (map (filled (rows_in (lines text))) (each Station station_in (rows_in (lines text)))) ≡ length (each Station station_in (rows_in (lines text))) =
          length-map (each Station station_in (rows_in (lines text))) (filled (rows_in (lines text))) in
          omega (arith, long, length-each Station station_in (rows_in (lines text)), rows-few text)),
    )

-- what a whole job has
pub record HasParts (inline : Bool) (said : Said) (job : JobFields) : Type 0 where
  pub scans : job.scans ≡ said.scans
  pub stations : job.stations ≡ said.stations
  pub own : inline ≡ true → (is_some job.rate ≡ true) × (0 < length job.scans)

own_scans : (inline : Bool) (said : Said) → is_whole inline said ≡ true → inline ≡ true → (is_some said.rate ≡ true) × (0 < length said.scans)
own_scans inline said whole on =
    let rest : (nat_lt 0 (length said.products) && (not inline || (is_some said.rate && nat_lt 0 (length said.scans)))) ≡ true =
    both_right (nat_lt 0 (length said.stations)) (nat_lt 0 (length said.products) && (not inline || (is_some said.rate && nat_lt 0 (length said.scans)))) whole in
    let own : (not inline || (is_some said.rate && nat_lt 0 (length said.scans))) ≡ true =
    both_right (nat_lt 0 (length said.products)) (not inline || (is_some said.rate && nat_lt 0 (length said.scans))) rest in
    let it : (is_some said.rate && nat_lt 0 (length said.scans)) ≡ true = (λ i. not (sym on i) || (is_some said.rate && nat_lt 0 (length said.scans))) ∙ own in
    let some : nat_lt 0 (length said.scans) ≡ true = both_right (is_some said.rate) (nat_lt 0 (length said.scans)) it in
    (both_left (is_some said.rate) (nat_lt 0 (length said.scans)) it, grind (arith, nat_tests, some))

job-parts : (inline : Bool) (said : Said) (job : JobFields) → job_by inline said ≡ Some job → HasParts inline said job
unfolding job_by
job-parts inline said job h = by said.lags said.integration said.epoch (is_whole inline said) refl h
  where
    by : (a b c : Option ℕ) (w : Bool) → is_whole inline said ≡ w
        → (a >>= λ lags. b >>= λ integration. c >>= λ epoch. cond w (Some (job_from said (record { lags = lags; integration = integration; epoch = epoch }))) None) ≡ Some job
        → HasParts inline said job
    by None b c w e h = absurd cc
    by (Some x) None c w e h = absurd cc
    by (Some x) (Some y) None w e h = absurd cc
    by (Some x) (Some y) (Some z) false e h = absurd cc
    by (Some x) (Some y) (Some z) true e h =
        let same : job_from said (record { lags = x; integration = y; epoch = z }) ≡ job = cc in
        subst (λ (j : JobFields). HasParts inline said j) same (record { scans = refl; stations = refl; own = own_scans inline said e })

read-parts : (inline : Bool) (said : Said) (fault : Option JobFault) (job : JobFields) → answer_behind fault (job_by inline said) ≡ Ok job → HasParts inline said job
read-parts inline said (Some fault) job h = absurd cc
read-parts inline said None job h = by (job_by inline said) refl h
  where
    by : (o : Option JobFields) → job_by inline said ≡ o → ok_or {E = JobFault} o (record { kind = Missing; line = 0 }) ≡ Ok job → HasParts inline said job
    by None e h = absurd cc
    by (Some j) e h = job-parts inline said job (e ∙ (let same : j ≡ job = cc in ap Some same))

pub parts-of : (inline : Bool) (text : List ℕ) (job : JobFields) → job_in inline text ≡ Ok job → HasParts inline (said_by (rows_in (lines text))) job
unfolding job_in
parts-of inline text job h = read-parts inline (said_by (rows_in (lines text))) (first_fault 1 (faults_behind inline [] (lines text))) job h

pub few-of : (inline : Bool) (text : List ℕ) (job : JobFields) → job_in inline text ≡ Ok job → (length job.scans ≤ length text) × (length job.stations ≤ length text)
few-of inline text job h =
    let parts : HasParts inline (said_by (rows_in (lines text))) job = parts-of inline text job h in
    (omega (arith, ap length parts.scans, (said-few text).0), omega (arith, ap length parts.stations, (said-few text).1))
