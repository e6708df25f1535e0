-- What a job that was read has: few files of each station, and a rate where it states its scans itself.
use Rattle.std.proofs.Common.{◌≡◌, ◌≤◌, ◌<◌, ◌^◌, ℕ, Bool, true, cond, List, [], ◌∷◌, length, get_or, filter_map, Option, Some, None, Ok, sym, subst, arith}
use Rattle.std.specs.Prelude.{IsSome}
use Rattle.std.specs.List.{All}
use Rattle.std.specs.Str.Lines.{lines}
use Rattle.std.proofs.lemmas.List.Elements.{All-map}
use Rattle.job_lines.specs.Words.{are_one}
use Rattle.job_lines.specs.Rows.{Row, row_of}
use Rattle.job_lines.specs.declared.word.Word.{Word}
use Rattle.job_lines.specs.declared.word.Word.TheVariants.{File, Station}
use Rattle.job_text.specs.Job.{JobFields, StationFields}
use Rattle.job_text.specs.Values.{field, station_in}
use Rattle.job_text.specs.Said.{each, filled, of_key, said_by}
use Rattle.job_text.specs.Answer.{rows_in, job_in}
use Rattle.job_text.proofs.TextLemmas.{length-lines}
use Rattle.job_text.proofs.WholeLemmas.{parts-of}
use Rattle.run_ready.specs.Sizes.{HasFewFiles}

length-filter_map : {A B : Type 0} (f : A → Option B) (xs : List A) → length (filter_map f xs) ≤ length xs
length-filter_map f [] = omega arith
length-filter_map f (x ∷ xs) = grind (arith, length-filter_map f xs)

length-each : {A : Type 0} (w : Word) (read : List (List ℕ) → Option A) (rows : List Row) → length (each w read rows) ≤ length rows
unfolding each
length-each w read rows = length-filter_map (λ row. cond (are_one row.word w) (read row.fields) None) rows

-- a station has no more files than there are rows
length-filled : (rows : List Row) (s : StationFields) → length (filled rows s).files ≤ length rows
unfolding filled
length-filled rows s = length-each File (of_key s.key (λ fields. Some (field fields 1))) rows

few-said : (rows : List Row) → length rows < 2 ^ 32 → All HasFewFiles (said_by rows).stations
unfolding said_by
few-said rows few =
    All-map HasFewFiles (filled rows) (each Station station_in rows)
    (λ k d inside. omega (arith, length-filled rows (get_or (each Station station_in rows) k d)))

pub few-job_in : (inline : Bool) (text : List ℕ) (job : JobFields) → length text < 2 ^ 32 → job_in inline text ≡ Ok job → All HasFewFiles job.stations
few-job_in inline text job short is =
    let rows : List Row = rows_in (lines text) in
    let few : length rows < 2 ^ 32 = omega (arith, length-filter_map row_of (lines text), length-lines text) in
    subst (λ stations. All HasFewFiles stations) (sym (parts-of inline text job is).stations) (few-said rows few)

pub rate-job_in : (inline : Bool) (text : List ℕ) (job : JobFields) → job_in inline text ≡ Ok job → inline ≡ true → IsSome job.rate
rate-job_in inline text job is on = ((parts-of inline text job is).own on).0
