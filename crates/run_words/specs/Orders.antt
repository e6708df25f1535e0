-- What `clap` takes behind the name of each command, the order that is read of it, or the first fault, and what an order is that was read.
use Rattle.read_steps.specs.Steps as steps
use Rattle.std.specs.Prelude.{ℕ, ◌<◌, ◌≤◌, ◌^◌, ◌-◌, nat_lt, List, [], ◌∷◌, Option, Result, Ok, Err, IfSome, codes, bytes_eq, if◌then◌else◌}
use Rattle.std.specs.List.{All}
use Rattle.std.specs.Str.{IsUtf8}
use Rattle.clap.specs.Words.{App, Row, Text, with_rule, first_of}
use Rattle.run_words.specs.declared.fault.WordsFault.{WordsFault}
use Rattle.run_words.specs.declared.fault.WordsFault.TheVariants.{NoCommand, UnknownCommand, Value, Memory}
use Rattle.run_words.specs.declared.order.Order.{Order}
use Rattle.run_words.specs.declared.order.Order.TheVariants.{Run, Plain, Check, Status, Dump, Gen, Fringe, Verify, Bins, Shard, Merge}
use Rattle.run_words.specs.Numbers.{number_in, epoch_in, workers_in, piece_in}
use Rattle.run_words.specs.Options.{◌>>=◌, option_rule, needed_option, needed_word, needed_words, bare_app, work_app, needed, all_needed, given, taken_by}

-- ---- a command on a job, by the names of its file and of the schedule's

abbrev pub job_app : Text → App
job_app name = with_rule (with_rule (bare_app name) (needed_option (codes "job"))) (option_rule (codes "vex"))

unfoldable pub job_names_of : List Row → Result (Text × Option Text) WordsFault
job_names_of rows = needed (codes "job") rows >>= λ job. Ok (job, first_of (codes "vex") rows)

-- an order of the two names
abbrev pub job_order : (Text → Option Text → Order) → Text → List Text → Result Order WordsFault
job_order order command words = taken_by (job_app command) job_names_of words >>= λ names. Ok (order names.0 names.1)

-- ---- a command on a job that may have another length of its epochs than the job's own line says: `check` and `status`

abbrev pub cut_app : Text → App
cut_app name = with_rule (job_app name) (option_rule (codes "epoch"))

-- the two names, and the length
unfoldable pub cut_names_of : List Row → Result ((Text × Option Text) × Option ℕ) WordsFault
cut_names_of rows = job_names_of rows >>= λ names. given (codes "epoch") epoch_in rows >>= λ epoch. Ok (names, epoch)

abbrev pub cut_order : (Text → Option Text → Option ℕ → Order) → Text → List Text → Result Order WordsFault
cut_order order command words = taken_by (cut_app command) cut_names_of words >>= λ x. Ok (order x.0.0 x.0.1 x.1)

-- ---- `run`

abbrev pub run_app : App
run_app = work_app (cut_app (codes "run"))

unfoldable pub run_of : List Row → Result Order WordsFault
run_of rows =
    needed (codes "job") rows >>= λ job.
    needed (codes "workers") rows >>= λ workers_text.
    needed (codes "piece") rows >>= λ piece_text.
    given (codes "epoch") epoch_in rows >>= λ epoch.
    workers_in workers_text >>= λ workers.
    piece_in piece_text >>= λ piece.
    Ok (Run job (first_of (codes "vex") rows) epoch workers piece)

-- ---- `dump`

abbrev pub dump_app : App
dump_app = with_rule (bare_app (codes "dump")) (needed_word (codes "file"))

unfoldable pub dump_of : List Row → Result Order WordsFault
dump_of rows = needed (codes "file") rows >>= λ file. Ok (Dump file)

-- ---- `gen`: the seed is below 2^64, and the job lasts 1 to 60 seconds

abbrev pub gen_app : App
gen_app = work_app (with_rule (with_rule (bare_app (codes "gen")) (needed_option (codes "seed"))) (needed_option (codes "seconds")))

unfoldable pub gen_of : List Row → Result Order WordsFault
gen_of rows =
    needed (codes "seed") rows >>= λ seed_text.
    needed (codes "seconds") rows >>= λ seconds_text.
    needed (codes "workers") rows >>= λ workers_text.
    needed (codes "piece") rows >>= λ piece_text.
    number_in 0 (2 ^ 64 - 1) seed_text >>= λ seed.
    number_in 1 60 seconds_text >>= λ seconds.
    workers_in workers_text >>= λ workers.
    piece_in piece_text >>= λ piece.
    Ok (Gen seed seconds workers piece)

-- ---- `fringe`: up to 4,096 rates on either side of 0, divided by 1 to 65,536

abbrev pub fringe_app : App
fringe_app =
    with_rule (with_rule (with_rule (bare_app (codes "fringe")) (needed_word (codes "file"))) (needed_option (codes "rates")))
    (needed_option (codes "divide"))

unfoldable pub fringe_of : List Row → Result Order WordsFault
fringe_of rows =
    needed (codes "file") rows >>= λ file.
    needed (codes "rates") rows >>= λ rates_text.
    needed (codes "divide") rows >>= λ divide_text.
    number_in 0 4096 rates_text >>= λ rates.
    number_in 1 65536 divide_text >>= λ divide.
    Ok (Fringe file rates divide)

-- ---- `verify`: a record file, and then a certificate's

abbrev pub verify_app : App
verify_app = with_rule (with_rule (bare_app (codes "verify")) (needed_word (codes "file"))) (needed_word (codes "certificate"))

unfoldable pub verify_of : List Row → Result Order WordsFault
verify_of rows =
    needed (codes "file") rows >>= λ file.
    needed (codes "certificate") rows >>= λ certificate.
    Ok (Verify file certificate)

-- ---- `bins`: a job as of `run`, and the file of a pulse's phase

abbrev pub bins_app : App
bins_app = work_app (with_rule (job_app (codes "bins")) (needed_option (codes "phase")))

unfoldable pub bins_of : List Row → Result Order WordsFault
bins_of rows =
    needed (codes "job") rows >>= λ job.
    needed (codes "phase") rows >>= λ phase.
    needed (codes "workers") rows >>= λ workers_text.
    needed (codes "piece") rows >>= λ piece_text.
    workers_in workers_text >>= λ workers.
    piece_in piece_text >>= λ piece.
    Ok (Bins job (first_of (codes "vex") rows) phase workers piece)

-- ---- `shard`: a job as of `run`, and the part of it that is summed

abbrev pub shard_app : App
shard_app = with_rule (with_rule (work_app (cut_app (codes "shard"))) (needed_option (codes "from"))) (needed_option (codes "to"))

-- the integrations from a number up to, not including, another, of which there is at least one
unfoldable pub part_in : Text → Text → Result (ℕ × ℕ) WordsFault
part_in from_text to_text =
    number_in 0 (2 ^ 64 - 1) from_text >>= λ from.
    number_in 0 (2 ^ 64 - 1) to_text >>= λ to.
    if nat_lt from to then Ok (from, to) else Err Value

unfoldable pub shard_of : List Row → Result Order WordsFault
shard_of rows =
    needed (codes "job") rows >>= λ job.
    needed (codes "workers") rows >>= λ workers_text.
    needed (codes "piece") rows >>= λ piece_text.
    needed (codes "from") rows >>= λ from_text.
    needed (codes "to") rows >>= λ to_text.
    given (codes "epoch") epoch_in rows >>= λ epoch.
    workers_in workers_text >>= λ workers.
    piece_in piece_text >>= λ piece.
    part_in from_text to_text >>= λ part.
    Ok (Shard job (first_of (codes "vex") rows) epoch workers piece part.0 part.1)

-- ---- `merge`: a job as of `plain`, and the files of the journals of its parts

abbrev pub merge_app : App
merge_app = with_rule (job_app (codes "merge")) (needed_words (codes "files"))

unfoldable pub merge_of : List Row → Result Order WordsFault
merge_of rows =
    job_names_of rows >>= λ names.
    all_needed (codes "files") rows >>= λ files.
    Ok (Merge names.0 names.1 files)

-- ---- the order of words

-- the order of a command and the words behind it
unfoldable pub order_after : Text → List Text → Result Order WordsFault
order_after command words =
    if bytes_eq command (codes "run") then taken_by run_app run_of words
    else if bytes_eq command (codes "plain") then job_order Plain (codes "plain") words
    else if bytes_eq command (codes "check") then cut_order Check (codes "check") words
    else if bytes_eq command (codes "status") then cut_order Status (codes "status") words
    else if bytes_eq command (codes "dump") then taken_by dump_app dump_of words
    else if bytes_eq command (codes "gen") then taken_by gen_app gen_of words
    else if bytes_eq command (codes "fringe") then taken_by fringe_app fringe_of words
    else if bytes_eq command (codes "verify") then taken_by verify_app verify_of words
    else if bytes_eq command (codes "bins") then taken_by bins_app bins_of words
    else if bytes_eq command (codes "shard") then taken_by shard_app shard_of words
    else if bytes_eq command (codes "merge") then taken_by merge_app merge_of words
    else Err UnknownCommand

abbrev pub order_of : List Text → Result Order WordsFault
order_of [] = Err NoCommand
order_of (command ∷ words) = order_after command words

-- the answer is the wanted one, or want of memory
abbrev pub Gives : {X : Type 0} → Result X WordsFault → Result X WordsFault → Type 0
Gives = steps.Gives Memory (λ x. x)

-- ---- orders that were read

-- the names of a job's file and of its schedule's are texts
abbrev pub AreNames : Text → Option Text → Type 0
AreNames job vex = IsUtf8 job × IfSome vex IsUtf8

-- the samples of an epoch, in their range
abbrev pub IsCut : Option ℕ → Type 0
IsCut epoch = IfSome epoch (λ e. (1 ≤ e) × (e ≤ 4194304))

-- the number of workers and the samples of a piece, in their ranges
pub record IsWork (workers piece : ℕ) : Type 0 where
  pub some : 1 ≤ workers
  pub few : workers ≤ 64
  pub least : 64 ≤ piece
  pub most : piece ≤ 4194304

-- the seconds of a generated job, in their range
pub record IsSample (seconds : ℕ) : Type 0 where
  pub some : 1 ≤ seconds
  pub few : seconds ≤ 60

-- the rates on either side of 0 and what divides them, in their ranges
pub record IsGrid (rates divide : ℕ) : Type 0 where
  pub few : rates ≤ 4096
  pub some : 1 ≤ divide
  pub most : divide ≤ 65536

-- an order whose names are texts, and whose numbers are in their ranges
abbrev pub IsOrder : Order → Type 0
IsOrder (Run job vex epoch workers piece) = AreNames job vex × (IsCut epoch × IsWork workers piece)
IsOrder (Plain job vex) = AreNames job vex
IsOrder (Check job vex epoch) = AreNames job vex × IsCut epoch
IsOrder (Status job vex epoch) = AreNames job vex × IsCut epoch
IsOrder (Dump file) = IsUtf8 file
IsOrder (Gen seed seconds workers piece) = IsSample seconds × IsWork workers piece
IsOrder (Fringe file rates divide) = IsUtf8 file × IsGrid rates divide
IsOrder (Verify file certificate) = IsUtf8 file × IsUtf8 certificate
IsOrder (Bins job vex phase workers piece) = AreNames job vex × (IsUtf8 phase × IsWork workers piece)
IsOrder (Shard job vex epoch workers piece from to) = AreNames job vex × (IsCut epoch × (IsWork workers piece × (from < to)))
IsOrder (Merge job vex files) = AreNames job vex × All IsUtf8 files
