-- Samples of a scan: those of a station's part, and how many there are.
use Rattle.std.specs.Prelude.{ℕ, ◌*◌, ◌/◌, ℤ, unsigned_abs, max, fold}
use Rattle.std.specs.Option.{option_map_or}
use Rattle.scan_list.specs.declared.scan.Pass.{Pass}
use Rattle.scan_list.specs.declared.scan.Scan.{Scan}
use Rattle.job_text.specs.Job.{JobFields}
use Rattle.job_join.specs.Standing.{Stand, stands_in}

-- the whole samples in so many microseconds
abbrev pub samples_in : ℕ → ℤ → ℕ
samples_in rate us = unsigned_abs us * rate / 1000000

-- A part begins at its first whole sample, and ends before that of its end; a part whose samples are counted is the scan
-- from its start on.
unfoldable pub first_sample : ℕ → Pass → ℕ
first_sample rate pass = option_map_or (λ (n : ℕ). 0) pass.samples (samples_in rate pass.from_us)

unfoldable pub end_sample : ℕ → Pass → ℕ
end_sample rate pass = option_map_or (λ (n : ℕ). n) pass.samples (samples_in rate pass.to_us)

-- the samples of a scan: as far as a station of the job goes
unfoldable pub samples_of : JobFields → ℕ → Scan → ℕ
samples_of job rate scan = fold (λ most (s : Stand). max most (end_sample rate s.pass)) 0 (stands_in job scan)
