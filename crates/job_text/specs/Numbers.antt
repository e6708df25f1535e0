-- A job by its numbers and by what rows say beside them.
use Rattle.std.specs.Prelude.{unwrap_or}
use Rattle.job_text.specs.declared.numbers.Numbers.{Numbers}
use Rattle.job_text.specs.Job.{JobFields}
use Rattle.job_text.specs.Said.{Said}

-- the job of these numbers and of what rows say beside them
abbrev pub job_from : Said → Numbers → JobFields
job_from said numbers = record {
  lags = numbers.lags;
  integration = numbers.integration;
  epoch = numbers.epoch;
  knot = unwrap_or said.knot 32768;
  auto = said.auto;
  rate = said.rate;
  stations = said.stations;
  products = said.products;
  takes = said.takes;
  scans = said.scans;
  bands = said.bands;
}
