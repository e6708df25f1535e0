-- A station, what lines so far say, and a job as contracts see them, by what they hold.
use Rattle.job_text.specs.declared.station.Station.TheInside.{Inside as StationInside}
use Rattle.job_text.specs.declared.draft.Draft.TheInside.{Inside as DraftInside}
use Rattle.job_text.specs.declared.job.Job.TheInside.{Inside as JobInside}
use Rattle.named_list.specs.Named.{names}
use Rattle.job_text.specs.Job.{StationFields, JobFields}
use Rattle.job_text.specs.Said.{Said}

abbrev pub station_shown : StationInside → StationFields
station_shown s = record {
  key = s.key;
  id = s.id;
  bits = s.bits;
  chans_log2 = s.chans_log2;
  frame_bytes = s.frame_bytes;
  legacy = s.legacy;
  files = s.files.items;
  chans = s.chans;
  clocks = s.clocks;
  polys = s.polys;
}

abbrev pub draft_shown : DraftInside → Said
draft_shown draft = record {
  lags = draft.lags;
  integration = draft.integration;
  epoch = draft.epoch;
  knot = draft.knot;
  auto = draft.auto;
  rate = draft.rate;
  stations = draft.stations;
  products = draft.products;
  takes = names draft.takes;
  scans = draft.scans;
  bands = draft.bands;
}

abbrev pub job_shown : JobInside → JobFields
job_shown job = record {
  lags = job.lags;
  integration = job.integration;
  epoch = job.epoch;
  knot = job.knot;
  auto = job.auto;
  rate = job.rate;
  stations = job.stations;
  products = job.products;
  takes = names job.takes;
  scans = job.scans;
  bands = job.bands;
}
