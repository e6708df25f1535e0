use Rattle.vis_records.proofs.FileForms.{reads_what_is_written, reads_back}
use Rattle.vis_records.proofs.laws.reads_what_is_written.Goals as goal

pub returns : goal.returns
returns c = record {
  written = reads_what_is_written;
  back = reads_back;
}
