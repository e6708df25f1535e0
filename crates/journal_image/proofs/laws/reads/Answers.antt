use Rattle.journal_image.proofs.ReadingLemmas.{reads_once, keeps_one, reads_nothing, ends_at_gate, reads_more}
use Rattle.journal_image.proofs.KeptLemmas.{reads_in_order, reads_own, keeps_more, stays_honest}
use Rattle.journal_image.proofs.DifferLemmas.{has_no_reading, differs_once}
use Rattle.journal_image.proofs.laws.reads.Goals as goal

pub returns : goal.returns
returns c = record {
  once = reads_once;
  one = keeps_one;
  nothing = reads_nothing;
  unread = has_no_reading;
  differs = differs_once;
  in_order = reads_in_order;
  own = reads_own;
  ends_at_gate = ends_at_gate;
  more = reads_more;
  keeps = keeps_more;
  honest = stays_honest;
}
