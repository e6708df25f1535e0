use Rattle.vex_reader.proofs.AnswerLemmas.{gives_file, gives_fault}
use Rattle.vex_reader.proofs.pass.read.Goals as goal

pub returns-clause-reads : goal.returns-clause-reads
returns-clause-reads c = gives_file c.args.text.now c.read_text.result c.read_text.ensures.file c.read_text.ensures.fault

pub returns-clause-refuses : goal.returns-clause-refuses
returns-clause-refuses c = gives_fault c.args.text.now c.read_text.result c.read_text.ensures.file c.read_text.ensures.fault
