use Rattle.std.proofs.lemmas.Result.{IfOk-weaker}
use Rattle.vex_lex.proofs.GrammarLaws.{cover_text, begin_as_their_kinds, gives_tokens, gives_fault}
use Rattle.vex_lex.proofs.scan.tokens.Goals as goal

pub returns-clause-cover : goal.returns-clause-cover
returns-clause-cover c =
    IfOk-weaker c.scan_text.result _ _ (λ tokens. cover_text c.args.text.now tokens.items) c.scan_text.ensures.found

pub returns-clause-marks : goal.returns-clause-marks
returns-clause-marks c =
    IfOk-weaker c.scan_text.result _ _ (λ tokens. begin_as_their_kinds c.args.text.now tokens.items) c.scan_text.ensures.found

pub returns-clause-lexes : goal.returns-clause-lexes
returns-clause-lexes c =
    gives_tokens c.args.text.now (λ tokens. tokens.items) c.scan_text.result c.scan_text.ensures.found c.scan_text.ensures.fault

pub returns-clause-breaks : goal.returns-clause-breaks
returns-clause-breaks c =
    gives_fault c.args.text.now (λ tokens. tokens.items) c.scan_text.result c.scan_text.ensures.found c.scan_text.ensures.fault
