use Rattle.std.proofs.Common.{◌∙◌}
use Rattle.fringe_search.proofs.Spaced.{word_of_number}
use Rattle.fringe_search.proofs.number.number_of.Goals as goal

pub returns : goal.returns
returns c = λ n behind h. c.parsed.ensures n h.within (c.word.ensures ∙ word_of_number n c.args.stop c.args.text.now behind c.requires h.within h.is)
