use Rattle.std.proofs.Common.{ℤ, ◌∙◌, ap, w32, to_z, of_z}
use Rattle.std.proofs.lemmas.Int.{to_z-of_z}
use Rattle.fringe_search.proofs.Spaced.{word_of_signed}
use Rattle.fringe_search.proofs.number.signed_of.Goals as goal

pub returns : goal.returns
returns c = λ z behind h.
    let same = c.signed_parsed.ensures z h.within (c.word.ensures ∙ word_of_signed z c.args.stop c.args.text.now behind c.requires h.within h.is) in
    ap (λ (x : ℤ). to_z w32 (of_z w32 x)) same ∙ to_z-of_z w32 z h.within
