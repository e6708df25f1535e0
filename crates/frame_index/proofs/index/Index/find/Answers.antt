use Rattle.std.proofs.Common.{◌∙◌, ap, w64, FitsSigned}
use Rattle.std.proofs.lemmas.Int.{to_z-of_z}
use Rattle.frame_index.specs.Indexed.{IndexFields, place_in}
use Rattle.frame_index.proofs.index.Index.find.Goals as goal

pub returns : goal.returns
returns c =
    let fits : FitsSigned w64 c.args.second = c.ranges.second in
    let found = simp to_z-of_z at c.find.ensures in
    found ∙ ap (λ (index : IndexFields). place_in index c.args.thread c.args.second c.args.frame) c.self.view_is
