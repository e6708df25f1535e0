use Rattle.std.proofs.Common.{◌∙◌, ap, rules, List, Option}
use Rattle.frame_index.specs.declared.frame.Frame.{Frame}
use Rattle.frame_index.specs.Passed.{is_passed}
use Rattle.frame_index.proofs.PassedLemmas.{none_passed}
use Rattle.frame_index.proofs.latest.LatestFrames.new.Goals as goal

pub returns : goal.returns
returns c = λ frame.
    ap (λ (last : List (Option Frame)). is_passed last frame) (c.in_ok-last.ensures.items_if_clones_equal (λ y h. search rules))
    ∙ none_passed 1024 frame
