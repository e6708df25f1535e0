use Rattle.frame_index.proofs.BuildLemmas.{finished}
use Rattle.frame_index.proofs.index.Index.finish.Goals as goal

pub returns-in-None-clause-index : goal.returns-in-None-clause-index
returns-in-None-clause-index c = λ shape slots holds follow.
    finished shape slots c.args.builder c.first_places-frames.result.0.entries.items c.first_places-frames.result.1 c.with_doubled.result holds follow
    c.first_places-frames.ensures.first c.first_places-frames.ensures.doubled c.with_doubled.ensures
