use Rattle.std.proofs.Common.{◌∙◌, map, None, ap}
use Rattle.dev_traits.proofs.ToldLemmas.{WhereTold-weaker}
use Rattle.frame_index.specs.declared.recording.FileRef.{FileRef}
use Rattle.run_ready.proofs.FilesLemmas.{foreign_answer-sized}
use Rattle.run_ready.proofs.RefusedLemmas.{IsDue-foreign, IsOfFiles-recording, MatchRead-recording}
use Rattle.run_ready.proofs.indexes.index_of.Goals as goal

pub returns-in-Ok-clause-agrees : goal.returns-in-Ok-clause-agrees
returns-in-Ok-clause-agrees g c =
    WhereTold-weaker (g.F.Shelf.told c.args.shelf.now) _ _
    (λ files none. foreign_answer-sized files c.args.station.now c.items.result.now None
    (ap (map (λ (f : FileRef). f.name)) c.items.ensures ∙ c.requires.sized.names) none)
    c.in-Ok.ensures.some_agrees

pub returns-in-Err-clause-due : goal.returns-in-Err-clause-due
returns-in-Err-clause-due g c =
    WhereTold-weaker (g.F.Shelf.told c.args.shelf.now) _ _
    (λ files of. IsDue-foreign files c.args.station.now c.items.result.now c.in_ok-key.key c.recording_refusal.result c.in-Err.fault
    (ap (map (λ (f : FileRef). f.name)) c.items.ensures ∙ c.requires.sized.names) c.in_ok-key.ensures c.recording_refusal.ensures of)
    c.in-Err.ensures.none_agrees

pub returns-in-Err-clause-stage : goal.returns-in-Err-clause-stage
returns-in-Err-clause-stage g c = IsOfFiles-recording c.in_ok-key.key c.recording_refusal.result c.in-Err.fault c.recording_refusal.ensures

pub returns-in-Err-clause-counts : goal.returns-in-Err-clause-counts
returns-in-Err-clause-counts g c =
    MatchRead-recording c.in_ok-key.key c.recording_refusal.result c.in-Err.fault _ _ c.recording_refusal.ensures c.in-Err.ensures.counts.cause
