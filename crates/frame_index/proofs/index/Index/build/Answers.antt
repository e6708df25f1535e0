use Rattle.std.proofs.Common.{◌∙◌, Err}
use Rattle.std.proofs.lemmas.Result.{IfOk-weaker, IfErr-weaker}
use Rattle.corr_model.specs.Slots.{slots_of}
use Rattle.frame_index.specs.Faults.{IsReadOrMemory, IsFieldFault}
use Rattle.frame_index.specs.Foreign.{foreign_field}
use Rattle.frame_index.specs.Recording.{bytes_on, slots_on, slot_total}
use Rattle.frame_index.proofs.ToldLemmas.{WhereTold-weaker}
use Rattle.frame_index.proofs.BuildLemmas.{all_met, no_field, foreign_named, some_agrees, not_too_many, never_too_many, within_most, total_met, CountsReads-kept}
use Rattle.frame_index.proofs.SlotOrderLemmas.{slots-follow}
use Rattle.frame_index.proofs.index.Index.build.Goals as goal

pub returns-in-Err-clause-none_agrees : goal.returns-in-Err-clause-none_agrees
returns-in-Err-clause-none_agrees g c =
    no_field (g.F.Shelf.told c.args.shelf.now) (λ shelf. foreign_field c.args.shape.now (slots_of c.args.shape.now.frame_bytes (bytes_on shelf c.args.files.now)))
    c.in-Err.fault c.in-Err.ensures.stage

pub returns-in-Err-clause-too_many : goal.returns-in-Err-clause-too_many
returns-in-Err-clause-too_many g c =
    not_too_many (Err c.in-Err.fault) 67108864 (slot_total c.args.shape.now c.args.files.now) IsReadOrMemory (λ never. never) c.in-Err.ensures.stage
    (within_most c.in-Some.slots 67108864 c.of-layout.result.size c.args.shape.now c.args.files.now c.of-layout.ensures.size c.in-Some.ensures.0 c.in-Some.ensures.1)

pub returns-in-Err-clause-unread : goal.returns-in-Err-clause-unread
returns-in-Err-clause-unread g c = λ e. absurd (never_too_many (Err c.in-Err.fault) IsReadOrMemory (λ never. never) c.in-Err.ensures.stage e)

pub returns-in-Err-clause-counts : goal.returns-in-Err-clause-counts
returns-in-Err-clause-counts g c = record { kept = tt; cause = c.in-Err.ensures.counts.cause; no_fall = c.in-Err.ensures.counts.no_fall }

pub returns-in-Ok-clause-index : goal.returns-in-Ok-clause-index
returns-in-Ok-clause-index g c =
    IfOk-weaker c.finish.result _ _
    (λ index is. WhereTold-weaker (g.F.Shelf.told c.args.shelf.now) _ _
    (λ shelf holds. is c.args.shape.now (slots_on shelf c.args.shape.now c.args.files.now) holds (slots-follow c.args.shape.now.frame_bytes (bytes_on shelf c.args.files.now)))
    (all_met (g.F.Shelf.told c.args.shelf.now) c.args.shape.now c.args.files.now c.in_ok-builder.builder c.meet_files.new.builder (c.in_ok-builder.ensures.holds c.args.shape.now) c.requires.sizes c.in-Ok.ensures.extends))
    c.finish.ensures.index

pub returns-in-Ok-clause-slots : goal.returns-in-Ok-clause-slots
returns-in-Ok-clause-slots g c =
    IfOk-weaker c.finish.result _ _
    (λ index same. same
    ∙ total_met c.in_ok-builder.builder.counts.slots c.meet_files.new.builder.counts.slots (slot_total c.args.shape.now c.args.files.now) c.in-Ok.ensures.slots c.in_ok-builder.ensures.slots)
    c.finish.ensures.slots

pub returns-in-Ok-clause-some_agrees : goal.returns-in-Ok-clause-some_agrees
returns-in-Ok-clause-some_agrees g c =
    IfOk-weaker c.finish.result _ _
    (λ index none. some_agrees (g.F.Shelf.told c.args.shelf.now) c.args.shape.now c.args.files.now c.meet_files.new.builder
    (all_met (g.F.Shelf.told c.args.shelf.now) c.args.shape.now c.args.files.now c.in_ok-builder.builder c.meet_files.new.builder (c.in_ok-builder.ensures.holds c.args.shape.now) c.requires.sizes c.in-Ok.ensures.extends) none)
    c.finish.ensures.agrees

pub returns-in-Ok-clause-none_agrees : goal.returns-in-Ok-clause-none_agrees
returns-in-Ok-clause-none_agrees g c =
    IfErr-weaker c.finish.result _ _
    (λ fault is. foreign_named (g.F.Shelf.told c.args.shelf.now) c.args.shape.now c.args.files.now c.meet_files.new.builder fault
    (all_met (g.F.Shelf.told c.args.shelf.now) c.args.shape.now c.args.files.now c.in_ok-builder.builder c.meet_files.new.builder (c.in_ok-builder.ensures.holds c.args.shape.now) c.requires.sizes c.in-Ok.ensures.extends) is)
    c.finish.ensures.foreign

pub returns-in-Ok-clause-too_many : goal.returns-in-Ok-clause-too_many
returns-in-Ok-clause-too_many g c =
    not_too_many c.finish.result 67108864 (slot_total c.args.shape.now c.args.files.now) (IsFieldFault c.meet_files.new.builder.none_agrees) (λ never. never) c.finish.ensures.foreign
    (within_most c.in-Some.slots 67108864 c.of-layout.result.size c.args.shape.now c.args.files.now c.of-layout.ensures.size c.in-Some.ensures.0 c.in-Some.ensures.1)

pub returns-in-Ok-clause-unread : goal.returns-in-Ok-clause-unread
returns-in-Ok-clause-unread g c = λ e.
    absurd (never_too_many c.finish.result (IsFieldFault c.meet_files.new.builder.none_agrees) (λ never. never) c.finish.ensures.foreign e)

pub returns-in-Ok-clause-counts : goal.returns-in-Ok-clause-counts
returns-in-Ok-clause-counts g c =
    CountsReads-kept (g.F.Shelf.faults c.args.shelf.now) (g.F.Shelf.faults c.meet_files.new.shelf) c.meet_files.new.builder.none_agrees c.finish.result
    c.in-Ok.ensures.counts.kept c.finish.ensures.foreign
