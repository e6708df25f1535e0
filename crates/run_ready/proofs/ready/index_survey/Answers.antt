use Rattle.std.proofs.Common.{◌≡◌, ◌∙◌, List, sym, ap, subst}
use Rattle.std.specs.List.{AllZip}
use Rattle.dev_traits.proofs.ToldLemmas.{WhereTold-weaker}
use Rattle.job_plan.specs.declared.plan.StationPlan.{StationPlan}
use Rattle.job_plan.specs.declared.plan.Plan.{Plan}
use Rattle.station_stream.specs.Recorded.{AreNamed, AreRecorded}
use Rattle.run_ready.specs.Sizes.{IsSizedBy}
use Rattle.run_ready.proofs.FilesLemmas.{AreNamed-zip, AreRecorded-zip}
use Rattle.run_ready.proofs.ready.index_survey.Goals as goal

pub index_all-requires-clause-sized : goal.index_all-requires-clause-sized
index_all-requires-clause-sized g c =
    let same : c.items.result.now ≡ c.args.survey.plan.stations = c.items.ensures ∙ ap (λ (p : Plan). p.stations) c.plan-2.ensures.same in
    subst (λ (ss : List StationPlan). AllZip IsSizedBy ss c.args.survey.files.items) (sym same) c.args.survey.sized

pub invariant_of-result : goal.invariant_of-result
invariant_of-result g c =
    let same : c.items.result.now ≡ c.args.survey.plan.stations = c.items.ensures ∙ ap (λ (p : Plan). p.stations) c.plan-2.ensures.same in
    record {
      named =
          subst (λ (ss : List StationPlan). AreNamed ss c.in_ok-recordings.recordings.items) same
          (AreNamed-zip c.items.result.now c.in_ok-recordings.recordings.items c.in_ok-recordings.ensures.named);
      few = c.args.survey.few;
      cut = c.args.survey.cut;
      some_epoch = c.args.survey.some_epoch;
      short_epoch = c.args.survey.short_epoch;
      few_epochs = c.args.survey.few_epochs;
      short = c.args.survey.short;
    }

pub returns-clause-recorded : goal.returns-clause-recorded
returns-clause-recorded g c =
    let same : c.items.result.now ≡ c.args.survey.plan.stations = c.items.ensures ∙ ap (λ (p : Plan). p.stations) c.plan-2.ensures.same in
    WhereTold-weaker (g.F.Shelf.told c.args.shelf.now) _ _
    (λ files all. subst (λ (ss : List StationPlan). AreRecorded files ss c.in_ok-recordings.recordings.items) same
    (AreRecorded-zip files c.items.result.now c.in_ok-recordings.recordings.items all))
    c.in_ok-recordings.ensures.recorded
