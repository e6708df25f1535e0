use Rattle.std.proofs.Common.{◌≡◌, refl, sym, subst}
use Rattle.piece_plan.specs.declared.epoch.EpochPlan.{EpochPlan}
use Rattle.piece_plan.specs.Order.{Place}
use Rattle.plan_places.specs.Places.{place_at}
use Rattle.journal_image.specs.declared.finding.Behind.{Behind}
use Rattle.journal_image.specs.declared.finding.Behind.TheVariants.{Record, Mark, Fault}
use Rattle.journal_image.specs.Finding.{HasEpoch}
use Rattle.checkpoint_journal.specs.Next.{IsEpochOf}
use Rattle.checkpoint_journal.proofs.NextLemmas.{cut_place, cut_same}
use Rattle.checkpoint_journal.proofs.cursor.epoch_of.Goals as goal

pub returns-in-Record-clause-fits : goal.returns-in-Record-clause-fits
returns-in-Record-clause-fits c = record {
  epoch = c.cut.ensures.fits;
  of_plan = c.cut.ensures.of_plan;
  begins = cut_place c.args.plan.now _ (place_at c.args.place.now) _ c.requires.place c.cut.ensures.cut;
}

pub returns-in-Record-clause-same : goal.returns-in-Record-clause-same
returns-in-Record-clause-same c =
    let job = c.args.plan.now in
    let p = place_at c.args.place.now in
    let e = c.in-Record.e in
    let found = subst (λ (b : Behind). HasEpoch job b) c.in-Record.is c.requires.epoch in
    subst (λ (b : Behind). IsEpochOf b p c.cut.result) (sym c.in-Record.is) (λ begins. cut_same job p c.cut.result e found.0 c.cut.ensures.cut begins)

no_record : (b : Behind) (p : Place) (e : EpochPlan) → ((x : EpochPlan) → b ≡ Record x → ⊥) → IsEpochOf b p e
no_record (Record x) p e other = absurd (other x refl)
no_record Mark p e other = tt
no_record (Fault d) p e other = tt

pub returns-in_default : goal.returns-in_default
returns-in_default c = record {
  fits = record {
    epoch = c.cut-in_default.ensures.fits;
    of_plan = c.cut-in_default.ensures.of_plan;
    begins = cut_place c.args.plan.now _ (place_at c.args.place.now) _ c.requires.place c.cut-in_default.ensures.cut;
  };
  same = no_record c.args.found.now (place_at c.args.place.now) c.cut-in_default.result c.in_default.not-Record;
}
