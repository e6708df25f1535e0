-- What an image keeps, and the place that is due behind it.
use Rattle.std.proofs.Common.{◌≡◌, ◌∙◌, inl, inr, ℕ, List, [], ◌∷◌, map, Option, sym, subst}
use Rattle.piece_plan.specs.declared.epoch.EpochPlan.{EpochPlan}
use Rattle.piece_plan.specs.Epochs.{JobSizes}
use Rattle.piece_plan.specs.Order.{Place, job_start, place_after, AreInOrder}
use Rattle.journal_image.specs.Image.{KeptEpoch, records, Reading, Reads, Keeps}
use Rattle.journal_image.proofs.KeptLemmas.{reads_in_order}
use Rattle.journal_rounds.specs.Room.{DueIn}

-- epochs in order from a place lead to one place
order-once : (job : JobSizes) (due a b : Option Place) (epochs : List EpochPlan) → AreInOrder job due epochs a → AreInOrder job due epochs b → a ≡ b
order-once job due a b [] one other = sym one ∙ other
order-once job due a b (e ∷ epochs) one other = order-once job (place_after job e) a b epochs one.2 other.2

abbrev epochs_in : List KeptEpoch → List EpochPlan
epochs_in kept = map (λ (k : KeptEpoch). k.epoch) kept

-- the place behind what one image keeps is that behind the same in another
pub due-same : (id : List ℕ) (job : JobSizes) (v image : List ℕ) (kept : List KeptEpoch) (due : Option Place) (r : Reading) → Keeps id job v kept → DueIn id job v due
    → Reads id job image r → kept ≡ records r.things → due ≡ r.due.place
due-same id job v image kept due r (inl blank) is reads same =
    let none : [] ≡ records r.things = sym blank.1 ∙ same in
    let order : AreInOrder job (job_start job) [] r.due.place =
    subst (λ (l : List KeptEpoch). AreInOrder job (job_start job) (epochs_in l) r.due.place) (sym none) (reads_in_order id job image r reads) in
    is.0 blank.0 ∙ order
due-same id job v image kept due r (inr said) is reads same =
    let records_same : records said.0.things ≡ records r.things = sym said.2 ∙ same in
    let order : AreInOrder job (job_start job) (epochs_in (records r.things)) said.0.due.place =
    subst (λ (l : List KeptEpoch). AreInOrder job (job_start job) (epochs_in l) said.0.due.place) records_same (reads_in_order id job v said.0 said.1) in
    is.1 said.0 said.1 ∙ order-once job (job_start job) said.0.due.place r.due.place (epochs_in (records r.things)) order (reads_in_order id job image r reads)
