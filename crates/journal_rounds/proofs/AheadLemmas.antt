-- What is summed and read ahead, one round after another.
use Rattle.std.specs.Prelude.{IfSome}
use Rattle.std.proofs.Common.{◌≡◌, ◌∙◌, ℕ, ◌+◌, ◌-◌, ◌*◌, ◌<◌, ◌≤◌, Option, None, Some, option_map, sym, ap, subst, arith}
use Rattle.corr_model.specs.Files.{Files}
use Rattle.piece_plan.specs.Epochs.{JobSizes}
use Rattle.piece_plan.specs.Order.{Place, place_of}
use Rattle.plan_places.specs.declared.place.Place.{Place as Spot}
use Rattle.plan_places.specs.Places.{place_at, IsPlace}
use Rattle.plan_places.specs.Walk.{AreLeft, next_epoch}
use Rattle.ready_job.specs.declared.ready.Ready.{Ready}
use Rattle.run_sums.proofs.FrameLemmas.{HoldsFrames-untold}
use Rattle.journal_rounds.specs.declared.values.Framed.{Framed}
use Rattle.journal_rounds.specs.declared.values.Held.{Held}
use Rattle.journal_rounds.specs.declared.sums.Summed.{Summed}
use Rattle.journal_rounds.specs.Epochs.{IsNext, behind}
use Rattle.journal_rounds.specs.Ahead.{IsFramed, IsHeld, AreSumsOf, IsCut, IsAhead, epoch_summed, steps_done, steps_kept, kept_with}
use Rattle.journal_rounds.proofs.WalkLemmas.{left-behind}

-- values of an epoch, whether the files are told or not
pub held-untold : (told : Option Files) (ready : Ready) (held : Option Held) → IfSome held (IsHeld told ready) → IfSome held (IsHeld None ready)
held-untold told ready None are = tt
held-untold told ready (Some h) are = record {
  fits = are.fits;
  scan = are.scan;
  of_scan = are.of_scan;
  values = record { pairs = are.values.pairs; count = are.values.count; values = tt };
}

-- frames too
pub framed-untold : (told : Option Files) (ready : Ready) (f : Framed) → IsFramed told ready f → IsFramed None ready f
framed-untold told ready f are = record {
  fits = are.fits;
  scan = are.scan;
  of_scan = are.of_scan;
  frames = HoldsFrames-untold told ready.plan ready.recordings.items are.scan f.epoch f.frames are.frames;
}

-- and sums
pub sums-untold : (told : Option Files) (ready : Ready) (summed : Option Summed) → IfSome summed (AreSumsOf told ready) → IfSome summed (AreSumsOf None ready)
sums-untold told ready None are = tt
sums-untold told ready (Some s) are = record { fits = are.fits; of_plan = are.of_plan; sums = record { count = are.sums.count; cells = tt } }

-- the epoch that is summed begins at the place that is due
pub begins-due : (job : JobSizes) (epoch : ℕ) (due : Option Place) (summed : Option Summed) → IsNext job epoch due (epoch_summed summed)
    → IfSome summed (λ s. due ≡ Some (place_of s.epoch))
begins-due job epoch due None is = tt
begins-due job epoch due (Some s) is = is.begins

-- and it is one of the job, of this length from there on
pub cut-due : (job : JobSizes) (epoch : ℕ) (due : Option Place) (summed : Option Summed) → IsNext job epoch due (epoch_summed summed) → IfSome summed (IsCut job epoch)
cut-due job epoch due None is = tt
cut-due job epoch due (Some s) is = (is.fits, ap (next_epoch job epoch) (sym is.begins) ∙ is.cut)

-- how many epochs are left behind a round
pub left-round : (job : JobSizes) (epoch left less : ℕ) (due : Option Place) (summed : Option Summed) → AreLeft job epoch due left → IsNext job epoch due (epoch_summed summed)
    → kept_with summed less ≡ left → AreLeft job epoch (behind job (epoch_summed summed) due) less
left-round job epoch left less due None are is count = subst (AreLeft job epoch due) (sym count) are
left-round job epoch left less due (Some s) are is count = left-behind job epoch less due s.epoch (subst (AreLeft job epoch due) (sym count) are) is.cut

-- and how many are kept and left in all
pub all-round : (summed : Option Summed) (kept kept' left less : ℕ) → kept' ≡ kept_with summed kept → kept_with summed less ≡ left → kept' + less ≡ kept + left
all-round None kept kept' left less more count = omega arith
all-round (Some s) kept kept' left less more count = omega arith

-- the measure falls
pub steps-fall : (summed more : Option Summed) (held other : Option Held) (left less : ℕ) → 0 < left → kept_with summed less ≡ left
    → steps_done summed held < steps_done more other + steps_kept summed → 3 * less - steps_done more other < 3 * left - steps_done summed held
steps-fall None more None other left less some count on = omega (arith, done-most more other)
  where
    done-most : (a : Option Summed) (b : Option Held) → steps_done a b ≤ 2
    done-most None None = omega arith
    done-most None (Some b) = omega arith
    done-most (Some a) b = omega arith
steps-fall None more (Some h) other left less some count on = omega arith
steps-fall (Some s) more held other left less some count on = omega arith

-- ---- the first round

-- nothing is read yet
pub ahead-none : (told : Option Files) (ready : Ready) (job : JobSizes) (epoch : ℕ) (at here : Option Spot) → here ≡ at → IfSome at (λ p. IsPlace job (place_at p))
    → IsAhead told ready job epoch (option_map place_at at) (record { summed = None; held = None; next = here })
ahead-none told ready job epoch at here same place = record {
  sums = tt;
  values = tt;
  first = tt;
  second = tt;
  next = ap (option_map place_at) same;
  place = subst (λ (o : Option Spot). IfSome o (λ p. IsPlace job (place_at p))) (sym same) place;
}
