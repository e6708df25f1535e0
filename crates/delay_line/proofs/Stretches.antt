-- The stretch of samples on which a line is within an interval.
use Rattle.std.proofs.Common.{◌≡◌, ℕ, ◌^◌, ◌≤◌, ◌<◌, ℤ, unsigned_abs, refl, sym, ap, ◌∙◌, arith}
use Rattle.corr_model.specs.Delay.{between}
use Rattle.delay_line.specs.Interval.{IsIn, IsIntervalOf}
use Rattle.delay_line.specs.Stretch.{IsExit, IsStretch}
use Rattle.delay_line.proofs.Lines.{unsigned_abs-between}

-- the interval of the delay at a sample has that delay
pub interval_begins : {X : Type 0} (f : ℤ → X) (x y least end : ℤ) → x ≡ y → unsigned_abs x < 2 ^ 59 → IsIntervalOf f x least end → IsIn least end y
interval_begins f x y least end is small interval = rw is at (interval.all x small refl)

-- outside of its interval f is another
pub stretch_of_exit : {X : Type 0} (f : ℤ → X) (first next x least until : ℤ) (k from to end : ℕ)
    → unsigned_abs first < 2 ^ 59 → unsigned_abs next < 2 ^ 59 → to ≤ k → x ≡ between first next from k
    → IsIntervalOf f x least until → IsExit (λ n. IsIn least until (between first next n k)) from to end
    → IsStretch (λ n. f (between first next n k)) from to end
stretch_of_exit f first next x least until k from to end a b within is interval exit = record {
  after = exit.after;
  within = exit.within;
  same = λ n p q. interval.same (between first next n k) (exit.holds n p q) ∙ ap f is;
  longest = λ less e. exit.ends less
      (interval.all (between first next end k) (unsigned_abs-between first next end k (2 ^ 59) (omega arith) a b) (e ∙ sym (ap f is)));
}
