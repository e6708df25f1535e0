-- One statement read.
use Rattle.std.proofs.Common.{◌≡◌, true, false, List, Some, None, Ok, Err, bytes_eq, refl}
use Rattle.std.specs.List.{list_any}
use Rattle.vex_reader.specs.declared.file.Statement.{Statement}
use Rattle.vex_schedule.specs.declared.fault.SchedKind.TheVariants.{DoubleStatement, BadValue, StationTwice, BadRange}
use Rattle.scan_list.specs.declared.scan.Chan.{Chan}
use Rattle.vex_schedule.specs.declared.stay.Stay.{Stay}
use Rattle.vex_schedule.specs.Answers.{fault}
use Rattle.vex_schedule.specs.Values.{chan_in, stay_in}
use Rattle.vex_schedule.specs.Schedule.{chan_of, stay_of, is_in_order}

pub chan_of-bad : (before : List Chan) (s : Statement) → chan_in s.values ≡ None → chan_of before s ≡ Err (fault BadValue s.at)
unfolding chan_of
chan_of-bad before s e = rw e refl

pub chan_of-double : (before : List Chan) (s : Statement) (chan : Chan) → chan_in s.values ≡ Some chan → list_any (λ other. bytes_eq other.id chan.id) before ≡ true
    → chan_of before s ≡ Err (fault DoubleStatement s.at)
unfolding chan_of
chan_of-double before s chan e there = rw (e, there) refl

pub chan_of-new : (before : List Chan) (s : Statement) (chan : Chan) → chan_in s.values ≡ Some chan → list_any (λ other. bytes_eq other.id chan.id) before ≡ false
    → chan_of before s ≡ Ok chan
unfolding chan_of
chan_of-new before s chan e new = rw (e, new) refl

pub stay_of-double : (before : List Stay) (s : Statement) (stay : Stay) → stay_in s.values ≡ Some stay → list_any (λ other. bytes_eq other.key stay.key) before ≡ true
    → stay_of before s ≡ Err (fault StationTwice s.at)
unfolding stay_of
stay_of-double before s stay e there = rw (e, there) refl

pub stay_of-range : (before : List Stay) (s : Statement) (stay : Stay) → stay_in s.values ≡ Some stay → list_any (λ other. bytes_eq other.key stay.key) before ≡ false
    → is_in_order stay ≡ false → stay_of before s ≡ Err (fault BadRange s.at)
unfolding stay_of
stay_of-range before s stay e new order = rw (e, new, order) refl

pub stay_of-new : (before : List Stay) (s : Statement) (stay : Stay) → stay_in s.values ≡ Some stay → list_any (λ other. bytes_eq other.key stay.key) before ≡ false
    → is_in_order stay ≡ true → stay_of before s ≡ Ok stay
unfolding stay_of
stay_of-new before s stay e new order = rw (e, new, order) refl
