-- The latest frames.
use Rattle.std.specs.Prelude.{◌||◌, ◌&&◌, ◌==◌, nat_lt, int_lt, option_and_then, if◌then◌else◌}
use Rattle.std.specs.Option.{option_map_or}
use Rattle.std.specs.Ordering.{int_eq}
use Rattle.std.specs.List.{slice_get, slice_set}
use Rattle.std.proofs.Common.{◌≡◌, ◌∙◌, refl, sym, ap, ℕ, ◌<◌, ⊎_elim, ℤ, Bool, true, false, List, Option, Some, None, length, get_or, replicate, arith}
use Rattle.std.proofs.lemmas.Bool.{cases_eq, cases_lt}
use Rattle.std.proofs.lemmas.Grind.{common_steps}
use Rattle.std.proofs.Math.ListN.{length-set}
use Rattle.std.proofs.lemmas.List.{get_or-set_same, get_or-replicate, length-replicate}
use Rattle.std.proofs.lemmas.Bool.Decides.{nat_tests}
use Rattle.std.proofs.lemmas.Int.{ints}
use Rattle.std.proofs.lemmas.Option.{gets, slice_get-get_or, slice_get_past}
use Rattle.frame_index.specs.declared.frame.Frame.{Frame}
use Rattle.frame_index.specs.FrameOrder.{is_earlier}
use Rattle.frame_index.specs.Passed.{is_passed}

-- what the latest frame says of another one of its thread
abbrev pub passes : Option Frame → Frame → Bool
passes found frame = option_map_or (λ (latest : Frame). is_earlier frame latest) found false

pub is_passed-from : (last : List (Option Frame)) (frame : Frame) (found : Option Frame) → slice_get last frame.thread ≡ Some found
    → is_passed last frame ≡ passes found frame
is_passed-from last frame found e = ap (λ (o : Option (Option Frame)). passes (option_and_then (λ latest. latest) o) frame) e

-- the latest frame as an index reads it
pub is_passed-at : (last : List (Option Frame)) (frame : Frame) (i : ℕ) (read found : Option Frame) → frame.thread < length last → i ≡ frame.thread
    → read ≡ get_or last i read → read ≡ found
    → is_passed last frame ≡ passes found frame
is_passed-at last frame i read found h e is named =
    is_passed-from last frame found
    (slice_get-get_or last frame.thread read h ∙ ap Some (ap (λ (n : ℕ). get_or last n read) (sym e) ∙ sym is ∙ named))

-- a frame earlier than one that is earlier than a third
earlier_through : (s t u : ℤ) (x y z : ℕ) → (int_lt t u || (int_eq t u && nat_lt y z)) ≡ true
    → (int_lt s u || (int_eq s u && nat_lt x z)) ≡ ((int_lt s u || (int_eq s u && nat_lt x z)) || (int_lt s t || (int_eq s t && nat_lt x y)))
earlier_through s t u x y z h = grind (arith, ints, nat_tests)

earlier_back : (s t u : ℤ) (x y z : ℕ) → (int_lt t u || (int_eq t u && nat_lt y z)) ≡ false
    → (int_lt s t || (int_eq s t && nat_lt x y)) ≡ ((int_lt s u || (int_eq s u && nat_lt x z)) || (int_lt s t || (int_eq s t && nat_lt x y)))
earlier_back s t u x y z h = grind (arith, ints, nat_tests)

or_false : (b : Bool) → (b || false) ≡ b
or_false true = refl
or_false false = refl

slice_get-set_other : (l : List (Option Frame)) (i j : ℕ) (a : Option Frame) → (j ≡ i → ⊥) → slice_get (slice_set l i a) j ≡ slice_get l j
slice_get-set_other l i j a apart = grind (arith, common_steps, gets)

-- a frame that is met, at the place of its thread
meet-here : (found : Option Frame) (frame other : Frame) (late : Bool) → late ≡ passes found frame
    → passes (if late then found else Some frame) other ≡ (passes found other || is_earlier other frame)
meet-here None frame other late e = rw e refl
meet-here (Some l) frame other true e = earlier_through other.second frame.second l.second other.number frame.number l.number (sym e)
meet-here (Some l) frame other false e = earlier_back other.second frame.second l.second other.number frame.number l.number (sym e)

-- one that is not late takes its thread's place
pub met-set : (last : List (Option Frame)) (frame other : Frame) → frame.thread < length last → is_passed last frame ≡ false
    → is_passed (slice_set last frame.thread (Some frame)) other ≡ (is_passed last other || ((other.thread == frame.thread) && is_earlier other frame))
met-set last frame other h e =
    ⊎_elim (λ same. here same) (λ apart. there apart) (cases_eq other.thread frame.thread)
  where
    found : Option Frame
    found = get_or last frame.thread None

    here : other.thread ≡ frame.thread
        → is_passed (slice_set last frame.thread (Some frame)) other ≡ (is_passed last other || ((other.thread == frame.thread) && is_earlier other frame))
    here same =
        let test : (other.thread == frame.thread) ≡ true = grind (arith, nat_tests) in
        let old_frame : slice_get last frame.thread ≡ Some found = slice_get-get_or last frame.thread None h in
        let old_other : slice_get last other.thread ≡ Some found = rw same old_frame in
        let long : length (slice_set last frame.thread (Some frame)) ≡ length last = length-set last frame.thread (Some frame) in
        let new : slice_get (slice_set last frame.thread (Some frame)) other.thread ≡ Some (Some frame) =
        rw same (slice_get-get_or (slice_set last frame.thread (Some frame)) frame.thread None (omega arith) ∙ ap Some (get_or-set_same last frame.thread (Some frame) None h)) in
        is_passed-from (slice_set last frame.thread (Some frame)) other (Some frame) new
        ∙ meet-here found frame other false (sym e ∙ is_passed-from last frame found old_frame)
        ∙ ap (λ (b : Bool). b || is_earlier other frame) (sym (is_passed-from last other found old_other))
        ∙ ap (λ (b : Bool). is_passed last other || (b && is_earlier other frame)) (sym test)

    there : (other.thread ≡ frame.thread → ⊥)
        → is_passed (slice_set last frame.thread (Some frame)) other ≡ (is_passed last other || ((other.thread == frame.thread) && is_earlier other frame))
    there apart =
        let test : (other.thread == frame.thread) ≡ false = grind (arith, nat_tests) in
        ap (λ (o : Option (Option Frame)). passes (option_and_then (λ latest. latest) o) other) (slice_get-set_other last frame.thread other.thread (Some frame) apart)
        ∙ sym (or_false (is_passed last other))
        ∙ ap (λ (b : Bool). is_passed last other || (b && is_earlier other frame)) (sym test)

-- a late one changes nothing
pub met-late : (last : List (Option Frame)) (frame other : Frame) → frame.thread < length last → is_passed last frame ≡ true
    → is_passed last other ≡ (is_passed last other || ((other.thread == frame.thread) && is_earlier other frame))
met-late last frame other h e =
    ⊎_elim (λ same. here same) (λ apart. there apart) (cases_eq other.thread frame.thread)
  where
    found : Option Frame
    found = get_or last frame.thread None

    here : other.thread ≡ frame.thread → is_passed last other ≡ (is_passed last other || ((other.thread == frame.thread) && is_earlier other frame))
    here same =
        let test : (other.thread == frame.thread) ≡ true = grind (arith, nat_tests) in
        let old_frame : slice_get last frame.thread ≡ Some found = slice_get-get_or last frame.thread None h in
        let old_other : slice_get last other.thread ≡ Some found = rw same old_frame in
        is_passed-from last other found old_other
        ∙ meet-here found frame other true (sym e ∙ is_passed-from last frame found old_frame)
        ∙ ap (λ (b : Bool). b || is_earlier other frame) (sym (is_passed-from last other found old_other))
        ∙ ap (λ (b : Bool). is_passed last other || (b && is_earlier other frame)) (sym test)

    there : (other.thread ≡ frame.thread → ⊥) → is_passed last other ≡ (is_passed last other || ((other.thread == frame.thread) && is_earlier other frame))
    there apart =
        let test : (other.thread == frame.thread) ≡ false = grind (arith, nat_tests) in
        sym (or_false (is_passed last other))
        ∙ ap (λ (b : Bool). is_passed last other || (b && is_earlier other frame)) (sym test)

-- no thread has a latest frame at first
pub none_passed : (n : ℕ) (frame : Frame) → is_passed (replicate n None) frame ≡ false
none_passed n frame =
    ⊎_elim
    (λ inside. is_passed-from (replicate n None) frame None
    (slice_get-get_or (replicate n None) frame.thread None (omega (arith, length-replicate {A = Option Frame} n None)) ∙ ap Some (get_or-replicate n frame.thread None None inside)))
    (λ outside. ap (λ (o : Option (Option Frame)). passes (option_and_then (λ latest. latest) o) frame) (slice_get_past (replicate n None) frame.thread (omega (arith, length-replicate {A = Option Frame} n None))))
    (cases_lt frame.thread n)
