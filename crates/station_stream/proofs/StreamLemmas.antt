-- The values of a stream are those of the part.
use Rattle.std.proofs.Common.{◌≡◌, ℕ, ◌+◌, ◌<◌, ◌≤◌, ℤ, pos, ◌+ℤ◌, ◌-ℤ◌, ◌≤ℤ◌, ◌<ℤ◌, unsigned_abs, Bool, true, false, cond, List, [], length, get_or, Option, None, option_and_then, refl, ap, sym, ◌∙◌, ⊎_elim, arith}
use Rattle.std.proofs.lemmas.Bool.{cases_lt}
use Rattle.std.proofs.lemmas.Int.{ints}
use Rattle.std.proofs.lemmas.List.{get_or_past}
use Rattle.std.proofs.lemmas.Option.{slice_get_past}
use Rattle.corr_model.specs.Cell.{Value}
use Rattle.frame_index.specs.Recording.{Shelved}
use Rattle.job_plan.specs.Values.{is_within}
use Rattle.station_stream.specs.declared.chan.StationChan.{StationChan}
use Rattle.station_stream.specs.declared.part.StationPart.{StationPart}
use Rattle.station_stream.specs.Part.{chan_at, chan_value, part_value}
use Rattle.station_stream.specs.Window.{AreValues}

-- the same either way
cond-same : (b : Bool) (x : Value) → cond b x x ≡ x
cond-same true x = refl
cond-same false x = refl

-- past the station's channels there is no value
part_value-past : (told : Shelved) (p : StationPart) (chan : ℕ) (n : ℤ) → length p.chans.now ≤ chan → part_value told p chan n ≡ None
part_value-past told p chan n past =
    ap (λ (c : Option (Option StationChan)). cond (is_within n p.from p.to) (option_and_then (λ (d : StationChan). chan_value told p d (unsigned_abs n)) (option_and_then (λ d. d) c)) None)
    (slice_get_past p.chans.now chan past)
    ∙ cond-same (is_within n p.from p.to) None

-- the values of a list are those of the part
part_value-values : (told : Shelved) (p : StationPart) (chan from count : ℕ) (begin n : ℤ) (values : List Value)
    → begin ≡ pos from → begin ≤ℤ n → n <ℤ (begin +ℤ pos count)
    → AreValues told p (chan_at p.chans.now chan) from count values
    → get_or values (unsigned_abs (n -ℤ begin)) None ≡ part_value told p chan n
part_value-values told p chan from count begin n values is begun under are =
    let place : pos (from + unsigned_abs (n -ℤ begin)) ≡ n = omega (arith, ints) in
    are (unsigned_abs (n -ℤ begin)) (omega (arith, ints)) ∙ ap (part_value told p chan) place

-- the values of a list of lists, one for each of the station's channels, are those of the part
pub part_value-lists : (told : Shelved) (p : StationPart) (from count : ℕ) (begin end at : ℤ) (lists : List (List Value))
    → at ≡ begin → begin ≡ pos from → begin +ℤ pos count ≡ end → length lists ≡ length p.chans.now
    → ((chan : ℕ) → chan < length p.chans.now → AreValues told p (chan_at p.chans.now chan) from count (get_or lists chan []))
    → (chan : ℕ) (n : ℤ) → begin ≤ℤ n → n <ℤ end
    → get_or (get_or lists chan []) (unsigned_abs (n -ℤ at)) None ≡ part_value told p chan n
part_value-lists told p from count begin end at lists same is ends each are chan n begun under =
    ⊎_elim
    (λ there. ap (λ (b : ℤ). get_or (get_or lists chan []) (unsigned_abs (n -ℤ b)) None) same
    ∙ part_value-values told p chan from count begin n (get_or lists chan []) is begun (omega (arith, ints)) (are chan there))
    (λ past. ap (λ (values : List Value). get_or values (unsigned_abs (n -ℤ at)) None) (get_or_past lists chan [] (omega arith))
    ∙ sym (part_value-past told p chan n past))
    (cases_lt chan (length p.chans.now))
