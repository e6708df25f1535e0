-- The delay models and the clocks of a sample's stations.
use Rattle.std.proofs.Common.{◌≡◌, ◌+◌, ◌/◌, ◌≤◌, ◌<◌, ℕ, zero, suc, Bool, true, List, [], ◌∷◌, Some, refl, sym, ap, ◌∙◌, subst, arith}
use Rattle.std.specs.Prelude.{ℤ, pos, unsigned_abs, ◌-ℤ◌, ◌*ℤ◌}
use Rattle.std.specs.List.{list_all, range_with_len}
use Rattle.std.proofs.lemmas.Bool.{le-leb}
use Rattle.entry_list.specs.Latest.{in_force}
use Rattle.delay_poly.specs.declared.entry.PolyEntry.{PolyEntry}
use Rattle.station_clock.specs.declared.entry.ClockEntry.{ClockEntry}
use Rattle.corr_model.specs.Delay.{DelayModel, is_modelled, is_clocked, poly_at, clock_of, has_model, has_clock, knot_before}
use Rattle.sample_job.proofs.Said.{begin}

-- a test that each number of a range passes
all-range : (p : ℕ → Bool) (a n : ℕ) → ((k : ℕ) → a ≤ k → k < a + n → p k ≡ true) → list_all p (range_with_len a n) ≡ true
all-range p a zero h = refl
all-range p a (suc n) h =
    let here : p a ≡ true = h a (omega arith) (omega arith) in
    let more : list_all p (range_with_len (a + 1) n) ≡ true = all-range p (a + 1) n (λ k from to. h k (omega arith) (omega arith)) in
    rw (here, more) refl

-- the model of a station
abbrev pub model_with : List PolyEntry → List ClockEntry → DelayModel
model_with polys clocks = record { polys = polys; clocks = clocks; start = begin; rate = 160000; knot = 1000 }

plus-zero : (n : ℕ) → n + 0 ≡ n
plus-zero n = omega arith

in-force : (e : PolyEntry) (n : ℕ) → e.second ≡ begin → poly_at (model_with (e ∷ []) []) n ≡ Some e
unfolding poly_at in_force
in-force e n same =
    rw (same, le-leb 1262304000 (1262304000 + n / 160000) (omega arith)) refl

knot-is : (e : PolyEntry) (n : ℕ) → e.second ≡ begin → knot_before (model_with (e ∷ []) []) e n ≡ n / 1000
knot-is e n same =
    ap (λ (t : ℤ). unsigned_abs (pos n -ℤ (t -ℤ begin) *ℤ pos 160000) / 1000) same ∙ ap (λ m. m / 1000) (plus-zero n)

-- A polynomial from the begin of 2010 on is in force at each sample of a scan that begins there, and its knots are few.
modelled : (e : PolyEntry) (n : ℕ) → e.second ≡ begin → n < 16000000 → is_modelled (model_with (e ∷ []) []) n ≡ true
unfolding is_modelled
modelled e n same few =
    let small : knot_before (model_with (e ∷ []) []) e n + 1 ≤ 16777216 = subst (λ m. m + 1 ≤ 16777216) (sym (knot-is e n same)) (omega arith) in
    rw (in-force e n same) (le-leb (knot_before (model_with (e ∷ []) []) e n + 1) 16777216 small)

modelled-none : (clocks : List ClockEntry) (n : ℕ) → is_modelled (model_with [] clocks) n ≡ true
unfolding is_modelled
modelled-none clocks n = refl

clocked-none : (polys : List PolyEntry) (n : ℕ) → is_clocked (model_with polys []) n ≡ true
unfolding is_clocked
clocked-none polys n = refl

clocked : (c : ClockEntry) (n : ℕ) → c.second ≡ begin → is_clocked (model_with [] (c ∷ [])) n ≡ true
unfolding is_clocked poly_at clock_of in_force
clocked c n same = rw same refl

-- the same of all samples of a scan
pub has-poly : (e : PolyEntry) (samples : ℕ) → e.second ≡ begin → samples ≤ 16000000 → has_model (model_with (e ∷ []) []) samples ≡ true
has-poly e samples same few =
    all-range (is_modelled (model_with (e ∷ []) [])) 0 samples (λ k from to. modelled e k same (omega arith))

pub has-no_poly : (clocks : List ClockEntry) (samples : ℕ) → has_model (model_with [] clocks) samples ≡ true
has-no_poly clocks samples = all-range (is_modelled (model_with [] clocks)) 0 samples (λ k from to. modelled-none clocks k)

pub has-clock : (c : ClockEntry) (samples : ℕ) → c.second ≡ begin → has_clock (model_with [] (c ∷ [])) samples ≡ true
has-clock c samples same = all-range (is_clocked (model_with [] (c ∷ []))) 0 samples (λ k from to. clocked c k same)

pub has-no_clock : (polys : List PolyEntry) (samples : ℕ) → has_clock (model_with polys []) samples ≡ true
has-no_clock polys samples = all-range (is_clocked (model_with polys [])) 0 samples (λ k from to. clocked-none polys k)
