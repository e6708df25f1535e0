use Rattle.std.proofs.Common.{◌≡◌, ◌<◌, ℕ, true, List, length, get_or, refl, arith, w8, Fits}
use Rattle.std.specs.Simd.Lanes.{Each1}
use Rattle.std.proofs.lemmas.Simd.{Each1-get_or}
use Rattle.packed_values.specs.Tables.{are_signs}
use Rattle.packed_values.proofs.Lanes.{is_lane, place_of, turns-fit, places-fit, components-are}
use Rattle.packed_values.proofs.Tables.{places-hold}
use Rattle.packed_values.specs.declared.codes.TheConstants.{LEVELS}
use Rattle.packed_values.proofs.codes.components.Goals as goal

-- the places of a vector of codes in the levels
lanes : (codes signs : List ℕ) → length codes ≡ 32 → Each1 (Fits w8) codes → are_signs signs ≡ true
    → (k : ℕ) → k < 32 → is_lane (place_of signs (get_or codes k 0)) ≡ true
lanes codes signs long fits are k lt = places-hold signs are (get_or codes k 0) (Each1-get_or (Fits w8) codes k 0 (omega (arith, lt, long)) fits).fits

pub swizzle-turn : goal.swizzle-turn
swizzle-turn c = turns-fit c.args.codes c.args.signs.now c.twice.result c.requires.codes (omega arith) c.twice.ensures

pub swizzle-level : goal.swizzle-level
swizzle-level c =
    places-fit c.args.codes c.args.signs.now c.twice.result c.requires.codes (omega arith) c.twice.ensures
    (lanes c.args.codes c.args.signs.now c.requires.codes c.fits-codes.1 c.requires.signs)

pub returns : goal.returns
returns c =
    components-are c.args.codes c.args.signs.now c.twice.result c.requires.codes (omega arith) c.twice.ensures
    (lanes c.args.codes c.args.signs.now c.requires.codes c.fits-codes.1 c.requires.signs) LEVELS c.twice-2.result c.args.bias refl c.twice-2.ensures
