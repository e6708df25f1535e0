-- The bin of a pulse's phase at each sample of a scan. The phase is a delay by entries of its own, without a clock; its units are
-- those of 2^-32 turn of the pulse.
use Rattle.std.specs.Prelude.{ℕ, ◌*◌, ◌/◌, ◌^◌, ℤ, pos, unsigned_abs, List, []}
use Rattle.std.specs.Int.{int_rem_euclid}
use Rattle.delay_poly.specs.declared.entry.PolyEntry.{PolyEntry}
use Rattle.corr_model.specs.Delay.{DelayModel, delay_at}
use Rattle.delay_track.specs.Model.{delay_model}

-- what the phase in a scan depends on: its entries, the second at which the scan starts, the samples in a second, and the
-- samples from one knot to the next
abbrev pub phase_model : List PolyEntry → ℤ → ℕ → ℕ → DelayModel
phase_model phases second rate knot = delay_model phases [] second rate knot

-- how far a phase is past its last whole turn
abbrev pub past_turn : ℤ → ℕ
past_turn phase = unsigned_abs (int_rem_euclid phase (pos (2 ^ 32)))

-- the bin of a phase, where a turn has so many bins, all of one length
unfoldable pub bin_of : ℕ → ℤ → ℕ
bin_of count phase = count * past_turn phase / 2 ^ 32

-- the bin of sample n
abbrev pub bin_at : ℕ → DelayModel → ℕ → ℕ
bin_at count m n = bin_of count (delay_at m n)
