-- What is posted for a piece: the three numbers of each of its cells, the first two with a bias that makes them numbers without
-- a sign.
use Rattle.std.specs.Prelude.{◌≡◌, ℕ, ◌+◌, ◌*◌, ◌-◌, pos, ◌+ℤ◌, unsigned_abs, List, [], ◌∷◌, Option, flat_map, slice_get}
use Rattle.std.specs.Option.{option_map_or}
use Rattle.std.specs.List.{All}
use Rattle.corr_model.specs.declared.cell.Cell.{Cell}
use Rattle.corr_model.specs.declared.cell.Pair.{Pair}
use Rattle.piece_claim.specs.declared.sizes.Sizes.{Sizes}
use Rattle.piece_claim.specs.State.{Piece as Finished}
use Rattle.piece_plan.specs.declared.epoch.EpochPlan.{EpochPlan}
use Rattle.piece_plan.specs.declared.piece.Piece.{Piece}
use Rattle.piece_plan.specs.Pieces.{PieceSizes, pieces_of, per_group}
use Rattle.bit_planes.specs.Planes.{PlanesFields}
use Rattle.epoch_run.specs.Planes.{planed}
use Rattle.epoch_run.specs.Binned.{PhaseFields, bins_of, bin_by, bin_cells, bin_cells_in_epoch}

-- what the workers of an epoch read: the planes of its stations' channels, the pair of each group, the scan's length, the epoch, the
-- most samples in a piece, and the phase by whose bins the sums are sorted
pub record WorkFields : Type 0 where
  pub planes : List (List PlanesFields)
  pub pairs : List Pair
  pub samples : ℕ
  pub epoch : EpochPlan
  pub piece : ℕ
  pub phase : Option PhaseFields

-- how many cells a group has
abbrev pub cells_of : WorkFields → ℕ
cells_of w = bins_of w.phase * w.epoch.lags

-- those of a pair over a range of samples
abbrev pub cells_over : WorkFields → ℕ → ℕ → Pair → List Cell
cells_over w = bin_cells (bin_by w.phase) (bins_of w.phase) (planed w.planes) w.samples w.epoch.lags

-- the sums of the epoch
abbrev pub work_cells : WorkFields → List Cell
work_cells w = bin_cells_in_epoch (planed w.planes) w.pairs w.samples w.epoch (bin_by w.phase) (bins_of w.phase)

-- no pair of values adds more than 450 to a sum or takes more from it, for their components are at most 15
abbrev pub bias_of : ℕ → ℕ
bias_of samples = 450 * samples

abbrev pub amounts_in : ℕ → Cell → List ℕ
amounts_in bias c = unsigned_abs (c.re +ℤ pos bias) ∷ unsigned_abs (c.im +ℤ pos bias) ∷ c.count ∷ []

-- those of the samples from `from` up to, not including, `to` of a pair
abbrev pub pair_amounts : WorkFields → ℕ → ℕ → Pair → List ℕ
pair_amounts w from to pair = flat_map (amounts_in (bias_of (to - from))) (cells_over w from to pair)

-- the epoch's pieces
abbrev pub cut_of : WorkFields → PieceSizes
cut_of w = record { epoch = w.epoch; piece = w.piece }

-- those of a piece: its group's pair over its samples
abbrev pub piece_amounts : WorkFields → Piece → List ℕ
piece_amounts w p = option_map_or (pair_amounts w p.from p.to) (slice_get w.pairs (p.product * w.epoch.baselines + p.baseline)) []

-- those of piece n, counted through all groups
abbrev pub amounts_of : WorkFields → ℕ → List ℕ
amounts_of w n = option_map_or (piece_amounts w) (slice_get (pieces_of (cut_of w)) n) []

-- the sizes of the epoch's board but for its shares: a group for each product and baseline, three sums for each cell, and room
-- for the amounts of the longest piece
pub record IsBoardOf (w : WorkFields) (k : Sizes) : Type 0 where
  pub groups : k.groups ≡ w.epoch.products * w.epoch.baselines
  pub per_group : k.per_group ≡ per_group (cut_of w)
  pub width : k.width ≡ 3 * cells_of w
  pub bound : k.bound ≡ 900 * w.piece

-- each of these finished pieces has its amounts
abbrev pub HaveAmounts : WorkFields → List Finished → Type 0
HaveAmounts w finished = All (λ (p : Finished). p.amounts ≡ amounts_of w p.number) finished
