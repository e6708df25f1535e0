-- The pieces of an epoch: each product and baseline is a group, and each group is cut in order.
use Rattle.std.specs.Prelude.{ℕ, ◌*◌, ◌<◌, List, map, flat_map}
use Rattle.std.specs.List.{range_with_len}
use Rattle.piece_plan.specs.declared.epoch.EpochPlan.{EpochPlan}
use Rattle.piece_plan.specs.declared.piece.Piece.{Piece}
use Rattle.piece_plan.specs.Parts.{Range, part_count, parts}
use Rattle.piece_plan.specs.Epochs.{IsOfPlan}

-- an epoch, and after how many samples each of its groups is cut
pub record PieceSizes : Type 0 where
  pub epoch : EpochPlan
  pub piece : ℕ

pub record IsCut (s : PieceSizes) : Type 0 where
  pub epoch : IsOfPlan s.epoch
  pub piece : 0 < s.piece

-- one group for each product and baseline
abbrev pub group_count : PieceSizes → ℕ
group_count s = s.epoch.products * s.epoch.baselines

-- the pieces of one group
abbrev pub per_group : PieceSizes → ℕ
per_group s = part_count s.epoch.from s.epoch.to s.piece

abbrev pub piece_of : ℕ → ℕ → Range → Piece
piece_of product baseline r = record {
  product = product;
  baseline = baseline;
  from = r.from;
  to = r.to;
}

unfoldable pub group_pieces : PieceSizes → ℕ → ℕ → List Piece
group_pieces s product baseline = map (piece_of product baseline) (parts s.epoch.from s.epoch.to s.piece)

unfoldable pub product_pieces : PieceSizes → ℕ → List Piece
product_pieces s product = flat_map (group_pieces s product) (range_with_len 0 s.epoch.baselines)

-- the pieces in the order product, baseline, samples
unfoldable pub pieces_of : PieceSizes → List Piece
pieces_of s = flat_map (product_pieces s) (range_with_len 0 s.epoch.products)
