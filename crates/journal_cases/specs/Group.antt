-- The board of an epoch.
use Rattle.std.specs.Prelude.{◌≡◌, ◌<◌, ◌≤◌}
use Rattle.piece_claim.specs.declared.sizes.Sizes.{Sizes}

-- one group of one piece with some sums, and one share
pub record IsGroup (k : Sizes) : Type 0 where
  pub groups : k.groups ≡ 1
  pub some : 0 < k.per_group
  pub few : k.per_group ≤ 1
  pub wide : 0 < k.width
  pub narrow : k.width ≤ 3000
  pub bound : k.bound ≡ 1152921504606846975
  pub shares : k.shares ≡ 1
