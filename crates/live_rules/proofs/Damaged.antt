-- No damaged state is sound, and each was sound before: proved by computing.
-- Assumes nothing.
use mathlib.Core.Path.{refl}
use Rattle.live_rules.specs.Damaged
use Rattle.live_rules.proofs.Worked.{computing}

pub busy_damaged : Damaged.OneBroken Damaged.busy Damaged.busy_damages
unfolding computing Damaged.packets_of Damaged.live_of Damaged.change Damaged.changed Damaged.busy Damaged.busy_damages
busy_damaged = refl

pub fresh_damaged : Damaged.OneBroken Damaged.fresh Damaged.fresh_damages
unfolding computing Damaged.packets_of Damaged.live_of Damaged.change Damaged.changed Damaged.fresh Damaged.fresh_damages
fresh_damaged = refl

pub deep_damaged : Damaged.OneBroken Damaged.deep Damaged.deep_damages
unfolding computing Damaged.packets_of Damaged.live_of Damaged.change Damaged.changed Damaged.deep Damaged.deep_damages
deep_damaged = refl

pub wide_damaged : Damaged.OneBroken Damaged.wide Damaged.wide_damages
unfolding computing Damaged.packets_of Damaged.live_of Damaged.change Damaged.changed Damaged.up_to Damaged.wide Damaged.wide_damages
wide_damaged = refl
