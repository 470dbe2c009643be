use Rattle.std.specs.Prelude.{List, ℕ}
use Rattle.zk_base.specs.declared.errors.Status.{Status}
use Rattle.zk_base.specs.declared.errors.Status.TheVariants.{Success}
use Rattle.zk_feed.specs.declared.size.FeedSize.{FeedSize}
use Rattle.zk_feed.specs.Output.{IsFeedOutput}

-- the whole output of `feed` that goes with a status, for a size
abbrev pub IsFeedAnswer : FeedSize → Status → List ℕ → Type 0
IsFeedAnswer size Success output = IsFeedOutput size output
IsFeedAnswer size status output = ⊥
