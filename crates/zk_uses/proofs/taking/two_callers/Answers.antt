use Rattle.std.proofs.Common.{[], ◌∷◌}
use Rattle.zk_uses.proofs.taking.two_callers.Goals as goal

pub last_caller-other-requires : goal.last_caller-other-requires
last_caller-other-requires g c = (c.args.first ∷ [], c.requires)

pub last_caller-one-requires : goal.last_caller-one-requires
last_caller-one-requires g c = ([], c.last_caller-other.ensures.others (c.args.first ∷ []) c.requires)
