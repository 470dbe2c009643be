use Rattle.std.proofs.Common.{◌≡◌, true, List, ℕ, subst, sym}
use Rattle.zk_msgsub.specs.Fan.{are_subscribers}
use Rattle.zk_msgsub.proofs.Subscribers.{subscribers-filter}
use Rattle.zk_msgsub.proofs.fan_state.FanState.remove.Goals as goal

pub invariant_of-self : goal.invariant_of-self
invariant_of-self c = subst (λ (l : List ℕ). are_subscribers l ≡ true) (sym c.without-self-inside.ensures)
    (subscribers-filter _ c.self.inside.listed c.self.invariant)
