use Rattle.std.proofs.Common.{◌≡◌, ℕ, List, true, false, ap, subst, sym, ◌∙◌}
use Rattle.zk_msgsub.specs.Fan.{are_subscribers, is_in}
use Rattle.zk_msgsub.proofs.Subscribers.{subscribers-push, subscribers-room}
use Rattle.zk_msgsub.proofs.fan_state.FanState.add.Goals as goal

pub push-requires : goal.push-requires
push-requires c = subscribers-room c.self.inside.listed c.args.number c.self.invariant c.requires.range
    (ap (λ (l : List ℕ). is_in l c.args.number) (sym c.numbers.ensures.same) ∙ sym c.is_in.ensures ∙ c.if-is_in.false)

pub invariant_of-self : goal.invariant_of-self
invariant_of-self c =
    let none : is_in c.self.inside.listed c.args.number ≡ false =
    ap (λ (l : List ℕ). is_in l c.args.number) (sym c.numbers.ensures.same) ∙ sym c.is_in.ensures ∙ c.if-is_in.false in
    subst (λ (l : List ℕ). are_subscribers l ≡ true) (sym c.push.ensures)
    (subscribers-push c.self.inside.listed c.args.number c.self.invariant c.requires.range none)
