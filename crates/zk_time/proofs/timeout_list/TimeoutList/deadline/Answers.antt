use Rattle.std.proofs.Common.{◌≡◌, ◌-◌, ℕ, Some, List, length, take, drop, sym, ap, ◌∙◌, arith}
use Rattle.std.specs.List.{position}
use Rattle.std.proofs.lemmas.List.{take_rest}
use Rattle.std.proofs.lemmas.List.Sums.{sum_by-take-drop}
use Rattle.zk_time.specs.declared.arm.Arm.{Arm}
use Rattle.zk_time.specs.Deltas.{is_arm_of, span}
use Rattle.zk_time.proofs.Looks.{deadline_none, deadline_some}
use Rattle.zk_time.proofs.timeout_list.TimeoutList.deadline.Goals as goal

-- the arms from the place on
rest : (read arms : List Arm) (index : ℕ) → read ≡ arms →
    span (take (length read - index) (drop index read)) ≡ span (drop index arms)
rest read arms index same = ap span (take_rest read index) ∙ ap (λ (l : List Arm). span (drop index l)) same

pub returns-in_err-index : goal.returns-in_err-index
returns-in_err-index c =
    let none = ap (position (is_arm_of c.args.item)) (sym c.deref.ensures.value) ∙ sym c.place_of.ensures ∙ c.in_err-index.was in
    c.from_residual.ensures ∙ sym (deadline_none _ c.self.inside.arms.items c.args.self.now c.args.item c.self.view_is none)

pub span-requires : goal.span-requires
span-requires c =
    let index = c.in_ok-index.index in
    let same = rest c.deref-2.result.now c.self.inside.arms.items index c.deref-2.ensures.value in
    let whole = sum_by-take-drop (λ (a : Arm). a.delta) c.self.inside.arms.items index in
    omega (arith, same, whole, c.self.invariant.fits)

pub returns : goal.returns
returns c =
    let found = ap (position (is_arm_of c.args.item)) (sym c.deref.ensures.value) ∙ sym c.place_of.ensures ∙ c.in_ok-index.was in
    let same = c.span.ensures ∙ rest c.deref-2.result.now c.self.inside.arms.items c.in_ok-index.index c.deref-2.ensures.value in
    ap (λ (n : ℕ). Some n) same
    ∙ deadline_some _ c.self.inside.arms.items c.args.self.now c.args.item c.in_ok-index.index c.self.view_is
    c.self.invariant found
