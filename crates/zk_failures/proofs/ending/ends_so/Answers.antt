use Rattle.std.proofs.Common.{◌≡◌, ◌↔◌, ◌∙◌, IsTrue, Bool, true, false, not, refl, sym, ap, subst, rules}
use denote.Enum.Bare.{sameb, same_true}
use Rattle.std.proofs.lemmas.Bool.{false≢true}
use Rattle.std.proofs.lemmas.Result.{IfOk-weaker}
use Rattle.zk_worker.specs.Machines.{machines_of}
use Rattle.zk_worker.specs.Shown.{AreShort}
use Rattle.zk_services.specs.Alone.{plain_machines, plain_shown}
use Rattle.zk_trace.specs.contracts.trace.Ending.{the_type}
use Rattle.zk_trace.specs.declared.trace.Ending.TheVariants.{Spent}
use Rattle.zk_trace.specs.Ending.{EndsSo}
use Rattle.zk_trace.specs.Shown.{trace_shown}
use Rattle.zk_failures.specs.CanStep.{EachCanTry, NoneSteps}
use Rattle.zk_failures.proofs.PlacedFew.{placed-short}
use Rattle.zk_failures.proofs.Endings.{can-try, ends-decided}
use Rattle.zk_failures.proofs.ending.ends_so.Goals as goal

not-false : (b : Bool) → not b ≡ false → b ≡ true
not-false true is = refl
not-false false is = absurd (cc)

pub none_steps-requires-clause-can_try : goal.none_steps-requires-clause-can_try
none_steps-requires-clause-can_try c =
    let s = c.args.scenario.now in
    let t = c.args.trace.now in
    let players = c.args.players.now in
    subst (λ x. EachCanTry (plain_machines c.args.services.now) s x players) (sym c.requires.shown)
    (subst (λ m. EachCanTry m s (trace_shown t) players) (sym c.requires.machines)
    (can-try s t c.decls-valid.ensures.valid c.requires.placed c.requires.legal players c.requires.players))

pub none_steps-requires-clause-short : goal.none_steps-requires-clause-short
none_steps-requires-clause-short c =
    subst AreShort (sym c.requires.shown) (placed-short c.args.scenario.now c.args.trace.now c.decls-valid.ensures.valid c.requires.form c.requires.placed)

pub returns : goal.returns
returns c =
    let s = c.args.scenario.now in
    let t = c.args.trace.now in
    let m = plain_machines c.args.services.now in
    let shown = plain_shown c.args.services.now in
    let players = c.args.players.now in
    let same : t.ending ≡ c.ending_of.result = same_true the_type (search rules) _ _ (not-false (sameb the_type t.ending c.ending_of.result) (sym c.ne.ensures ∙ c.if-ne.false)) in
    let ends = same ∙ c.ending_of.ensures in
    let unspent : t.ending ≡ Spent → ⊥ = λ is. false≢true (sym c.if-eq.false ∙ c.eq.ensures ∙ ap (λ e. sameb the_type e Spent) is) in
    IfOk-weaker c.none_steps.result (NoneSteps m s shown players) (λ so. IsTrue so ↔ EndsSo s t)
    (λ so halted. ends-decided s t players ends c.requires.players unspent so
    (subst (λ x. NoneSteps (machines_of s) s x players so) c.requires.shown (subst (λ n. NoneSteps n s shown players so) c.requires.machines halted)))
    c.none_steps.ensures
