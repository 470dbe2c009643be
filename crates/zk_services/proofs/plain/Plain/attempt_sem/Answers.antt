use Rattle.std.proofs.Common.{◌≡◌, ℕ, false, sym, subst, refl, ◌<◌, List, length, rules, ap}
use Rattle.std.specs.Option.{option_map}
use Rattle.zk_base.specs.Limits.{most_entries}
use Rattle.zk_base.specs.declared.ids.Entry.{Entry}
use Rattle.zk_base.proofs.Lists.{All-at}
use Rattle.zk_model_wait.specs.declared.sem.SemOp.{SemOp}
use Rattle.zk_model_wait.specs.declared.sem.SemReply.{SemReply}
use Rattle.zk_sem.specs.Seen.{sem_history}
use Rattle.zk_worker.proofs.Between.{above-sems}
use Rattle.zk_worker.specs.declared.steps.Step.TheVariants as steps
use Rattle.zk_worker.specs.declared.steps.StepReply.TheVariants as step_replies
use Rattle.zk_services.specs.Alone.{plain_machines, plain_shown}
use Rattle.zk_services.specs.Objects.{histories_of}
use Rattle.zk_model_wait.specs.Sem.{sem_closes}
use Rattle.zk_worker.specs.Families.{closes_at}
use Rattle.zk_services.proofs.Among.{attempted-at, when-wanted}
use Rattle.zk_services.proofs.plain.Plain.attempt_sem.Goals as goal

pub act_at-requires-clause-later : goal.act_at-requires-clause-later
act_at-requires-clause-later c = λ h there.
    above-sems (plain_shown c.args.self.now) c.args.who.number c.args.number c.args.object h there c.requires.later

pub act_at-requires-clause-short : goal.act_at-requires-clause-short
act_at-requires-clause-short c = λ h there.
    let P : List (Entry SemOp SemReply) → Type 0 = λ h. length h < most_entries in
    All-at P (plain_shown c.args.self.now).sems c.args.object h c.requires.short.sems there

pub returns-clause-attempted : goal.returns-clause-attempted
returns-clause-attempted c =
    let old = plain_shown c.args.self.now in
    let object = c.args.object in
    let op = c.args.op.now in
    let made = c.in_ok-made in
    let told : option_map (λ (m : SemReply × ℕ). step_replies.Sem object m.0 m.1) made.made ≡ c.map.result = search rules in
    attempted-at (plain_machines c.args.self.now) c.args.who c.args.number object op (steps.Sem object op) (step_replies.Sem object) old
    (λ hs. record old { sems = hs }) old.sems refl refl (λ r place. refl)
    (histories_of sem_history c.act_at.new.objects.items) made.made _ _ (made.ensures.made step_replies.Sem) made.ensures.entry refl told

pub returns-in_err-made-clause-elsewhere : goal.returns-in_err-made-clause-elsewhere
returns-in_err-made-clause-elsewhere c = ap (λ hs. record (plain_shown c.args.self.now) { sems = hs }) c.act_at.ensures.others

pub returns-clause-elsewhere : goal.returns-clause-elsewhere
returns-clause-elsewhere c = ap (λ hs. record (plain_shown c.args.self.now) { sems = hs }) c.act_at.ensures.others

pub returns-in_err-made-clause-memory : goal.returns-in_err-made-clause-memory
returns-in_err-made-clause-memory c =
    when-wanted c.from_residual.result _
    (subst (λ hs. closes_at (λ s who op. sem_closes op) (plain_machines c.args.self.now).sems hs c.args.who c.args.object c.args.op.now ≡ false) (sym c.in_err-made.ensures.err) c.in_err-made.ensures.memory)
