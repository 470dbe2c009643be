use Rattle.std.proofs.Common.{ℕ, ◌∙◌, Some, length, sym, ap}
use Rattle.zk_worker.specs.declared.steps.StepReply.TheVariants as step_replies
use Rattle.zk_work.specs.Seen.{work_start, work_history}
use Rattle.zk_services.proofs.LookedAt.{there-read, flags-told}
use Rattle.zk_services.proofs.plain.Plain.look_at_item.Goals as goal

pub returns : goal.returns
returns c = λ who.
    let self = c.args.self.now in
    let there = there-read self.items.items c.deref.result.now c.args.object c.in-Some-Some.field-0.now (Some c.in-Some-Some.item) c.deref.ensures.value
    c.in-Some-Some.ensures.lookup.0 c.in-Some-Some.ensures.lookup.1 c.in-Some-Some.field-0-is in
    flags-told (work_start self.work) (work_history self.work) self.items.items c.args.object c.in-Some-Some.item c.word-flags.result there c.requires c.word-flags.ensures.word
    ∙ ap (λ (n : ℕ). Some (step_replies.Flags c.word-flags.result n)) (ap length (sym c.history.ensures.history))
