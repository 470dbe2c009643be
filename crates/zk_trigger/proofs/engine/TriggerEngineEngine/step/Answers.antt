use Rattle.std.proofs.Common.{◌≡◌, ◌+◌, true, Option, Some, None, is_some, cond, refl, sym, ap, subst, ◌∙◌}
use Rattle.std.proofs.lemmas.Bool.{ltb-true}
use Rattle.zk_model_trigger.specs.declared.ops.TriggerOp.TheVariants as ops
use Rattle.zk_model_trigger.specs.declared.ops.TriggerReply.{TriggerReply}
use Rattle.zk_model_trigger.specs.declared.ops.TriggerReply.TheVariants as replies
use Rattle.zk_model_trigger.specs.Machine.{names_in_range, trigger_reply}
use Rattle.zk_trigger.proofs.Standing.{few-same, stands-post, stands-unpost, stands-tick, stands-cancel, stands-next, stands-idle, stands-arm, told-arm, told-cancel, told-next, events-below, stepped, idle}
use Rattle.zk_trigger.proofs.engine.TriggerEngineEngine.step.Goals as goal

pub returns-in_ok-reply-in-Arm-clause-step : goal.returns-in_ok-reply-in-Arm-clause-step
returns-in_ok-reply-in-Arm-clause-step c = λ s st.
    let r = c.requires.ready in
    let few = few-same c.args.self.now r.0 s r.1 st r.3 in
    let a = c.in-Arm in
    let reply = c.in_ok-reply-in-Arm.reply in
    let below = events-below a.item a.queue a.events a.ticks (subst (λ op. names_in_range op ≡ true) a.is r.2) in
    let is = c.in_ok-reply-in-Arm.ensures.answered in
    stepped s c.args._who c.args.op.now _ reply c.arm.new.self a.is
    (told-arm c.args.self.now c.arm.new.self s c.args._who a.item a.queue a.events a.ticks reply st few below is)
    (stands-arm c.args.self.now c.arm.new.self s c.args._who a.item a.queue a.events a.ticks reply st few below is)

pub returns-in-Post-clause-step : goal.returns-in-Post-clause-step
returns-in-Post-clause-step c = λ s st.
    let r = c.requires.ready in
    let few = few-same c.args.self.now r.0 s r.1 st r.3 in
    let event = c.in-Post.event in
    let within = ltb-true event 64 (subst (λ op. names_in_range op ≡ true) c.in-Post.is r.2) in
    stepped s c.args._who c.args.op.now (ops.Post event) replies.Done c.post.new.self c.in-Post.is refl
    (stands-post c.args.self.now c.post.new.self s c.args._who st few event within c.post.ensures.next c.post.ensures.fired)

pub returns-in-Unpost-clause-step : goal.returns-in-Unpost-clause-step
returns-in-Unpost-clause-step c = λ s st.
    let r = c.requires.ready in
    let few = few-same c.args.self.now r.0 s r.1 st r.3 in
    let event = c.in-Unpost.event in
    let within = ltb-true event 64 (subst (λ op. names_in_range op ≡ true) c.in-Unpost.is r.2) in
    stepped s c.args._who c.args.op.now (ops.Unpost event) replies.Done c.unpost.new.self c.in-Unpost.is refl
    (stands-unpost c.args.self.now c.unpost.new.self s c.args._who st few event within c.unpost.ensures)

pub returns-in-Tick-clause-step : goal.returns-in-Tick-clause-step
returns-in-Tick-clause-step c = λ s st.
    let r = c.requires.ready in
    let few = few-same c.args.self.now r.0 s r.1 st r.3 in
    let ticks = c.in-Tick.ticks in
    let t = c.tick-reply in
    stepped s c.args._who c.args.op.now (ops.Tick ticks) t.result t.new.self c.in-Tick.is
    (ap (λ n. Some (replies.Now (n + ticks))) (sym st.now) ∙ ap Some (sym t.ensures.reply))
    (stands-tick c.args.self.now t.new.self s c.args._who st few ticks t.ensures.small t.ensures.next t.ensures.fired)

pub returns-in-Cancel-clause-step : goal.returns-in-Cancel-clause-step
returns-in-Cancel-clause-step c = λ s st.
    let r = c.requires.ready in
    let few = few-same c.args.self.now r.0 s r.1 st r.3 in
    let item = c.in-Cancel.item in
    let t = c.cancel-reply in
    stepped s c.args._who c.args.op.now (ops.Cancel item) t.result t.new.self c.in-Cancel.is
    (told-cancel c.args.self.now t.new.self s c.args._who st few item t.result t.ensures.reply)
    (stands-cancel c.args.self.now t.new.self s c.args._who st few item t.ensures.next t.ensures.waiting t.ensures.fires)

pub returns-in-None-clause-step : goal.returns-in-None-clause-step
returns-in-None-clause-step c = λ s st.
    let r = c.requires.ready in
    let few = few-same c.args.self.now r.0 s r.1 st r.3 in
    let next = c.next.ensures.next ∙ ap (λ (o : Option TriggerReply). record c.args.self.now {
      entries = c.args.self.now.entries + cond (is_some o) 1 0;
      live = c.next.new.self.live;
    }) c.in-None.is in
    let told : trigger_reply s c.args._who ops.Next ≡ None =
    told-next c.args.self.now c.next.new.self s c.args._who st few ∙ sym c.next.ensures.reply ∙ c.in-None.is in
    idle s c.args._who c.args.op.now ops.Next c.next.new.self c.in-Next.is told
    (stands-idle c.args.self.now c.next.new.self s c.args._who st told next c.next.ensures.waiting c.next.ensures.fires)

pub returns-in-Some-clause-step : goal.returns-in-Some-clause-step
returns-in-Some-clause-step c = λ s st.
    let r = c.requires.ready in
    let few = few-same c.args.self.now r.0 s r.1 st r.3 in
    let reply = c.in-Some.reply in
    let next = c.next.ensures.next ∙ ap (λ (o : Option TriggerReply). record c.args.self.now {
      entries = c.args.self.now.entries + cond (is_some o) 1 0;
      live = c.next.new.self.live;
    }) c.in-Some.is in
    let told : trigger_reply s c.args._who ops.Next ≡ Some reply =
    told-next c.args.self.now c.next.new.self s c.args._who st few ∙ sym c.next.ensures.reply ∙ c.in-Some.is in
    stepped s c.args._who c.args.op.now ops.Next reply c.next.new.self c.in-Next.is told
    (stands-next c.args.self.now c.next.new.self s c.args._who st few reply told next c.next.ensures.waiting c.next.ensures.fires)
