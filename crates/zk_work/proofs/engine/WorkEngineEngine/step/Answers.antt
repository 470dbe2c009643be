use Rattle.std.proofs.Common.{◌≡◌, ◌<◌, true, Some, option_to_list, sym, subst, ◌∙◌, ap}
use Rattle.zk_base.specs.Limits.{most_entries}
use Rattle.zk_base.specs.Touched.{is_touched}
use Rattle.zk_model_work.specs.declared.ops.WorkReply.{WorkReply}
use Rattle.zk_model_work.specs.Machine.{work_next, is_among}
use Rattle.zk_work.specs.EngineState.{EngineState, IsWhole, StandsFor}
use Rattle.zk_work.specs.Engine.{IsTimely, reply_of, entered, after_reply}
use Rattle.zk_work.proofs.Steps.{refused, stepped, ranges-same}
use Rattle.zk_work.proofs.Untouched.{words-same, word-kept_item, word-kept_told}
use Rattle.zk_work.proofs.engine.WorkEngineEngine.step.Goals as goal

pub operate-requires-clause-whole : goal.operate-requires-clause-whole
operate-requires-clause-whole c = subst IsWhole (sym c.touch.ensures.state) c.requires.ready.1.whole

pub operate-requires-clause-range : goal.operate-requires-clause-range
operate-requires-clause-range c =
    subst (λ (k : EngineState). is_among k.active.items k.active.queues c.args.op.now ≡ true) (sym c.touch.ensures.state)
    (ranges-same c.args.self.now.state c.requires.ready.0 c.args.op.now c.requires.ready.1 ∙ c.requires.ready.2)

pub operate-requires-clause-short : goal.operate-requires-clause-short
operate-requires-clause-short c =
    subst (λ (k : EngineState). k.entries < most_entries) (sym c.touch.ensures.state)
    (subst (λ n. n < most_entries) (sym c.requires.ready.1.entries) c.requires.ready.3)

pub returns-in-None-clause-step : goal.returns-in-None-clause-step
returns-in-None-clause-step c = λ s stands.
    let k = c.args.self.now.state in
    let op = c.args.op.now in
    let said = c.in_ok-operate.ensures in
    let reply = said.reply ∙ ap (λ (k : EngineState). reply_of k c.args.who op) c.touch.ensures.state in
    let next = said.next ∙ ap (λ (k : EngineState). after_reply k c.args.who op c.in_ok-operate.field-0) c.touch.ensures.state in (
      refused k s c.args.who op c.requires.ready stands (sym reply ∙ c.in-None.is),
      subst (λ k. StandsFor k s) (sym (next ∙ ap (after_reply k c.args.who op) c.in-None.is)) stands,
    )

pub returns-in-None-clause-touched : goal.returns-in-None-clause-touched
returns-in-None-clause-touched c = λ s after stands also index within others.
    let k = c.args.self.now.state in
    let op = c.args.op.now in
    let next = c.in_ok-operate.ensures.next
    ∙ ap (λ (k : EngineState). after_reply k c.args.who op c.in_ok-operate.field-0) c.touch.ensures.state in
    let same = next ∙ ap (after_reply k c.args.who op) c.in-None.is in
    words-same k s after index stands (subst (λ k. StandsFor k after) same also)

pub returns-in-Some-clause-step : goal.returns-in-Some-clause-step
returns-in-Some-clause-step c = λ s stands.
    let k = c.args.self.now.state in
    let op = c.args.op.now in
    let said = c.in_ok-operate.ensures in
    let reply = said.reply ∙ ap (λ (k : EngineState). reply_of k c.args.who op) c.touch.ensures.state in
    let next = said.next ∙ ap (λ (k : EngineState). after_reply k c.args.who op c.in_ok-operate.field-0) c.touch.ensures.state in
    let both = stepped k s c.args.who op c.in-Some.reply c.requires.ready stands said.timely (sym reply ∙ c.in-Some.is) in (
      both.0,
      c.copy_of-copy.ensures,
      subst (λ k. StandsFor k (work_next s c.args.who op))
          (sym (c.touch-in-Some.ensures.state ∙ next ∙ ap (after_reply k c.args.who op) c.in-Some.is)) both.1,
    )

pub returns-in-Some-clause-touched : goal.returns-in-Some-clause-touched
returns-in-Some-clause-touched c = λ s after stands also index within others.
    let k = c.args.self.now.state in
    let op = c.args.op.now in
    let said = c.in_ok-operate.ensures in
    let reply = said.reply ∙ ap (λ (k : EngineState). reply_of k c.args.who op) c.touch.ensures.state in
    let next = said.next ∙ ap (λ (k : EngineState). after_reply k c.args.who op c.in_ok-operate.field-0) c.touch.ensures.state in
    let is = sym reply ∙ c.in-Some.is in
    let both = stepped k s c.args.who op c.in-Some.reply c.requires.ready stands said.timely is in
    let same = c.touch-in-Some.ensures.state ∙ next ∙ ap (after_reply k c.args.who op) c.in-Some.is in
    let items = c.touch-in-Some.ensures.touched ∙ ap option_to_list c.touched_item-touched.ensures in
    words-same (entered k c.args.who op) (work_next s c.args.who op) after index both.1 (subst (λ k. StandsFor k after) same also)
    ∙ word-kept_item k s c.args.who op c.in-Some.reply index stands is both.0 c.in_default.not-Announce
    (ap (λ items. is_touched items index) (sym items) ∙ others)

pub returns-in-Announce-clause-step : goal.returns-in-Announce-clause-step
returns-in-Announce-clause-step c = λ s stands.
    let k = c.args.self.now.state in
    let op = c.args.op.now in
    let said = c.in_ok-announce.ensures in
    let timely = subst IsTimely (sym c.in-Announce.is) said.timely in
    let both = stepped k s c.args.who op c.in_ok-announce.field-0.0 c.requires.ready stands timely
    (ap (reply_of k c.args.who) c.in-Announce.is ∙ ap (λ (r : WorkReply). Some r) (sym said.reply)) in (
      both.0,
      said.twice,
      subst (λ k. StandsFor k (work_next s c.args.who op))
          (sym (said.next ∙ ap (entered k c.args.who) (sym c.in-Announce.is))) both.1,
    )

pub returns-in-Announce-clause-touched : goal.returns-in-Announce-clause-touched
returns-in-Announce-clause-touched c = λ s after stands also index within others.
    let k = c.args.self.now.state in
    let op = c.args.op.now in
    let said = c.in_ok-announce.ensures in
    let timely = subst IsTimely (sym c.in-Announce.is) said.timely in
    let reply = c.in_ok-announce.field-0.0 in
    let is = ap (reply_of k c.args.who) c.in-Announce.is ∙ ap (λ (r : WorkReply). Some r) (sym said.reply) in
    let both = stepped k s c.args.who op reply c.requires.ready stands timely is in
    let same = said.next ∙ ap (entered k c.args.who) (sym c.in-Announce.is) in
    words-same (entered k c.args.who op) (work_next s c.args.who op) after index both.1 (subst (λ k. StandsFor k after) same also)
    ∙ word-kept_told k s c.args.who op c.in-Announce.ticks reply index stands is both.0 c.in-Announce.is
    (ap (λ items. is_touched items index) (sym said.touched) ∙ others)

-- where there was no memory nothing has changed
pub returns-in_err-announce-clause-touched : goal.returns-in_err-announce-clause-touched
returns-in_err-announce-clause-touched c = λ s after stands also index within others.
    words-same c.args.self.now.state s after index stands
    (subst (λ k. StandsFor k after) c.in_err-announce.ensures.unchanged also)

pub returns-in_err-operate-clause-touched : goal.returns-in_err-operate-clause-touched
returns-in_err-operate-clause-touched c = λ s after stands also index within others.
    words-same c.args.self.now.state s after index stands
    (subst (λ k. StandsFor k after) (c.in_err-operate.ensures.unchanged ∙ c.touch.ensures.state) also)
