use Rattle.std.proofs.Common.{ℕ, Option, sym, ap, ◌∙◌}
use Rattle.zk_words.specs.declared.word.Word.TheVariants.{Poll}
use Rattle.zk_worker.specs.declared.frames.Progress.TheVariants.{Goes}
use Rattle.zk_worker.specs.declared.frames.Stage.{Stage}
use Rattle.zk_worker.specs.Polls.{asks_more, marked}
use Rattle.zk_worker.proofs.Moving.{goes-done}
use Rattle.zk_worker.proofs.PollMoves.{poll-unbegun, poll-asks, poll-marked}
use Rattle.zk_worker.proofs.polls.poll_further.Goals as goal

pub returns-in_default-clause-done : goal.returns-in_default-clause-done
returns-in_default-clause-done c =
    goes-done _ _ _ _ (poll-unbegun Poll c.args.timeout c.args.events.now c.args.stage.now c.args.made.now c.args.reply.now c.in_default.not-Polls)

pub returns-then-asks-clause-done : goal.returns-then-asks-clause-done
returns-then-asks-clause-done c =
    let events = c.args.events.now in
    let was = c.in-Polls in
    let mark = c.mark_of.result in
    let place = c.event_of-place.result in
    let marks = marked was.marks place mark in
    let more = ap (λ (p : Option ℕ). asks_more events (marked was.marks p mark)) c.event_of-place.ensures
    ∙ sym (c.asks_on-asks.ensures was.alarm c.args.made.now mark c.mark_of.ensures.asked) ∙ c.if-asks.true in
    let stands = c.put_alarm.ensures was.alarm marks (c.put_mark.ensures was.alarm was.marks was.is) in
    poll-marked _ Poll c.args.timeout events was.alarm c.alarm_after-alarm.result was.marks place mark c.args.made.now c.args.reply.now _ _ _ _ _
    was.is c.event_of-place.ensures c.mark_of.ensures.mark c.alarm_after-alarm.ensures
    (goes-done _ _ _ _ (poll-asks Poll c.args.timeout events c.alarm_after-alarm.result marks more ∙ ap (λ (s : Stage). Goes s) (sym stands)))

pub returns-clause-done : goal.returns-clause-done
returns-clause-done c =
    let events = c.args.events.now in
    let was = c.in-Polls in
    let mark = c.mark_of.result in
    let place = c.event_of-place.result in
    let marks = marked was.marks place mark in
    let none = ap (λ (p : Option ℕ). asks_more events (marked was.marks p mark)) c.event_of-place.ensures
    ∙ sym (c.asks_on-asks.ensures was.alarm c.args.made.now mark c.mark_of.ensures.asked) ∙ c.if-asks.false in
    let stands = c.put_alarm.ensures was.alarm marks (c.put_mark.ensures was.alarm was.marks was.is) in
    poll-marked _ Poll c.args.timeout events was.alarm c.alarm_after-alarm.result was.marks place mark c.args.made.now c.args.reply.now _ _ _ _ _
    was.is c.event_of-place.ensures c.mark_of.ensures.mark c.alarm_after-alarm.ensures
    (c.close_poll.ensures.done events c.alarm_after-alarm.result marks stands none)
