use Rattle.std.proofs.Common.{◌≡◌, ◌-◌, List, length, ap, subst, ◌∙◌}
use Rattle.std.specs.List.{slice_get}
use Rattle.zk_base.specs.declared.ids.Entry.{Entry}
use Rattle.zk_base.specs.Legal.{state_after}
use Rattle.zk_base.specs.RecordedView.{RecordedView}
use Rattle.zk_model_wait.specs.declared.signal.SignalOp.{SignalOp}
use Rattle.zk_model_wait.specs.declared.signal.SignalReply.{SignalReply}
use Rattle.zk_model_wait.specs.Signal.{Signal, signal_seen, signal_machine}
use Rattle.zk_poll.specs.Seen.{signal_start, signal_history}
use Rattle.zk_poll.proofs.LastWrite.{last-write}
use Rattle.zk_poll.proofs.signal.Signal.seen.Goals as goal

pub returns-in-Some-clause-seen : goal.returns-in-Some-clause-seen
returns-in-Some-clause-seen c =
    let inner = c.self.inside.inner in
    let Found : RecordedView Signal SignalOp SignalReply → Type 0 = λ shown.
    c.left_by.result ≡ signal_seen (state_after signal_machine (signal_start shown) (signal_history shown)) in
    let here : Found inner = c.left_by.ensures
    ∙ last-write inner.start inner.history c.in-Some.entry.now c.history.ensures.legal.0
    (c.in-Some.ensures.value
    ∙ ap (λ (h : List (Entry SignalOp SignalReply)). slice_get h (length h - 1)) c.history.ensures.history) in
    subst Found c.self.view_is here
