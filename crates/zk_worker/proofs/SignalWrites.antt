-- The writes that the state of a signal has after a history.
use Rattle.std.proofs.Common.{◌≡◌, List, [], ◌∷◌, ◌++◌, sym, ap, ◌∙◌}
use Rattle.std.proofs.lemmas.List.{append-nil, append_assoc}
use Rattle.zk_base.specs.declared.ids.Entry.{Entry}
use Rattle.zk_base.specs.Legal.{state_after}
use Rattle.zk_model_wait.specs.declared.signal.SignalOp.{SignalOp}
use Rattle.zk_model_wait.specs.declared.signal.SignalReply.{SignalReply}
use Rattle.zk_model_wait.specs.Signal.{Signal, new_signal, signal_seen, signal_next, signal_machine}
use Rattle.zk_worker.specs.Looks.{writes_of, seen_after}

writes-after : (s : Signal) (h : List (Entry SignalOp SignalReply)) → state_after signal_machine s h ≡ record { writes = s.writes ++ writes_of h }
writes-after s [] = ap (λ (w : List SignalOp). record { writes = w }) (sym (append-nil s.writes))
writes-after s (e ∷ h) =
    writes-after (signal_next s e.who e.op) h
    ∙ ap (λ (w : List SignalOp). record { writes = w }) (append_assoc s.writes (e.op ∷ []) (writes_of h))

-- what the signal's machine has a look find after a history is what the history says
pub seen-state : (start : Signal) (h : List (Entry SignalOp SignalReply)) → start ≡ new_signal →
    signal_seen (state_after signal_machine start h) ≡ seen_after h
seen-state start h fresh =
    ap signal_seen (ap (λ (s : Signal). state_after signal_machine s h) fresh ∙ writes-after new_signal h)
