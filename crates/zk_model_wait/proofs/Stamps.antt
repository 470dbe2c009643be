-- The stamps of a signal, along a history.
use Rattle.std.proofs.Common.{◌≡◌, ℕ, suc, ◌+◌, Some, List, [], ◌∷◌, ◌++◌, length, map, refl, sym, ap, subst, ◌∙◌, append_assoc, append-nil, arith}
use Rattle.std.specs.List.{slice_get}
use Rattle.std.proofs.lemmas.Option.{same_Some}
use Rattle.circular_buffer.proofs.Places.{slice_get-append_right}
use Rattle.zk_base.specs.declared.ids.Entry.{Entry}
use Rattle.zk_base.specs.declared.seen.Seen.{Seen}
use Rattle.zk_base.specs.History.{IsEntry}
use Rattle.zk_base.specs.Legal.{state_after, Replays}
use Rattle.zk_base.proofs.Histories.{state_after-append, Replays-rest}
use Rattle.zk_model_wait.specs.declared.signal.SignalOp.{SignalOp}
use Rattle.zk_model_wait.specs.declared.signal.SignalReply.{SignalReply}
use Rattle.zk_model_wait.specs.declared.signal.SignalReply.TheVariants.{Stamp}
use Rattle.zk_model_wait.specs.Signal.{Signal, new_signal, written, value_at, signal_reply, signal_next, signal_machine}
use Rattle.zk_model_wait.specs.SignalLaws.{SignalHistory, OfEachSignal, signal_after_all, TellsWrite, StampIsItsNumber, LookTellsItsWrite, LookBeforeAnyWriteIsClear, LookTellsTheLastStamp, MayAlways}
use Rattle.zk_model_wait.proofs.Writes.{value-write}

-- the writes after a history are those before it, and then its own
writes-all : (s : Signal) (h : SignalHistory) →
    (state_after signal_machine s h).writes ≡ s.writes ++ map (λ (e : Entry SignalOp SignalReply). e.op) h
writes-all s [] = sym (append-nil s.writes)
writes-all s (e ∷ es) = writes-all (signal_next s e.who e.op) es
    ∙ append_assoc s.writes (e.op ∷ []) (map (λ (f : Entry SignalOp SignalReply). f.op) es)

counted : (h : SignalHistory) → length (map (λ (e : Entry SignalOp SignalReply). e.op) h) ≡ length h
counted [] = refl
counted (e ∷ es) = let rest = counted es in omega arith

-- there are as many writes as entries
count-all : (h : SignalHistory) → length (signal_after_all h).writes ≡ length h
count-all h = ap length (writes-all new_signal h) ∙ counted h

replied : (h front : SignalHistory) (e : Entry SignalOp SignalReply) → Replays signal_machine new_signal h →
    IsEntry h front e → signal_reply (signal_after_all front) e.who e.op ≡ Some e.reply
replied h front e replays at =
    (Replays-rest signal_machine new_signal front (e ∷ at.rest) (subst (Replays signal_machine new_signal) at.whole replays)).0

pub stamp_is_its_number : OfEachSignal StampIsItsNumber
stamp_is_its_number h legal front e at =
    sym (same_Some (Stamp (length (signal_after_all front).writes + 1)) e.reply (replied h front e legal.0 at))
    ∙ ap (λ (n : ℕ). Stamp (n + 1)) (count-all front)

-- the write of an entry stands at the place of the entry
write-there : (h front : SignalHistory) (e : Entry SignalOp SignalReply) → IsEntry h front e →
    slice_get (signal_after_all h).writes (length front) ≡ Some e.op
write-there h front e at =
    let s = signal_after_all front in
    let rest : List SignalOp = map (λ (f : Entry SignalOp SignalReply). f.op) at.rest in
    let whole : (signal_after_all h).writes ≡ s.writes ++ e.op ∷ rest =
    ap (λ (l : SignalHistory). (signal_after_all l).writes) at.whole
    ∙ ap (λ (t : Signal). t.writes) (state_after-append signal_machine new_signal front (e ∷ at.rest))
    ∙ writes-all s (e ∷ at.rest) in
    let long = count-all front in
    ap (λ (l : List SignalOp). slice_get l (length front)) whole
    ∙ slice_get-append_right s.writes (e.op ∷ rest) (length front) 0 (omega arith)

tells-write : (op own : SignalOp) (stamp : ℕ) (seen : Seen) → op ≡ own → seen ≡ written stamp own → TellsWrite op stamp seen
tells-write op own stamp seen same is = record {
  raised = λ value raise. is ∙ ap (written stamp) (sym same ∙ raise);
  clear = λ clear. is ∙ ap (written stamp) (sym same ∙ clear);
}

pub look_tells_its_write : OfEachSignal LookTellsItsWrite
look_tells_its_write h legal front e at =
    let one : suc (length front) ≡ length front + 1 = omega arith in
    let is : value_at (signal_after_all h).writes (suc (length front)) ≡ written (suc (length front)) e.op =
    value-write (signal_after_all h).writes (length front) e.op (write-there h front e at) in
    subst (λ (n : ℕ). TellsWrite e.op n (value_at (signal_after_all h).writes n)) one
    (tells-write e.op e.op (suc (length front)) (value_at (signal_after_all h).writes (suc (length front))) refl is)

pub look_before_any_write : OfEachSignal LookBeforeAnyWriteIsClear
look_before_any_write h legal = refl

pub look_tells_the_last : OfEachSignal LookTellsTheLastStamp
look_tells_the_last h legal = ap (value_at (signal_after_all h).writes) (count-all h)

pub may_always : OfEachSignal MayAlways
may_always h legal who op = (_, refl)
