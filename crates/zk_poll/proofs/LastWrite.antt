-- The last entry of a signal's history tells what a look finds.
use Rattle.std.proofs.Common.{◌≡◌, suc, ◌+◌, ◌-◌, Some, List, [], ◌∷◌, length, sym, ap, ◌∙◌, arith}
use Rattle.std.specs.List.{slice_get}
use Rattle.std.proofs.lemmas.Option.{same_Some}
use Rattle.zk_base.specs.declared.ids.Entry.{Entry}
use Rattle.zk_base.specs.Legal.{state_after, Replays}
use Rattle.zk_model_wait.specs.declared.signal.SignalOp.{SignalOp}
use Rattle.zk_model_wait.specs.declared.signal.SignalReply.{SignalReply}
use Rattle.zk_model_wait.specs.declared.signal.SignalReply.TheVariants.{Stamp}
use Rattle.zk_model_wait.specs.Signal.{Signal, signal_reply, signal_next, signal_seen, signal_machine}
use Rattle.zk_model_wait.proofs.Writes.{seen-next}
use Rattle.zk_poll.specs.Seen.{left_as, left_by}

-- an entry that is answered as the machine does leaves what a look finds after it
one-write : (s : Signal) (e : Entry SignalOp SignalReply) → signal_reply s e.who e.op ≡ Some e.reply →
    left_by e ≡ signal_seen (signal_next s e.who e.op)
one-write s e replied =
    let told : Stamp (length s.writes + 1) ≡ e.reply = same_Some (Stamp (length s.writes + 1)) e.reply replied in
    ap (left_as e.op) (sym told) ∙ sym (seen-next s e.who e.op)

pub last-write : (s : Signal) (h : List (Entry SignalOp SignalReply)) (e : Entry SignalOp SignalReply) →
    Replays signal_machine s h → Some e ≡ slice_get h (length h - 1) → left_by e ≡ signal_seen (state_after signal_machine s h)
last-write s [] e replays is = absurd (cc)
last-write s (f ∷ []) e replays is = ap left_by (same_Some e f is) ∙ one-write s f replays.0
last-write s (f ∷ g ∷ gs) e replays is =
    let here : length (f ∷ g ∷ gs) - 1 ≡ suc (length gs) = omega arith in
    let there : length gs ≡ length (g ∷ gs) - 1 = omega arith in
    last-write (signal_next s f.who f.op) (g ∷ gs) e replays.1 (is ∙ ap (slice_get (f ∷ g ∷ gs)) here
    ∙ ap (slice_get (g ∷ gs)) there)
