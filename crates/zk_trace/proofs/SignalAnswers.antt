-- The replies of a signal are of their operations.
use Rattle.std.proofs.Common.{◌≡◌, inr, Some, List}
use Rattle.std.specs.List.{AllByRecursion}
use Rattle.zk_base.specs.declared.ids.Who.{Who}
use Rattle.zk_base.specs.declared.ids.Entry.{Entry}
use Rattle.zk_base.specs.Legal.{Replays}
use Rattle.zk_line.specs.declared.types.Decl.{Decl}
use Rattle.zk_model_wait.specs.declared.signal.SignalOp.{SignalOp}
use Rattle.zk_model_wait.specs.declared.signal.SignalReply.{SignalReply}
use Rattle.zk_model_wait.specs.declared.signal.SignalReply.TheVariants.{Stamp}
use Rattle.zk_model_wait.specs.Signal.{Signal, signal_reply, signal_machine}
use Rattle.zk_trace.specs.Signal.{said_of, reply_parts}
use Rattle.zk_trace.specs.SignalRead.{AnswersTo}
use Rattle.zk_trace.specs.Sized.{AreSized}
use Rattle.zk_trace.proofs.Kept.{answers-along, of-any}

module _ (decls : List Decl) where
  -- it is of its operation, if its number is within its type
  abbrev Says : SignalOp → SignalReply → Type 0
  Says op r = AreSized (reply_parts r) → AnswersTo decls (said_of op).0 r

  says : (s : Signal) (who : Who) (op : SignalOp) (r : SignalReply) → Unit {0} → Unit {0} → signal_reply s who op ≡ Some r → Says op r
  says s who op (Stamp stamp) kept fits is = λ sized. inr sized.0

  -- each reply of a history is of its operation
  pub signal-answers : (start : Signal) (h : List (Entry SignalOp SignalReply)) → Replays signal_machine start h →
      AllByRecursion (λ e. AreSized (reply_parts e.reply) → AnswersTo decls (said_of e.op).0 e.reply) h
  signal-answers start h replays =
      answers-along signal_machine (λ s. Unit {0}) (λ op. Unit {0}) Says says (λ s who op kept fits. tt) start h tt replays (of-any h)
