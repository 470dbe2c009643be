-- The replies of the clock are of their operations.
use Rattle.std.proofs.Common.{◌≡◌, ◌+◌, inl, inr, Some, List, sym, subst}
use Rattle.std.specs.List.{AllByRecursion}
use Rattle.std.proofs.lemmas.Option.{same_Some, cond_some}
use Rattle.zk_base.specs.declared.ids.Who.{Who}
use Rattle.zk_base.specs.declared.ids.Entry.{Entry}
use Rattle.zk_base.specs.Legal.{Replays}
use Rattle.zk_line.specs.declared.types.Decl.{Decl}
use Rattle.zk_model_wait.specs.declared.clock.ClockOp.{ClockOp}
use Rattle.zk_model_wait.specs.declared.clock.ClockOp.TheVariants as ops
use Rattle.zk_model_wait.specs.declared.clock.ClockReply.{ClockReply}
use Rattle.zk_model_wait.specs.declared.clock.ClockReply.TheVariants.{Now, At, Due}
use Rattle.zk_model_wait.specs.Clock.{Clock, new_clock, is_due, clock_reply, clock_machine}
use Rattle.zk_trace.specs.Clock.{said_of, reply_parts}
use Rattle.zk_trace.specs.ClockRead.{AnswersTo}
use Rattle.zk_trace.specs.Sized.{AreSized}
use Rattle.zk_trace.proofs.Kept.{answers-along, of-any}

module _ (decls : List Decl) where
  -- it is of its operation, if its numbers are within their types
  abbrev Says : ClockOp → ClockReply → Type 0
  Says op r = AreSized (reply_parts r) → AnswersTo decls (said_of op).0 r

  says : (c : Clock) (who : Who) (op : ClockOp) (r : ClockReply) → Unit {0} → Unit {0} → clock_reply c who op ≡ Some r → Says op r
  says c who (ops.Announce ticks) r kept fits is = subst (Says (ops.Announce ticks)) (same_Some (Now (c.time + ticks)) r is) (λ sized. inr sized.1.0)
  says c who (ops.Alarm ticks) r kept fits is = subst (Says (ops.Alarm ticks)) (same_Some (At (c.time + ticks)) r is) (λ sized. inr sized.1.0)
  says c who (ops.AlarmEnd moment) r kept fits is = λ sized. inl (inl (sym (cond_some (is_due c.time c.alarms who.number moment) Due r is).1))

  -- each reply of a history is of its operation
  pub clock-answers : (h : List (Entry ClockOp ClockReply)) → Replays clock_machine new_clock h →
      AllByRecursion (λ e. AreSized (reply_parts e.reply) → AnswersTo decls (said_of e.op).0 e.reply) h
  clock-answers h replays =
      answers-along clock_machine (λ c. Unit {0}) (λ op. Unit {0}) Says says (λ c who op kept fits. tt) new_clock h tt replays (of-any h)
