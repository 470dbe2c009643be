-- Inner: no contract of a top call is made of this file.
-- Callers of a shared service.
use Rattle.std.specs.Prelude.{◌≡◌, ℕ, zero, suc, ◌≤◌, Option, Some, None, Result, Ok, Err, IfOk, List, [], ◌∷◌, length}
use Rattle.zk_base.specs.declared.ids.Who.{Who}
use Rattle.zk_base.specs.declared.ids.Entry.{Entry}
use Rattle.zk_base.specs.Legal.{Machine}
use Rattle.zk_model_wait.specs.Clock as model
use Rattle.zk_model_wait.specs.declared.clock.ClockOp.{ClockOp}
use Rattle.zk_model_wait.specs.declared.clock.ClockOp.TheVariants.{Announce}
use Rattle.zk_model_wait.specs.declared.clock.ClockReply.{ClockReply}
use Rattle.zk_model_work.specs.declared.ops.WorkOp.{WorkOp}
use Rattle.zk_model_work.specs.declared.ops.WorkOp.TheVariants.{Submit, Cancel}
use Rattle.zk_model_work.specs.declared.ops.WorkReply.{WorkReply}
use Rattle.zk_model_work.specs.Machine.{work_machine}
use Rattle.zk_model_work.specs.State.{State}
use Rattle.zk_time.specs.declared.clock.Clock.{Clock}
use Rattle.zk_time.specs.ClockSeen.{clock_start}
use Rattle.zk_work.specs.declared.work.Work.{Work}
use Rattle.zk_work.specs.Seen.{work_start}
use Rattle.zk_turn.specs.declared.cell.Cell.{Cell}
use Rattle.zk_turn.specs.declared.pass.Pass.{Pass}
use Rattle.zk_turn.specs.Calls.{IsEntered, IsImpossible}
use Rattle.zk_turn.specs.Passes.{IsNewPass, given_to, pass_holds, pass_seen}
use Rattle.zk_turn.specs.Players.{GoesOn}
use Rattle.zk_uses.specs.declared.often.Caller.{Caller}

-- two callers have each a new pass of this cell
pub record AreNew {S O R T : Type 0} (legal : T → List (Entry O R) → Type 0)
    (start_of : S → T) (cell : Cell S O R T) (first second : Caller S O R T) : Type 0 where
  pub one : IsNewPass legal start_of cell first.who first.pass
  pub other : IsNewPass legal start_of cell second.who second.pass

-- each call was made, where all went well, and else no more than these
abbrev pub AreMade : {A E : Type 0} → ℕ → ℕ → Result A E → Type 0
AreMade times made (Ok done) = made ≡ times
AreMade times made (Err e) = made ≤ times

-- the players of a pass had so many turns, where all went well
abbrev pub HadTurns : {S O R T A E : Type 0} → ℕ → Result A E → Pass S O R T → Type 0
HadTurns turns result pass = IfOk result (λ done. pass_holds pass ≡ turns)

-- one call and another in turn
abbrev pub in_turn : {O : Type 0} → O × O → ℕ → O
in_turn ops zero = ops.0
in_turn ops (suc n) = in_turn (ops.1, ops.0) n

module _ {T O R : Type 0} (m : Machine T O R) (start : T) (who : Who) (op_at : ℕ → O) where
  -- the calls of a player that had these answers, the latest first, led from no entry to this history: step n was the call `op_at n`
  abbrev pub AreAnswered : List (Option (R × ℕ)) → List (Entry O R) → Type 0
  AreAnswered [] history = history ≡ []
  AreAnswered (Some made ∷ earlier) history = (before : List (Entry O R)) × AreAnswered earlier before
      × IsEntered m start who (length earlier) (op_at (length earlier)) made.0 made.1 before history
  AreAnswered (None ∷ earlier) history = (before : List (Entry O R)) × AreAnswered earlier before
      × IsImpossible m start who (length earlier) (op_at (length earlier)) before history

  -- a player has made its calls, which have answers, and since the last of them others alone came to this history
  pub record HaveCalled {A E : Type 0} (times : ℕ) (result : Result A E) (history : List (Entry O R)) : Type 0 where
    pub answers : List (Option (R × ℕ))
    pub seen : List (Entry O R)
    pub answered : AreAnswered answers seen
    pub since : GoesOn (who ∷ []) seen history
    pub made : AreMade times (length answers) result

-- a player has submitted item 0 to queue 0 so often, has let a tick pass so often, has submitted item 0 and cancelled it in turn
abbrev pub HasSubmitted : {A E : Type 0} → Cell Work WorkOp WorkReply State → Who → ℕ →
    Pass Work WorkOp WorkReply State × Result A E → Type 0
HasSubmitted cell who times made =
    HaveCalled work_machine (work_start (given_to cell)) who (λ step. Submit 0 (Some 0)) times made.1 (pass_seen made.0)

abbrev pub HasTicked : {A E : Type 0} → Cell Clock ClockOp ClockReply model.Clock → Who → ℕ →
    Pass Clock ClockOp ClockReply model.Clock × Result A E → Type 0
HasTicked cell who times made =
    HaveCalled model.clock_machine (clock_start (given_to cell)) who (λ step. Announce 1) times made.1 (pass_seen made.0)

abbrev pub HasSubmittedAndCancelled : {A E : Type 0} → Cell Work WorkOp WorkReply State → Who → ℕ →
    Pass Work WorkOp WorkReply State × Result A E → Type 0
HasSubmittedAndCancelled cell who times made =
    HaveCalled work_machine (work_start (given_to cell)) who (in_turn (Submit 0 (Some 0), Cancel 0)) times made.1
    (pass_seen made.0)
