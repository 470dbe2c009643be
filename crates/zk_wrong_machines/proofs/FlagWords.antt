-- Wrong flag words of an item. Of each a short history, and that what the law says of the word is false of it.
use Rattle.std.proofs.Common.{◌≡◌, refl, arith, ap}
use Rattle.std.specs.Prelude.{◌+◌, Bool, true, false, [], ◌∷◌}
use Rattle.zk_base.specs.History.{entry}
use Rattle.zk_model_work.specs.declared.ops.WorkOp.TheVariants.{FlushStart, Schedule, Reschedule}
use Rattle.zk_model_work.specs.declared.ops.WorkReply.TheVariants as replies
use Rattle.zk_model_work.specs.declared.parts.Life.TheVariants.{Waiting}
use Rattle.zk_model_work.specs.Histories.{WorkEntry}
use Rattle.zk_model_work.specs.Laws.{FlagsTell, flag}
use Rattle.zk_wrong_machines.proofs.Players.{one}
use Rattle.zk_wrong_machines.proofs.WorkQueues.{start, submitted, begun, resubmitted}

-- an item of which one runs and one waits, shown as one that runs alone
pub waiting_hidden_by_the_run-refused : FlagsTell start (submitted ∷ begun ∷ resubmitted ∷ []) 0 1 → ⊥
waiting_hidden_by_the_run-refused tells = no tells.cancelled tells.flushed tells.word where
  no : (c f : Bool) → 1 ≡ flag 1 true + flag 2 c + flag 4 true + flag 8 false + flag 16 f → ⊥
  no true true is = omega (arith, is)
  no true false is = omega (arith, is)
  no false true is = omega (arith, is)
  no false false is = omega (arith, is)

-- the delay of an item that waits too
abbrev pub delayed : WorkEntry
delayed = entry one 1 (Reschedule 0 0 5) replies.Armed

-- an item that waits and is delayed, shown as one that waits alone
pub delay_hidden_by_the_wait-refused : FlagsTell start (submitted ∷ delayed ∷ []) 0 4 → ⊥
delay_hidden_by_the_wait-refused tells = no tells.cancelled tells.flushed tells.word where
  no : (c f : Bool) → 4 ≡ flag 1 false + flag 2 c + flag 4 true + flag 8 true + flag 16 f → ⊥
  no true true is = omega (arith, is)
  no true false is = omega (arith, is)
  no false true is = omega (arith, is)
  no false false is = omega (arith, is)

-- a flush of an item that waits
abbrev pub awaited : WorkEntry
awaited = entry one 1 (FlushStart 0) (replies.WaitFor 0)

-- an item that is being flushed before it runs, shown as one that nobody flushes
pub flush_hidden_before_the_run-refused : FlagsTell start (submitted ∷ awaited ∷ []) 0 4 → ⊥
flush_hidden_before_the_run-refused tells = no tells.cancelled tells.flushed (ap (flag 16) flushed) tells.word where
  flushed : tells.flushed ≡ true
  flushed = tells.while_flushed.1 (record {
    number = 0;
    a = record { item = 0; queue = 0; life = Waiting };
    told = refl;
    there = refl;
    same = refl;
    goes_on = refl;
  })

  no : (c f : Bool) → flag 16 f ≡ 16 → 4 ≡ flag 1 false + flag 2 c + flag 4 true + flag 8 false + flag 16 f → ⊥
  no true f sixteen is = omega (arith, is, sixteen)
  no false f sixteen is = omega (arith, is, sixteen)

-- a delay alone
abbrev pub armed : WorkEntry
armed = entry one 0 (Schedule 0 0 5) replies.Armed

-- an item that is delayed, shown as one that waits
pub delay_shown_as_a_wait-refused : FlagsTell start (armed ∷ []) 0 4 → ⊥
delay_shown_as_a_wait-refused tells = no tells.cancelled tells.flushed tells.word where
  no : (c f : Bool) → 4 ≡ flag 1 false + flag 2 c + flag 4 false + flag 8 true + flag 16 f → ⊥
  no true true is = omega (arith, is)
  no true false is = omega (arith, is)
  no false true is = omega (arith, is)
  no false false is = omega (arith, is)

-- an item that nobody submitted, shown as one that waits since another of its queue does
pub wait_of_another_shown-refused : FlagsTell start (submitted ∷ []) 1 4 → ⊥
wait_of_another_shown-refused tells = no tells.cancelled tells.flushed tells.word where
  no : (c f : Bool) → 4 ≡ flag 1 false + flag 2 c + flag 4 false + flag 8 false + flag 16 f → ⊥
  no true true is = omega (arith, is)
  no true false is = omega (arith, is)
  no false true is = omega (arith, is)
  no false false is = omega (arith, is)
