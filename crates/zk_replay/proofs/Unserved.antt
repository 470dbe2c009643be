-- Where a run has come to its end, nobody has served whoever waits.
use Rattle.std.proofs.Common.{◌≡◌, ℕ, zero, suc, ◌+◌, Bool, true, false, not, cond, Option, Some, None, List, [], ◌∷◌, length, refl, sym, ap, subst, ◌∙◌}
use Rattle.std.specs.List.{slice_get}
use Rattle.std.specs.Option.{option_map, option_and_then}
use Rattle.zk_base.specs.declared.ids.Who.{Who}
use Rattle.zk_base.specs.declared.ids.Entry.{Entry}
use Rattle.zk_base.specs.Legal.{state_after}
use Rattle.zk_base.specs.Waits.{decision_of}
use Rattle.zk_model_wait.specs.declared.clock.ClockOp.TheVariants as clock_ops
use Rattle.zk_model_wait.specs.declared.clock.ClockReply.{ClockReply}
use Rattle.zk_model_wait.specs.declared.sem.SemOp.TheVariants as sem_ops
use Rattle.zk_model_wait.specs.declared.msgq.MsgqOp.TheVariants as msgq_ops
use Rattle.zk_model_wait.specs.Clock.{new_clock, clock_reply, clock_machine}
use Rattle.zk_model_bus.specs.declared.channel.ChanOp.TheVariants as chan_ops
use Rattle.zk_model_bus.specs.declared.observer.ObsOp.TheVariants as obs_ops
use Rattle.zk_model_bus.specs.Channel.{Channel}
use Rattle.zk_model_bus.specs.Observer.{Observer}
use Rattle.zk_model_wait.specs.Sem.{Sem}
use Rattle.zk_model_wait.specs.Msgq.{Msgq}
use Rattle.zk_worker.specs.declared.steps.Step.{Step}
use Rattle.zk_worker.specs.declared.steps.Step.TheVariants as steps
use Rattle.zk_worker.specs.declared.steps.StepReply.{StepReply}
use Rattle.zk_worker.specs.declared.steps.StepReply.TheVariants as step_replies
use Rattle.zk_base.specs.declared.seen.Seen.{Seen}
use Rattle.zk_scenario.specs.Content.{Content}
use Rattle.zk_worker.specs.Places.{PlayerPlace}
use Rattle.zk_worker.specs.Single.{answer_in}
use Rattle.zk_worker.specs.Families.{Family, start_of, answer_at}
use Rattle.zk_worker.specs.Protocol.{attempts, IsAhead}
use Rattle.zk_worker.specs.Machines.{Machines, machines_of}
use Rattle.zk_worker.specs.Shown.{Shown}
use Rattle.zk_worker.specs.Attempt.{reply_in}
use Rattle.zk_worker.specs.Looks.{look_reply, look_at, looks_at, found_by, seen_after}
use Rattle.zk_worker.specs.Choosing.{or_else, first_possible, chosen}
use Rattle.zk_worker.proofs.ShownSteps.{whole-after}
use Rattle.zk_world.specs.World.{World, stepped, is_spent, first}
use Rattle.zk_replay.specs.RoundRobin.{turn, turn_of, turns, rounds, IsRun}
use Rattle.zk_replay.specs.Laws.{NoneIsServed}
use Rattle.zk_replay.proofs.OneRun.{none_goes_on}

-- where no attempt is possible, each isn't
each-impossible : (m : Machines) (shown : Shown) (who : Who) (ahead : List Step) (k : ℕ) (step : Step) → first_possible m shown who ahead ≡ None →
    slice_get ahead k ≡ Some step → reply_in m shown who step ≡ None
each-impossible m shown who [] k step none there = absurd (cc)
each-impossible m shown who (x ∷ xs) k step none there = by_answer (reply_in m shown who x) refl k there none (each-impossible m shown who xs)
  where
    by_answer : (answer : Option StepReply) → reply_in m shown who x ≡ answer → (k : ℕ) → slice_get (x ∷ xs) k ≡ Some step → or_else x answer (first_possible m shown who xs) ≡ None →
        ((k : ℕ) (step : Step) → first_possible m shown who xs ≡ None → slice_get xs k ≡ Some step → reply_in m shown who step ≡ None) → reply_in m shown who step ≡ None
    by_answer (Some reply) is k there none further = absurd (cc)
    by_answer None is zero there none further = let same : x ≡ step = cc in subst (λ (y : Step). reply_in m shown who y ≡ None) same is
    by_answer None is (suc k) there none further = further k step none there

nothing-mapped : {A B : Type 0} (f : A → B) (o : Option A) → option_map f o ≡ None → o ≡ None
nothing-mapped f None is = refl
nothing-mapped f (Some a) is = absurd (cc)

-- what an object doesn't answer, its machine doesn't after its history
object-none : {S O R : Type 0} (family : Family S O R) (hs : List (List (Entry O R))) (tell : ℕ → R → ℕ → StepReply) (who : Who) (object : ℕ) (op : O) (start : S) (h : List (Entry O R)) →
    start_of family object ≡ Some start → slice_get hs object ≡ Some h → answer_at family hs tell who object op ≡ None →
    family.machine.reply_of (state_after family.machine start h) who op ≡ None
object-none family hs tell who object op start h starts there none =
    let one : answer_at family hs tell who object op ≡ answer_in family.machine start h (tell object) who op =
    ap (option_and_then (λ start. option_and_then (λ h. answer_in family.machine start h (tell object) who op) (slice_get hs object))) starts
    ∙ ap (option_and_then (λ h. answer_in family.machine start h (tell object) who op)) there in
    nothing-mapped (λ reply. tell object reply (length h)) (family.machine.reply_of (state_after family.machine start h) who op) (sym one ∙ none)

module _ (m : Machines) (s : Content) where
  -- whole histories are shown along a run
  whole-stepped : (w : World) (p : ℕ) (at : PlayerPlace) (made : Option (Step × StepReply)) → w.shown.looks ≡ None →
      (stepped s w p at made).shown.looks ≡ None
  whole-stepped w p at None whole = whole
  whole-stepped w p at (Some made) whole = whole-after w.shown at.who (length at.spots) made.0 made.1 whole

  whole-turn_of : (w : World) (p : ℕ) (at : Option PlayerPlace) → w.shown.looks ≡ None → (turn_of m s w p at).shown.looks ≡ None
  whole-turn_of w p None whole = whole
  whole-turn_of w p (Some at) whole = whole-stepped w p at (chosen m s w.shown at) whole

  whole-turn : (w : World) (p : ℕ) (spent : Bool) → w.shown.looks ≡ None →
      (cond spent w (turn_of m s w p (slice_get w.players p))).shown.looks ≡ None
  whole-turn w p true whole = whole
  whole-turn w p false whole = whole-turn_of w p (slice_get w.players p) whole

  whole-turns : (w : World) (n p : ℕ) → w.shown.looks ≡ None → (turns m s w n p).shown.looks ≡ None
  whole-turns w zero p whole = whole
  whole-turns w (suc n) p whole = whole-turns (turn m s w p) n (p + 1) (whole-turn w p (is_spent s w) whole)

  whole-rounds : (w : World) (n : ℕ) → w.shown.looks ≡ None → (rounds m s n w).shown.looks ≡ None
  whole-rounds w zero whole = whole
  whole-rounds w (suc n) whole =
      let before = rounds m s n w in whole-turns before (length before.players) 0 (whole-rounds w n whole)

  whole-run : (w : World) → IsRun m s w → w.shown.looks ≡ None
  whole-run w run = subst (λ (v : World). v.shown.looks ≡ None) (sym run.1) (whole-rounds (first s) run.0 refl)

-- a look that must find a signal raised and finds nothing, finds it clear
not-raised : (seen : Seen) → look_reply true seen ≡ None → seen.raised ≡ false
not-raised seen none = by_mark seen.raised refl none where
  by_mark : (raised : Bool) → seen.raised ≡ raised → look_reply true seen ≡ None → seen.raised ≡ false
  by_mark false is none = is
  by_mark true is none =
      let found : look_reply true seen ≡ Some (step_replies.Seen seen) =
      ap (λ (b : Bool). cond (not b) None (Some (step_replies.Seen seen))) is in absurd (cc)

pub none_is_served : NoneIsServed
none_is_served s w run unspent player at is = record {
  takes = λ object place sem ahead stands.
      subst (λ (x : Sem). decision_of x.takers at.who.number place ≡ None) (sym stands.4)
      (object-none (machines_of s).sems w.shown.sems step_replies.Sem at.who object (sem_ops.TakeEnd place) stands.0 stands.1 stands.2 stands.3
      (impossible (steps.Sem object (sem_ops.TakeEnd place)) ahead));
  puts = λ object place queue ahead stands.
      subst (λ (x : Msgq). decision_of x.puts at.who.number place ≡ None) (sym stands.4)
      (object-none (machines_of s).msgqs w.shown.msgqs step_replies.Msgq at.who object (msgq_ops.PutEnd place) stands.0 stands.1 stands.2 stands.3
      (impossible (steps.Msgq object (msgq_ops.PutEnd place)) ahead));
  gets = λ object place queue ahead stands.
      subst (λ (x : Msgq). decision_of x.gets at.who.number place ≡ None) (sym stands.4)
      (object-none (machines_of s).msgqs w.shown.msgqs step_replies.Msgq at.who object (msgq_ops.GetEnd place) stands.0 stands.1 stands.2 stands.3
      (impossible (steps.Msgq object (msgq_ops.GetEnd place)) ahead));
  claims = λ object place channel ahead stands.
      subst (λ (x : Channel). decision_of x.waits at.who.number place ≡ None) (sym stands.4)
      (object-none (machines_of s).chans w.shown.chans step_replies.Chan at.who object (chan_ops.ClaimEnd place) stands.0 stands.1 stands.2 stands.3
      (impossible (steps.Chan object (chan_ops.ClaimEnd place)) ahead));
  sub_takes = λ object place observer ahead stands.
      subst (λ (x : Observer). decision_of x.takers at.who.number place ≡ None) (sym stands.4)
      (object-none (machines_of s).observers w.shown.observers step_replies.Obs at.who object (obs_ops.TakeEnd place) stands.0 stands.1 stands.2 stands.3
      (impossible (steps.Obs object (obs_ops.TakeEnd place)) ahead));
  sem_polls = λ object place sem ahead stands.
      subst (λ (x : Sem). decision_of x.pollers at.who.number place ≡ None) (sym stands.4)
      (object-none (machines_of s).sems w.shown.sems step_replies.Sem at.who object (sem_ops.PollEnd place) stands.0 stands.1 stands.2 stands.3
      (impossible (steps.Sem object (sem_ops.PollEnd place)) ahead));
  msgq_polls = λ object place queue ahead stands.
      subst (λ (x : Msgq). decision_of x.pollers at.who.number place ≡ None) (sym stands.4)
      (object-none (machines_of s).msgqs w.shown.msgqs step_replies.Msgq at.who object (msgq_ops.PollEnd place) stands.0 stands.1 stands.2 stands.3
      (impossible (steps.Msgq object (msgq_ops.PollEnd place)) ahead));
  signals = λ object h ahead shows.
      let read : look_at w.shown.looks w.shown.signals object true ≡ look_reply true (seen_after h) =
      ap (λ (o : Option (List (List Seen))). look_at o w.shown.signals object true) (whole-run (machines_of s) s w run)
      ∙ ap (option_and_then (λ h. option_and_then (look_reply true) (found_by (looks_at None object) h))) shows in
      not-raised (seen_after h) (sym read ∙ impossible (steps.LookSignal object true) ahead);
  alarms = λ moment ahead.
      nothing-mapped (λ (reply : ClockReply). step_replies.Clock reply (length w.shown.clock)) (clock_reply (state_after clock_machine new_clock w.shown.clock) at.who (clock_ops.AlarmEnd moment))
      (impossible (steps.Clock (clock_ops.AlarmEnd moment)) ahead);
}
  where
    impossible : (step : Step) → IsAhead s at step → reply_in (machines_of s) w.shown at.who step ≡ None
    impossible step ahead = each-impossible (machines_of s) w.shown at.who (attempts s at) ahead.0 step (none_goes_on s w run unspent player at is) ahead.1
