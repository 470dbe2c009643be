-- A player that stands where its log leads it attempts only what is in range, in a trace whose histories stand.
use Rattle.std.proofs.Common.{◌≡◌, ℕ, zero, suc, Option, Some, None, List, [], ◌∷◌, length, length-take, map, take, refl, sym, ap, subst, ◌∙◌, arith}
use Rattle.std.specs.List.{slice_get, AllZip}
use Rattle.std.specs.Option.{option_map}
use Rattle.std.proofs.lemmas.Option.{slice_get_within}
use Rattle.zk_base.specs.declared.ids.Entry.{Entry}
use Rattle.zk_base.specs.declared.ids.Who.{Who}
use Rattle.zk_base.specs.Legal.{Machine, Replays}
use Rattle.zk_scenario.specs.Content.{Content}
use Rattle.zk_scenario.specs.Valid.{IsValid}
use Rattle.zk_worker.specs.declared.steps.Spot.{Spot}
use Rattle.zk_worker.specs.declared.steps.Spot.TheVariants as spots
use Rattle.zk_worker.specs.declared.steps.Step.{Step}
use Rattle.zk_worker.specs.declared.steps.Step.TheVariants as steps
use Rattle.zk_worker.specs.declared.steps.StepReply.{StepReply}
use Rattle.zk_worker.specs.declared.steps.StepReply.TheVariants as step_replies
use Rattle.zk_worker.specs.Attempt.{reply_in}
use Rattle.zk_worker.specs.Families.{entry_at, answer_at}
use Rattle.zk_worker.specs.Follows.{StepMade, Stands, IsPlayed, IsFollowing}
use Rattle.zk_worker.specs.Machines.{machines_of}
use Rattle.zk_worker.specs.Places.{PlayerPlace}
use Rattle.zk_worker.specs.Protocol.{after}
use Rattle.zk_worker.specs.Ranges.{IsFit, ReplyFits, PassesFit}
use Rattle.zk_worker.specs.Shown.{Shown}
use Rattle.zk_worker.specs.Single.{answer_in}
use Rattle.zk_worker.proofs.CheckedSteps.{after-spots}
use Rattle.zk_worker.proofs.FitsStill.{after-fits, start_at-fits}
use Rattle.zk_worker.proofs.PassedChecks.{replied-passes}
use Rattle.zk_worker.proofs.Replied.{replied-fits}
use Rattle.zk_worker.proofs.ShownSteps.{made-of}
use Rattle.zk_worker.proofs.Starts.{start_at-fresh}
use Rattle.zk_trace.specs.declared.trace.Trace.{Trace}
use Rattle.zk_trace.specs.History.{IsAnsweredAt, AreLegal}
use Rattle.zk_trace.specs.Shown.{trace_shown}
use Rattle.zk_failures.proofs.Answered.{answered-at}

-- What an object answers behind the entries before one of its history is what that has.
module _ {S O R : Type 0} (m : Machine S O R) (tell : R → ℕ → StepReply) where
  answers-one : (start : S) (h : List (Entry O R)) (place : ℕ) (e : Entry O R) → Replays m start h → slice_get h place ≡ Some e →
      answer_in m start (take place h) tell e.who e.op ≡ Some (tell e.reply place)
  answers-one start h place e stands there =
      let within = slice_get_within h place e there in
      let long : length (take place h) ≡ place = omega (arith, length-take place h) in
      ap (option_map (λ reply. tell reply (length (take place h)))) (answered-at m start h place e stands there) ∙ ap (λ (n : ℕ). Some (tell e.reply n)) long

  answers-at : (starts : List (Option S)) (hs : List (List (Entry O R))) (object place : ℕ) (e : Entry O R) → AllZip (IsAnsweredAt m) starts hs → entry_at hs object place ≡ Some e →
      answer_at (record { machine = m; starts = starts }) (map (take place) hs) (λ n. tell) e.who object e.op ≡ Some (tell e.reply place)
  answers-at [] [] object place e stand there = absurd (cc)
  answers-at [] (h ∷ hs) object place e stand there = absurd stand
  answers-at (start ∷ starts) [] object place e stand there = absurd stand
  answers-at (None ∷ starts) (h ∷ hs) zero place e stand there = absurd (let nothing = subst (λ (l : List (Entry O R)). slice_get l place ≡ Some e) stand.0 there in cc)
  answers-at (Some start ∷ starts) (h ∷ hs) zero place e stand there = answers-one start h place e stand.0.0 there
  answers-at (start ∷ starts) (h ∷ hs) (suc object) place e stand there = answers-at starts hs object place e stand.1 there

module _ (s : Content) (valid : IsValid s) (t : Trace) (legal : AreLegal s t) where
  -- what fits of a step and its reply
  abbrev MadeFits : StepMade → Type 0
  MadeFits made = ReplyFits s.decls made.1 × PassesFit s.decls made.0 made.1

  -- so it is of what a machine of the scenario answers
  from-reply : (shown : Shown) (who : Who) (step : Step) (reply : StepReply) → reply_in (machines_of s) shown who step ≡ Some reply → MadeFits (step, reply)
  from-reply shown who step reply is =
      (replied-fits s (machines_of s) shown who step reply valid refl is, replied-passes s (machines_of s) shown who step reply refl is)

  from-entry : {E : Type 0} (tell : E → StepMade) (found : Option E) (made : StepMade) → option_map tell found ≡ Some made → ((e : E) → found ≡ Some e → MadeFits (tell e)) → MadeFits made
  from-entry tell found made is each = let it = made-of tell found made is in subst MadeFits it.2 (each it.0 it.1)

  -- and of each step whose entry stands in the trace
  stands-fits : (spot : Spot) (made : StepMade) → Stands (trace_shown t) spot made → MadeFits made
  stands-fits (spots.Work place) made stands = from-entry (λ e. (steps.Work e.op, step_replies.Work e.reply place)) (slice_get t.work place) made stands (λ e there. (tt, tt))
  stands-fits (spots.Clock place) made stands = from-entry (λ e. (steps.Clock e.op, step_replies.Clock e.reply place)) (slice_get t.clock place) made stands (λ e there. (tt, tt))
  stands-fits (spots.Table place) made stands =
      let m = machines_of s in
      from-entry (λ e. (steps.Table e.op, step_replies.Table e.reply place)) (slice_get t.table place) made stands
      (λ e there. from-reply (record (trace_shown t) { table = take place t.table }) e.who (steps.Table e.op) (step_replies.Table e.reply place)
      (answers-one m.table step_replies.Table m.table_start t.table place e legal.table.0 there))
  stands-fits (spots.Sem object place) made stands =
      from-entry (λ e. (steps.Sem object e.op, step_replies.Sem object e.reply place)) (entry_at t.sems object place) made stands (λ e there. (tt, tt))
  stands-fits (spots.Msgq object place) made stands =
      from-entry (λ e. (steps.Msgq object e.op, step_replies.Msgq object e.reply place)) (entry_at t.msgqs object place) made stands (λ e there. (tt, tt))
  stands-fits (spots.Signal object place) made stands =
      from-entry (λ e. (steps.Signal object e.op, step_replies.Signal object e.reply place)) (entry_at t.signals object place) made stands (λ e there. (tt, tt))
  stands-fits (spots.Chan object place) made stands =
      let m = machines_of s in
      from-entry (λ e. (steps.Chan object e.op, step_replies.Chan object e.reply place)) (entry_at t.chans object place) made stands
      (λ e there. from-reply (record (trace_shown t) { chans = map (take place) t.chans }) e.who (steps.Chan object e.op) (step_replies.Chan object e.reply place)
      (answers-at m.chans.machine (step_replies.Chan object) m.chans.starts t.chans object place e legal.chans there))
  stands-fits (spots.Obs object place) made stands =
      let m = machines_of s in
      from-entry (λ e. (steps.Obs object e.op, step_replies.Obs object e.reply place)) (entry_at t.observers object place) made stands
      (λ e there. from-reply (record (trace_shown t) { observers = map (take place) t.observers }) e.who (steps.Obs object e.op) (step_replies.Obs object e.reply place)
      (answers-at m.observers.machine (step_replies.Obs object) m.observers.starts t.observers object place e legal.observers there))
  stands-fits (spots.LookItem item flags at) made stands = subst MadeFits (sym stands) (tt, tt)
  stands-fits (spots.LookSignal object seen) made stands = subst MadeFits (sym stands.1) (tt, tt)

  played-fits : (log : List Spot) (made : List StepMade) (at end : PlayerPlace) → AllZip (Stands (trace_shown t)) log made → IsPlayed s at made end → IsFit s at → IsFit s end
  played-fits [] [] at end stand played fit = subst (IsFit s) played fit
  played-fits [] (x ∷ made) at end stand played fit = absurd stand
  played-fits (spot ∷ log) [] at end stand played fit = absurd stand
  played-fits (spot ∷ log) (x ∷ made) at end stand played fit =
      let told = stands-fits spot x stand.0 in
      played-fits log made (after s at x.0 x.1) end stand.1 played.1 (after-fits s at x.0 x.1 valid fit played.0 told.0 told.1)

  pub followed-fits : (number : ℕ) (at : PlayerPlace) → IsFollowing s number (trace_shown t) at → IsFit s at
  followed-fits number at led = played-fits at.spots led.made led.start at led.stands led.played (start_at-fits s number led.start led.starts)

-- a player stays who it is
played-who : (s : Content) (made : List StepMade) (at end : PlayerPlace) → IsPlayed s at made end → end.who ≡ at.who
played-who s [] at end played = ap (λ (a : PlayerPlace). a.who) (sym played)
played-who s (x ∷ made) at end played = played-who s made (after s at x.0 x.1) end played.1 ∙ (after-spots s at x.0 x.1).0

pub followed-number : (s : Content) (number : ℕ) (shown : Shown) (at : PlayerPlace) → IsFollowing s number shown at → at.who.number ≡ number
followed-number s number shown at led =
    ap (λ (who : Who). who.number) (played-who s led.made led.start at led.played) ∙ (start_at-fresh s number led.start led.starts).number_is
