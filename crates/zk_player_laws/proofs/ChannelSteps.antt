-- Each step of a call that uses a channel, by the stage that it is made at and what it is replied.
use Rattle.std.proofs.Common.{◌≡◌, ℕ, zero, suc, Bool, true, false, Some, List, [], ◌∷◌, refl, subst, ◌∙◌}
use Rattle.std.specs.List.{slice_get}
use Rattle.zk_base.specs.declared.ids.Who.{Who}
use Rattle.zk_base.proofs.Lists.{slice_get-one}
use Rattle.zk_scenario.specs.Content.{Content}
use Rattle.zk_model_bus.specs.declared.channel.ChanOp.{ChanOp}
use Rattle.zk_model_bus.specs.declared.channel.ChanOp.TheVariants as ops
use Rattle.zk_model_bus.specs.declared.channel.ChanReply.{ChanReply}
use Rattle.zk_model_bus.specs.declared.observer.ObsOp.TheVariants as obs_ops
use Rattle.zk_model_bus.specs.declared.observer.ObsReply.{ObsReply}
use Rattle.zk_model_wait.specs.declared.clock.ClockOp.{ClockOp}
use Rattle.zk_model_wait.specs.declared.clock.ClockOp.TheVariants as clock_ops
use Rattle.zk_model_wait.specs.declared.clock.ClockReply.{ClockReply}
use Rattle.zk_words.specs.declared.timeout.Timeout.{Timeout}
use Rattle.zk_words.specs.declared.timeout.Timeout.TheVariants.{No, Forever, Ticks}
use Rattle.zk_worker.specs.declared.steps.Step.{Step}
use Rattle.zk_worker.specs.declared.steps.Step.TheVariants as steps
use Rattle.zk_worker.specs.declared.steps.StepReply.{StepReply}
use Rattle.zk_worker.specs.declared.steps.StepReply.TheVariants as step_replies
use Rattle.zk_worker.specs.declared.frames.Using.{Using}
use Rattle.zk_worker.specs.declared.frames.Using.TheVariants.{Publish, Notify, Read}
use Rattle.zk_worker.specs.declared.frames.Stage.{Stage}
use Rattle.zk_worker.specs.declared.frames.Stage.TheVariants as stages
use Rattle.zk_worker.specs.Waits.{open_step, end_step, quit_step, first_step}
use Rattle.zk_worker.specs.Publishes.{asks_for, use_step, visit_step, channel_attempts}
use Rattle.zk_player_laws.specs.StackLaws.{ChanHistories, IsReplied, clock_may_tell}
use Rattle.zk_player_laws.proofs.OwnEntries.{HasReplied, told-by}

-- the operation by which a call asks for its channel
abbrev pub asking_op : Using → Bool → ChanOp
asking_op (Publish message) waits = ops.Offer message waits
asking_op Notify waits = ops.Enter waits
asking_op Read waits = ops.Enter waits

-- and the one that it first does with it
abbrev pub use_op : Using → ChanOp
use_op (Publish message) = ops.Set message
use_op Notify = ops.List
use_op Read = ops.Get

pub asks-so : (chan : ℕ) (using_ : Using) (waits : Bool) → steps.Chan chan (asking_op using_ waits) ≡ open_step (asks_for chan using_) waits
asks-so chan (Publish message) waits = refl
asks-so chan Notify waits = refl
asks-so chan Read waits = refl

pub ends-so : (chan : ℕ) (using_ : Using) (place : ℕ) → steps.Chan chan (ops.ClaimEnd place) ≡ end_step (asks_for chan using_) place
ends-so chan (Publish message) place = refl
ends-so chan Notify place = refl
ends-so chan Read place = refl

pub quits-so : (chan : ℕ) (using_ : Using) (place : ℕ) → steps.Chan chan (ops.ClaimQuit place) ≡ quit_step (asks_for chan using_) place
quits-so chan (Publish message) place = refl
quits-so chan Notify place = refl
quits-so chan Read place = refl

uses-so : (chan : ℕ) (using_ : Using) → steps.Chan chan (use_op using_) ≡ use_step chan using_
uses-so chan (Publish message) = refl
uses-so chan Notify = refl
uses-so chan Read = refl

-- what holds after each step of such a call that is replied, by what held before it
pub record EachStep (s : Content) (chans : ChanHistories) (who : Who) (chan : ℕ) (using_ : Using) (Before : Stage → Type 0) (After : Stage → Step → StepReply → Type 0) : Type 0 where
  pub asks : (waits : Bool) (r : ChanReply) (place : ℕ) → Before stages.Start → HasReplied s chans who chan (asking_op using_ waits) (step_replies.Chan chan r place) →
      After stages.Start (steps.Chan chan (asking_op using_ waits)) (step_replies.Chan chan r place)
  pub sets_alarm : (ticks : ℕ) (r : ClockReply) (place : ℕ) → Before stages.Start → clock_may_tell (clock_ops.Alarm ticks) r ≡ true →
      After stages.Start (steps.Clock (clock_ops.Alarm ticks)) (step_replies.Clock r place)
  pub asks_alarmed : (moment : ℕ) (r : ChanReply) (place : ℕ) → Before (stages.Alarmed moment) → HasReplied s chans who chan (asking_op using_ true) (step_replies.Chan chan r place) →
      After (stages.Alarmed moment) (steps.Chan chan (asking_op using_ true)) (step_replies.Chan chan r place)
  pub ends_wait : (p : ℕ) (r : ChanReply) (place : ℕ) → Before (stages.Waits p) → HasReplied s chans who chan (ops.ClaimEnd p) (step_replies.Chan chan r place) →
      After (stages.Waits p) (steps.Chan chan (ops.ClaimEnd p)) (step_replies.Chan chan r place)
  pub ends_until : (p moment : ℕ) (r : ChanReply) (place : ℕ) → Before (stages.WaitsUntil p moment) → HasReplied s chans who chan (ops.ClaimEnd p) (step_replies.Chan chan r place) →
      After (stages.WaitsUntil p moment) (steps.Chan chan (ops.ClaimEnd p)) (step_replies.Chan chan r place)
  pub ends_alarm : (p moment : ℕ) (r : ClockReply) (place : ℕ) → Before (stages.WaitsUntil p moment) →
      After (stages.WaitsUntil p moment) (steps.Clock (clock_ops.AlarmEnd moment)) (step_replies.Clock r place)
  pub quits_wait : (p : ℕ) (r : ChanReply) (place : ℕ) → Before (stages.Quits p) → HasReplied s chans who chan (ops.ClaimQuit p) (step_replies.Chan chan r place) →
      After (stages.Quits p) (steps.Chan chan (ops.ClaimQuit p)) (step_replies.Chan chan r place)
  pub uses : (r : ChanReply) (place : ℕ) → Before stages.Holds → HasReplied s chans who chan (use_op using_) (step_replies.Chan chan r place) →
      After stages.Holds (steps.Chan chan (use_op using_)) (step_replies.Chan chan r place)
  pub visits : (observer : ℕ) (left : List ℕ) (full : Bool) (at : ℕ) (r : ObsReply) (place : ℕ) → Before (stages.Visits (observer ∷ left) full) →
      After (stages.Visits (observer ∷ left) full) (steps.Obs observer (obs_ops.Visit chan)) (step_replies.Obs at r place)
  pub frees : (full : Bool) (r : ChanReply) (place : ℕ) → Before (stages.Visits [] full) → HasReplied s chans who chan ops.Free (step_replies.Chan chan r place) →
      After (stages.Visits [] full) (steps.Chan chan ops.Free) (step_replies.Chan chan r place)
  pub frees_read : (message : List ℕ) (r : ChanReply) (place : ℕ) → Before (stages.Reads message) → HasReplied s chans who chan ops.Free (step_replies.Chan chan r place) →
      After (stages.Reads message) (steps.Chan chan ops.Free) (step_replies.Chan chan r place)

module _ (s : Content) (chans : ChanHistories) (who : Who) (chan : ℕ) (using_ : Using) (Before : Stage → Type 0) (After : Stage → Step → StepReply → Type 0)
    (each : EachStep s chans who chan using_ Before After) where
  -- of a step at the channel: by what it answered
  at-channel : (stage : Stage) (op : ChanOp) (x step : Step) (reply : StepReply) → steps.Chan chan op ≡ x → x ≡ step →
      ((r : ChanReply) (place : ℕ) → HasReplied s chans who chan op (step_replies.Chan chan r place) → After stage (steps.Chan chan op) (step_replies.Chan chan r place)) →
      IsReplied s chans who step reply → After stage step reply
  at-channel stage op x step reply so there told =
      subst (λ (x : Step). IsReplied s chans who x reply → After stage x reply) (so ∙ there)
      (told-by s chans who chan op (λ (x : StepReply). After stage (steps.Chan chan op) x) told reply)

  -- of a step at the clock
  at-clock : (stage : Stage) (op : ClockOp) (step : Step) (reply : StepReply) → steps.Clock op ≡ step →
      ((r : ClockReply) (place : ℕ) → clock_may_tell op r ≡ true → After stage (steps.Clock op) (step_replies.Clock r place)) → IsReplied s chans who step reply → After stage step reply
  at-clock stage op step reply there told = subst (λ (x : Step). IsReplied s chans who x reply → After stage x reply) there (by_reply reply)
    where
      by_reply : (reply : StepReply) → IsReplied s chans who (steps.Clock op) reply → After stage (steps.Clock op) reply
      by_reply (step_replies.Clock r place) is = told r place is
      by_reply reply is = absurd (cc)

  first-step : (timeout : Timeout) (k : ℕ) (step : Step) (reply : StepReply) → slice_get (first_step (asks_for chan using_) timeout ∷ []) k ≡ Some step → Before stages.Start →
      IsReplied s chans who step reply → After stages.Start step reply
  first-step No k step reply there was =
      let x = open_step (asks_for chan using_) false in
      at-channel stages.Start (asking_op using_ false) x step reply (asks-so chan using_ false) (slice_get-one x step k there) (λ r place. each.asks false r place was)
  first-step Forever k step reply there was =
      let x = open_step (asks_for chan using_) true in
      at-channel stages.Start (asking_op using_ true) x step reply (asks-so chan using_ true) (slice_get-one x step k there) (λ r place. each.asks true r place was)
  first-step (Ticks ticks) k step reply there was =
      at-clock stages.Start (clock_ops.Alarm ticks) step reply (slice_get-one (steps.Clock (clock_ops.Alarm ticks)) step k there) (λ r place. each.sets_alarm ticks r place was)

  next-visit : (left : List ℕ) (full : Bool) (k : ℕ) (step : Step) (reply : StepReply) → slice_get (visit_step chan left ∷ []) k ≡ Some step → Before (stages.Visits left full) →
      IsReplied s chans who step reply → After (stages.Visits left full) step reply
  next-visit [] full k step reply there was =
      let x = steps.Chan chan ops.Free in
      at-channel (stages.Visits [] full) ops.Free x step reply refl (slice_get-one x step k there) (λ r place. each.frees full r place was)
  next-visit (observer ∷ left) full k step reply there was =
      let stage = stages.Visits (observer ∷ left) full in
      let visit = steps.Obs observer (obs_ops.Visit chan) in
      subst (λ (x : Step). IsReplied s chans who x reply → After stage x reply) (slice_get-one visit step k there) (by_reply reply)
    where
      by_reply : (reply : StepReply) → IsReplied s chans who (steps.Obs observer (obs_ops.Visit chan)) reply →
          After (stages.Visits (observer ∷ left) full) (steps.Obs observer (obs_ops.Visit chan)) reply
      by_reply (step_replies.Obs at r place) is = each.visits observer left full at r place was
      by_reply reply is = absurd (cc)

  -- and so of each
  pub each-step : (timeout : Timeout) (stage : Stage) (k : ℕ) (step : Step) (reply : StepReply) → slice_get (channel_attempts chan using_ timeout stage) k ≡ Some step → Before stage →
      IsReplied s chans who step reply → After stage step reply
  each-step timeout stages.Start k step reply there was = first-step timeout k step reply there was
  each-step timeout (stages.Alarmed moment) k step reply there was =
      let x = open_step (asks_for chan using_) true in
      at-channel (stages.Alarmed moment) (asking_op using_ true) x step reply (asks-so chan using_ true) (slice_get-one x step k there) (λ r place. each.asks_alarmed moment r place was)
  each-step timeout (stages.Waits p) k step reply there was =
      let x = end_step (asks_for chan using_) p in
      at-channel (stages.Waits p) (ops.ClaimEnd p) x step reply (ends-so chan using_ p) (slice_get-one x step k there) (λ r place. each.ends_wait p r place was)
  each-step timeout (stages.WaitsUntil p moment) zero step reply there was =
      let x = end_step (asks_for chan using_) p in
      at-channel (stages.WaitsUntil p moment) (ops.ClaimEnd p) x step reply (ends-so chan using_ p) (cc (there)) (λ r place. each.ends_until p moment r place was)
  each-step timeout (stages.WaitsUntil p moment) (suc k) step reply there was =
      at-clock (stages.WaitsUntil p moment) (clock_ops.AlarmEnd moment) step reply (slice_get-one (steps.Clock (clock_ops.AlarmEnd moment)) step k there)
      (λ r place may. each.ends_alarm p moment r place was)
  each-step timeout (stages.Quits p) k step reply there was =
      let x = quit_step (asks_for chan using_) p in
      at-channel (stages.Quits p) (ops.ClaimQuit p) x step reply (quits-so chan using_ p) (slice_get-one x step k there) (λ r place. each.quits_wait p r place was)
  each-step timeout stages.Holds k step reply there was =
      let x = use_step chan using_ in
      at-channel stages.Holds (use_op using_) x step reply (uses-so chan using_) (slice_get-one x step k there) (λ r place. each.uses r place was)
  each-step timeout (stages.Visits left full) k step reply there was = next-visit left full k step reply there was
  each-step timeout (stages.Reads message) k step reply there was =
      let x = steps.Chan chan ops.Free in
      at-channel (stages.Reads message) ops.Free x step reply refl (slice_get-one x step k there) (λ r place. each.frees_read message r place was)
  each-step timeout stage k step reply there was = absurd (cc)
