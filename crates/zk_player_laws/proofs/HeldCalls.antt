-- A step of a call that gets a channel, uses it and frees it.
use Rattle.std.proofs.Common.{◌≡◌, ◌≢◌, ℕ, Bool, true, false, eqb, Some, None, List, ◌∷◌, refl, sym, ap, subst, ◌∙◌}
use Rattle.std.specs.List.{slice_get, list_any}
use Rattle.zk_base.specs.declared.ids.Who.{Who}
use Rattle.zk_scenario.specs.Content.{Content}
use Rattle.zk_model_bus.specs.declared.channel.ChanOp.{ChanOp}
use Rattle.zk_model_bus.specs.declared.channel.ChanOp.TheVariants as ops
use Rattle.zk_model_bus.specs.declared.channel.ChanReply.{ChanReply}
use Rattle.zk_model_bus.specs.declared.channel.ChanReply.TheVariants as replies
use Rattle.zk_model_bus.specs.declared.channel.Manner.{Manner}
use Rattle.zk_model_bus.specs.declared.channel.Manner.TheVariants as manners
use Rattle.zk_model_bus.specs.declared.observer.ObsOp.TheVariants as obs_ops
use Rattle.zk_model_bus.specs.declared.observer.ObsReply.{ObsReply}
use Rattle.zk_model_bus.specs.declared.observer.ObsReply.TheVariants as obs_replies
use Rattle.zk_model_bus.specs.Channel.{is_claim}
use Rattle.zk_model_bus.specs.ChannelLaws.{manner_of}
use Rattle.zk_model_wait.specs.declared.clock.ClockOp.{ClockOp}
use Rattle.zk_model_wait.specs.declared.clock.ClockOp.TheVariants as clock_ops
use Rattle.zk_model_wait.specs.declared.clock.ClockReply.{ClockReply}
use Rattle.zk_model_wait.specs.declared.clock.ClockReply.TheVariants as clock_replies
use Rattle.zk_words.specs.declared.timeout.Timeout.{Timeout}
use Rattle.zk_words.specs.declared.word.Word.{Word}
use Rattle.zk_worker.specs.declared.steps.Step.{Step}
use Rattle.zk_worker.specs.declared.steps.Step.TheVariants as steps
use Rattle.zk_worker.specs.declared.steps.StepReply.{StepReply}
use Rattle.zk_worker.specs.declared.steps.StepReply.TheVariants as step_replies
use Rattle.zk_worker.specs.declared.frames.Plan.TheVariants as plans
use Rattle.zk_worker.specs.declared.frames.Using.{Using}
use Rattle.zk_worker.specs.declared.frames.Using.TheVariants.{Publish, Notify, Read}
use Rattle.zk_worker.specs.declared.frames.Stage.{Stage}
use Rattle.zk_worker.specs.declared.frames.Stage.TheVariants as stages
use Rattle.zk_worker.specs.Publishes.{channel_attempts, channel_progress}
use Rattle.zk_player_laws.specs.StackLaws.{ChanHistories, IsReplied, chans_after}
use Rattle.zk_player_laws.proofs.OpenScripts.{plan_got, plan_waits, IsHeld, IsKept, IsKeptBy}
use Rattle.zk_player_laws.proofs.ChannelSteps.{asking_op, use_op, EachStep, each-step}
use Rattle.zk_player_laws.proofs.OwnEntries.{HasReplied, answers-so, held-after, not-again, kept-quiet, kept-holds, got-by_call, got-by_end, got-by_quit, waits-by_call, quiet-by}

-- the manner in which a call holds its channel
abbrev pub manner_by : Using → Manner
manner_by (Publish message) = manners.Offer
manner_by Notify = manners.Enter
manner_by Read = manners.Enter

holds-so : (using_ : Using) (waits : Bool) → manner_of (asking_op using_ waits) ≡ Some (manner_by using_)
holds-so (Publish message) waits = refl
holds-so Notify waits = refl
holds-so Read waits = refl

no-claim : (using_ : Using) → is_claim (manner_by using_) ≡ false
no-claim (Publish message) = refl
no-claim Notify = refl
no-claim Read = refl

asks-nothing_freed : (using_ : Using) (waits : Bool) → asking_op using_ waits ≢ ops.Free
asks-nothing_freed (Publish message) waits = λ same. cc
asks-nothing_freed Notify waits = λ same. cc
asks-nothing_freed Read waits = λ same. cc

uses-nothing_freed : (using_ : Using) → use_op using_ ≢ ops.Free
uses-nothing_freed (Publish message) = λ same. cc
uses-nothing_freed Notify = λ same. cc
uses-nothing_freed Read = λ same. cc

module _ (s : Content) (chans : ChanHistories) (who : Who) (n : ℕ) (below : List ℕ) (chan : ℕ) (using_ : Using) (timeout : Timeout) (word : Word) where
  -- what is kept before a step at a stage
  abbrev Before : Stage → Type 0
  Before stage = IsKept s chans who.number below (plan_got (plans.Channel chan using_ timeout) stage) (plan_waits (plans.Channel chan using_ timeout) stage)

  -- and after it
  abbrev After : Stage → Step → StepReply → Type 0
  After stage step reply =
      IsKeptBy s (chans_after chans who n step reply) who.number below (plan_got (plans.Channel chan using_ timeout)) (plan_waits (plans.Channel chan using_ timeout)) (channel_progress word stage reply)

  -- the place of an answer
  place-is : (op : ChanOp) (r : ChanReply) (place : ℕ) (told : HasReplied s chans who chan op (step_replies.Chan chan r place)) → told.state.entries ≡ place
  place-is op r place told = told.counted ∙ cc (told.tells)

  -- it asks for its channel: it gets it, waits, or is turned away
  asks-at_start : (waits : Bool) (r : ChanReply) (place : ℕ) → Before stages.Start → HasReplied s chans who chan (asking_op using_ waits) (step_replies.Chan chan r place) →
      After stages.Start (steps.Chan chan (asking_op using_ waits)) (step_replies.Chan chan r place)
  asks-at_start waits replies.Got place was told =
      got-by_call s chans who n below None chan was (asking_op using_ waits) (manner_by using_) told.state told.is_state
      (answers-so s chans who chan (asking_op using_ waits) replies.Got place told) (holds-so using_ waits) (no-claim using_) (asks-nothing_freed using_ waits)
  asks-at_start waits replies.Wait place was told =
      subst (λ (p : ℕ). IsKept s _ who.number below None (Some (chan, p))) (place-is (asking_op using_ waits) replies.Wait place told)
      (waits-by_call s chans who n below None chan was (asking_op using_ waits) (manner_by using_) told.state told.is_state told.placed
      (answers-so s chans who chan (asking_op using_ waits) replies.Wait place told) (holds-so using_ waits) (no-claim using_) (asks-nothing_freed using_ waits))
  asks-at_start waits r place was told = quiet-by s chans who n below None chan was (asking_op using_ waits) r (asks-nothing_freed using_ waits)

  asks-alarmed : (moment : ℕ) (r : ChanReply) (place : ℕ) → Before (stages.Alarmed moment) → HasReplied s chans who chan (asking_op using_ true) (step_replies.Chan chan r place) →
      After (stages.Alarmed moment) (steps.Chan chan (asking_op using_ true)) (step_replies.Chan chan r place)
  asks-alarmed moment replies.Got place was told =
      got-by_call s chans who n below None chan was (asking_op using_ true) (manner_by using_) told.state told.is_state
      (answers-so s chans who chan (asking_op using_ true) replies.Got place told) (holds-so using_ true) (no-claim using_) (asks-nothing_freed using_ true)
  asks-alarmed moment replies.Wait place was told =
      subst (λ (p : ℕ). IsKept s _ who.number below None (Some (chan, p))) (place-is (asking_op using_ true) replies.Wait place told)
      (waits-by_call s chans who n below None chan was (asking_op using_ true) (manner_by using_) told.state told.is_state told.placed
      (answers-so s chans who chan (asking_op using_ true) replies.Wait place told) (holds-so using_ true) (no-claim using_) (asks-nothing_freed using_ true))
  asks-alarmed moment r place was told = quiet-by s chans who n below None chan was (asking_op using_ true) r (asks-nothing_freed using_ true)

  -- its wait ends, or is given up
  ends-wait : (p : ℕ) (r : ChanReply) (place : ℕ) → Before (stages.Waits p) → HasReplied s chans who chan (ops.ClaimEnd p) (step_replies.Chan chan r place) →
      After (stages.Waits p) (steps.Chan chan (ops.ClaimEnd p)) (step_replies.Chan chan r place)
  ends-wait p replies.Got place was told =
      got-by_end s chans who n below (Some (chan, p)) chan was p told.state refl told.is_state (answers-so s chans who chan (ops.ClaimEnd p) replies.Got place told)
  ends-wait p r place was told = quiet-by s chans who n below (Some (chan, p)) chan was (ops.ClaimEnd p) r (λ same. cc)

  ends-until : (p moment : ℕ) (r : ChanReply) (place : ℕ) → Before (stages.WaitsUntil p moment) → HasReplied s chans who chan (ops.ClaimEnd p) (step_replies.Chan chan r place) →
      After (stages.WaitsUntil p moment) (steps.Chan chan (ops.ClaimEnd p)) (step_replies.Chan chan r place)
  ends-until p moment replies.Got place was told =
      got-by_end s chans who n below (Some (chan, p)) chan was p told.state refl told.is_state (answers-so s chans who chan (ops.ClaimEnd p) replies.Got place told)
  ends-until p moment r place was told = quiet-by s chans who n below (Some (chan, p)) chan was (ops.ClaimEnd p) r (λ same. cc)

  quits-wait : (p : ℕ) (r : ChanReply) (place : ℕ) → Before (stages.Quits p) → HasReplied s chans who chan (ops.ClaimQuit p) (step_replies.Chan chan r place) →
      After (stages.Quits p) (steps.Chan chan (ops.ClaimQuit p)) (step_replies.Chan chan r place)
  quits-wait p replies.Got place was told =
      got-by_quit s chans who n below (Some (chan, p)) chan was p told.state refl told.is_state (answers-so s chans who chan (ops.ClaimQuit p) replies.Got place told)
  quits-wait p r place was told = quiet-by s chans who n below (Some (chan, p)) chan was (ops.ClaimQuit p) r (λ same. cc)

  -- it sets its alarm
  sets-alarm : (op : ClockOp) (r : ClockReply) (place : ℕ) → Before stages.Start → After stages.Start (steps.Clock op) (step_replies.Clock r place)
  sets-alarm op (clock_replies.At moment) place was = was
  sets-alarm op r place was = was

  -- what the player holds it holds after an entry that frees nothing
  still-held : (op : ChanOp) (r : ChanReply) → op ≢ ops.Free → (c : ℕ) → IsHeld s chans who.number c → IsHeld s (chans_after chans who n (steps.Chan chan op) (step_replies.Chan chan r n)) who.number c
  still-held op r not_free c held = held-after s chans who n chan c op r held (λ same. not_free)

  -- it uses its channel
  uses : (op : ChanOp) (r : ChanReply) (place : ℕ) → op ≢ ops.Free → Before stages.Holds → After stages.Holds (steps.Chan chan op) (step_replies.Chan chan r place)
  uses op (replies.Observers told) place not_free was = kept-holds s who.number below chans _ chan was (still-held op (replies.Observers told) not_free)
  uses op (replies.Bytes message) place not_free was = kept-holds s who.number below chans _ chan was (still-held op (replies.Bytes message) not_free)
  uses op r place not_free was =
      kept-quiet s who.number below chans _ (Some chan) None was (λ c among held. still-held op r not_free c held)

  -- it frees its channel: what the scripts below hold are others
  frees : (r : ChanReply) → IsKept s chans who.number below (Some chan) None →
      IsKept s (chans_after chans who n (steps.Chan chan ops.Free) (step_replies.Chan chan r n)) who.number below None None
  frees r was =
      kept-quiet s who.number below chans _ (Some chan) None was
      (λ c among held. held-after s chans who n chan c ops.Free r held
      (λ same is_free. not-again chan below was.apart (ap (λ (k : ℕ). list_any (eqb k) below) (sym same) ∙ among)))

  -- it visits an observer
  visits : (observer : ℕ) (left : List ℕ) (full : Bool) (at : ℕ) (r : ObsReply) (place : ℕ) → Before (stages.Visits (observer ∷ left) full) →
      After (stages.Visits (observer ∷ left) full) (steps.Obs observer (obs_ops.Visit chan)) (step_replies.Obs at r place)
  visits observer left full at obs_replies.Run place was = (was, refl)
  visits observer left full at obs_replies.Full place was = was
  visits observer left full at r place was = was

  each : EachStep s chans who chan using_ Before After
  each = record {
    asks = asks-at_start;
    sets_alarm = λ ticks r place was may. sets-alarm (clock_ops.Alarm ticks) r place was;
    asks_alarmed = asks-alarmed;
    ends_wait = ends-wait;
    ends_until = ends-until;
    ends_alarm = λ p moment r place was. was;
    quits_wait = quits-wait;
    uses = λ r place was told. uses (use_op using_) r place (uses-nothing_freed using_) was;
    visits = visits;
    frees = λ full r place was told. frees r was;
    frees_read = λ message r place was told. frees r was;
  }

  -- a step of the call keeps what the open scripts hold
  pub channel-kept : (stage : Stage) (k : ℕ) (step : Step) (reply : StepReply) → slice_get (channel_attempts chan using_ timeout stage) k ≡ Some step → Before stage →
      IsReplied s chans who step reply → After stage step reply
  channel-kept stage k step reply there was is = each-step s chans who chan using_ Before After each timeout stage k step reply there was is
