-- What a call attempts next is what its form says, behind the steps that it made.
use Rattle.std.proofs.Common.{◌≡◌, ◌⊎◌, inl, inr, ℕ, zero, suc, Bool, true, false, Option, Some, None, List, [], ◌∷◌, ◌++◌, map, append_assoc, refl, sym, ap, subst, ◌∙◌}
use Rattle.std.specs.List.{slice_get}
use Rattle.std.proofs.lemmas.List.{map-append}
use Rattle.std.proofs.lemmas.Option.{same_Some}
use Rattle.zk_base.proofs.Lists.{slice_get-one}
use Rattle.zk_line.specs.declared.events.Event.{Event}
use Rattle.zk_model_bus.specs.declared.channel.ChanOp.TheVariants as chan_ops
use Rattle.zk_model_bus.specs.declared.channel.ChanReply.TheVariants as chan_replies
use Rattle.zk_model_bus.specs.declared.observer.ObsReply.TheVariants as obs_replies
use Rattle.zk_model_wait.specs.declared.clock.ClockOp.TheVariants as clock_ops
use Rattle.zk_model_wait.specs.declared.clock.ClockReply.TheVariants as clock_replies
use Rattle.zk_words.specs.declared.timeout.Timeout.{Timeout}
use Rattle.zk_words.specs.declared.timeout.Timeout.TheVariants.{No, Forever, Ticks}
use Rattle.zk_words.specs.declared.word.Word.{Word}
use Rattle.zk_worker.specs.declared.frames.Plan.{Plan}
use Rattle.zk_worker.specs.declared.frames.Plan.TheVariants.{One, Pair, Twice, Wait, Poll, Channel}
use Rattle.zk_worker.specs.declared.frames.Progress.{Progress}
use Rattle.zk_worker.specs.declared.frames.Progress.TheVariants.{Goes, Answers, Enters}
use Rattle.zk_worker.specs.declared.frames.Stage.{Stage}
use Rattle.zk_worker.specs.declared.frames.Stage.TheVariants as stages
use Rattle.zk_worker.specs.declared.frames.Using.{Using}
use Rattle.zk_worker.specs.declared.frames.Waiting.{Waiting}
use Rattle.zk_worker.specs.declared.steps.Step.{Step}
use Rattle.zk_worker.specs.declared.steps.Step.TheVariants as steps
use Rattle.zk_worker.specs.declared.steps.StepReply.{StepReply}
use Rattle.zk_worker.specs.declared.steps.StepReply.TheVariants as step_replies
use Rattle.zk_worker.specs.Calls.{closing_step, plan_attempts, plan_progress}
use Rattle.zk_worker.specs.Follows.{StepMade}
use Rattle.zk_worker.specs.Polls.{poll_progress}
use Rattle.zk_worker.specs.Publishes.{asks_for, use_step, visit_step, channel_attempts, holds_progress, visit_progress, asking_progress, channel_progress}
use Rattle.zk_worker.specs.Waits.{open_step, end_step, quit_step, wait_attempts, opening_progress, with_alarm, wait_progress}
use Rattle.zk_player_laws.specs.AttemptLaws.{ComeIn, ComeWithin, ComeFor, ComeToVisit, ComeInUse, ComeOf}
use Rattle.zk_player_laws.specs.CallLaws.{waits_at}
use Rattle.zk_player_laws.specs.PollLaws.{Leads, LeadsOn}
use Rattle.zk_player_laws.specs.StackLaws.{is_reply_to}
use Rattle.zk_player_laws.specs.VisitLaws.{visit_of}
use Rattle.zk_player_laws.proofs.CallsMade.{IsFit, opens, made-one, starts-so, ends-so, alarm-at, due-quits, fits-step, ask-attempts, ask-progress}
use Rattle.zk_player_laws.proofs.OtherCalls.{is_with_channel, EntersNone, plan-plain}

-- Where a call stands, behind its steps.

abbrev WaitsIn : Step → List StepMade → Stage → Type 0
WaitsIn opening play stage =
    ((play ≡ []) × (stage ≡ stages.Start))
    ⊎ ((waited : StepReply) × (place : ℕ) × (waits_at waited ≡ Some place) × (play ≡ (opening, waited) ∷ []) × (stage ≡ stages.Waits place))

abbrev WaitsWithin : Waiting → ℕ → List StepMade → Stage → Type 0
WaitsWithin waiting moment play stage =
    ((play ≡ []) × (stage ≡ stages.Alarmed moment))
    ⊎ ((waited : StepReply) × (place : ℕ) × (waits_at waited ≡ Some place)
    × (((play ≡ (open_step waiting true, waited) ∷ []) × (stage ≡ stages.WaitsUntil place moment))
    ⊎ ((due : StepReply) × (play ≡ (open_step waiting true, waited) ∷ (steps.Clock (clock_ops.AlarmEnd moment), due) ∷ []) × (stage ≡ stages.Quits place))))

abbrev WaitsFor : Waiting → Timeout → List StepMade → Stage → Type 0
WaitsFor waiting No play stage = WaitsIn (open_step waiting false) play stage
WaitsFor waiting Forever play stage = WaitsIn (open_step waiting true) play stage
WaitsFor waiting (Ticks ticks) play stage =
    ((play ≡ []) × (stage ≡ stages.Start))
    ⊎ ((moment place : ℕ) × (more : List StepMade) × (play ≡ (steps.Clock (clock_ops.Alarm ticks), step_replies.Clock (clock_replies.At moment) place) ∷ more)
    × WaitsWithin waiting moment more stage)

abbrev InUse : ℕ → Using → List StepMade → Stage → Type 0
InUse chan using_ [] stage = stage ≡ stages.Holds
InUse chan using_ (use_ ∷ visits) stage =
    (use_.0 ≡ use_step chan using_)
    × (((at place : ℕ) × (told left : List ℕ) × (use_.1 ≡ step_replies.Chan at (chan_replies.Observers told) place)
    × (map (visit_of chan) told ≡ map (λ m. m.0) visits ++ map (visit_of chan) left) × (full : Bool) × (stage ≡ stages.Visits left full))
    ⊎ ((at place : ℕ) × (message : List ℕ) × (use_.1 ≡ step_replies.Chan at (chan_replies.Bytes message) place) × (visits ≡ []) × (stage ≡ stages.Reads message)))

abbrev HasChannel : ℕ → Using → List StepMade → Stage → Type 0
HasChannel chan using_ play stage =
    (front : List StepMade) × (gained : StepMade) × (since : List StepMade) × (play ≡ front ++ gained ∷ since)
    × (at place : ℕ) × (gained.1 ≡ step_replies.Chan at chan_replies.Got place) × InUse chan using_ since stage

-- the stage that a call is at, behind the steps that it made
abbrev pub StandsAt : Word → Plan → List StepMade → Stage → Type 0
StandsAt word (One first) play stage = (play ≡ []) × (stage ≡ stages.Start)
StandsAt word (Pair opening closing) play stage = WaitsIn opening play stage
StandsAt word (Twice first second) play stage =
    ((play ≡ []) × (stage ≡ stages.Start)) ⊎ ((earlier : StepReply) × (play ≡ (first, earlier) ∷ []) × (stage ≡ stages.Halfway))
StandsAt word (Wait waiting timeout) play stage = WaitsFor waiting timeout play stage
StandsAt word (Poll timeout events) play stage = LeadsOn word timeout events stages.Start play stage
StandsAt word (Channel chan using_ timeout) play stage = WaitsFor (asks_for chan using_) timeout play stage ⊎ HasChannel chan using_ play stage

-- it begins so
pub stands-first : (word : Word) (plan : Plan) → StandsAt word plan [] stages.Start
stands-first word (One first) = (refl, refl)
stands-first word (Pair opening closing) = inl (refl, refl)
stands-first word (Twice first second) = inl (refl, refl)
stands-first word (Wait waiting timeout) = by timeout where
  by : (timeout : Timeout) → WaitsFor waiting timeout [] stages.Start
  by No = inl (refl, refl)
  by Forever = inl (refl, refl)
  by (Ticks ticks) = inl (refl, refl)
stands-first word (Poll timeout events) = refl
stands-first word (Channel chan using_ timeout) = inl (by timeout) where
  by : (timeout : Timeout) → WaitsFor (asks_for chan using_) timeout [] stages.Start
  by No = inl (refl, refl)
  by Forever = inl (refl, refl)
  by (Ticks ticks) = inl (refl, refl)

-- What comes next there.

come-in : (opening : Step) (closing : ℕ → Step) (of : Stage → List Step) → of stages.Start ≡ opening ∷ [] → ((place : ℕ) → of (stages.Waits place) ≡ closing place ∷ []) →
    (play : List StepMade) (stage : Stage) → WaitsIn opening play stage → ComeIn opening closing play (of stage)
come-in opening closing of first waits play stage (inl at) = inl (at.0, ap of at.1 ∙ first)
come-in opening closing of first waits play stage (inr at) = inr (at.0, at.1, at.2, at.3, ap of at.4 ∙ waits at.1)

come-within : (waiting : Waiting) (ticks moment : ℕ) (play : List StepMade) (stage : Stage) → WaitsWithin waiting moment play stage → ComeWithin waiting moment play (wait_attempts waiting (Ticks ticks) stage)
come-within waiting ticks moment play stage (inl at) = inl (at.0, ap (wait_attempts waiting (Ticks ticks)) at.1)
come-within waiting ticks moment play stage (inr at) = inr (at.0, at.1, at.2, by at.3) where
  by : ((play ≡ (open_step waiting true, at.0) ∷ []) × (stage ≡ stages.WaitsUntil at.1 moment))
      ⊎ ((due : StepReply) × (play ≡ (open_step waiting true, at.0) ∷ (steps.Clock (clock_ops.AlarmEnd moment), due) ∷ []) × (stage ≡ stages.Quits at.1)) →
      ((play ≡ (open_step waiting true, at.0) ∷ []) × (wait_attempts waiting (Ticks ticks) stage ≡ end_step waiting at.1 ∷ steps.Clock (clock_ops.AlarmEnd moment) ∷ []))
      ⊎ ((due : StepReply) × (play ≡ (open_step waiting true, at.0) ∷ (steps.Clock (clock_ops.AlarmEnd moment), due) ∷ []) × (wait_attempts waiting (Ticks ticks) stage ≡ quit_step waiting at.1 ∷ []))
  by (inl waits) = inl (waits.0, ap (wait_attempts waiting (Ticks ticks)) waits.1)
  by (inr quits) = inr (quits.0, quits.1, ap (wait_attempts waiting (Ticks ticks)) quits.2)

come-for : (waiting : Waiting) (timeout : Timeout) (play : List StepMade) (stage : Stage) → WaitsFor waiting timeout play stage → ComeFor waiting timeout play (wait_attempts waiting timeout stage)
come-for waiting No play stage at = come-in (open_step waiting false) (end_step waiting) (wait_attempts waiting No) refl (λ place. refl) play stage at
come-for waiting Forever play stage at = come-in (open_step waiting true) (end_step waiting) (wait_attempts waiting Forever) refl (λ place. refl) play stage at
come-for waiting (Ticks ticks) play stage (inl at) = inl (at.0, ap (wait_attempts waiting (Ticks ticks)) at.1)
come-for waiting (Ticks ticks) play stage (inr at) = inr (at.0, at.1, at.2, at.3, come-within waiting ticks at.0 at.2 stage at.4)

come-in-use : (chan : ℕ) (using_ : Using) (timeout : Timeout) (since : List StepMade) (stage : Stage) → InUse chan using_ since stage → ComeInUse chan using_ since (channel_attempts chan using_ timeout stage)
come-in-use chan using_ timeout [] stage at = ap (channel_attempts chan using_ timeout) at
come-in-use chan using_ timeout (use_ ∷ visits) stage at = (at.0, by at.1) where
  next : (left : List ℕ) → ComeToVisit chan left (visit_step chan left ∷ [])
  next [] = refl
  next (observer ∷ left) = refl

  by : ((at place : ℕ) × (told left : List ℕ) × (use_.1 ≡ step_replies.Chan at (chan_replies.Observers told) place)
      × (map (visit_of chan) told ≡ map (λ m. m.0) visits ++ map (visit_of chan) left) × (full : Bool) × (stage ≡ stages.Visits left full))
      ⊎ ((at place : ℕ) × (message : List ℕ) × (use_.1 ≡ step_replies.Chan at (chan_replies.Bytes message) place) × (visits ≡ []) × (stage ≡ stages.Reads message)) →
      ((at place : ℕ) × (told left : List ℕ) × (use_.1 ≡ step_replies.Chan at (chan_replies.Observers told) place)
      × (map (visit_of chan) told ≡ map (λ m. m.0) visits ++ map (visit_of chan) left) × ComeToVisit chan left (channel_attempts chan using_ timeout stage))
      ⊎ ((at place : ℕ) × (message : List ℕ) × (use_.1 ≡ step_replies.Chan at (chan_replies.Bytes message) place)
      × (visits ≡ []) × (channel_attempts chan using_ timeout stage ≡ steps.Chan chan chan_ops.Free ∷ []))
  by (inl w) = inl (w.0, w.1, w.2, w.3, w.4, w.5, subst (λ (t : Stage). ComeToVisit chan w.3 (channel_attempts chan using_ timeout t)) (sym w.7) (next w.3))
  by (inr w) = inr (w.0, w.1, w.2, w.3, w.4, ap (channel_attempts chan using_ timeout) w.5)

-- a call that waits for its channel hasn't it
in-asks : (opening : Step) (play : List StepMade) (stage : Stage) → WaitsIn opening play stage → is_with_channel stage ≡ false
in-asks opening play stage (inl at) = ap is_with_channel at.1
in-asks opening play stage (inr at) = ap is_with_channel at.4

for-asks : (waiting : Waiting) (timeout : Timeout) (play : List StepMade) (stage : Stage) → WaitsFor waiting timeout play stage → is_with_channel stage ≡ false
for-asks waiting No play stage at = in-asks (open_step waiting false) play stage at
for-asks waiting Forever play stage at = in-asks (open_step waiting true) play stage at
for-asks waiting (Ticks ticks) play stage (inl at) = ap is_with_channel at.1
for-asks waiting (Ticks ticks) play stage (inr at) = by at.4 where
  by : WaitsWithin waiting at.0 at.2 stage → is_with_channel stage ≡ false
  by (inl w) = ap is_with_channel w.1
  by (inr w) = by_last w.3 where
    by_last : ((at.2 ≡ (open_step waiting true, w.0) ∷ []) × (stage ≡ stages.WaitsUntil w.1 at.0))
        ⊎ ((due : StepReply) × (at.2 ≡ (open_step waiting true, w.0) ∷ (steps.Clock (clock_ops.AlarmEnd at.0), due) ∷ []) × (stage ≡ stages.Quits w.1)) → is_with_channel stage ≡ false
    by_last (inl l) = ap is_with_channel l.1
    by_last (inr l) = ap is_with_channel l.2

-- what a call attempts where it stands
pub comes-of : (word : Word) (plan : Plan) (play : List StepMade) (stage : Stage) → StandsAt word plan play stage → ComeOf word plan play (plan_attempts plan stage)
comes-of word (One first) play stage at = (at.0, ap (plan_attempts (One first)) at.1)
comes-of word (Pair opening closing) play stage at =
    come-in opening (closing_step closing) (plan_attempts (Pair opening closing)) refl (λ place. refl) play stage at
comes-of word (Twice first second) play stage (inl at) = inl (at.0, ap (plan_attempts (Twice first second)) at.1)
comes-of word (Twice first second) play stage (inr at) = inr (at.0, at.1, ap (plan_attempts (Twice first second)) at.2)
comes-of word (Wait waiting timeout) play stage at = come-for waiting timeout play stage at
comes-of word (Poll timeout events) play stage at = (stage, at, refl)
comes-of word (Channel chan using_ timeout) play stage (inl at) =
    inl (subst (ComeFor (asks_for chan using_) timeout play) (sym (ask-attempts chan using_ timeout stage (for-asks (asks_for chan using_) timeout play stage at)))
    (come-for (asks_for chan using_) timeout play stage at))
comes-of word (Channel chan using_ timeout) play stage (inr at) =
    inr (at.0, at.1, at.2, at.3, at.4, at.5, at.6, come-in-use chan using_ timeout at.2 stage at.7)

-- One step more.

-- the stage that a call goes on at, if it isn't answered
abbrev pub stage_of : Progress → Option Stage
stage_of (Goes stage) = Some stage
stage_of (Answers word answer) = None
stage_of (Enters owner stage) = Some stage

opening-stage : (word : Word) (reply : StepReply) (next : Stage) → stage_of (opening_progress word reply) ≡ Some next → (place : ℕ) × (waits_at reply ≡ Some place) × (next ≡ stages.Waits place)
opening-stage word reply next comes = by (waits_at reply) refl where
  by : (o : Option ℕ) → waits_at reply ≡ o → (place : ℕ) × (waits_at reply ≡ Some place) × (next ≡ stages.Waits place)
  by (Some place) is = (place, is, sym (same_Some (stages.Waits place) next (sym (ap stage_of ((opens word reply).waits place is)) ∙ comes)))
  by None is = absurd (let never = sym (ap stage_of ((opens word reply).served is)) ∙ comes in cc)

until-stage : (word : Word) (moment : ℕ) (reply : StepReply) (next : Stage) → stage_of (with_alarm moment (opening_progress word reply)) ≡ Some next →
    (place : ℕ) × (waits_at reply ≡ Some place) × (next ≡ stages.WaitsUntil place moment)
until-stage word moment reply next comes = by (waits_at reply) refl where
  by : (o : Option ℕ) → waits_at reply ≡ o → (place : ℕ) × (waits_at reply ≡ Some place) × (next ≡ stages.WaitsUntil place moment)
  by (Some place) is =
      (place, is, sym (same_Some (stages.WaitsUntil place moment) next (sym (ap (λ (p : Progress). stage_of (with_alarm moment p)) ((opens word reply).waits place is)) ∙ comes)))
  by None is = absurd (let never = sym (ap (λ (p : Progress). stage_of (with_alarm moment p)) ((opens word reply).served is)) ∙ comes in cc)

one-more : (only : Step) (list : List Step) (index : ℕ) (m : StepMade) → list ≡ only ∷ [] → slice_get list index ≡ Some m.0 → m ≡ (only, m.1)
one-more only list index m same ahead = made-one only index m (ap (λ (l : List Step). slice_get l index) (sym same) ∙ ahead)

in-more : (opening : Step) (of : Stage → List Step) (go : Stage → StepMade → Progress) → of stages.Start ≡ opening ∷ [] →
    ((m : StepMade) (next : Stage) → IsFit m → m ≡ (opening, m.1) → stage_of (go stages.Start m) ≡ Some next → (place : ℕ) × (waits_at m.1 ≡ Some place) × (next ≡ stages.Waits place)) →
    ((place : ℕ) (m : StepMade) → stage_of (go (stages.Waits place) m) ≡ None) →
    (play : List StepMade) (stage : Stage) (index : ℕ) (m : StepMade) (next : Stage) → WaitsIn opening play stage → slice_get (of stage) index ≡ Some m.0 → IsFit m →
    stage_of (go stage m) ≡ Some next → WaitsIn opening (play ++ m ∷ []) next
in-more opening of go first opens ends play stage index m next (inl at) ahead fit comes =
    let same = one-more opening (of stage) index m (ap of at.1 ∙ first) ahead in
    let w = opens m next fit same (ap (λ (t : Stage). stage_of (go t m)) (sym at.1) ∙ comes) in
    inr (m.1, w.0, w.1, ap (λ (l : List StepMade). l ++ m ∷ []) at.0 ∙ ap (λ (x : StepMade). x ∷ []) same, w.2)
in-more opening of go first opens ends play stage index m next (inr at) ahead fit comes =
    absurd (let never = sym (ends at.1 m) ∙ ap (λ (t : Stage). stage_of (go t m)) (sym at.4) ∙ comes in cc)

within-more : (word : Word) (waiting : Waiting) (ticks moment : ℕ) (play : List StepMade) (stage : Stage) (index : ℕ) (m : StepMade) (next : Stage) → WaitsWithin waiting moment play stage →
    slice_get (wait_attempts waiting (Ticks ticks) stage) index ≡ Some m.0 → IsFit m → stage_of (wait_progress word stage m.1) ≡ Some next → WaitsWithin waiting moment (play ++ m ∷ []) next
within-more word waiting ticks moment play stage index m next (inl at) ahead fit comes =
    let same = one-more (open_step waiting true) (wait_attempts waiting (Ticks ticks) stage) index m (ap (wait_attempts waiting (Ticks ticks)) at.1) ahead in
    let w = until-stage word moment m.1 next (ap (λ (t : Stage). stage_of (wait_progress word t m.1)) (sym at.1) ∙ comes) in
    inr (m.1, w.0, w.1, inl (ap (λ (l : List StepMade). l ++ m ∷ []) at.0 ∙ ap (λ (x : StepMade). x ∷ []) same, w.2))
within-more word waiting ticks moment play stage index m next (inr at) ahead fit comes = by at.3 where
  last : (place : ℕ) (index : ℕ) → slice_get (end_step waiting place ∷ steps.Clock (clock_ops.AlarmEnd moment) ∷ []) index ≡ Some m.0 →
      stage_of (wait_progress word (stages.WaitsUntil place moment) m.1) ≡ Some next → (m ≡ (steps.Clock (clock_ops.AlarmEnd moment), m.1)) × (next ≡ stages.Quits place)
  last place zero there comes =
      absurd (let same : m ≡ (end_step waiting place, m.1) = ap (λ (x : Step). (x, m.1)) (sym (same_Some (end_step waiting place) m.0 there)) in
      let never = sym (ap stage_of (ends-so word waiting moment place m.1 (fits-step (end_step waiting place) m fit same))) ∙ comes in cc)
  last place (suc index) there comes =
      let same : m ≡ (steps.Clock (clock_ops.AlarmEnd moment), m.1) = made-one (steps.Clock (clock_ops.AlarmEnd moment)) index m there in
      (same, sym (same_Some (stages.Quits place) next (sym (ap stage_of (due-quits word moment place m.1 (fits-step (steps.Clock (clock_ops.AlarmEnd moment)) m fit same))) ∙ comes)))

  by : ((play ≡ (open_step waiting true, at.0) ∷ []) × (stage ≡ stages.WaitsUntil at.1 moment))
      ⊎ ((due : StepReply) × (play ≡ (open_step waiting true, at.0) ∷ (steps.Clock (clock_ops.AlarmEnd moment), due) ∷ []) × (stage ≡ stages.Quits at.1)) →
      WaitsWithin waiting moment (play ++ m ∷ []) next
  by (inl waits) =
      let l = last at.1 index (ap (λ (t : Stage). slice_get (wait_attempts waiting (Ticks ticks) t) index) (sym waits.1) ∙ ahead)
      (ap (λ (t : Stage). stage_of (wait_progress word t m.1)) (sym waits.1) ∙ comes) in
      inr (at.0, at.1, at.2, inr (m.1, ap (λ (l : List StepMade). l ++ m ∷ []) waits.0 ∙ ap (λ (x : StepMade). (open_step waiting true, at.0) ∷ x ∷ []) l.0, l.1))
  by (inr quits) = absurd (let never : None ≡ Some next = ap (λ (t : Stage). stage_of (wait_progress word t m.1)) (sym quits.2) ∙ comes in cc)

for-more : (word : Word) (waiting : Waiting) (timeout : Timeout) (play : List StepMade) (stage : Stage) (index : ℕ) (m : StepMade) (next : Stage) → WaitsFor waiting timeout play stage →
    slice_get (wait_attempts waiting timeout stage) index ≡ Some m.0 → IsFit m → stage_of (wait_progress word stage m.1) ≡ Some next → WaitsFor waiting timeout (play ++ m ∷ []) next
for-more word waiting No play stage index m next at ahead fit comes =
    in-more (open_step waiting false) (wait_attempts waiting No) (λ t x. wait_progress word t x.1) refl
    (λ x n fits same goes. opening-stage word x.1 n (sym (ap stage_of (starts-so word waiting false x.1 (fits-step (open_step waiting false) x fits same))) ∙ goes))
    (λ place x. refl) play stage index m next at ahead fit comes
for-more word waiting Forever play stage index m next at ahead fit comes =
    in-more (open_step waiting true) (wait_attempts waiting Forever) (λ t x. wait_progress word t x.1) refl
    (λ x n fits same goes. opening-stage word x.1 n (sym (ap stage_of (starts-so word waiting true x.1 (fits-step (open_step waiting true) x fits same))) ∙ goes))
    (λ place x. refl) play stage index m next at ahead fit comes
for-more word waiting (Ticks ticks) play stage index m next (inl at) ahead fit comes =
    let same = one-more (steps.Clock (clock_ops.Alarm ticks)) (wait_attempts waiting (Ticks ticks) stage) index m (ap (wait_attempts waiting (Ticks ticks)) at.1) ahead in
    let a = alarm-at ticks m.1 (fits-step (steps.Clock (clock_ops.Alarm ticks)) m fit same) in
    let goes : Some (stages.Alarmed a.0) ≡ Some next = ap (λ (r : StepReply). stage_of (wait_progress word stages.Start r)) (sym a.2) ∙ ap (λ (t : Stage). stage_of (wait_progress word t m.1)) (sym at.1) ∙ comes in
    inr (
      a.0,
      a.1,
      [],
      ap (λ (l : List StepMade). l ++ m ∷ []) at.0 ∙ ap (λ (x : StepMade). x ∷ []) same ∙ ap (λ (r : StepReply). (steps.Clock (clock_ops.Alarm ticks), r) ∷ []) a.2,
      inl (refl, sym (same_Some (stages.Alarmed a.0) next goes)),
    )
for-more word waiting (Ticks ticks) play stage index m next (inr at) ahead fit comes =
    inr (at.0, at.1, at.2 ++ m ∷ [], ap (λ (l : List StepMade). l ++ m ∷ []) at.3, within-more word waiting ticks at.0 at.2 stage index m next at.4 ahead fit comes)

-- A call that uses a channel.

visit-more : (word : Word) (chan : ℕ) (left : List ℕ) (full : Bool) (m : StepMade) (next : Stage) → visit_step chan left ≡ m.0 → IsFit m → stage_of (visit_progress word left full m.1) ≡ Some next →
    (observer : ℕ) × (more : List ℕ) × (left ≡ observer ∷ more) × (m.0 ≡ visit_of chan observer) × (now : Bool) × (next ≡ stages.Visits more now)
visit-more word chan [] full m next same fit comes = absurd (let never = by m.1 (subst (λ (x : Step). is_reply_to x m.1 ≡ true) (sym same) fit) ∙ comes in cc) where
  by : (reply : StepReply) → is_reply_to (steps.Chan chan chan_ops.Free) reply ≡ true → None ≡ stage_of (visit_progress word [] full reply)
  by (step_replies.Chan at reply place) fit = refl
  by reply fit = absurd (cc)
visit-more word chan (observer ∷ left) full m next same fit comes = by m.1 (subst (λ (x : Step). is_reply_to x m.1 ≡ true) (sym same) fit) comes where
  by : (reply : StepReply) → is_reply_to (visit_of chan observer) reply ≡ true → stage_of (visit_progress word (observer ∷ left) full reply) ≡ Some next →
      (o : ℕ) × (more : List ℕ) × (observer ∷ left ≡ o ∷ more) × (m.0 ≡ visit_of chan o) × (now : Bool) × (next ≡ stages.Visits more now)
  by (step_replies.Obs at obs_replies.Run place) fit comes = (observer, left, refl, sym same, full, sym (same_Some (stages.Visits left full) next comes))
  by (step_replies.Obs at obs_replies.Full place) fit comes = (observer, left, refl, sym same, true, sym (same_Some (stages.Visits left true) next comes))
  by (step_replies.Obs at reply place) fit comes = (observer, left, refl, sym same, full, sym (same_Some (stages.Visits left full) next comes))
  by reply fit comes = absurd (cc)

-- no steps
abbrev no_steps : List StepMade
no_steps = []

use-more : (word : Word) (chan : ℕ) (using_ : Using) (m : StepMade) (next : Stage) → m.0 ≡ use_step chan using_ → stage_of (holds_progress word m.1) ≡ Some next → InUse chan using_ (m ∷ []) next
use-more word chan using_ m next same comes = (same, by m.1 refl comes) where
  by : (reply : StepReply) → m.1 ≡ reply → stage_of (holds_progress word reply) ≡ Some next →
      ((at place : ℕ) × (told left : List ℕ) × (m.1 ≡ step_replies.Chan at (chan_replies.Observers told) place)
      × (map (visit_of chan) told ≡ map (visit_of chan) left) × (full : Bool) × (next ≡ stages.Visits left full))
      ⊎ ((at place : ℕ) × (message : List ℕ) × (m.1 ≡ step_replies.Chan at (chan_replies.Bytes message) place) × (no_steps ≡ []) × (next ≡ stages.Reads message))
  by (step_replies.Chan at (chan_replies.Observers told) place) is comes = inl (at, place, told, told, is, refl, false, sym (same_Some (stages.Visits told false) next comes))
  by (step_replies.Chan at (chan_replies.Bytes message) place) is comes = inr (at, place, message, is, refl, sym (same_Some (stages.Reads message) next comes))
  by reply is comes = absurd (cc)

in-use-more : (word : Word) (chan : ℕ) (using_ : Using) (timeout : Timeout) (since : List StepMade) (stage : Stage) (index : ℕ) (m : StepMade) (next : Stage) → InUse chan using_ since stage →
    slice_get (channel_attempts chan using_ timeout stage) index ≡ Some m.0 → IsFit m → stage_of (channel_progress word stage m.1) ≡ Some next → InUse chan using_ (since ++ m ∷ []) next
in-use-more word chan using_ timeout [] stage index m next at ahead fit comes =
    let same : use_step chan using_ ≡ m.0 = slice_get-one (use_step chan using_) m.0 index (ap (λ (t : Stage). slice_get (channel_attempts chan using_ timeout t) index) (sym at) ∙ ahead) in
    use-more word chan using_ m next (sym same) (ap (λ (t : Stage). stage_of (channel_progress word t m.1)) (sym at) ∙ comes)
in-use-more word chan using_ timeout (use_ ∷ visits) stage index m next at ahead fit comes = (at.0, by at.1) where
  by : ((at place : ℕ) × (told left : List ℕ) × (use_.1 ≡ step_replies.Chan at (chan_replies.Observers told) place)
      × (map (visit_of chan) told ≡ map (λ m. m.0) visits ++ map (visit_of chan) left) × (full : Bool) × (stage ≡ stages.Visits left full))
      ⊎ ((at place : ℕ) × (message : List ℕ) × (use_.1 ≡ step_replies.Chan at (chan_replies.Bytes message) place) × (visits ≡ []) × (stage ≡ stages.Reads message)) →
      ((at place : ℕ) × (told left : List ℕ) × (use_.1 ≡ step_replies.Chan at (chan_replies.Observers told) place)
      × (map (visit_of chan) told ≡ map (λ m. m.0) (visits ++ m ∷ []) ++ map (visit_of chan) left) × (full : Bool) × (next ≡ stages.Visits left full))
      ⊎ ((at place : ℕ) × (message : List ℕ) × (use_.1 ≡ step_replies.Chan at (chan_replies.Bytes message) place) × (visits ++ m ∷ [] ≡ []) × (next ≡ stages.Reads message))
  by (inl w) =
      let same : visit_step chan w.3 ≡ m.0 = slice_get-one (visit_step chan w.3) m.0 index (ap (λ (t : Stage). slice_get (channel_attempts chan using_ timeout t) index) (sym w.7) ∙ ahead) in
      let v = visit-more word chan w.3 w.6 m next same fit (ap (λ (t : Stage). stage_of (channel_progress word t m.1)) (sym w.7) ∙ comes) in
      let longer : map (λ (x : StepMade). x.0) visits ++ map (visit_of chan) w.3 ≡ map (λ (x : StepMade). x.0) (visits ++ m ∷ []) ++ map (visit_of chan) v.1 =
      ap (λ (l : List ℕ). map (λ (x : StepMade). x.0) visits ++ map (visit_of chan) l) v.2
      ∙ ap (λ (x : Step). map (λ (x : StepMade). x.0) visits ++ x ∷ map (visit_of chan) v.1) (sym v.3)
      ∙ sym (append_assoc (map (λ (x : StepMade). x.0) visits) (m.0 ∷ []) (map (visit_of chan) v.1))
      ∙ ap (λ (l : List Step). l ++ map (visit_of chan) v.1) (sym (map-append (λ (x : StepMade). x.0) visits (m ∷ []))) in
      inl (w.0, w.1, w.2, v.1, w.4, w.5 ∙ longer, v.4, v.5)
  by (inr w) = absurd (let never : None ≡ Some next = ap (λ (t : Stage). stage_of (channel_progress word t m.1)) (sym w.5) ∙ comes in cc)

-- whether it is given its channel, or goes on as one that waits
got-or-waits : (word : Word) (stage : Stage) (reply : StepReply) → ((at place : ℕ) × (reply ≡ step_replies.Chan at chan_replies.Got place) × (asking_progress word stage reply ≡ Goes stages.Holds))
    ⊎ (asking_progress word stage reply ≡ wait_progress word stage reply)
got-or-waits word stage (step_replies.Chan at chan_replies.Got place) = inl (at, place, refl, refl)
got-or-waits word stage reply = inr refl

asking-more : (word : Word) (chan : ℕ) (using_ : Using) (timeout : Timeout) (play : List StepMade) (stage : Stage) (index : ℕ) (m : StepMade) (next : Stage) →
    WaitsFor (asks_for chan using_) timeout play stage → slice_get (channel_attempts chan using_ timeout stage) index ≡ Some m.0 → IsFit m →
    stage_of (channel_progress word stage m.1) ≡ Some next → StandsAt word (Channel chan using_ timeout) (play ++ m ∷ []) next
asking-more word chan using_ timeout play stage index m next at ahead fit comes =
    let asks = for-asks (asks_for chan using_) timeout play stage at in
    by (ap (λ (l : List Step). slice_get l index) (sym (ask-attempts chan using_ timeout stage asks)) ∙ ahead) (sym (ap stage_of (ask-progress word stage m.1 asks)) ∙ comes) (got-or-waits word stage m.1)
  where
    by : slice_get (wait_attempts (asks_for chan using_) timeout stage) index ≡ Some m.0 → stage_of (asking_progress word stage m.1) ≡ Some next →
        ((at place : ℕ) × (m.1 ≡ step_replies.Chan at chan_replies.Got place) × (asking_progress word stage m.1 ≡ Goes stages.Holds)) ⊎ (asking_progress word stage m.1 ≡ wait_progress word stage m.1) →
        StandsAt word (Channel chan using_ timeout) (play ++ m ∷ []) next
    by there goes (inl got) = inr (play, m, [], refl, got.0, got.1, got.2, sym (same_Some stages.Holds next (sym (ap stage_of got.3) ∙ goes)))
    by there goes (inr waits) = inl (for-more word (asks_for chan using_) timeout play stage index m next at there fit (sym (ap stage_of waits) ∙ goes))

-- A poll.

polls-more : (word : Word) (timeout : Timeout) (events : List Event) (stage : Stage) (play : List StepMade) (middle : Stage) (m : StepMade) (next : Stage) → LeadsOn word timeout events stage play middle →
    Leads word timeout events middle m (Goes next) → LeadsOn word timeout events stage (play ++ m ∷ []) next
polls-more word timeout events stage [] middle m next led last = (next, subst (λ (t : Stage). Leads word timeout events t m (Goes next)) (sym led) last, refl)
polls-more word timeout events stage (x ∷ play) middle m next led last = (led.0, led.1, polls-more word timeout events led.0 play middle m next led.2 last)

goes-to : (progress : Progress) (next : Stage) → EntersNone progress → stage_of progress ≡ Some next → progress ≡ Goes next
goes-to (Goes stage) next plain comes = ap Goes (same_Some stage next comes)
goes-to (Answers word answer) next plain comes = absurd (cc)
goes-to (Enters owner stage) next plain comes = absurd plain

-- a step of a call leads it to where it stands next
pub stands-more : (word : Word) (plan : Plan) (play : List StepMade) (stage : Stage) (index : ℕ) (m : StepMade) (next : Stage) → StandsAt word plan play stage →
    slice_get (plan_attempts plan stage) index ≡ Some m.0 → IsFit m → stage_of (plan_progress word plan stage m.0 m.1) ≡ Some next → StandsAt word plan (play ++ m ∷ []) next
stands-more word (One first) play stage index m next at ahead fit comes = absurd (cc)
stands-more word (Pair opening closing) play stage index m next at ahead fit comes =
    in-more opening (plan_attempts (Pair opening closing)) (λ t x. plan_progress word (Pair opening closing) t x.0 x.1) refl
    (λ x n fits same goes. opening-stage word x.1 n goes) (λ place x. refl) play stage index m next at ahead fit comes
stands-more word (Twice first second) play stage index m next (inl at) ahead fit comes =
    let same = one-more first (plan_attempts (Twice first second) stage) index m (ap (plan_attempts (Twice first second)) at.1) ahead in
    let goes : Some stages.Halfway ≡ Some next = ap (λ (t : Stage). stage_of (plan_progress word (Twice first second) t m.0 m.1)) (sym at.1) ∙ comes in
    inr (m.1, ap (λ (l : List StepMade). l ++ m ∷ []) at.0 ∙ ap (λ (x : StepMade). x ∷ []) same, sym (same_Some stages.Halfway next goes))
stands-more word (Twice first second) play stage index m next (inr at) ahead fit comes =
    absurd (let never : None ≡ Some next = ap (λ (t : Stage). stage_of (plan_progress word (Twice first second) t m.0 m.1)) (sym at.2) ∙ comes in cc)
stands-more word (Wait waiting timeout) play stage index m next at ahead fit comes = for-more word waiting timeout play stage index m next at ahead fit comes
stands-more word (Poll timeout events) play stage index m next at ahead fit comes =
    polls-more word timeout events stages.Start play stage m next at (record {
      index = index;
      ahead = ahead;
      comes = goes-to (poll_progress word timeout events stage m.0 m.1) next (plan-plain word (Poll timeout events) stage m.0 m.1 refl) comes;
    })
stands-more word (Channel chan using_ timeout) play stage index m next (inl at) ahead fit comes = asking-more word chan using_ timeout play stage index m next at ahead fit comes
stands-more word (Channel chan using_ timeout) play stage index m next (inr at) ahead fit comes =
    inr (
      at.0,
      at.1,
      at.2 ++ m ∷ [],
      ap (λ (l : List StepMade). l ++ m ∷ []) at.3 ∙ append_assoc at.0 (at.1 ∷ at.2) (m ∷ []),
      at.4,
      at.5,
      at.6,
      in-use-more word chan using_ timeout at.2 stage index m next at.7 ahead fit comes,
    )
