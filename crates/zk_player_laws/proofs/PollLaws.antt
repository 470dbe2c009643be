-- The laws of a poll, of each of its plays.
use Rattle.std.proofs.Common.{◌≡◌, ℕ, zero, suc, ◌+◌, ◌<◌, ◌≤◌, Bool, true, false, not, ◌&&◌, ◌||◌, cond, is_some, Option, Some, None, List, [], ◌∷◌, ◌++◌, length, replicate, take, option_to_list, slice_get, count_by, refl, sym, ap, subst, ◌∙◌, ◌⊎◌, inl, inr, ⊎_elim, append-nil, append_assoc, arith}
use Rattle.std.specs.Option.{option_and_then}
use Rattle.std.specs.List.{AllZip, Contains, list_any}
use Rattle.std.proofs.lemmas.Bool.{and_parts, and_from, not-true, not_from_false, not-false, both_ways, or_parts, cond-true, cond-false}
use Rattle.std.proofs.lemmas.List.{length-append, nil_from_length}
use Rattle.std.proofs.lemmas.List.Elements.{All-head}
use Rattle.std.proofs.lemmas.List.Quantifiers.{position-Some}
use Rattle.std.proofs.lemmas.Option.{same_Some, slice_get_within, get_or_from_slice_get, some_pair_parts}
use Rattle.zk_base.proofs.Lists.{All-front, All-back, slice_get-one}
use Rattle.zk_base.specs.declared.errors.Errno.TheVariants.{Again}
use Rattle.zk_line.specs.declared.events.Event.{Event}
use Rattle.zk_line.specs.declared.events.Event.TheVariants.{Ignore, Sem, Msgq, Sig}
use Rattle.zk_line.specs.declared.events.TheConstants.{MOST_EVENTS}
use Rattle.zk_line.proofs.Lists.{count_by-cons}
use Rattle.zk_model_wait.specs.declared.clock.ClockOp.TheVariants as clock_ops
use Rattle.zk_model_wait.specs.declared.clock.ClockReply.TheVariants as clock_replies
use Rattle.zk_model_wait.specs.declared.msgq.MsgqOp.TheVariants as msgq_ops
use Rattle.zk_model_wait.specs.declared.sem.SemOp.TheVariants as sem_ops
use Rattle.zk_words.specs.declared.timeout.Timeout.{Timeout}
use Rattle.zk_words.specs.declared.timeout.Timeout.TheVariants.{No, Ticks, Forever}
use Rattle.zk_words.specs.declared.word.Word.{Word}
use Rattle.zk_worker.specs.declared.answers.Answer.{Answer}
use Rattle.zk_worker.specs.declared.answers.Answer.TheVariants as answers
use Rattle.zk_worker.specs.declared.frames.Mark.{Mark}
use Rattle.zk_worker.specs.declared.frames.Mark.TheVariants.{Unasked, Armed, Ready, Not}
use Rattle.zk_worker.specs.declared.frames.Alarm.{Alarm}
use Rattle.zk_worker.specs.declared.frames.Alarm.TheVariants.{Unset, Due}
use Rattle.zk_worker.specs.declared.frames.Stage.{Stage}
use Rattle.zk_worker.specs.declared.frames.Stage.TheVariants.{Start, Polls}
use Rattle.zk_worker.specs.declared.frames.Progress.{Progress}
use Rattle.zk_worker.specs.declared.frames.Progress.TheVariants.{Goes, Answers}
use Rattle.zk_worker.specs.declared.steps.Spot.{Spot}
use Rattle.zk_worker.specs.declared.steps.Spot.TheVariants as spots
use Rattle.zk_worker.specs.declared.steps.Step.{Step}
use Rattle.zk_worker.specs.declared.steps.Step.TheVariants as steps
use Rattle.zk_worker.specs.declared.steps.StepReply.{StepReply}
use Rattle.zk_worker.specs.declared.steps.StepReply.TheVariants as step_replies
use Rattle.zk_worker.specs.Polls.{waits, fresh, is_armed, is_ready, asks_more, unasked_from, ask_step, drop_step, step_at, asking, dropping, watch_step, watching, alarm_steps, registers, poll_attempts, is_closing, polling, mark_of, event_of, marked, alarm_after, ready_from, poll_answer, is_answered, poll_goes, polled, poll_progress}
use Rattle.zk_player_laws.specs.PollLaws.{Leads, LeadsOn, StandsAt, AreServed, may_reply, events_from, asks, AreRising, NamesWhatIsTold, AnswersWhatIsTold, IsDone, KeepsPollLaws, OfEachPoll, OfEachStage, GoesOn, WaitsForEvent, WaitsForAlarm, WaitsForEach, WaitsForAll, AsksFor, is_over, is_alarm_end, tells_ready, GivesUpFirst, endings, IsRegistered, IsDue}
use Rattle.zk_worker.specs.Follows.{StepMade}
use Rattle.zk_worker.specs.Refs.{ref_object}
use Rattle.zk_worker.proofs.PollSteps.{all_taken}
use Rattle.zk_player_laws.proofs.PollReplies.{asks-for, stands-attempts, spot_for-armed}
use Rattle.zk_player_laws.proofs.PollMarks.{Standing, standing-counts, AsksNext, asks_first, known-at, first_armed, to_ask, none_to_ask, no_unasked, to_ask-fresh, spot_for, spot_for-unasked, standing, standing-fresh, standing-none, known-fresh, known-none}
use Rattle.zk_player_laws.proofs.PollPlays.{Apart, apart-front, Kept, kept-clock, zip-length, Named, slice_get-here, stands-cases}
use Rattle.zk_player_laws.proofs.PollAnswers.{Later, over-is, all-asked, polling-kept}

-- no step stands in an empty play
nil-stands : (before : List StepMade) (made : StepMade) → StandsAt [] before made → ⊥
nil-stands [] made at = let whole : [] ≡ made ∷ at.rest = at.whole in cc
nil-stands (b ∷ before) made at = let whole : [] ≡ b ∷ (before ++ made ∷ at.rest) = at.whole in cc

fresh-at : (m k : ℕ) (mark : Mark) → slice_get (replicate m Unasked) k ≡ Some mark → mark ≡ Unasked
fresh-at zero k mark is = absurd (cc)
fresh-at (suc m) zero mark is = sym (same_Some Unasked mark is)
fresh-at (suc m) (suc k) mark is = fresh-at m k mark is

-- a poll that has done nothing
kept-fresh : (timeout : Timeout) (events : List Event) → length events ≤ MOST_EVENTS → Kept timeout events [] Unset fresh
kept-fresh timeout events few = record {
  size = refl;
  asked = record { done = []; whole = sym (to_ask-fresh 0 events MOST_EVENTS few); each = tt };
  ready = λ k is. let so : Ready ≡ Unasked = fresh-at MOST_EVENTS k Ready is in absurd (cc);
  told = λ k told. absurd (nil-stands told.before told.made told.stands);
  armed = λ k event mark spot there marked is.
      let so : mark ≡ Unasked = fresh-at MOST_EVENTS k mark marked in
      let none : None ≡ Some spot = sym (spot_for-unasked event) ∙ ap (λ (m : Mark). spot_for event m) (sym so) ∙ is in
      absurd (cc);
  same = λ test. let none = ap (λ (xs : List Spot). count_by test xs) (standing-fresh events MOST_EVENTS) in omega (arith, none);
  each = λ before made stands free. absurd (nil-stands before made stands);
  tells = refl;
  ended = refl;
  known = known-fresh events MOST_EVENTS;
  timed = λ before made stands. absurd (nil-stands before made stands);
  alarmed = λ before made stands. absurd (nil-stands before made stands);
  due = λ moment is. absurd (cc);
  set_due = λ moment set unended. absurd (nil-stands [] (steps.Clock (clock_ops.Alarm set.ticks), step_replies.Clock (clock_replies.At moment) set.place) set.stands);
  left = λ k spot registered. absurd (nil-stands registered.before registered.ask registered.stands);
  stands = λ unended k spot registered. absurd (nil-stands registered.before registered.ask registered.stands);
}

-- what comes of a step of a poll: what it keeps, and whether that is its answer
record Next (word : Word) (timeout : Timeout) (events : List Event) (play : List StepMade) (progress : Progress) : Type 0 where
  alarm : Alarm
  marks : List Mark
  kept : Kept timeout events play alarm marks
  comes : poll_goes word timeout events alarm marks ≡ progress

and-false : (a b : Bool) → (a && (false && b)) ≡ false
and-false true b = refl
and-false false b = refl

alarm-set : (ticks : ℕ) (reply : StepReply) → may_reply (steps.Clock (clock_ops.Alarm ticks), reply) ≡ true →
    (moment : ℕ) × (place : ℕ) × (reply ≡ step_replies.Clock (clock_replies.At moment) place)
alarm-set ticks (step_replies.Clock (clock_replies.At moment) place) may = (moment, place, refl)
alarm-set ticks reply may = absurd (cc)

-- the ticks of a call, those of an alarm, and its moment
abbrev ticks_of : Timeout → ℕ
ticks_of (Ticks ticks) = ticks
ticks_of timeout = 0

abbrev alarm_of : Step → ℕ
alarm_of (steps.Clock (clock_ops.Alarm ticks)) = ticks
alarm_of step = 0

abbrev moment_in : StepReply → ℕ
moment_in (step_replies.Clock (clock_replies.At moment) place) = moment
moment_in reply = 0

abbrev due_of : Alarm → ℕ
due_of (Due moment) = moment
due_of alarm = 0

-- the first step of a poll with ticks
ticks-next : (word : Word) (ticks : ℕ) (events : List Event) (made : StepMade) (progress : Progress) → length events ≤ MOST_EVENTS → may_reply made ≡ true →
    made.0 ≡ steps.Clock (clock_ops.Alarm ticks) → poll_progress word (Ticks ticks) events Start made.0 made.1 ≡ progress → Next word (Ticks ticks) events ([] ++ made ∷ []) progress
ticks-next word ticks events made progress few may is comes = by made.0 made.1 is may comes where
  then : (moment place : ℕ) → Goes (Polls (Due moment) fresh) ≡ progress →
      Next word (Ticks ticks) events ((steps.Clock (clock_ops.Alarm ticks), step_replies.Clock (clock_replies.At moment) place) ∷ []) progress
  then moment place comes = record {
    alarm = Due moment;
    marks = fresh;
    kept = kept-clock (Ticks ticks) events [] Unset (Due moment) fresh (clock_ops.Alarm ticks) (step_replies.Clock (clock_replies.At moment) place) (kept-fresh (Ticks ticks) events few) refl refl
        (record { arms = λ arm. absurd (cc); asked = λ no_ask sets. absurd (cc); waiting = λ wait. absurd (cc); quitting = λ quit. absurd (cc) })
        (record {
          begins = λ n is none. ap (λ (t : Timeout). steps.Clock (clock_ops.Alarm (ticks_of t))) is;
          sets = λ n is. (refl, ap (λ (s : Step). Ticks (alarm_of s)) is);
          ends = λ n is. absurd (cc);
        })
        (λ n is. record {
          ticks = ticks;
          place = place;
          stands = record { rest = []; whole = ap (λ (a : Alarm). (steps.Clock (clock_ops.Alarm ticks), step_replies.Clock (clock_replies.At (due_of a)) place) ∷ []) is };
        })
        (λ n set unended.
        let made : StepMade = (steps.Clock (clock_ops.Alarm ticks), step_replies.Clock (clock_replies.At moment) place) in
        let first : StepMade = (steps.Clock (clock_ops.Alarm set.ticks), step_replies.Clock (clock_replies.At n) set.place) in
        ⊎_elim
        (λ (at : StandsAt [] [] first). absurd (nil-stands [] first at))
        (λ (last : ([] ≡ []) × (first ≡ made)). ap (λ (x : StepMade). Due (moment_in x.1)) (sym last.1))
        (stands-cases [] made [] first set.stands.rest set.stands.whole));
    comes = ap (λ (b : Bool). cond b (Answers word (poll_answer fresh)) (Goes (Polls (Due moment) fresh)))
        (and-false (not (asks_more events fresh)) (not (list_any is_armed fresh))) ∙ comes;
  }

  by : (step : Step) (reply : StepReply) → step ≡ steps.Clock (clock_ops.Alarm ticks) → may_reply (step, reply) ≡ true → poll_progress word (Ticks ticks) events Start step reply ≡ progress →
      Next word (Ticks ticks) events ((step, reply) ∷ []) progress
  by step reply is may comes =
      let set = alarm-set ticks reply (ap (λ (s : Step). may_reply (s, reply)) (sym is) ∙ may) in
      subst (λ (s : Step). Next word (Ticks ticks) events ((s, reply) ∷ []) progress) (sym is)
      (subst (λ (r : StepReply). Next word (Ticks ticks) events ((steps.Clock (clock_ops.Alarm ticks), r) ∷ []) progress) (sym set.2)
      (then set.0 set.1 (ap (λ (r : StepReply). poll_progress word (Ticks ticks) events Start step r) (sym set.2) ∙ comes)))

-- a poll that sets no alarm has its first stage at once
clock-answer : (word : Word) (timeout : Timeout) (events : List Event) (step : Step) (moment place : ℕ) → may_reply (step, step_replies.Clock (clock_replies.At moment) place) ≡ true →
    (ticks : ℕ) × (step ≡ steps.Clock (clock_ops.Alarm ticks))
clock-answer word timeout events (steps.Clock (clock_ops.Alarm ticks)) moment place may = (ticks, refl)
clock-answer word timeout events step moment place may = absurd (cc)

started : (word : Word) (timeout : Timeout) (events : List Event) (step : Step) (reply : StepReply) → may_reply (step, reply) ≡ true →
    ((ticks : ℕ) → step ≡ steps.Clock (clock_ops.Alarm ticks) → ⊥) → poll_progress word timeout events Start step reply ≡ polled word timeout events Unset fresh step reply
started word timeout events step (step_replies.Clock (clock_replies.At moment) place) may never =
    let set = clock-answer word timeout events step moment place may in absurd (never set.0 set.1)
started word timeout events step reply may never = refl

apart-nil : Apart []
apart-nil before other a b spot first second one two = absurd (nil-stands before a first)

plain-next : (word : Word) (timeout : Timeout) (events : List Event) (made : StepMade) (index : ℕ) (progress : Progress) → length events ≤ MOST_EVENTS → may_reply made ≡ true →
    ((ticks : ℕ) → timeout ≡ Ticks ticks → ⊥) → slice_get (polling timeout events Unset fresh) index ≡ Some made.0 →
    poll_progress word timeout events Start made.0 made.1 ≡ progress → Next word timeout events ([] ++ made ∷ []) progress
plain-next word timeout events made index progress few may plain ahead comes =
    let kept = polling-kept timeout events [] Unset fresh made index (kept-fresh timeout events few) apart-nil (λ ticks is none. plain ticks is) few may ahead in
    let never : (ticks : ℕ) → made.0 ≡ steps.Clock (clock_ops.Alarm ticks) → ⊥ =
    λ ticks is. plain ticks ((kept.alarmed [] made (record { rest = []; whole = refl })).sets ticks is).1 in
    record {
      alarm = alarm_after Unset made.1;
      marks = marked fresh (event_of events Unset fresh made.0) (mark_of made.1);
      kept = kept;
      comes = sym (started word timeout events made.0 made.1 may never) ∙ comes;
    }

-- the first step of a poll
start-next : (word : Word) (timeout : Timeout) (events : List Event) (made : StepMade) (progress : Progress) → length events ≤ MOST_EVENTS → may_reply made ≡ true →
    Leads word timeout events Start made progress → Next word timeout events ([] ++ made ∷ []) progress
start-next word No events made progress few may leads = plain-next word No events made leads.index progress few may (λ ticks is. absurd (cc)) leads.ahead leads.comes
start-next word Forever events made progress few may leads = plain-next word Forever events made leads.index progress few may (λ ticks is. absurd (cc)) leads.ahead leads.comes
start-next word (Ticks ticks) events made progress few may leads =
    ticks-next word ticks events made progress few may (sym (slice_get-one (steps.Clock (clock_ops.Alarm ticks)) made.0 leads.index leads.ahead)) leads.comes

-- what holds of a play that led to a stage
abbrev KeptAt : Timeout → List Event → List StepMade → Stage → Type 0
KeptAt timeout events play Start = play ≡ []
KeptAt timeout events play (Polls alarm marks) = Kept timeout events play alarm marks × (is_answered timeout events alarm marks ≡ false) × Later timeout play
KeptAt timeout events play stage = ⊥

stage-next : (word : Word) (timeout : Timeout) (events : List Event) (play : List StepMade) (stage : Stage) (made : StepMade) (progress : Progress) → length events ≤ MOST_EVENTS →
    KeptAt timeout events play stage → Apart play → may_reply made ≡ true → Leads word timeout events stage made progress → Next word timeout events (play ++ made ∷ []) progress
stage-next word timeout events play Start made progress few none apart may leads =
    subst (λ (p : List StepMade). Next word timeout events (p ++ made ∷ []) progress) (sym none) (start-next word timeout events made progress few may leads)
stage-next word timeout events play (Polls alarm marks) made progress few kept apart may leads = record {
  alarm = alarm_after alarm made.1;
  marks = marked marks (event_of events alarm marks made.0) (mark_of made.1);
  kept = polling-kept timeout events play alarm marks made leads.index kept.0 apart kept.2 few may leads.ahead;
  comes = leads.comes;
}
stage-next word timeout events play stage made progress few kept apart may leads = absurd kept

push-some : (xs : List StepMade) (x : StepMade) → xs ++ x ∷ [] ≡ [] → ⊥
push-some [] x is = cc
push-some (y ∷ xs) x is = cc

-- one that goes on holds it at its next stage
goes-kept : (word : Word) (timeout : Timeout) (events : List Event) (play : List StepMade) (made : StepMade) (stage : Stage) →
    Next word timeout events (play ++ made ∷ []) (Goes stage) → KeptAt timeout events (play ++ made ∷ []) stage
goes-kept word timeout events play made stage next = by (is_answered timeout events next.alarm next.marks) refl next.comes where
  by : (b : Bool) → is_answered timeout events next.alarm next.marks ≡ b → cond b (Answers word (poll_answer next.marks)) (Goes (Polls next.alarm next.marks)) ≡ Goes stage →
      KeptAt timeout events (play ++ made ∷ []) stage
  by true is comes = absurd (cc)
  by false is comes =
      let at : Polls next.alarm next.marks ≡ stage = cc in
      subst (λ (s : Stage). KeptAt timeout events (play ++ made ∷ []) s) at (next.kept, is, λ ticks set none. push-some play made none)

served-here : (before : List StepMade) (made : StepMade) (more : List StepMade) → AreServed (before ++ made ∷ more) → may_reply made ≡ true
served-here before made more served =
    let P : StepMade → Type 0 = λ x. may_reply x ≡ true in
    All-head P made more (All-back P before (made ∷ more) served.each)

-- each play holds it at its stage
led-kept : (word : Word) (timeout : Timeout) (events : List Event) (before : List StepMade) (stage : Stage) (more : List StepMade) (end : Stage) → length events ≤ MOST_EVENTS →
    KeptAt timeout events before stage → LeadsOn word timeout events stage more end → AreServed (before ++ more) → KeptAt timeout events (before ++ more) end
led-kept word timeout events before stage [] end few kept led served =
    subst (λ (p : List StepMade). KeptAt timeout events p end) (sym (append-nil before)) (subst (λ (s : Stage). KeptAt timeout events before s) led kept)
led-kept word timeout events before stage (made ∷ more) end few kept led served =
    let next = stage-next word timeout events before stage made (Goes led.0) few kept (apart-front before (made ∷ more) served.apart) (served-here before made more served) led.1 in
    let whole : (before ++ made ∷ []) ++ more ≡ before ++ made ∷ more = append_assoc before (made ∷ []) more in
    subst (λ (p : List StepMade). KeptAt timeout events p end) whole
    (led-kept word timeout events (before ++ made ∷ []) led.0 more end few (goes-kept word timeout events before made led.0 next) led.2
    (subst (λ (p : List StepMade). AreServed p) (sym whole) served))

contains-first : (x : ℕ) (xs : List ℕ) → Contains (x ∷ xs) x
contains-first x xs = (0, omega arith, refl)

contains-later : (x : ℕ) (xs : List ℕ) (k : ℕ) → Contains xs k → Contains (x ∷ xs) k
contains-later x xs k in' = (suc in'.0, omega arith, in'.2)

contains-cases : (x : ℕ) (xs : List ℕ) (k : ℕ) → Contains (x ∷ xs) k → (x ≡ k) ⊎ Contains xs k
contains-cases x xs k (zero, within, is) = inl is
contains-cases x xs k (suc i, within, is) = inr (i, omega arith, is)

-- an event that is ready
record ReadyAt (n : ℕ) (marks : List Mark) (k : ℕ) : Type 0 where
  i : ℕ
  is : k ≡ n + i
  at : slice_get marks i ≡ Some Ready

ready-later : (n : ℕ) (mark : Mark) (marks : List Mark) (k : ℕ) → ReadyAt (n + 1) marks k → ReadyAt n (mark ∷ marks) k
ready-later n mark marks k at = let is : k ≡ (n + 1) + at.i = at.is in record { i = suc at.i; is = omega arith; at = at.at }

-- the positions that an answer names are those of the ready marks
named-ready : (n : ℕ) (marks : List Mark) (k : ℕ) → Contains (ready_from n marks) k → ReadyAt n marks k
named-ready n [] k in' = let within : in'.0 < 0 = in'.1 in absurd (omega arith)
named-ready n (Ready ∷ marks) k in' = ⊎_elim
    (λ (here : n ≡ k). record { i = 0; is = omega arith; at = refl })
    (λ (later : Contains (ready_from (n + 1) marks) k). ready-later n Ready marks k (named-ready (n + 1) marks k later))
    (contains-cases n (ready_from (n + 1) marks) k in')
named-ready n (Unasked ∷ marks) k in' = ready-later n Unasked marks k (named-ready (n + 1) marks k in')
named-ready n (Armed place ∷ marks) k in' = ready-later n (Armed place) marks k (named-ready (n + 1) marks k in')
named-ready n (Not ∷ marks) k in' = ready-later n Not marks k (named-ready (n + 1) marks k in')

ready-named : (n : ℕ) (marks : List Mark) (i k : ℕ) → k ≡ n + i → slice_get marks i ≡ Some Ready → Contains (ready_from n marks) k
ready-named n [] i k is at = absurd (cc)
ready-named n (mark ∷ marks) zero k is at =
    let so : Ready ≡ mark = sym (same_Some mark Ready at) in
    let same : n ≡ k = omega arith in
    subst (λ (m : Mark). Contains (ready_from n (m ∷ marks)) k) so
    (subst (λ (x : ℕ). Contains (n ∷ ready_from (n + 1) marks) x) same (contains-first n (ready_from (n + 1) marks)))
ready-named n (Ready ∷ marks) (suc i) k is at = contains-later n (ready_from (n + 1) marks) k (ready-named (n + 1) marks i k (omega arith) at)
ready-named n (mark ∷ marks) (suc i) k is at = ready-named (n + 1) marks i k (omega arith) at

ready-rising : (n m : ℕ) (marks : List Mark) → m ≤ n → AreRising m (ready_from n marks)
ready-rising n m [] low = tt
ready-rising n m (Ready ∷ marks) low = (low, ready-rising (n + 1) (n + 1) marks (omega arith))
ready-rising n m (mark ∷ marks) low = ready-rising (n + 1) m marks (omega arith)

named-told : (timeout : Timeout) (events : List Event) (play : List StepMade) (alarm : Alarm) (marks : List Mark) → Kept timeout events play alarm marks →
    NamesWhatIsTold events play (ready_from 0 marks)
named-told timeout events play alarm marks kept = record {
  rising = ready-rising 0 0 marks (omega arith);
  named = λ k in'.
      let at : ReadyAt 0 marks k = named-ready 0 marks k in' in
      let is : k ≡ 0 + at.i = at.is in
      let same : at.i ≡ k = omega arith in
      kept.ready k (subst (λ (x : ℕ). slice_get marks x ≡ Some Ready) same at.at);
  told = λ k told. ready-named 0 marks k k (omega arith) (kept.told k told);
}

-- what is answered of the marks
answer-told : (timeout : Timeout) (events : List Event) (play : List StepMade) (alarm : Alarm) (marks : List Mark) (answer : Answer) → Kept timeout events play alarm marks →
    poll_answer marks ≡ answer → AnswersWhatIsTold events play answer
answer-told timeout events play alarm marks answer kept is = record {
  told = λ some. (
    ready_from 0 marks,
    sym is ∙ cond-true (list_any is_ready marks) (answers.Ready (ready_from 0 marks)) (answers.Refused Again) (sym kept.tells ∙ some),
    named-told timeout events play alarm marks kept,
  );
  none = λ none. sym is ∙ cond-false (list_any is_ready marks) (answers.Ready (ready_from 0 marks)) (answers.Refused Again) (sym kept.tells ∙ none);
}

-- a poll with its answer keeps its laws
answered-laws : (timeout : Timeout) (events : List Event) (play : List StepMade) (alarm : Alarm) (marks : List Mark) (answer : Answer) → Kept timeout events play alarm marks →
    is_answered timeout events alarm marks ≡ true → poll_answer marks ≡ answer → KeepsPollLaws timeout events play answer
answered-laws timeout events play alarm marks answer kept is told =
    let parts = and_parts (not (asks_more events marks)) ((is_closing alarm marks || not (waits timeout)) && not (list_any is_armed marks)) is in
    let more = and_parts (is_closing alarm marks || not (waits timeout)) (not (list_any is_armed marks)) parts.1 in
    let none : asks_more events marks ≡ false = not-true (asks_more events marks) parts.0 in
    let left : standing events marks ≡ [] = standing-none events marks (not-true (list_any is_armed marks) more.1) in
    let whole : events_from 0 events ≡ kept.asked.done =
    kept.asked.whole ∙ ap (λ (xs : List (ℕ × Event)). kept.asked.done ++ xs) (none_to_ask 0 events marks none) ∙ append-nil kept.asked.done in
    record {
      names = answer-told timeout events play alarm marks answer kept told;
      asks = subst (λ (xs : List (ℕ × Event)). AllZip Named xs (asks play)) (sym whole) kept.asked.each;
      done = record {
        asked = all-asked events play marks kept.asked none;
        over = ap (λ (b : Bool). b || not (waits timeout)) (over-is timeout events play alarm marks kept) ∙ more.0;
        ends = λ test.
            let one = kept.same test in
            let two = ap (λ (xs : List Spot). count_by test xs) left in
            omega (arith, one, two);
      };
      each = kept.each;
      timed = kept.timed;
      alarm = kept.alarmed;
    }

-- of a step that is answered
answers-so : (word : Word) (timeout : Timeout) (events : List Event) (alarm : Alarm) (marks : List Mark) (answer : Answer) →
    poll_goes word timeout events alarm marks ≡ Answers word answer → (is_answered timeout events alarm marks ≡ true) × (poll_answer marks ≡ answer)
answers-so word timeout events alarm marks answer comes = by (is_answered timeout events alarm marks) refl comes where
  by : (b : Bool) → is_answered timeout events alarm marks ≡ b → cond b (Answers word (poll_answer marks)) (Goes (Polls alarm marks)) ≡ Answers word answer →
      (is_answered timeout events alarm marks ≡ true) × (poll_answer marks ≡ answer)
  by true is so = (is, cc)
  by false is so = absurd (cc)

pub poll_laws : OfEachPoll KeepsPollLaws
poll_laws word timeout events few play answer of served =
    let served_so : AreServed (of.front ++ of.last ∷ []) = subst (λ (p : List StepMade). AreServed p) of.whole served in
    let front : AreServed of.front = record {
      each = All-front (λ made. may_reply made ≡ true) of.front (of.last ∷ []) served_so.each;
      apart = apart-front of.front (of.last ∷ []) served_so.apart;
    } in
    let kept = led-kept word timeout events [] Start of.front of.stage few refl of.led front in
    let next = stage-next word timeout events of.front of.stage of.last (Answers word answer) few kept front.apart (served-here of.front of.last [] served_so) of.answered in
    let so = answers-so word timeout events next.alarm next.marks answer next.comes in
    subst (λ (p : List StepMade). KeepsPollLaws timeout events p answer) (sym of.whole)
    (answered-laws timeout events (of.front ++ of.last ∷ []) next.alarm next.marks answer next.kept so.0 so.1)

none-counted : (xs : List Spot) → count_by (λ x. true) xs ≡ 0 → xs ≡ []
none-counted [] is = refl
none-counted (x ∷ xs) is = let one = count_by-cons (λ (s : Spot). true) x xs in absurd (omega (arith, one, is))

-- a poll that is done has its answer
done-answered : (timeout : Timeout) (events : List Event) (play : List StepMade) (alarm : Alarm) (marks : List Mark) → Kept timeout events play alarm marks →
    IsDone timeout events play → is_answered timeout events alarm marks ≡ true
done-answered timeout events play alarm marks kept done =
    let many = zip-length Named kept.asked.done (asks play) kept.asked.each in
    let whole = ap (λ (xs : List (ℕ × Event)). length xs) kept.asked.whole ∙ length-append kept.asked.done (to_ask 0 events marks) in
    let none : length (to_ask 0 events marks) ≡ 0 = omega (arith, many, whole, done.asked) in
    let asked : asks_more events marks ≡ false = no_unasked 0 events marks (nil_from_length (to_ask 0 events marks) none) in
    let one = kept.same (λ x. true) in
    let two = done.ends (λ x. true) in
    let left : standing events marks ≡ [] = none-counted (standing events marks) (omega (arith, one, two)) in
    let armed : list_any is_armed marks ≡ false = known-none events marks kept.known left in
    let over : (is_closing alarm marks || not (waits timeout)) ≡ true = ap (λ (b : Bool). b || not (waits timeout)) (sym (over-is timeout events play alarm marks kept)) ∙ done.over in
    and_from (not (asks_more events marks)) ((is_closing alarm marks || not (waits timeout)) && not (list_any is_armed marks)) (not_from_false (asks_more events marks) asked)
    (and_from (is_closing alarm marks || not (waits timeout)) (not (list_any is_armed marks)) over (not_from_false (list_any is_armed marks) armed))

-- nothing is left to ask where as many were asked as there are
asked-all : (timeout : Timeout) (events : List Event) (play : List StepMade) (alarm : Alarm) (marks : List Mark) → Kept timeout events play alarm marks →
    length (asks play) ≡ length (events_from 0 events) → asks_more events marks ≡ false
asked-all timeout events play alarm marks kept all =
    let many = zip-length Named kept.asked.done (asks play) kept.asked.each in
    let whole = ap (λ (xs : List (ℕ × Event)). length xs) kept.asked.whole ∙ length-append kept.asked.done (to_ask 0 events marks) in
    let none : length (to_ask 0 events marks) ≡ 0 = omega (arith, many, whole, all) in
    no_unasked 0 events marks (nil_from_length (to_ask 0 events marks) none)

-- a poll that asks attempts the ask of the next event
asks-attempts : (timeout : Timeout) (events : List Event) (play : List StepMade) (alarm : Alarm) (marks : List Mark) (k : ℕ) (event : Event) → Kept timeout events play alarm marks →
    slice_get (events_from 0 events) (length (asks play)) ≡ Some (k, event) → (step : Step) × (polling timeout events alarm marks ≡ step ∷ []) × AsksFor event step
asks-attempts timeout events play alarm marks k event kept next = by (unasked_from 0 events marks) refl where
  many : length kept.asked.done ≡ length (asks play)
  many = zip-length Named kept.asked.done (asks play) kept.asked.each

  by : (o : Option ℕ) → unasked_from 0 events marks ≡ o → (step : Step) × (polling timeout events alarm marks ≡ step ∷ []) × AsksFor event step
  by None none =
      let nothing : to_ask 0 events marks ≡ [] = none_to_ask 0 events marks (ap (λ (o : Option ℕ). is_some o) none) in
      let whole : events_from 0 events ≡ kept.asked.done = kept.asked.whole ∙ ap (λ (xs : List (ℕ × Event)). kept.asked.done ++ xs) nothing ∙ append-nil kept.asked.done in
      let within = slice_get_within (events_from 0 events) (length (asks play)) (k, event) next in
      let long = ap (λ (xs : List (ℕ × Event)). length xs) whole in
      absurd (omega (arith, within, long, many))
  by (Some j) found =
      let first : AsksNext 0 events marks j j = asks_first events marks j found in
      let whole = kept.asked.whole ∙ ap (λ (xs : List (ℕ × Event)). kept.asked.done ++ xs) first.whole in
      let at : slice_get (events_from 0 events) (length (asks play)) ≡ Some (j, first.event) =
      ap (λ (xs : List (ℕ × Event)). slice_get xs (length (asks play))) whole
      ∙ ap (λ (n : ℕ). slice_get (kept.asked.done ++ (j, first.event) ∷ first.rest) n) (sym many) ∙ slice_get-here kept.asked.done (j, first.event) first.rest in
      let same = some_pair_parts j k first.event event (sym at ∙ next) in
      let asked = asks-for (registers timeout marks) first.event first.unasked in
      let stepping : asking (registers timeout marks) events marks ≡ Some asked.0 =
      ap (λ (o : Option ℕ). step_at (λ event mark. ask_step (registers timeout marks) event) events marks o) found
      ∙ ap (λ (o : Option Event). option_and_then (λ event. option_and_then (λ (mark : Mark). ask_step (registers timeout marks) event) (slice_get marks j)) o) first.there
      ∙ ap (λ (o : Option Mark). option_and_then (λ (mark : Mark). ask_step (registers timeout marks) first.event) o) first.marked ∙ asked.1 in (
        asked.0,
        ap (λ (b : Bool). cond b (option_to_list (asking (registers timeout marks) events marks))
            (cond (is_closing alarm marks) (option_to_list (dropping events marks)) (watching (take MOST_EVENTS events) marks ++ alarm_steps alarm))) (ap (λ (o : Option ℕ). is_some o) found)
            ∙ ap (λ (o : Option Step). option_to_list o) stepping,
        subst (λ (e : Event). AsksFor e asked.0) same.1 asked.2,
      )

-- what waits for an event is the step of its mark
event-attempts : (timeout : Timeout) (events : List Event) (play : List StepMade) (alarm : Alarm) (marks : List Mark) (k : ℕ) (event : Event) (mark : Mark) → Kept timeout events play alarm marks →
    is_over play ≡ false → slice_get events k ≡ Some event → slice_get marks k ≡ Some mark → WaitsForEvent events play k event (option_to_list (watch_step event mark))
event-attempts timeout events play alarm marks k event mark kept unended = by event mark where
  none : (e : Event) (m : Mark) → slice_get events k ≡ Some e → slice_get marks k ≡ Some m → spot_for e m ≡ None → (spot : Spot) → IsRegistered events play spot k → ⊥
  none e m there marked is spot registered =
      let at = kept.stands unended k spot registered in
      let so : None ≡ Some spot = sym is ∙ ap (λ (x : Event). spot_for x m) (same_Some e at.event (sym there ∙ at.there))
      ∙ ap (λ (x : Mark). spot_for at.event x) (same_Some m at.mark (sym marked ∙ at.marked)) ∙ at.is in cc

  by : (e : Event) (m : Mark) → slice_get events k ≡ Some e → slice_get marks k ≡ Some m → WaitsForEvent events play k e (option_to_list (watch_step e m))
  by (Sem sem) (Armed place) there marked =
      let spot = spots.Sem (ref_object sem) place in
      inl (spot, steps.Sem (ref_object sem) (sem_ops.PollEnd place), kept.armed k (Sem sem) (Armed place) spot there marked refl, refl, refl)
  by (Msgq queue) (Armed place) there marked =
      let spot = spots.Msgq (ref_object queue) place in
      inl (spot, steps.Msgq (ref_object queue) (msgq_ops.PollEnd place), kept.armed k (Msgq queue) (Armed place) spot there marked refl, refl, refl)
  by (Sig signal) m there marked = refl
  by Ignore m there marked = inr (none Ignore m there marked refl, refl)
  by (Sem sem) m there marked = inr (none (Sem sem) m there marked refl, refl)
  by (Msgq queue) m there marked = inr (none (Msgq queue) m there marked refl, refl)

-- what waits for the alarm is its end
alarm-attempts : (timeout : Timeout) (events : List Event) (play : List StepMade) (alarm : Alarm) (marks : List Mark) → Kept timeout events play alarm marks → is_over play ≡ false →
    WaitsForAlarm play (alarm_steps alarm)
alarm-attempts timeout events play alarm marks kept unended = by alarm refl where
  set : (moment : ℕ) → IsDue play moment → alarm ≡ Due moment
  set moment due = kept.set_due moment due (or_parts (list_any tells_ready play) (list_any is_alarm_end play) unended).1

  by : (a : Alarm) → alarm ≡ a → WaitsForAlarm play (alarm_steps a)
  by (Due moment) is = inl (moment, kept.due moment is, refl)
  by a is = inr (λ moment due. let so : a ≡ Due moment = sym is ∙ set moment due in cc, refl)

-- the marks of these events, from this position on, say of each what waits for it
abbrev AreAttempts : List Event → List StepMade → ℕ → List Event → List Mark → Type 0
AreAttempts events play n left marks = (i k : ℕ) (event : Event) (mark : Mark) → k ≡ n + i → slice_get left i ≡ Some event → slice_get marks i ≡ Some mark →
    WaitsForEvent events play k event (option_to_list (watch_step event mark))

later-attempts : (events : List Event) (play : List StepMade) (n : ℕ) (event : Event) (left : List Event) (mark : Mark) (marks : List Mark) →
    AreAttempts events play n (event ∷ left) (mark ∷ marks) → AreAttempts events play (n + 1) left marks
later-attempts events play n event left mark marks each i k e m at there known = each (suc i) k e m (omega (arith, at)) there known

each-attempts : (events : List Event) (play : List StepMade) (last : List Step) (n : ℕ) (left : List Event) (marks : List Mark) → length left ≤ length marks →
    AreAttempts events play n left marks → WaitsForAlarm play last → WaitsForEach events play (events_from n left) (watching left marks ++ last)
each-attempts events play last n [] marks long each ends = ends
each-attempts events play last n (event ∷ left) [] long each ends = absurd (omega (arith, long))
each-attempts events play last n (event ∷ left) (mark ∷ marks) long each ends =
    let more : WaitsForEach events play (events_from (n + 1) left) (watching left marks ++ last) =
    each-attempts events play last (n + 1) left marks (omega (arith, long)) (later-attempts events play n event left mark marks each) ends in
    by event (each 0 n event mark (omega arith) refl refl) more where
      by : (e : Event) → WaitsForEvent events play n e (option_to_list (watch_step e mark)) → WaitsForEach events play (events_from (n + 1) left) (watching left marks ++ last) →
          WaitsForEach events play (events_from n (e ∷ left)) (watching (e ∷ left) (mark ∷ marks) ++ last)
      by Ignore own more = more
      by (Sem sem) own more =
          (option_to_list (watch_step (Sem sem) mark), watching left marks ++ last, append_assoc (option_to_list (watch_step (Sem sem) mark)) (watching left marks) last, own, more)
      by (Msgq queue) own more =
          (option_to_list (watch_step (Msgq queue) mark), watching left marks ++ last, append_assoc (option_to_list (watch_step (Msgq queue) mark)) (watching left marks) last, own, more)
      by (Sig signal) own more =
          (option_to_list (watch_step (Sig signal) mark), watching left marks ++ last, append_assoc (option_to_list (watch_step (Sig signal) mark)) (watching left marks) last, own, more)

-- a poll that waits attempts just what waits for its events and its alarm
waits-attempts : (timeout : Timeout) (events : List Event) (play : List StepMade) (alarm : Alarm) (marks : List Mark) → Kept timeout events play alarm marks → length events ≤ MOST_EVENTS →
    length (asks play) ≡ length (events_from 0 events) → is_over play ≡ false → WaitsForAll events play (polling timeout events alarm marks)
waits-attempts timeout events play alarm marks kept few all unended =
    let none = asked-all timeout events play alarm marks kept all in
    let closes : is_closing alarm marks ≡ false = sym (over-is timeout events play alarm marks kept) ∙ unended in
    let stays : polling timeout events alarm marks ≡ watching events marks ++ alarm_steps alarm =
    ap (λ (b : Bool). cond b (option_to_list (asking (registers timeout marks) events marks))
    (cond (is_closing alarm marks) (option_to_list (dropping events marks)) (watching (take MOST_EVENTS events) marks ++ alarm_steps alarm))) none
    ∙ ap (λ (b : Bool). cond b (option_to_list (dropping events marks)) (watching (take MOST_EVENTS events) marks ++ alarm_steps alarm)) closes
    ∙ ap (λ (es : List Event). watching es marks ++ alarm_steps alarm) (all_taken events few) in
    subst (λ (attempts : List Step). WaitsForAll events play attempts) (sym stays)
    (each-attempts events play (alarm_steps alarm) 0 events marks (omega (arith, few, kept.size))
    (λ i k event mark at there marked. event-attempts timeout events play alarm marks k event mark kept unended
    (ap (λ (x : ℕ). slice_get events x) (omega (arith, at)) ∙ there) (ap (λ (x : ℕ). slice_get marks x) (omega (arith, at)) ∙ marked))
    (alarm-attempts timeout events play alarm marks kept unended))

-- and one whose waiting is over a step that gives a registration up
quits-attempts : (timeout : Timeout) (events : List Event) (play : List StepMade) (alarm : Alarm) (marks : List Mark) → Kept timeout events play alarm marks →
    is_answered timeout events alarm marks ≡ false → length (asks play) ≡ length (events_from 0 events) → is_over play ≡ true →
    (step : Step) × (polling timeout events alarm marks ≡ step ∷ []) × GivesUpFirst events play step
quits-attempts timeout events play alarm marks kept unanswered all over =
    let none = asked-all timeout events play alarm marks kept all in
    let closes : is_closing alarm marks ≡ true = sym (over-is timeout events play alarm marks kept) ∙ over in
    let some : list_any is_armed marks ≡ true = armed-left (asks_more events marks) (is_closing alarm marks) (not (waits timeout)) (list_any is_armed marks) none closes unanswered in
    let first = first_armed marks some in
    let at = known-at events marks first.0 first.1 kept.known first.3 first.4 in
    let quits = stands-attempts at.1.event at.1.mark at.0 at.1.is in
    let stepping : dropping events marks ≡ Some quits.1 =
    ap (λ (o : Option ℕ). step_at drop_step events marks o) first.2
    ∙ ap (λ (o : Option Event). option_and_then (λ event. option_and_then (drop_step event) (slice_get marks first.0)) o) at.1.there
    ∙ ap (λ (o : Option Mark). option_and_then (drop_step at.1.event) o) at.1.marked ∙ quits.4 in (
      quits.1,
      ap (λ (b : Bool). cond b (option_to_list (asking (registers timeout marks) events marks))
          (cond (is_closing alarm marks) (option_to_list (dropping events marks)) (watching (take MOST_EVENTS events) marks ++ alarm_steps alarm))) none
          ∙ ap (λ (b : Bool). cond b (option_to_list (dropping events marks)) (watching (take MOST_EVENTS events) marks ++ alarm_steps alarm)) closes
          ∙ ap (λ (o : Option Step). option_to_list o) stepping,
      record {
        place = first.0;
        spot = at.0;
        quits = quits.5;
        registered = kept.armed first.0 at.1.event at.1.mark at.0 at.1.there at.1.marked at.1.is;
        stands = λ test passes.
            let counts = standing-counts test events marks first.0 at.1.event at.1.mark at.0 at.1.there at.1.marked at.1.is passes in
            let same = kept.same test in
            omega (arith, counts, same);
        first = λ k other registered below. ⊎_elim
            (λ (standing : Standing events marks other k).
            let none = (position-Some is_armed marks first.0 Unasked first.2).2 k below in
            let mark = get_or_from_slice_get marks k standing.mark Unasked standing.marked in
            absurd (both_ways (is_armed standing.mark) (ap is_armed (sym mark) ∙ none) (spot_for-armed standing.event standing.mark other standing.is)))
            (λ (ended : Contains (endings play) other). ended)
            (kept.left k other registered);
      },
    ) where
      armed-left : (more closes stays armed : Bool) → more ≡ false → closes ≡ true → (not more && ((closes || stays) && not armed)) ≡ false → armed ≡ true
      armed-left true closes stays armed none over unended = absurd (cc)
      armed-left false false stays armed none over unended = absurd (cc)
      armed-left false true stays armed none over unended = not-false armed unended

-- a poll at its first stage, or at one with this alarm and these marks
goes-on : (timeout : Timeout) (events : List Event) (play : List StepMade) (alarm : Alarm) (marks : List Mark) → Kept timeout events play alarm marks → length events ≤ MOST_EVENTS →
    ((ticks : ℕ) → timeout ≡ Ticks ticks → play ≡ [] → ⊥) →
    (is_over play ≡ true → is_answered timeout events alarm marks ≡ false) → ((play ≡ [] → ⊥) → is_answered timeout events alarm marks ≡ false) →
    GoesOn timeout events play (polling timeout events alarm marks)
goes-on timeout events play alarm marks kept few later over unanswered = record {
  begins = λ ticks is none. absurd (later ticks is none);
  asking = λ begun k event next. asks-attempts timeout events play alarm marks k event kept next;
  waiting = λ begun all unended. waits-attempts timeout events play alarm marks kept few all unended;
  quitting = λ all is_one. quits-attempts timeout events play alarm marks kept (over is_one) all is_one;
  undone = λ some done. both_ways (is_answered timeout events alarm marks) (unanswered some) (done-answered timeout events play alarm marks kept done);
  each = kept.each;
  timed = kept.timed;
  alarm = kept.alarmed;
}

plain-goes : (timeout : Timeout) (events : List Event) → length events ≤ MOST_EVENTS → ((ticks : ℕ) → timeout ≡ Ticks ticks → ⊥) → GoesOn timeout events [] (polling timeout events Unset fresh)
plain-goes timeout events few plain =
    goes-on timeout events [] Unset fresh (kept-fresh timeout events few) few (λ ticks is none. plain ticks is) (λ over. absurd (cc)) (λ some. absurd (some refl))

start-goes : (timeout : Timeout) (events : List Event) → length events ≤ MOST_EVENTS → GoesOn timeout events [] (poll_attempts timeout events Start)
start-goes No events few = plain-goes No events few (λ ticks is. absurd (cc))
start-goes Forever events few = plain-goes Forever events few (λ ticks is. absurd (cc))
start-goes (Ticks ticks) events few = record {
  begins = λ n is none. ap (λ (t : Timeout). steps.Clock (clock_ops.Alarm (ticks_of t)) ∷ []) is;
  asking = λ begun k event next. absurd (begun ticks refl refl);
  waiting = λ begun all unended. absurd (begun ticks refl refl);
  quitting = λ all over. absurd (cc);
  undone = λ some done. some refl;
  each = λ before made stands free. absurd (nil-stands before made stands);
  timed = λ before made stands. absurd (nil-stands before made stands);
  alarm = λ before made stands. absurd (nil-stands before made stands);
}

pub poll_goes_on : OfEachStage GoesOn
poll_goes_on word timeout events few play stage led served =
    by stage (led-kept word timeout events [] Start play stage few refl led served) where
      by : (stage : Stage) → KeptAt timeout events play stage → GoesOn timeout events play (poll_attempts timeout events stage)
      by Start none = subst (λ (p : List StepMade). GoesOn timeout events p (poll_attempts timeout events Start)) (sym none) (start-goes timeout events few)
      by (Polls alarm marks) kept = goes-on timeout events play alarm marks kept.0 few kept.2 (λ over. kept.1) (λ some. kept.1)
      by stage kept = absurd kept
