-- What a call answers is of its word, where the replies to its steps are of their operations.
use Rattle.std.proofs.Common.{◌≡◌, ◌⊎◌, inl, inr, ℕ, Bool, true, false, Some, List, [], ◌∷◌, ◌++◌, map, refl, sym, ap, subst}
use Rattle.std.specs.List.{slice_get}
use Rattle.zk_base.proofs.Lists.{slice_get-one}
use Rattle.zk_base.specs.declared.errors.Errno.{Errno}
use Rattle.zk_line.specs.Calls.{word_of}
use Rattle.zk_line.specs.declared.types.Call.{Call}
use Rattle.zk_line.specs.declared.types.Call.TheVariants as calls
use Rattle.zk_line.specs.declared.types.Decl.{Decl}
use Rattle.zk_words.specs.declared.word.Word.{Word}
use Rattle.zk_words.specs.declared.word.Word.TheVariants as words
use Rattle.zk_model_wait.specs.declared.clock.ClockOp.TheVariants as clock_ops
use Rattle.zk_model_wait.specs.declared.msgq.MsgqReply.TheVariants as msgq_replies
use Rattle.zk_model_wait.specs.declared.sem.SemReply.TheVariants as sem_replies
use Rattle.zk_model_wait.specs.declared.signal.SignalOp.{SignalOp}
use Rattle.zk_model_wait.specs.declared.signal.SignalOp.TheVariants as signal_ops
use Rattle.zk_model_work.specs.declared.ops.Submitted.TheVariants as submissions
use Rattle.zk_model_work.specs.declared.ops.WorkOp.{WorkOp}
use Rattle.zk_model_work.specs.declared.ops.WorkOp.TheVariants as ops
use Rattle.zk_model_work.specs.declared.ops.WorkReply.{WorkReply}
use Rattle.zk_model_work.specs.declared.ops.WorkReply.TheVariants as replies
use Rattle.zk_worker.specs.declared.answers.Answer.{Answer}
use Rattle.zk_worker.specs.declared.answers.Answer.TheVariants as answers
use Rattle.zk_worker.specs.declared.frames.Closing.{Closing}
use Rattle.zk_worker.specs.declared.frames.Closing.TheVariants as closings
use Rattle.zk_worker.specs.declared.frames.Plan.{Plan}
use Rattle.zk_worker.specs.declared.frames.Plan.TheVariants.{One, Pair, Twice, Wait}
use Rattle.zk_worker.specs.declared.frames.Stage.{Stage}
use Rattle.zk_worker.specs.declared.frames.Stage.TheVariants as stages
use Rattle.zk_worker.specs.declared.frames.Using.TheVariants.{Publish, Notify, Read}
use Rattle.zk_worker.specs.declared.frames.Waiting.TheVariants.{Take, Put, Get, Claim, SubWait}
use Rattle.zk_worker.specs.declared.steps.Step.{Step}
use Rattle.zk_worker.specs.declared.steps.Step.TheVariants as steps
use Rattle.zk_worker.specs.declared.steps.StepReply.{StepReply}
use Rattle.zk_worker.specs.declared.steps.StepReply.TheVariants as step_replies
use Rattle.zk_worker.specs.Calls.{plan_of, closing_step, plan_attempts, plan_progress}
use Rattle.zk_worker.specs.Refs.{ref_object, ref_number}
use Rattle.zk_worker.specs.Replies.{work_answer, sem_answer, msgq_answer, chan_answer, obs_answer, table_answer, answer_of}
use Rattle.zk_worker.specs.Waits.{opening_progress, wait_progress}
use Rattle.zk_trace.specs.AnswerRead.{refusals, FitsAnswer}
use Rattle.zk_blocks.specs.Choices.{IsIn}
use Rattle.zk_trace.specs.Work as work
use Rattle.zk_trace.specs.WorkRead as work_read
use Rattle.zk_trace.specs.Table as table
use Rattle.zk_trace.specs.TableRead as table_read
use Rattle.zk_trace.specs.Sem as sem
use Rattle.zk_trace.specs.SemRead as sem_read
use Rattle.zk_trace.specs.Msgq as msgq
use Rattle.zk_trace.specs.MsgqRead as msgq_read
use Rattle.zk_trace.specs.Chan as chan
use Rattle.zk_trace.specs.ChanRead as chan_read
use Rattle.zk_trace.specs.Obs as obs
use Rattle.zk_trace.specs.ObsRead as obs_read
use Rattle.zk_trace.specs.declared.sem.Verb.TheVariants as sem_verbs
use Rattle.zk_trace.specs.declared.work.Verb.TheVariants as work_verbs
use Rattle.std.specs.List.{AllByRecursion}
use Rattle.zk_trace.specs.Fields.{IsMessage}
use Rattle.zk_trace.proofs.LooksFit.{all-append}
use Rattle.zk_trace.proofs.Suited.{in-each, Told, Suits, StageSuits, ProgressSuits}
use Rattle.zk_trace.proofs.WaitAnswers.{Any, wait-well, channel-suits, waits-suits, take-fits, put-fits, get-fits, claim-fits, sub-fits, publish-fits, notify-fits, read-fits, poll-suits}

-- what is one of some is, changed, one of those changed
in-map : {A B : Type 0} (f : A → B) (xs : List A) (x : A) → IsIn x xs → IsIn (f x) (map f xs)
in-map f [] x is = absurd is
in-map f (y ∷ ys) x (inl same) = inl (ap f same)
in-map f (y ∷ ys) x (inr more) = inr (in-map f ys x more)

module _ (decls : List Decl) where
  -- Calls of one step.

  -- each number suits a word
  abbrev Counts : Word → Type 0
  Counts word = (n : ℕ) → Suits decls word (answers.Number n)

  -- what a step may answer that is the same in each line
  abbrev fixed_answers : Step → List Answer
  fixed_answers (steps.Work op) = map work_answer (work_read.fixed_replies (work.said_of op).0)
  fixed_answers (steps.Table op) = map table_answer (table_read.fixed_replies (table.said_of op).0)
  fixed_answers (steps.Sem object op) = map sem_answer (sem_read.fixed_replies (sem.said_of op).0)
  fixed_answers (steps.Msgq object op) = map msgq_answer (msgq_read.fixed_replies (msgq.said_of op).0)
  fixed_answers (steps.Chan object op) = map chan_answer (chan_read.fixed_replies (chan.said_of op).0)
  fixed_answers (steps.Obs object op) = map obs_answer (obs_read.fixed_replies (obs.said_of op).0)
  fixed_answers step = []

  -- what else it may answer suits a word
  abbrev OpenSuits : {R : Type 0} → Word → (R → Answer) → (R → Type 0) → Type 0
  OpenSuits {R} word answer FitsOpen = (r : R) → FitsOpen r → Suits decls word (answer r)

  abbrev OthersSuit : Word → Step → Type 0
  OthersSuit word (steps.Work op) = OpenSuits word work_answer (work_read.FitsOpen decls (work.said_of op).0)
  OthersSuit word (steps.Table op) = OpenSuits word table_answer (table_read.FitsOpen decls (table.said_of op).0)
  OthersSuit word (steps.Sem object op) = OpenSuits word sem_answer (sem_read.FitsOpen decls (sem.said_of op).0)
  OthersSuit word (steps.Msgq object op) = OpenSuits word msgq_answer (msgq_read.FitsOpen decls (msgq.said_of op).0)
  OthersSuit word (steps.Chan object op) = OpenSuits word chan_answer (chan_read.FitsOpen decls (chan.said_of op).0)
  OthersSuit word (steps.Obs object op) = OpenSuits word obs_answer (obs_read.FitsOpen decls (obs.said_of op).0)
  OthersSuit word step = OpenSuits word answer_of (Told decls step)

  -- what a word can be refused with suits it
  refusals-suit : (word : Word) (errnos : List Errno) → ((e : Errno) → IsIn e errnos → IsIn e (refusals word)) →
      AllByRecursion (Suits decls word) (map answers.Refused errnos)
  refusals-suit word [] each = tt
  refusals-suit word (e ∷ es) each = (λ sized. inl (each e (inl refl)), refusals-suit word es (λ x is. each x (inr is)))

  -- what a step answers suits a word: some answers that suit it, then its refusals, and others that suit it
  module _ (word : Word) (first : List Answer) (each : AllByRecursion (Suits decls word) first) where
    abbrev expected : List Answer
    expected = first ++ map answers.Refused (refusals word)

    expected-suit : AllByRecursion (Suits decls word) expected
    expected-suit =
        all-append (Suits decls word) first (map answers.Refused (refusals word)) each
        (refusals-suit word (refusals word) (λ e is. is))

    reply-suits : {R : Type 0} {FitsOpen : R → Type 0} (answer : R → Answer) (fixed : List R) → map answer fixed ≡ expected →
        OpenSuits word answer FitsOpen → (r : R) → IsIn r fixed ⊎ FitsOpen r → Suits decls word (answer r)
    reply-suits answer fixed same others r (inl is) =
        in-each (Suits decls word) (map answer fixed) (subst (AllByRecursion (Suits decls word)) (sym same) expected-suit)
        (answer r) (in-map answer fixed r is)
    reply-suits answer fixed same others r (inr fits) = others r fits

    told-suits : (step : Step) → fixed_answers step ≡ expected → OthersSuit word step →
        (r : StepReply) → Told decls step r → Suits decls word (answer_of r)
    told-suits (steps.Work op) same others (step_replies.Work r place) told =
        reply-suits work_answer (work_read.fixed_replies (work.said_of op).0) same others r told
    told-suits (steps.Table op) same others (step_replies.Table r place) told =
        reply-suits table_answer (table_read.fixed_replies (table.said_of op).0) same others r told
    told-suits (steps.Sem object op) same others (step_replies.Sem at r place) told =
        reply-suits sem_answer (sem_read.fixed_replies (sem.said_of op).0) same others r told
    told-suits (steps.Msgq object op) same others (step_replies.Msgq at r place) told =
        reply-suits msgq_answer (msgq_read.fixed_replies (msgq.said_of op).0) same others r told
    told-suits (steps.Chan object op) same others (step_replies.Chan at r place) told =
        reply-suits chan_answer (chan_read.fixed_replies (chan.said_of op).0) same others r told
    told-suits (steps.Obs object op) same others (step_replies.Obs at r place) told =
        reply-suits obs_answer (obs_read.fixed_replies (obs.said_of op).0) same others r told
    told-suits (steps.Clock op) same others r told = others r told
    told-suits (steps.Signal object op) same others r told = others r told
    told-suits (steps.LookItem object) same others r told = others r told
    told-suits (steps.LookSignal object must) same others r told = others r told
    told-suits step same others r told = absurd told

    one-suits : (step : Step) → fixed_answers step ≡ expected → OthersSuit word step →
        (stage : Stage) (k : ℕ) (made : Step) (reply : StepReply) → slice_get (plan_attempts (One step) stage) k ≡ Some made →
        Told decls made reply → Suits decls word (answer_of reply)
    one-suits step same others stages.Start k made reply ahead told =
        let only : step ≡ made = slice_get-one step made k ahead in
        told-suits step same others reply (subst (λ (x : Step). Told decls x reply) (sym only) told)
    one-suits step same others stage k made reply ahead told = absurd (cc)

  -- What isn't the same in each line.

  admitted-suits : (word : Word) → Counts word → OpenSuits word work_answer (work_read.FitsSub decls)
  admitted-suits word counts (replies.Sub (submissions.Fresh number queue)) fits = counts 1
  admitted-suits word counts (replies.Sub (submissions.Rerun number queue)) fits = counts 2
  admitted-suits word counts (replies.Sub submitted) fits = absurd fits
  admitted-suits word counts r fits = absurd fits

  flags-suit : OpenSuits words.Cancel work_answer (work_read.FitsOpen decls work_verbs.Cancel)
  flags-suit (replies.Flags flags) fits = λ sized. inr (inr fits)
  flags-suit r fits = absurd fits

  time-suits : (word : Word) → Counts word → OpenSuits word work_answer work_read.FitsNumber
  time-suits word counts (replies.Number number) fits = counts number
  time-suits word counts r fits = absurd fits

  busy-suits : (item : ℕ) → OpenSuits words.Busy answer_of (Told decls (steps.LookItem item))
  busy-suits item (step_replies.Flags flags at) told = λ sized. inr (inr told)
  busy-suits item r told = absurd told

  count-suits : OpenSuits words.Count sem_answer (sem_read.FitsOpen decls sem_verbs.Count)
  count-suits (sem_replies.Number number) fits = λ sized. inr (inr sized)
  count-suits r fits = absurd fits

  message-suits : (word : Word) → ((message : List ℕ) → IsMessage message → FitsAnswer decls word (answers.Bytes message)) →
      OpenSuits word msgq_answer msgq_read.IsBytes
  message-suits word each (msgq_replies.Bytes message) fits = λ sized. each message fits
  message-suits word each r fits = absurd fits

  room-suits : (word : Word) → Counts word → OpenSuits word msgq_answer msgq_read.IsNumber
  room-suits word counts (msgq_replies.Number number) fits = counts number
  room-suits word counts r fits = absurd fits

  write-suits : (object : ℕ) (op : SignalOp) (word : Word) → Counts word →
      OpenSuits word answer_of (Told decls (steps.Signal object op))
  write-suits object op word counts (step_replies.Signal at r place) told = counts 0
  write-suits object op word counts r told = absurd told

  check-suits : (object : ℕ) (must : Bool) → OpenSuits words.Check answer_of (Told decls (steps.LookSignal object must))
  check-suits object must (step_replies.Seen seen) told = λ sized. inr (inr (told, sized))
  check-suits object must r told = absurd told

  -- Calls of two steps.

  -- what the opening step does, as a call of two steps
  abbrev Opens : Plan → Word → WorkReply → Type 0
  Opens plan word r = (place : ℕ) → ProgressSuits decls plan (opening_progress word (step_replies.Work r place))

  cancel_start-opens : (plan : Plan) (r : WorkReply) → work_read.AnswersTo decls work_verbs.CancelStart r → Opens plan words.CancelSync r
  cancel_start-opens plan r (inl is) =
      in-each (λ r. Opens plan words.CancelSync r) (work_read.fixed_replies work_verbs.CancelStart) (λ place. tt, (λ place sized. inr (inr tt), (λ place sized. inr (inr tt), tt))) r is
  cancel_start-opens plan r (inr fits) = absurd fits

  flush_start-opens : (plan : Plan) (r : WorkReply) → work_read.AnswersTo decls work_verbs.FlushStart r → Opens plan words.Flush r
  flush_start-opens plan r (inl is) =
      in-each (λ r. Opens plan words.Flush r) (work_read.fixed_replies work_verbs.FlushStart) (λ place sized. inr (inr tt), (λ place sized. inr (inr tt), tt)) r is
  flush_start-opens plan (replies.WaitFor admission) (inr fits) = λ place. tt
  flush_start-opens plan r (inr fits) = absurd fits

  drain_start-opens : (plan : Plan) (r : WorkReply) → work_read.AnswersTo decls work_verbs.DrainStart r → Opens plan words.Drain r
  drain_start-opens plan r (inl is) = in-each (λ r. Opens plan words.Drain r) (work_read.fixed_replies work_verbs.DrainStart) (λ place. tt, tt) r is
  drain_start-opens plan (replies.Number number) (inr fits) = λ place sized. inr (inr sized)
  drain_start-opens plan r (inr fits) = absurd fits

  pair-suits : (word : Word) (op : WorkOp) (closing : Closing) (stage : Stage) (k : ℕ) (made : Step) (reply : StepReply) →
      ((r : WorkReply) → work_read.AnswersTo decls (work.said_of op).0 r → Opens (Pair (steps.Work op) closing) word r) → ((place : ℕ) (r : StepReply) → Told decls (closing_step closing place) r → Suits decls word (answer_of r)) →
      slice_get (plan_attempts (Pair (steps.Work op) closing) stage) k ≡ Some made → Told decls made reply → ProgressSuits decls (Pair (steps.Work op) closing) (plan_progress word (Pair (steps.Work op) closing) stage made reply)
  pair-suits word op closing stages.Start k made reply opens closes ahead told = by reply (subst (λ (x : Step). Told decls x reply) (sym (slice_get-one (steps.Work op) made k ahead)) told) where
    by : (reply : StepReply) → Told decls (steps.Work op) reply → ProgressSuits decls (Pair (steps.Work op) closing) (opening_progress word reply)
    by (step_replies.Work r place) told = opens r told place
    by reply told = absurd told
  pair-suits word op closing (stages.Waits place) k made reply opens closes ahead told =
      closes place reply (subst (λ (x : Step). Told decls x reply) (sym (slice_get-one (closing_step closing place) made k ahead)) told)
  pair-suits word op closing stage k made reply opens closes ahead told = absurd (cc)

  tick-suits : (ticks : ℕ) (stage : Stage) (k : ℕ) (made : Step) (reply : StepReply) → let plan : Plan = Twice (steps.Work (ops.Announce ticks)) (steps.Clock (clock_ops.Announce ticks)) in
      slice_get (plan_attempts plan stage) k ≡ Some made → Told decls made reply → ProgressSuits decls plan (plan_progress words.Tick plan stage made reply)
  tick-suits ticks stages.Start k made reply ahead told = tt
  tick-suits ticks stages.Halfway k made reply ahead told = by reply (subst (λ (x : Step). Told decls x reply) (sym (slice_get-one (steps.Clock (clock_ops.Announce ticks)) made k ahead)) told) where
    by : (reply : StepReply) → Told decls (steps.Clock (clock_ops.Announce ticks)) reply → Suits decls words.Tick (answer_of reply)
    by (step_replies.Clock r place) told = λ sized. inr (inr sized)
    by reply told = absurd told
  tick-suits ticks stage k made reply ahead told = absurd (cc)

  -- whether something ran, or was waited for
  abbrev truths : List Answer
  truths = answers.Truth true ∷ answers.Truth false ∷ []

  -- done with 0, or with 0 or 1
  abbrev zero_one : List Answer
  zero_one = answers.Number 0 ∷ answers.Number 1 ∷ []

  -- All calls.

  -- what a step of a call does to it suits it
  pub call-suits : (call : Call) (stage : Stage) (k : ℕ) (made : Step) (reply : StepReply) → StageSuits decls stage (plan_of decls call) → slice_get (plan_attempts (plan_of decls call) stage) k ≡ Some made → Told decls made reply →
      ProgressSuits decls (plan_of decls call) (plan_progress (word_of call) (plan_of decls call) stage made reply)
  call-suits (calls.Submit item queue) stage k made reply suits ahead told =
      one-suits words.Submit (answers.Number 0 ∷ []) (λ sized. inr (inr sized), tt) _ refl
      (admitted-suits words.Submit (λ n sized. inr (inr sized))) stage k made reply ahead told
  call-suits (calls.Cancel item) stage k made reply suits ahead told =
      one-suits words.Cancel [] tt _ refl flags-suit stage k made reply ahead told
  call-suits (calls.CancelSync item) stage k made reply suits ahead told =
      let op : WorkOp = ops.CancelStart (ref_number decls item) in
      pair-suits words.CancelSync op closings.Cancel stage k made reply
      (cancel_start-opens (Pair (steps.Work op) closings.Cancel))
      (λ place. told-suits words.CancelSync truths (λ sized. inr (inr tt), (λ sized. inr (inr tt), tt))
      (steps.Work (ops.CancelDone place)) refl (λ r none. absurd none))
      ahead told
  call-suits (calls.Flush item) stage k made reply suits ahead told =
      let op : WorkOp = ops.FlushStart (ref_number decls item) in
      pair-suits words.Flush op closings.Flush stage k made reply (flush_start-opens (Pair (steps.Work op) closings.Flush))
      (λ place. told-suits words.Flush truths (λ sized. inr (inr tt), (λ sized. inr (inr tt), tt))
      (steps.Work (ops.FlushDone place)) refl (λ r none. absurd none))
      ahead told
  call-suits (calls.Schedule item queue delay) stage k made reply suits ahead told =
      one-suits words.Schedule zero_one (λ sized. inr (inr sized), (λ sized. inr (inr sized), tt)) _ refl
      (admitted-suits words.Schedule (λ n sized. inr (inr sized))) stage k made reply ahead told
  call-suits (calls.Reschedule item queue delay) stage k made reply suits ahead told =
      one-suits words.Reschedule zero_one (λ sized. inr (inr sized), (λ sized. inr (inr sized), tt)) _ refl
      (admitted-suits words.Reschedule (λ n sized. inr (inr sized))) stage k made reply ahead told
  call-suits (calls.Remaining item) stage k made reply suits ahead told =
      one-suits words.Remaining [] tt _ refl
      (time-suits words.Remaining (λ n sized. inr (inr sized))) stage k made reply ahead told
  call-suits (calls.Busy item) stage k made reply suits ahead told =
      one-suits words.Busy [] tt _ refl (busy-suits (ref_object item)) stage k made reply ahead told
  call-suits (calls.Drain queue plug) stage k made reply suits ahead told =
      let op : WorkOp = ops.DrainStart (ref_number decls queue) plug in
      pair-suits words.Drain op closings.Drain stage k made reply (drain_start-opens (Pair (steps.Work op) closings.Drain))
      (λ place. told-suits words.Drain [] tt (steps.Work (ops.DrainDone place)) refl
      (time-suits words.Drain (λ n sized. inr (inr sized))))
      ahead told
  call-suits (calls.Tick ticks) stage k made reply suits ahead told = tick-suits ticks stage k made reply ahead told
  call-suits (calls.Take object timeout) stage k made reply suits ahead told =
      waits-suits decls (Wait (Take (ref_object object)) timeout) (wait_progress words.Take stage reply)
      (wait-well decls (Any decls) words.Take (Take (ref_object object)) (take-fits decls (ref_object object)) timeout stage k made reply tt ahead told)
  call-suits (calls.Count object) stage k made reply suits ahead told =
      one-suits words.Count [] tt _ refl count-suits stage k made reply ahead told
  call-suits (calls.Put object message timeout) stage k made reply suits ahead told =
      waits-suits decls (Wait (Put (ref_object object) message) timeout) (wait_progress words.Put stage reply)
      (wait-well decls (Any decls) words.Put (Put (ref_object object) message) (put-fits decls (ref_object object) message) timeout stage k made reply tt ahead told)
  call-suits (calls.Get object timeout) stage k made reply suits ahead told =
      waits-suits decls (Wait (Get (ref_object object)) timeout) (wait_progress words.Get stage reply)
      (wait-well decls (Any decls) words.Get (Get (ref_object object)) (get-fits decls (ref_object object)) timeout stage k made reply tt ahead told)
  call-suits (calls.Peek object) stage k made reply suits ahead told =
      one-suits words.Peek [] tt _ refl (message-suits words.Peek (λ message fits. inr (inr fits))) stage k made reply ahead told
  call-suits (calls.PeekAt object index) stage k made reply suits ahead told =
      one-suits words.PeekAt [] tt _ refl
      (message-suits words.PeekAt (λ message fits. inr (inr fits))) stage k made reply ahead told
  call-suits (calls.Used object) stage k made reply suits ahead told =
      one-suits words.Used [] tt _ refl (room-suits words.Used (λ n sized. inr (inr sized))) stage k made reply ahead told
  call-suits (calls.Free object) stage k made reply suits ahead told =
      one-suits words.Free [] tt _ refl (room-suits words.Free (λ n sized. inr (inr sized))) stage k made reply ahead told
  call-suits (calls.Raise object value) stage k made reply suits ahead told =
      let op : SignalOp = signal_ops.Raise value in
      one-suits words.Raise [] tt _ refl
      (write-suits (ref_object object) op words.Raise (λ n sized. inr (inr sized))) stage k made reply ahead told
  call-suits (calls.Clear object) stage k made reply suits ahead told =
      one-suits words.Clear [] tt _ refl
      (write-suits (ref_object object) signal_ops.Clear words.Clear (λ n sized. inr (inr sized))) stage k made reply ahead told
  call-suits (calls.Check object) stage k made reply suits ahead told =
      one-suits words.Check [] tt _ refl (check-suits (ref_object object) false) stage k made reply ahead told
  call-suits (calls.Poll timeout events) stage k made reply suits ahead told = poll-suits decls timeout events stage made reply suits
  call-suits (calls.Claim object timeout) stage k made reply suits ahead told =
      waits-suits decls (Wait (Claim (ref_object object)) timeout) (wait_progress words.Claim stage reply)
      (wait-well decls (Any decls) words.Claim (Claim (ref_object object)) (claim-fits decls (ref_object object)) timeout stage k made reply tt ahead told)
  call-suits (calls.SubWait object timeout) stage k made reply suits ahead told =
      waits-suits decls (Wait (SubWait (ref_object object)) timeout) (wait_progress words.SubWait stage reply)
      (wait-well decls (Any decls) words.SubWait (SubWait (ref_object object)) (sub-fits decls (ref_object object)) timeout stage k made reply tt ahead told)
  call-suits (calls.Publish object message timeout) stage k made reply suits ahead told =
      channel-suits decls words.Publish (ref_object object) (Publish message) timeout (publish-fits decls (ref_object object) message timeout) stage k made reply suits ahead told
  call-suits (calls.Notify object timeout) stage k made reply suits ahead told =
      channel-suits decls words.Notify (ref_object object) Notify timeout (notify-fits decls (ref_object object) timeout) stage k made reply suits ahead told
  call-suits (calls.Read object timeout) stage k made reply suits ahead told =
      channel-suits decls words.Read (ref_object object) Read timeout (read-fits decls (ref_object object) timeout) stage k made reply suits ahead told
  -- the others are of one step that is done, or refused as its word can be
  call-suits call stage k made reply suits ahead told =
      one-suits (word_of call) (answers.Number 0 ∷ []) (λ sized. inr (inr sized), tt) _ refl
      (λ r none. absurd none) stage k made reply ahead told
