-- Where a sound world has ended, no admission waits or runs.
use Rattle.std.proofs.Common.{◌≡◌, ◌≢◌, ◌⊎◌, ℕ, ◌+◌, ◌<◌, Bool, true, false, not, ◌&&◌, cond, eqb, eq-eqb, Option, Some, None, is_some, List, [], ◌∷◌, ◌++◌, length, map, All, inl, inr, refl, sym, ap, subst, ◌∙◌, arith, length-append}
use Rattle.std.specs.List.{slice_get, range_with_len}
use Rattle.std.specs.Option.{option_map, option_map_or}
use Rattle.std.proofs.lemmas.Bool.{eqb-true}
use Rattle.std.proofs.lemmas.Bool.Decides.{eqb_tells}
use Rattle.std.proofs.lemmas.List.{length-map}
use Rattle.std.proofs.lemmas.List.Elements.{All-nil}
use Rattle.std.proofs.lemmas.List.FromFn.{length-range_with_len, get_or-range_with_len}
use Rattle.std.proofs.lemmas.Option.{slice_get-get_or, slice_get-map, slice_get_within, same_Some}
use Rattle.zk_base.specs.declared.ids.Who.{Who}
use Rattle.zk_base.specs.declared.ids.Entry.{Entry}
use Rattle.zk_base.specs.Legal.{state_after, IsLegal}
use Rattle.zk_base.proofs.Histories.{state_after-snoc, by_entries}
use Rattle.zk_base.proofs.Lists.{and_second, All-at, list_all-at}
use Rattle.zk_line.specs.declared.types.Decl.{Decl}
use Rattle.zk_line.specs.Objects.{places, is_thread, is_queue}
use Rattle.zk_model_work.specs.declared.ops.WorkOp.{WorkOp}
use Rattle.zk_model_work.specs.declared.ops.WorkOp.TheVariants as ops
use Rattle.zk_model_work.specs.declared.ops.WorkReply.{WorkReply}
use Rattle.zk_model_work.specs.declared.ops.WorkReply.TheVariants.{Done}
use Rattle.zk_model_work.specs.declared.parts.Admission.{Admission}
use Rattle.zk_model_work.specs.declared.parts.Life.{Life}
use Rattle.zk_model_work.specs.declared.parts.Life.TheVariants as lives
use Rattle.zk_model_work.specs.declared.parts.Queue.{Queue}
use Rattle.zk_model_work.specs.Answers.{is_worker}
use Rattle.zk_model_work.specs.Machine.{work_machine, work_reply, work_next}
use Rattle.zk_model_work.specs.Questions.{is_waiting, is_running, is_open, runs_on, run}
use Rattle.zk_model_work.specs.State.{State, fresh_queues}
use Rattle.zk_model_work.proofs.Runs.{RunsNone, idle-called, idle-ended, idle-next, homes-next, workers-next}
use Rattle.zk_scenario.specs.Content.{Content}
use Rattle.zk_worker.specs.declared.frames.Frame.{Frame}
use Rattle.zk_worker.specs.declared.frames.Role.{Role}
use Rattle.zk_worker.specs.declared.frames.Role.TheVariants.{Worker}
use Rattle.zk_worker.specs.declared.frames.Stage.{Stage}
use Rattle.zk_worker.specs.declared.frames.Stage.TheVariants.{Start, Runs}
use Rattle.zk_worker.specs.Follows.{is_done, is_between}
use Rattle.zk_worker.specs.Machines.{workers, work_start_of, is_on}
use Rattle.zk_worker.proofs.Ranges.{same-lengths}
use Rattle.zk_trace.specs.declared.trace.Ending.{Ending}
use Rattle.zk_trace.specs.declared.trace.Ending.TheVariants as endings
use Rattle.zk_trace.specs.declared.trace.Trace.{Trace}
use Rattle.zk_trace.specs.Ending.{none_waits}
use Rattle.zk_world.specs.Over.{IsOver}
use Rattle.zk_world.specs.Sound.{IsSound}
use Rattle.zk_world.specs.Tending.{begun_by, has_begun, IsWorkers, WorksQueue}
use Rattle.zk_world.specs.Traces.{all_done, ending_at, world_trace}
use Rattle.zk_world.specs.World.{World, is_spent}
use Rattle.zk_world.proofs.AtWork.{begun-snoc, begun-own, begun-other}
use Rattle.zk_world.proofs.Places.{there-is}

-- a state has the scenario's workers
abbrev HasWorkers : Content → State → Type 0
HasWorkers s st = map (λ queue. queue.worker) st.queues ≡ workers s.decls

-- what a history leaves: each admission is to a queue, each queue has its worker, and a queue whose worker has begun no run runs nothing
record IsTended (s : Content) (h : List (Entry WorkOp WorkReply)) (st : State) : Type 0 where
  homes : All (λ a. a.queue < length (places is_queue s.decls)) st.admissions
  has_workers : HasWorkers s st
  idle : (queue : ℕ) → queue < length (places is_queue s.decls) → has_begun (length (places is_thread s.decls) + queue) h ≡ false → RunsNone queue st.admissions

-- a number of a row
row-at : (a n i : ℕ) → i < n → slice_get (range_with_len a n) i ≡ Some (a + i)
row-at a n i within =
    slice_get-get_or (range_with_len a n) i 0 (omega (arith, length-range_with_len a n)) ∙ ap (λ (x : ℕ). Some x) (get_or-range_with_len a n i 0 within)

-- the worker of each queue
worker-of : (s : Content) (st : State) (queue : ℕ) → HasWorkers s st → queue < length (places is_queue s.decls) →
    slice_get (map (λ (q : Queue). q.worker) st.queues) queue ≡ Some (length (places is_thread s.decls) + queue)
worker-of s st queue has within =
    ap (λ (l : List ℕ). slice_get l queue) has ∙ row-at (length (places is_thread s.decls)) (length (places is_queue s.decls)) queue within

many-queues : (s : Content) (st : State) → HasWorkers s st → length st.queues ≡ length (places is_queue s.decls)
many-queues s st has =
    sym (length-map st.queues (λ (q : Queue). q.worker)) ∙ ap (λ (l : List ℕ). length l) has
    ∙ length-range_with_len (length (places is_thread s.decls)) (length (places is_queue s.decls))

-- each worker is that of one queue
one-queue : (s : Content) (st : State) (number queue : ℕ) → HasWorkers s st → is_worker st.queues number (length (places is_thread s.decls) + queue) ≡ true → number ≡ queue
one-queue s st number queue has is = by (slice_get st.queues number) refl is
  where
    threads : ℕ
    threads = length (places is_thread s.decls)

    by : (o : Option Queue) → slice_get st.queues number ≡ o → option_map_or (λ (q : Queue). eqb (threads + queue) q.worker) o false ≡ true → number ≡ queue
    by None there may = absurd (cc)
    by (Some q) there may =
        let within : number < length (places is_queue s.decls) = omega (arith, many-queues s st has, slice_get_within st.queues number q there) in
        let its = slice_get-map (λ (q : Queue). q.worker) st.queues number ∙ ap (option_map (λ (q : Queue). q.worker)) there in
        let same : threads + number ≡ q.worker = same_Some (threads + number) q.worker (sym (worker-of s st number has within) ∙ its) in
        omega (arith, same, eqb-true (threads + queue) q.worker may)

ends-as : (st : State) (who : Who) (queue : ℕ) (reply : WorkReply) → work_reply st who (ops.End queue) ≡ Some reply → is_worker st.queues queue who.number ≡ true
ends-as st who queue reply is = by (is_worker st.queues queue who.number) (is_some (run st.admissions queue)) is
  where
    by : (a b : Bool) → cond (a && b) (Some Done) None ≡ Some reply → a ≡ true
    by true b is = refl
    by false b is = absurd (cc)

-- a worker that has begun no run, or has ended it, leaves its queue idle by what it does
own-idle : (s : Content) (h : List (Entry WorkOp WorkReply)) (st : State) (who : Who) (op : WorkOp) (reply : WorkReply) (queue : ℕ) → IsTended s h st → queue < length (places is_queue s.decls) →
    who.number ≡ length (places is_thread s.decls) + queue → work_reply st who op ≡ Some reply → begun_by op (has_begun (length (places is_thread s.decls) + queue) h) ≡ false →
    RunsNone queue (work_next st who op).admissions
own-idle s h st who (ops.Begin number) reply queue tended within mine made none = absurd (cc)
own-idle s h st who (ops.End number) reply queue tended within mine made none =
    let same = one-queue s st number queue tended.has_workers (subst (λ (n : ℕ). is_worker st.queues number n ≡ true) mine (ends-as st who number reply made)) in
    subst (λ (q : ℕ). RunsNone q (work_next st who (ops.End number)).admissions) same (idle-ended number st.admissions)
own-idle s h st who op reply queue tended within mine made none = idle-called st who op queue tt (tended.idle queue within none)

tended-next : (s : Content) (h : List (Entry WorkOp WorkReply)) (st : State) (e : Entry WorkOp WorkReply) → IsTended s h st → work_reply st e.who e.op ≡ Some e.reply →
    IsTended s (h ++ e ∷ []) (work_next st e.who e.op)
tended-next s h st e tended made = record {
  homes = homes-next (length (places is_queue s.decls)) st e.who e.op (many-queues s st tended.has_workers) tended.homes;
  has_workers = workers-next st e.who e.op ∙ tended.has_workers;
  idle = λ queue within none. by queue within none (eqb_tells e.who.number (length (places is_thread s.decls) + queue));
}
  where
    by : (queue : ℕ) → queue < length (places is_queue s.decls) → has_begun (length (places is_thread s.decls) + queue) (h ++ e ∷ []) ≡ false →
        ((eqb e.who.number (length (places is_thread s.decls) + queue) ≡ true) × (e.who.number ≡ length (places is_thread s.decls) + queue))
        ⊎ ((eqb e.who.number (length (places is_thread s.decls) + queue) ≡ false) × (e.who.number ≢ length (places is_thread s.decls) + queue)) →
        RunsNone queue (work_next st e.who e.op).admissions
    by queue within none (inl mine) =
        let worker = length (places is_thread s.decls) + queue in
        own-idle s h st e.who e.op e.reply queue tended within mine.1 made (sym (begun-own worker (has_begun worker h) e mine.1) ∙ sym (begun-snoc worker h e) ∙ none)
    by queue within none (inr other) =
        let worker = length (places is_thread s.decls) + queue in
        idle-next st e.who e.op e.reply queue worker (worker-of s st queue tended.has_workers within) other.1 made
        (tended.idle queue within (sym (begun-other worker (has_begun worker h) e other.1) ∙ sym (begun-snoc worker h e) ∙ none))

fresh-workers : (ws : List ℕ) (on : List Bool) → length ws ≡ length on → map (λ (q : Queue). q.worker) (fresh_queues ws on) ≡ ws
fresh-workers [] on same = refl
fresh-workers (w ∷ ws) [] same = absurd (omega arith)
fresh-workers (w ∷ ws) (b ∷ bs) same = ap (λ (l : List ℕ). w ∷ l) (fresh-workers ws bs (omega arith))

tended-first : (s : Content) → IsTended s [] (work_start_of s)
tended-first s = record {
  homes = let Home : Admission → Type 0 = λ a. a.queue < length (places is_queue s.decls) in All-nil Home;
  has_workers = fresh-workers (workers s.decls) (map (is_on s.decls) (places is_queue s.decls)) (same-lengths s);
  idle = λ queue within none. let Idle : Admission → Type 0 = λ a. runs_on queue a ≡ false in All-nil Idle;
}

-- each legal history leaves this
tended-legal : (s : Content) (h : List (Entry WorkOp WorkReply)) → IsLegal work_machine (work_start_of s) h → IsTended s h (state_after work_machine (work_start_of s) h)
tended-legal s h legal =
    let start = work_start_of s in
    let Tended : List (Entry WorkOp WorkReply) → Type 0 = λ h. IsTended s h (state_after work_machine start h) in
    by_entries work_machine start Tended
    (λ h e replays made tended. subst (IsTended s (h ++ e ∷ [])) (sym (state_after-snoc work_machine start h e)) (tended-next s h (state_after work_machine start h) e tended made))
    [] h legal.0 (tended-first s)

-- a worker between two runs has begun none
done-none : (decls : List Decl) (queue : ℕ) (frames : List Frame) (begun : Bool) → WorksQueue decls queue frames begun → is_done frames ≡ true → begun ≡ false
done-none decls queue [] begun tends done = absurd tends
done-none decls queue (frame ∷ next ∷ below) begun tends done = absurd (cc)
done-none decls queue (frame ∷ []) begun tends done = by frame.role frame.stage tends done
  where
    by : (role : Role) (stage : Stage) → IsWorkers decls queue role stage begun → is_between role stage ≡ true → begun ≡ false
    by (Worker object) Start tends done = tends.1
    by (Worker object) Runs tends done = absurd (cc)
    by role stage tends done = absurd tends

not-open : (life : Life) → not (is_waiting life) ≡ true → is_running life ≡ false → is_open life ≡ false
not-open lives.Waiting waits runs = absurd (cc)
not-open lives.Running waits runs = absurd (cc)
not-open lives.Ended waits runs = refl
not-open lives.Dropped waits runs = refl

module _ (s : Content) (w : World) (sound : IsSound s w) (done : all_done w.players ≡ true) where
  abbrev state : State
  state = state_after work_machine (work_start_of s) w.shown.work

  tended : IsTended s w.shown.work state
  tended = tended-legal s w.shown.work sound.legal.work

  -- no queue runs anything
  none-runs : (queue : ℕ) → queue < length (places is_queue s.decls) → RunsNone queue state.admissions
  none-runs queue within =
      let worker = length (places is_thread s.decls) + queue in
      let there = there-is w.players worker (omega (arith, sound.as_many, length-append (places is_thread s.decls) (places is_queue s.decls))) in
      let at = there.0 in
      let number = sound.ready.numbers worker at there.1 in
      let works = sound.works worker at there.1 queue within number in
      let is = list_all-at (λ at. is_done at.frames) w.players worker at done there.1 in
      tended.idle queue within (ap (λ (n : ℕ). has_begun n w.shown.work) (sym number) ∙ done-none s.decls queue at.frames (has_begun at.who.number w.shown.work) works.tends is)

  none-open : none_waits state ≡ true → (number : ℕ) (a : Admission) → slice_get state.admissions number ≡ Some a → is_open a.life ≡ false
  none-open none number a is =
      let Home : Admission → Type 0 = λ b. b.queue < length (places is_queue s.decls) in
      let Idle : Admission → Type 0 = λ b. runs_on a.queue b ≡ false in
      let within = All-at Home state.admissions number a tended.homes is in
      not-open a.life (list_all-at (λ a. not (is_waiting a.life)) state.admissions number a none is)
      (and_second (eqb a.queue a.queue) (is_running a.life) (eq-eqb a.queue a.queue refl) (All-at Idle state.admissions number a (none-runs a.queue within) is))

-- what an ending says of the players and of what waits
ended-parts : (spent done none : Bool) → cond spent endings.Spent (cond (done && none) endings.Ended endings.Stuck) ≡ endings.Ended → (done ≡ true) × (none ≡ true)
ended-parts true done none is = absurd (cc)
ended-parts false true true is = (refl, refl)
ended-parts false true false is = absurd (cc)
ended-parts false false none is = absurd (cc)

life-closed : (o : Option Admission) (life : Life) → ((a : Admission) → o ≡ Some a → is_open a.life ≡ false) → option_map (λ a. a.life) o ≡ Some life → is_open life ≡ false
life-closed None life each is = absurd (cc)
life-closed (Some a) life each is = let same : a.life ≡ life = cc in subst (λ (l : Life). is_open l ≡ false) same (each a refl)

-- where the trace of a sound world has ended, none of its admissions waits or runs
pub sound-over : (s : Content) (w : World) → IsSound s w → IsOver s (world_trace s (ending_at s w) w)
sound-over s w sound ends number life is =
    let state = state_after work_machine (work_start_of s) w.shown.work in
    let parts = ended-parts (is_spent s w) (all_done w.players) (none_waits state) ends in
    life-closed (slice_get state.admissions number) life (λ a there. none-open s w sound parts.0 parts.1 number a there) is

-- the same of the trace that is made of it
pub trace-over : (s : Content) (w : World) (ending : Ending) (t : Trace) → IsSound s w → ending ≡ ending_at s w → t ≡ world_trace s ending w → IsOver s t
trace-over s w ending t sound is same =
    subst (IsOver s) (sym (same ∙ ap (λ (e : Ending). world_trace s e w) is)) (sound-over s w sound)
