-- What an entry changes beside the open admissions: the time, the entries, the queues, what is armed, and the waits.
use Rattle.zk_base.specs.Limits.{most_entries}
use Rattle.std.proofs.Common.{◌≡◌, ℕ, ◌+◌, ◌<◌, ◌≤◌, Bool, true, false, not, cond, Option, Some, None, List, [], ◌∷◌, ◌++◌, length, refl, sym, ap, ◌∙◌, arith}
use Rattle.std.specs.Option.{option_map_or}
use Rattle.std.proofs.lemmas.List.{append-nil}
use Rattle.std.proofs.lemmas.List.Elements.{All-append, All-cons, All-nil, filter-append}
use Rattle.zk_model_work.specs.declared.parts.Admission.{Admission}
use Rattle.zk_model_work.specs.declared.parts.Arm.{Arm}
use Rattle.zk_model_work.specs.declared.parts.Queue.{Queue}
use Rattle.zk_model_work.specs.declared.parts.Change.{Change}
use Rattle.zk_model_work.specs.declared.parts.Wait.{Wait}
use Rattle.zk_model_work.specs.declared.ops.Submitted.{Submitted}
use Rattle.zk_model_work.specs.Answers.{admitted_to}
use Rattle.zk_model_work.specs.Machine.{change, drain, stop, awaiting}
use Rattle.zk_model_work.specs.State.{State, IsCounted, IsTimed}
use Rattle.zk_model_work.proofs.Counts.{IsTimed-more, IsCounted-more, IsCounted-changed, IsCounted-drain, IsCounted-stop, length-change, length-drain, length-stop}
use Rattle.zk_time.specs.Timeouts.{Timeouts, IsOrdered}
use Rattle.zk_work.specs.EngineState.{EngineState, IsWhole, StandsFor, unanswered, is_there, timeouts_of}
use Rattle.zk_work.specs.Engine.{admitted, submitted}
use Rattle.zk_work.proofs.Awaited.{AllThere}

-- what a submission leaves alone, as each admission does
pub submitted-same : {B : Type 0} (f : EngineState → B) (k : EngineState) (item : ℕ) (a : Submitted) →
    ((queue : ℕ) → f (admitted k item queue) ≡ f k) →
    f (submitted k item a) ≡ f k
submitted-same {B} f k item a same = by (admitted_to a) where
  by : (o : Option ℕ) → f (option_map_or (admitted k item) o k) ≡ f k
  by None = refl
  by (Some queue) = same queue

-- an entry is counted before or after a submission
pub entries-later : (k : EngineState) (item : ℕ) (a : Submitted) →
    submitted (record k { entries = k.entries + 1 }) item a ≡ record (submitted k item a) { entries = k.entries + 1 }
entries-later k item a = by (admitted_to a) where
  by : (o : Option ℕ) →
      option_map_or (admitted (record k { entries = k.entries + 1 }) item) o (record k { entries = k.entries + 1 })
      ≡ record (option_map_or (admitted k item) o k) { entries = k.entries + 1 }
  by None = refl
  by (Some queue) = refl

-- what is kept is whole with other fields beside the open admissions
pub whole-beside : (k : EngineState) (time entries : ℕ) (t : Timeouts) (ws : List Wait) (qs : List Queue) → IsWhole k →
    IsCounted entries qs → IsTimed time entries → k.made + length t.live ≤ entries →
    t.items ≡ k.active.items → IsOrdered t → length qs ≡ k.active.queues →
    IsWhole (record k { time = time; entries = entries; timeouts = t; waits = ws; queues = qs })
whole-beside k time entries t ws qs w counted timed fewer armed ordered queues = record {
  counted = counted;
  timed = timed;
  fewer = fewer;
  fewest = w.fewest;
  items = w.items;
  armed = armed;
  ordered = ordered;
  queues = queues;
  shaped = w.shaped;
  above = w.above;
  busy = w.busy;
  known = w.known;
  numbered = w.numbered;
}

-- a change of the queues, at an entry that is counted
queues-stand : (f : List Queue → List Queue) (k : EngineState) (s : State) → StandsFor k s →
    IsCounted (k.entries + 1) (f k.queues) → length (f k.queues) ≡ length k.queues →
    StandsFor (record k { queues = f k.queues; entries = k.entries + 1 })
    (record s { queues = f s.queues; entries = s.entries + 1 })
queues-stand f k s st counted same =
    let w = st.whole in
    let fewer = w.fewer in
    record {
      whole = whole-beside k k.time (k.entries + 1) k.timeouts k.waits (f k.queues) w counted
          (IsTimed-more k.time k.entries w.timed) (omega arith)
          w.armed w.ordered (same ∙ w.queues);
      time = st.time;
      entries = ap (λ n. n + 1) st.entries;
      queues = ap f st.queues;
      arms = st.arms;
      waits = st.waits;
      admissions = st.admissions;
    }

-- an entry that changes nothing else
pub counted-stands : (k : EngineState) (s : State) → StandsFor k s → s.entries < most_entries →
    StandsFor (record k { entries = k.entries + 1 }) (record s { entries = s.entries + 1 })
counted-stands k s st few =
    let entries = st.entries in
    queues-stand (λ qs. qs) k s st (IsCounted-more k.entries k.queues st.whole.counted (omega arith)) refl

-- a change of a queue
pub change-stands : (c : Change) (k : EngineState) (s : State) (queue : ℕ) → StandsFor k s → s.entries < most_entries →
    StandsFor (record k { queues = change c k.queues queue; entries = k.entries + 1 })
    (record s { queues = change c s.queues queue; entries = s.entries + 1 })
change-stands c k s queue st few =
    let entries = st.entries in
    queues-stand (λ qs. change c qs queue) k s st
    (IsCounted-changed c k.entries queue k.queues st.whole.counted (omega arith)) (length-change c k.queues queue)

-- the queues after the start of a drain
pub drains-stand : (idle plug : Bool) (k : EngineState) (s : State) (queue : ℕ) → StandsFor k s → s.entries < most_entries →
    StandsFor (record k { queues = drain idle plug k.queues queue; entries = k.entries + 1 })
    (record s { queues = drain idle plug s.queues queue; entries = s.entries + 1 })
drains-stand idle plug k s queue st few =
    let entries = st.entries in
    let drained = IsCounted-drain idle plug k.entries queue k.queues st.whole.counted in
    queues-stand (λ qs. drain idle plug qs queue) k s st
    (IsCounted-more k.entries (drain idle plug k.queues queue) drained (omega arith))
    (length-drain idle plug k.queues queue)

-- the queues after a stop
pub stops-stand : (idle : Bool) (k : EngineState) (s : State) (queue : ℕ) → StandsFor k s → s.entries < most_entries →
    StandsFor (record k { queues = stop idle k.queues queue; entries = k.entries + 1 })
    (record s { queues = stop idle s.queues queue; entries = s.entries + 1 })
stops-stand idle k s queue st few =
    let entries = st.entries in
    let stopped = IsCounted-stop idle k.entries queue k.queues st.whole.counted in
    queues-stand (λ qs. stop idle qs queue) k s st
    (IsCounted-more k.entries (stop idle k.queues queue) stopped (omega arith)) (length-stop idle k.queues queue)

-- other waits
pub waits-stand : (k : EngineState) (s : State) (ws all : List Wait) → StandsFor k s → ws ≡ unanswered all →
    AllThere s.admissions all →
    StandsFor (record k { waits = ws }) (record s { waits = all })
waits-stand k s ws all st left there =
    let w = st.whole in
    record {
      whole = whole-beside k k.time k.entries k.timeouts ws k.queues w w.counted w.timed w.fewer w.armed w.ordered w.queues;
      time = st.time;
      entries = st.entries;
      queues = st.queues;
      arms = st.arms;
      waits = record { left = left; there = there };
      admissions = st.admissions;
    }

-- what holds of all waits, after one more
there-more : (xs : List Admission) (ws : List Wait) (o : Option Wait) →
    ((w : Wait) → o ≡ Some w → is_there xs w.awaited w.answered ≡ true) → AllThere xs ws → AllThere xs (awaiting ws o)
there-more xs ws None here all =
    let P : Wait → Type 0 = λ w. is_there xs w.awaited w.answered ≡ true in All-append P ws [] all (All-nil P)
there-more xs ws (Some w) here all =
    let P : Wait → Type 0 =
    λ w. is_there xs w.awaited w.answered ≡ true in All-append P ws (w ∷ []) all (All-cons P w [] (here w refl) (All-nil P))

-- one wait more, which isn't answered
unanswered-more : (ws : List Wait) (o : Option Wait) → ((w : Wait) → o ≡ Some w → w.answered ≡ false) →
    awaiting (unanswered ws) o ≡ unanswered (awaiting ws o)
unanswered-more ws None still = append-nil (unanswered ws) ∙ sym (ap unanswered (append-nil ws))
unanswered-more ws (Some w) still =
    sym (filter-append (λ (w : Wait). not w.answered) ws (w ∷ [])
    ∙ ap (λ b. unanswered ws ++ cond (not b) (w ∷ []) []) (still w refl))

-- one wait more
pub wait-stands : (o : Option Wait) (k : EngineState) (s : State) → StandsFor k s →
    ((w : Wait) → o ≡ Some w → w.answered ≡ false) →
    ((w : Wait) → o ≡ Some w → is_there s.admissions w.awaited w.answered ≡ true) →
    StandsFor (record k { waits = awaiting k.waits o }) (record s { waits = awaiting s.waits o })
wait-stands o k s st still there =
    waits-stand k s (awaiting k.waits o) (awaiting s.waits o) st
    (ap (λ (ws : List Wait). awaiting ws o) st.waits.left
    ∙ unanswered-more s.waits o still) (there-more s.admissions s.waits o there st.waits.there)

-- another timeout list, and the arms that it keeps
pub rearmed : (k : EngineState) (s : State) (t : Timeouts) (arms : List Arm) → StandsFor k s → t.items ≡ k.active.items →
    IsOrdered t →
    k.made + length t.live ≤ k.entries → t.live ≡ timeouts_of arms →
    StandsFor (record k { timeouts = t }) (record s { arms = arms })
rearmed k s t arms st items ordered fewer same =
    let w = st.whole in
    record {
      whole = whole-beside k k.time k.entries t k.waits k.queues w w.counted w.timed fewer items ordered w.queues;
      time = st.time;
      entries = st.entries;
      queues = st.queues;
      arms = same;
      waits = st.waits;
      admissions = st.admissions;
    }

-- another time
pub retimed : (k : EngineState) (s : State) (time : ℕ) → StandsFor k s → IsTimed time k.entries →
    StandsFor (record k { time = time }) (record s { time = time })
retimed k s time st timed =
    let w = st.whole in
    record {
      whole = whole-beside k time k.entries k.timeouts k.waits k.queues w w.counted timed w.fewer w.armed w.ordered w.queues;
      time = refl;
      entries = st.entries;
      queues = st.queues;
      arms = st.arms;
      waits = st.waits;
      admissions = st.admissions;
    }
