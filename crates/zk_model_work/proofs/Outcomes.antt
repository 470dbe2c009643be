-- What becomes of an admission, and by which entry.
use Rattle.std.proofs.Common.{◌≡◌, ℕ, true, cond, eqb, Some, option_map, List, [], ◌∷◌, ◌++◌, slice_get, refl, sym, ap, ◌∙◌}
use Rattle.std.specs.Cmp.{first_so, second_so}
use Rattle.std.proofs.lemmas.Bool.{eqb-true, eq-eqb, and_from}
use Rattle.std.proofs.lemmas.Option.{slice_get-map}
use Rattle.zk_base.specs.declared.ids.Entry.{Entry}
use Rattle.zk_base.specs.Legal.{state_after}
use Rattle.zk_base.proofs.Histories.{state_after-append, Replays-rest}
use Rattle.zk_model_work.specs.declared.parts.Life.{Life}
use Rattle.zk_model_work.specs.declared.parts.Life.TheVariants.{Waiting, Running, Ended, Dropped}
use Rattle.zk_model_work.specs.declared.parts.Admission.{Admission}
use Rattle.zk_model_work.specs.declared.ops.WorkOp.{WorkOp}
use Rattle.zk_model_work.specs.declared.ops.WorkOp.TheVariants.{Submit, Cancel, CancelStart, CancelDone, FlushStart, FlushDone, Schedule, Reschedule, Remaining, Start, DrainStart, DrainDone, Unplug, Stop, Announce, Begin, End}
use Rattle.zk_model_work.specs.declared.ops.WorkReply.{WorkReply}
use Rattle.zk_model_work.specs.declared.ops.WorkReply.TheVariants.{Run}
use Rattle.zk_model_work.specs.Questions.{is_waiting, is_running}
use Rattle.zk_model_work.specs.State.{State}
use Rattle.zk_model_work.specs.Machine.{work_reply, work_next, work_machine, with_life, begin, end_one}
use Rattle.zk_model_work.specs.Histories.{OfEach, ends, admission_after}
use Rattle.zk_model_work.specs.Laws.{AdmissionStays, OutcomeStays, BegunFromItsQueue, EndedByItsEnd}
use Rattle.zk_model_work.proofs.Moves.{is_begin}
use Rattle.zk_model_work.proofs.Lives.{Keeps, Kept-after, IsFirst-line, set_life-at}
use Rattle.zk_model_work.proofs.Begins.{Begun-reply, Replays-parts}
use Rattle.zk_model_work.proofs.Overlaps.{begin-is, same_item}

-- what the front holds is kept in the whole
pub kept-in_whole : (start : State) (h front rest : List (Entry WorkOp WorkReply)) (number : ℕ) (a : Admission) →
    h ≡ front ++ rest → admission_after start front number ≡ Some a →
    (b : Admission) × (admission_after start h number ≡ Some b) × Keeps a b
kept-in_whole start h front rest number a parts at =
    let kept = Kept-after (state_after work_machine start front) rest number a at in (
      kept.0,
      ap (λ (l : List (Entry WorkOp WorkReply)). admission_after start l number) parts
          ∙ ap (λ (s : State). slice_get s.admissions number) (state_after-append work_machine start front rest) ∙ kept.1,
      kept.2,
    )

pub admission_stays : OfEach AdmissionStays
admission_stays start h fresh front rest number a parts at =
    let kept = kept-in_whole start h front rest number a parts at in
    (kept.0, kept.1, kept.2.item, kept.2.queue)

-- an admission by its parts
abbrev admission_of : ℕ → ℕ → Life → Admission
admission_of item queue life = record { item = item; queue = queue; life = life }

same_parts : (a b : Admission) → b.item ≡ a.item → b.queue ≡ a.queue → b.life ≡ a.life → b ≡ a
same_parts a b item queue life = ap (λ i. admission_of i b.queue b.life) item
    ∙ ap (λ q. admission_of a.item q b.life) queue ∙ ap (admission_of a.item a.queue) life

pub outcome_stays : OfEach OutcomeStays
outcome_stays start h fresh front rest number a parts at over =
    let kept = kept-in_whole start h front rest number a parts at in
    kept.1 ∙ ap Some (same_parts a kept.0 kept.2.item kept.2.queue (kept.2.over over))

pub waits_is : (life : Life) → is_waiting life ≡ true → life ≡ Waiting
waits_is Waiting w = refl
waits_is Running w = absurd (cc)
waits_is Ended w = absurd (cc)
waits_is Dropped w = absurd (cc)

-- what is begun is the first in the line of its queue
pub begun_from_its_queue : OfEach BegunFromItsQueue
begun_from_its_queue start h fresh = record {
  each = λ front rest e parts item number reply.
      let s = state_after work_machine start front in
      let replied : work_reply s e.who e.op ≡ Some (Run item number) =
      (Replays-rest work_machine start front (e ∷ rest) (Replays-parts start h (front ++ e ∷ rest) fresh parts)).0
      ∙ ap Some reply in
      let begins = is_begin s e.who e.op item number replied in
      let queue = begins.0 in
      let it = Begun-reply s e.who queue (Run item number) (ap (work_reply s e.who) (sym begins.1) ∙ replied) in
      let same = same_item item it.taken.item number it.number (Run item number) refl it.replied in
      let waits = (IsFirst-line s.admissions queue it.number it.first_is).waits it.taken it.there in
      let queue_is = eqb-true it.taken.queue queue (first_so (eqb it.taken.queue queue) (is_waiting it.taken.life) waits) in
      let life_is = waits_is it.taken.life (second_so (eqb it.taken.queue queue) (is_waiting it.taken.life) waits) in
      let taken_is : it.taken ≡ admission_of item queue Waiting =
      same_parts (admission_of item queue Waiting) it.taken same.0 queue_is life_is in
      let after : slice_get (begin s.admissions queue) it.number ≡ Some (with_life Running it.taken) =
      ap (λ (xs : List Admission). slice_get xs it.number) (begin-is s.admissions queue (Run item number) it)
      ∙ set_life-at s.admissions it.number Running it.taken it.there in
      let next : state_after work_machine start (front ++ e ∷ []) ≡ work_next s e.who (Begin queue) =
      state_after-append work_machine start front (e ∷ []) ∙ ap (work_next s e.who) begins.1 in (
        queue,
        begins.1,
        ap (slice_get s.admissions) (sym same.1) ∙ it.there ∙ ap Some taken_is,
        ap (λ (u : State). slice_get u.admissions number) next ∙ ap (slice_get (begin s.admissions queue)) (sym same.1)
            ∙ after ∙ ap (λ (a : Admission). Some (with_life Running a)) taken_is,
      );
}

-- only an end at a queue ends what it runs
is_end : (queue : ℕ) (op : WorkOp) → ends queue op ≡ true → op ≡ End queue
is_end queue (Submit item named) is = absurd (cc)
is_end queue (Cancel item) is = absurd (cc)
is_end queue (CancelStart item) is = absurd (cc)
is_end queue (CancelDone place) is = absurd (cc)
is_end queue (FlushStart item) is = absurd (cc)
is_end queue (FlushDone place) is = absurd (cc)
is_end queue (Schedule item other delay) is = absurd (cc)
is_end queue (Reschedule item other delay) is = absurd (cc)
is_end queue (Remaining item) is = absurd (cc)
is_end queue (Start other) is = absurd (cc)
is_end queue (DrainStart other plug) is = absurd (cc)
is_end queue (DrainDone place) is = absurd (cc)
is_end queue (Unplug other) is = absurd (cc)
is_end queue (Stop other) is = absurd (cc)
is_end queue (Announce ticks) is = absurd (cc)
is_end queue (Begin other) is = absurd (cc)
is_end queue (End other) is = ap End (sym (eqb-true queue other is))

pub ended_by_its_end : OfEach EndedByItsEnd
ended_by_its_end start h fresh = record {
  each = λ front rest e parts number a at runs ended.
      let s = state_after work_machine start front in
      let next : state_after work_machine start (front ++ e ∷ []) ≡ work_next s e.who (End a.queue) =
      state_after-append work_machine start front (e ∷ []) ∙ ap (work_next s e.who) (is_end a.queue e.op ended) in
      let on = and_from (eqb a.queue a.queue) (is_running a.life) (eq-eqb a.queue a.queue refl) (ap is_running runs) in
      ap (λ (u : State). slice_get u.admissions number) next ∙ slice_get-map (end_one a.queue) s.admissions number
      ∙ ap (option_map (end_one a.queue)) at
      ∙ ap (λ b. Some (cond b (with_life Ended a) a)) on;
}
