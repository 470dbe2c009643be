-- What is asked of the waits: whether an item is being flushed, and whether a wait is over.
use Rattle.zk_base.specs.Limits.{most_entries}
use Rattle.std.proofs.Common.{◌≡◌, ℕ, ◌+◌, ◌<◌, Bool, true, false, not, ◌&&◌, ◌||◌, cond, eqb, ◌==◌, Option, Some, None, is_some, option_map, List, [], ◌∷◌, map, slice_get, refl, sym, ap, ◌∙◌}
use Rattle.std.specs.Cmp.{first_so, second_so}
use Rattle.std.specs.List.{position, list_any}
use Rattle.std.specs.Option.{option_map_or, option_or}
use Rattle.std.proofs.lemmas.Bool.{eqb-true, eq-eqb, false≢true, and_from, or_right}
use Rattle.std.proofs.lemmas.List.Elements.{All-head, All-tail, All-cons, All-nil}
use Rattle.std.proofs.lemmas.Option.{same_Some}
use Rattle.zk_base.specs.declared.ids.Who.{Who}
use Rattle.zk_model_work.specs.declared.parts.Life.{Life}
use Rattle.zk_model_work.specs.declared.parts.Life.TheVariants.{Waiting, Running, Ended, Dropped}
use Rattle.zk_model_work.specs.declared.parts.Admission.{Admission}
use Rattle.zk_model_work.specs.declared.parts.Queue.{Queue}
use Rattle.zk_model_work.specs.declared.parts.Awaited.{Awaited}
use Rattle.zk_model_work.specs.declared.parts.Awaited.TheVariants.{Cancel, Flush, Drain}
use Rattle.zk_model_work.specs.declared.parts.Closing.{Closing}
use Rattle.zk_model_work.specs.declared.parts.Closing.TheVariants as closings
use Rattle.zk_model_work.specs.declared.parts.Wait.{Wait}
use Rattle.zk_model_work.specs.declared.parts.Item.{Item}
use Rattle.zk_model_work.specs.Questions.{is_waiting, is_running, is_open, is_ended, waits_as, runs_as, is_open_as, waiting, running, armed, is_flushing, flushes, passes_at, item_of as machine_item}
use Rattle.zk_model_work.specs.Answers.{flushed, wait_for, is_unanswered, closes, flags}
use Rattle.zk_model_work.specs.Machine.{flags_of, has_come, may_close, answer_where, answer_one, answered_waits}
use Rattle.zk_model_work.specs.State.{State}
use Rattle.zk_model_work.proofs.Overlaps.{position-none}
use Rattle.zk_time.specs.Timeouts.{is_of, is_armed}
use Rattle.zk_queue.specs.Open as active
use Rattle.zk_work.specs.EngineState.{EngineState, StandsFor, unanswered, is_there, is_begun}
use Rattle.zk_work.specs.Engine as engine
use Rattle.zk_work.specs.Engine.{is_number, settled, cancelled, left_waits}
use Rattle.zk_work.proofs.Numbers.{agree, IsAt, is_at, one-place, one-run, waiting-same, running-same, open-same}
use Rattle.zk_work.proofs.Replies.{item-same}
use Rattle.zk_work.proofs.Awaited.{AllThere}
use Rattle.zk_work.proofs.Arms.{armed-same}
use Rattle.zk_work.proofs.Beside.{counted-stands, waits-stand}

-- where this is said of an option that is there, it is of the number
numbered : (n : ℕ) (o : Option ℕ) → is_number n o ≡ true → o ≡ Some n
numbered n None is = absurd (cc)
numbered n (Some m) is = ap (λ (k : ℕ). Some k) (eqb-true m n is)

open_as : (p : Admission → Bool) (item n : ℕ) (xs : List Admission) →
    ((a : Admission) → p a ≡ true → is_open_as item a ≡ true) → IsAt p xs n → passes_at (is_open_as item) xs n ≡ true
open_as p item n xs opens at = ap (λ (o : Option Admission). option_map_or (is_open_as item) o false) at.there
    ∙ opens at.admission at.passes

waits-open : (item : ℕ) (a : Admission) → waits_as item a ≡ true → is_open_as item a ≡ true
waits-open item a is = and_from (eqb a.item item) (is_open a.life) (first_so (eqb a.item item) (is_waiting a.life) is)
    (by a.life (second_so (eqb a.item item) (is_waiting a.life) is)) where
      by : (life : Life) → is_waiting life ≡ true → is_open life ≡ true
      by Waiting w = refl
      by Running w = absurd (cc)
      by Ended w = absurd (cc)
      by Dropped w = absurd (cc)

runs-open_as : (item : ℕ) (a : Admission) → runs_as item a ≡ true → is_open_as item a ≡ true
runs-open_as item a is = and_from (eqb a.item item) (is_open a.life) (first_so (eqb a.item item) (is_running a.life) is)
    (by a.life (second_so (eqb a.item item) (is_running a.life) is)) where
      by : (life : Life) → is_running life ≡ true → is_open life ≡ true
      by Waiting w = absurd (cc)
      by Running w = refl
      by Ended w = absurd (cc)
      by Dropped w = absurd (cc)

-- the only place that passes is what a search finds
position-is : (p : Admission → Bool) (xs : List Admission) (n : ℕ) (a : Admission) →
    ((m : ℕ) (b : Admission) → slice_get xs m ≡ Some b → p b ≡ true → n ≡ m) → slice_get xs n ≡ Some a → p a ≡ true →
    position p xs ≡ Some n
position-is p xs n a only at passes = by (position p xs) refl where
  by : (o : Option ℕ) → position p xs ≡ o → position p xs ≡ Some n
  by None is = absurd (false≢true (sym (position-none p xs n a is at) ∙ passes))
  by (Some m) is = let it = is_at p xs m is in is ∙ ap (λ (k : ℕ). Some k) (sym (only m it.admission it.there it.passes))

module _ (k : EngineState) (s : State) (st : StandsFor k s) where
  waits_by : (item : ℕ) → active.waiting k.active item ≡ waiting s.admissions item
  waits_by item = waiting-same k.active s.admissions st.admissions.lines st.admissions.runs item (st.admissions.sound.once item)

  pub runs_by : (item : ℕ) → active.running k.active item ≡ running s.admissions item
  runs_by item = running-same k.active s.admissions st.admissions.lines st.admissions.runs st.admissions.sound.home item

  pub flushed-same : (item : ℕ) →
      engine.flushed_of k.active item ≡ flushed (waiting s.admissions item) (running s.admissions item)
  flushed-same item =
      ap (λ (o : Option ℕ). option_or o (active.running k.active item)) (waits_by item)
      ∙ ap (option_or (waiting s.admissions item)) (runs_by item)

  -- a flush of the item that has to wait
  flush-same : (item : ℕ) (awaited : Awaited) →
      engine.flushes (waiting s.admissions item) (running s.admissions item) awaited ≡ flushes s.admissions item awaited
  flush-same item (Cancel n) = refl
  flush-same item (Drain queue count) = refl
  flush-same item (Flush n) = agree (is_number n (waiting xs item) || is_number n (running xs item))
      (passes_at (is_open_as item) xs n) (λ is. to (is_number n (waiting xs item)) refl is) back where
        xs : List Admission
        xs = s.admissions

        to : (b : Bool) → is_number n (waiting xs item) ≡ b → (b || is_number n (running xs item)) ≡ true →
            passes_at (is_open_as item) xs n ≡ true
        to true waits is = open_as (waits_as item) item n xs (waits-open item)
            (is_at (waits_as item) xs n (numbered n (waiting xs item) waits))
        to false waits is = open_as (runs_as item) item n xs (runs-open_as item)
            (is_at (runs_as item) xs n (numbered n (running xs item) is))

        by_life : (a : Admission) (life : Life) → slice_get xs n ≡ Some a → a.life ≡ life → eqb a.item item ≡ true →
            is_open life ≡ true → (is_number n (waiting xs item) || is_number n (running xs item)) ≡ true
        by_life a Waiting at is of opens =
            let passes = and_from (eqb a.item item) (is_waiting a.life) of (ap is_waiting is) in
            let place = position-is (waits_as item) xs n a
            (λ m b to passes_too. one-place (waits_as item) xs n m a b (st.admissions.sound.once item) at to passes
            passes_too) at passes in
            ap (λ (o : Option ℕ). is_number n o || is_number n (running xs item)) place
            ∙ ap (λ b. b || is_number n (running xs item)) (eq-eqb n n refl)
        by_life a Running at is of opens =
            let passes = and_from (eqb a.item item) (is_running a.life) of (ap is_running is) in
            let place = position-is (runs_as item) xs n a
            (λ m b to passes_too. one-run k.active xs st.admissions.lines st.admissions.runs st.admissions.sound.home item
            n m a b at to passes passes_too) at passes in
            ap (λ (o : Option ℕ). is_number n (waiting xs item) || is_number n o) place
            ∙ or_right (is_number n (waiting xs item)) (eqb n n) (eq-eqb n n refl)
        by_life a Ended at is of opens = absurd (cc)
        by_life a Dropped at is of opens = absurd (cc)

        back : passes_at (is_open_as item) xs n ≡ true → (is_number n (waiting xs item) || is_number n (running xs item)) ≡ true
        back is = by (slice_get xs n) refl is where
          by : (o : Option Admission) → slice_get xs n ≡ o → option_map_or (is_open_as item) o false ≡ true →
              (is_number n (waiting xs item) || is_number n (running xs item)) ≡ true
          by None at is = absurd (cc)
          by (Some a) at is = by_life a a.life at refl (first_so (eqb a.item item) (is_open a.life) is)
              (second_so (eqb a.item item) (is_open a.life) is)

  -- an answered flush flushes nothing more
  flush-over : (item : ℕ) (awaited : Awaited) → is_there s.admissions awaited true ≡ true →
      flushes s.admissions item awaited ≡ false
  flush-over item (Cancel n) is = refl
  flush-over item (Drain queue count) is = refl
  flush-over item (Flush n) is = by (slice_get s.admissions n) is where
    closed_as : (b c : Bool) → not c ≡ true → (b && c) ≡ false
    closed_as b true over = absurd (cc)
    closed_as true false over = refl
    closed_as false false over = refl

    by : (o : Option Admission) → option_map_or (λ (a : Admission). not (true && is_open a.life)) o false ≡ true →
        option_map_or (is_open_as item) o false ≡ false
    by None over = refl
    by (Some a) over = closed_as (eqb a.item item) (is_open a.life) over

  flushing-any : (item : ℕ) (ws : List Wait) → AllThere s.admissions ws →
      list_any (λ w. engine.flushes (waiting s.admissions item) (running s.admissions item) w.awaited) (unanswered ws)
      ≡ list_any (λ w. flushes s.admissions item w.awaited) ws
  flushing-any item [] all = refl
  flushing-any item (w ∷ ws) all =
      let P : Wait → Type 0 = λ w. is_there s.admissions w.awaited w.answered ≡ true in
      by w.answered (All-head P w ws all) (flushing-any item ws (All-tail P w ws all)) where
        by : (b : Bool) → is_there s.admissions w.awaited b ≡ true →
            list_any (λ w. engine.flushes (waiting s.admissions item) (running s.admissions item) w.awaited)
            (unanswered ws) ≡ list_any (λ w. flushes s.admissions item w.awaited) ws →
            list_any (λ w. engine.flushes (waiting s.admissions item) (running s.admissions item) w.awaited)
            (cond (not b) (w ∷ unanswered ws) (unanswered ws))
            ≡ (flushes s.admissions item w.awaited || list_any (λ w. flushes s.admissions item w.awaited) ws)
        by true is rest = rest
            ∙ sym (ap (λ b. b || list_any (λ w. flushes s.admissions item w.awaited) ws) (flush-over item w.awaited is))
        by false is rest =
            ap (λ b. b || list_any (λ w. engine.flushes (waiting s.admissions item) (running s.admissions item) w.awaited)
            (unanswered ws)) (flush-same item w.awaited)
            ∙ ap (λ b. flushes s.admissions item w.awaited || b) rest

  flushing-same : (item : ℕ) → engine.is_flushing k.active k.waits item ≡ is_flushing s.admissions s.waits item
  flushing-same item =
      ap (λ (o : Option ℕ). list_any (λ w. engine.flushes o (active.running k.active item) w.awaited) k.waits) (waits_by item)
      ∙ ap (λ (o : Option ℕ). list_any (λ w. engine.flushes (waiting s.admissions item) o w.awaited) k.waits) (runs_by item)
      ∙ ap (list_any (λ w. engine.flushes (waiting s.admissions item) (running s.admissions item) w.awaited)) st.waits.left
      ∙ flushing-any item s.waits st.waits.there

  -- the busy flags
  pub flags-same : (item : ℕ) → engine.flags_of k item ≡ flags_of s item
  flags-same item =
      let held = is_armed k.timeouts item in
      let is_delayed : held ≡ is_some (armed s.arms item) = ap (list_any (is_of item)) st.arms ∙ armed-same s.arms item in
      ap (λ (i : Item). flags i held (engine.is_flushing k.active k.waits item)) (item-same k s st item)
      ∙ ap (λ b. flags (machine_item s.admissions s.marks item) b (engine.is_flushing k.active k.waits item)) is_delayed
      ∙ ap (flags (machine_item s.admissions s.marks item) (is_some (armed s.arms item))) (flushing-same item)

  -- what is awaited has come
  over-begun : (n : ℕ) (o : Option Admission) → option_map_or (λ (a : Admission). is_begun a.life) o false ≡ true →
      not (option_map_or (λ (a : Admission). is_open a.life) o false) ≡ option_map_or (λ (a : Admission). is_ended a.life) o false
  over-begun n None is = absurd (cc)
  over-begun n (Some a) is = by a.life is where
    by : (life : Life) → is_begun life ≡ true → not (is_open life) ≡ is_ended life
    by Waiting is = absurd (cc)
    by Running is = refl
    by Ended is = refl
    by Dropped is = absurd (cc)

  over-made : (answered : Bool) (o : Option Admission) →
      option_map_or (λ (a : Admission). not (answered && is_open a.life)) o false ≡ true →
      not (option_map_or (λ (a : Admission). is_open a.life) o false)
      ≡ option_map_or (λ (a : Admission). not (is_open a.life)) o false
  over-made answered None is = absurd (cc)
  over-made answered (Some a) is = refl

  come-same : (closing : Closing) (awaited : Awaited) (answered : Bool) → is_there s.admissions awaited answered ≡ true →
      engine.has_come k.active k.queues closing awaited ≡ has_come s.admissions s.queues closing awaited
  come-same closings.Cancel (Cancel n) answered is =
      ap not (open-same k.active s.admissions st.admissions.lines st.admissions.runs n)
      ∙ over-begun n (slice_get s.admissions n) is
  come-same closings.Cancel (Flush n) answered is = refl
  come-same closings.Cancel (Drain queue count) answered is = refl
  come-same closings.Flush (Cancel n) answered is = refl
  come-same closings.Flush (Flush n) answered is =
      ap not (open-same k.active s.admissions st.admissions.lines st.admissions.runs n)
      ∙ over-made answered (slice_get s.admissions n) is
  come-same closings.Flush (Drain queue count) answered is = refl
  come-same closings.Drain (Cancel n) answered is = refl
  come-same closings.Drain (Flush n) answered is = refl
  come-same closings.Drain (Drain queue count) answered is =
      ap (λ (qs : List Queue). has_come s.admissions qs closings.Drain (Drain queue count)) st.queues

  module _ (closing : Closing) (who : Who) (place : ℕ) where
    closes-same : (w : Wait) → is_there s.admissions w.awaited w.answered ≡ true →
        closes (engine.has_come k.active k.queues closing) who place w ≡ closes (has_come s.admissions s.queues closing)
        who place w
    closes-same w is = ap (λ b. is_unanswered place who.number w && b) (come-same closing w.awaited w.answered is)

    -- an answered wait is ended by nothing
    not-again : (w : Wait) → w.answered ≡ true → closes (has_come s.admissions s.queues closing) who place w ≡ false
    not-again w is =
        ap (λ b. ((w.place == place) && (w.player == who.number) && not b) && has_come s.admissions s.queues closing w.awaited) is
        ∙ by ((w.place == place) && (w.player == who.number)) (has_come s.admissions s.queues closing w.awaited) where
          by : (b c : Bool) → ((b && false) && c) ≡ false
          by true c = refl
          by false c = refl

    closed-any : (ws : List Wait) → AllThere s.admissions ws →
        list_any (closes (engine.has_come k.active k.queues closing) who place) (unanswered ws)
        ≡ list_any (closes (has_come s.admissions s.queues closing) who place) ws
    closed-any [] all = refl
    closed-any (w ∷ ws) all =
        let P : Wait → Type 0 = λ w. is_there s.admissions w.awaited w.answered ≡ true in
        by w.answered refl (closes-same w (All-head P w ws all)) (closed-any ws (All-tail P w ws all)) where
          by : (b : Bool) → w.answered ≡ b →
              closes (engine.has_come k.active k.queues closing) who place w
              ≡ closes (has_come s.admissions s.queues closing) who place w →
              list_any (closes (engine.has_come k.active k.queues closing) who place) (unanswered ws)
              ≡ list_any (closes (has_come s.admissions s.queues closing) who place) ws →
              list_any (closes (engine.has_come k.active k.queues closing) who place)
              (cond (not b) (w ∷ unanswered ws) (unanswered ws))
              ≡ (closes (has_come s.admissions s.queues closing) who place w || list_any
              (closes (has_come s.admissions s.queues closing) who place) ws)
          by true is same rest = rest
              ∙ sym (ap (λ b. b || list_any (closes (has_come s.admissions s.queues closing) who place) ws) (not-again w is))
          by false is same rest =
              ap (λ b. b || list_any (closes (engine.has_come k.active k.queues closing) who place) (unanswered ws)) same
              ∙ ap (λ b. closes (has_come s.admissions s.queues closing) who place w || b) rest

    -- whether a wait may end
    pub may_close-same : engine.may_close k closing who place ≡ may_close s closing who place
    may_close-same = ap (list_any (closes (engine.has_come k.active k.queues closing) who place)) st.waits.left
        ∙ closed-any s.waits st.waits.there

    -- the waits that are left
    left-same : (ws : List Wait) → AllThere s.admissions ws →
        left_waits k.active k.queues (unanswered ws) closing who place
        ≡ unanswered (map (answer_one s.admissions s.queues closing who place) ws)
    left-same [] all = refl
    left-same (w ∷ ws) all =
        let P : Wait → Type 0 = λ w. is_there s.admissions w.awaited w.answered ≡ true in
        by w.answered (closes (has_come s.admissions s.queues closing) who place w) refl refl
        (closes-same w (All-head P w ws all)) (left-same ws (All-tail P w ws all)) where
          rest : List Wait
          rest = unanswered ws

          after : List Wait
          after = unanswered (map (answer_one s.admissions s.queues closing who place) ws)

          by : (b c : Bool) → w.answered ≡ b → closes (has_come s.admissions s.queues closing) who place w ≡ c →
              closes (engine.has_come k.active k.queues closing) who place w
              ≡ closes (has_come s.admissions s.queues closing) who place w →
              left_waits k.active k.queues rest closing who place ≡ after →
              left_waits k.active k.queues (cond (not b) (w ∷ rest) rest) closing who place
              ≡ cond (not (answer_where c w).answered) (answer_where c w ∷ after) after
          by true true is ends same left = left
          by true false is ends same left = left ∙ sym (ap (λ d. cond (not d) (w ∷ after) after) is)
          by false true is ends same left =
              ap (λ d. cond (not d) (w ∷ left_waits k.active k.queues rest closing who place)
              (left_waits k.active k.queues rest closing who place)) (same ∙ ends) ∙ left
          by false false is ends same left =
              ap (λ d. cond (not d) (w ∷ left_waits k.active k.queues rest closing who place)
              (left_waits k.active k.queues rest closing who place)) (same ∙ ends)
              ∙ ap (λ (ws : List Wait). w ∷ ws) left ∙ sym (ap (λ d. cond (not d) (w ∷ after) after) is)

    -- what is there stays there
    there-closed : (ws : List Wait) → AllThere s.admissions ws →
        AllThere s.admissions (map (answer_one s.admissions s.queues closing who place) ws)
    there-closed [] all = let P : Wait → Type 0 = λ w. is_there s.admissions w.awaited w.answered ≡ true in All-nil P
    there-closed (w ∷ ws) all =
        let P : Wait → Type 0 = λ w. is_there s.admissions w.awaited w.answered ≡ true in
        All-cons P (answer_one s.admissions s.queues closing who place w)
        (map (answer_one s.admissions s.queues closing who place) ws)
        (by (closes (has_come s.admissions s.queues closing) who place w) refl (All-head P w ws all))
        (there-closed ws (All-tail P w ws all)) where
          come : (closing : Closing) (awaited : Awaited) (answered : Bool) →
              has_come s.admissions s.queues closing awaited ≡ true → is_there s.admissions awaited answered ≡ true →
              is_there s.admissions awaited true ≡ true
          come closing (Cancel n) answered came is = is
          come closing (Drain queue count) answered came is = refl
          come closings.Flush (Flush n) answered came is = came
          come closings.Cancel (Flush n) answered came is = absurd (cc)
          come closings.Drain (Flush n) answered came is = absurd (cc)

          by : (c : Bool) → closes (has_come s.admissions s.queues closing) who place w ≡ c →
              is_there s.admissions w.awaited w.answered ≡ true →
              is_there s.admissions (answer_where c w).awaited (answer_where c w).answered ≡ true
          by true ends is = come closing w.awaited w.answered
              (second_so (is_unanswered place who.number w) (has_come s.admissions s.queues closing w.awaited) ends) is
          by false ends is = is

    -- the end of a wait
    pub closed-stands : s.entries < most_entries →
        StandsFor (record (engine.closed k closing who place) { entries = k.entries + 1 })
        (record s { waits = answered_waits s closing who place; entries = s.entries + 1 })
    closed-stands few =
        let one = counted-stands k s st few in
        waits-stand _ _ (left_waits k.active k.queues k.waits closing who place) (answered_waits s closing who place) one
        (ap (λ (ws : List Wait). left_waits k.active k.queues ws closing who place) st.waits.left
        ∙ left-same s.waits st.waits.there)
        (there-closed s.waits st.waits.there)

  -- a wait that is new
  pub new-wait : (place : ℕ) (who : Who) (f : ℕ → Awaited) (o : Option ℕ) (w : Wait) →
      option_map (λ number. wait_for place who (f number)) o ≡ Some w → (n : ℕ) × (o ≡ Some n) × (wait_for place who (f n) ≡ w)
  new-wait place who f None w is = absurd (cc)
  new-wait place who f (Some n) w is = (n, refl, same_Some (wait_for place who (f n)) w is)
