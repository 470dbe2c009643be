-- What an announce makes of the engine: all that is due expires, one after another.
use Rattle.zk_base.specs.Limits.{most_entries}
use Rattle.std.proofs.Common.{◌≡◌, ℕ, zero, suc, ◌+◌, ◌^◌, ◌<◌, ◌≤◌, true, not, Option, Some, None, is_some, option_map, option_to_list, List, [], ◌∷◌, ◌++◌, length, map, take, drop, get_or, refl, sym, ap, subst, ◌∙◌, arith}
use Rattle.std.specs.Option.{option_map_or}
use Rattle.std.specs.List.{filter}
use Rattle.std.proofs.Math.ListN.{get_or-map}
use Rattle.std.proofs.lemmas.List.{length-map, take_all}
use Rattle.zk_base.specs.Order.{Ascends}
use Rattle.zk_model_work.specs.declared.parts.Admission.{Admission}
use Rattle.zk_model_work.specs.declared.parts.Fate.TheVariants.{Live}
use Rattle.zk_model_work.specs.declared.parts.Arm.{Arm}
use Rattle.zk_model_work.specs.declared.ops.Expiry.{Expiry}
use Rattle.zk_model_work.specs.declared.ops.WorkReply.TheVariants.{Now}
use Rattle.zk_model_work.specs.Questions.{due, item_of as machine_item}
use Rattle.zk_model_work.specs.Answers.{submission}
use Rattle.zk_model_work.specs.Machine.{submit, submit_arms, expiries, expire, announce, announce_reply}
use Rattle.zk_model_work.specs.State.{State, IsTimed}
use Rattle.zk_model_work.proofs.Counts.{IsTimed-ticks}
use Rattle.zk_model_work.proofs.Lines.{submit_arms-more, expiries-more}
use Rattle.zk_time.specs.declared.timeout.Timeout.{Timeout}
use Rattle.zk_time.specs.Timeouts.{Timeouts, is_due, due_first, due_rest, drop_due}
use Rattle.zk_time.proofs.Orders.{IsOrdered-due}
use Rattle.zk_work.specs.EngineState.{EngineState, StandsFor, timeout_of}
use Rattle.zk_work.specs.Engine as engine
use Rattle.zk_work.specs.Engine.{answer_of, admitted, submitted, expired_next, expired, told, expiry_of}
use Rattle.zk_work.proofs.Arms.{timeouts-expire, timeouts-due, arm_for, timeouts-for, front-due, first-due, rest-due}
use Rattle.zk_work.proofs.Replies.{answer-same}
use Rattle.zk_work.proofs.Delaying.{submit-stands, drop-room}
use Rattle.zk_work.proofs.Beside.{submitted-same, counted-stands, rearmed, retimed}

Ascends-drop : (n : ℕ) (ts : List Timeout) → Ascends (λ t. t.deadline) ts → Ascends (λ t. t.deadline) (drop n ts)
Ascends-drop zero ts ascends = ascends
Ascends-drop (suc n) [] ascends = ascends
Ascends-drop (suc n) (t ∷ ts) ascends = Ascends-drop n ts ascends.1

-- no submission counts an entry
entries-next : (time : ℕ) (j : EngineState) → (expired_next time j).entries ≡ j.entries
entries-next time j = by (due_first time j.timeouts.live) where
  by : (o : Option Timeout) →
      (option_map_or (λ (t : Timeout). submitted (record j { timeouts = drop_due j.timeouts time }) t.item
      (answer_of j None t.item (Some t.queue))) o j).entries ≡ j.entries
  by None = refl
  by (Some t) = submitted-same (λ (i : EngineState). i.entries) (record j { timeouts = drop_due j.timeouts time }) t.item
      (answer_of j None t.item (Some t.queue)) (λ queue. refl)

pub entries-expired : (n time : ℕ) (k : EngineState) → (expired n time k).entries ≡ k.entries
entries-expired zero time k = refl
entries-expired (suc n) time k = entries-next time (expired n time k) ∙ entries-expired n time k

-- and none makes an item
items-next : (time : ℕ) (j : EngineState) → (expired_next time j).active.items ≡ j.active.items
items-next time j = by (due_first time j.timeouts.live) where
  by : (o : Option Timeout) →
      (option_map_or (λ (t : Timeout). submitted (record j { timeouts = drop_due j.timeouts time }) t.item
      (answer_of j None t.item (Some t.queue))) o j).active.items ≡ j.active.items
  by None = refl
  by (Some t) = submitted-same (λ (i : EngineState). i.active.items) (record j { timeouts = drop_due j.timeouts time }) t.item
      (answer_of j None t.item (Some t.queue)) (λ queue. refl)

pub items-expired : (n time : ℕ) (k : EngineState) → (expired n time k).active.items ≡ k.active.items
items-expired zero time k = refl
items-expired (suc n) time k = items-next time (expired n time k) ∙ items-expired n time k

module _ (k : EngineState) (s : State) (st : StandsFor k s) (time : ℕ) where
  abbrev none : Arm
  none = record { item = 0; queue = 0; deadline = 0; fate = Live }

  -- the state in between, after so many of them
  abbrev mid : ℕ → State
  mid n = record s {
    admissions = submit_arms s.marks s.queues None (take n (due time s.arms)) s.admissions;
    arms = map arm_for (drop n k.timeouts.live);
  }

  -- what is due next is the machine's
  next-same : (n : ℕ) → n < length (filter (is_due time) k.timeouts.live) →
      timeout_of (get_or (due time s.arms) n none) ≡ get_or k.timeouts.live n (timeout_of none)
  next-same n within =
      sym (get_or-map timeout_of (due time s.arms) n none)
      ∙ ap (λ (ts : List Timeout). get_or ts n (timeout_of none)) (timeouts-due s.arms time
      ∙ sym (ap (filter (is_due time)) st.arms))
      ∙ (front-due time k.timeouts.live n (timeout_of none) st.whole.ordered.ascends within).2

  long-same : length (due time s.arms) ≡ length (filter (is_due time) k.timeouts.live)
  long-same = sym (length-map (due time s.arms) timeout_of)
      ∙ ap length (timeouts-due s.arms time ∙ sym (ap (filter (is_due time)) st.arms))

  -- what is kept after so many
  live-mid : (n : ℕ) → StandsFor (expired n time k) (mid n) → (expired n time k).timeouts.live ≡ drop n k.timeouts.live
  live-mid n stands = stands.arms
      ∙ timeouts-for (drop n k.timeouts.live) (Ascends-drop n k.timeouts.live st.whole.ordered.ascends)

  -- the first of them
  first-mid : (n : ℕ) → n < length (filter (is_due time) k.timeouts.live) → StandsFor (expired n time k) (mid n) →
      (due_first time (expired n time k).timeouts.live ≡ Some (timeout_of (get_or (due time s.arms) n none)))
      × (due_rest time (expired n time k).timeouts.live ≡ drop (suc n) k.timeouts.live)
  first-mid n within stands =
      let live = live-mid n stands in
      let it = first-due time k.timeouts.live n (timeout_of none) st.whole.ordered.ascends within in
      (ap (due_first time) live ∙ it.0 ∙ ap (λ (t : Timeout). Some t) (sym (next-same n within)), ap (due_rest time) live ∙ it.1)

  expired-more : (n : ℕ) → n < length (filter (is_due time) k.timeouts.live) → StandsFor (expired n time k) (mid n) →
      StandsFor (expired (suc n) time k) (mid (suc n))
  expired-more n within stands =
      let j = expired n time k in
      let a = get_or (due time s.arms) n none in
      let it = first-mid n within stands in
      let long = long-same in
      let fewer = stands.whole.fewer in
      let room = drop-room time j.timeouts.live (ap is_some it.0) in
      let front = front-due time k.timeouts.live n (timeout_of none) st.whole.ordered.ascends within in
      let inside = st.whole.ordered.within n (timeout_of none) front.0 in
      let item : a.item ≡ (get_or k.timeouts.live n (timeout_of none)).item = ap (λ (t : Timeout). t.item) (next-same n within) in
      let armed = st.whole.armed in
      let items = st.admissions.items in
      let popped = rearmed j (mid n) (drop_due j.timeouts time) (map arm_for (drop (suc n) k.timeouts.live)) stands
      stands.whole.armed (IsOrdered-due j.timeouts time stands.whole.ordered) (omega arith)
      (it.1 ∙ sym (timeouts-for (drop (suc n) k.timeouts.live)
      (Ascends-drop (suc n) k.timeouts.live st.whole.ordered.ascends))) in
      let P : EngineState = record j { timeouts = drop_due j.timeouts time } in
      let done = submit-stands P (record (mid n) { arms = map arm_for (drop (suc n) k.timeouts.live) }) None a.item
      (Some a.queue) popped (omega arith) (omega arith) in
      let suc_is : n + 1 ≡ suc n = omega arith in
      let more = submit_arms-more s.marks s.queues None (due time s.arms) n none s.admissions (mid n).admissions
      (submit (mid n).admissions a.item (submission (machine_item (mid n).admissions s.marks a.item) s.queues None
      (Some a.queue)))
      (submission (machine_item (mid n).admissions s.marks a.item) s.queues None (Some a.queue)) (omega arith) refl refl refl in
      subst (λ (o : Option Timeout).
      StandsFor (option_map_or (λ (t : Timeout). submitted P t.item (answer_of j None t.item (Some t.queue))) o j)
      (mid (suc n))) (sym it.0)
      (subst (λ (xs : List Admission). StandsFor (submitted P a.item (answer_of j None a.item (Some a.queue)))
      (record s { admissions = xs; arms = map arm_for (drop (suc n) k.timeouts.live) }))
      (more ∙ ap (λ m. submit_arms s.marks s.queues None (take m (due time s.arms)) s.admissions) suc_is) done)

  expired-stands : (n : ℕ) → n ≤ length (filter (is_due time) k.timeouts.live) → StandsFor (expired n time k) (mid n)
  expired-stands zero most = rearmed k s k.timeouts (map arm_for k.timeouts.live) st st.whole.armed st.whole.ordered
      st.whole.fewer (sym (timeouts-for k.timeouts.live st.whole.ordered.ascends))
  expired-stands (suc n) most = expired-more n (omega arith) (expired-stands n (omega arith))

  -- what has become of them
  told-same : (n : ℕ) → n ≤ length (filter (is_due time) k.timeouts.live) →
      told n time k ≡ expiries s.marks s.queues (take n (due time s.arms)) s.admissions
  told-same zero most = refl
  told-same (suc n) most =
      let j = expired n time k in
      let a = get_or (due time s.arms) n none in
      let stands = expired-stands n (omega arith) in
      let it = first-mid n (omega arith) stands in
      let long = long-same in
      let so_far = told-same n (omega arith) in
      let suc_is : n + 1 ≡ suc n = omega arith in
      let answer = answer-same j (mid n) stands None a.item (Some a.queue) in
      let x : Expiry = record { item = a.item; submitted = answer_of j None a.item (Some a.queue) } in
      let last : told (suc n) time k ≡ told n time k ++ x ∷ [] =
      ap (λ (o : Option Timeout). told n time k ++ option_to_list (option_map (expiry_of j) o)) it.0 in
      expiries-more s.marks s.queues (due time s.arms) n none s.admissions (mid n).admissions (told n time k)
      (told (suc n) time k) x (omega arith) refl so_far answer refl last
      ∙ ap (λ m. expiries s.marks s.queues (take m (due time s.arms)) s.admissions) suc_is

  all_taken : take (length (filter (is_due time) k.timeouts.live)) (due time s.arms) ≡ due time s.arms
  all_taken = ap (λ n. take n (due time s.arms)) (sym long-same)
      ∙ take_all (length (due time s.arms)) (due time s.arms) (omega arith)

  pub told-all : told (length (filter (is_due time) k.timeouts.live)) time k ≡ expiries s.marks s.queues (due time s.arms)
      s.admissions
  told-all =
      let count = length (filter (is_due time) k.timeouts.live) in
      told-same count (omega arith) ∙ ap (λ (arms : List Arm). expiries s.marks s.queues arms s.admissions) all_taken

  -- after all of them
  pub all-expired : StandsFor (expired (length (filter (is_due time) k.timeouts.live)) time k)
      (record s { admissions = submit_arms s.marks s.queues None (due time s.arms) s.admissions; arms = expire s.arms time })
  all-expired =
      let count = length (filter (is_due time) k.timeouts.live) in
      let e = expired count time k in
      let stands = expired-stands count (omega arith) in
      let left = live-mid count stands ∙ rest-due time k.timeouts.live st.whole.ordered.ascends
      ∙ ap (filter (λ (t : Timeout). not (is_due time t))) st.arms ∙ sym (timeouts-expire s.arms time) in
      subst (λ (arms : List Arm).
      StandsFor e (record s {
        admissions = submit_arms s.marks s.queues None arms s.admissions;
        arms = expire s.arms time;
      })) all_taken
      (rearmed e (mid count) e.timeouts (expire s.arms time) stands stands.whole.armed stands.whole.ordered
      stands.whole.fewer left)

-- and so many ticks later, at an entry that is counted
pub announced-stands : (k : EngineState) (s : State) (ticks : ℕ) → StandsFor k s → s.entries < most_entries →
    ticks < 2 ^ 32 → StandsFor (record (engine.announced k ticks) { entries = k.entries + 1 })
    (record (announce s ticks) { entries = s.entries + 1 })
announced-stands k s ticks st few short =
    let time = k.time + ticks in
    let e = expired (length (filter (is_due time) k.timeouts.live)) time k in
    let entries : e.entries ≡ k.entries = entries-expired (length (filter (is_due time) k.timeouts.live)) time k in
    let counted = counted-stands e _ (all-expired k s st time) few in
    let timed : IsTimed time (e.entries + 1) =
    subst (λ n. IsTimed time (n + 1)) (sym entries) (IsTimed-ticks k.time k.entries ticks st.whole.timed short) in
    let done = retimed (record e { entries = e.entries + 1 }) _ time counted timed in
    let later : StandsFor (record e { time = time; entries = k.entries + 1 })
    (record s {
      time = time;
      admissions = submit_arms s.marks s.queues None (due time s.arms) s.admissions;
      arms = expire s.arms time;
      entries = s.entries + 1;
    }) =
    subst (λ n. StandsFor (record e { time = time; entries = n + 1 })
    (record s {
      time = time;
      admissions = submit_arms s.marks s.queues None (due time s.arms) s.admissions;
      arms = expire s.arms time;
      entries = s.entries + 1;
    })) entries done in
    subst (λ n. StandsFor (record e { time = time; entries = k.entries + 1 })
    (record s {
      time = n + ticks;
      admissions = submit_arms s.marks s.queues None (due (n + ticks) s.arms) s.admissions;
      arms = expire s.arms (n + ticks);
      entries = s.entries + 1;
    })) st.time later

pub announce_reply-same : (k : EngineState) (s : State) (ticks : ℕ) → StandsFor k s →
    engine.announce_reply k ticks ≡ announce_reply s ticks
announce_reply-same k s ticks st =
    ap (Now (k.time + ticks)) (told-all k s st (k.time + ticks))
    ∙ ap (λ n. Now (n + ticks) (expiries s.marks s.queues (due (n + ticks) s.arms) s.admissions)) st.time

-- what is armed after so many
live-next : (time : ℕ) (j : EngineState) (t : Timeout) → due_first time j.timeouts.live ≡ Some t →
    (expired_next time j).timeouts.live ≡ due_rest time j.timeouts.live
live-next time j t is =
    ap (λ (o : Option Timeout).
    (option_map_or (λ (t : Timeout). submitted (record j { timeouts = drop_due j.timeouts time }) t.item
    (answer_of j None t.item (Some t.queue))) o j).timeouts.live) is
    ∙ ap (λ (ts : Timeouts). ts.live)
    (submitted-same (λ (i : EngineState). i.timeouts) (record j { timeouts = drop_due j.timeouts time }) t.item
    (answer_of j None t.item (Some t.queue)) (λ queue. refl))

live-expired : (n time : ℕ) (k : EngineState) → Ascends (λ t. t.deadline) k.timeouts.live →
    n ≤ length (filter (is_due time) k.timeouts.live) → (expired n time k).timeouts.live ≡ drop n k.timeouts.live
live-expired zero time k ascends most = refl
live-expired (suc n) time k ascends most =
    let d : Timeout = record { item = 0; queue = 0; deadline = 0 } in
    let so_far = live-expired n time k ascends (omega arith) in
    let it = first-due time k.timeouts.live n d ascends (omega arith) in
    live-next time (expired n time k) (get_or k.timeouts.live n d) (ap (due_first time) so_far ∙ it.0)
    ∙ ap (due_rest time) so_far ∙ it.1

-- one more of them is due
pub next-due : (n time : ℕ) (k : EngineState) → Ascends (λ t. t.deadline) k.timeouts.live →
    n < length (filter (is_due time) k.timeouts.live) → is_some (due_first time (expired n time k).timeouts.live) ≡ true
next-due n time k ascends within =
    let d : Timeout = record { item = 0; queue = 0; deadline = 0 } in
    ap is_some (ap (due_first time) (live-expired n time k ascends (omega arith))
    ∙ (first-due time k.timeouts.live n d ascends within).0)
