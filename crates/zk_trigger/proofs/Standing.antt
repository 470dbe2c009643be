-- The engine stands for the machine's state after each operation.
use Rattle.std.proofs.Common.{◌≡◌, ℕ, ◌+◌, ◌^◌, ◌<◌, ◌≤◌, All, Bool, true, false, not, ◌&&◌, ◌||◌, cond, eqb, ltb, add-zero, set, get_or, Option, Some, None, option_map, List, [], ◌∷◌, ◌++◌, length, map, drop, slice_get, refl, sym, ap, subst, ◌∙◌, ◌⊎◌, inl, inr, arith}
use Rattle.std.specs.List.{filter, find, list_any, list_all}
use Rattle.std.proofs.lemmas.Bool.{eq-eqb, ne_eqb, cases_eq, and_parts, ltb-true}
use Rattle.std.proofs.lemmas.List.Elements.{All-nil, All-cons}
use Rattle.std.proofs.lemmas.List.{length-set, length-map, length-append, map-append, get_or-set_same, get_or-set_other}
use Rattle.zk_base.specs.declared.ids.Who.{Who}
use Rattle.zk_base.specs.Limits.{most_entries}
use Rattle.zk_model_trigger.specs.declared.ops.Cause.{Cause}
use Rattle.zk_model_trigger.specs.declared.ops.Cause.TheVariants.{Event, Time}
use Rattle.zk_model_trigger.specs.declared.ops.TriggerOp.{TriggerOp}
use Rattle.zk_model_trigger.specs.declared.ops.TriggerOp.TheVariants as ops
use Rattle.zk_model_trigger.specs.declared.ops.TriggerReply.{TriggerReply}
use Rattle.zk_model_trigger.specs.declared.ops.TriggerReply.TheVariants as replies
use Rattle.zk_model_trigger.specs.declared.parts.Arm.{Arm}
use Rattle.zk_model_trigger.specs.declared.parts.Armed.{Armed}
use Rattle.zk_model_trigger.specs.declared.parts.Fire.{Fire}
use Rattle.zk_model_trigger.specs.declared.parts.Occasion.{Occasion}
use Rattle.zk_model_trigger.specs.declared.parts.Occasion.TheVariants.{Posted, Reached}
use Rattle.zk_model_trigger.specs.declared.parts.Change.TheVariants as changes
use Rattle.zk_model_trigger.specs.Arms.{is_among, is_reached, is_waiting, meets, in_order, chosen, waiting, has_live, has_waiting, found_cause, fire_of, told_fire, change_one, change_all, cause_by, born}
use Rattle.zk_model_trigger.specs.Arms as model
use Rattle.zk_model_trigger.specs.Machine.{Triggers, IsTimely, asked, armed_with, taken, names_in_range, trigger_reply, trigger_next}
use Rattle.zk_model_trigger.specs.Steady.{IsSteady, cause_in}
use Rattle.zk_model_trigger.proofs.Causes.{among-posted, among-unposted}
use Rattle.zk_model_trigger.proofs.Changing.{waiting-fire, waiting-cancel, waiting-take, any-waiting}
use Rattle.zk_model_trigger.proofs.Putting.{waiting-snoc}
use Rattle.zk_model_trigger.proofs.Steps.{steady-after}
use Rattle.zk_model_trigger.proofs.Lists.{filter_true}
use Rattle.zk_trigger.specs.declared.engine.TriggerEngine.{TriggerEngine}
use Rattle.zk_trigger.specs.declared.live.LiveArm.{LiveArm}
use Rattle.zk_trigger.specs.declared.live.LiveFire.{LiveFire}
use Rattle.zk_trigger.specs.declared.live.Sought.TheVariants.{Events, Until}
use Rattle.zk_trigger.specs.Live.{meets_sought, all_sought, fire_live, is_arm_of, has_item, waits_with, fires_with, told_live, word_of, kept, kept_fire, sought_by}
use Rattle.zk_trigger.specs.Steps.{set_at, asked_live, is_busy, cause_for, IsAnswered, HasFired}
use Rattle.zk_trigger.specs.Stands.{StandsFor}
use Rattle.zk_trigger.proofs.Keeping.{others-kept, found-kept, fires-kept, other_items-kept, any-kept, has-kept, waits-kept, made-kept, told-kept, rest-kept, find-below}

-- one entry more
timely-more : (now entries arms arms' : ℕ) → IsTimely now entries arms → entries < most_entries → arms' ≤ arms + 1 →
    IsTimely now (entries + 1) arms'
timely-more now entries arms arms' t few more =
    let short = t.short in let made = t.made in record { few = omega arith; short = omega arith; made = omega arith }

-- the engine's entries are the state's
pub few-entries : (e : TriggerEngine) (s : Triggers) → StandsFor e s → s.entries < most_entries → e.entries < most_entries
few-entries e s st few = let same = st.entries in omega arith

pub timely-engine : (e : TriggerEngine) (s : Triggers) → StandsFor e s → IsTimely e.now e.entries e.made
timely-engine e s st =
    subst (λ n. IsTimely n e.entries e.made) (sym st.now)
    (subst (λ n. IsTimely s.now n e.made) (sym st.entries) (subst (IsTimely s.now s.entries) (sym st.made) st.timely))

-- What fires.

module _ (e e' : TriggerEngine) (s : Triggers) (o : Occasion) (st : StandsFor e s)
    (hf : HasFired (sought_by o) (cause_by o) e.live e'.live) where
  pub waiting-fired : e'.live.waiting ≡ map kept (waiting (change_all (changes.Fire o) s.arms))
  waiting-fired =
      hf.waiting
      ∙ ap (filter (λ a. not (meets_sought (sought_by o) a))) st.waiting
      ∙ others-kept o (waiting s.arms)
      ∙ ap (map kept) (sym (waiting-fire o s.arms))

  pub fires-fired : e'.live.fires ≡ map kept_fire (s.fires ++ map (fire_of (cause_by o)) (chosen o s.arms))
  fires-fired =
      hf.fires
      ∙ ap (λ (l : List LiveFire). l ++ map (fire_live (cause_by o)) (all_sought (sought_by o) e.live.waiting)) st.fires
      ∙ ap (λ (l : List LiveArm). map kept_fire s.fires ++ map (fire_live (cause_by o)) (all_sought (sought_by o) l)) st.waiting
      ∙ ap (λ (l : List LiveArm). map kept_fire s.fires ++ map (fire_live (cause_by o)) l) (found-kept o (waiting s.arms))
      ∙ ap (λ (l : List LiveFire). map kept_fire s.fires ++ l) (fires-kept (cause_by o) (chosen o s.arms))
      ∙ sym (map-append kept_fire s.fires (map (fire_of (cause_by o)) (chosen o s.arms)))

-- an event is put so
set-ready : (ready : List Bool) (event x : ℕ) (b : Bool) → event < length ready →
    get_or (set ready event b) x false ≡ cond (eqb event x) b (get_or ready x false)
set-ready ready event x b within = by (cases_eq event x) where
  by : (event ≡ x) ⊎ (event ≡ x → ⊥) → get_or (set ready event b) x false ≡ cond (eqb event x) b (get_or ready x false)
  by (inl same) =
      ap (λ (n : ℕ). get_or (set ready event b) n false) (sym same) ∙ get_or-set_same ready event b false within
      ∙ sym (ap (λ (c : Bool). cond c b (get_or ready x false)) (eq-eqb event x same))
  by (inr apart) =
      get_or-set_other ready event x b false (λ same. apart (sym same))
      ∙ sym (ap (λ (c : Bool). cond c b (get_or ready x false)) (ne_eqb event x apart))

put-true : (c r : Bool) → cond c true r ≡ (c || r)
put-true true r = refl
put-true false r = refl

put-false : (c r : Bool) → cond c false r ≡ (r && not c)
put-false true true = refl
put-false true false = refl
put-false false true = refl
put-false false false = refl

module _ (e e' : TriggerEngine) (s : Triggers) (who : Who) (st : StandsFor e s) (few : s.entries < most_entries) where
  pub stands-post : (event : ℕ) → event < 64 →
      e' ≡ record e { entries = e.entries + 1; ready = set e.ready event true; live = e'.live } →
      HasFired (Events (2 ^ event)) (Event event) e.live e'.live → StandsFor e' (trigger_next s who (ops.Post event))
  stands-post event within next hf =
      let long = st.long in
      let same = length-map s.arms (change_one (changes.Fire (Posted event))) in
      record {
        now = ap (λ (x : TriggerEngine). x.now) next ∙ st.now;
        entries = ap (λ (x : TriggerEngine). x.entries) next ∙ ap (λ (n : ℕ). n + 1) st.entries;
        made = ap (λ (x : TriggerEngine). x.made) next ∙ st.made ∙ sym same;
        timely = timely-more s.now s.entries (length s.arms) (length (change_all (changes.Fire (Posted event)) s.arms))
            st.timely few (omega arith);
        long = ap (λ (x : TriggerEngine). length x.ready) next ∙ length-set e.ready event true ∙ st.long;
        ready = λ x below.
            ap (λ (y : TriggerEngine). get_or y.ready x false) next
            ∙ set-ready e.ready event x true (omega arith)
            ∙ put-true (eqb event x) (get_or e.ready x false)
            ∙ ap (λ (b : Bool). eqb event x || b) (st.ready x below)
            ∙ sym (among-posted s.ready event x);
        waiting = waiting-fired e e' s (Posted event) st hf;
        fires = fires-fired e e' s (Posted event) st hf;
        steady = steady-after s who (ops.Post event) replies.Done st.steady refl;
      }

  pub stands-unpost : (event : ℕ) → event < 64 →
      e' ≡ record e { entries = e.entries + 1; ready = set e.ready event false } →
      StandsFor e' (trigger_next s who (ops.Unpost event))
  stands-unpost event within next =
      let long = st.long in
      record {
        now = ap (λ (x : TriggerEngine). x.now) next ∙ st.now;
        entries = ap (λ (x : TriggerEngine). x.entries) next ∙ ap (λ (n : ℕ). n + 1) st.entries;
        made = ap (λ (x : TriggerEngine). x.made) next ∙ st.made;
        timely = timely-more s.now s.entries (length s.arms) (length s.arms) st.timely few (omega arith);
        long = ap (λ (x : TriggerEngine). length x.ready) next ∙ length-set e.ready event false ∙ st.long;
        ready = λ x below.
            ap (λ (y : TriggerEngine). get_or y.ready x false) next
            ∙ set-ready e.ready event x false (omega arith)
            ∙ put-false (eqb event x) (get_or e.ready x false)
            ∙ ap (λ (b : Bool). b && not (eqb event x)) (st.ready x below)
            ∙ sym (among-unposted s.ready event x);
        waiting = ap (λ (x : TriggerEngine). x.live.waiting) next ∙ st.waiting;
        fires = ap (λ (x : TriggerEngine). x.live.fires) next ∙ st.fires;
        steady = steady-after s who (ops.Unpost event) replies.Done st.steady refl;
      }

  pub stands-tick : (ticks : ℕ) → ticks < 2 ^ 32 →
      e' ≡ record e { now = e.now + ticks; entries = e.entries + 1; live = e'.live } →
      HasFired (Until (e.now + ticks)) Time e.live e'.live → StandsFor e' (trigger_next s who (ops.Tick ticks))
  stands-tick ticks below next fired_at_time =
      let time = s.now + ticks in
      let hf : HasFired (sought_by (Reached time)) Time e.live e'.live =
      subst (λ n. HasFired (Until (n + ticks)) Time e.live e'.live) st.now fired_at_time in
      let same = length-map s.arms (change_one (changes.Fire (Reached time))) in
      let few_now = st.timely.few in
      let short = st.timely.short in
      let made = st.timely.made in
      record {
        now = ap (λ (x : TriggerEngine). x.now) next ∙ ap (λ (n : ℕ). n + ticks) st.now;
        entries = ap (λ (x : TriggerEngine). x.entries) next ∙ ap (λ (n : ℕ). n + 1) st.entries;
        made = ap (λ (x : TriggerEngine). x.made) next ∙ st.made ∙ sym same;
        timely = record { few = omega arith; short = omega arith; made = omega arith };
        long = ap (λ (x : TriggerEngine). length x.ready) next ∙ st.long;
        ready = λ x below. ap (λ (y : TriggerEngine). get_or y.ready x false) next ∙ st.ready x below;
        waiting = waiting-fired e e' s (Reached time) st hf;
        fires = fires-fired e e' s (Reached time) st hf;
        steady = steady-after s who (ops.Tick ticks) (replies.Now time) st.steady refl;
      }

  pub stands-cancel : (item : ℕ) →
      e' ≡ record e { entries = e.entries + 1; live = e'.live } →
      e'.live.waiting ≡ filter (λ a. not (is_arm_of item a)) e.live.waiting → e'.live.fires ≡ e.live.fires →
      StandsFor e' (trigger_next s who (ops.Cancel item))
  stands-cancel item next waits fires =
      let same = length-map s.arms (change_one (changes.Cancel item)) in
      record {
        now = ap (λ (x : TriggerEngine). x.now) next ∙ st.now;
        entries = ap (λ (x : TriggerEngine). x.entries) next ∙ ap (λ (n : ℕ). n + 1) st.entries;
        made = ap (λ (x : TriggerEngine). x.made) next ∙ st.made ∙ sym same;
        timely = timely-more s.now s.entries (length s.arms) (length (change_all (changes.Cancel item) s.arms))
            st.timely few (omega arith);
        long = ap (λ (x : TriggerEngine). length x.ready) next ∙ st.long;
        ready = λ x below. ap (λ (y : TriggerEngine). get_or y.ready x false) next ∙ st.ready x below;
        waiting = waits ∙ ap (filter (λ a. not (is_arm_of item a))) st.waiting ∙ other_items-kept item (waiting s.arms)
            ∙ ap (map kept) (sym (waiting-cancel item s.arms));
        fires = fires ∙ st.fires;
        steady = steady-after s who (ops.Cancel item) (cond (has_waiting s.arms item) replies.Done replies.Inval) st.steady refl;
      }

  -- what a cancel is answered
  pub told-cancel : (item : ℕ) (reply : TriggerReply) →
      reply ≡ cond (list_any (is_arm_of item) e.live.waiting) replies.Done replies.Inval →
      trigger_reply s who (ops.Cancel item) ≡ Some reply
  told-cancel item reply is =
      ap (λ (b : Bool). Some (cond b replies.Done replies.Inval)) (any-waiting item s.arms ∙ sym (any-kept item (waiting s.arms))
      ∙ ap (list_any (is_arm_of item)) (sym st.waiting)) ∙ ap Some (sym is)

  pub told-next : trigger_reply s who ops.Next ≡ option_map told_live (slice_get e.live.fires 0)
  told-next = sym (ap (λ (l : List LiveFire). option_map told_live (slice_get l 0)) st.fires ∙ told-kept s.fires)

  pub stands-next : (reply : TriggerReply) → trigger_reply s who ops.Next ≡ Some reply →
      e' ≡ record e { entries = e.entries + 1; live = e'.live } →
      e'.live.waiting ≡ e.live.waiting → e'.live.fires ≡ drop 1 e.live.fires →
      StandsFor e' (trigger_next s who ops.Next)
  stands-next reply is next waits fires = record {
    now = ap (λ (x : TriggerEngine). x.now) next ∙ st.now ∙ sym (same_now s.fires);
    entries = ap (λ (x : TriggerEngine). x.entries) next ∙ ap (λ (n : ℕ). n + 1) st.entries;
    made = ap (λ (x : TriggerEngine). x.made) next ∙ st.made ∙ sym (same_long s.fires);
    timely = subst (λ n. IsTimely n (s.entries + 1) (length (taken s s.fires).arms)) (sym (same_now s.fires))
        (let same = same_long s.fires in
        timely-more s.now s.entries (length s.arms) (length (taken s s.fires).arms) st.timely few (omega arith));
    long = ap (λ (x : TriggerEngine). length x.ready) next ∙ st.long;
    ready = λ x below.
        ap (λ (y : TriggerEngine). get_or y.ready x false) next ∙ st.ready x below
        ∙ ap (λ (l : List ℕ). is_among l x) (sym (same_ready s.fires));
    waiting = waits ∙ st.waiting ∙ ap (map kept) (sym (same_waiting s.fires));
    fires = fires ∙ ap (drop 1) st.fires ∙ rest-kept s.fires ∙ ap (map kept_fire) (sym (same_rest s.fires is));
    steady = steady-after s who ops.Next reply st.steady is;
  } where
    same_now : (l : List Fire) → (taken s l).now ≡ s.now
    same_now [] = refl
    same_now (f ∷ rest) = refl

    same_ready : (l : List Fire) → (taken s l).ready ≡ s.ready
    same_ready [] = refl
    same_ready (f ∷ rest) = refl

    same_long : (l : List Fire) → length (taken s l).arms ≡ length s.arms
    same_long [] = refl
    same_long (f ∷ rest) = length-map s.arms (change_one (changes.Take f.arm.item))

    same_waiting : (l : List Fire) → waiting (taken s l).arms ≡ waiting s.arms
    same_waiting [] = refl
    same_waiting (f ∷ rest) = waiting-take f.arm.item s.arms ∙ filter_true (waiting s.arms)

    same_rest : (l : List Fire) → option_map told_fire (slice_get l 0) ≡ Some reply → (taken s l).fires ≡ drop 1 l
    same_rest [] is = absurd (cc)
    same_rest (f ∷ rest) is = refl

-- where no fire is there nothing changes
pub stands-idle : (e e' : TriggerEngine) (s : Triggers) (who : Who) → StandsFor e s → trigger_reply s who ops.Next ≡ None →
    e' ≡ record e { entries = e.entries + 0; live = e'.live } →
    e'.live.waiting ≡ e.live.waiting → e'.live.fires ≡ drop 1 e.live.fires → StandsFor e' s
stands-idle e e' s who st none next waits fires = record {
  now = ap (λ (x : TriggerEngine). x.now) next ∙ st.now;
  entries = ap (λ (x : TriggerEngine). x.entries) next ∙ add-zero e.entries ∙ st.entries;
  made = ap (λ (x : TriggerEngine). x.made) next ∙ st.made;
  timely = st.timely;
  long = ap (λ (x : TriggerEngine). length x.ready) next ∙ st.long;
  ready = λ x below. ap (λ (y : TriggerEngine). get_or y.ready x false) next ∙ st.ready x below;
  waiting = waits ∙ st.waiting;
  fires = fires ∙ ap (drop 1) st.fires ∙ rest-kept s.fires ∙ ap (map kept_fire) (same s.fires none);
  steady = st.steady;
} where
  same : (l : List Fire) → option_map told_fire (slice_get l 0) ≡ None → drop 1 l ≡ l
  same [] is = refl
  same (f ∷ rest) is = absurd (cc)

-- the events of an arm in range
pub events-below : (item queue : ℕ) (events : List ℕ) (ticks : Option ℕ) →
    names_in_range (ops.Arm item queue events ticks) ≡ true → All (λ x. x < 64) events
events-below item queue events ticks range =
    let first = and_parts (ltb item 256) (ltb queue 8 && (ltb 0 (length events) && list_all (λ e. ltb e 64) events)) range in
    let second = and_parts (ltb queue 8) (ltb 0 (length events) && list_all (λ e. ltb e 64) events) first.1 in
    let third = and_parts (ltb 0 (length events)) (list_all (λ e. ltb e 64) events) second.1 in
    all events third.1 where
      all : (xs : List ℕ) → list_all (λ e. ltb e 64) xs ≡ true → All (λ x. x < 64) xs
      all [] is = All-nil (λ x. x < 64)
      all (x ∷ xs) is =
          let parts = and_parts (ltb x 64) (list_all (λ e. ltb e 64) xs) is in
          All-cons (λ y. y < 64) x xs (ltb-true x 64 parts.0) (all xs parts.1)

-- An arm.

module _ (e e' : TriggerEngine) (s : Triggers) (who : Who) (item queue : ℕ) (events : List ℕ) (ticks : Option ℕ)
    (reply : TriggerReply) (st : StandsFor e s) (few : s.entries < most_entries) (below : All (λ x. x < 64) events)
    (is : IsAnswered item queue events ticks e e' reply) where
  abbrev new : Arm
  new = asked s item queue events ticks

  busy-same : is_busy e item ≡ has_live s.arms item
  busy-same =
      ap (λ (l : List LiveArm). has_item l e.live.fires item) st.waiting
      ∙ ap (λ (l : List LiveFire). has_item (map kept (waiting s.arms)) l item) st.fires
      ∙ has-kept s item st.steady.sound

  cause-same : cause_for e events ticks ≡ cause_in s new
  cause-same =
      ap (λ (o : Option ℕ). found_cause o (is_reached e.now (option_map (λ (t : ℕ). e.now + t) ticks)))
      (find-below (set_at e.ready) (is_among s.ready) 64 (λ x within. st.ready x within) events below)
      ∙ ap (λ (n : ℕ). found_cause (find (is_among s.ready) events) (is_reached n (option_map (λ (t : ℕ). n + t) ticks))) st.now

  arm-same : asked_live e item queue events ticks ≡ kept new
  arm-same =
      let Of : ℕ → ℕ → LiveArm = λ made now. record {
        number = made;
        item = item;
        queue = queue;
        events = word_of events;
        deadline = option_map (λ (t : ℕ). now + t) ticks;
      } in
      ap (λ (n : ℕ). Of n e.now) st.made ∙ ap (λ (n : ℕ). Of (length s.arms) n) st.now

  pub told-arm : trigger_reply s who (ops.Arm item queue events ticks) ≡ Some reply
  told-arm =
      ap (λ (b : Bool). Some (cond b replies.Busy (replies.Armed (length s.arms)))) (sym busy-same)
      ∙ ap (λ (n : ℕ). Some (cond (is_busy e item) replies.Busy (replies.Armed n))) (sym st.made) ∙ ap Some (sym is.told)

  -- the state after it, where the item is busy and where it isn't
  abbrev left : Bool → Triggers
  left b = record (cond b s (armed_with s new (cause_in s new))) { entries = s.entries + 1 }

  steady : (b : Bool) → has_live s.arms item ≡ b → IsSteady (left b)
  steady b so =
      subst (λ c. IsSteady (left c)) so
      (steady-after s who (ops.Arm item queue events ticks) reply st.steady told-arm)

  abbrev made : Armed
  made = record { arm = new; life = born (cause_in s new) }

  waits-more : e.live.waiting ++ waits_with (asked_live e item queue events ticks) (cause_for e events ticks)
      ≡ map kept (waiting (s.arms ++ made ∷ []))
  waits-more =
      ap (λ (l : List LiveArm). l ++ waits_with (asked_live e item queue events ticks) (cause_for e events ticks)) st.waiting
      ∙ ap (λ (a : LiveArm). map kept (waiting s.arms) ++ waits_with a (cause_for e events ticks)) arm-same
      ∙ ap (λ (c : Option Cause). map kept (waiting s.arms) ++ waits_with (kept new) c) cause-same
      ∙ ap (λ (l : List LiveArm). map kept (waiting s.arms) ++ l) (waits-kept new (cause_in s new))
      ∙ sym (map-append kept (waiting s.arms) (cond (is_waiting (born (cause_in s new))) (new ∷ []) []))
      ∙ ap (map kept) (sym (waiting-snoc s.arms made))

  fires-more : e.live.fires ++ fires_with (asked_live e item queue events ticks) (cause_for e events ticks)
      ≡ map kept_fire (s.fires ++ model.fires_with new (cause_in s new))
  fires-more =
      ap (λ (l : List LiveFire). l ++ fires_with (asked_live e item queue events ticks) (cause_for e events ticks)) st.fires
      ∙ ap (λ (a : LiveArm). map kept_fire s.fires ++ fires_with a (cause_for e events ticks)) arm-same
      ∙ ap (λ (c : Option Cause). map kept_fire s.fires ++ fires_with (kept new) c) cause-same
      ∙ ap (λ (l : List LiveFire). map kept_fire s.fires ++ l) (made-kept new (cause_in s new))
      ∙ sym (map-append kept_fire s.fires (model.fires_with new (cause_in s new)))

  by-busy : (b : Bool) → is_busy e item ≡ b → has_live s.arms item ≡ b → StandsFor e' (left b)
  by-busy true busy so = record {
    now = ap (λ (x : TriggerEngine). x.now) is.next ∙ st.now;
    entries = ap (λ (x : TriggerEngine). x.entries) is.next ∙ ap (λ (n : ℕ). n + 1) st.entries;
    made = ap (λ (x : TriggerEngine). x.made) is.next ∙ ap (λ (b : Bool). cond b e.made (e.made + 1)) busy ∙ st.made;
    timely = timely-more s.now s.entries (length s.arms) (length s.arms) st.timely few (omega arith);
    long = ap (λ (x : TriggerEngine). length x.ready) is.next ∙ st.long;
    ready = λ x within. ap (λ (y : TriggerEngine). get_or y.ready x false) is.next ∙ st.ready x within;
    waiting = is.waiting ∙ ap (λ (b : Bool). cond b e.live.waiting
        (e.live.waiting ++ waits_with (asked_live e item queue events ticks) (cause_for e events ticks))) busy ∙ st.waiting;
    fires = is.fires ∙ ap (λ (b : Bool). cond b e.live.fires
        (e.live.fires ++ fires_with (asked_live e item queue events ticks) (cause_for e events ticks))) busy ∙ st.fires;
    steady = steady true so;
  }
  by-busy false busy so = record {
    now = ap (λ (x : TriggerEngine). x.now) is.next ∙ st.now;
    entries = ap (λ (x : TriggerEngine). x.entries) is.next ∙ ap (λ (n : ℕ). n + 1) st.entries;
    made = ap (λ (x : TriggerEngine). x.made) is.next ∙ ap (λ (b : Bool). cond b e.made (e.made + 1)) busy
        ∙ ap (λ (n : ℕ). n + 1) st.made ∙ sym (length-append s.arms (made ∷ []));
    timely = timely-more s.now s.entries (length s.arms) (length (s.arms ++ made ∷ [])) st.timely few
        (let long = length-append s.arms (made ∷ []) in omega arith);
    long = ap (λ (x : TriggerEngine). length x.ready) is.next ∙ st.long;
    ready = λ x within. ap (λ (y : TriggerEngine). get_or y.ready x false) is.next ∙ st.ready x within;
    waiting = is.waiting ∙ ap (λ (b : Bool). cond b e.live.waiting
        (e.live.waiting ++ waits_with (asked_live e item queue events ticks) (cause_for e events ticks))) busy ∙ waits-more;
    fires = is.fires ∙ ap (λ (b : Bool). cond b e.live.fires
        (e.live.fires ++ fires_with (asked_live e item queue events ticks) (cause_for e events ticks))) busy ∙ fires-more;
    steady = steady false so;
  }

  pub stands-arm : StandsFor e' (trigger_next s who (ops.Arm item queue events ticks))
  stands-arm = by-busy (has_live s.arms item) busy-same refl

-- What a step is answered and leaves, where the operation is this one.

-- the entries of two states that the engine stands for are as many
pub few-same : (e : TriggerEngine) (first s : Triggers) → StandsFor e first → StandsFor e s →
    first.entries < most_entries → s.entries < most_entries
few-same e first s one st few = let a = one.entries in let b = st.entries in omega arith

pub stepped : (s : Triggers) (who : Who) (op named : TriggerOp) (reply : TriggerReply) (e : TriggerEngine) → op ≡ named →
    trigger_reply s who named ≡ Some reply → StandsFor e (trigger_next s who named) →
    (trigger_reply s who op ≡ Some reply) × (reply ≡ reply) × StandsFor e (trigger_next s who op)
stepped s who op named reply e is told stands = (
  ap (trigger_reply s who) is ∙ told,
  refl,
  subst (λ (o : TriggerOp). StandsFor e (trigger_next s who o)) (sym is) stands,
)

pub idle : (s : Triggers) (who : Who) (op named : TriggerOp) (e : TriggerEngine) → op ≡ named →
    trigger_reply s who named ≡ None → StandsFor e s → (trigger_reply s who op ≡ None) × StandsFor e s
idle s who op named e is told stands = (ap (trigger_reply s who) is ∙ told, stands)
