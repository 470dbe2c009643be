-- What a cancel tells.
use Rattle.std.proofs.Common.{◌≡◌, ℕ, ◌+◌, ◌<◌, ◌≢◌, ◌⊎◌, inl, inr, Bool, true, false, not, ◌&&◌, ◌||◌, cond, eqb, ltb, Option, Some, None, is_some, option_map, List, [], ◌∷◌, ◌++◌, length, map, slice_get, refl, sym, ap, subst, ◌∙◌, append_assoc}
use Rattle.std.specs.Cmp.{first_so, second_so}
use Rattle.std.specs.List.{position, position_or_len, list_any}
use Rattle.std.specs.Option.{option_map_or}
use Rattle.std.proofs.lemmas.Bool.{eqb-true, eq-eqb, false≢true, cases_order, and_from}
use Rattle.std.proofs.lemmas.Bool.Decides.{eqb_tells}
use Rattle.std.proofs.lemmas.List.{length-map}
use Rattle.std.proofs.lemmas.Option.{same_Some}
use Rattle.zk_base.specs.declared.ids.Entry.{Entry}
use Rattle.zk_base.specs.Legal.{state_after}
use Rattle.zk_base.proofs.Histories.{state_after-snoc}
use Rattle.zk_model_work.specs.declared.parts.Life.{Life}
use Rattle.zk_model_work.specs.declared.parts.Life.TheVariants.{Waiting, Running, Ended, Dropped}
use Rattle.zk_model_work.specs.declared.parts.Admission.{Admission}
use Rattle.zk_model_work.specs.declared.parts.Awaited.{Awaited}
use Rattle.zk_model_work.specs.declared.parts.Awaited.TheVariants as awaiteds
use Rattle.zk_model_work.specs.declared.parts.Wait.{Wait}
use Rattle.zk_model_work.specs.declared.ops.WorkOp.{WorkOp}
use Rattle.zk_model_work.specs.declared.ops.WorkOp.TheVariants.{Cancel}
use Rattle.zk_model_work.specs.declared.ops.WorkReply.{WorkReply}
use Rattle.zk_model_work.specs.declared.ops.WorkReply.TheVariants as replies
use Rattle.zk_model_work.specs.Questions.{is_waiting, is_running, is_open, waits_as, runs_as, is_open_as, arms_item, passes_at, waiting, running, armed, is_cancelling, flushes, is_flushing, busy_flags}
use Rattle.zk_model_work.specs.State.{State}
use Rattle.zk_model_work.specs.Machine.{drop_one, drop_waiting, cancel, flags_of, work_reply, work_next, work_machine}
use Rattle.zk_model_work.specs.Histories.{WorkHistory, IsFreshHistory, OfEach, awaits, cancel_flags}
use Rattle.zk_model_work.specs.Laws.{CancelTellsTheRun}
use Rattle.zk_model_work.proofs.Lives.{open-running}
use Rattle.zk_model_work.proofs.Overlaps.{position-none, Ordered, Ordered-history}
use Rattle.zk_model_work.proofs.Singles.{runs_is}
use Rattle.zk_model_work.proofs.Cancels.{NoneWaits-entry}
use Rattle.zk_model_work.proofs.Delays.{unarmed-disarm}
use Rattle.zk_model_work.proofs.Entries.{entry-replied, fresh-front}
use Rattle.zk_model_work.proofs.Replies.{position-at}
use Rattle.zk_model_work.proofs.Found.{cancelling-runs, flushing-open}
use Rattle.zk_model_work.proofs.Marks.{is-cancelling}
use Rattle.zk_model_work.proofs.Waits.{is_flush_of, flushes-after}

-- a change that leaves what passes leaves the first place
places-same : {A : Type 0} (p : A → Bool) (f : A → A) → ((x : A) → p (f x) ≡ p x) → (xs : List A) →
    position_or_len p (map f xs) ≡ position_or_len p xs
places-same p f same [] = refl
places-same p f same (x ∷ xs) =
    ap (λ b. cond (not b) (1 + position_or_len p (map f xs)) 0) (same x)
    ∙ ap (λ n. cond (not (p x)) (1 + n) 0) (places-same p f same xs)

position-same : {A : Type 0} (p : A → Bool) (f : A → A) → ((x : A) → p (f x) ≡ p x) → (xs : List A) →
    position p (map f xs) ≡ position p xs
position-same p f same xs =
    ap (λ n. cond (ltb n (length (map f xs))) (Some n) None) (places-same p f same xs)
    ∙ ap (λ l. cond (ltb (position_or_len p xs) l) (Some (position_or_len p xs)) None) (length-map xs f)

waits-not : (life : Life) → is_waiting life ≡ true → false ≡ is_running life
waits-not Waiting w = refl
waits-not Running w = absurd (cc)
waits-not Ended w = absurd (cc)
waits-not Dropped w = absurd (cc)

runs-dropped : (item : ℕ) (a : Admission) → runs_as item (drop_one item a) ≡ runs_as item a
runs-dropped item a = by (waits_as item a) refl where
  by : (b : Bool) → waits_as item a ≡ b → runs_as item (cond b (record a { life = Dropped }) a) ≡ runs_as item a
  by true is = ap (λ b. eqb a.item item && b) (waits-not a.life (second_so (eqb a.item item) (is_waiting a.life) is))
  by false is = refl

running-drop : (xs : List Admission) (item : ℕ) → running (drop_waiting xs item) item ≡ running xs item
running-drop xs item = position-same (runs_as item) (drop_one item) (runs-dropped item) xs

-- nothing is there
none-some : {A : Type 0} (p : A → Bool) (xs : List A) → ((n : ℕ) (a : A) → slice_get xs n ≡ Some a → p a ≡ false) →
    is_some (position p xs) ≡ false
none-some {A} p xs none = by (position p xs) refl where
  by : (o : Option ℕ) → position p xs ≡ o → is_some o ≡ false
  by None is = refl
  by (Some n) is = let it = position-at p xs n is in absurd (false≢true (sym (none n it.0 it.1) ∙ it.2))

-- of an item that runs and doesn't wait just the run is open
only-run : (xs : List Admission) (item run : ℕ) → Ordered xs → running xs item ≡ Some run →
    is_some (waiting xs item) ≡ false → (n : ℕ) → passes_at (is_open_as item) xs n ≡ eqb run n
only-run xs item run ordered runs empty n = at_place (eqb_tells run n) where
  it : (a : Admission) × (slice_get xs run ≡ Some a) × (runs_as item a ≡ true)
  it = position-at (runs_as item) xs run runs

  none-waits : (m : ℕ) (b : Admission) → slice_get xs m ≡ Some b → b.item ≡ item → is_waiting b.life ≡ true → ⊥
  none-waits m b at same waits = by (waiting xs item) refl empty where
    by : (o : Option ℕ) → waiting xs item ≡ o → is_some o ≡ false → ⊥
    by None is none = false≢true (sym (position-none (waits_as item) xs m b is at)
        ∙ and_from (eqb b.item item) (is_waiting b.life) (eq-eqb b.item item same) waits)
    by (Some k) is none = false≢true (sym none)

  item_is : it.0.item ≡ item
  item_is = eqb-true it.0.item item (first_so (eqb it.0.item item) (is_running it.0.life) it.2)

  run-open : is_open it.0.life ≡ true
  run-open = open-running it.0.life (second_so (eqb it.0.item item) (is_running it.0.life) it.2)

  other : (m : ℕ) (b : Admission) → run ≢ m → slice_get xs m ≡ Some b → b.item ≡ item → is_open b.life ≡ true → ⊥
  other m b apart at same opens = by (cases_order run m) where
    by : (run ≡ m) ⊎ ((run < m) ⊎ (m < run)) → ⊥
    by (inl is) = apart is
    by (inr (inl below)) = none-waits m b at same (ordered run m it.0 b below it.1 at (item_is ∙ sym same) run-open opens).1
    by (inr (inr above)) =
        none-waits run it.0 it.1 item_is (ordered m run b it.0 above at it.1 (same ∙ sym item_is) opens run-open).1

  at_place : ((eqb run n ≡ true) × (run ≡ n)) ⊎ ((eqb run n ≡ false) × (run ≢ n)) → passes_at (is_open_as item) xs n ≡ eqb run n
  at_place (inl same) =
      ap (λ m. passes_at (is_open_as item) xs m) (sym same.1)
      ∙ ap (λ (o : Option Admission). option_map_or (is_open_as item) o false) it.1
      ∙ and_from (eqb it.0.item item) (is_open it.0.life) (eq-eqb it.0.item item item_is) run-open ∙ sym same.0
  at_place (inr differ) = by (slice_get xs n) refl ∙ sym differ.0 where
    by : (o : Option Admission) → slice_get xs n ≡ o → option_map_or (is_open_as item) o false ≡ false
    by None at = refl
    by (Some b) at = so (is_open_as item b) refl where
      so : (c : Bool) → is_open_as item b ≡ c → is_open_as item b ≡ false
      so false is = is
      so true is = absurd (other n b differ.1 at (eqb-true b.item item (first_so (eqb b.item item) (is_open b.life) is))
          (second_so (eqb b.item item) (is_open b.life) is))

pub any-same : {A : Type 0} (p q : A → Bool) → ((x : A) → p x ≡ q x) → (xs : List A) → list_any p xs ≡ list_any q xs
any-same p q same [] = refl
any-same p q same (x ∷ xs) = ap (λ b. b || list_any p xs) (same x) ∙ ap (λ b. q x || b) (any-same p q same xs)

flushing-run : (xs : List Admission) (ws : List Wait) (item run : ℕ) → Ordered xs → running xs item ≡ Some run →
    is_some (waiting xs item) ≡ false →
    is_flushing xs ws item ≡ list_any (λ (w : Wait). is_flush_of run w.awaited) ws
flushing-run xs ws item run ordered runs empty =
    any-same (λ (w : Wait). flushes xs item w.awaited) (λ (w : Wait). is_flush_of run w.awaited) (λ w. by w.awaited) ws where
      by : (a : Awaited) → flushes xs item a ≡ is_flush_of run a
      by (awaiteds.Cancel n) = refl
      by (awaiteds.Flush n) = only-run xs item run ordered runs empty n
      by (awaiteds.Drain queue n) = refl

-- the flags together
flags-idle : (r c q a f : Bool) → r ≡ false → c ≡ false → q ≡ false → a ≡ false → f ≡ false → busy_flags r c q a f ≡ 0
flags-idle r c q a f r_is c_is q_is a_is f_is =
    ap (λ b. busy_flags b c q a f) r_is ∙ ap (λ b. busy_flags false b q a f) c_is
    ∙ ap (λ b. busy_flags false false b a f) q_is ∙ ap (λ b. busy_flags false false false b f) a_is
    ∙ ap (λ b. busy_flags false false false false b) f_is

flags-run : (r c q a f g : Bool) → r ≡ true → c ≡ true → q ≡ false → a ≡ false → f ≡ g → busy_flags r c q a f ≡ cond g 19 3
flags-run r c q a f g r_is c_is q_is a_is f_is =
    ap (λ b. busy_flags b c q a f) r_is ∙ ap (λ b. busy_flags true b q a f) c_is
    ∙ ap (λ b. busy_flags true true b a f) q_is ∙ ap (λ b. busy_flags true true false b f) a_is
    ∙ ap (λ b. busy_flags true true false false b) f_is ∙ last g where
      last : (b : Bool) → busy_flags true true false false b ≡ cond b 19 3
      last true = refl
      last false = refl

-- the flags after a cancel
flags-cancel : (start : State) (h front rest : WorkHistory) (e : Entry WorkOp WorkReply) (item : ℕ) →
    IsFreshHistory start h → h ≡ front ++ e ∷ rest → e.op ≡ Cancel item →
    flags_of (cancel (state_after work_machine start front) item) item
    ≡ cancel_flags front (running (cancel (state_after work_machine start front) item).admissions item)
flags-cancel start h front rest e item fresh parts op = by (running c.admissions item) refl where
  s : State
  s = state_after work_machine start front

  c : State
  c = cancel s item

  next : state_after work_machine start (front ++ e ∷ []) ≡ work_next s e.who (Cancel item)
  next = state_after-snoc work_machine start front e ∙ ap (work_next s e.who) op

  whole : h ≡ (front ++ e ∷ []) ++ rest
  whole = parts ∙ sym (append_assoc front (e ∷ []) rest)

  empty : is_some (waiting c.admissions item) ≡ false
  empty = none-some (waits_as item) c.admissions (λ n a at. both a (eqb a.item item) refl n at) where
    both : (a : Admission) (b : Bool) → eqb a.item item ≡ b → (n : ℕ) → slice_get c.admissions n ≡ Some a →
        (b && is_waiting a.life) ≡ false
    both a true is n at = NoneWaits-entry s e.who (Cancel item) item (inl refl) n a at (eqb-true a.item item is)
    both a false is n at = refl

  unarmed : is_some (armed c.arms item) ≡ false
  unarmed = none-some (arms_item item) c.arms (λ n a at. unarmed-disarm s.arms item n a at)

  ordered : Ordered c.admissions
  ordered = subst (λ (u : State). Ordered u.admissions) next (Ordered-history start h (front ++ e ∷ []) rest fresh whole)

  cancels : (run : ℕ) → running c.admissions item ≡ Some run → is_cancelling c.admissions c.marks item ≡ true
  cancels run runs =
      let it = position-at (runs_as item) c.admissions run runs in
      subst (λ (u : State). is_cancelling u.admissions u.marks item ≡ true) next
      (is-cancelling start (front ++ e ∷ []) item (fresh-front start h (front ++ e ∷ []) rest fresh whole) (record {
        before = front;
        since = [];
        cancel = e;
        run = run;
        parts = refl;
        cancels = inl op;
        found = sym (running-drop s.admissions item) ∙ runs;
        runs = ap (λ (u : State). option_map (λ (a : Admission). a.life) (slice_get u.admissions run)) next
            ∙ ap (option_map (λ (a : Admission). a.life)) it.1
            ∙ ap Some (runs_is it.0.life (second_so (eqb it.0.item item) (is_running it.0.life) it.2));
      }))

  awaited : (run : ℕ) →
      list_any (λ (w : Wait). is_flush_of run w.awaited) s.waits
      ≡ list_any (λ (e : Entry WorkOp WorkReply). awaits run e.reply) front
  awaited run =
      flushes-after run start front (fresh-front start h front (e ∷ rest) fresh parts).work.legal.0
      ∙ ap (λ (ws : List Wait). list_any (λ (w : Wait). is_flush_of run w.awaited) ws || list_any
      (λ (e : Entry WorkOp WorkReply). awaits run e.reply) front) fresh.waits

  by : (o : Option ℕ) → running c.admissions item ≡ o → flags_of c item ≡ cancel_flags front o
  by None idle =
      let not_running = ap is_some idle in
      flags-idle (is_some (running c.admissions item)) (is_cancelling c.admissions c.marks item)
      (is_some (waiting c.admissions item)) (is_some (armed c.arms item)) (is_flushing c.admissions c.waits item)
      not_running (cancelling-runs c.admissions c.marks item not_running) empty unarmed
      (flushing-open c.admissions c.waits item not_running empty)
  by (Some run) runs =
      flags-run (is_some (running c.admissions item)) (is_cancelling c.admissions c.marks item)
      (is_some (waiting c.admissions item)) (is_some (armed c.arms item)) (is_flushing c.admissions c.waits item)
      (list_any (λ (e : Entry WorkOp WorkReply). awaits run e.reply) front) (ap is_some runs) (cancels run runs) empty unarmed
      (flushing-run c.admissions c.waits item run ordered runs empty ∙ awaited run)

pub cancel_tells_the_run : OfEach CancelTellsTheRun
cancel_tells_the_run start h fresh front rest e item parts op =
    let s = state_after work_machine start front in
    let c = cancel s item in
    let next : state_after work_machine start (front ++ e ∷ []) ≡ work_next s e.who (Cancel item) =
    state_after-snoc work_machine start front e ∙ ap (work_next s e.who) op in
    let said = same_Some (replies.Flags (flags_of c item)) e.reply (ap (work_reply s e.who) (sym op)
    ∙ entry-replied start h front rest e fresh parts) in
    sym said ∙ ap replies.Flags (flags-cancel start h front rest e item fresh parts op)
    ∙ ap (λ (u : State). replies.Flags (cancel_flags front (running u.admissions item))) (sym next)
