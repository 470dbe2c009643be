-- What a cancel and a flush find of an item, and are answered.
use Rattle.std.proofs.Common.{◌≡◌, ℕ, ◌+◌, ◌<◌, ◌≤◌, ◌⊎◌, inl, inr, Bool, true, false, ◌&&◌, ◌||◌, cond, eqb, Option, Some, None, is_some, List, [], get_or, slice_get, refl, sym, ap, subst, ◌∙◌, arith}
use Rattle.std.specs.Cmp.{first_so, second_so}
use Rattle.std.specs.List.{position, list_any}
use Rattle.std.specs.Option.{option_map_or}
use Rattle.std.proofs.lemmas.Bool.{eqb-true, eq-eqb, false≢true, cases_order, and_from}
use Rattle.std.proofs.lemmas.Bool.Decides.{nat_tests}
use Rattle.std.proofs.lemmas.List.{append-nil}
use Rattle.std.proofs.lemmas.List.Folds.{list_any_none}
use Rattle.std.proofs.lemmas.Option.{same_Some}
use Rattle.zk_base.proofs.Lists.{none_from_is_some}
use Rattle.zk_base.specs.declared.ids.Who.{Who}
use Rattle.zk_base.specs.Legal.{state_after}
use Rattle.zk_model_work.specs.declared.parts.Life.{Life}
use Rattle.zk_model_work.specs.declared.parts.Life.TheVariants.{Waiting, Running, Ended, Dropped}
use Rattle.zk_model_work.specs.declared.parts.Admission.{Admission}
use Rattle.zk_model_work.specs.declared.parts.Awaited.{Awaited}
use Rattle.zk_model_work.specs.declared.parts.Awaited.TheVariants as awaiteds
use Rattle.zk_model_work.specs.declared.parts.Wait.{Wait}
use Rattle.zk_model_work.specs.declared.ops.WorkOp.{WorkOp}
use Rattle.zk_model_work.specs.declared.ops.WorkOp.TheVariants.{FlushStart}
use Rattle.zk_model_work.specs.declared.ops.WorkReply.{WorkReply}
use Rattle.zk_model_work.specs.declared.ops.WorkReply.TheVariants as replies
use Rattle.zk_model_work.specs.Questions.{is_waiting, is_running, is_open, waits_as, runs_as, is_open_as, passes_at, waiting, running, armed, is_cancelling, flushes, is_flushing, weight}
use Rattle.zk_model_work.specs.State.{State}
use Rattle.zk_model_work.specs.Machine.{hurried, flushed_of, flags_of, work_reply, work_next, work_machine}
use Rattle.zk_model_work.specs.Answers.{flushed, cancel_start_reply, flush_start_reply}
use Rattle.zk_model_work.specs.Histories.{WorkHistory, IsFreshHistory, OfEach, IsNewest, NoneIsOpen}
use Rattle.zk_model_work.specs.Laws.{CancelStartTellsTheRun, FlushWaitsForNewest}
use Rattle.zk_model_work.proofs.Lives.{open-waiting, open-running}
use Rattle.zk_model_work.proofs.Overlaps.{position-none, waiting-running, Ordered, Ordered-next, Ordered-history}
use Rattle.zk_model_work.proofs.Entries.{at_each, at_each_in}
use Rattle.zk_model_work.proofs.Replies.{position-at}

-- where no admission passes, none of any number does
pub passes-none : (p : Admission → Bool) (xs : List Admission) (n : ℕ) → position p xs ≡ None → passes_at p xs n ≡ false
passes-none p xs n none = by (slice_get xs n) refl where
  by : (o : Option Admission) → slice_get xs n ≡ o → option_map_or p o false ≡ false
  by None at = refl
  by (Some a) at = position-none p xs n a none at

any-none : {A : Type 0} (p : A → Bool) → ((x : A) → p x ≡ false) → (xs : List A) → list_any p xs ≡ false
any-none p none xs = list_any_none p xs (λ i d within. none (get_or xs i d))

-- what is being cancelled runs
pub cancelling-runs : (xs : List Admission) (marks : List ℕ) (item : ℕ) → is_some (running xs item) ≡ false →
    is_cancelling xs marks item ≡ false
cancelling-runs xs marks item idle =
    any-none (passes_at (runs_as item) xs) (λ n. passes-none (runs_as item) xs n (none_from_is_some (running xs item) idle)) marks

-- what is being flushed waits or runs
not-open-as : (b : Bool) (life : Life) → (b && is_running life) ≡ false → (b && is_waiting life) ≡ false →
    (b && is_open life) ≡ false
not-open-as false life runs waits = refl
not-open-as true Waiting runs waits = waits
not-open-as true Running runs waits = runs
not-open-as true Ended runs waits = refl
not-open-as true Dropped runs waits = refl

closed-as : (xs : List Admission) (item n : ℕ) → running xs item ≡ None → waiting xs item ≡ None →
    passes_at (is_open_as item) xs n ≡ false
closed-as xs item n idle empty = by (slice_get xs n) refl where
  by : (o : Option Admission) → slice_get xs n ≡ o → option_map_or (is_open_as item) o false ≡ false
  by None at = refl
  by (Some a) at = not-open-as (eqb a.item item) a.life (position-none (runs_as item) xs n a idle at)
      (position-none (waits_as item) xs n a empty at)

pub flushing-open : (xs : List Admission) (waits : List Wait) (item : ℕ) → is_some (running xs item) ≡ false →
    is_some (waiting xs item) ≡ false → is_flushing xs waits item ≡ false
flushing-open xs waits item idle empty = any-none (λ (w : Wait). flushes xs item w.awaited) (λ w. by w.awaited) waits where
  by : (a : Awaited) → flushes xs item a ≡ false
  by (awaiteds.Cancel n) = refl
  by (awaiteds.Flush n) = closed-as xs item n (none_from_is_some (running xs item) idle)
      (none_from_is_some (waiting xs item) empty)
  by (awaiteds.Drain queue n) = refl

-- the answer to a sync cancel, by the flags before it
flags-tell : (r c w a f : Bool) → (r ≡ false → c ≡ false) → (r ≡ false → w ≡ false → f ≡ false) →
    cancel_start_reply (weight 1 r + weight 2 c + weight 4 w + weight 8 a + weight 16 f) r
    ≡ cond r replies.Wait (replies.Truth (w || a))
flags-tell true c w a f cancels flushing =
    ap (λ b. cond b (replies.Truth false) (cond true replies.Wait (replies.Truth true)))
    (some (weight 2 c) (weight 4 w) (weight 8 a) (weight 16 f)) where
      some : (x y z u : ℕ) → eqb (1 + x + y + z + u) 0 ≡ false
      some x y z u = grind (arith, nat_tests)
flags-tell false c w a f cancels flushing = by w a refl where
  waits : (x y z : ℕ) → eqb (x + 4 + y + z) 0 ≡ false
  waits x y z = grind (arith, nat_tests)

  arms : (x z : ℕ) → eqb (x + 8 + z) 0 ≡ false
  arms x z = grind (arith, nat_tests)

  none : (n : ℕ) → n ≡ 0 → cancel_start_reply n false ≡ replies.Truth false
  none n is = ap (λ n. cancel_start_reply n false) is

  by : (w' a : Bool) → w ≡ w' →
      cancel_start_reply (weight 1 false + weight 2 c + weight 4 w' + weight 8 a + weight 16 f) false ≡ replies.Truth (w' || a)
  by true a is = ap (λ b. cond b (replies.Truth false) (replies.Truth true))
      (waits (weight 1 false + weight 2 c) (weight 8 a) (weight 16 f))
  by false true is = ap (λ b. cond b (replies.Truth false) (replies.Truth true))
      (arms (weight 1 false + weight 2 c + weight 4 false) (weight 16 f))
  by false false is =
      let no_cancel = cancels refl in
      let no_flush = flushing refl is in
      none (weight 1 false + weight 2 c + weight 4 false + weight 8 false + weight 16 f)
      (ap (λ b. weight 1 false + weight 2 b + weight 4 false + weight 8 false + weight 16 f) no_cancel
      ∙ ap (λ b. weight 1 false + weight 2 false + weight 4 false + weight 8 false + weight 16 b) no_flush)

-- the reply to the start of a sync cancel
pub cancel-start-said : (s : State) (item : ℕ) → cancel_start_reply (flags_of s item) (is_some (running s.admissions item)) ≡
    cond (is_some (running s.admissions item)) replies.Wait
    (replies.Truth (is_some (waiting s.admissions item) || is_some (armed s.arms item)))
cancel-start-said s item =
    flags-tell (is_some (running s.admissions item)) (is_cancelling s.admissions s.marks item)
    (is_some (waiting s.admissions item)) (is_some (armed s.arms item)) (is_flushing s.admissions s.waits item)
    (λ idle. cancelling-runs s.admissions s.marks item idle) (λ idle empty. flushing-open s.admissions s.waits item idle empty)

pub cancel_start_tells_the_run : OfEach CancelStartTellsTheRun
cancel_start_tells_the_run = at_each _ (λ s e is item op.
    sym (same_Some (cancel_start_reply (flags_of s item) (is_some (running s.admissions item))) e.reply
    (ap (work_reply s e.who) (sym op) ∙ is)) ∙ cancel-start-said s item)

none-open : (xs : List Admission) (item : ℕ) → running xs item ≡ None → waiting xs item ≡ None → (n : ℕ) (a : Admission) →
    slice_get xs n ≡ Some a → a.item ≡ item → is_open a.life ≡ false
none-open xs item idle empty n a at same = by (is_open a.life) refl where
  by : (b : Bool) → is_open a.life ≡ b → is_open a.life ≡ false
  by false is = is
  by true is =
      absurd (false≢true (sym (not-open-as (eqb a.item item) a.life (position-none (runs_as item) xs n a idle at)
      (position-none (waits_as item) xs n a empty at))
      ∙ and_from (eqb a.item item) (is_open a.life) (eq-eqb a.item item same) is))

-- the one that waits is the newest, and else the one that runs
newest-waits : (s : State) (item n : ℕ) → Ordered s.admissions → waiting s.admissions item ≡ Some n → IsNewest s item n
newest-waits s item n ordered is =
    let it = position-at (waits_as item) s.admissions n is in
    let item_is = eqb-true it.0.item item (first_so (eqb it.0.item item) (is_waiting it.0.life) it.2) in
    let waits = second_so (eqb it.0.item item) (is_waiting it.0.life) it.2 in
    let opens = open-waiting it.0.life waits in
    (it.0, it.1, item_is, opens, λ m b at same so. by it.0 waits opens it.1 item_is m b at same so (cases_order m n)) where
      by : (a : Admission) → is_waiting a.life ≡ true → is_open a.life ≡ true → slice_get s.admissions n ≡ Some a →
          a.item ≡ item →
          (m : ℕ) (b : Admission) → slice_get s.admissions m ≡ Some b → b.item ≡ item → is_open b.life ≡ true →
          (m ≡ n) ⊎ ((m < n) ⊎ (n < m)) → m ≤ n
      by a waits opens there item_is m b at same so (inl is) = omega arith
      by a waits opens there item_is m b at same so (inr (inl below)) = omega arith
      by a waits opens there item_is m b at same so (inr (inr above)) =
          absurd (waiting-running a.life waits (ordered n m a b above there at (item_is ∙ sym same) opens so).0)

newest-runs : (s : State) (item n : ℕ) → Ordered s.admissions → waiting s.admissions item ≡ None →
    running s.admissions item ≡ Some n → IsNewest s item n
newest-runs s item n ordered empty is =
    let it = position-at (runs_as item) s.admissions n is in
    let item_is = eqb-true it.0.item item (first_so (eqb it.0.item item) (is_running it.0.life) it.2) in
    let opens = open-running it.0.life (second_so (eqb it.0.item item) (is_running it.0.life) it.2) in
    (it.0, it.1, item_is, opens, λ m b at same so. by it.0 opens it.1 item_is m b at same so (cases_order m n)) where
      by : (a : Admission) → is_open a.life ≡ true → slice_get s.admissions n ≡ Some a → a.item ≡ item →
          (m : ℕ) (b : Admission) → slice_get s.admissions m ≡ Some b → b.item ≡ item → is_open b.life ≡ true →
          (m ≡ n) ⊎ ((m < n) ⊎ (n < m)) → m ≤ n
      by a opens there item_is m b at same so (inl is) = omega arith
      by a opens there item_is m b at same so (inr (inl below)) = omega arith
      by a opens there item_is m b at same so (inr (inr above)) =
          let waits = (ordered n m a b above there at (item_is ∙ sym same) opens so).1 in
          absurd (false≢true (sym (position-none (waits_as item) s.admissions m b empty at)
          ∙ and_from (eqb b.item item) (is_waiting b.life) (eq-eqb b.item item same) waits))

flush-found : (s t : State) (who : Who) (item : ℕ) → t.admissions ≡ hurried s who item → Ordered t.admissions →
    ((number : ℕ) × (flush_start_reply (flushed (waiting t.admissions item) (running t.admissions item))
    ≡ replies.WaitFor number) × IsNewest t item number)
    ⊎ ((flush_start_reply (flushed (waiting t.admissions item) (running t.admissions item)) ≡ replies.Truth false)
    × NoneIsOpen t item)
flush-found s t who item same ordered = by (waiting t.admissions item) (running t.admissions item) refl refl where
  by : (w r : Option ℕ) → waiting t.admissions item ≡ w → running t.admissions item ≡ r →
      ((number : ℕ) × (flush_start_reply (Rattle.std.specs.Option.option_or w r) ≡ replies.WaitFor number)
      × IsNewest t item number) ⊎ ((flush_start_reply (Rattle.std.specs.Option.option_or w r) ≡ replies.Truth false)
      × NoneIsOpen t item)
  by (Some n) r w_is r_is = inl (n, refl, newest-waits t item n ordered w_is)
  by None (Some n) w_is r_is = inl (n, refl, newest-runs t item n ordered w_is r_is)
  by None None w_is r_is = inr (refl, none-open t.admissions item r_is w_is)

abbrev FlushFound : State → WorkReply → ℕ → Type 0
FlushFound t reply item = ((number : ℕ) × (reply ≡ replies.WaitFor number) × IsNewest t item number)
    ⊎ ((reply ≡ replies.Truth false) × NoneIsOpen t item)

Ordered-always : (start : State) (h : WorkHistory) → IsFreshHistory start h →
    Ordered (state_after work_machine start h).admissions
Ordered-always start h fresh = Ordered-history start h h [] fresh (sym (append-nil h))

pub flush_waits_for_newest : OfEach FlushWaitsForNewest
flush_waits_for_newest = at_each_in (λ s. Ordered s.admissions) Ordered-always _ (λ s e ordered is item op.
    let t = work_next s e.who (FlushStart item) in
    let replied : work_reply s e.who (FlushStart item) ≡ Some e.reply = ap (work_reply s e.who) (sym op) ∙ is in
    let said = same_Some (flush_start_reply (flushed_of s e.who item)) e.reply replied in
    subst (λ (o : WorkOp). FlushFound (work_next s e.who o) e.reply item) (sym op)
    (subst (λ (r : WorkReply). FlushFound t r item) said
    (flush-found s t e.who item refl (Ordered-next s e.who (FlushStart item) e.reply replied ordered))))
