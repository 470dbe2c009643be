-- What becomes of an arm.
use Rattle.std.proofs.Common.{◌≡◌, ℕ, suc, ◌+◌, ◌<◌, ◌⊎◌, inl, inr, Bool, true, false, ◌&&◌, cond, eqb, leb, Option, Some, None, is_some, option_map, List, [], ◌∷◌, ◌++◌, length, map, slice_get, refl, sym, ap, subst, ◌∙◌, arith}
use Rattle.std.specs.Cmp.{second_so}
use Rattle.std.proofs.lemmas.Bool.{eq-eqb, false≢true}
use Rattle.std.proofs.lemmas.Bool.Decides.{nat_tests}
use Rattle.std.proofs.lemmas.Option.{slice_get-map, same_Some}
use Rattle.zk_base.proofs.Lists.{and_second, none_from_is_some}
use Rattle.zk_base.specs.declared.ids.Who.{Who}
use Rattle.zk_base.specs.declared.ids.Entry.{Entry}
use Rattle.zk_base.specs.Legal.{state_after}
use Rattle.zk_base.proofs.Histories.{state_after-append}
use Rattle.zk_model_work.specs.declared.parts.Admission.{Admission}
use Rattle.zk_model_work.specs.declared.parts.Queue.{Queue}
use Rattle.zk_model_work.specs.declared.parts.Fate.TheVariants.{Live, Expired, Disarmed}
use Rattle.zk_model_work.specs.declared.parts.Arm.{Arm}
use Rattle.zk_model_work.specs.declared.ops.WorkOp.{WorkOp}
use Rattle.zk_model_work.specs.declared.ops.WorkOp.TheVariants.{Schedule, Reschedule, Announce}
use Rattle.zk_model_work.specs.declared.ops.Expiry.{Expiry}
use Rattle.zk_model_work.specs.declared.ops.WorkReply.{WorkReply}
use Rattle.zk_model_work.specs.Questions.{is_live, arms_item, armed, is_due, waiting, is_cancelling, item_of}
use Rattle.zk_model_work.specs.State.{State}
use Rattle.zk_model_work.specs.Machine.{submit, expiries, arm, disarm, disarm_one, expire, expire_one, is_pending_in, delayed, work_next, work_machine}
use Rattle.zk_model_work.specs.Answers.{submission}
use Rattle.zk_model_work.specs.Histories.{IsFreshHistory, OfEach, announces, disarms, arm_after}
use Rattle.zk_model_work.specs.Laws.{LiveAhead, ExpiresWhenDue, DisarmedWhenGivenUp, FateStays, OneLiveArm}
use Rattle.zk_model_work.proofs.Moves.{still-push, pushed, still-map, unarmed, DisarmsJust, DisarmsNone, arms-next}
use Rattle.zk_model_work.proofs.Overlaps.{position-none}

-- in every state each live arm is ahead of the time, and an item has one at most
record ArmsKeep (arms : List Arm) (time : ℕ) : Type 0 where
  pub ahead : (n : ℕ) (a : Arm) → slice_get arms n ≡ Some a → is_live a.fate ≡ true → time < a.deadline
  pub one : (m n : ℕ) (a b : Arm) → slice_get arms m ≡ Some a → slice_get arms n ≡ Some b → a.item ≡ b.item →
      is_live a.fate ≡ true → is_live b.fate ≡ true → m ≡ n

-- a change after which fewer are live
fewer : (xs ys : List Arm) (time later : ℕ) → ((n : ℕ) (b : Arm) → slice_get ys n ≡ Some b → is_live b.fate ≡ true →
    (slice_get xs n ≡ Some b) × (later < b.deadline)) → ArmsKeep xs time → ArmsKeep ys later
fewer xs ys time later each keep = record {
  ahead = λ n a at live. (each n a at live).1;
  one = λ m n a b at there same live_a live_b. keep.one m n a b (each m a at live_a).0 (each n b there live_b).0 same
      live_a live_b;
}

mapped : (f : Arm → Arm) (xs : List Arm) (n : ℕ) (b : Arm) → slice_get (map f xs) n ≡ Some b →
    (a : Arm) × (slice_get xs n ≡ Some a) × (f a ≡ b)
mapped f xs n b at = by (slice_get xs n) refl (sym (slice_get-map f xs n) ∙ at) where
  by : (o : Option Arm) → slice_get xs n ≡ o → option_map f o ≡ Some b → (a : Arm) × (slice_get xs n ≡ Some a) × (f a ≡ b)
  by None there is = absurd (cc)
  by (Some a) there is = (a, there, same_Some (f a) b is)

-- what is live after a disarming was so before, and isn't of the item
disarmed : (item : ℕ) (a : Arm) → is_live (disarm_one item a).fate ≡ true → (disarm_one item a ≡ a) × (arms_item item a ≡ false)
disarmed item a = by (arms_item item a) refl where
  by : (b : Bool) → arms_item item a ≡ b → is_live (cond b (record a { fate = Disarmed }) a).fate ≡ true →
      (cond b (record a { fate = Disarmed }) a ≡ a) × (arms_item item a ≡ false)
  by true is live = absurd (cc)
  by false is live = (refl, is)

still-armed : (xs : List Arm) (item n : ℕ) (b : Arm) → slice_get (disarm xs item) n ≡ Some b → is_live b.fate ≡ true →
    (slice_get xs n ≡ Some b) × (arms_item item b ≡ false)
still-armed xs item n b at live =
    let was = mapped (disarm_one item) xs n b at in
    let is = disarmed item was.0 (ap (λ (a : Arm). is_live a.fate) was.2 ∙ live) in
    let same : was.0 ≡ b = sym is.0 ∙ was.2 in
    (was.1 ∙ ap Some same, ap (arms_item item) (sym same) ∙ is.1)

keep-disarm : (xs : List Arm) (time item : ℕ) → ArmsKeep xs time → ArmsKeep (disarm xs item) time
keep-disarm xs time item keep =
    fewer xs (disarm xs item) time time (λ n b at live. let was = still-armed xs item n b at live in
    (was.0, keep.ahead n b was.0 live)) keep

-- what is live after an announce is still ahead
ahead_of : (time deadline : ℕ) → leb deadline time ≡ false → time < deadline
ahead_of time deadline is = grind (arith, nat_tests)

unexpired : (time : ℕ) (a : Arm) → is_live (expire_one time a).fate ≡ true → (expire_one time a ≡ a) × (time < a.deadline)
unexpired time a = by (is_due time a) refl where
  by : (b : Bool) → is_due time a ≡ b → is_live (cond b (record a { fate = Expired }) a).fate ≡ true →
      (cond b (record a { fate = Expired }) a ≡ a) × (time < a.deadline)
  by true is live = absurd (cc)
  by false is live = (refl, ahead_of time a.deadline (and_second (is_live a.fate) (leb a.deadline time) live is))

keep-expire : (xs : List Arm) (time later : ℕ) → ArmsKeep xs time → ArmsKeep (expire xs later) later
keep-expire xs time later keep =
    fewer xs (expire xs later) time later (λ n b at live.
    let was = mapped (expire_one later) xs n b at in
    let is = unexpired later was.0 (ap (λ (a : Arm). is_live a.fate) was.2 ∙ live) in
    let same : was.0 ≡ b = sym is.0 ∙ was.2 in
    (was.1 ∙ ap Some same, subst (λ (a : Arm). later < a.deadline) same is.1)) keep

abbrev live_arm_of : ℕ → ℕ → ℕ → Arm
live_arm_of item queue deadline = record { item = item; queue = queue; deadline = deadline; fate = Live }

-- no live arm of the item
abbrev pub Unarmed : ℕ → List Arm → Type 0
Unarmed item xs = (n : ℕ) (a : Arm) → slice_get xs n ≡ Some a → arms_item item a ≡ false

other_item : (item : ℕ) (a : Arm) → arms_item item a ≡ false → is_live a.fate ≡ true → a.item ≡ item → ⊥
other_item item a none live same =
    false≢true (sym (and_second (eqb a.item item) (is_live a.fate) (eq-eqb a.item item same) none) ∙ live)

keep-arm : (xs : List Arm) (time item queue deadline : ℕ) → Unarmed item xs → time < deadline → ArmsKeep xs time →
    ArmsKeep (arm xs item queue deadline) time
keep-arm xs time item queue deadline none later keep = record {
  ahead = λ n a at live. first_of a live (pushed xs (new) n a at) (λ old. keep.ahead n a old live);
  one = λ m n a b at there same live_a live_b. both m n a b same live_a live_b (pushed xs (new) m a at)
      (pushed xs (new) n b there);
} where
  new : Arm
  new = record { item = item; queue = queue; deadline = deadline; fate = Live }

  first_of : {n : ℕ} (a : Arm) → is_live a.fate ≡ true → (slice_get xs n ≡ Some a) ⊎ ((n ≡ length xs) × (new ≡ a)) →
      (slice_get xs n ≡ Some a → time < a.deadline) → time < a.deadline
  first_of a live (inl old) ahead = ahead old
  first_of a live (inr is) ahead = subst (λ (b : Arm). time < b.deadline) is.1 later

  both : (m n : ℕ) (a b : Arm) → a.item ≡ b.item → is_live a.fate ≡ true → is_live b.fate ≡ true →
      (slice_get xs m ≡ Some a) ⊎ ((m ≡ length xs) × (new ≡ a)) →
      (slice_get xs n ≡ Some b) ⊎ ((n ≡ length xs) × (new ≡ b)) → m ≡ n
  both m n a b same live_a live_b (inl old) (inl older) = keep.one m n a b old older same live_a live_b
  both m n a b same live_a live_b (inl old) (inr is) =
      absurd (other_item item a (none m a old) live_a (same ∙ ap (λ (c : Arm). c.item) (sym is.1)))
  both m n a b same live_a live_b (inr is) (inl old) =
      absurd (other_item item b (none n b old) live_b (sym same ∙ ap (λ (c : Arm). c.item) (sym is.1)))
  both m n a b same live_a live_b (inr is) (inr too) = is.0 ∙ sym too.0

positive : (time delay : ℕ) → eqb delay 0 ≡ false → time < time + delay
positive time delay is = grind (arith, nat_tests)

pub unarmed-disarm : (xs : List Arm) (item : ℕ) → Unarmed item (disarm xs item)
unarmed-disarm xs item n b at = by (arms_item item b) refl where
  by : (c : Bool) → arms_item item b ≡ c → arms_item item b ≡ false
  by true is = absurd (false≢true (sym (still-armed xs item n b at (second_so (eqb b.item item) (is_live b.fate) is)).1 ∙ is))
  by false is = is

ArmsKeep-next : (s : State) (who : Who) (op : WorkOp) → ArmsKeep s.arms s.time →
    ArmsKeep (work_next s who op).arms (work_next s who op).time
ArmsKeep-next s who op keep =
    arms-next ArmsKeep s who op
    (λ item just. keep-disarm s.arms s.time item keep)
    (λ item queue delay others none later. keep-arm s.arms s.time item queue (s.time + delay)
    (λ n a at. position-none (arms_item item) s.arms n a none at) (positive s.time delay later) keep)
    (λ item queue delay just later. keep-arm (disarm s.arms item) s.time item queue (s.time + delay)
    (unarmed-disarm s.arms item) (positive s.time delay later) (keep-disarm s.arms s.time item keep))
    (λ ticks is. keep-expire s.arms s.time (s.time + ticks) keep)
    (λ others. keep)

ArmsKeep-after : (s : State) (h : List (Entry WorkOp WorkReply)) → ArmsKeep s.arms s.time →
    ArmsKeep (state_after work_machine s h).arms (state_after work_machine s h).time
ArmsKeep-after s [] keep = keep
ArmsKeep-after s (e ∷ es) keep = ArmsKeep-after (work_next s e.who e.op) es (ArmsKeep-next s e.who e.op keep)

ArmsKeep-history : (start : State) (h : List (Entry WorkOp WorkReply)) → IsFreshHistory start h →
    ArmsKeep (state_after work_machine start h).arms (state_after work_machine start h).time
ArmsKeep-history start h fresh =
    ArmsKeep-after start h (subst (λ (xs : List Arm). ArmsKeep xs start.time) (sym fresh.arms)
    (record { ahead = λ n a at live. absurd (cc); one = λ m n a b at there same live_a live_b. absurd (cc) }))

pub live_ahead : OfEach LiveAhead
live_ahead start h fresh place a at live = (ArmsKeep-history start h fresh).ahead place a at (ap is_live live)

pub one_live_arm : OfEach OneLiveArm
one_live_arm start h fresh place other a b at there same live_a live_b =
    (ArmsKeep-history start h fresh).one place other a b at there same (ap is_live live_a) (ap is_live live_b)

-- what isn't live any more stays as it is
over-disarm : (item : ℕ) (a : Arm) → is_live a.fate ≡ false → disarm_one item a ≡ a
over-disarm item a over =
    ap (λ b. cond b (record a { fate = Disarmed }) a) (neither (eqb a.item item) (is_live a.fate) over) where
      neither : (b c : Bool) → c ≡ false → (b && c) ≡ false
      neither true c is = is
      neither false c is = refl

over-expire : (time : ℕ) (a : Arm) → is_live a.fate ≡ false → expire_one time a ≡ a
over-expire time a over = ap (λ b. cond (b && leb a.deadline time) (record a { fate = Expired }) a) over

fate-next : (s : State) (who : Who) (op : WorkOp) (n : ℕ) (a : Arm) → is_live a.fate ≡ false →
    slice_get s.arms n ≡ Some a → slice_get (work_next s who op).arms n ≡ Some a
fate-next s who op n a over at =
    arms-next (λ ys time. slice_get ys n ≡ Some a) s who op
    (λ item just. still-map (disarm_one item) s.arms n a (over-disarm item a over) at)
    (λ item queue delay others none later. still-push s.arms (live_arm_of item queue (s.time + delay)) n a at)
    (λ item queue delay just later. still-push (disarm s.arms item) (live_arm_of item queue (s.time + delay)) n a
    (still-map (disarm_one item) s.arms n a (over-disarm item a over) at))
    (λ ticks is. still-map (expire_one (s.time + ticks)) s.arms n a (over-expire (s.time + ticks) a over) at)
    (λ others. at)

fate-after : (s : State) (h : List (Entry WorkOp WorkReply)) (n : ℕ) (a : Arm) → is_live a.fate ≡ false →
    slice_get s.arms n ≡ Some a → slice_get (state_after work_machine s h).arms n ≡ Some a
fate-after s [] n a over at = at
fate-after s (e ∷ es) n a over at = fate-after (work_next s e.who e.op) es n a over (fate-next s e.who e.op n a over at)

pub fate_stays : OfEach FateStays
fate_stays start h fresh front rest place a parts at over =
    ap (λ (l : List (Entry WorkOp WorkReply)). arm_after start l place) parts
    ∙ ap (λ (s : State). slice_get s.arms place) (state_after-append work_machine start front rest)
    ∙ fate-after (state_after work_machine start front) rest place a over at

-- a live arm after a disarming of an item, and after an announce
live-disarm : (xs : List Arm) (op : WorkOp) (item n : ℕ) (a : Arm) → DisarmsJust item op → is_live a.fate ≡ true →
    slice_get xs n ≡ Some a → slice_get (disarm xs item) n ≡ Some (cond (disarms a.item op) (record a { fate = Disarmed }) a)
live-disarm xs op item n a just live at =
    slice_get-map (disarm_one item) xs n ∙ ap (option_map (disarm_one item)) at
    ∙ ap (λ b. Some (cond b (record a { fate = Disarmed }) a)) (and-live (eqb a.item item) (is_live a.fate) live
    ∙ sym (just a.item)) where
      and-live : (b c : Bool) → c ≡ true → (b && c) ≡ b
      and-live true c is = is
      and-live false c is = refl

live-expire : (xs : List Arm) (time n : ℕ) (a : Arm) → is_live a.fate ≡ true → slice_get xs n ≡ Some a →
    slice_get (expire xs time) n ≡ Some (cond (leb a.deadline time) (record a { fate = Expired }) a)
live-expire xs time n a live at =
    slice_get-map (expire_one time) xs n ∙ ap (option_map (expire_one time)) at
    ∙ ap (λ b. Some (cond (b && leb a.deadline time) (record a { fate = Expired }) a)) live

-- at an operation that doesn't announce it is disarmed where that gives up its item's delay
live-next : (s : State) (who : Who) (op : WorkOp) (n : ℕ) (a : Arm) → announces op ≡ false → is_live a.fate ≡ true →
    slice_get s.arms n ≡ Some a →
    slice_get (work_next s who op).arms n ≡ Some (cond (disarms a.item op) (record a { fate = Disarmed }) a)
live-next s who op n a silent live at =
    arms-next (λ ys time. slice_get ys n ≡ Some after) s who op
    (λ item just. live-disarm s.arms op item n a just live at)
    (λ item queue delay others none later. still-push s.arms (live_arm_of item queue (s.time + delay)) n after (as_it_was others))
    (λ item queue delay just later. still-push (disarm s.arms item) (live_arm_of item queue (s.time + delay)) n after
    (live-disarm s.arms op item n a just live at))
    (λ ticks is. absurd (false≢true (sym silent ∙ ap announces is)))
    as_it_was where
      after : Arm
      after = cond (disarms a.item op) (record a { fate = Disarmed }) a

      as_it_was : DisarmsNone op → slice_get s.arms n ≡ Some after
      as_it_was others = at ∙ ap (λ b. Some (cond b (record a { fate = Disarmed }) a)) (sym (others a.item))

pub disarmed_when_given_up : OfEach DisarmedWhenGivenUp
disarmed_when_given_up start h fresh = record {
  each = λ front rest e parts place a silent at live.
      let s = state_after work_machine start front in
      ap (λ (u : State). slice_get u.arms place) (state_after-append work_machine start front (e ∷ []))
      ∙ live-next s e.who e.op place a silent (ap is_live live) at;
}

pub expires_when_due : OfEach ExpiresWhenDue
expires_when_due start h fresh = record {
  each = λ front rest e parts ticks place a op at live.
      let s = state_after work_machine start front in
      let same : state_after work_machine start (front ++ e ∷ []) ≡ work_next s e.who (Announce ticks) =
      state_after-append work_machine start front (e ∷ []) ∙ ap (work_next s e.who) op in
      subst (λ (u : State). slice_get u.arms place ≡ Some (cond (leb a.deadline u.time) (record a { fate = Expired }) a))
      (sym same) (live-expire s.arms (s.time + ticks) place a (ap is_live live) at);
}

-- an announce tells the items of the arms that are due, in order
pub told_items : (marks : List ℕ) (queues : List Queue) (arms : List Arm) (xs : List Admission) →
    map (λ (x : Expiry). x.item) (expiries marks queues arms xs) ≡ map (λ (a : Arm). a.item) arms
told_items marks queues [] xs = refl
told_items marks queues (a ∷ arms) xs =
    ap (λ (items : List ℕ). a.item ∷ items)
    (told_items marks queues arms (submit xs a.item (submission (item_of xs marks a.item) queues None (Some a.queue))))

-- where an item isn't pending, a schedule is a reschedule
same-map : (f : Arm → Arm) (xs : List Arm) → ((n : ℕ) (a : Arm) → slice_get xs n ≡ Some a → f a ≡ a) → map f xs ≡ xs
same-map f [] same = refl
same-map f (x ∷ xs) same = ap (λ (y : Arm). y ∷ map f xs) (same 0 x refl)
    ∙ ap (λ (ys : List Arm). x ∷ ys) (same-map f xs (λ n a at. same (suc n) a at))

disarm-none : (xs : List Arm) (item : ℕ) → armed xs item ≡ None → disarm xs item ≡ xs
disarm-none xs item none =
    same-map (disarm_one item) xs
    (λ n a at. ap (λ b. cond b (record a { fate = Disarmed }) a) (position-none (arms_item item) xs n a none at))

pub schedule-free : (s : State) (who : Who) (item queue delay : ℕ) → is_pending_in s item ≡ false →
    work_next s who (Schedule item queue delay) ≡ work_next s who (Reschedule item queue delay)
schedule-free s who item queue delay free =
    let none = none_from_is_some (armed s.arms item)
    (unarmed (is_some (armed s.arms item)) (is_some (waiting s.admissions item))
    (is_cancelling s.admissions s.marks item) free) in
    ap (λ (t : State). record t { entries = s.entries + 1 })
    (ap (λ b. cond b s (delayed s who item queue delay)) free
    ∙ ap (λ (arms : List Arm). delayed (record s { arms = arms }) who item queue delay) (sym (disarm-none s.arms item none)))
