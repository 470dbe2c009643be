-- What an entry changes of the busy flags of an item that it doesn't touch: nothing.
use Rattle.std.proofs.Common.{◌≡◌, ℕ, zero, suc, ◌+◌, Bool, true, false, ◌&&◌, ◌||◌, cond, eqb, Option, Some, None, is_some, option_map, option_and_then, option_to_list, List, [], ◌∷◌, ◌++◌, map, slice_get, refl, sym, ap, ◌∙◌}
use Rattle.std.specs.Cmp.{first_so}
use Rattle.std.specs.List.{list_any, filter, position}
use Rattle.std.specs.Option.{option_map_or, option_or}
use Rattle.std.proofs.lemmas.Bool.{eqb-true}
use Rattle.std.proofs.lemmas.List.Folds.{list_any-append}
use Rattle.std.proofs.lemmas.Option.{same_Some}
use Rattle.zk_base.specs.declared.ids.Who.{Who}
use Rattle.zk_base.specs.Touched.{is_touched}
use Rattle.zk_base.proofs.Lists.{find-passes}
use Rattle.zk_base.proofs.Order.{list_any-by_key}
use Rattle.zk_model_work.specs.declared.ops.WorkOp.TheVariants.{Submit, Cancel, CancelStart, FlushStart, Schedule, Reschedule, DrainStart, Announce, Begin, End}
use Rattle.zk_model_work.specs.declared.ops.Submitted.{Submitted}
use Rattle.zk_model_work.specs.declared.ops.Expiry.{Expiry}
use Rattle.zk_model_work.specs.declared.ops.WorkReply.TheVariants.{Run}
use Rattle.zk_model_work.specs.declared.parts.Life.{Life}
use Rattle.zk_model_work.specs.declared.parts.Life.TheVariants.{Waiting, Running, Ended, Dropped}
use Rattle.zk_model_work.specs.declared.parts.Admission.{Admission}
use Rattle.zk_model_work.specs.declared.parts.Fate.TheVariants.{Live, Disarmed, Expired}
use Rattle.zk_model_work.specs.declared.parts.Arm.{Arm}
use Rattle.zk_model_work.specs.declared.parts.Awaited.{Awaited}
use Rattle.zk_model_work.specs.declared.parts.Awaited.TheVariants as awaiteds
use Rattle.zk_model_work.specs.declared.parts.Closing.{Closing}
use Rattle.zk_model_work.specs.declared.parts.Queue.{Queue}
use Rattle.zk_model_work.specs.declared.parts.Wait.{Wait}
use Rattle.zk_model_work.specs.Answers.{admitted_to, submission, flush_wait, cancel_wait, drain_wait, closes}
use Rattle.zk_model_work.specs.Lists.{first}
use Rattle.zk_model_work.specs.Machine.{submit, submit_arms, submission_in, expiries, with_life, set_life, end_one, drop_one, disarm_one, disarm, expire_one, mark, awaiting, hurried, flushed_of, is_pending_in, delayed, answer_where, answer_one, answered_waits, has_come, flags_of, taken_up, work_next}
use Rattle.zk_model_work.specs.Questions.{is_waiting, is_running, is_open, is_live, waits_as, runs_as, is_open_as, runs_on, arms_item, passes_at, waiting, running, line, is_empty_and_idle, is_cancelling, armed, live_arm, is_due, due, flushes, is_flushing, busy_flags, item_of}
use Rattle.zk_model_work.specs.State.{State}
use Rattle.zk_work.proofs.Arms.{place_cases}
use Rattle.zk_work.proofs.Numbers.{is_at}

-- tests that agree find alike
any-same : {A : Type 0} (p q : A → Bool) → ((x : A) → p x ≡ q x) → (xs : List A) → list_any p xs ≡ list_any q xs
any-same p q same [] = refl
any-same p q same (x ∷ xs) = ap (λ b. b || list_any p xs) (same x) ∙ ap (λ b. q x || b) (any-same p q same xs)

-- a list that is changed where the test doesn't see it
any-map : {A : Type 0} (p : A → Bool) (f : A → A) → ((x : A) → p (f x) ≡ p x) → (xs : List A) →
    list_any p (map f xs) ≡ list_any p xs
any-map p f same [] = refl
any-map p f same (x ∷ xs) = ap (λ b. b || list_any p (map f xs)) (same x) ∙ ap (λ b. p x || b) (any-map p f same xs)

-- what fails stands behind
any-behind : {A : Type 0} (p : A → Bool) (xs ys : List A) → list_any p ys ≡ false → list_any p (xs ++ ys) ≡ list_any p xs
any-behind p xs ys none = list_any-append p xs ys ∙ ap (λ b. list_any p xs || b) none ∙ alone (list_any p xs) where
  alone : (b : Bool) → (b || false) ≡ b
  alone true = refl
  alone false = refl

pub or-first : (a b : Bool) → (a || b) ≡ false → a ≡ false
or-first true b is = is
or-first false b is = refl

or-second : (a b : Bool) → (a || b) ≡ false → b ≡ false
or-second true b is = absurd (cc)
or-second false b is = is

-- an item that is that of another isn't this one
another : (a i j : ℕ) → a ≡ i → eqb i j ≡ false → eqb a j ≡ false
another a i j same differ = ap (λ n. eqb n j) same ∙ differ

-- what an admission is at, where it is the item's
abbrev its : ℕ → Option Admission → Option Life
its j None = None
its j (Some a) = cond (eqb a.item j) (Some a.life) None

-- of the item both have the same, number by number
abbrev Alike : ℕ → List Admission → List Admission → Type 0
Alike j xs ys = (n : ℕ) → its j (slice_get ys n) ≡ its j (slice_get xs n)

-- a question that is asked of the item's admissions
abbrev asks : ℕ → (Life → Bool) → Admission → Bool
asks j q a = eqb a.item j && q a.life

its-other : (j : ℕ) (a : Admission) → eqb a.item j ≡ false → its j (Some a) ≡ None
its-other j a other = ap (λ b. cond b (Some a.life) None) other

asks-other : (j : ℕ) (q : Life → Bool) (a : Admission) → eqb a.item j ≡ false → asks j q a ≡ false
asks-other j q a other = ap (λ b. b && q a.life) other

by_its : (j : ℕ) (q : Life → Bool) (o : Option Admission) →
    option_map_or (asks j q) o false ≡ option_map_or q (its j o) false
by_its j q None = refl
by_its j q (Some a) = by (eqb a.item j) where
  by : (b : Bool) → (b && q a.life) ≡ option_map_or q (cond b (Some a.life) None) false
  by true = refl
  by false = refl

asks-alike : (j : ℕ) (q : Life → Bool) (o other : Option Admission) → its j o ≡ its j other →
    option_map_or (asks j q) o false ≡ option_map_or (asks j q) other false
asks-alike j q o other same = by_its j q o ∙ ap (λ (l : Option Life). option_map_or q l false) same ∙ sym (by_its j q other)

-- such a question is answered alike at each number, and of all
passes-alike : (j : ℕ) (q : Life → Bool) (xs ys : List Admission) → Alike j xs ys → (n : ℕ) →
    passes_at (asks j q) ys n ≡ passes_at (asks j q) xs n
passes-alike j q xs ys same n = asks-alike j q (slice_get ys n) (slice_get xs n) (same n)

any-alike : (j : ℕ) (q : Life → Bool) (xs ys : List Admission) → Alike j xs ys →
    list_any (asks j q) ys ≡ list_any (asks j q) xs
any-alike j q [] [] same = refl
any-alike j q [] (y ∷ ys) same =
    ap (λ b. b || list_any (asks j q) ys) (asks-alike j q (Some y) None (same 0))
    ∙ any-alike j q [] ys (λ n. same (suc n))
any-alike j q (x ∷ xs) [] same =
    any-alike j q xs [] (λ n. same (suc n))
    ∙ ap (λ b. b || list_any (asks j q) xs) (asks-alike j q None (Some x) (same 0))
any-alike j q (x ∷ xs) (y ∷ ys) same =
    ap (λ b. b || list_any (asks j q) ys) (asks-alike j q (Some y) (Some x) (same 0))
    ∙ ap (λ b. asks j q x || b) (any-alike j q xs ys (λ n. same (suc n)))

-- Changes that leave the item's admissions alone.

alike-append : (j : ℕ) (a : Admission) → eqb a.item j ≡ false → (xs : List Admission) → Alike j xs (xs ++ a ∷ [])
alike-append j a other [] zero = its-other j a other
alike-append j a other [] (suc n) = refl
alike-append j a other (x ∷ xs) zero = refl
alike-append j a other (x ∷ xs) (suc n) = alike-append j a other xs n

alike-map : (j : ℕ) (f : Admission → Admission) (xs : List Admission) →
    ((n : ℕ) (a : Admission) → slice_get xs n ≡ Some a → its j (Some (f a)) ≡ its j (Some a)) → Alike j xs (map f xs)
alike-map j f [] same n = refl
alike-map j f (x ∷ xs) same zero = same 0 x refl
alike-map j f (x ∷ xs) same (suc n) = alike-map j f xs (λ m a at. same (suc m) a at) n

alike-set_life : (j : ℕ) (life : Life) (xs : List Admission) (m : ℕ) →
    ((a : Admission) → slice_get xs m ≡ Some a → eqb a.item j ≡ false) → Alike j xs (set_life xs m life)
alike-set_life j life [] m other n = refl
alike-set_life j life (x ∷ xs) zero other zero =
    its-other j (with_life life x) (other x refl) ∙ sym (its-other j x (other x refl))
alike-set_life j life (x ∷ xs) zero other (suc n) = refl
alike-set_life j life (x ∷ xs) (suc m) other zero = refl
alike-set_life j life (x ∷ xs) (suc m) other (suc n) = alike-set_life j life xs m other n

alike-submit : (j : ℕ) (xs : List Admission) (item : ℕ) (answer : Submitted) → eqb item j ≡ false →
    Alike j xs (submit xs item answer)
alike-submit j xs item answer other = by (admitted_to answer) where
  by : (o : Option ℕ) → Alike j xs (option_map_or
      (λ queue. xs ++ record { item = item; queue = queue; life = Waiting } ∷ []) o xs)
  by None = λ n. refl
  by (Some queue) = alike-append j (record { item = item; queue = queue; life = Waiting }) other xs

alike-arms : (j : ℕ) (marks : List ℕ) (queues : List Queue) (caller : Option ℕ) (arms : List Arm) (xs : List Admission) →
    list_any (λ a. eqb a.item j) arms ≡ false → Alike j xs (submit_arms marks queues caller arms xs)
alike-arms j marks queues caller [] xs others = λ n. refl
alike-arms j marks queues caller (a ∷ arms) xs others =
    let answer = submission (item_of xs marks a.item) queues caller (Some a.queue) in
    let here = alike-submit j xs a.item answer (or-first (eqb a.item j) (list_any (λ a. eqb a.item j) arms) others) in
    let rest = alike-arms j marks queues caller arms (submit xs a.item answer)
    (or-second (eqb a.item j) (list_any (λ a. eqb a.item j) arms) others) in
    λ n. rest n ∙ here n

-- a change of an admission of another item, and none of any other
its-changed : (j : ℕ) (b : Bool) (life : Life) (a : Admission) → (b ≡ true → eqb a.item j ≡ false) →
    its j (Some (cond b (with_life life a) a)) ≡ its j (Some a)
its-changed j true life a other = its-other j (with_life life a) (other refl) ∙ sym (its-other j a (other refl))
its-changed j false life a other = refl

-- The busy flags.

five : (a b c d e k l m n o : Bool) → a ≡ k → b ≡ l → c ≡ m → d ≡ n → e ≡ o → busy_flags a b c d e ≡ busy_flags k l m n o
five a b c d e k l m n o p q r t u =
    ap (λ x. busy_flags x b c d e) p ∙ ap (λ x. busy_flags k x c d e) q ∙ ap (λ x. busy_flags k l x d e) r
    ∙ ap (λ x. busy_flags k l m x e) t ∙ ap (λ x. busy_flags k l m n x) u

flushes-alike : (j : ℕ) (xs ys : List Admission) → Alike j xs ys → (awaited : Awaited) →
    flushes ys j awaited ≡ flushes xs j awaited
flushes-alike j xs ys same (awaiteds.Cancel n) = refl
flushes-alike j xs ys same (awaiteds.Flush n) = passes-alike j is_open xs ys same n
flushes-alike j xs ys same (awaiteds.Drain queue count) = refl

found-alike : (j : ℕ) (q : Life → Bool) (xs ys : List Admission) → Alike j xs ys →
    is_some (position (asks j q) ys) ≡ is_some (position (asks j q) xs)
found-alike j q xs ys same = place_cases (asks j q) ys ∙ any-alike j q xs ys same ∙ sym (place_cases (asks j q) xs)

flags-alike : (j : ℕ) (s t : State) → Alike j s.admissions t.admissions →
    is_cancelling s.admissions t.marks j ≡ is_cancelling s.admissions s.marks j →
    list_any (arms_item j) t.arms ≡ list_any (arms_item j) s.arms →
    is_flushing s.admissions t.waits j ≡ is_flushing s.admissions s.waits j → flags_of t j ≡ flags_of s j
flags-alike j s t same marks arms waits =
    let xs = s.admissions in
    let ys = t.admissions in
    five (is_some (running ys j)) (is_cancelling ys t.marks j) (is_some (waiting ys j)) (is_some (armed t.arms j))
    (is_flushing ys t.waits j) (is_some (running xs j)) (is_cancelling xs s.marks j) (is_some (waiting xs j))
    (is_some (armed s.arms j)) (is_flushing xs s.waits j)
    (found-alike j is_running xs ys same)
    (any-same (passes_at (runs_as j) ys) (passes_at (runs_as j) xs) (passes-alike j is_running xs ys same) t.marks ∙ marks)
    (found-alike j is_waiting xs ys same)
    (place_cases (arms_item j) t.arms ∙ arms ∙ sym (place_cases (arms_item j) s.arms))
    (any-same (λ (w : Wait). flushes ys j w.awaited) (λ (w : Wait). flushes xs j w.awaited)
    (λ w. flushes-alike j xs ys same w.awaited) t.waits ∙ waits)

-- What each part of a change leaves.

-- the number of an admission of another item says nothing of the item
at_other : (j item : ℕ) (q r : Life → Bool) (xs : List Admission) (n : ℕ) → eqb item j ≡ false →
    position (asks item r) xs ≡ Some n → passes_at (asks j q) xs n ≡ false
at_other j item q r xs n other is =
    let at = is_at (asks item r) xs n is in
    let a = at.admission in
    ap (λ (o : Option Admission). option_map_or (asks j q) o false) at.there
    ∙ asks-other j q a (another a.item item j (eqb-true a.item item (first_so (eqb a.item item) (r a.life) at.passes)) other)

marked : (j item : ℕ) (xs : List Admission) (marks : List ℕ) → eqb item j ≡ false →
    is_cancelling xs (mark xs marks item) j ≡ is_cancelling xs marks j
marked j item xs marks other = any-behind (passes_at (runs_as j) xs) marks (option_to_list (running xs item))
    (by (running xs item) refl) where
      by : (o : Option ℕ) → running xs item ≡ o → list_any (passes_at (runs_as j) xs) (option_to_list o) ≡ false
      by None is = refl
      by (Some n) is = ap (λ b. b || false) (at_other j item is_running is_running xs n other is)

disarmed : (j item : ℕ) (arms : List Arm) → eqb item j ≡ false →
    list_any (arms_item j) (disarm arms item) ≡ list_any (arms_item j) arms
disarmed j item arms other = any-map (arms_item j) (disarm_one item) same arms where
  none : (a : Arm) → eqb a.item j ≡ false → (eqb a.item j && false) ≡ (eqb a.item j && is_live a.fate)
  none a is = ap (λ b. b && false) is ∙ sym (ap (λ b. b && is_live a.fate) is)

  same : (a : Arm) → arms_item j (disarm_one item a) ≡ arms_item j a
  same a = by (arms_item item a) refl where
    by : (b : Bool) → arms_item item a ≡ b → arms_item j (cond b (record a { fate = Disarmed }) a) ≡ arms_item j a
    by true is = none a (another a.item item j (eqb-true a.item item (first_so (eqb a.item item) (is_live a.fate) is)) other)
    by false is = refl

-- one wait more, which is no flush of the item
awaited-too : (j : ℕ) (xs : List Admission) (ws : List Wait) (o : Option Wait) →
    ((w : Wait) → o ≡ Some w → flushes xs j w.awaited ≡ false) →
    is_flushing xs (awaiting ws o) j ≡ is_flushing xs ws j
awaited-too j xs ws o none = any-behind (λ (w : Wait). flushes xs j w.awaited) ws (option_to_list o) (by o none) where
  by : (o : Option Wait) → ((w : Wait) → o ≡ Some w → flushes xs j w.awaited ≡ false) →
      list_any (λ (w : Wait). flushes xs j w.awaited) (option_to_list o) ≡ false
  by None none = refl
  by (Some w) none = ap (λ b. b || false) (none w refl)

-- where what expires is of other items, the item's arm is what it was
any-expired : (j time : ℕ) (arms : List Arm) → list_any (λ a. eqb a.item j) (filter (is_due time) arms) ≡ false →
    list_any (arms_item j) (map (expire_one time) arms) ≡ list_any (arms_item j) arms
any-expired j time [] others = refl
any-expired j time (a ∷ arms) others = by (is_due time a) others (any-expired j time arms) where
  rest : Bool
  rest = list_any (λ a. eqb a.item j) (filter (is_due time) arms)

  by : (b : Bool) → list_any (λ a. eqb a.item j) (cond b (a ∷ filter (is_due time) arms) (filter (is_due time) arms)) ≡ false →
      (list_any (λ a. eqb a.item j) (filter (is_due time) arms) ≡ false →
      list_any (arms_item j) (map (expire_one time) arms) ≡ list_any (arms_item j) arms) →
      (arms_item j (cond b (record a { fate = Expired }) a) || list_any (arms_item j) (map (expire_one time) arms))
      ≡ (arms_item j a || list_any (arms_item j) arms)
  by true others further =
      let here = or-first (eqb a.item j) rest others in
      ap (λ b. (b && false) || list_any (arms_item j) (map (expire_one time) arms)) here
      ∙ further (or-second (eqb a.item j) rest others)
      ∙ sym (ap (λ b. (b && is_live a.fate) || list_any (arms_item j) arms) here)
  by false others further = ap (λ b. arms_item j a || b) (further others)

-- The entries.

module _ (s : State) (who : Who) (j : ℕ) where
  pub kept-submit : (item : ℕ) (named : Option ℕ) → eqb item j ≡ false →
      flags_of (work_next s who (Submit item named)) j ≡ flags_of s j
  kept-submit item named other = flags-alike j s (work_next s who (Submit item named))
      (alike-submit j s.admissions item (submission_in s (Some who.number) item named) other) refl refl refl

  dropped : (item : ℕ) → eqb item j ≡ false → Alike j s.admissions (map (drop_one item) s.admissions)
  dropped item other = alike-map j (drop_one item) s.admissions (λ n a at.
      its-changed j (waits_as item a) Dropped a (λ is.
      another a.item item j (eqb-true a.item item (first_so (eqb a.item item) (is_waiting a.life) is)) other))

  pub kept-cancel : (item : ℕ) → eqb item j ≡ false → flags_of (work_next s who (Cancel item)) j ≡ flags_of s j
  kept-cancel item other = flags-alike j s (work_next s who (Cancel item)) (dropped item other)
      (marked j item s.admissions s.marks other) (disarmed j item s.arms other) refl

  pub kept-cancel_start : (item : ℕ) → eqb item j ≡ false → flags_of (work_next s who (CancelStart item)) j ≡ flags_of s j
  kept-cancel_start item other = flags-alike j s (work_next s who (CancelStart item)) (dropped item other)
      (marked j item s.admissions s.marks other) (disarmed j item s.arms other)
      (awaited-too j s.admissions s.waits (cancel_wait s.entries who (running s.admissions item))
      (no_flush (running s.admissions item))) where
        no_flush : (o : Option ℕ) (w : Wait) → cancel_wait s.entries who o ≡ Some w →
            flushes s.admissions j w.awaited ≡ false
        no_flush None w is = absurd (cc)
        no_flush (Some n) w is = ap (λ (v : Wait). flushes s.admissions j v.awaited) (sym (same_Some _ w is))

  hurried-alike : (item : ℕ) → eqb item j ≡ false → Alike j s.admissions (hurried s who item)
  hurried-alike item other =
      alike-arms j s.marks s.queues (Some who.number) (option_to_list (live_arm s.arms item)) s.admissions
      (by (live_arm s.arms item) refl) where
        by : (o : Option Arm) → live_arm s.arms item ≡ o → list_any (λ a. eqb a.item j) (option_to_list o) ≡ false
        by None is = refl
        by (Some a) is =
            let of = first_so (eqb a.item item) (is_live a.fate) (find-passes (arms_item item) s.arms a is) in
            ap (λ b. b || false) (another a.item item j (eqb-true a.item item of) other)

  pub kept-flush_start : (item : ℕ) → eqb item j ≡ false → flags_of (work_next s who (FlushStart item)) j ≡ flags_of s j
  kept-flush_start item other = flags-alike j s (work_next s who (FlushStart item)) (hurried-alike item other) refl
      (disarmed j item s.arms other)
      (awaited-too j s.admissions s.waits (flush_wait s.entries who (flushed_of s who item))
      (by (flushed_of s who item) refl)) where
        ys : List Admission
        ys = hurried s who item

        at : (n : ℕ) → flushed_of s who item ≡ Some n → passes_at (is_open_as j) ys n ≡ false
        at n is = first_of (waiting ys item) refl is where
          first_of : (o : Option ℕ) → waiting ys item ≡ o → option_or o (running ys item) ≡ Some n →
              passes_at (is_open_as j) ys n ≡ false
          first_of None none found = at_other j item is_open is_running ys n other found
          first_of (Some m) found same = at_other j item is_open is_waiting ys n other (found ∙ same)

        by : (o : Option ℕ) → flushed_of s who item ≡ o → (w : Wait) → flush_wait s.entries who o ≡ Some w →
            flushes s.admissions j w.awaited ≡ false
        by None is w made = absurd (cc)
        by (Some n) is w made =
            ap (λ (v : Wait). flushes s.admissions j v.awaited) (sym (same_Some _ w made))
            ∙ sym (passes-alike j is_open s.admissions ys (hurried-alike item other) n) ∙ at n is

  pub kept-delayed : (item queue delay : ℕ) → eqb item j ≡ false → flags_of (delayed s who item queue delay) j ≡ flags_of s j
  kept-delayed item queue delay other = by (eqb delay 0) where
    answer : Submitted
    answer = submission_in s (Some who.number) item (Some queue)

    one_arm : Arm
    one_arm = record { item = item; queue = queue; deadline = s.time + delay; fate = Live }

    by : (b : Bool) → flags_of (cond b (record s { admissions = submit s.admissions item answer })
        (record s { arms = s.arms ++ one_arm ∷ [] })) j ≡ flags_of s j
    by true = flags-alike j s (record s { admissions = submit s.admissions item answer })
        (alike-submit j s.admissions item answer other) refl refl refl
    by false = flags-alike j s (record s { arms = s.arms ++ one_arm ∷ [] }) (λ n. refl) refl
        (any-behind (arms_item j) s.arms (one_arm ∷ []) (ap (λ b. (b && true) || false) other)) refl

  pub kept-schedule : (item queue delay : ℕ) → eqb item j ≡ false →
      flags_of (work_next s who (Schedule item queue delay)) j ≡ flags_of s j
  kept-schedule item queue delay other = by (is_pending_in s item) where
    by : (b : Bool) → flags_of (cond b s (delayed s who item queue delay)) j ≡ flags_of s j
    by true = refl
    by false = kept-delayed item queue delay other

  pub kept-drain_start : (queue : ℕ) (plug : Bool) → flags_of (work_next s who (DrainStart queue plug)) j ≡ flags_of s j
  kept-drain_start queue plug =
      let idle = is_empty_and_idle s.admissions queue in
      flags-alike j s (work_next s who (DrainStart queue plug)) (λ n. refl) refl refl
      (awaited-too j s.admissions s.waits (drain_wait idle s.entries s.queues who queue) (no_flush idle)) where
        no_flush : (b : Bool) (w : Wait) → drain_wait b s.entries s.queues who queue ≡ Some w →
            flushes s.admissions j w.awaited ≡ false
        no_flush true w is = absurd (cc)
        no_flush false w is = ap (λ (v : Wait). flushes s.admissions j v.awaited) (sym (same_Some _ w is))

  -- an answered wait is what it was
  pub kept-answered : (closing : Closing) (place : ℕ) →
      flags_of (record s { waits = answered_waits s closing who place }) j ≡ flags_of s j
  kept-answered closing place = flags-alike j s (record s { waits = answered_waits s closing who place }) (λ n. refl) refl refl
      (any-map (λ (w : Wait). flushes s.admissions j w.awaited) (answer_one s.admissions s.queues closing who place) same s.waits)
    where
      same : (w : Wait) → flushes s.admissions j (answer_one s.admissions s.queues closing who place w).awaited
          ≡ flushes s.admissions j w.awaited
      same w = by (closes (has_come s.admissions s.queues closing) who place w) where
        by : (b : Bool) → flushes s.admissions j (answer_where b w).awaited ≡ flushes s.admissions j w.awaited
        by true = refl
        by false = refl

  pub kept-announce : (ticks : ℕ) → list_any (λ a. eqb a.item j) (due (s.time + ticks) s.arms) ≡ false →
      flags_of (work_next s who (Announce ticks)) j ≡ flags_of s j
  kept-announce ticks others = flags-alike j s (work_next s who (Announce ticks))
      (alike-arms j s.marks s.queues None (due (s.time + ticks) s.arms) s.admissions others) refl
      (any-expired j (s.time + ticks) s.arms (sym (list_any-by_key (λ a. eqb a.item j) (λ a. a.deadline)
      (filter (is_due (s.time + ticks)) s.arms)) ∙ others)) refl

  pub kept-begin : (queue item number : ℕ) → eqb item j ≡ false → taken_up s.admissions queue ≡ Some (Run item number) →
      flags_of (work_next s who (Begin queue)) j ≡ flags_of s j
  kept-begin queue item number other is = flags-alike j s (work_next s who (Begin queue))
      (by (first (line s.admissions queue)) is) refl refl refl where
        xs : List Admission
        xs = s.admissions

        run_same : (a : Admission) (m : ℕ) → Some (Run a.item m) ≡ Some (Run item number) → a.item ≡ item
        run_same a m same = cc

        at : (m : ℕ) (o : Option Admission) → option_map (λ a. Run a.item m) o ≡ Some (Run item number) →
            (a : Admission) → o ≡ Some a → eqb a.item j ≡ false
        at m None same a there = absurd (cc)
        at m (Some b) same a there =
            ap (λ (c : Admission). eqb c.item j) (sym (same_Some b a there)) ∙ another b.item item j (run_same b m same) other

        by : (o : Option ℕ) →
            option_and_then (λ m. option_map (λ a. Run a.item m) (slice_get xs m)) o ≡ Some (Run item number) →
            Alike j xs (option_map_or (λ m. set_life xs m Running) o xs)
        by None same = absurd (cc)
        by (Some m) same = alike-set_life j Running xs m (at m (slice_get xs m) same)

  pub kept-end : (queue : ℕ) → ((n : ℕ) (a : Admission) → slice_get s.admissions n ≡ Some a → runs_on queue a ≡ true →
      eqb a.item j ≡ false) → flags_of (work_next s who (End queue)) j ≡ flags_of s j
  kept-end queue others = flags-alike j s (work_next s who (End queue))
      (alike-map j (end_one queue) s.admissions (λ n a at. its-changed j (runs_on queue a) Ended a (others n a at)))
      refl refl refl

pub kept-reschedule : (s : State) (who : Who) (j item queue delay : ℕ) → eqb item j ≡ false →
    flags_of (work_next s who (Reschedule item queue delay)) j ≡ flags_of s j
kept-reschedule s who j item queue delay other =
    kept-delayed (record s { arms = disarm s.arms item }) who j item queue delay other
    ∙ flags-alike j s (record s { arms = disarm s.arms item }) (λ n. refl) refl (disarmed j item s.arms other) refl

-- the items of what was told are those of the arms that are due
pub told-items : (j : ℕ) (marks : List ℕ) (queues : List Queue) (arms : List Arm) (xs : List Admission) →
    is_touched (map (λ (e : Expiry). e.item) (expiries marks queues arms xs)) j ≡ list_any (λ a. eqb a.item j) arms
told-items j marks queues [] xs = refl
told-items j marks queues (a ∷ arms) xs =
    ap (λ b. eqb a.item j || b) (told-items j marks queues arms
    (submit xs a.item (submission (item_of xs marks a.item) queues None (Some a.queue))))
