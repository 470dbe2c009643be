-- No arm both fires and is given up.
use Rattle.std.proofs.Common.{◌≡◌, ℕ, ◌+◌, ◌≤◌, All, Bool, true, false, not, ◌&&◌, ◌||◌, cond, eqb, Option, Some, None, option_to_list, List, [], ◌∷◌, ◌++◌, length, map, refl, sym, ap, subst, ◌∙◌, ◌⊎◌, inl, inr, arith}
use Rattle.std.specs.List.{filter, list_any, count_by}
use Rattle.std.proofs.lemmas.Bool.{eqb-true, eq-eqb}
use Rattle.std.proofs.lemmas.List.{append-nil, append_assoc, length-append, length-drop}
use Rattle.std.proofs.lemmas.List.Elements.{All-nil, All-cons, All-head, All-tail, All-append, All-filter, All-weaker}
use Rattle.std.proofs.lemmas.List.Sums.{sum_by_push, sum_by-append}
use Rattle.zk_base.specs.Legal.{Replays}
use Rattle.zk_base.proofs.Firsts.{one_if}
use Rattle.zk_base.proofs.Histories.{by_entries}
use Rattle.zk_model_trigger.specs.declared.ops.TriggerOp.{TriggerOp}
use Rattle.zk_model_trigger.specs.declared.ops.TriggerOp.TheVariants as ops
use Rattle.zk_model_trigger.specs.declared.ops.TriggerReply.{TriggerReply}
use Rattle.zk_model_trigger.specs.declared.ops.TriggerReply.TheVariants as replies
use Rattle.zk_model_trigger.specs.declared.parts.Arm.{Arm}
use Rattle.zk_model_trigger.specs.declared.parts.Armed.{Armed}
use Rattle.zk_model_trigger.specs.declared.parts.Fire.{Fire}
use Rattle.zk_model_trigger.specs.declared.parts.Life.{Life}
use Rattle.zk_model_trigger.specs.declared.parts.Life.TheVariants.{Waiting, Fired, Taken, Cancelled}
use Rattle.zk_model_trigger.specs.Arms.{is_waiting, is_live, has_live, has_waiting, waiting}
use Rattle.zk_model_trigger.specs.Machine.{Triggers, new_triggers, trigger_machine, trigger_reply, trigger_next}
use Rattle.zk_model_trigger.specs.Histories.{TriggerEntry, TriggerHistory, triggers_after, is_armed, arms_in, is_next, taken_in, cancels_item, made_by, has_cause, if_waiting, waiting_after, fires_by, fires_of, newer, last_from, last_of, given_up, given_up_from, all_given_up}
use Rattle.zk_model_trigger.specs.Laws.{OfEach, EndsOnce}
use Rattle.zk_model_trigger.specs.Steady.{of_item}
use Rattle.zk_model_trigger.proofs.Lists.{count-cons, count-both}
use Rattle.zk_model_trigger.proofs.Changing.{any-waiting}
use Rattle.zk_model_trigger.proofs.Waiting.{stays_by, waiting_from-snoc, fires_from-snoc}
use Rattle.zk_model_trigger.proofs.Follow.{Follows, follows-replayed, follow-next}
use Rattle.zk_model_trigger.proofs.Once.{numbered, fired_as, in_all, more, made-number}

-- the last arm of an item, with one entry more
last-snoc : (item : ℕ) (last : Option Arm) (front h : TriggerHistory) (e : TriggerEntry) →
    last_from item last front (h ++ e ∷ []) ≡ newer item (made_by (front ++ h) e.op e.reply) (last_from item last front h)
last-snoc item last front [] e =
    ap (λ (g : TriggerHistory). newer item (made_by g e.op e.reply) last) (sym (append-nil front))
last-snoc item last front (x ∷ xs) e =
    let here = newer item (made_by front x.op x.reply) last in
    last-snoc item here (front ++ x ∷ []) xs e
    ∙ ap (λ (g : TriggerHistory). newer item (made_by g e.op e.reply) (last_from item here (front ++ x ∷ []) xs))
    (append_assoc front (x ∷ []) xs)

-- what was given up, with one entry more
given_up-snoc : (front h : TriggerHistory) (e : TriggerEntry) →
    given_up_from front (h ++ e ∷ []) ≡ given_up_from front h ++ option_to_list (given_up (front ++ h) e.op e.reply)
given_up-snoc front [] e =
    append-nil (option_to_list (given_up front e.op e.reply))
    ∙ ap (λ (g : TriggerHistory). option_to_list (given_up g e.op e.reply)) (sym (append-nil front))
given_up-snoc front (x ∷ xs) e =
    let first = option_to_list (given_up front x.op x.reply) in
    let later = front ++ x ∷ [] in
    ap (λ (l : List Arm). first ++ l) (given_up-snoc later xs e)
    ∙ sym (append_assoc first (given_up_from later xs) (option_to_list (given_up (later ++ xs) e.op e.reply)))
    ∙ ap (λ (g : TriggerHistory). (first ++ given_up_from later xs) ++ option_to_list (given_up g e.op e.reply))
    (append_assoc front (x ∷ []) xs)

-- by number, what was given up
abbrev gone : ℕ → TriggerHistory → ℕ
gone n h = count_by (numbered n) (all_given_up h)

or_true : (b : Bool) → (b || true) ≡ true
or_true true = refl
or_true false = refl

waits-live : (l : Life) → is_waiting l ≡ true → is_live l ≡ true
waits-live Waiting is = refl
waits-live (Fired cause) is = absurd (cc)
waits-live Taken is = absurd (cc)
waits-live Cancelled is = absurd (cc)

-- the item of an arm that waits has a live arm
waiting-live : (arms : List Armed) → All (λ a. has_live arms a.item ≡ true) (waiting arms)
waiting-live [] = All-nil (λ (a : Arm). has_live [] a.item ≡ true)
waiting-live (x ∷ xs) = by (is_waiting x.life) refl (waiting-live xs) where
  P : Arm → Type 0
  P = λ a. has_live (x ∷ xs) a.item ≡ true

  kept : List Armed
  kept = filter (λ (a : Armed). is_waiting a.life) xs

  rest : All (λ a. has_live xs a.item ≡ true) (waiting xs) → All P (waiting xs)
  rest behind = All-weaker (λ (a : Arm). has_live xs a.item ≡ true) P
      (λ a is. ap (λ (b : Bool). (eqb x.arm.item a.item && is_live x.life) || b) is
      ∙ or_true (eqb x.arm.item a.item && is_live x.life))
      (waiting xs) behind

  own : is_waiting x.life ≡ true → P x.arm
  own is =
      ap (λ (b : Bool). (b && is_live x.life) || has_live xs x.arm.item) (eq-eqb x.arm.item x.arm.item refl)
      ∙ ap (λ (b : Bool). b || has_live xs x.arm.item) (waits-live x.life is)

  by : (w : Bool) → is_waiting x.life ≡ w → All (λ a. has_live xs a.item ≡ true) (waiting xs) →
      All P (map (λ (a : Armed). a.arm) (cond w (x ∷ kept) kept))
  by true is behind = All-cons P x.arm (waiting xs) (own is) (rest behind)
  by false is behind = rest behind

-- an arm is made where its item has no live one
made-free : (h : TriggerHistory) (s : Triggers) (e : TriggerEntry) (op : TriggerOp) (reply : TriggerReply) →
    trigger_reply s e.who op ≡ Some reply → (a : Arm) → made_by h op reply ≡ Some a → has_live s.arms a.item ≡ false
made-free h s e (ops.Arm item queue events ticks) (replies.Armed number) is a made =
    subst (λ (i : ℕ). has_live s.arms i ≡ false) (ap (λ (o : Option Arm). at o) made) (by (has_live s.arms item) refl is) where
      at : Option Arm → ℕ
      at None = 0
      at (Some b) = b.item

      by : (b : Bool) → has_live s.arms item ≡ b →
          ◌≡◌ {A = Option TriggerReply} (Some (cond b replies.Busy (replies.Armed (length s.arms)))) (Some (replies.Armed number)) →
          has_live s.arms item ≡ false
      by false free told = free
      by true live told = absurd (cc)
made-free h s e (ops.Arm item queue events ticks) replies.Busy is a made = absurd (cc)
made-free h s e (ops.Arm item queue events ticks) replies.Done is a made = absurd (cc)
made-free h s e (ops.Arm item queue events ticks) replies.Inval is a made = absurd (cc)
made-free h s e (ops.Arm item queue events ticks) (replies.Now time) is a made = absurd (cc)
made-free h s e (ops.Arm item queue events ticks) (replies.Fire number to queues cause) is a made = absurd (cc)
made-free h s e (ops.Post event) reply is a made = absurd (cc)
made-free h s e (ops.Unpost event) reply is a made = absurd (cc)
made-free h s e (ops.Tick ticks) reply is a made = absurd (cc)
made-free h s e (ops.Cancel item) reply is a made = absurd (cc)
made-free h s e ops.Next reply is a made = absurd (cc)

-- each that waits is the last arm of its item
abbrev AreLast : TriggerHistory → Type 0
AreLast h = All (λ a. last_of h a.item ≡ Some a) (waiting_after h)

-- and so with one entry more
last-step : (h : TriggerHistory) (e : TriggerEntry) → Follows h (triggers_after h) →
    trigger_reply (triggers_after h) e.who e.op ≡ Some e.reply → AreLast h → AreLast (h ++ e ∷ [])
last-step h e f reply before =
    subst (All P) (sym (waiting_from-snoc [] h e))
    (All-append P stay (if_waiting (made_by h e.op e.reply) after []) old (new (made_by h e.op e.reply) refl)) where
      after : TriggerHistory
      after = h ++ e ∷ []

      stay : List Arm
      stay = filter (stays_by h e) (waiting_after h)

      P : Arm → Type 0
      P = λ a. last_of after a.item ≡ Some a

      live : All (λ (a : Arm). has_live (triggers_after h).arms a.item ≡ true) (waiting_after h)
      live = subst (All (λ (a : Arm). has_live (triggers_after h).arms a.item ≡ true)) f.waits
          (waiting-live (triggers_after h).arms)

      apart : (i j : ℕ) (b : Bool) → eqb i j ≡ b → has_live (triggers_after h).arms j ≡ true →
          has_live (triggers_after h).arms i ≡ false → b ≡ false
      apart i j false is there none = refl
      apart i j true is there none =
          let same = ap (has_live (triggers_after h).arms) (eqb-true i j is) in
          absurd (cc)

      still : (o : Option Arm) → made_by h e.op e.reply ≡ o → (x : Arm) → has_live (triggers_after h).arms x.item ≡ true →
          last_of h x.item ≡ Some x → newer x.item o (last_of h x.item) ≡ Some x
      still None is x there last = last
      still (Some a) is x there last =
          ap (λ (b : Bool). cond b (Some a) (last_of h x.item))
          (apart a.item x.item (eqb a.item x.item) refl there (made-free h (triggers_after h) e e.op e.reply reply a is))
          ∙ last

      each : (xs : List Arm) → All (λ (a : Arm). has_live (triggers_after h).arms a.item ≡ true) xs →
          All (λ (a : Arm). last_of h a.item ≡ Some a) xs → All P xs
      each [] there last = All-nil P
      each (x ∷ xs) there last =
          let L : Arm → Type 0 = λ a. has_live (triggers_after h).arms a.item ≡ true in
          let Q : Arm → Type 0 = λ a. last_of h a.item ≡ Some a in
          All-cons P x xs
          (last-snoc x.item None [] h e
          ∙ still (made_by h e.op e.reply) refl x (All-head L x xs there) (All-head Q x xs last))
          (each xs (All-tail L x xs there) (All-tail Q x xs last))

      old : All P stay
      old = All-filter (stays_by h e) P (waiting_after h) (each (waiting_after h) live before)

      own : (a : Arm) → made_by h e.op e.reply ≡ Some a → P a
      own a is =
          last-snoc a.item None [] h e
          ∙ ap (λ (o : Option Arm). newer a.item o (last_of h a.item)) is
          ∙ ap (λ (b : Bool). cond b (Some a) (last_of h a.item)) (eq-eqb a.item a.item refl)

      new : (o : Option Arm) → made_by h e.op e.reply ≡ o → All P (if_waiting o after [])
      new None is = All-nil P
      new (Some a) is = by (not (has_cause after a)) where
        by : (b : Bool) → All P (cond b (a ∷ []) [])
        by true = All-cons P a [] (own a is) (All-nil P)
        by false = All-nil P

-- where the item has one that waits, its last arm is among these
last-among : (n item : ℕ) (last : ℕ → Option Arm) (xs : List Arm) → All (λ a. last a.item ≡ Some a) xs →
    list_any (of_item item) xs ≡ true →
    count_by (numbered n) (option_to_list (last item)) ≤ count_by (numbered n) (filter (of_item item) xs)
last-among n item last [] held some = absurd (cc)
last-among n item last (x ∷ xs) held some =
    by (eqb x.item item) refl some (last-among n item last xs (All-tail (λ a. last a.item ≡ Some a) x xs held)) where
      Q : Arm → Type 0
      Q = λ a. last a.item ≡ Some a

      kept : List Arm
      kept = filter (of_item item) xs

      by : (b : Bool) → eqb x.item item ≡ b → (b || list_any (of_item item) xs) ≡ true →
          (list_any (of_item item) xs ≡ true → count_by (numbered n) (option_to_list (last item)) ≤ count_by (numbered n) kept) →
          count_by (numbered n) (option_to_list (last item)) ≤ count_by (numbered n) (cond b (x ∷ kept) kept)
      by true is any behind =
          let here : last item ≡ Some x = ap last (sym (eqb-true x.item item is)) ∙ All-head Q x xs held in
          let one = ap (λ (o : Option Arm). count_by (numbered n) (option_to_list o)) here in
          omega (arith, count-cons (numbered n) x kept, count-cons (numbered n) x [])
      by false is any behind = behind any

-- fewer pass two tests than the first of them
count-first : (n : ℕ) (p q : Arm → Bool) (xs : List Arm) →
    count_by (numbered n) (filter (λ a. p a && q a) xs) ≤ count_by (numbered n) (filter p xs)
count-first n p q [] = omega arith
count-first n p q (x ∷ xs) = by (p x) (q x) (count-first n p q xs) where
  both : List Arm
  both = filter (λ a. p a && q a) xs

  kept : List Arm
  kept = filter p xs

  by : (a b : Bool) → count_by (numbered n) both ≤ count_by (numbered n) kept →
      count_by (numbered n) (cond (a && b) (x ∷ both) both) ≤ count_by (numbered n) (cond a (x ∷ kept) kept)
  by true true rest = omega (arith, count-cons (numbered n) x both, count-cons (numbered n) x kept)
  by true false rest = omega (arith, count-cons (numbered n) x kept)
  by false b rest = rest

none-counted : (n : ℕ) (xs : List Fire) → length xs ≡ 0 → count_by (fired_as n) xs ≡ 0
none-counted n [] none = refl
none-counted n (x ∷ xs) none = absurd (omega arith)

-- a cancel fires nothing
cancel-fires : (h : TriggerHistory) (e : TriggerEntry) (item : ℕ) → e.op ≡ ops.Cancel item → Follows h (triggers_after h) →
    trigger_reply (triggers_after h) e.who e.op ≡ Some e.reply → length (fires_by h e) ≡ 0
cancel-fires h e item is f reply =
    let s = triggers_after h in
    let after = h ++ e ∷ [] in
    let next = follow-next h e f reply in
    let same : length (trigger_next s e.who e.op).fires ≡ length s.fires =
    ap (λ (op : TriggerOp). length (trigger_next s e.who op).fires) is in
    let left = ap length f.fires in
    let long = length-drop (taken_in h) (fires_of h) in
    let left_after = ap length next.fires in
    let long_after = length-drop (taken_in after) (fires_of after) in
    let enough = f.enough in
    let enough_after = next.enough in
    let taken = sum_by_push (λ (x : TriggerEntry). one_if (is_next x.op)) h e in
    let none : one_if (is_next e.op) ≡ 0 = ap (λ (op : TriggerOp). one_if (is_next op)) is in
    let grown = ap length (fires_from-snoc [] h e) in
    let both = length-append (fires_of h) (fires_by h e) in
    omega arith

-- only a cancel that is done gives one up
gives : (h : TriggerHistory) (op : TriggerOp) (reply : TriggerReply) →
    (given_up h op reply ≡ None) ⊎ ((item : ℕ) × (op ≡ ops.Cancel item) × (reply ≡ replies.Done))
gives h (ops.Arm item queue events ticks) reply = inl refl
gives h (ops.Post event) reply = inl refl
gives h (ops.Unpost event) reply = inl refl
gives h (ops.Tick ticks) reply = inl refl
gives h ops.Next reply = inl refl
gives h (ops.Cancel item) replies.Done = inr (item, refl, refl)
gives h (ops.Cancel item) (replies.Armed number) = inl refl
gives h (ops.Cancel item) replies.Busy = inl refl
gives h (ops.Cancel item) replies.Inval = inl refl
gives h (ops.Cancel item) (replies.Now time) = inl refl
gives h (ops.Cancel item) (replies.Fire number of_it to cause) = inl refl

-- a cancel is done where one waits
done-waits : (b : Bool) → ◌≡◌ {A = Option TriggerReply} (Some (cond b replies.Done replies.Inval)) (Some replies.Done) → b ≡ true
done-waits true is = refl
done-waits false is = absurd (cc)

-- what an entry gives up waits no more, and hasn't fired
less : (n : ℕ) (h : TriggerHistory) (e : TriggerEntry) → Follows h (triggers_after h) →
    trigger_reply (triggers_after h) e.who e.op ≡ Some e.reply → AreLast h →
    in_all n (h ++ e ∷ []) + count_by (numbered n) (option_to_list (given_up h e.op e.reply))
    ≤ in_all n h + count_by (numbered n) (option_to_list (made_by h e.op e.reply))
less n h e f reply before = by (gives h e.op e.reply) where
  s : Triggers
  s = triggers_after h

  after : TriggerHistory
  after = h ++ e ∷ []

  waits : List Arm
  waits = waiting_after h

  Count : List Arm → ℕ
  Count = count_by (numbered n)

  by : (given_up h e.op e.reply ≡ None) ⊎ ((item : ℕ) × (e.op ≡ ops.Cancel item) × (e.reply ≡ replies.Done)) →
      in_all n after + Count (option_to_list (given_up h e.op e.reply))
      ≤ in_all n h + Count (option_to_list (made_by h e.op e.reply))
  by (inl none) =
      let grown = more n h e in
      let zero = ap (λ (o : Option Arm). Count (option_to_list o)) none in
      omega arith
  by (inr (item, op_is, reply_is)) =
      let given : Count (option_to_list (given_up h e.op e.reply)) ≡ Count (option_to_list (last_of h item)) =
      ap (λ (op : TriggerOp). Count (option_to_list (given_up h op e.reply))) op_is
      ∙ ap (λ (r : TriggerReply). Count (option_to_list (given_up h (ops.Cancel item) r))) reply_is in
      let new = if_waiting (made_by h e.op e.reply) after [] in
      let w : Count (waiting_after after) ≡ Count (filter (stays_by h e) waits) + Count new =
      ap Count (waiting_from-snoc [] h e) ∙ sum_by-append (λ (a : Arm). one_if (numbered n a)) (filter (stays_by h e) waits) new in
      let none_new : Count new ≡ 0 = ap (λ (op : TriggerOp). Count (if_waiting (made_by h op e.reply) after [])) op_is in
      let stay = count-first n (λ a. not (cancels_item a.item e.op e.reply)) (λ a. not (has_cause after a)) waits in
      let others : Count (filter (λ a. not (cancels_item a.item e.op e.reply)) waits) ≡ Count (filter (λ a. not (of_item item a)) waits) =
      ap (λ (op : TriggerOp). Count (filter (λ a. not (cancels_item a.item op e.reply)) waits)) op_is
      ∙ ap (λ (r : TriggerReply). Count (filter (λ a. not (cancels_item a.item (ops.Cancel item) r)) waits)) reply_is in
      let both = count-both (numbered n) (of_item item) waits in
      let there : list_any (of_item item) waits ≡ true =
      ap (list_any (of_item item)) (sym f.waits) ∙ sym (any-waiting item s.arms)
      ∙ done-waits (has_waiting s.arms item)
      (sym (ap (λ (op : TriggerOp). trigger_reply s e.who op) op_is) ∙ reply ∙ ap Some reply_is) in
      let last = last-among n item (last_of h) waits before there in
      let fires : count_by (fired_as n) (fires_of after) ≡ count_by (fired_as n) (fires_of h) + count_by (fired_as n) (fires_by h e) =
      ap (count_by (fired_as n)) (fires_from-snoc [] h e)
      ∙ sum_by-append (λ (x : Fire). one_if (fired_as n x)) (fires_of h) (fires_by h e) in
      let no_fire = none-counted n (fires_by h e) (cancel-fires h e item op_is f reply) in
      omega arith

-- of each number there is one at most that waits, has fired or was given up, and none of those that were not given yet
record Ends (h : TriggerHistory) : Type 0 where
  last : AreLast h
  one : (n : ℕ) → in_all n h + gone n h ≤ 1
  none : (n : ℕ) → arms_in h ≤ n → in_all n h + gone n h ≡ 0

ends-step : (h : TriggerHistory) (e : TriggerEntry) → Replays trigger_machine new_triggers h →
    trigger_reply (triggers_after h) e.who e.op ≡ Some e.reply → Ends h → Ends (h ++ e ∷ [])
ends-step h e replays reply is = record {
  last = last-step h e f reply is.last;
  one = λ n. one n (made-number n h e.op e.reply).1;
  none = λ n above.
      let grown = less n h e f reply is.last in
      let lost = given n in
      let counted = sum_by_push (λ (x : TriggerEntry). one_if (is_armed x.reply)) h e in
      let before = is.none n (omega arith) in
      let new = (made-number n h e.op e.reply).0 (omega arith) in
      omega arith;
} where
  f : Follows h (triggers_after h)
  f = follows-replayed h replays

  given : (n : ℕ) → gone n (h ++ e ∷ []) ≡ gone n h + count_by (numbered n) (option_to_list (given_up h e.op e.reply))
  given n =
      ap (count_by (numbered n)) (given_up-snoc [] h e)
      ∙ sum_by-append (λ (a : Arm). one_if (numbered n a)) (all_given_up h) (option_to_list (given_up h e.op e.reply))

  one : (n : ℕ) → (count_by (numbered n) (option_to_list (made_by h e.op e.reply)) ≡ 0)
      ⊎ ((arms_in h ≡ n) × (count_by (numbered n) (option_to_list (made_by h e.op e.reply)) ≡ 1)) →
      in_all n (h ++ e ∷ []) + gone n (h ++ e ∷ []) ≤ 1
  one n (inl no_new) =
      let grown = less n h e f reply is.last in let lost = given n in let most = is.one n in omega arith
  one n (inr next) =
      let grown = less n h e f reply is.last in
      let lost = given n in
      let before = is.none n (omega arith) in
      let new = next.1 in
      omega arith

pub ends_once : OfEach EndsOnce
ends_once h legal n =
    let P : Arm → Type 0 = λ a. last_of [] a.item ≡ Some a in
    let all = (by_entries trigger_machine new_triggers Ends ends-step [] h legal.0
    (record { last = All-nil P; one = λ m. omega arith; none = λ m above. refl })).one n in
    omega arith
