-- What arms say, and what a change of one delta changes of it.
use Rattle.std.proofs.Common.{◌≡◌, ℕ, suc, ◌+◌, ◌-◌, ◌<◌, ◌≤◌, ◌||◌, List, [], ◌∷◌, ◌++◌, length, reverse, take, drop, get_or, All, refl, sym, ap, ◌∙◌, arith}
use Rattle.std.specs.List.{list_any}
use Rattle.std.proofs.lemmas.List.{reverse-append, take-append-drop, length-reverse, take_more}
use Rattle.std.proofs.lemmas.List.Elements.{All-nil, All-cons, All-weaker}
use Rattle.std.proofs.lemmas.List.Sums.{sum_by-cons, sum_by-append}
use Rattle.std.proofs.lemmas.List.Sorted.{IsPermutation-reverse, sum_by-IsPermutation, list_any-IsPermutation}
use Rattle.zk_base.specs.Order.{Ascends}
use Rattle.zk_time.specs.declared.arm.Arm.{Arm}
use Rattle.zk_time.specs.declared.timeout.Timeout.{Timeout}
use Rattle.zk_time.specs.Timeouts.{is_of}
use Rattle.zk_time.specs.Deltas.{is_arm_of, span, timeouts_after, live_of, earlier, later, longer, shorter}

pub span-cons : (a : Arm) (arms : List Arm) → span (a ∷ arms) ≡ a.delta + span arms
span-cons a arms = sum_by-cons (λ (a : Arm). a.delta) a arms

pub span-append : (xs ys : List Arm) → span (xs ++ ys) ≡ span xs + span ys
span-append xs ys = sum_by-append (λ (a : Arm). a.delta) xs ys

pub span-reverse : (arms : List Arm) → span (reverse arms) ≡ span arms
span-reverse arms = sum_by-IsPermutation (λ (a : Arm). a.delta) arms (reverse arms) (IsPermutation-reverse arms)

-- one after another
pub timeouts-append : (moment : ℕ) (xs ys : List Arm) →
    timeouts_after moment (xs ++ ys) ≡ timeouts_after moment xs ++ timeouts_after (moment + span xs) ys
timeouts-append moment [] ys = let same : moment ≡ moment + span [] = omega arith in ap (λ (n : ℕ). timeouts_after n ys) same
timeouts-append moment (a ∷ xs) ys =
    let t : Timeout = record { item = a.item; queue = a.queue; deadline = moment + a.delta } in
    let front = timeouts_after (moment + a.delta) xs in
    let same : moment + a.delta + span xs ≡ moment + span (a ∷ xs) = omega (arith, span-cons a xs) in
    ap (λ (l : List Timeout). t ∷ l) (timeouts-append (moment + a.delta) xs ys)
    ∙ ap (λ (n : ℕ). t ∷ (front ++ timeouts_after n ys)) same

-- none expires before the moment
pub from_moment : (moment : ℕ) (arms : List Arm) → All (λ t. moment ≤ t.deadline) (timeouts_after moment arms)
from_moment moment [] = All-nil (λ (t : Timeout). moment ≤ t.deadline)
from_moment moment (a ∷ arms) =
    let P : Timeout → Type 0 = λ t. moment ≤ t.deadline in
    All-cons P (record { item = a.item; queue = a.queue; deadline = moment + a.delta }) (timeouts_after (moment + a.delta) arms)
    (omega arith) (All-weaker (λ t. moment + a.delta ≤ t.deadline) P (λ t h. omega arith)
    (timeouts_after (moment + a.delta) arms) (from_moment (moment + a.delta) arms))

-- none expires after all deltas
pub upto_span : (moment : ℕ) (arms : List Arm) → All (λ t. t.deadline ≤ moment + span arms) (timeouts_after moment arms)
upto_span moment [] = All-nil (λ (t : Timeout). t.deadline ≤ moment + span [])
upto_span moment (a ∷ arms) =
    let P : Timeout → Type 0 = λ t. t.deadline ≤ moment + span (a ∷ arms) in
    let more = span-cons a arms in
    All-cons P (record { item = a.item; queue = a.queue; deadline = moment + a.delta }) (timeouts_after (moment + a.delta) arms)
    (omega arith) (All-weaker (λ t. t.deadline ≤ moment + a.delta + span arms) P (λ t h. omega arith)
    (timeouts_after (moment + a.delta) arms) (upto_span (moment + a.delta) arms))

pub Ascends-timeouts : (moment : ℕ) (arms : List Arm) → Ascends (λ t. t.deadline) (timeouts_after moment arms)
Ascends-timeouts moment [] = tt
Ascends-timeouts moment (a ∷ arms) = (from_moment (moment + a.delta) arms, Ascends-timeouts (moment + a.delta) arms)

pub length-timeouts : (moment : ℕ) (arms : List Arm) → length (timeouts_after moment arms) ≡ length arms
length-timeouts moment [] = refl
length-timeouts moment (a ∷ arms) = ap suc (length-timeouts (moment + a.delta) arms)

pub length-live : (arms : List Arm) → length (live_of arms) ≡ length arms
length-live arms = length-timeouts 0 (reverse arms) ∙ length-reverse arms

list_any-timeouts : (item moment : ℕ) (arms : List Arm) →
    list_any (is_of item) (timeouts_after moment arms) ≡ list_any (is_arm_of item) arms
list_any-timeouts item moment [] = refl
list_any-timeouts item moment (a ∷ arms) = ap (λ b. is_arm_of item a || b) (list_any-timeouts item (moment + a.delta) arms)

pub list_any-live : (item : ℕ) (arms : List Arm) → list_any (is_of item) (live_of arms) ≡ list_any (is_arm_of item) arms
list_any-live item arms = list_any-timeouts item 0 (reverse arms)
    ∙ sym (list_any-IsPermutation (is_arm_of item) arms (reverse arms) (IsPermutation-reverse arms))

-- a first delta that counts from earlier
pub timeouts-longer : (moment by : ℕ) (arms : List Arm) →
    timeouts_after moment (longer by arms) ≡ timeouts_after (moment + by) arms
timeouts-longer moment by [] = refl
timeouts-longer moment by (a ∷ arms) =
    let same : moment + (a.delta + by) ≡ moment + by + a.delta = omega arith in
    ap (λ (n : ℕ). let t : Timeout = record { item = a.item; queue = a.queue; deadline = n } in t ∷ timeouts_after n arms) same

-- the first delta, if there is one, is above this
abbrev pub FirstAbove : ℕ → List Arm → Type 0
FirstAbove by [] = Unit {0}
FirstAbove by (a ∷ arms) = by < a.delta

-- a first delta that counts from later
pub timeouts-shorter : (moment by : ℕ) (arms : List Arm) → FirstAbove by arms →
    timeouts_after (moment + by) (shorter by arms) ≡ timeouts_after moment arms
timeouts-shorter moment by [] above = refl
timeouts-shorter moment by (a ∷ arms) above =
    let same : moment + by + (a.delta - by) ≡ moment + a.delta = omega arith in
    ap (λ (n : ℕ). let t : Timeout = record { item = a.item; queue = a.queue; deadline = n } in t ∷ timeouts_after n arms) same

-- all of them expire after it
pub all_above : (moment by : ℕ) (arms : List Arm) → FirstAbove by arms →
    All (λ t. moment + by < t.deadline) (timeouts_after moment arms)
all_above moment by [] above = All-nil (λ (t : Timeout). moment + by < t.deadline)
all_above moment by (a ∷ arms) above =
    let P : Timeout → Type 0 = λ t. moment + by < t.deadline in
    All-cons P (record { item = a.item; queue = a.queue; deadline = moment + a.delta }) (timeouts_after (moment + a.delta) arms)
    (omega arith) (All-weaker (λ t. moment + a.delta ≤ t.deadline) P (λ t h. omega arith)
    (timeouts_after (moment + a.delta) arms) (from_moment (moment + a.delta) arms))

pub span-longer : (by : ℕ) (arms : List Arm) → span (longer by arms) ≤ span arms + by
span-longer by [] = omega arith
span-longer by (a ∷ arms) = omega (arith, span-cons a arms, span-cons (record a { delta = a.delta + by }) arms)

-- at any place: first those that expire earlier, then those that expire later
pub reverse-parts : (index : ℕ) (arms : List Arm) → reverse arms ≡ earlier index arms ++ later index arms
reverse-parts index arms = ap reverse (sym (take-append-drop index arms)) ∙ reverse-append (take index arms) (drop index arms)

pub live-parts : (index : ℕ) (arms : List Arm) →
    live_of arms ≡ timeouts_after 0 (earlier index arms) ++ timeouts_after (span (earlier index arms)) (later index arms)
live-parts index arms = ap (timeouts_after 0) (reverse-parts index arms)
    ∙ timeouts-append 0 (earlier index arms) (later index arms) ∙ at where
      at : timeouts_after 0 (earlier index arms) ++ timeouts_after (0 + span (earlier index arms)) (later index arms)
          ≡ timeouts_after 0 (earlier index arms) ++ timeouts_after (span (earlier index arms)) (later index arms)
      at = let same : 0 + span (earlier index arms) ≡ span (earlier index arms) = omega arith in
          ap (λ (n : ℕ). timeouts_after 0 (earlier index arms) ++ timeouts_after n (later index arms)) same

-- the arms in front of a place, one more
pub later_first : (index : ℕ) (arms : List Arm) (d : Arm) → index < length arms →
    later (index + 1) arms ≡ get_or arms index d ∷ later index arms
later_first index arms d within = ap reverse (take_more arms index d within)
    ∙ reverse-append (take index arms) (get_or arms index d ∷ [])
