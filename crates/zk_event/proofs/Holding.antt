-- Nobody waits for what is there.
use Rattle.std.proofs.Common.{◌≡◌, ℕ, ◌-◌, Bool, true, false, not, cond, eqb, bit_and, bit_or, Option, Some, None, is_some, List, [], ◌∷◌, All, refl, sym, ap, ◌∙◌, arith}
use Rattle.std.specs.Int.Bits.{and_zero_l, and_zero_r, and_self}
use Rattle.std.specs.List.{Contains, filter}
use Rattle.std.proofs.lemmas.Bool.Decides.{nat_tests}
use Rattle.std.proofs.lemmas.Nat.{and_assoc, and_comm}
use Rattle.std.proofs.lemmas.List.Elements.{All-nil, All-head, All-tail, All-weaker, All-filter, All-contains, All-contains_itself, filter_passes}
use Rattle.zk_base.specs.declared.ids.Who.{Who}
use Rattle.zk_base.specs.declared.ids.Entry.{Entry}
use Rattle.zk_base.specs.declared.waits.Waiter.{Waiter}
use Rattle.zk_base.specs.Legal.{state_after, AreInRange}
use Rattle.zk_base.specs.Waits.{is_left, is_served_after, is_waiter}
use Rattle.zk_base.proofs.WaitsHold.{All-put_before, All-without}
use Rattle.zk_event.specs.declared.event.Wanted.{Wanted}
use Rattle.zk_event.specs.declared.event.EventOp.{EventOp}
use Rattle.zk_event.specs.declared.event.EventOp.TheVariants as ops
use Rattle.zk_event.specs.declared.event.EventReply.{EventReply}
use Rattle.zk_event.specs.declared.event.EventReply.TheVariants as replies
use Rattle.zk_event.specs.Event.{Event, new_event, shared, holds, told, found, with_bits, wait_at, event_next, event_in_range, event_machine}
use Rattle.zk_event.specs.EventLaws.{EventHistory, OfEachEvent, NoneWaitsWhereItHolds}

pub same : (a b : ℕ) → eqb a b ≡ true → a ≡ b
same a b is = grind (arith, nat_tests)

is-same : (a b : ℕ) → a ≡ b → eqb a b ≡ true
is-same a b is = grind (arith, nat_tests)

apart : (a b : ℕ) → (a ≡ b → ⊥) → eqb a b ≡ false
apart a b differ = by (eqb a b) refl where
  by : (t : Bool) → eqb a b ≡ t → t ≡ false
  by true is = absurd (differ (same a b is))
  by false is = refl

not-same : (a b : ℕ) → eqb a b ≡ false → a ≡ b → ⊥
not-same a b isnt is = let told = is-same a b is in cc

-- fewer bits share fewer
fewer-none : (a c m : ℕ) → bit_and a m ≡ 0 → bit_and (bit_and a c) m ≡ 0
fewer-none a c m none =
    ap (λ (n : ℕ). bit_and n m) (and_comm a c) ∙ and_assoc m c a ∙ ap (bit_and c) none ∙ and_zero_r c

fewer-all : (a c m : ℕ) → bit_and (bit_and a c) m ≡ m → bit_and a m ≡ m
fewer-all a c m all =
    let once : bit_and a (bit_and a c) ≡ bit_and a c = sym (and_assoc c a a) ∙ ap (λ (n : ℕ). bit_and n c) (and_self a) in
    ap (bit_and a) (sym all) ∙ sym (and_assoc m a (bit_and a c)) ∙ ap (λ (n : ℕ). bit_and n m) once ∙ all

not-false : (b : Bool) → not b ≡ false → b ≡ true
not-false true is = refl
not-false false is = absurd (cc)

fewer-holds : (a c m : ℕ) (all : Bool) → holds a (record { mask = m; all = all }) ≡ false →
    holds (bit_and a c) (record { mask = m; all = all }) ≡ false
fewer-holds a c m true isnt = apart (bit_and (bit_and a c) m) m (λ is. not-same (bit_and a m) m isnt (fewer-all a c m is))
fewer-holds a c m false isnt =
    ap not (is-same (bit_and (bit_and a c) m) 0 (fewer-none a c m (same (bit_and a m) 0 (not-false (eqb (bit_and a m) 0) isnt))))

-- where there is no bit, nothing that is waited for is there
none-holds : (m : ℕ) (all : Bool) → eqb m 0 ≡ false → holds 0 (record { mask = m; all = all }) ≡ false
none-holds m true some = apart (bit_and 0 m) m (λ is. not-same m 0 some (sym is ∙ and_zero_l m))
none-holds m false some = ap not (is-same (bit_and 0 m) 0 (and_zero_l m))

left-holds : (holds : Bool) (reply : EventReply) → not (is_some (cond holds (Some reply) None)) ≡ true → holds ≡ false
left-holds true reply is = absurd (cc)
left-holds false reply is = refl

none-told : (holds : Bool) (reply : EventReply) → cond holds (Some reply) None ≡ None → holds ≡ false
none-told true reply is = absurd (cc)
none-told false reply is = refl

-- it waits for a bit at least, and what it waits for isn't there
abbrev pub Waits : ℕ → Waiter Wanted → Type 0
Waits bits w = (holds bits w.payload ≡ false) × (eqb w.payload.mask 0 ≡ false)

abbrev pub AllWait : Event → Type 0
AllWait s = All (Waits s.bits) s.waits.waiting

bits-wait : (s : Event) (bits : ℕ) → AllWait s → AllWait (with_bits s bits)
bits-wait s bits wait =
    let left = filter (is_left (told bits)) s.waits.waiting in
    let Masked : Waiter Wanted → Type 0 = λ w. eqb w.payload.mask 0 ≡ false in
    let isnt = All-weaker (λ (w : Waiter Wanted). is_left (told bits) w ≡ true) (λ (w : Waiter Wanted). holds bits w.payload ≡ false)
    (λ w is. left-holds (holds bits w.payload) (replies.Bits (shared bits w.payload)) is) left
    (filter_passes (is_left (told bits)) s.waits.waiting) in
    let masked = All-filter (is_left (told bits)) Masked s.waits.waiting
    (All-weaker (Waits s.bits) Masked (λ w both. both.1) s.waits.waiting wait) in
    All-weaker (Contains left) (Waits bits)
    (λ w held. (
      All-contains (λ (w : Waiter Wanted). holds bits w.payload ≡ false) left w isnt held,
      All-contains Masked left w masked held,
    )) left (All-contains_itself left)

found-wait : (reset : Bool) (bits : ℕ) (ws : List (Waiter Wanted)) → All (Waits bits) ws → All (Waits (found reset bits)) ws
found-wait true bits ws wait =
    All-weaker (Waits bits) (Waits 0) (λ w both. (none-holds w.payload.mask w.payload.all both.1, both.1)) ws wait
found-wait false bits ws wait = wait

asked-wait : (s : Event) (bits : ℕ) (w : Waiter Wanted) (answer : Option EventReply) (waits : Bool) → told bits w.payload ≡ answer →
    eqb w.payload.mask 0 ≡ false → All (Waits bits) s.waits.waiting → All (Waits bits) (wait_at answer waits s.waits w).waiting
asked-wait s bits w None true is some wait =
    All-put_before (Waits bits) (is_served_after w) w s.waits.waiting
    (none-told (holds bits w.payload) (replies.Bits (shared bits w.payload)) is, some) wait
asked-wait s bits w None false is some wait = wait
asked-wait s bits w (Some reply) waits is some wait = wait

pub next-wait : (s : Event) (who : Who) (op : EventOp) → event_in_range new_event op ≡ true → AllWait s → AllWait (event_next s who op)
next-wait s who (ops.Post bits) range wait = bits-wait s (bit_or s.bits bits) wait
next-wait s who (ops.Set bits) range wait = bits-wait s bits wait
next-wait s who (ops.Clear bits) range wait =
    All-weaker (Waits s.bits) (Waits (bit_and s.bits (65535 - bits)))
    (λ w both. (fewer-holds s.bits (65535 - bits) w.payload.mask w.payload.all both.0, both.1)) s.waits.waiting wait
next-wait s who (ops.Wait mask all reset waits) range wait =
    let wanted : Wanted = record { mask = mask; all = all } in
    let some : eqb mask 0 ≡ false = not-true (eqb mask 0) range in
    asked-wait s (found reset s.bits) (record { place = s.entries; who = who; payload = wanted })
    (told (found reset s.bits) wanted) waits refl some (found-wait reset s.bits s.waits.waiting wait) where
      not-true : (b : Bool) → not b ≡ true → b ≡ false
      not-true true is = absurd (cc)
      not-true false is = refl
next-wait s who (ops.WaitEnd place) range wait = wait
next-wait s who (ops.WaitQuit place) range wait =
    All-without (Waits s.bits) (is_waiter who.number place) s.waits.waiting wait

all-wait : (s : Event) (h : EventHistory) → AreInRange event_machine new_event h → AllWait s → AllWait (state_after event_machine s h)
all-wait s [] range wait = wait
all-wait s (e ∷ es) range wait =
    let P : Entry EventOp EventReply → Type 0 = λ e. event_in_range new_event e.op ≡ true in
    all-wait (event_next s e.who e.op) es (All-tail P e es range) (next-wait s e.who e.op (All-head P e es range) wait)

pub none_waits_where_it_holds : OfEachEvent NoneWaitsWhereItHolds
none_waits_where_it_holds h legal =
    let s = state_after event_machine new_event h in
    All-weaker (Waits s.bits) (λ (w : Waiter Wanted). holds s.bits w.payload ≡ false) (λ w both. both.0) s.waits.waiting
    (all-wait new_event h legal.2 (All-nil (Waits 0)))
