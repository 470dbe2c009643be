-- The end of a wait answers bits, some at least.
use Rattle.std.proofs.Common.{◌≡◌, ℕ, zero, suc, ◌<◌, ◌⊎◌, Bool, true, false, not, cond, eqb, bit_and, bit_or, Option, Some, None, option_map, List, [], ◌∷◌, ◌++◌, All, refl, sym, subst, inl, inr, arith}
use Rattle.std.specs.List.{find}
use Rattle.std.proofs.lemmas.Option.{same_Some}
use Rattle.std.proofs.lemmas.List.Elements.{All-nil, All-head, All-tail, All-append, All-weaker}
use Rattle.zk_base.specs.declared.ids.Who.{Who}
use Rattle.zk_base.specs.declared.ids.Entry.{Entry}
use Rattle.zk_base.specs.declared.waits.Decision.{Decision}
use Rattle.zk_base.specs.declared.waits.Waiter.{Waiter}
use Rattle.zk_base.specs.Legal.{state_after, AreInRange, IsLegal}
use Rattle.zk_base.specs.Waits.{Waits, is_decision, decisions_by}
use Rattle.zk_base.proofs.WaitTests.{IfDecided, All-decisions}
use Rattle.zk_base.proofs.WaitsHold.{All-without}
use Rattle.zk_event.specs.declared.event.Wanted.{Wanted}
use Rattle.zk_event.specs.declared.event.EventOp.{EventOp}
use Rattle.zk_event.specs.declared.event.EventOp.TheVariants as ops
use Rattle.zk_event.specs.declared.event.EventReply.{EventReply}
use Rattle.zk_event.specs.declared.event.EventReply.TheVariants as replies
use Rattle.zk_event.specs.Event.{Event, new_event, shared, holds, told, found, wait_reply, wait_at, event_reply, event_next, event_in_range, event_machine}
use Rattle.zk_event.specs.EventLaws.{EventHistory, event_after_all}
use Rattle.zk_event.proofs.Holding.{same, AllWait, next-wait}
use Rattle.zk_event.proofs.Holding as holding

-- a reply that is bits, some at least
pub record IsBits (reply : EventReply) : Type 0 where
  pub bits : ℕ
  pub says : reply ≡ replies.Bits bits
  pub some : 0 < bits

some-there : (n : ℕ) → eqb n 0 ≡ false → 0 < n
some-there zero is = absurd (cc)
some-there (suc n) is = omega arith

isnt-none : (b : Bool) → not b ≡ true → b ≡ false
isnt-none true is = absurd (cc)
isnt-none false is = refl

-- where what is waited for is there, some bits are shared
some-shared : (bits m : ℕ) (all : Bool) → eqb m 0 ≡ false → holds bits (record { mask = m; all = all }) ≡ true →
    0 < bit_and bits m
some-shared bits m true some is =
    let all : bit_and bits m ≡ m = same (bit_and bits m) m is in
    subst (λ (n : ℕ). 0 < n) (sym all) (some-there m some)
some-shared bits m false some is = some-there (bit_and bits m) (isnt-none (eqb (bit_and bits m) 0) is)

told-bits : (bits : ℕ) (wanted : Wanted) (reply : EventReply) → eqb wanted.mask 0 ≡ false → told bits wanted ≡ Some reply →
    IsBits reply
told-bits bits wanted reply some is = by (holds bits wanted) refl is where
  by : (b : Bool) → holds bits wanted ≡ b → cond b (Some (replies.Bits (shared bits wanted))) None ≡ Some reply → IsBits reply
  by true there said = record {
    bits = shared bits wanted;
    says = sym (same_Some (replies.Bits (shared bits wanted)) reply said);
    some = some-shared bits wanted.mask wanted.all some there;
  }
  by false there said = absurd (cc)

-- one who asks and may wait is told bits, or that it waits
pub asked-told : (bits : ℕ) (wanted : Wanted) (reply : EventReply) → eqb wanted.mask 0 ≡ false →
    wait_reply (told bits wanted) true ≡ reply → (reply ≡ replies.Wait) ⊎ IsBits reply
asked-told bits wanted reply some is = by (told bits wanted) refl is where
  by : (answer : Option EventReply) → told bits wanted ≡ answer → wait_reply answer true ≡ reply →
      (reply ≡ replies.Wait) ⊎ IsBits reply
  by None told said = inl (sym said)
  by (Some answer) told said = inr (subst IsBits said (told-bits bits wanted answer some told))

-- each decision is bits
abbrev HasBits : Decision EventReply → Type 0
HasBits d = IsBits d.answer

abbrev AllBits : Event → Type 0
AllBits s = All HasBits s.waits.decided

bits-decided : (s : Event) (bits : ℕ) → AllWait s → AllBits s → All HasBits (s.waits.decided ++ decisions_by (told bits) s.waits.waiting)
bits-decided s bits wait all =
    All-append HasBits s.waits.decided (decisions_by (told bits) s.waits.waiting) all
    (All-decisions (told bits) HasBits s.waits.waiting
    (All-weaker (holding.Waits s.bits) (IfDecided (told bits) HasBits)
    (λ w both answer is. told-bits bits w.payload answer both.1 is) s.waits.waiting wait))

bits-asked : (ws : Waits Wanted EventReply) (w : Waiter Wanted) (answer : Option EventReply) (waits : Bool) →
    All HasBits ws.decided → All HasBits (wait_at answer waits ws w).decided
bits-asked ws w None true all = all
bits-asked ws w None false all = all
bits-asked ws w (Some reply) waits all = all

next-bits : (s : Event) (who : Who) (op : EventOp) → AllWait s → AllBits s → AllBits (event_next s who op)
next-bits s who (ops.Post bits) wait all = bits-decided s (bit_or s.bits bits) wait all
next-bits s who (ops.Set bits) wait all = bits-decided s bits wait all
next-bits s who (ops.Clear bits) wait all = all
next-bits s who (ops.Wait mask all reset waits) wait each =
    let wanted : Wanted = record { mask = mask; all = all } in
    bits-asked s.waits (record { place = s.entries; who = who; payload = wanted }) (told (found reset s.bits) wanted) waits each
next-bits s who (ops.WaitEnd place) wait all = All-without HasBits (is_decision who.number place) s.waits.decided all
next-bits s who (ops.WaitQuit place) wait all = All-without HasBits (is_decision who.number place) s.waits.decided all

all-bits : (s : Event) (h : EventHistory) → AreInRange event_machine new_event h → AllWait s → AllBits s →
    AllBits (state_after event_machine s h)
all-bits s [] range wait all = all
all-bits s (e ∷ es) range wait all =
    let P : Entry EventOp EventReply → Type 0 = λ e. event_in_range new_event e.op ≡ true in
    all-bits (event_next s e.who e.op) es (All-tail P e es range) (next-wait s e.who e.op (All-head P e es range) wait)
    (next-bits s e.who e.op wait all)

found-bits : (player place : ℕ) (ds : List (Decision EventReply)) (reply : EventReply) → All HasBits ds →
    option_map (λ d. d.answer) (find (is_decision player place) ds) ≡ Some reply → IsBits reply
found-bits player place [] reply all is = absurd (cc)
found-bits player place (d ∷ ds) reply all is =
    by (is_decision player place d) (found-bits player place ds reply (All-tail HasBits d ds all)) is where
      by : (b : Bool) → (option_map (λ (d : Decision EventReply). d.answer) (find (is_decision player place) ds) ≡ Some reply → IsBits reply) →
          option_map (λ (d : Decision EventReply). d.answer) (cond b (Some d) (find (is_decision player place) ds)) ≡ Some reply →
          IsBits reply
      by true rest said = subst IsBits (same_Some d.answer reply said) (All-head HasBits d ds all)
      by false rest said = rest said

-- the end of a wait answers bits
pub ended-bits : (h : EventHistory) (who : Who) (place : ℕ) (reply : EventReply) → IsLegal event_machine new_event h →
    event_reply (event_after_all h) who (ops.WaitEnd place) ≡ Some reply → IsBits reply
ended-bits h who place reply legal is =
    found-bits who.number place (event_after_all h).waits.decided reply
    (all-bits new_event h legal.2 (All-nil (holding.Waits 0)) (All-nil HasBits)) is
