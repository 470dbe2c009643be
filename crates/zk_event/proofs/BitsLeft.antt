-- Each bit is as the last entry left it that touched it.
use Rattle.std.proofs.Common.{◌≡◌, ℕ, zero, suc, ◌-◌, ◌<◌, ◌≤◌, min, max, true, false, cond, eqb, ltb, w16, [], ◌∷◌, All, refl, ap, ◌∙◌, arith}
use Rattle.std.specs.Int.{bit_at}
use Rattle.std.proofs.lemmas.Bool.Decides.{nat_tests}
use Rattle.std.proofs.lemmas.List.Elements.{All-head, All-tail}
use Rattle.std.proofs.lemmas.Nat.Bits.{bit_at_and, bit_at_or, bit_at-zero, bit_at_not}
use Rattle.zk_base.specs.declared.ids.Who.{Who}
use Rattle.zk_base.specs.declared.ids.Entry.{Entry}
use Rattle.zk_base.specs.Legal.{state_after}
use Rattle.zk_event.specs.declared.event.EventOp.{EventOp}
use Rattle.zk_event.specs.declared.event.EventOp.TheVariants as ops
use Rattle.zk_event.specs.declared.event.EventReply.{EventReply}
use Rattle.zk_event.specs.Event.{Event, new_event, event_next, event_machine}
use Rattle.zk_event.specs.EventLaws.{EventHistory, OfEachEvent, leaves, left_of, is_word, EachBitAsLastLeft}

one-most : (n i : ℕ) → bit_at n i ≤ 1
one-most n i = omega arith

or-left : (x y : ℕ) → x ≤ 1 → y ≤ 1 → max x y ≡ cond (eqb y 1) 1 x
or-left x zero low small = omega arith
or-left zero (suc zero) low small = refl
or-left (suc zero) (suc zero) low small = refl
or-left (suc (suc x)) (suc zero) low small = absurd (omega arith)
or-left x (suc (suc y)) low small = absurd (omega arith)

and-left : (x y : ℕ) → x ≤ 1 → y ≤ 1 → min x (1 - y) ≡ cond (eqb y 1) 0 x
and-left x (suc zero) low small = omega arith
and-left zero zero low small = refl
and-left (suc zero) zero low small = refl
and-left (suc (suc x)) zero low small = absurd (omega arith)
and-left x (suc (suc y)) low small = absurd (omega arith)

below : (n : ℕ) → ltb n 65536 ≡ true → n < 65536
below n is = grind (arith, nat_tests)

next-left : (s : Event) (who : Who) (op : EventOp) (bit : ℕ) → bit < 16 → is_word op ≡ true →
    bit_at (event_next s who op).bits bit ≡ leaves bit (bit_at s.bits bit) op
next-left s who (ops.Post bits) bit within word =
    bit_at_or s.bits bits bit ∙ or-left (bit_at s.bits bit) (bit_at bits bit) (one-most s.bits bit) (one-most bits bit)
next-left s who (ops.Set bits) bit within word = refl
next-left s who (ops.Clear bits) bit within word =
    bit_at_and s.bits (65535 - bits) bit
    ∙ ap (min (bit_at s.bits bit)) (bit_at_not w16 bits bit (below bits word) within)
    ∙ and-left (bit_at s.bits bit) (bit_at bits bit) (one-most s.bits bit) (one-most bits bit)
next-left s who (ops.Wait mask all true waits) bit within word = bit_at-zero bit
next-left s who (ops.Wait mask all false waits) bit within word = refl
next-left s who (ops.WaitEnd place) bit within word = refl
next-left s who (ops.WaitQuit place) bit within word = refl

all-left : (s : Event) (h : EventHistory) (bit : ℕ) → bit < 16 → All (λ (e : Entry EventOp EventReply). is_word e.op ≡ true) h →
    bit_at (state_after event_machine s h).bits bit ≡ left_of bit (bit_at s.bits bit) h
all-left s [] bit within words = refl
all-left s (e ∷ es) bit within words =
    let P : Entry EventOp EventReply → Type 0 = λ e. is_word e.op ≡ true in
    all-left (event_next s e.who e.op) es bit within (All-tail P e es words)
    ∙ ap (λ (was : ℕ). left_of bit was es) (next-left s e.who e.op bit within (All-head P e es words))

pub each_bit_as_last_left : OfEachEvent EachBitAsLastLeft
each_bit_as_last_left h legal words bit within =
    all-left new_event h bit within words ∙ ap (λ (was : ℕ). left_of bit was h) (bit_at-zero bit)
