-- Inner: no contract of a top call is made of this file.
-- The events of a poll are kept in place, with others behind them that ask for nothing.
use Rattle.std.proofs.Common.{◌≡◌, ℕ, ◌+◌, ◌-◌, ◌≤◌, true, nat_le, length-append, List, ◌++◌, length, take, drop, replicate, sym, ap, ◌∙◌, subst, arith}
use Rattle.std.proofs.lemmas.List.{length-take-le, take-append-drop, drop-replicate, length-replicate}
use Rattle.std.proofs.lemmas.Bool.{and_parts, leb-true}
use Rattle.std.proofs.Math.Seq.{drop-append_seam, take-append_seam}
use Rattle.zk_line.specs.declared.events.TheConstants.{MOST_EVENTS}
use Rattle.zk_line.specs.declared.events.Event.{Event}
use Rattle.zk_line.specs.declared.events.Event.TheVariants.{Ignore}
use Rattle.zk_line.specs.Few.{is_few, filled, IsFilled}

-- the length of what is kept
pub length-filled : (events : List Event) (len : ℕ) → IsFilled events len → length (take len events) ≡ len
length-filled events len held =
    let long = held.long in
    let within = held.within in
    length-take-le len events (omega arith)

-- filling gives the events back
pub filled-take : (events : List Event) (len : ℕ) → IsFilled events len → filled (take len events) ≡ events
filled-take events len held =
    ap (λ n. take len events ++ replicate (MOST_EVENTS - n) Ignore) (length-filled events len held)
    ∙ ap (λ z. take len events ++ z) (sym held.idle) ∙ take-append-drop len events

-- the events of a poll aren't more than it may have
pub length-few : (events : List Event) → is_few events ≡ true → length events ≤ MOST_EVENTS
length-few events few = leb-true (length events) MOST_EVENTS (and_parts (nat_le 1 (length events)) (nat_le (length events) MOST_EVENTS) few).1

-- few events written over the front of those that ask for nothing are filled
pub IsFilled-made : (events idle front : List Event) → is_few events ≡ true → idle ≡ replicate MOST_EVENTS Ignore →
    front ≡ events → IsFilled (front ++ drop (length events) idle) (length events)
IsFilled-made events idle front few are same =
    let within = length-few events few in
    let rest : drop (length events) idle ≡ replicate (MOST_EVENTS - length events) Ignore =
    ap (λ (z : List Event). drop (length events) z) are ∙ drop-replicate (length events) MOST_EVENTS Ignore in
    let sized = length-append events (drop (length events) idle) in
    let long = ap length rest ∙ length-replicate (MOST_EVENTS - length events) Ignore in
    let P : List Event → Type 0 = λ f. IsFilled (f ++ drop (length events) idle) (length events) in
    subst P (sym same)
    (record {
      long = sized ∙ ap (λ n. length events + n) long ∙ whole (length events) within;
      within = within;
      idle = drop-append_seam events (drop (length events) idle) ∙ rest;
      few = ap is_few (take-append_seam events (drop (length events) idle)) ∙ few;
    }) where
      whole : (n : ℕ) → n ≤ MOST_EVENTS → n + (MOST_EVENTS - n) ≡ MOST_EVENTS
      whole n w = omega arith
