-- What is drawn one after another, and a round over the lanes: lines more are drawn, or each lane passed is held.
use Rattle.std.proofs.Common.{◌≡◌, inl, inr, ℕ, ◌+◌, ◌-◌, ◌<◌, ◌≤◌, Bool, true, false, ◌||◌, length, refl, sym, ap, subst, ◌∙◌, arith}
use Rattle.std.specs.Bool.{MatchBool, OnFalse}
use Rattle.std.proofs.lemmas.Bool.{cases_eq}
use Rattle.zk_show_order.specs.declared.drawing.Drawing.{Drawing}
use Rattle.zk_show_order.specs.Drawing.{IsHeldIn, IsDrawing, IsStuck, GoesOn}
use Rattle.zk_show_order.proofs.Drawn.{drawn-length}

-- nothing is drawn yet
pub goes-none : (d : Drawing) → IsDrawing d → GoesOn d d false
goes-none d standing = record { standing = standing; lines = refl; lanes = refl; more = refl }

-- one thing after another
pub goes-then : (first second : Bool) (start now next : Drawing) → GoesOn start now first → GoesOn now next second →
    GoesOn start next (first || second)
goes-then first second start now next one two = record {
  standing = two.standing;
  lines = two.lines ∙ one.lines;
  lanes = two.lanes ∙ one.lanes;
  more = both first second one.more two.more;
} where
  both : (first second : Bool) →
      MatchBool first (length start.order.items < length now.order.items) (now ≡ start) →
      MatchBool second (length now.order.items < length next.order.items) (next ≡ now) →
      MatchBool (first || second) (length start.order.items < length next.order.items) (next ≡ start)
  both true true more again = omega arith
  both true false more same = let long = ap (λ (d : Drawing). length d.order.items) same in omega arith
  both false true same more = let long = ap (λ (d : Drawing). length d.order.items) same in omega arith
  both false false same again = again ∙ same

-- a lane that was held is so where nothing more was drawn
pub held-then : (first second : Bool) (start now next : Drawing) (player : ℕ) →
    OnFalse first ((q : ℕ) → q < player → IsHeldIn now q) → GoesOn now next second → OnFalse second (IsHeldIn next player) →
    OnFalse (first || second) ((q : ℕ) → q < player + 1 → IsHeldIn next q)
held-then true second start now next player held goes one = tt
held-then false true start now next player held goes one = tt
held-then false false start now next player held goes one = λ q below. elim (cases_eq q player) [
  | inl same ↦ subst (IsHeldIn next) (sym same) one
  | inr other ↦ subst (λ (d : Drawing). IsHeldIn d q) (sym goes.more) (held q (omega arith))
]

-- and so all that were
pub held-still : (first second : Bool) (now next : Drawing) (player : ℕ) →
    OnFalse first ((q : ℕ) → q < player → IsHeldIn now q) → GoesOn now next second →
    OnFalse (first || second) ((q : ℕ) → q < player → IsHeldIn next q)
held-still true second now next player held goes = tt
held-still false true now next player held goes = tt
held-still false false now next player held goes =
    λ q below. subst (λ (d : Drawing). IsHeldIn d q) (sym goes.more) (held q below)

-- at the end of a round
pub held-all : (any : Bool) (now : Drawing) (player : ℕ) → length now.lanes.items ≤ player →
    OnFalse any ((q : ℕ) → q < player → IsHeldIn now q) → OnFalse any (IsStuck now)
held-all true now player past held = tt
held-all false now player past held = λ q below. held q (omega arith)

-- where lines were drawn fewer are left
pub fewer-left : (now next : Drawing) (drawn : Bool) → GoesOn now next drawn → drawn ≡ true →
    length next.lines.now - length next.order.items < length now.lines.now - length now.order.items
fewer-left now next true goes is =
    let all = drawn-length next.lines.now next.lanes.items next.entries.items next.order.items goes.standing in
    let more = goes.more in
    let same = ap length goes.lines in
    omega arith
fewer-left now next false goes is = absurd (cc)
