-- What the taker's pass knows at the end.
use Rattle.std.proofs.Common.{◌≡◌, ℕ, ◌<◌, All, Contains, List, [], ◌∷◌, ◌++◌, length, Option, Some, Ok, Err, Result, Vec, IfOk, refl, sym, ap, subst, ◌∙◌, arith}
use Rattle.std.proofs.lemmas.List.{append-nil, append_assoc}
use Rattle.std.proofs.lemmas.List.Elements.{All-contains, All-pop, All-weaker, Contains-append_left, Contains-append_right}
use Rattle.crossbeam_queue.specs.declared.array_queue.Doing.{Doing}
use Rattle.crossbeam_queue.specs.declared.array_queue.Slotted.{Slotted}
use Rattle.crossbeam_queue.specs.Passes.{Pass, IsSamePass, IsPassOf}
use Rattle.zk_base.specs.declared.errors.NoMemory.{NoMemory}
use Rattle.zk_msgsub.specs.declared.note.Note.{Note}
use Rattle.zk_msgsub.specs.declared.seats.PubSeat.{PubSeat}
use Rattle.zk_msgsub.specs.declared.views.Pushed.{Pushed}
use Rattle.zk_msgsub.specs.declared.views.View.{View}
use Rattle.zk_msgsub.specs.Notes.{part, numbered}
use Rattle.zk_msgsub.specs.Seats.{seat_publisher, seat_sent}
use Rattle.zk_msgsub.specs.Steps.{HasParts}
use Rattle.zk_msgsub.specs.Views.{pushed_by, having_taken, joined, taking}

-- a pass of a queue stays one of it
pub stays-pass : {T V Q A : Type 0} (q : Slotted (Option T) (Doing T V) Q A) (old new : Pass T V) → IsPassOf q old →
    IsSamePass old new → IsPassOf q new
stays-pass q old new own same = (same.0 ∙ own.0, same.2 ∙ own.1)

none-left : (items : List Note) → length items ≡ 0 → items ≡ []
none-left [] none = refl
none-left (x ∷ xs) none = absurd (omega arith)

-- where the queue is empty, what was taken since is what was left
pub drained : (v w : View) (left items : List Note) → w ≡ having_taken v (v.taken ++ left) → HasParts w items → length items
    ≡ 0 → HasParts v left
drained v w left items is has none =
    let whole : w.taken ++ items ≡ v.taken ++ left =
    ap (λ l. w.taken ++ l) (none-left items none) ∙ append-nil w.taken ∙ ap (λ (u : View). u.taken) is in
    record {
      parts = subst (All (λ l. part l.publisher (v.taken ++ left) ≡ numbered l.publisher l.messages))
          (ap (λ (u : View). u.lists) is)
          (All-weaker (λ l. part l.publisher (w.taken ++ items) ≡ numbered l.publisher l.messages)
          (λ l. part l.publisher (v.taken ++ left) ≡ numbered l.publisher l.messages)
          (λ l e. ap (part l.publisher) (sym whole) ∙ e) w.lists has.parts);
      known = subst (λ (n : ℕ). All (λ (x : Note). x.publisher < n) (v.taken ++ left)) (ap (λ (u : View). u.publishers) is)
          (subst (All (λ (x : Note). x.publisher < w.publishers)) whole has.known);
    }

pub taken-more : (v w w' : View) (left : List Note) (x : Note) → w ≡ having_taken v (v.taken ++ left) → w' ≡ taking w x →
    w' ≡ having_taken v (v.taken ++ (left ++ x ∷ []))
taken-more v w w' left x is is' =
    is' ∙ ap (λ (u : View). taking u x) is ∙ ap (λ l. having_taken v l) (append_assoc v.taken left (x ∷ []))

-- the lists after one more is taken in
module _ (v u w : View) (is : w ≡ joined v u) where
  pub still-there : (s : PubSeat) → Contains v.lists (pushed_by (seat_publisher s) (seat_sent s)) →
      Contains w.lists (pushed_by (seat_publisher s) (seat_sent s))
  still-there s there = subst (λ (ls : List Pushed). Contains ls (pushed_by (seat_publisher s) (seat_sent s)))
      (sym (ap (λ (x : View). x.lists) is))
      (Contains-append_left v.lists u.lists (pushed_by (seat_publisher s) (seat_sent s)) there)

  pub now-there : (l : Pushed) → u.lists ≡ l ∷ [] → Contains w.lists l
  now-there l one = subst (λ (ls : List Pushed). Contains ls l) (sym (ap (λ (x : View). x.lists) is))
      (Contains-append_right v.lists u.lists l (subst (λ (ls : List Pushed). Contains ls l) (sym one) (0, omega arith, refl)))

-- the parts of all seats
pub all-parts : (v : View) (left : List Note) (seats : List PubSeat) (taken : List Note) → HasParts v left →
    All (λ s. Contains v.lists (pushed_by (seat_publisher s) (seat_sent s))) seats → v.taken ≡ taken →
    All (λ s. part (seat_publisher s) (taken ++ left) ≡ numbered (seat_publisher s) (seat_sent s)) seats
all-parts v left seats taken has lists is = All-weaker (λ s. Contains v.lists (pushed_by (seat_publisher s) (seat_sent s)))
    (λ s. part (seat_publisher s) (taken ++ left) ≡ numbered (seat_publisher s) (seat_sent s))
    (λ s there. ap (λ l. part (seat_publisher s) (l ++ left)) (sym is)
    ∙ All-contains (λ l. part l.publisher (v.taken ++ left) ≡ numbered l.publisher l.messages) v.lists
    (pushed_by (seat_publisher s) (seat_sent s)) has.parts there)
    seats lists

-- .. where there was memory
pub closes : {Z : Type 0} (v : View) (seats : List PubSeat) (taken : List Note) (r : Result (Vec Note Z) NoMemory) →
    All (λ s. Contains v.lists (pushed_by (seat_publisher s) (seat_sent s))) seats → v.taken ≡ taken →
    IfOk r (λ left. HasParts v left.items) →
    IfOk r (λ left. All (λ s. part (seat_publisher s) (taken ++ left.items) ≡ numbered (seat_publisher s) (seat_sent s)) seats)
closes v seats taken (Ok left) lists is has = all-parts v left.items seats taken has lists is
closes v seats taken (Err e) lists is has = has

-- the last of a list, and the others
pub All-last : {A : Type 0} (P : A → Type 0) (xs ys : List A) (x : A) → xs ≡ ys ++ x ∷ [] → All P xs → All P ys × P x
All-last P xs ys x is all = All-pop P xs ys (Some x) is all

pub no-seat : (seats : List PubSeat) → length seats ≡ 0 → seats ≡ []
no-seat [] none = refl
no-seat (s ∷ seats) none = absurd (omega arith)
