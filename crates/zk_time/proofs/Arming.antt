-- An item is armed.
use Rattle.std.proofs.Common.{◌≡◌, ℕ, zero, suc, ◌+◌, ◌-◌, ◌<◌, ◌≤◌, ◌^◌, false, List, [], ◌∷◌, ◌++◌, length, reverse, take, drop, get_or, All, refl, sym, ap, subst, ◌∙◌, ◌⊎◌, inl, inr, arith}
use Rattle.std.specs.List.{insert}
use Rattle.std.proofs.lemmas.List.{append_assoc, reverse-append}
use Rattle.std.proofs.lemmas.List.Elements.{All-weaker}
use Rattle.zk_base.specs.Order.{put_by}
use Rattle.zk_base.proofs.Order.{put_by-between}
use Rattle.zk_time.specs.declared.arm.Arm.{Arm}
use Rattle.zk_time.specs.declared.deltas.Place.{Place}
use Rattle.zk_time.specs.declared.timeout.Timeout.{Timeout}
use Rattle.zk_time.specs.Timeouts.{Timeouts, is_armed, arm, IsOrdered}
use Rattle.zk_time.specs.Deltas.{span, timeouts_after, live_of, earlier, later, shorter, IsPlace, seen_of, IsKept}
use Rattle.zk_time.proofs.Arms.{span-cons, span-append, span-reverse, upto_span, timeouts-append, FirstAbove, timeouts-shorter, all_above, reverse-parts, live-parts, later_first}
use Rattle.zk_time.proofs.Room.{ordered}
use Rattle.zk_time.proofs.Orders.{IsOrdered-arm}

pub first_above : (arms : List Arm) (deadline : ℕ) (p : Place) → IsPlace arms deadline p → FirstAbove p.delta (later p.index arms)
first_above arms deadline p place = by p.index refl where
  d : Arm
  d = record { item = 0; queue = 0; delta = 0 }

  by : (index : ℕ) → p.index ≡ index → FirstAbove p.delta (later p.index arms)
  by zero at_end = subst (λ (i : ℕ). FirstAbove p.delta (later i arms)) (sym at_end) tt
  by (suc index) inside =
      let within = place.within in
      let inside_too : index < length arms = omega arith in
      let same : p.index - 1 ≡ index = omega arith in
      let next : p.delta < (get_or arms index d).delta =
      subst (λ (i : ℕ). p.delta < (get_or arms i d).delta) same (place.next d (omega arith)) in
      let one_more : index + 1 ≡ p.index = omega arith in
      subst (λ (i : ℕ). FirstAbove p.delta (later i arms)) one_more
      (subst (FirstAbove p.delta) (sym (later_first index arms d inside_too)) next)

insert-reversed : (arms : List Arm) (index : ℕ) (x : Arm) →
    reverse (insert arms index x) ≡ earlier index arms ++ x ∷ later index arms
insert-reversed arms index x =
    reverse-append (take index arms) (x ∷ drop index arms)
    ∙ ap (λ (l : List Arm). l ++ later index arms) (reverse-append (x ∷ []) (drop index arms))
    ∙ append_assoc (earlier index arms) (x ∷ []) (later index arms)

-- what is known where an item is armed: the arms before, those where the delta behind the place is less, and those after
pub record Arms (items : ℕ) (arms shortened after : List Arm) (t : Timeouts) (p : Place) (item queue deadline : ℕ) : Type 0 where
  pub view : seen_of items arms ≡ t
  pub kept : IsKept items arms
  pub place : IsPlace arms deadline p
  pub same : earlier p.index shortened ≡ earlier p.index arms
  pub less : later p.index shortened ≡ shorter p.delta (later p.index arms)
  pub put : after ≡ insert shortened p.index (record { item = item; queue = queue; delta = p.delta })
  pub inside : item < t.items
  pub free : is_armed t item ≡ false
  pub small : deadline < 2 ^ 64

arms_reversed : (items : ℕ) (arms shortened after : List Arm) (t : Timeouts) (p : Place) (item queue deadline : ℕ) →
    Arms items arms shortened after t p item queue deadline →
    reverse after ≡ earlier p.index arms ++ record { item = item; queue = queue; delta = p.delta } ∷ shorter p.delta
    (later p.index arms)
arms_reversed items arms shortened after t p item queue deadline a =
    let x : Arm = record { item = item; queue = queue; delta = p.delta } in
    ap reverse a.put ∙ insert-reversed shortened p.index x
    ∙ ap (λ (l : List Arm). l ++ x ∷ later p.index shortened) a.same ∙ ap (λ (l : List Arm). earlier p.index arms ++ x ∷ l) a.less

-- it is seen behind all whose deadline isn't later
pub arms_live : (items : ℕ) (arms shortened after : List Arm) (t : Timeouts) (p : Place) (item queue deadline : ℕ) →
    Arms items arms shortened after t p item queue deadline →
    live_of after ≡ put_by (λ a. a.deadline) (record { item = item; queue = queue; deadline = deadline }) (live_of arms)
arms_live items arms shortened after t p item queue deadline a =
    let front = earlier p.index arms in
    let back = later p.index arms in
    let x : Arm = record { item = item; queue = queue; delta = p.delta } in
    let y : Timeout = record { item = item; queue = queue; deadline = deadline } in
    let key : Timeout → ℕ = λ a. a.deadline in
    let above = first_above arms deadline p a.place in
    let passed : span front ≡ span (drop p.index arms) = span-reverse (drop p.index arms) in
    let delta = a.place.delta in
    let sum : span front + p.delta ≡ deadline = omega arith in
    let from_zero : 0 + span front ≡ span front = omega arith in
    let P : Timeout → Type 0 = λ t. t.deadline ≤ 0 + span front in
    let Q : Timeout → Type 0 = λ t. t.deadline ≤ deadline in
    let R : Timeout → Type 0 = λ t. deadline < t.deadline in
    let within = All-weaker P Q (λ t h. omega arith) (timeouts_after 0 front) (upto_span 0 front) in
    let past = subst (λ (n : ℕ). All (λ t. n < t.deadline) (timeouts_after (span front) back)) sum
    (all_above (span front) p.delta back above) in
    ap (timeouts_after 0) (arms_reversed items arms shortened after t p item queue deadline a)
    ∙ timeouts-append 0 front (x ∷ shorter p.delta back)
    ∙ ap (λ (n : ℕ). timeouts_after 0 front ++ timeouts_after n (x ∷ shorter p.delta back)) from_zero
    ∙ ap (λ (l : List Timeout). timeouts_after 0 front ++ record {
      item = item;
      queue = queue;
      deadline = span front + p.delta;
    } ∷ l) (timeouts-shorter (span front) p.delta back above)
    ∙ ap (λ (n : ℕ). let z : Timeout = record { item = item; queue = queue; deadline = n } in
    timeouts_after 0 front ++ z ∷ timeouts_after (span front) back) sum
    ∙ sym (put_by-between key y (timeouts_after 0 front) (timeouts_after (span front) back) within past)
    ∙ ap (put_by key y) (sym (live-parts p.index arms))

pub arms_next : (items : ℕ) (arms shortened after : List Arm) (t : Timeouts) (p : Place) (item queue deadline : ℕ) →
    Arms items arms shortened after t p item queue deadline →
    seen_of items after ≡ arm t item queue deadline
arms_next items arms shortened after t p item queue deadline a =
    ap (λ (l : List Timeout). let s : Timeouts = record { items = items; live = l } in
    s) (arms_live items arms shortened after t p item queue deadline a)
    ∙ ap (λ (t : Timeouts). arm t item queue deadline) a.view

pub arms_ordered : (items : ℕ) (arms shortened after : List Arm) (t : Timeouts) (p : Place) (item queue deadline : ℕ) →
    Arms items arms shortened after t p item queue deadline →
    IsOrdered (seen_of items after)
arms_ordered items arms shortened after t p item queue deadline a =
    subst IsOrdered (sym (arms_next items arms shortened after t p item queue deadline a))
    (IsOrdered-arm t item queue deadline (ordered items arms t a.view a.kept) a.inside a.free a.small)

-- all is kept
pub arms_kept : (items : ℕ) (arms shortened after : List Arm) (t : Timeouts) (p : Place) (item queue deadline : ℕ) →
    Arms items arms shortened after t p item queue deadline →
    IsKept items after
arms_kept items arms shortened after t p item queue deadline a =
    let o = arms_ordered items arms shortened after t p item queue deadline a in
    record { fits = fits; differ = o.differ; within = o.within } where
      x : Arm
      x = record { item = item; queue = queue; delta = p.delta }

      fewer : (by : ℕ) (back : List Arm) → FirstAbove by back → (back ≡ []) ⊎ (span (shorter by back) + by ≡ span back)
      fewer by [] above = inl refl
      fewer by (b ∷ back) above = inr (omega (arith, span-cons b back, span-cons (record b { delta = b.delta - by }) back))

      total : span after ≡ span (earlier p.index arms) + (p.delta + span (shorter p.delta (later p.index arms)))
      total =
          sym (span-reverse after) ∙ ap span (arms_reversed items arms shortened after t p item queue deadline a)
          ∙ span-append (earlier p.index arms) (x ∷ shorter p.delta (later p.index arms))
          ∙ ap (λ (n : ℕ). span (earlier p.index arms) + n) (span-cons x (shorter p.delta (later p.index arms)))

      whole : span arms ≡ span (earlier p.index arms) + span (later p.index arms)
      whole = sym (span-reverse arms) ∙ ap span (reverse-parts p.index arms)
          ∙ span-append (earlier p.index arms) (later p.index arms)

      fits : span after < 2 ^ 64
      fits = by (fewer p.delta (later p.index arms) (first_above arms deadline p a.place)) where
        by : ((later p.index arms ≡ [])
            ⊎ (span (shorter p.delta (later p.index arms)) + p.delta ≡ span (later p.index arms))) → span after < 2 ^ 64
        by (inl last) =
            let none : span (shorter p.delta (later p.index arms)) ≡ 0 = ap (λ (l : List Arm). span (shorter p.delta l)) last in
            let passed : span (earlier p.index arms) ≡ span (drop p.index arms) = span-reverse (drop p.index arms) in
            omega (arith, total, a.place.delta, a.small)
        by (inr rest) = omega (arith, total, whole, a.kept.fits)
