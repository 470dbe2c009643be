-- The table that tells in which queue's line each item stands.
use Rattle.std.proofs.Common.{◌≡◌, ◌≢◌, ℕ, zero, suc, ◌<◌, ◌≤◌, Bool, true, false, eqb, leb, ◌==◌, Option, Some, None, is_some, List, [], ◌∷◌, ◌++◌, length, map, get_or, set, All, refl, sym, ap, subst, ◌∙◌, ◌⊎◌, inl, inr, eq-eqb, arith}
use Rattle.std.specs.Option.{option_map_or, option_or}
use Rattle.std.proofs.lemmas.Bool.Decides.{nat_tests, eqb_tells, leb_tells}
use Rattle.std.proofs.lemmas.List.{get_or-set_same, get_or-set_other, get_or_past, length-set, length_push}
use Rattle.std.proofs.lemmas.List.Elements.{All-nil, All-cons}
use Rattle.zk_model_work.specs.Questions.{weight}
use Rattle.zk_queue.specs.declared.ticket.Ticket.{Ticket}
use Rattle.zk_queue.specs.Line.{without, number_in, number_among}
use Rattle.zk_queue.specs.Places.{count, Tells}
use Rattle.zk_queue.proofs.Lines.{without_none, number_none, number_some, count-push, count-without, count-without_other, length_fits}

-- the line of a queue
abbrev pub at_queue : List (List Ticket) → ℕ → List Ticket
at_queue lines queue = get_or lines queue []

-- where the item stands by the table
abbrev pub at_item : List (Option ℕ) → ℕ → Option ℕ
at_item homes item = get_or homes item None

abbrev Same : ℕ → ℕ → Type 0
Same a b = ((eqb a b ≡ true) × (a ≡ b)) ⊎ ((eqb a b ≡ false) × (a ≢ b))

-- an item of no line
pub among_none : (item : ℕ) (lines : List (List Ticket)) → ((queue : ℕ) → count item (at_queue lines queue) ≡ 0) →
    (number_among item lines ≡ None) × (map (without item) lines ≡ lines)
among_none item [] none = (refl, refl)
among_none item (line ∷ lines) none =
    let here = none 0 in
    let rest = among_none item lines (λ queue. none (suc queue)) in (
      ap (λ (n : Option ℕ). option_or n (number_among item lines)) (number_none item line here) ∙ rest.0,
      ap (λ (l : List Ticket). l ∷ map (without item) lines) (without_none item line here)
          ∙ ap (λ (ls : List (List Ticket)). line ∷ ls) rest.1,
    )

option_or_none : (n : Option ℕ) → option_or n None ≡ n
option_or_none None = refl
option_or_none (Some n) = refl

-- an item of one line alone
pub among_one : (item queue : ℕ) (lines : List (List Ticket)) → queue < length lines →
    ((other : ℕ) → other ≢ queue → count item (at_queue lines other) ≡ 0) →
    (number_among item lines ≡ number_in item (at_queue lines queue))
    × (map (without item) lines ≡ set lines queue (without item (at_queue lines queue)))
among_one item queue [] within others = absurd (omega arith)
among_one item zero (line ∷ lines) within others =
    let rest = among_none item lines (λ other. others (suc other) (λ same. omega arith)) in (
      ap (option_or (number_in item line)) rest.0 ∙ option_or_none (number_in item line),
      ap (λ (ls : List (List Ticket)). without item line ∷ ls) rest.1,
    )
among_one item (suc queue) (line ∷ lines) within others =
    let here = others 0 (λ same. omega arith) in
    let rest = among_one item queue lines (omega arith) (λ other differ. others (suc other) (λ same. differ (omega arith))) in (
      ap (λ (n : Option ℕ). option_or n (number_among item lines)) (number_none item line here) ∙ rest.0,
      ap (λ (l : List Ticket). l ∷ map (without item) lines) (without_none item line here)
          ∙ ap (λ (ls : List (List Ticket)). line ∷ ls) rest.1,
    )

-- how many tickets the table says that there are
abbrev pub told : Option ℕ → ℕ → ℕ
told place queue = weight 1 (option_map_or (λ q. q == queue) place false)

told-here : (queue : ℕ) → told (Some queue) queue ≡ 1
told-here queue = ap (weight 1) (eq-eqb queue queue refl)

told-other : (queue other : ℕ) → other ≢ queue → told (Some queue) other ≡ 0
told-other queue other differ = grind (arith, nat_tests)

-- where the table says that an item doesn't wait, it doesn't
pub tells_none : (homes : List (Option ℕ)) (lines : List (List Ticket)) (item : ℕ) → Tells homes lines →
    at_item homes item ≡ None →
    (number_among item lines ≡ None) × (map (without item) lines ≡ lines)
tells_none homes lines item tells none = among_none item lines (λ queue. tells item queue
    ∙ ap (λ (p : Option ℕ). told p queue) none)

-- where it says that it waits, it does so there
pub tells_within : (homes : List (Option ℕ)) (lines : List (List Ticket)) (item queue : ℕ) → Tells homes lines →
    at_item homes item ≡ Some queue → queue < length lines
tells_within homes lines item queue tells some = within (leb_tells (length lines) queue) where
  within : ((leb (length lines) queue ≡ true) × (length lines ≤ queue))
      ⊎ ((leb (length lines) queue ≡ false) × (queue < length lines)) → queue < length lines
  within (inl past) =
      let none : count item (at_queue lines queue) ≡ 0 = ap (count item) (get_or_past lines queue [] past.1) in
      let one = tells item queue ∙ ap (λ (p : Option ℕ). told p queue) some ∙ told-here queue in
      absurd (omega arith)
  within (inr inside) = inside.1

pub tells_one : (homes : List (Option ℕ)) (lines : List (List Ticket)) (item queue : ℕ) → Tells homes lines →
    at_item homes item ≡ Some queue →
    (number_among item lines ≡ number_in item (at_queue lines queue))
    × (map (without item) lines ≡ set lines queue (without item (at_queue lines queue)))
tells_one homes lines item queue tells some =
    among_one item queue lines (tells_within homes lines item queue tells some)
    (λ other differ. tells item other ∙ ap (λ (p : Option ℕ). told p other) some ∙ told-other queue other differ)

-- the table says whether an item waits
pub tells_some : (homes : List (Option ℕ)) (lines : List (List Ticket)) (item : ℕ) → Tells homes lines →
    is_some (at_item homes item) ≡ is_some (number_among item lines)
tells_some homes lines item tells = by (at_item homes item) refl where
  by : (place : Option ℕ) → at_item homes item ≡ place → is_some place ≡ is_some (number_among item lines)
  by None is = sym (ap is_some (tells_none homes lines item tells is).0)
  by (Some queue) is =
      let one = tells item queue ∙ ap (λ (p : Option ℕ). told p queue) is ∙ told-here queue in
      sym (ap is_some (tells_one homes lines item queue tells is).0 ∙ number_some item (at_queue lines queue) (omega arith))

-- one item has another place, and one line other tickets of it
Tells-set : (homes : List (Option ℕ)) (lines : List (List Ticket)) (item queue : ℕ) (place : Option ℕ)
    (line : List Ticket) → Tells homes lines → item < length homes → queue < length lines →
    count item line ≡ told place queue → ((q : ℕ) → q ≢ queue → told place q ≡ 0) →
    ((q : ℕ) → q ≢ queue → told (at_item homes item) q ≡ 0) →
    ((i : ℕ) → i ≢ item → count i line ≡ count i (at_queue lines queue)) → Tells (set homes item place) (set lines queue line)
Tells-set homes lines item queue place line tells item_in queue_in here new_elsewhere old_elsewhere others =
    λ (i q : ℕ). by i q (eqb_tells i item) (eqb_tells q queue) where
      count_here : (i : ℕ) → count i (at_queue (set lines queue line) queue) ≡ count i line
      count_here i = ap (count i) (get_or-set_same lines queue line [] queue_in)

      count_there : (i q : ℕ) → q ≢ queue → count i (at_queue (set lines queue line) q) ≡ count i (at_queue lines q)
      count_there i q other = ap (count i) (get_or-set_other lines queue q line [] other)

      told_here : (q : ℕ) → told (at_item (set homes item place) item) q ≡ told place q
      told_here q = ap (λ (p : Option ℕ). told p q) (get_or-set_same homes item place None item_in)

      told_there : (i q : ℕ) → i ≢ item → told (at_item (set homes item place) i) q ≡ told (at_item homes i) q
      told_there i q other = ap (λ (p : Option ℕ). told p q) (get_or-set_other homes item i place None other)

      by : (i q : ℕ) → Same i item → Same q queue →
          count i (at_queue (set lines queue line) q) ≡ told (at_item (set homes item place) i) q
      by i q (inl same_item) (inl same_queue) =
          subst (λ (i : ℕ). count i (at_queue (set lines queue line) q) ≡ told (at_item (set homes item place) i) q)
          (sym same_item.1)
          (subst (λ (q : ℕ). count item (at_queue (set lines queue line) q) ≡ told (at_item (set homes item place) item)
          q) (sym same_queue.1)
          (count_here item ∙ here ∙ sym (told_here queue)))
      by i q (inl same_item) (inr other_queue) =
          subst (λ (i : ℕ). count i (at_queue (set lines queue line) q) ≡ told (at_item (set homes item place) i) q)
          (sym same_item.1)
          (count_there item q other_queue.1 ∙ tells item q ∙ old_elsewhere q other_queue.1
          ∙ sym (told_here q ∙ new_elsewhere q other_queue.1))
      by i q (inr other_item) (inl same_queue) =
          subst (λ (q : ℕ). count i (at_queue (set lines queue line) q) ≡ told (at_item (set homes item place) i) q)
          (sym same_queue.1)
          (count_here i ∙ others i other_item.1 ∙ tells i queue ∙ sym (told_there i queue other_item.1))
      by i q (inr other_item) (inr other_queue) = count_there i q other_queue.1 ∙ tells i q ∙ sym (told_there i q other_item.1)

-- an item that didn't wait is admitted
pub Tells-admit : (homes : List (Option ℕ)) (lines : List (List Ticket)) (item queue : ℕ) (t : Ticket) →
    Tells homes lines → item < length homes → queue < length lines →
    at_item homes item ≡ None → t.item ≡ item →
    Tells (set homes item (Some queue)) (set lines queue (at_queue lines queue ++ t ∷ []))
Tells-admit homes lines item queue t tells item_in queue_in free is_item =
    Tells-set homes lines item queue (Some queue) (at_queue lines queue ++ t ∷ []) tells item_in queue_in
    (let none = tells item queue ∙ ap (λ (p : Option ℕ). told p queue) free in
    let one : weight 1 (eqb t.item item) ≡ 1 = ap (weight 1) (eq-eqb t.item item is_item) in
    let some = told-here queue in
    omega (arith, count-push item (at_queue lines queue) t))
    (told-other queue)
    (λ (q : ℕ) other. ap (λ (p : Option ℕ). told p q) free)
    (λ (i : ℕ) other. let none = other_item i other in omega (arith, count-push i (at_queue lines queue) t)) where
      other_item : (i : ℕ) → i ≢ item → weight 1 (eqb t.item i) ≡ 0
      other_item i other = grind (arith, nat_tests)

-- an item that waited is dropped
pub Tells-drop : (homes : List (Option ℕ)) (lines : List (List Ticket)) (item queue : ℕ) → Tells homes lines →
    item < length homes → queue < length lines →
    at_item homes item ≡ Some queue → Tells (set homes item None) (set lines queue (without item (at_queue lines queue)))
Tells-drop homes lines item queue tells item_in queue_in some =
    Tells-set homes lines item queue None (without item (at_queue lines queue)) tells item_in queue_in
    (let one = tells item queue ∙ ap (λ (p : Option ℕ). told p queue) some ∙ told-here queue in
    omega (arith, count-without item (at_queue lines queue)))
    (λ (q : ℕ) other. refl)
    (λ (q : ℕ) other. ap (λ (p : Option ℕ). told p q) some ∙ told-other queue q other)
    (λ (i : ℕ) other. count-without_other item i (at_queue lines queue) other)

pub told-le : (place : Option ℕ) (queue : ℕ) → told place queue ≤ 1
told-le None queue = omega arith
told-le (Some q) queue = at (eqb q queue) where
  at : (b : Bool) → weight 1 b ≤ 1
  at true = omega arith
  at false = omega arith

-- no line is longer than the table
lines_fit : (homes : List (Option ℕ)) (lines : List (List Ticket)) (queue : ℕ) → Tells homes lines →
    length (at_queue lines queue) ≤ length homes
lines_fit homes lines queue tells =
    length_fits (length homes) (at_queue lines queue)
    (λ (item : ℕ). omega (arith, tells item queue, told-le (at_item homes item) queue))
    (λ (item : ℕ) past. tells item queue ∙ ap (λ (p : Option ℕ). told p queue) (get_or_past homes item None past))

-- so an item that doesn't wait fits into each
pub admission_fits : (homes : List (Option ℕ)) (lines : List (List Ticket)) (item queue : ℕ) → Tells homes lines →
    item < length homes → queue < length lines → at_item homes item ≡ None →
    length (at_queue lines queue) < length homes
admission_fits homes lines item queue tells item_in queue_in free =
    let t : Ticket = record { item = item; number = 0 } in
    let after = at_queue lines queue ++ t ∷ [] in
    let fit = lines_fit (set homes item (Some queue)) (set lines queue after) queue
    (Tells-admit homes lines item queue t tells item_in queue_in free refl) in
    let there = ap length (get_or-set_same lines queue after [] queue_in) in
    omega (arith, there, length-set homes item (Some queue), length_push (at_queue lines queue) t)

told-some : (home : Option ℕ) (queue : ℕ) → 0 < told home queue → home ≡ Some queue
told-some None queue some = absurd (omega arith)
told-some (Some q) queue some = by (eqb_tells q queue) where
  by : Same q queue → Some q ≡ Some queue
  by (inl same) = ap (λ (n : ℕ). Some n) same.1
  by (inr differ) = absurd (let none : told (Some q) queue ≡ 0 = ap (weight 1) differ.0 in omega arith)

-- who stands in a queue's line is told so
homes-told : (homes : List (Option ℕ)) (queue : ℕ) (line : List Ticket) →
    ((item : ℕ) → count item line ≤ told (at_item homes item) queue) → All (λ t. at_item homes t.item ≡ Some queue) line
homes-told homes queue [] within = All-nil (λ (t : Ticket). at_item homes t.item ≡ Some queue)
homes-told homes queue (t ∷ ts) within =
    All-cons (λ (t : Ticket). at_item homes t.item ≡ Some queue) t ts
    (let here : weight 1 (eqb t.item t.item) ≡ 1 = ap (weight 1) (eq-eqb t.item t.item refl) in
    let all = within t.item in
    told-some (at_item homes t.item) queue (omega arith))
    (homes-told homes queue ts (λ (item : ℕ). let all = within item in omega arith))

pub tells_homes : (homes : List (Option ℕ)) (lines : List (List Ticket)) (queue : ℕ) → Tells homes lines →
    All (λ t. at_item homes t.item ≡ Some queue) (at_queue lines queue)
tells_homes homes lines queue tells =
    homes-told homes queue (at_queue lines queue) (λ (item : ℕ). let told_here = tells item queue in omega arith)

-- what is told has a place
pub told_within : (homes : List (Option ℕ)) (item queue : ℕ) → at_item homes item ≡ Some queue → item < length homes
told_within homes item queue some = by (leb_tells (length homes) item) where
  by : ((leb (length homes) item ≡ true) × (length homes ≤ item)) ⊎ ((leb (length homes) item ≡ false) × (item < length homes)) →
      item < length homes
  by (inl past) = absurd (let none = get_or_past homes item None past.1 in cc)
  by (inr within) = within.1
