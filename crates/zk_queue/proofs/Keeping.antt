-- What a change of one ring and of the places in it keeps, and how the lines are seen after it.
use Rattle.std.proofs.Common.{◌≡◌, ◌≢◌, ℕ, zero, suc, ◌*◌, ◌<◌, ◌≤◌, true, false, cond, eqb, Option, Some, None, is_some, option_map, List, [], ◌∷◌, ◌++◌, length, map, get_or, set, replicate, All, refl, sym, ap, subst, ◌∙◌, ◌⊎◌, inl, inr, eq-eqb, arith}
use Rattle.std.proofs.Math.ListN.{get_or-map}
use Rattle.std.proofs.lemmas.Bool.{eqb-true}
use Rattle.std.proofs.lemmas.Bool.Decides.{nat_tests, eqb_tells}
use Rattle.std.proofs.lemmas.List.{length-map, length-set, map-set, set-get_or, get_or_default, get_or-set_same, get_or-set_other, length-replicate}
use Rattle.std.proofs.lemmas.List.Elements.{All-set, All-head, All-tail, All-push, All-replicate}
use Rattle.std.specs.Option.{option_map_or}
use Rattle.zk_queue.specs.declared.place.Place.{Place}
use Rattle.zk_queue.specs.declared.ticket.Ticket.{Ticket}
use Rattle.zk_queue.specs.Line.{InLine, is_of, without, number_in, number_among, Rises}
use Rattle.zk_queue.specs.Places.{count, Tells, place_of, homes_of, IsHome, stands_at, StandsIn, no_ring, Stands, LeavesPlaces, lines_of, IsKept}
use Rattle.zk_queue.specs.Ring.{RingView, living, turned, index_at, entry_at, KeepsBut}
use Rattle.zk_queue.proofs.Lives.{living-append, living-without}
use Rattle.zk_queue.proofs.Lines.{Rises-without, Rises-push}
use Rattle.zk_queue.proofs.Tables.{at_queue, at_item, tells_none, tells_one, tells_some, tells_within, Tells-admit, Tells-drop, admission_fits, tells_homes, told_within, told, told-le}

abbrev Same : ℕ → ℕ → Type 0
Same a b = ((eqb a b ≡ true) × (a ≡ b)) ⊎ ((eqb a b ≡ false) × (a ≢ b))

-- how the rings and the places are seen
abbrev pub seen_of : List (Option Place) → List RingView → InLine
seen_of places rings = record { items = length places; lines = lines_of rings }

-- the ticket of an item
abbrev pub ticket : ℕ → ℕ → Ticket
ticket item number = record { item = item; number = number }

-- the place in a queue's ring
abbrev pub place_at : ℕ → ℕ → Place
place_at queue position = record { queue = queue; position = position }

-- the ring of a queue
abbrev pub ring_of : List RingView → ℕ → RingView
ring_of rings queue = get_or rings queue no_ring

-- its line
pub line-of : (rings : List RingView) (queue : ℕ) → at_queue (lines_of rings) queue ≡ living (ring_of rings queue).entries
line-of rings queue = get_or-map (λ (r : RingView). living r.entries) rings queue no_ring

-- the queue of a place
pub home-of : (places : List (Option Place)) (item : ℕ) →
    at_item (homes_of places) item ≡ option_map (λ (p : Place). p.queue) (place_of places item)
home-of places item = get_or-map (option_map (λ (p : Place). p.queue)) places item None

-- a ring that is read
ring_read : (rings : List RingView) (queue : ℕ) (r : RingView) → queue < length rings → r ≡ get_or rings queue r →
    r ≡ ring_of rings queue
ring_read rings queue r within said = said ∙ get_or_default rings queue r no_ring within

-- what is known of the ring of a queue that is read
pub record Reads (places : List (Option Place)) (rings : List RingView) (queue : ℕ) (r : RingView) : Type 0 where
  pub within : queue < length rings
  pub is : r ≡ ring_of rings queue
  pub line : at_queue (lines_of rings) queue ≡ living r.entries
  pub room : 2 * length places ≤ r.capacity
  pub rises : Rises (living r.entries)
  pub homes : All (IsHome places queue) (living r.entries)
  pub stands : StandsIn places queue r

pub reads : (places : List (Option Place)) (rings : List RingView) (queue : ℕ) (r : RingView) → IsKept places rings →
    queue < length rings → r ≡ get_or rings queue r → Reads places rings queue r
reads places rings queue r kept within said =
    let is = ring_read rings queue r within said in
    let line = line-of rings queue ∙ ap (λ (r : RingView). living r.entries) (sym is) in
    record {
      within = within;
      is = is;
      line = line;
      room = subst (λ (r : RingView). 2 * length places ≤ r.capacity) (sym said) (kept.room queue r within);
      rises = subst (λ (r : RingView). Rises (living r.entries)) (sym said) (kept.rises queue r within);
      homes = subst (All (IsHome places queue)) line (tells_homes (homes_of places) (lines_of rings) queue kept.tells);
      stands = subst (StandsIn places queue) (sym is) (kept.stands queue);
    }

-- an item stands where it stood, unless it is gone
stands-kept : (gone : Option Ticket) (old new : RingView) (item position : ℕ) → KeepsBut gone old new →
    ((t : Ticket) → gone ≡ Some t → is_of item t ≡ false) → stands_at old item position ≡ true →
    stands_at new item position ≡ true
stands-kept gone old new item position keeps other stands = by (entry_at old position) refl stands where
  found : (t : Ticket) → is_of item t ≡ true → (gone ≡ Some t) ⊎ (entry_at new position ≡ Some t) →
      stands_at new item position ≡ true
  found t is (inl lost) = absurd (let not_it = other t lost in cc)
  found t is (inr there) = ap (λ (e : Option Ticket). option_map_or (is_of item) e false) there ∙ is

  by : (e : Option Ticket) → entry_at old position ≡ e → option_map_or (is_of item) e false ≡ true →
      stands_at new item position ≡ true
  by None at is = absurd (cc)
  by (Some t) at is = found t is (keeps.stays position t at)

pub Standing : (gone : Option Ticket) (places : List (Option Place)) (queue : ℕ) (old new : RingView) → KeepsBut gone old new →
    ((item : ℕ) (p : Place) (t : Ticket) → place_of places item ≡ Some p → gone ≡ Some t → is_of item t ≡ false) →
    StandsIn places queue old → StandsIn places queue new
Standing gone places queue old new keeps other stands = λ item p is here.
    stands-kept gone old new item p.position keeps (λ (t : Ticket) lost. other item p t is lost) (stands item p is here)

-- one ring is another
stands-set : (places after : List (Option Place)) (rings : List RingView) (queue : ℕ) (r : RingView) →
    Stands places rings → queue < length rings → StandsIn after queue r →
    ((item : ℕ) (p : Place) → place_of after item ≡ Some p → p.queue ≢ queue → place_of places item ≡ Some p) →
    Stands after (set rings queue r)
stands-set places after rings queue r stands within here others = λ q. by q (eqb_tells q queue) where
  by : (q : ℕ) → Same q queue → StandsIn after q (ring_of (set rings queue r) q)
  by q (inl same) =
      subst (λ (q : ℕ). StandsIn after q (ring_of (set rings queue r) q)) (sym same.1)
      (subst (StandsIn after queue) (sym (get_or-set_same rings queue r no_ring within)) here)
  by q (inr differ) =
      subst (StandsIn after q) (sym (get_or-set_other rings queue q r no_ring differ.1))
      (λ item p is at. stands q item p (others item p is (λ same. differ.1 (sym at ∙ same))) at)

-- all is kept where one ring is another, and places in it are others
kept-set : (places after : List (Option Place)) (rings : List RingView) (queue : ℕ) (r : RingView) → IsKept places rings →
    queue < length rings → length after ≡ length places → 2 * length places ≤ r.capacity → Rises (living r.entries) →
    Tells (homes_of after) (set (lines_of rings) queue (living r.entries)) → StandsIn after queue r →
    ((item : ℕ) (p : Place) → place_of after item ≡ Some p → p.queue ≢ queue → place_of places item ≡ Some p) →
    IsKept after (set rings queue r)
kept-set places after rings queue r kept within long fits rises tells here others =
    let Room : RingView → Type 0 = λ r. 2 * length after ≤ r.capacity in
    let Rising : RingView → Type 0 = λ r. Rises (living r.entries) in
    record {
      room = All-set Room rings queue r (subst (λ n. 2 * n ≤ r.capacity) (sym long) fits)
          (subst (λ n. All (λ (r : RingView). 2 * n ≤ r.capacity) rings) (sym long) kept.room);
      rises = All-set Rising rings queue r rises kept.rises;
      tells = subst (Tells (homes_of after)) (sym (map-set (λ (r : RingView). living r.entries) rings queue r)) tells;
      stands = stands-set places after rings queue r kept.stands within here others;
    }

-- the homes, where one place is another
homes-set : (places : List (Option Place)) (item : ℕ) (place : Option Place) →
    homes_of (set places item place) ≡ set (homes_of places) item (option_map (λ (p : Place). p.queue) place)
homes-set places item place = map-set (option_map (λ (p : Place). p.queue)) places item place

-- the places in one ring may change, and nothing else does
pub leaves-all : (queue : ℕ) (places : List (Option Place)) → LeavesPlaces queue places places
leaves-all queue places = record { homes = refl; others = λ item p is differ. is }

pub leaves-both : (queue : ℕ) (a b c : List (Option Place)) → LeavesPlaces queue a b → LeavesPlaces queue b c →
    LeavesPlaces queue a c
leaves-both queue a b c first next =
    record {
      homes = next.homes ∙ first.homes;
      others = λ item p is differ. first.others item p (next.others item p is differ) differ;
    }

pub leaves-length : (queue : ℕ) (old new : List (Option Place)) → LeavesPlaces queue old new → length new ≡ length old
leaves-length queue old new leaves =
    sym (length-map new (option_map (λ (p : Place). p.queue))) ∙ ap length leaves.homes
    ∙ length-map old (option_map (λ (p : Place). p.queue))

-- an item has another place in its ring
pub leaves-set : (queue : ℕ) (places : List (Option Place)) (item : ℕ) (p : Place) → p.queue ≡ queue →
    at_item (homes_of places) item ≡ Some queue → LeavesPlaces queue places (set places item (Some p))
leaves-set queue places item p here home =
    record {
      homes = homes-set places item (Some p) ∙ ap (λ (q : ℕ). set (homes_of places) item (Some q)) here
          ∙ ap (set (homes_of places) item) (sym home) ∙ set-get_or (homes_of places) item None;
      others = λ (other : ℕ) (q : Place) is differ. by other q is differ (eqb_tells other item);
    } where
      within : item < length places
      within = omega (arith, told_within (homes_of places) item queue home, length-map places (option_map (λ (p : Place). p.queue)))

      by : (other : ℕ) (q : Place) → place_of (set places item (Some p)) other ≡ Some q → q.queue ≢ queue → Same other item →
          place_of places other ≡ Some q
      by other q is differ (inl same) =
          absurd (differ (let at = get_or-set_same places item (Some p) None within in
          let too : place_of (set places item (Some p)) item ≡ Some q =
          subst (λ (i : ℕ). place_of (set places item (Some p)) i ≡ Some q) same.1 is in
          let one : p ≡ q = (cc) in
          sym (ap (λ (p : Place). p.queue) one) ∙ here))
      by other q is differ (inr apart) = sym (get_or-set_other places item other (Some p) None apart.1) ∙ is

-- an item that stood has its place, and the others stay where they are
pub StandsIn-moved : (queue : ℕ) (places : List (Option Place)) (t : Ticket) (p : Place) (old new : RingView)
    (gone : Option Ticket) → t.item < length places → p.queue ≡ queue → entry_at new p.position ≡ Some t →
    KeepsBut gone old new → ((u : Ticket) → gone ≡ Some u → u ≡ t) → StandsIn places queue old →
    StandsIn (set places t.item (Some p)) queue new
StandsIn-moved queue places t p old new gone within here there keeps only stands = λ item q is at.
    by item q is at (eqb_tells item t.item) where
      by : (item : ℕ) (q : Place) → place_of (set places t.item (Some p)) item ≡ Some q → q.queue ≡ queue → Same item t.item →
          stands_at new item q.position ≡ true
      by item q is at (inl same) =
          let set_there = get_or-set_same places t.item (Some p) None within in
          let too : place_of (set places t.item (Some p)) t.item ≡ Some q =
          subst (λ (i : ℕ). place_of (set places t.item (Some p)) i ≡ Some q) same.1 is in
          let one : p ≡ q = (cc) in
          ap (λ (q : Place). stands_at new item q.position) (sym one)
          ∙ ap (λ (e : Option Ticket). option_map_or (is_of item) e false) there ∙ eq-eqb t.item item (sym same.1)
      by item q is at (inr apart) =
          stands-kept gone old new item q.position keeps (λ (u : Ticket) lost. other u (only u lost))
          (stands item q (sym (get_or-set_other places t.item item (Some p) None apart.1) ∙ is) at) where
            other : (u : Ticket) → u ≡ t → is_of item u ≡ false
            other u one = let is_item = ap (λ (u : Ticket). u.item) one in
                let ne = apart.1 in grind (arith, nat_tests)

-- and an item that stood has none
pub StandsIn-gone : (queue : ℕ) (places : List (Option Place)) (t : Ticket) (old new : RingView) → t.item < length places →
    KeepsBut (Some t) old new → StandsIn places queue old → StandsIn (set places t.item None) queue new
StandsIn-gone queue places t old new within keeps stands = λ item q is at. by item q is at (eqb_tells item t.item) where
  by : (item : ℕ) (q : Place) → place_of (set places t.item None) item ≡ Some q → q.queue ≡ queue → Same item t.item →
      stands_at new item q.position ≡ true
  by item q is at (inl same) =
      absurd (let none = get_or-set_same places t.item None None within in
      let too : place_of (set places t.item None) t.item ≡ Some q =
      subst (λ (i : ℕ). place_of (set places t.item None) i ≡ Some q) same.1 is in
      cc)
  by item q is at (inr apart) =
      stands-kept (Some t) old new item q.position keeps (λ (u : Ticket) lost. other u (cc))
      (stands item q (sym (get_or-set_other places t.item item None None apart.1) ∙ is) at) where
        other : (u : Ticket) → t ≡ u → is_of item u ≡ false
        other u one = let is_item = ap (λ (u : Ticket). u.item) one in
            let ne = apart.1 in grind (arith, nat_tests)

others-gone : (places : List (Option Place)) (item : ℕ) (other : ℕ) (p : Place) → item < length places →
    place_of (set places item None) other ≡ Some p → place_of places other ≡ Some p
others-gone places item other p within is = by (eqb_tells other item) where
  by : Same other item → place_of places other ≡ Some p
  by (inl same) =
      absurd (let none = get_or-set_same places item None None within in
      let too : place_of (set places item None) item ≡ Some p =
      subst (λ (i : ℕ). place_of (set places item None) i ≡ Some p) same.1 is in
      cc)
  by (inr apart) = sym (get_or-set_other places item other None None apart.1) ∙ is

-- what is known where an item is admitted, in a ring that has room now
pub record Admits (places : List (Option Place)) (rings : List RingView) (w : InLine) (item queue number : ℕ) : Type 0 where
  pub kept : IsKept places rings
  pub seen : lines_of rings ≡ w.lines
  pub item_in : item < length places
  pub queue_in : queue < length rings
  pub free : at_item (homes_of places) item ≡ None
  pub above : All (λ (t : Ticket). t.number < number) (at_queue (lines_of rings) queue)

none_from : (home : Option ℕ) → is_some home ≡ false → home ≡ None
none_from None none = refl
none_from (Some queue) none = absurd (cc)

pub admits : (places : List (Option Place)) (rings : List RingView) (w : InLine) (item queue number : ℕ) →
    seen_of places rings ≡ w → IsKept places rings → item < w.items → queue < length w.lines →
    number_among item w.lines ≡ None → All (λ (t : Ticket). t.number < number) (at_queue w.lines queue) →
    Admits places rings w item queue number
admits places rings w item queue number view kept item_in queue_in free above =
    let items = ap (λ (w : InLine). w.items) view in
    let seen = ap (λ (w : InLine). w.lines) view in
    let long = ap length seen in
    record {
      kept = kept;
      seen = seen;
      item_in = omega arith;
      queue_in = omega (arith, length-map rings (λ (r : RingView). living r.entries));
      free = none_from (at_item (homes_of places) item) (tells_some (homes_of places) (lines_of rings) item kept.tells
          ∙ ap (λ (ls : List (List Ticket)). is_some (number_among item ls)) seen ∙ ap is_some free);
      above = subst (λ (ls : List (List Ticket)). All (λ (t : Ticket). t.number < number) (at_queue ls queue)) (sym seen) above;
    }

-- the line is shorter than there are items
admits_short : (places : List (Option Place)) (rings : List RingView) (w : InLine) (item queue number : ℕ) →
    Admits places rings w item queue number → length (at_queue (lines_of rings) queue) < length places
admits_short places rings w item queue number a =
    let homes = length-map places (option_map (λ (p : Place). p.queue)) in
    let lines = length-map rings (λ (r : RingView). living r.entries) in
    let item_in = a.item_in in
    let queue_in = a.queue_in in
    let short = admission_fits (homes_of places) (lines_of rings) item queue a.kept.tells (omega arith) (omega arith) a.free in
    omega arith

-- so a ring at most half of whose entries are dead has room
pub admits_fits : (places : List (Option Place)) (rings : List RingView) (w : InLine) (item queue number : ℕ)
    (r dense : RingView) → Admits places rings w item queue number → r ≡ get_or rings queue r →
    living dense.entries ≡ living r.entries → dense.capacity ≡ r.capacity →
    length dense.entries ≤ 2 * length (living dense.entries) → length dense.entries < dense.capacity
admits_fits places rings w item queue number r dense a said line room half =
    let read = reads places rings queue r a.kept a.queue_in said in
    let fits = read.room in
    let same : length (at_queue (lines_of rings) queue) ≡ length (living dense.entries) = ap length (read.line ∙ sym line) in
    let short = admits_short places rings w item queue number a in
    omega arith

-- all is kept
pub admits_kept : (places moved : List (Option Place)) (rings : List RingView) (w : InLine) (item queue number : ℕ)
    (r dense new : RingView) (position : ℕ) → Admits places rings w item queue number → r ≡ get_or rings queue r →
    living dense.entries ≡ living r.entries → dense.capacity ≡ r.capacity →
    StandsIn moved queue dense → LeavesPlaces queue places moved →
    new.entries ≡ dense.entries ++ Some (record { item = item; number = number }) ∷ [] → new.capacity ≡ dense.capacity →
    entry_at new position ≡ Some (record { item = item; number = number }) → KeepsBut None dense new →
    IsKept (set moved item (Some (record { queue = queue; position = position }))) (set rings queue new)
admits_kept places moved rings w item queue number r dense new position a said line room stands leaves next more there keeps =
    kept-set places (set moved item (Some (place_at queue position))) rings queue new a.kept a.queue_in
    (length-set moved item (Some (place_at queue position)) ∙ long)
    (let fits = read.room in omega arith)
    (subst Rises (sym (pushed ∙ ap (λ (ts : List Ticket). ts ++ ticket item number ∷ []) line))
    (Rises-push (living r.entries) (ticket item number) read.rises (subst (All (λ (t : Ticket). t.number < number)) read.line a.above)))
    (subst (λ (hs : List (Option ℕ)). Tells hs (set (lines_of rings) queue (living new.entries))) (sym homes)
    (subst (λ (ts : List Ticket). Tells (set (homes_of places) item (Some queue)) (set (lines_of rings) queue ts)) (sym whole)
    (Tells-admit (homes_of places) (lines_of rings) item queue (ticket item number) a.kept.tells home_in line_in a.free refl)))
    (StandsIn-moved queue moved (ticket item number) (place_at queue position) dense new None item_in refl there keeps (λ (u : Ticket) never. absurd (cc)) stands)
    (λ (other : ℕ) (q : Place) is differ. by other q is differ (eqb_tells other item)) where
      pushed : living new.entries ≡ living dense.entries ++ ticket item number ∷ []
      pushed = ap living next ∙ living-append dense.entries (Some (ticket item number) ∷ [])

      read : Reads places rings queue r
      read = reads places rings queue r a.kept a.queue_in said

      long : length moved ≡ length places
      long = leaves-length queue places moved leaves

      item_in : item < length moved
      item_in = let within = a.item_in in omega (arith, long)

      home_in : item < length (homes_of places)
      home_in = let within = a.item_in in omega (arith, length-map places (option_map (λ (p : Place). p.queue)))

      line_in : queue < length (lines_of rings)
      line_in = let within = a.queue_in in omega (arith, length-map rings (λ (r : RingView). living r.entries))

      homes : homes_of (set moved item (Some (place_at queue position))) ≡ set (homes_of places) item (Some queue)
      homes = homes-set moved item (Some (place_at queue position)) ∙ ap (λ (hs : List (Option ℕ)). set hs item (Some queue)) leaves.homes

      whole : living new.entries ≡ at_queue (lines_of rings) queue ++ ticket item number ∷ []
      whole = pushed ∙ ap (λ (ts : List Ticket). ts ++ ticket item number ∷ []) (line ∙ sym read.line)

      by : (other : ℕ) (q : Place) → place_of (set moved item (Some (place_at queue position))) other ≡ Some q → q.queue ≢ queue → Same other item →
          place_of places other ≡ Some q
      by other q is differ (inl same) =
          absurd (differ (let at = get_or-set_same moved item (Some (place_at queue position)) None item_in in
          let too : place_of (set moved item (Some (place_at queue position))) item ≡ Some q =
          subst (λ (i : ℕ). place_of (set moved item (Some (place_at queue position))) i ≡ Some q) same.1 is in
          let one : place_at queue position ≡ q = (cc) in
          sym (ap (λ (p : Place). p.queue) one)))
      by other q is differ (inr apart) =
          leaves.others other q (sym (get_or-set_other moved item other (Some (place_at queue position)) None apart.1) ∙ is) differ

-- one more stands at the end of the line
pub admits_next : (places : List (Option Place)) (rings : List RingView) (w : InLine) (item queue number : ℕ)
    (r dense new : RingView) → Admits places rings w item queue number → r ≡ get_or rings queue r →
    living dense.entries ≡ living r.entries →
    new.entries ≡ dense.entries ++ Some (record { item = item; number = number }) ∷ [] →
    lines_of (set rings queue new) ≡ set w.lines queue (at_queue w.lines queue ++ record { item = item; number = number } ∷ [])
admits_next places rings w item queue number r dense new a said line next =
    let t : Ticket = record { item = item; number = number } in
    let read = reads places rings queue r a.kept a.queue_in said in
    map-set (λ (r : RingView). living r.entries) rings queue new
    ∙ ap (set (lines_of rings) queue) (ap living next ∙ living-append dense.entries (Some t ∷ []) ∙ ap (λ (ts : List Ticket). ts ++ t ∷ []) (line ∙ sym read.line))
    ∙ ap (λ (ls : List (List Ticket)). set ls queue (at_queue ls queue ++ t ∷ [])) a.seen

-- nothing is dropped where there is no place
pub drops_none : (places : List (Option Place)) (rings : List RingView) (w : InLine) (item : ℕ) (place : Option Place) →
    seen_of places rings ≡ w → IsKept places rings → item < w.items →
    place ≡ get_or places item place → place ≡ None →
    (number_among item w.lines ≡ None) × (map (without item) w.lines ≡ w.lines)
drops_none places rings w item place view kept item_in said none =
    let items = ap (λ (w : InLine). w.items) view in
    let here : place_of places item ≡ None = sym (said ∙ get_or_default places item place None (omega arith)) ∙ none in
    let home = home-of places item ∙ ap (option_map (λ (p : Place). p.queue)) here in
    subst (λ (w : InLine). (number_among item w.lines ≡ None) × (map (without item) w.lines ≡ w.lines)) view
    (tells_none (homes_of places) (lines_of rings) item kept.tells home)

-- what is known where an item is dropped
pub record Drops (places : List (Option Place)) (rings : List RingView) (w : InLine) (item : ℕ) (p : Place) : Type 0 where
  pub kept : IsKept places rings
  pub seen : lines_of rings ≡ w.lines
  pub item_in : item < length places
  pub place : place_of places item ≡ Some p
  pub home : at_item (homes_of places) item ≡ Some p.queue
  pub queue_in : p.queue < length rings

pub drops : (places : List (Option Place)) (rings : List RingView) (w : InLine) (item : ℕ) (p : Place) (place : Option Place) →
    seen_of places rings ≡ w → IsKept places rings → item < w.items →
    place ≡ get_or places item place → place ≡ Some p → Drops places rings w item p
drops places rings w item p place view kept item_in said some =
    let items = ap (λ (w : InLine). w.items) view in
    let within : item < length places = omega arith in
    let here : place_of places item ≡ Some p = sym (said ∙ get_or_default places item place None within) ∙ some in
    let home : at_item (homes_of places) item ≡ Some p.queue =
    home-of places item ∙ ap (option_map (λ (p : Place). p.queue)) here in
    record {
      kept = kept;
      seen = ap (λ (w : InLine). w.lines) view;
      item_in = within;
      place = here;
      home = home;
      queue_in = omega (
        arith,
        tells_within (homes_of places) (lines_of rings) item p.queue kept.tells home,
        length-map rings (λ (r : RingView). living r.entries),
      );
    }

-- its entry stands there
pub drops_stand : (places : List (Option Place)) (rings : List RingView) (w : InLine) (item : ℕ) (p : Place) (r : RingView) →
    Drops places rings w item p → r ≡ get_or rings p.queue r → stands_at r item p.position ≡ true
drops_stand places rings w item p r d said =
    (reads places rings p.queue r d.kept d.queue_in said).stands item p d.place refl

some_standing : (item : ℕ) (e : Option Ticket) → option_map_or (is_of item) e false ≡ true → is_some e ≡ true
some_standing item None stands = absurd (cc)
some_standing item (Some t) stands = refl

pub drops_some : (places : List (Option Place)) (rings : List RingView) (w : InLine) (item : ℕ) (p : Place) (r : RingView) →
    Drops places rings w item p → r ≡ get_or rings p.queue r → is_some (entry_at r p.position) ≡ true
drops_some places rings w item p r d said =
    some_standing item (entry_at r p.position) (drops_stand places rings w item p r d said)

-- what is known of the ticket at an item's place
pub record AtPlace (places : List (Option Place)) (rings : List RingView) (w : InLine) (item : ℕ) (p : Place) (r : RingView) : Type 0 where
  pub ticket : Ticket
  pub entry : entry_at r p.position ≡ Some ticket
  pub its : ticket.item ≡ item
  pub number : number_among item w.lines ≡ Some ticket.number
  pub line : living (set r.entries (index_at r.front p.position) None) ≡ without item (living r.entries)

pub at_place : (places : List (Option Place)) (rings : List RingView) (w : InLine) (item : ℕ) (p : Place) (r : RingView) →
    Drops places rings w item p → r ≡ get_or rings p.queue r → AtPlace places rings w item p r
at_place places rings w item p r d said =
    by (entry_at r p.position) refl (drops_stand places rings w item p r d said) where
      read : Reads places rings p.queue r
      read = reads places rings p.queue r d.kept d.queue_in said

      once : count item (living r.entries) ≤ 1
      once = let told_here = d.kept.tells item p.queue in
          let most = told-le (at_item (homes_of places) item) p.queue in
          let line = ap (count item) read.line in
          omega arith

      by : (e : Option Ticket) → entry_at r p.position ≡ e → option_map_or (is_of item) e false ≡ true →
          AtPlace places rings w item p r
      by None at stands = absurd (cc)
      by (Some t) at stands =
          let both = living-without r.entries (index_at r.front p.position) t item at stands once in
          record {
            ticket = t;
            entry = at;
            its = eqb-true t.item item stands;
            number = sym (ap (λ (ls : List (List Ticket)). number_among item ls) d.seen)
                ∙ (tells_one (homes_of places) (lines_of rings) item p.queue d.kept.tells d.home).0
                ∙ ap (number_in item) read.line ∙ both.1;
            line = both.0;
          }

-- the number at an item's place is that by which it waits
pub number_at : (places : List (Option Place)) (rings : List RingView) (w : InLine) (item : ℕ) (p : Place) (r : RingView) →
    Drops places rings w item p → r ≡ get_or rings p.queue r →
    number_among item w.lines ≡ option_map (λ (t : Ticket). t.number) (entry_at r p.position)
number_at places rings w item p r d said =
    let at = at_place places rings w item p r d said in
    at.number ∙ sym (ap (option_map (λ (t : Ticket). t.number)) at.entry)

-- what becomes of the lines where the line of one queue loses its ticket of the item
pub loses : (places : List (Option Place)) (rings : List RingView) (w : InLine) (item queue : ℕ) (r new : RingView) →
    IsKept places rings → lines_of rings ≡ w.lines → at_item (homes_of places) item ≡ Some queue →
    at_queue (lines_of rings) queue ≡ living r.entries → living new.entries ≡ without item (living r.entries) →
    lines_of (set rings queue new) ≡ map (without item) w.lines
loses places rings w item queue r new kept seen home line next =
    map-set (λ (r : RingView). living r.entries) rings queue new
    ∙ ap (set (lines_of rings) queue) (next ∙ ap (without item) (sym line))
    ∙ sym (tells_one (homes_of places) (lines_of rings) item queue kept.tells home).1 ∙ ap (map (without item)) seen

-- all is kept then
pub loses_kept : (places : List (Option Place)) (rings : List RingView) (t : Ticket) (queue : ℕ) (r new : RingView) →
    IsKept places rings → Reads places rings queue r → t.item < length places →
    at_item (homes_of places) t.item ≡ Some queue → living new.entries ≡ without t.item (living r.entries) →
    new.capacity ≡ r.capacity → KeepsBut (Some t) r new → IsKept (set places t.item None) (set rings queue new)
loses_kept places rings t queue r new kept read item_in home next room keeps =
    let homes_long = length-map places (option_map (λ (p : Place). p.queue)) in
    let lines_long = length-map rings (λ (r : RingView). living r.entries) in
    let queue_in = read.within in
    let fits = read.room in
    let tells = Tells-drop (homes_of places) (lines_of rings) t.item queue kept.tells (omega arith) (omega arith) home in
    kept-set places (set places t.item None) rings queue new kept queue_in (length-set places t.item None) (omega arith)
    (subst Rises (sym next) (Rises-without t.item (living r.entries) read.rises))
    (subst (λ (hs : List (Option ℕ)). Tells hs (set (lines_of rings) queue (living new.entries))) (sym (homes-set places t.item None))
    (subst (λ (ts : List Ticket). Tells (set (homes_of places) t.item None) (set (lines_of rings) queue ts))
    (sym (next ∙ ap (without t.item) (sym read.line))) tells))
    (StandsIn-gone queue places t r new item_in keeps read.stands)
    (λ (other : ℕ) (p : Place) is differ. others-gone places t.item other p item_in is)

-- what is kept where dead entries alone are gone
pub skips_kept : (places : List (Option Place)) (rings : List RingView) (queue : ℕ) (r new : RingView) → IsKept places rings →
    Reads places rings queue r → living new.entries ≡ living r.entries → new.capacity ≡ r.capacity → KeepsBut None r new →
    IsKept places (set rings queue new)
skips_kept places rings queue r new kept read next room keeps =
    let fits = read.room in
    kept-set places places rings queue new kept read.within refl (omega arith) (subst Rises (sym next) read.rises)
    (subst (Tells (homes_of places)) (sym (ap (set (lines_of rings) queue) (next ∙ sym read.line)
    ∙ set-get_or (lines_of rings) queue [])) kept.tells)
    (Standing None places queue r new keeps (λ item p t is never. absurd (cc)) read.stands)
    (λ (item : ℕ) (p : Place) is differ. is)

pub skips_next : (places : List (Option Place)) (rings : List RingView) (queue : ℕ) (r new : RingView) →
    Reads places rings queue r → living new.entries ≡ living r.entries → lines_of (set rings queue new) ≡ lines_of rings
skips_next places rings queue r new read next =
    map-set (λ (r : RingView). living r.entries) rings queue new
    ∙ ap (set (lines_of rings) queue) (next ∙ sym read.line) ∙ set-get_or (lines_of rings) queue []

-- a turn leaves the homes of those that live
pub homes-turned : (P : Ticket → Type 0) (es : List (Option Ticket)) → All P (living es) → All P (living (turned es))
homes-turned P [] all = all
homes-turned P (None ∷ es) all = all
homes-turned P (Some t ∷ es) all =
    subst (All P) (sym (living-append es (Some t ∷ [])))
    (All-push P (living es) t (All-tail P t (living es) all) (All-head P t (living es) all))

-- the homes are the same in places that have changed within one ring
pub homes-left : (queue : ℕ) (old new : List (Option Place)) (ts : List Ticket) → LeavesPlaces queue old new →
    All (IsHome old queue) ts → All (IsHome new queue) ts
homes-left queue old new ts leaves all =
    subst (λ (hs : List (Option ℕ)). All (λ (t : Ticket). at_item hs t.item ≡ Some queue) ts) (sym leaves.homes) all

-- an item that is dropped: all is kept
pub drops_kept : (places : List (Option Place)) (rings : List RingView) (w : InLine) (item : ℕ) (p : Place) (r new : RingView) →
    Drops places rings w item p → r ≡ get_or rings p.queue r →
    new.entries ≡ set r.entries (index_at r.front p.position) None → new.capacity ≡ r.capacity →
    KeepsBut (entry_at r p.position) r new → IsKept (set places item None) (set rings p.queue new)
drops_kept places rings w item p r new d said next room keeps =
    let at = at_place places rings w item p r d said in
    let item_in = d.item_in in
    let its = at.its in
    subst (λ (i : ℕ). IsKept (set places i None) (set rings p.queue new)) at.its
    (loses_kept places rings at.ticket p.queue r new d.kept (reads places rings p.queue r d.kept d.queue_in said)
    (omega arith)
    (subst (λ (i : ℕ). at_item (homes_of places) i ≡ Some p.queue) (sym at.its) d.home)
    (ap living next ∙ at.line ∙ ap (λ (i : ℕ). without i (living r.entries)) (sym at.its)) room
    (subst (λ (e : Option Ticket). KeepsBut e r new) at.entry keeps))

-- and it is in no line
pub drops_next : (places : List (Option Place)) (rings : List RingView) (w : InLine) (item : ℕ) (p : Place) (r new : RingView) →
    Drops places rings w item p → r ≡ get_or rings p.queue r →
    new.entries ≡ set r.entries (index_at r.front p.position) None →
    lines_of (set rings p.queue new) ≡ map (without item) w.lines
drops_next places rings w item p r new d said next =
    let at = at_place places rings w item p r d said in
    loses places rings w item p.queue r new d.kept d.seen d.home (reads places rings p.queue r d.kept d.queue_in said).line
    (ap living next ∙ at.line)

-- an item without a place waits nowhere
pub gone : (places : List (Option Place)) (rings : List RingView) (item : ℕ) → IsKept (set places item None) rings →
    item < length places → number_among item (lines_of rings) ≡ None
gone places rings item kept within =
    (tells_none (homes_of (set places item None)) (lines_of rings) item kept.tells
    (home-of (set places item None) item
    ∙ ap (option_map (λ (p : Place). p.queue)) (get_or-set_same places item None None within))).0

-- what is known where a queue begins its lowest
pub record Begins (places : List (Option Place)) (rings : List RingView) (w : InLine) (queue : ℕ) (r : RingView) : Type 0 where
  pub kept : IsKept places rings
  pub seen : lines_of rings ≡ w.lines
  pub read : Reads places rings queue r

pub begins : (places : List (Option Place)) (rings : List RingView) (w : InLine) (queue : ℕ) (r : RingView) →
    seen_of places rings ≡ w → IsKept places rings → queue < length w.lines → r ≡ get_or rings queue r →
    Begins places rings w queue r
begins places rings w queue r view kept within said =
    let seen = ap (λ (w : InLine). w.lines) view in
    let long = ap length seen in
    record {
      kept = kept;
      seen = seen;
      read = reads places rings queue r kept
          (omega (arith, length-map rings (λ (r : RingView). living r.entries))) said;
    }

-- the line that it begins
pub begins_line : (places : List (Option Place)) (rings : List RingView) (w : InLine) (queue : ℕ) (r : RingView) →
    Begins places rings w queue r → living r.entries ≡ at_queue w.lines queue
begins_line places rings w queue r b = sym b.read.line ∙ ap (λ (ls : List (List Ticket)). at_queue ls queue) b.seen

-- what is known of the one that begins
pub record Lowest (places : List (Option Place)) (rings : List RingView) (queue : ℕ) (r new : RingView) (t : Ticket) : Type 0 where
  pub item_in : t.item < length places
  pub home : at_item (homes_of places) t.item ≡ Some queue
  pub line : living new.entries ≡ without t.item (living r.entries)
  pub rising : All (λ (later : Ticket). t.number < later.number) (living new.entries)

pub lowest : (places : List (Option Place)) (rings : List RingView) (w : InLine) (queue : ℕ) (r new : RingView) (t : Ticket) →
    Begins places rings w queue r → living r.entries ≡ t ∷ living new.entries → Lowest places rings queue r new t
lowest places rings w queue r new t b next =
    let homes = subst (All (IsHome places queue)) next b.read.homes in
    let home = All-head (IsHome places queue) t (living new.entries) homes in
    let rises = subst Rises next b.read.rises in
    record {
      item_in = omega (
        arith,
        told_within (homes_of places) t.item queue home,
        length-map places (option_map (λ (p : Place). p.queue)),
      );
      home = home;
      line = sym (ap (without t.item) next
          ∙ ap (λ b. cond b (living new.entries) (t ∷ without t.item (living new.entries))) (eq-eqb t.item t.item refl));
      rising = rises.0;
    }

pub begins_kept : (places : List (Option Place)) (rings : List RingView) (w : InLine) (queue : ℕ) (r new : RingView) (t : Ticket) →
    Begins places rings w queue r → living r.entries ≡ t ∷ living new.entries → new.capacity ≡ r.capacity →
    KeepsBut (Some t) r new → IsKept (set places t.item None) (set rings queue new)
begins_kept places rings w queue r new t b next room keeps =
    let low = lowest places rings w queue r new t b next in
    loses_kept places rings t queue r new b.kept b.read low.item_in low.home low.line room keeps

pub begins_next : (places : List (Option Place)) (rings : List RingView) (w : InLine) (queue : ℕ) (r new : RingView) (t : Ticket) →
    Begins places rings w queue r → living r.entries ≡ t ∷ living new.entries →
    lines_of (set rings queue new) ≡ map (without t.item) w.lines
begins_next places rings w queue r new t b next =
    let low = lowest places rings w queue r new t b next in
    loses places rings w t.item queue r new b.kept b.seen low.home b.read.line low.line

-- the line of a ring that is written
pub line-set : (rings : List RingView) (queue : ℕ) (new : RingView) → queue < length rings →
    at_queue (lines_of (set rings queue new)) queue ≡ living new.entries
line-set rings queue new within = line-of (set rings queue new) queue
    ∙ ap (λ (r : RingView). living r.entries) (get_or-set_same rings queue new no_ring within)

-- before the first admission
pub kept-fresh : (items queues : ℕ) (r : RingView) (places : List (Option Place)) (rings : List RingView) → r.entries ≡ [] →
    2 * items ≤ r.capacity → places ≡ replicate items None → rings ≡ replicate queues r → IsKept places rings
kept-fresh items queues r places rings none room places_are rings_are =
    let long : length places ≡ items = ap length places_are ∙ length-replicate items None in
    let fits : 2 * length places ≤ r.capacity = omega arith in
    let line : living r.entries ≡ [] = ap living none in
    record {
      room = subst (All (λ (r : RingView). 2 * length places ≤ r.capacity)) (sym rings_are)
          (All-replicate (λ (r : RingView). 2 * length places ≤ r.capacity) queues r fits);
      rises = subst (All (λ (r : RingView). Rises (living r.entries))) (sym rings_are)
          (All-replicate (λ (r : RingView). Rises (living r.entries)) queues r (subst Rises (sym line) tt));
      tells = λ (item queue : ℕ).
          ap (count item) (line-of rings queue ∙ ap (λ (rs : List RingView). living (ring_of rs queue).entries) rings_are ∙ empty queue)
          ∙ ap (λ (h : Option ℕ). told h queue) (sym (home-of places item
          ∙ ap (option_map (λ (p : Place). p.queue)) (nowhere item)));
      stands = λ (queue item : ℕ) (p : Place) is here. absurd (let none = nowhere item in cc);
    } where
      nowhere : (item : ℕ) → place_of places item ≡ None
      nowhere item = ap (λ (ps : List (Option Place)). place_of ps item) places_are ∙ all items item where
        all : (n item : ℕ) → place_of (replicate n None) item ≡ None
        all zero item = refl
        all (suc n) zero = refl
        all (suc n) (suc item) = all n item

      empty : (queue : ℕ) → living (ring_of (replicate queues r) queue).entries ≡ []
      empty queue = all queues queue where
        all : (n queue : ℕ) → living (ring_of (replicate n r) queue).entries ≡ []
        all zero queue = refl
        all (suc n) zero = ap living none
        all (suc n) (suc queue) = all n queue

pub lines-fresh : (queues : ℕ) (r : RingView) (rings : List RingView) → r.entries ≡ [] → rings ≡ replicate queues r →
    lines_of rings ≡ replicate queues []
lines-fresh queues r rings none are = ap lines_of are ∙ all queues where
  all : (n : ℕ) → lines_of (replicate n r) ≡ replicate n []
  all zero = refl
  all (suc n) = ap (λ (es : List (Option Ticket)). living es ∷ lines_of (replicate n r)) none ∙ ap (λ (ls : List (List Ticket)). [] ∷ ls) (all n)

-- the first that lives has its home here
pub first-home : (places : List (Option Place)) (queue : ℕ) (t : Ticket) (es rest : List (Option Ticket)) → es ≡ Some t ∷ rest →
    All (IsHome places queue) (living es) → IsHome places queue t
first-home places queue t es rest split homes =
    All-head (IsHome places queue) t (living rest) (subst (All (IsHome places queue)) (ap living split) homes)

-- and so is an item
pub home-within : (places : List (Option Place)) (queue : ℕ) (t : Ticket) → IsHome places queue t → t.item < length places
home-within places queue t home =
    omega (
      arith,
      told_within (homes_of places) t.item queue home,
      length-map places (option_map (λ (p : Place). p.queue)),
    )
