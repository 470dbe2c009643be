-- Inner: no contract of a top call is made of this file.
use Rattle.std.specs.Prelude.{ℕ, ◌≡◌, ◌≢◌, ◌+◌, ◌*◌, ◌≤◌, Bool, true, false, ◌==◌, Option, Some, None, option_map, List, [], ◌∷◌, length, map, slice_index_or, All}
use Rattle.std.specs.Option.{option_map_or}
use Rattle.zk_model_work.specs.Questions.{weight}
use Rattle.zk_queue.specs.declared.place.Place.{Place}
use Rattle.zk_queue.specs.declared.ticket.Ticket.{Ticket}
use Rattle.zk_queue.specs.Line.{is_of, Rises}
use Rattle.zk_queue.specs.Ring.{RingView, living, entry_at}

-- how many tickets of the line are the item's
abbrev pub count : ℕ → List Ticket → ℕ
count item [] = 0
count item (t ∷ ts) = weight 1 (is_of item t) + count item ts

-- the table has the item in this queue's line
abbrev pub is_in : List (Option ℕ) → ℕ → ℕ → Bool
is_in homes item queue = option_map_or (λ q. q == queue) (slice_index_or homes item None) false

-- the table says of each item in which queue's line it is, once, if in any
abbrev pub Tells : List (Option ℕ) → List (List Ticket) → Type 0
Tells homes lines = (item queue : ℕ) → count item (slice_index_or lines queue []) ≡ weight 1 (is_in homes item queue)

-- the place of an item, if it waits
abbrev pub place_of : List (Option Place) → ℕ → Option Place
place_of places item = slice_index_or places item None

-- in which queue's line each place is
abbrev pub homes_of : List (Option Place) → List (Option ℕ)
homes_of places = map (option_map (λ p. p.queue)) places

-- the ticket's item has its place in this queue's ring
abbrev pub IsHome : List (Option Place) → ℕ → Ticket → Type 0
IsHome places queue t = slice_index_or (homes_of places) t.item None ≡ Some queue

-- the item's entry stands at this position of the ring
abbrev pub stands_at : RingView → ℕ → ℕ → Bool
stands_at r item position = option_map_or (is_of item) (entry_at r position) false

-- each item whose place is in this queue's ring stands there
abbrev pub StandsIn : List (Option Place) → ℕ → RingView → Type 0
StandsIn places queue r =
    (item : ℕ) (p : Place) → place_of places item ≡ Some p → p.queue ≡ queue → stands_at r item p.position ≡ true

-- a ring without entries
abbrev pub no_ring : RingView
no_ring = record { entries = []; front = 0; capacity = 0 }

-- each item that has a place stands there
abbrev pub Stands : List (Option Place) → List RingView → Type 0
Stands places rings = (queue : ℕ) → StandsIn places queue (slice_index_or rings queue no_ring)

-- a change of places within this queue's ring: each item stays in its line, and the places in other rings stay
pub record LeavesPlaces (queue : ℕ) (old new : List (Option Place)) : Type 0 where
  pub homes : homes_of new ≡ homes_of old
  pub others : (item : ℕ) (p : Place) → place_of new item ≡ Some p → p.queue ≢ queue → place_of old item ≡ Some p

-- the line of each queue: its ring without the dead entries
abbrev pub lines_of : List RingView → List (List Ticket)
lines_of rings = map (λ r. living r.entries) rings

-- what holds of the rings and of the places: a ring without its dead entries is the line, whose numbers rise,
-- and an item's place is where its entry stands. Each ring has room for twice the items
pub record IsKept (places : List (Option Place)) (rings : List RingView) : Type 0 where
  pub room : All (λ r. 2 * length places ≤ r.capacity) rings
  pub rises : All (λ r. Rises (living r.entries)) rings
  pub tells : Tells (homes_of places) (lines_of rings)
  pub stands : Stands places rings
