-- Inner: no contract of a top call is made of this file.
use Rattle.std.specs.Prelude.{ℕ, ◌≡◌, ◌+◌, ◌-◌, ◌^◌, ◌%◌, ◌⊎◌, Option, None, Some, List, [], ◌∷◌, ◌++◌, slice_index_or}
use Rattle.zk_queue.specs.declared.ticket.Ticket.{Ticket}

-- what a contract sees of a queue's ring: its entries, first to last, each a ticket or dead,
-- the position of the first, and how many entries it takes
pub record RingView : Type 0 where
  pub entries : List (Option Ticket)
  pub front : ℕ
  pub capacity : ℕ

-- the entries that aren't dead
abbrev pub living : List (Option Ticket) → List Ticket
living [] = []
living (None ∷ es) = living es
living (Some t ∷ es) = t ∷ living es

-- the index of the entry at a position, where the first is at this one: positions wrap
abbrev pub index_at : ℕ → ℕ → ℕ
index_at front position = (position + (2 ^ 64 - front)) % 2 ^ 64

-- the entry at this position
abbrev pub entry_at : RingView → ℕ → Option Ticket
entry_at r position = slice_index_or r.entries (index_at r.front position) None

-- each ticket stays at its position, but the one that is gone
pub record KeepsBut (gone : Option Ticket) (old new : RingView) : Type 0 where
  pub stays : (position : ℕ) (t : Ticket) → entry_at old position ≡ Some t →
      (gone ≡ Some t) ⊎ (entry_at new position ≡ Some t)

-- the first entry stands at the end, unless it was dead
abbrev pub turned : List (Option Ticket) → List (Option Ticket)
turned [] = []
turned (None ∷ es) = es
turned (Some t ∷ es) = es ++ Some t ∷ []
