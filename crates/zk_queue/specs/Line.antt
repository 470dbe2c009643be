-- Inner: no contract of a top call is made of this file.
use Rattle.std.specs.Prelude.{ℕ, ◌<◌, Bool, ◌==◌, cond, Option, None, option_map, List, [], ◌∷◌, find, All}
use Rattle.std.specs.Option.{option_or}
use Rattle.zk_queue.specs.declared.ticket.Ticket.{Ticket}

-- the ticket is the item's
abbrev pub is_of : ℕ → Ticket → Bool
is_of item t = t.item == item

-- the ticket has this number
abbrev pub has_number : ℕ → Ticket → Bool
has_number number t = t.number == number

-- the line without the item's first ticket
abbrev pub without : ℕ → List Ticket → List Ticket
without item [] = []
without item (t ∷ ts) = cond (is_of item t) ts (t ∷ without item ts)

-- the number of the item's first ticket
abbrev pub number_in : ℕ → List Ticket → Option ℕ
number_in item line = option_map (λ t. t.number) (find (is_of item) line)

-- the number of the item's first ticket in these lines
abbrev pub number_among : ℕ → List (List Ticket) → Option ℕ
number_among item [] = None
number_among item (line ∷ lines) = option_or (number_in item line) (number_among item lines)

-- each number is below all later ones
abbrev pub Rises : List Ticket → Type 0
Rises [] = Unit {0}
Rises (t ∷ ts) = All (λ later. t.number < later.number) ts × Rises ts

-- what a contract sees of all lines: how many items there are, and what waits for each queue, lowest number first
pub record InLine : Type 0 where
  pub items : ℕ
  pub lines : List (List Ticket)
