-- Inner: no contract of a top call is made of this file.
use Rattle.std.specs.Prelude.{◌≡◌, ◌⊎◌, ℕ, ◌+◌, ◌-◌, min, ◌<◌, ◌≤◌, ℤ, negsuc, ◌-ℤ◌, ◌≤ℤ◌, unsigned_abs, Bool, true, false, not, ◌==◌, ◌&&◌, if◌then◌else◌, Option, Some, None, option_map, is_some, List, length, map, filter, filter_map, All, AllPairs}
use Rattle.std.specs.List.{find, list_any}
use Rattle.std.specs.Option.{option_map_or}
use Rattle.zk_base.specs.declared.waits.Decision.{Decision}
use Rattle.zk_base.specs.declared.slots.Slot.{Slot}
use Rattle.zk_base.specs.declared.slots.Stage.{Stage}
use Rattle.zk_base.specs.declared.slots.Stage.TheVariants.{Waits, Decided, Ended}
use Rattle.zk_base.specs.declared.leaders.First.{First}
use Rattle.zk_base.specs.declared.span.Span.{Span}
use Rattle.zk_base.specs.Order.{by_key, put_by}
use Rattle.zk_base.specs.Waits.{Waits as AllWaits, decide, says}

-- what the number of a priority is at least
abbrev pub IsPriority : ℤ → Type 0
IsPriority z = negsuc 127 ≤ℤ z

-- a priority as a number from 0 on
abbrev pub rank_of : ℤ → ℕ
rank_of z = unsigned_abs (z -ℤ negsuc 127)

-- each key is below all later ones
abbrev pub Rises : {X : Type 0} → (X → ℕ) → List X → Type 0
Rises key xs = AllPairs (λ x y. key x < key y) xs

-- How far a wait is.

abbrev pub goes_on_at : {A : Type 0} → Stage A → Bool
goes_on_at Waits = true
goes_on_at (Decided answer) = false
goes_on_at Ended = false

abbrev pub is_open_at : {A : Type 0} → Stage A → Bool
is_open_at Waits = true
is_open_at (Decided answer) = true
is_open_at Ended = false

-- the answer of its decision, if there is one
abbrev pub answer_at : {A : Type 0} → Stage A → Option A
answer_at Waits = None
answer_at (Decided answer) = Some answer
answer_at Ended = None

-- What is kept of a wait.

module _ {M A : Type 0} where
  -- the place of the entry that began it
  abbrev pub place_of : Slot M A → ℕ
  place_of s = s.waiter.place

  -- it goes on
  abbrev pub is_waiting : Slot M A → Bool
  is_waiting s = goes_on_at s.stage

  -- it hasn't ended
  abbrev pub is_open : Slot M A → Bool
  is_open s = is_open_at s.stage

  -- it is decided
  abbrev pub has_answer : Slot M A → Bool
  has_answer s = is_some (answer_at s.stage)

  -- its decision, if there is one
  abbrev pub decision_in : Slot M A → Option (Decision A)
  decision_in s = option_map (λ answer. decide answer s.waiter) (answer_at s.stage)

  -- what its end answers this player
  abbrev pub answer_for : ℕ → Slot M A → Option A
  answer_for player s = if s.waiter.who.number == player then answer_at s.stage else None

  -- it goes on, and is this player's
  abbrev pub waits_for : ℕ → Slot M A → Bool
  waits_for player s = is_waiting s && s.waiter.who.number == player

  -- the rank is that of the priority
  abbrev pub IsRanked : Slot M A → Type 0
  IsRanked s = (s.rank ≡ rank_of s.waiter.who.prio) × IsPriority s.waiter.who.prio

  -- the same wait, ended
  abbrev pub over : Slot M A → Slot M A
  over s = record s { stage = Ended }

  -- the same wait, decided as the one of this number
  abbrev pub decided_as : ℕ → A → Slot M A → Slot M A
  decided_as number answer s = record s { number = number; stage = Decided answer }

  -- what a test says of it, where it goes on
  abbrev pub answer_by : (M → Option A) → Slot M A → Option A
  answer_by test s = if is_waiting s then says test s.waiter else None

  -- the same wait, decided as one of this number where there is an answer
  abbrev pub decided_with : ℕ → Option A → Slot M A → Slot M A
  decided_with number None s = s
  decided_with number (Some answer) s = decided_as number answer s

  -- the same, by what a test says where it goes on
  abbrev pub decided_where : ℕ → (M → Option A) → Slot M A → Slot M A
  decided_where number test s = decided_with number (answer_by test s) s

  -- the same, with one answer for all
  abbrev pub decided_all : ℕ → A → Slot M A → Slot M A
  decided_all number answer s = decided_where number (λ _. Some answer) s

  -- who waits, by priority, and those of one by place
  abbrev pub line : List (Slot M A) → List (Slot M A)
  line slots = by_key (λ s. s.rank) (filter is_waiting slots)

  -- those that are decided, by their number, and those of one number as they were served
  abbrev pub told : List (Slot M A) → List (Slot M A)
  told slots = by_key (λ s. s.number) (by_key (λ s. s.rank) (filter has_answer slots))

  -- the waits of a list of these
  abbrev pub waits_in : List (Slot M A) → AllWaits M A
  waits_in slots = record { waiting = map (λ s. s.waiter) (line slots); decided = filter_map decision_in (told slots) }

  -- it goes on, with this rank
  abbrev pub waits_as : ℕ → Slot M A → Bool
  waits_as rank s = is_waiting s && s.rank == rank

  -- the place of the first wait of this rank that goes on
  abbrev pub leads : ℕ → List (Slot M A) → Option ℕ
  leads rank slots = option_map place_of (find (waits_as rank) slots)

  -- those that have ended are taken out, so that none of them is left, or not
  abbrev pub IsClosedUp : List (Slot M A) → ℕ → List (Slot M A) → ℕ → Type 0
  IsClosedUp slots ended kept left = (kept ≡ slots) × (left ≡ ended) ⊎ (kept ≡ filter is_open slots) × (left ≡ 0)

-- The first of each rank.

abbrev pub is_of : ℕ → First → Bool
is_of rank f = f.rank == rank

-- the place of the first of this rank
abbrev pub first_of : ℕ → List First → Option ℕ
first_of rank firsts = option_map (λ f. f.place) (find (is_of rank) firsts)

-- one more waits
abbrev pub led : ℕ → ℕ → List First → List First
led rank place firsts =
    if list_any (is_of rank) firsts then firsts else put_by (λ f. f.rank) (record { rank = rank; place = place }) firsts

-- the next of a rank is its first, or there is none any more
abbrev pub moved_to : ℕ → First → First
moved_to place f = record f { place = place }

abbrev pub replaced : ℕ → Option ℕ → List First → List First
replaced rank (Some place) firsts = map (λ f. if is_of rank f then moved_to place f else f) firsts
replaced rank None firsts = filter (λ f. not (is_of rank f)) firsts

-- the wait of this rank and place goes on no longer
abbrev pub passed_on : ℕ → ℕ → Option ℕ → List First → List First
passed_on rank place next firsts =
    if option_map_or (λ first. first == place) (first_of rank firsts) false then replaced rank next firsts else firsts

-- What holds of the waits that are kept, of the firsts, of how many go on and how many have ended, of a number above all places,
-- and of how many decisions there were.
pub record IsKept {M A : Type 0} (slots : List (Slot M A)) (firsts : List First) (waiting ended next decisions : ℕ) : Type 0 where
  -- the lowest place first, all below the number
  pub rises : Rises place_of slots
  pub below : All (λ s. place_of s < next) slots
  -- each rank is that of the priority, and each number that of a decision
  pub ranked : All IsRanked slots
  pub numbered : All (λ s. s.number ≤ decisions) slots
  -- the firsts are those of their ranks, one a rank
  pub leaders : (rank : ℕ) → first_of rank firsts ≡ leads rank slots
  pub ordered : Rises (λ f. f.rank) firsts
  -- how many there are of each sort
  pub counted : length (filter is_waiting slots) ≡ waiting
  pub unended : length (filter has_answer slots) + waiting + ended ≡ length slots
  pub few : decisions + waiting ≤ next

-- a place is among these
abbrev pub IsIn : Span → ℕ → Type 0
IsIn span place = (span.lowest ≤ place) × (place ≤ span.highest)

-- where it is decided, it stands there
abbrev pub IsToldIn : {M A : Type 0} → Span → Slot M A → Type 0
IsToldIn told s = has_answer s ≡ true → IsIn told (place_of s)

-- what holds of a list of waits
pub record IsWaitList {M A : Type 0} (slots : List (Slot M A)) (firsts : List First) (waiting ended next decisions : ℕ)
    (told : Span) : Type 0 where
  pub kept : IsKept slots firsts waiting ended next decisions
  -- at most half of them have ended
  pub half : ended + ended ≤ length slots
  -- those that are decided stand there
  pub within : All (IsToldIn told) slots

-- so many of these waits are decided at once, as those of one number: what is left is a list of waits, with one decision more
pub record StaysWaitList {M A : Type 0} (number : ℕ) (slots : List (Slot M A)) (firsts : List First) (told : Span)
    (left_slots : List (Slot M A)) (left_firsts : List First) (left_told : Span) (decided : ℕ) : Type 0 where
  pub at_once : (waiting ended next decisions : ℕ) → number ≡ decisions + 1 →
      IsWaitList slots firsts waiting ended next decisions told →
      (decided ≤ waiting)
      × IsWaitList left_slots left_firsts (waiting - decided) ended next (decisions + min decided 1) left_told
