-- Inner: no contract of a top call is made of this file.
-- The rule of the turn: what holds of the words, the slot and the seats of a cell at every moment.
use Rattle.std.specs.Prelude.{◌≡◌, ℕ, ◌+◌, ◌*◌, ◌%◌, ◌^◌, ◌<◌, ◌≤◌, ◌⊎◌, true, Option, Some, List, [], ◌∷◌, length, All, slice_index}
use Rattle.std.specs.List.{sum_by}
use mathlib.Core.Option.{some}
use lib.ListN.{get_elem?}
use Rattle.atomic_table.specs.Table.{State}
use Rattle.zk_base.specs.declared.ids.Entry.{Entry}
use Rattle.zk_turn.specs.declared.views.Stage.{Stage}
use Rattle.zk_turn.specs.declared.views.Stage.TheVariants.{Idle, Waiting, Holding}
use Rattle.zk_turn.specs.declared.views.Part.{Part}
use Rattle.zk_turn.specs.declared.views.Flight.{Flight}
use Rattle.zk_turn.specs.declared.views.View.{View}
use Rattle.zk_turn.specs.Players.{has, is_by, GoesOn, room_of_a_pass}
use Rattle.zk_turn.specs.Words.{at_rest, WordStands, NoteStands}

-- how many tickets a seat at this stage has
abbrev pub ticket_count : Stage → ℕ
ticket_count Idle = 0
ticket_count (Waiting ticket) = 1
ticket_count (Holding ticket) = 1

-- a seat at this stage has this ticket
abbrev pub HasTicket : Stage → ℕ → Type 0
HasTicket Idle number = ⊥
HasTicket (Waiting ticket) number = ticket ≡ number
HasTicket (Holding ticket) number = ticket ≡ number

-- a seat at this stage holds the turn
abbrev pub HoldsTurn : Stage → Type 0
HoldsTurn Idle = ⊥
HoldsTurn (Waiting ticket) = ⊥
HoldsTurn (Holding ticket) = Unit {0}

module _ {O R : Type 0} where
  -- a ticket that waits isn't served yet or is the one served; a ticket whose turn it is is the one served, and its seat
  -- has seen the whole history
  abbrev pub TicketStands : List (Entry O R) → ℕ → ℕ → List (Entry O R) → Stage → Type 0
  TicketStands history served drawn seen Idle = Unit {0}
  TicketStands history served drawn seen (Waiting ticket) = (served ≤ ticket) × (ticket < drawn)
  TicketStands history served drawn seen (Holding ticket) = (ticket ≡ served) × (ticket < drawn) × (seen ≡ history)

  -- what is seen goes on from what each part had seen
  abbrev pub Continues : List (Part O R) → List (Entry O R) → Type 0
  Continues [] seen = Unit {0}
  Continues (part ∷ parts) seen = GoesOn part.players part.seen seen × Continues parts seen

module _ {O R T : Type 0} where
  -- what holds of one seat
  pub record SeatStands (origin : T) (history : List (Entry O R)) (served drawn : ℕ) (v : View O R T) : Type 0 where
    -- of its players the history has just what it has seen
    pub seen : GoesOn v.players v.seen history
    pub ticket : TicketStands history served drawn v.seen v.stage
    pub room : v.made ≤ room_of_a_pass * length v.players
    -- who has a ticket stands for a player
    pub player : ticket_count v.stage ≤ length v.players
    pub parts : Continues v.parts v.seen
    pub start : 0 < length v.players → v.start ≡ Some origin

  -- what holds of one seat as for the published words: who holds the turn knows the entry in flight
  pub record LookStands (word : List (Entry O R) → ℕ → ℕ) (width : ℕ) (history : List (Entry O R)) (flight : Flight O R)
      (v : View O R T) : Type 0 where
    pub words : 0 < length v.players → v.words ≡ width
    pub note : NoteStands word history flight.pending (length v.seen) v.note
    pub holder : HoldsTurn v.stage → v.flight ≡ flight

  -- two seats stand for different players and have different tickets
  pub record AreApart (v w : View O R T) : Type 0 where
    pub players : (number : ℕ) → has v.players number ≡ true → has w.players number ≡ true → ⊥
    pub tickets : (ticket : ℕ) → HasTicket v.stage ticket → HasTicket w.stage ticket → ⊥

  -- an entry is of a player of some seat
  pub record IsCovered (views : List (View O R T)) (e : Entry O R) : Type 0 where
    pub place : ℕ
    pub view : View O R T
    pub there : get_elem? views place ≡ some view
    pub theirs : is_by view.players e ≡ true

  -- no seat holds the turn
  abbrev pub NoneHolds : List (View O R T) → Type 0
  NoneHolds views = (place : ℕ) (v : View O R T) → get_elem? views place ≡ some v → HoldsTurn v.stage → ⊥

  -- some seat holds the turn
  pub record SomeHolds (views : List (View O R T)) : Type 0 where
    pub place : ℕ
    pub view : View O R T
    pub there : get_elem? views place ≡ some view
    pub holds : HoldsTurn view.stage

  -- how many players a seat stands for, how many tickets it has, and how many entries it has added
  abbrev pub player_count : View O R T → ℕ
  player_count v = length v.players

  abbrev pub tickets_of : View O R T → ℕ
  tickets_of v = ticket_count v.stage

  abbrev pub made_of : View O R T → ℕ
  made_of v = v.made

module _ {S O R T : Type 0} (legal : T → List (Entry O R) → Type 0) (fits : S → T → List (Entry O R) → Type 0) where
  -- the service lies in the slot with the whole history, no entry is in flight, and no seat holds the turn
  pub record IsHome (origin : T) (history : List (Entry O R)) (flight : Flight O R)
      (s : State (Option S) (View O R T)) : Type 0 where
    pub service : S
    pub there : get_elem? s.homes 0 ≡ some (some (Some service))
    pub fit : fits service origin history
    pub rest : flight ≡ at_rest
    pub free : NoneHolds s.views

module _ {S O R T : Type 0} (legal : T → List (Entry O R) → Type 0) (fits : S → T → List (Entry O R) → Type 0)
    (word : T → List (Entry O R) → ℕ → ℕ) (width : ℕ) where
  -- the rule, for a cell of so many players whose service starts in this state and publishes words of this width
  pub record Turn (origin : T) (count : ℕ) (s : State (Option S) (View O R T)) : Type 0 where
    pub history : List (Entry O R)
    pub served : ℕ
    pub drawn : ℕ
    pub flight : Flight O R
    -- the words are the tickets drawn, the ticket served, the length of the history, and those that are published
    pub words : 3 + width ≤ length s.words
    pub slot : 0 < length s.homes
    pub ticket_word : slice_index s.words 0 ≡ drawn % 2 ^ 64
    pub serving_word : slice_index s.words 1 ≡ served % 2 ^ 64
    pub count_word : slice_index s.words 2 ≡ length history
    pub lawful : legal origin history
    -- the seats stand for all players, have all tickets that are out, and have added all entries
    pub few : count ≤ 256
    pub players : sum_by player_count s.views ≡ count
    pub tickets : sum_by tickets_of s.views + served ≡ drawn
    pub made : sum_by made_of s.views ≡ length history
    pub each : (place : ℕ) (v : View O R T) → get_elem? s.views place ≡ some v → SeatStands origin history served drawn v
    pub apart : (i j : ℕ) (v w : View O R T) → ¬ (i ≡ j) → get_elem? s.views i ≡ some v →
        get_elem? s.views j ≡ some w → AreApart v w
    pub covered : All (IsCovered s.views) history
    pub published : (index : ℕ) → index < width →
        WordStands (λ h. word origin h index) history flight index (slice_index s.words (3 + index))
    pub looks : (place : ℕ) (v : View O R T) → get_elem? s.views place ≡ some v →
        LookStands (word origin) width history flight v
    -- the service is at home, or out with whoever holds the turn
    pub place : IsHome legal fits origin history flight s ⊎ SomeHolds s.views
