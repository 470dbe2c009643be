-- Inner: no contract of a top call is made of this file.
-- What a contract sees of a cell, of a pass and of a turn that is held.
use Rattle.std.specs.Prelude.{◌≡◌, ℕ, ◌+◌, ◌*◌, ◌<◌, ◌≤◌, Bool, true, false, Option, Some, None, Result, Ok, Err, List, [], ◌∷◌, ◌++◌, length}
use Rattle.atomic_table.specs.Table.{Me}
use Rattle.zk_base.specs.declared.ids.Who.{Who}
use Rattle.zk_base.specs.declared.ids.Entry.{Entry}
use Rattle.zk_turn.specs.declared.views.Stage.TheVariants.{Idle, Holding}
use Rattle.zk_turn.specs.declared.views.View.{View}
use Rattle.zk_turn.specs.declared.pass.Pass.{Pass}
use Rattle.zk_turn.specs.declared.held.Held.{Held}
use Rattle.zk_turn.specs.declared.cell.Cell.{Cell}
use Rattle.zk_turn.specs.Players.{is_by, own, room_of_a_pass}
use Rattle.zk_turn.specs.Words.{at_rest}
use Rattle.zk_turn.specs.Views.{with_stamped}
use Rattle.zk_turn.specs.Steps.{out_with}
use Rattle.zk_base.specs.Touched.{is_touched}

module _ {O R : Type 0} where
  -- the history that a turn leaves: as it was found, or with one entry of the pass's players more
  abbrev pub HasAdded : Bool → List Who → List (Entry O R) → List (Entry O R) → Type 0
  HasAdded false players found history = history ≡ found
  HasAdded true players found history = (e : Entry O R) × (history ≡ found ++ e ∷ []) × (is_by players e ≡ true)

module _ {O R T : Type 0} where
  -- the word of an index has this value after the entry in flight, which comes at this position
  pub record IsChange (word : T → List (Entry O R) → ℕ → ℕ) (index after position : ℕ) (v : View O R T) : Type 0 where
    pub ticket : ℕ
    pub entry : Entry O R
    pub start : T
    pub holds : v.stage ≡ Holding ticket
    pub begins : v.start ≡ Some start
    pub pending : v.flight.pending ≡ entry ∷ []
    pub mine : is_by v.players entry ≡ true
    pub value : after ≡ word start (v.seen ++ v.flight.pending) index
    pub small : after < 65536
    pub place : position ≡ length v.seen + 1
    pub short : length v.seen ≤ room_of_a_pass * 256

-- one where an entry was added
abbrev pub added_count : Bool → ℕ
added_count false = 0
added_count true = 1

module _ {S O R T : Type 0} where
  -- the service that the cell was made of, and the players that it was made for
  abbrev pub given_to : Cell S O R T → S
  given_to c = c.table.shared.key.service.value

  abbrev pub players_in : Cell S O R T → List Who
  players_in c = c.table.shared.key.players.items

  -- the players that a pass stands for, and the one for whom it acts
  abbrev pub pass_players : Pass S O R T → List Who
  pass_players p = p.seat.me.0.players

  abbrev pub pass_who : Pass S O R T → Who
  pass_who p = p.who

  -- what it has seen of the history, and the entries of its players there
  abbrev pub pass_seen : Pass S O R T → List (Entry O R)
  pass_seen p = p.seat.me.0.seen

  abbrev pub pass_mine : Pass S O R T → List (Entry O R)
  pass_mine p = own p.seat.me.0.players p.seat.me.0.seen

  -- how many turns it had, and how many entries it may still add
  abbrev pub pass_holds : Pass S O R T → ℕ
  pass_holds p = p.seat.me.0.holds

  abbrev pub pass_room : Pass S O R T → ℕ
  pass_room p = p.room

  -- the same of a turn that is held
  abbrev pub held_players : Held S O R T → List Who
  held_players h = h.seat.me.0.players

  abbrev pub held_who : Held S O R T → Who
  held_who h = h.who

  abbrev pub held_holds : Held S O R T → ℕ
  held_holds h = h.seat.me.0.holds

  abbrev pub held_room : Held S O R T → ℕ
  held_room h = h.room

  -- it has added its entry
  abbrev pub has_added : Held S O R T → Bool
  has_added h = h.added

  -- it has made its look
  abbrev pub has_looked : Held S O R T → Bool
  has_looked h = h.looked

  -- the service that is held
  abbrev pub service_of : Held S O R T → S
  service_of h = h.service

  -- it is a pass of this cell
  pub record IsPassOf (legal : T → List (Entry O R) → Type 0)
      (start_of : S → T) (c : Cell S O R T) (p : Pass S O R T) : Type 0 where
    pub table : p.seat.table_id ≡ c.table.shared.table_id
    pub idle : p.seat.me.0.stage ≡ Idle
    pub slots : p.seat.me.1 ≡ []
    pub first : (others : List Who) × (p.seat.me.0.players ≡ p.who ∷ others)
    pub room : p.room + p.seat.me.0.made ≤ room_of_a_pass * length p.seat.me.0.players
    pub start : p.seat.me.0.start ≡ Some (start_of (given_to c))
    pub front : p.front ≡ length p.seat.me.0.seen
    pub lawful : legal (start_of (given_to c)) p.seat.me.0.seen
    pub words : c.table.shared.table_id.words ≡ 3 + p.seat.me.0.words

  -- the turn is held: the service goes on from the history that was found, with one entry at most, which leaves the words
  -- as `keeps` says
  pub record IsHeld (legal : T → List (Entry O R) → Type 0) (start_of : S → T) (history_of : S → List (Entry O R))
      (keeps : S → List (Entry O R) → Type 0) (h : Held S O R T) : Type 0 where
    pub holds : (ticket : ℕ) × (h.seat.me.0.stage ≡ Holding ticket)
    pub slots : h.seat.me.1 ≡ (0, None) ∷ []
    pub first : (others : List Who) × (h.seat.me.0.players ≡ h.who ∷ others)
    pub room : h.room + added_count h.added + h.seat.me.0.made ≤ room_of_a_pass * length h.seat.me.0.players
    pub some_room : h.added ≡ false → 0 < h.room
    pub start : h.seat.me.0.start ≡ Some (start_of h.service)
    pub added : HasAdded h.added h.seat.me.0.players h.seat.me.0.seen (history_of h.service)
    pub lawful : legal (start_of h.service) (history_of h.service)
    pub short : length h.seat.me.0.seen ≤ room_of_a_pass * 256
    pub rest : h.seat.me.0.flight ≡ at_rest
    pub kept : h.added ≡ true → keeps h.service h.seat.me.0.seen

  -- it is a turn of this cell
  pub record IsHeldOf (legal : T → List (Entry O R) → Type 0) (start_of : S → T) (history_of : S → List (Entry O R))
      (keeps : S → List (Entry O R) → Type 0) (c : Cell S O R T) (h : Held S O R T) : Type 0 where
    pub table : h.seat.table_id ≡ c.table.shared.table_id
    pub words : c.table.shared.table_id.words ≡ 3 + h.seat.me.0.words
    pub held : IsHeld legal start_of history_of keeps h
    pub same_start : start_of h.service ≡ start_of (given_to c)

  -- the same turn of the same player
  pub record IsSameTurn (g h : Held S O R T) : Type 0 where
    pub table : h.seat.table_id ≡ g.seat.table_id
    pub view : h.seat.me.0 ≡ g.seat.me.0
    pub who : h.who ≡ g.who

  -- no entry was added and no look was made, and the room is as it was
  pub record IsUnspent (g h : Held S O R T) : Type 0 where
    pub added : h.added ≡ false
    pub room : h.room ≡ g.room
    pub looked : h.looked ≡ g.looked

  -- an entry was added, and the room is less by one
  pub record IsSpent (g h : Held S O R T) : Type 0 where
    pub added : h.added ≡ true
    pub room : h.room + 1 ≡ g.room

  -- what a turn has left after an answer of its service
  abbrev pub Spends : {E : Type 0} → Held S O R T → Held S O R T → Result (Option R) E → Type 0
  Spends g h (Ok (Some reply)) = IsSpent g h
  Spends g h (Ok None) = IsUnspent g h
  Spends g h (Err e) = IsUnspent g h

  -- the service has an entry more than the seat with its turn has seen, and it may be published
  pub record IsReady (legal : T → List (Entry O R) → Type 0) (start_of : S → T) (history_of : S → List (Entry O R))
      (service : S) (v : View O R T) : Type 0 where
    pub ticket : ℕ
    pub entry : Entry O R
    pub holds : v.stage ≡ Holding ticket
    pub start : v.start ≡ Some (start_of service)
    pub longer : history_of service ≡ v.seen ++ entry ∷ []
    pub lawful : legal (start_of service) (history_of service)
    pub mine : is_by v.players entry ≡ true
    pub room : v.made + 1 ≤ room_of_a_pass * length v.players
    pub short : length v.seen ≤ room_of_a_pass * 256
    pub rest : v.flight ≡ at_rest

  -- that entry is in flight
  pub record IsPublishing (legal : T → List (Entry O R) → Type 0) (start_of : S → T) (history_of : S → List (Entry O R))
      (service : S) (v : View O R T) : Type 0 where
    pub ticket : ℕ
    pub entry : Entry O R
    pub holds : v.stage ≡ Holding ticket
    pub start : v.start ≡ Some (start_of service)
    pub pending : v.flight.pending ≡ entry ∷ []
    pub longer : history_of service ≡ v.seen ++ v.flight.pending
    pub lawful : legal (start_of service) (history_of service)
    pub mine : is_by v.players entry ≡ true
    pub room : v.made + 1 ≤ room_of_a_pass * length v.players
    pub short : length v.seen ≤ room_of_a_pass * 256

  -- of the indices below a number those that are touched are ready
  pub record IsStamped (words : ℕ) (touched : List ℕ) (old new : Me (Option S) (View O R T)) : Type 0 where
    pub stamped : List ℕ
    pub now : new ≡ (with_stamped old.0 stamped, old.1)
    pub each : (index : ℕ) → index < words → is_touched touched index ≡ true → is_touched stamped index ≡ true

  -- the seat has the service out whose history it has seen, and may give it back
  pub record MayPass (fits : S → T → List (Entry O R) → Type 0) (m : Me (Option S) (View O R T)) : Type 0 where
    pub ticket : ℕ
    pub service : S
    pub holds : m.0.stage ≡ Holding ticket
    pub out : m.1 ≡ out_with service
    pub fit : (start : T) → m.0.start ≡ Some start → fits service start m.0.seen
    pub rest : m.0.flight ≡ at_rest

  -- a new pass of this player
  pub record IsNewPass (legal : T → List (Entry O R) → Type 0)
      (start_of : S → T) (c : Cell S O R T) (w : Who) (p : Pass S O R T) : Type 0 where
    pub of_cell : IsPassOf legal start_of c p
    pub who : p.who ≡ w
    pub players : p.seat.me.0.players ≡ w ∷ []
    pub seen : p.seat.me.0.seen ≡ []
    pub holds : p.seat.me.0.holds ≡ 0
    pub room : p.room ≡ room_of_a_pass

  -- one new pass for each player, in order
  abbrev pub AreNewPasses : (T → List (Entry O R) → Type 0) → (S → T) → Cell S O R T → List Who → List (Pass S O R T) → Type 0
  AreNewPasses legal start c [] [] = Unit {0}
  AreNewPasses legal start c [] (p ∷ passes) = ⊥
  AreNewPasses legal start c (who ∷ players) [] = ⊥
  AreNewPasses legal start c (who ∷ players) (p ∷ passes) =
      IsNewPass legal start c who p × AreNewPasses legal start c players passes
