-- Inner: no contract of a top call is made of this file.
-- What a seat at the table of a cell knows, and how that changes.
use Rattle.std.specs.Prelude.{ℕ, ◌+◌, Bool, true, false, Some, None, List, [], ◌∷◌, ◌++◌}
use Rattle.zk_base.specs.declared.ids.Who.{Who}
use Rattle.zk_base.specs.declared.ids.Entry.{Entry}
use Rattle.zk_turn.specs.declared.views.Stage.{Stage}
use Rattle.zk_turn.specs.declared.views.Stage.TheVariants.{Idle, Holding}
use Rattle.zk_turn.specs.declared.views.Note.{Note}
use Rattle.zk_turn.specs.declared.views.Part.{Part}
use Rattle.zk_turn.specs.declared.views.View.{View}
use Rattle.zk_turn.specs.Players.{but_first, first_alone, longer}
use Rattle.zk_turn.specs.Words.{at_rest}

module _ {O R T : Type 0} where
  -- a seat that stands for these players and has seen nothing, at a cell whose service starts in this state and publishes
  -- so many words
  abbrev pub opened : T → ℕ → List Who → View O R T
  opened start words players = record {
    players = players;
    seen = [];
    start = Some start;
    made = 0;
    holds = 0;
    stage = Idle;
    parts = [];
    words = words;
    flight = at_rest;
    note = None;
  }

  -- a seat at another stage
  abbrev pub staged : View O R T → Stage → View O R T
  staged v stage = record v { stage = stage }

  -- a seat whose turn has come: it has seen the history found, and has one hold more
  abbrev pub holding : View O R T → ℕ → List (Entry O R) → View O R T
  holding v ticket history = record v { seen = history; holds = v.holds + 1; stage = Holding ticket; parts = []; flight = at_rest; note = None }

  -- a seat that has added an entry to the history
  abbrev pub with_entry : View O R T → List (Entry O R) → View O R T
  with_entry v history = record v { seen = history; made = v.made + 1; parts = []; flight = at_rest; note = None }

  -- what a turn leaves of a seat: with the entry, where one was added
  abbrev pub left : Bool → View O R T → List (Entry O R) → View O R T
  left false v history = v
  left true v history = with_entry v history

  -- a seat with an entry in flight, for which no word is ready
  abbrev pub in_flight : View O R T → List (Entry O R) → View O R T
  in_flight v pending = record v { flight = record { pending = pending; stamped = [] } }

  -- a seat for whose entry in flight the words of these indices are ready
  abbrev pub with_stamped : View O R T → List ℕ → View O R T
  with_stamped v indices = record v { flight = record { pending = v.flight.pending; stamped = indices } }

  -- a seat that has loaded a word
  abbrev pub noted : View O R T → Note → View O R T
  noted v note = record v { note = Some note }

  -- a seat whose look has seen this history
  abbrev pub looked : View O R T → List (Entry O R) → View O R T
  looked v history = record v { seen = history; parts = []; note = None }

  -- what is left of a seat when its first player gets a seat of its own
  abbrev pub dealt_from : View O R T → View O R T
  dealt_from v = record v { players = but_first v.players; stage = Idle; parts = []; note = None }

  -- the seat of that player
  abbrev pub dealt : View O R T → View O R T
  dealt v = record v { players = first_alone v.players; made = 0; holds = 0; stage = Idle; parts = []; note = None }

  -- a seat as it was when it was joined
  abbrev pub part_of : View O R T → Part O R
  part_of v = record { players = v.players; seen = v.seen }

  -- two seats in one
  abbrev pub joined : View O R T → View O R T → View O R T
  joined v w = record {
    players = v.players ++ w.players;
    seen = longer v.seen w.seen;
    start = v.start;
    made = v.made + w.made;
    holds = v.holds + w.holds;
    stage = Idle;
    parts = part_of v ∷ part_of w ∷ [];
    words = v.words;
    flight = at_rest;
    note = None;
  }

  -- what is left of a seat that was joined into another
  abbrev pub spent : View O R T
  spent = record {
    players = [];
    seen = [];
    start = None;
    made = 0;
    holds = 0;
    stage = Idle;
    parts = [];
    words = 0;
    flight = at_rest;
    note = None;
  }
