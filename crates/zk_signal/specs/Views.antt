-- Inner: no contract of a top call is made of this file.
-- What a seat at the table of a shared signal knows, and how that changes.
use Rattle.std.specs.Prelude.{ℕ, max, List, [], ◌∷◌, ◌++◌, map}
use Rattle.zk_signal.specs.declared.views.View.{View}
use Rattle.zk_signal.specs.Counts.{greatest}
use Rattle.zk_signal.specs.Words.{stamp_in}

-- a seat that stands for these players and has written and found nothing
abbrev pub opened : List ℕ → View
opened players = record { players = players; drawn = []; writes = []; looks = [] }

-- a seat for which a stamp was drawn
abbrev pub drawing : View → ℕ → View
drawing v stamp = record v { drawn = stamp ∷ [] }

-- a seat whose write has settled
abbrev pub settled : View → ℕ → View
settled v word = record v { drawn = []; writes = v.writes ++ word ∷ [] }

-- a seat that has found a word
abbrev pub looked : View → ℕ → View
looked v word = record v { looks = v.looks ++ word ∷ [] }

-- all of the players but the first
abbrev pub but_first : List ℕ → List ℕ
but_first [] = []
but_first (player ∷ others) = others

-- the first of the players alone
abbrev pub first_alone : List ℕ → List ℕ
first_alone [] = []
first_alone (player ∷ others) = player ∷ []

-- what is left of a seat when its first player gets a seat of its own
abbrev pub dealt_from : View → View
dealt_from v = record v { players = but_first v.players }

-- the seat of that player
abbrev pub dealt : View → View
dealt v = opened (first_alone v.players)

-- two seats in one
abbrev pub joined : View → View → View
joined v w = record {
  players = v.players ++ w.players;
  drawn = v.drawn ++ w.drawn;
  writes = v.writes ++ w.writes;
  looks = v.looks ++ w.looks;
}

-- what is left of a seat that was joined into another
abbrev pub spent : View
spent = opened []

-- the greatest stamp that a seat has written or found
abbrev pub top_of : View → ℕ
top_of v = max (greatest (map stamp_in v.writes)) (greatest (map stamp_in v.looks))
