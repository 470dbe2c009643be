-- Inner: no contract of a top call is made of this file.
-- What a pass at the queue of a subscriber knows, and how that changes.
use Rattle.std.specs.Prelude.{ℕ, ◌+◌, List, [], ◌∷◌, ◌++◌, true, false}
use Rattle.zk_msgsub.specs.declared.note.Note.{Note}
use Rattle.zk_msgsub.specs.declared.views.Pushed.{Pushed}
use Rattle.zk_msgsub.specs.declared.views.View.{View}
use Rattle.zk_msgsub.specs.Notes.{Message}

-- the list of one publisher
abbrev pub pushed_by : ℕ → List Message → Pushed
pushed_by p ms = record { publisher = p; messages = ms }

-- the taker's, before anything is pushed, with so many seats dealt
abbrev pub dealing : ℕ → ℕ → ℕ → View
dealing publishers each n = record {
  publishers = publishers;
  each = each;
  lists = [];
  fulls = 0;
  takes = true;
  dealt = n;
  taken = [];
  empties = 0;
}

-- before a seat is dealt
abbrev pub undealt : ℕ → ℕ → View
undealt publishers each = dealing publishers each 0

-- the one pass of a new queue
abbrev pub opened : View
opened = undealt 0 0

-- what is left of a pass that was joined into another, and of one that was made for a note alone
abbrev pub spent : View
spent = record { publishers = 0; each = 0; lists = []; fulls = 0; takes = false; dealt = 0; taken = []; empties = 0 }

-- before a seat is dealt: one publisher more, twice as many messages for each, one more for each
abbrev pub one_publisher_more : View → View
one_publisher_more v = record v { publishers = v.publishers + 1 }

abbrev pub doubled : View → View
doubled v = record v { each = v.each + v.each }

abbrev pub one_send_more : View → View
one_send_more v = record v { each = v.each + 1 }

-- the next publisher's seat is dealt: what is left, and the seat's, which has pushed nothing
abbrev pub dealt_from : View → View
dealt_from v = record v { dealt = v.dealt + 1 }

abbrev pub seat_of : ℕ → ℕ → ℕ → View
seat_of publishers each p = record spent { publishers = publishers; each = each; lists = pushed_by p [] ∷ [] }

abbrev pub dealt : View → View
dealt v = seat_of v.publishers v.each v.dealt

-- it found the queue full once more
abbrev pub found_full : View → View
found_full v = record v { fulls = v.fulls + 1 }

-- it found the queue empty once more
abbrev pub found_nothing : View → View
found_nothing v = record v { empties = v.empties + 1 }

-- the taker's has taken one note more
abbrev pub taking : View → Note → View
taking v n = record v { taken = v.taken ++ n ∷ [] }

-- it has these lists
abbrev pub listing : View → List Pushed → View
listing v ls = record v { lists = ls }

-- two passes in one
abbrev pub joined : View → View → View
joined v u = record v { lists = v.lists ++ u.lists; fulls = v.fulls + u.fulls }

-- it has taken these notes
abbrev pub having_taken : View → List Note → View
having_taken v notes = record v { taken = notes }
