-- Inner: no contract of a top call is made of this file.
-- What one call by a turn of its own does to what its pass has seen.
use Rattle.std.specs.Prelude.{◌≡◌, ℕ, Option, Some, None, Result, Ok, Err, List, [], ◌∷◌, ◌++◌, length}
use Rattle.zk_base.specs.declared.ids.Who.{Who}
use Rattle.zk_base.specs.declared.ids.Entry.{Entry}
use Rattle.zk_base.specs.History.{entry}
use Rattle.zk_base.specs.Legal.{Machine, state_after}
use Rattle.zk_turn.specs.Players.{GoesOn}

-- how many entries an answer comes with: one where there is a reply
abbrev pub entries_made : {A E : Type 0} → Result (Option A) E → ℕ
entries_made (Ok (Some made)) = 1
entries_made (Ok None) = 0
entries_made (Err e) = 0

module _ {S O R : Type 0} (m : Machine S O R) (start : S) (who : Who) (step : ℕ) (op : O) where
  -- an entry was made: at what was found, which goes on from what was seen with entries of others, the machine gives the
  -- reply, and the entry comes there
  pub record IsEntered (reply : R) (place : ℕ) (old new : List (Entry O R)) : Type 0 where
    pub found : List (Entry O R)
    pub since : GoesOn (who ∷ []) old found
    pub replied : m.reply_of (state_after m start found) who op ≡ Some reply
    pub at_place : place ≡ length found
    pub entered : new ≡ found ++ entry who step op reply ∷ []

  -- no entry was made, since the machine says at what was found that the operation isn't possible
  pub record IsImpossible (old new : List (Entry O R)) : Type 0 where
    pub since : GoesOn (who ∷ []) old new
    pub impossible : m.reply_of (state_after m start new) who op ≡ None

  -- what a call answers, and what its pass has seen then
  abbrev pub HasCalled : {E : Type 0} → List (Entry O R) → List (Entry O R) → Result (Option (R × ℕ)) E → Type 0
  HasCalled old new (Ok (Some made)) = IsEntered made.0 made.1 old new
  HasCalled old new (Ok None) = IsImpossible old new
  HasCalled old new (Err e) = GoesOn (who ∷ []) old new
