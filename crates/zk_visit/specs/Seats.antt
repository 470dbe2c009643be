-- Inner: no contract of a top call is made of this file.
-- A caller's pass of one cell, and one attempt with it.
use Rattle.std.specs.Prelude.{◌≡◌, ℕ, ◌+◌, ◌≤◌, Option, Some, None, Result, Ok, Err, List, [], ◌∷◌, ◌++◌, length}
use Rattle.zk_base.specs.declared.ids.Who.{Who}
use Rattle.zk_base.specs.declared.ids.Entry.{Entry}
use Rattle.zk_base.specs.declared.errors.NoMemory.{NoMemory}
use Rattle.zk_base.specs.Legal.{Machine, state_after}
use Rattle.zk_base.specs.History.{entry, IsAbove}
use Rattle.zk_turn.specs.declared.pass.Pass.{Pass}
use Rattle.zk_turn.specs.declared.cell.Cell.{Cell}
use Rattle.zk_turn.specs.Players.{room_of_a_pass}
use Rattle.zk_turn.specs.Passes.{IsPassOf, pass_players, pass_seen, pass_holds, pass_room, pass_who}
use Rattle.zk_worker.specs.Single.{OthersGrew}

module _ {S O R T : Type 0} where
  -- what the pass has seen; of a service that isn't there nothing is
  abbrev pub seen_at : Option (Pass S O R T) → List (Entry O R)
  seen_at None = []
  seen_at (Some p) = pass_seen p

  -- how many turns it had
  abbrev pub holds_at : Option (Pass S O R T) → ℕ
  holds_at None = 0
  holds_at (Some p) = pass_holds p

  -- it is a pass of this cell, and stands for this player alone, whose looks here are of steps below a number; it has room for
  -- all steps from the first on that is above its entries and those looks
  pub record IsOwn (legal : T → List (Entry O R) → Type 0) (start : S → T) (c : Cell S O R T) (who : Who) (looked : ℕ)
      (p : Pass S O R T) : Type 0 where
    pub of_cell : IsPassOf legal start c p
    pub player : pass_who p ≡ who
    pub only : pass_players p ≡ who ∷ []
    pub room : (next : ℕ) → IsAbove (pass_seen p) who.number next → looked ≤ next → room_of_a_pass ≤ pass_room p + next

  -- there is one
  abbrev pub IsAt : (T → List (Entry O R) → Type 0) → (S → T) → Cell S O R T → Who → ℕ → Option (Pass S O R T) → Type 0
  IsAt legal start c who looked None = ⊥
  IsAt legal start c who looked (Some p) = IsOwn legal start c who looked p

module _ {O R T : Type 0} where
  -- the entry was made at this history
  pub record IsEntered (m : Machine T O R) (start : T) (who : Who) (step : ℕ) (op : O) (reply : R) (place : ℕ)
      (old new : List (Entry O R)) : Type 0 where
    pub found : List (Entry O R)
    pub since : OthersGrew who.number old found
    pub replied : m.reply_of (state_after m start found) who op ≡ Some reply
    pub at_place : place ≡ length found
    pub entered : new ≡ found ++ entry who step op reply ∷ []

  -- what an attempt at a service answers, and what its pass has seen then
  abbrev pub Visited : Machine T O R → T → Who → ℕ → O → List (Entry O R) → List (Entry O R) →
      Result (Option (R × ℕ)) NoMemory → Type 0
  Visited m start who step op old new (Ok (Some made)) = IsEntered m start who step op made.0 made.1 old new
  Visited m start who step op old new (Ok None) =
      OthersGrew who.number old new × (m.reply_of (state_after m start new) who op ≡ None)
  Visited m start who step op old new (Err e) = OthersGrew who.number old new
