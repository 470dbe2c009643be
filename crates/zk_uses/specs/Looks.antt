-- Inner: no contract of a top call is made of this file.
-- What those who look at a shared service have found.
use Rattle.std.specs.Prelude.{◌≡◌, ℕ, ◌+◌, ◌≤◌, List, [], ◌∷◌, length, take, All, vec_capacity}
use Rattle.zk_base.specs.declared.ids.Who.{Who}
use Rattle.zk_base.specs.declared.ids.Entry.{Entry}
use Rattle.zk_base.specs.Legal.{Machine, IsLegal, state_after}
use Rattle.zk_turn.specs.declared.cell.Cell.{Cell}
use Rattle.zk_turn.specs.declared.word.Look.{Look}
use Rattle.zk_turn.specs.Passes.{IsNewPass, IsPassOf, given_to, pass_players, pass_room, pass_seen}
use Rattle.zk_turn.specs.Players.{room_of_a_pass}
use Rattle.zk_uses.specs.declared.looking.Looker.{Looker}

module _ {S O R T : Type 0} (legal : T → List (Entry O R) → Type 0) (start_of : S → T) (cell : Cell S O R T) (times : ℕ) where
  -- a looker has a new pass of this cell, no look yet, and room for so many
  pub record IsReady (looker : Looker S O R T) : Type 0 where
    pub pass : IsNewPass legal start_of cell looker.who looker.pass
    pub none : looker.looks.items ≡ []
    pub room : times ≤ vec_capacity looker.looks

  -- two lookers have
  pub record AreReady (first second : Looker S O R T) : Type 0 where
    pub one : IsReady first
    pub other : IsReady second

module _ {S O R T : Type 0} where
  -- so many looks are kept, each of which took room of the pass
  pub record KeptLooks (times : ℕ) (looker : Looker S O R T) : Type 0 where
    pub count : length looker.looks.items ≡ times
    pub room : pass_room looker.pass + times ≡ room_of_a_pass

module _ {S O R T : Type 0} (m : Machine T O R) (start_of : S → T) (word : T → ℕ → ℕ) (cell : Cell S O R T) (index : ℕ) where
  -- a look has found the word of the index after as many entries of this history as it says
  pub record IsLookAt (history : List (Entry O R)) (look : Look) : Type 0 where
    pub within : look.at ≤ length history
    pub found : look.word ≡ word (state_after m (start_of (given_to cell)) (take look.at history)) index

  -- the looker of this player has its pass, and its looks are of what the pass has seen
  pub record HasLooked (who : Who) (looker : Looker S O R T) : Type 0 where
    pub player : looker.who ≡ who
    pub own : IsPassOf (IsLegal m) start_of cell looker.pass
    pub players : pass_players looker.pass ≡ who ∷ []
    pub looks : All (IsLookAt (pass_seen looker.pass)) looker.looks.items
