-- Inner: no contract of a top call is made of this file.
use Rattle.std.specs.Prelude.{◌≡◌, ℕ, Some, List, slice_get}
use Rattle.zk_worker.specs.declared.answers.Answered.{Answered}

-- these answers have this one at a place
abbrev pub HasAt : List Answered → ℕ → Answered → Type 0
HasAt answers place answer = slice_get answers place ≡ Some answer

-- each answer of a log is at its place among those of a player
abbrev pub HaveAll : List Answered → List Answered → Type 0
HaveAll answers logged = (place : ℕ) (answer : Answered) → HasAt logged place answer → HasAt answers place answer

-- the one at a place isn't
pub record IsOtherAt (answers logged : List Answered) (place : ℕ) : Type 0 where
  pub answer : Answered
  pub there : HasAt logged place answer
  pub other : HasAt answers place answer → ⊥
