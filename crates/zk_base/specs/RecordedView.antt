-- Inner: no contract of a top call is made of this file.
use Rattle.std.specs.Prelude.{ℕ, List}
use Rattle.zk_base.specs.declared.ids.Entry.{Entry}

-- what a contract sees of a recorded engine: the state that it started in, all entries so far,
-- how many entries fit beside the owed ones, and which words the last entry may have changed
pub record RecordedView (S O R : Type 0) : Type 0 where
  pub start : S
  pub history : List (Entry O R)
  pub room : ℕ
  pub touched : List ℕ
