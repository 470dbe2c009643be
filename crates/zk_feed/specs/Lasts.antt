-- Inner: no contract of a top call is made of this file.
-- The last seats of lines of them.
use Rattle.std.specs.Prelude.{◌≡◌, ℕ, Some, List, [], ◌∷◌, ◌++◌, length, slice_get, Vec}
use Rattle.std.specs.Global.{Global}
use Rattle.zk_msgsub.specs.declared.seats.PubSeat.{PubSeat}

-- the line without its last seat
pub record IsShorter (old new : Vec PubSeat Global) (last : PubSeat) : Type 0 where
  pub items : old.items ≡ new.items ++ last ∷ []

-- each line lost its last seat, and these are they
pub record HasTaken (old new : List (Vec PubSeat Global)) (lasts : List PubSeat) : Type 0 where
  pub many : length new ≡ length old
  pub count : length lasts ≡ length old
  pub each : (k : ℕ) (o n : Vec PubSeat Global) (x : PubSeat) → slice_get old k ≡ Some o → slice_get new k ≡ Some n →
      slice_get lasts k ≡ Some x → IsShorter o n x

-- a list from its last to its first
abbrev pub backwards : {A : Type 0} → List A → List A
backwards [] = []
backwards (x ∷ xs) = backwards xs ++ x ∷ []
