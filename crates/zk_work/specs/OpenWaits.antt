-- Inner: no contract of a top call is made of this file.
use Rattle.std.specs.Prelude.{◌≡◌, ℕ, ◌<◌, Bool, true, false, ◌==◌, Option, List, AllPairs, IfSome}
use Rattle.zk_model_work.specs.declared.parts.Wait.{Wait}

-- what a contract sees of the waits that aren't answered: the waits, lowest place first, how many more fit without memory,
-- and a number above all places so far
pub record OpenWaitsView : Type 0 where
  pub waits : List Wait
  pub room : ℕ
  pub next : ℕ

-- each place is below all later ones
abbrev pub Rises : List Wait → Type 0
Rises waits = AllPairs (λ v w. v.place < w.place) waits

-- a wait, if there is one, is of this place, and isn't answered
abbrev pub IsNewAt : ℕ → Option Wait → Type 0
IsNewAt place wait = IfSome wait (λ w. (w.place ≡ place) × (w.answered ≡ false))

-- it is the wait of this place
abbrev pub is_at : ℕ → Wait → Bool
is_at place w = w.place == place

-- the test passes no wait but one of this place that isn't answered
abbrev pub IsOfPlace : ℕ → (Wait → Bool) → Type 0
IsOfPlace place passes = (w : Wait) → passes w ≡ true → (w.place ≡ place) × (w.answered ≡ false)
