-- Inner: no contract of a top call is made of this file.
-- Players, and which entries of a history are theirs.
use Rattle.std.specs.Prelude.{◌≡◌, ℕ, Bool, false, ◌==◌, ◌||◌, nat_lt, if◌then◌else◌, List, [], ◌∷◌, ◌++◌, length, filter, All}
use Rattle.zk_base.specs.declared.ids.Who.{Who}
use Rattle.zk_base.specs.declared.ids.Entry.{Entry}

-- one of the players has this number
abbrev pub has : List Who → ℕ → Bool
has [] number = false
has (who ∷ others) number = (who.number == number) || has others number

-- no two of the players have one number
abbrev pub Differ : List Who → Type 0
Differ [] = Unit {0}
Differ (who ∷ others) = (has others who.number ≡ false) × Differ others

-- all of the players but the first
abbrev pub but_first : List Who → List Who
but_first [] = []
but_first (who ∷ others) = others

-- the first of the players alone
abbrev pub first_alone : List Who → List Who
first_alone [] = []
first_alone (who ∷ others) = who ∷ []

-- the most entries that one player may add
abbrev pub room_of_a_pass : ℕ
room_of_a_pass = 20000

-- the longer of two lists, and the first where they are as long
abbrev pub longer : {A : Type 0} → List A → List A → List A
longer xs ys = if nat_lt (length xs) (length ys) then ys else xs

module _ {O R : Type 0} where
  -- the entry is of one of the players
  abbrev pub is_by : List Who → Entry O R → Bool
  is_by players e = has players e.who.number

  -- the entries of the players, in their order
  abbrev pub own : List Who → List (Entry O R) → List (Entry O R)
  own players history = filter (is_by players) history

  -- a history goes on from what was seen of it with entries of others than the players
  pub record GoesOn (players : List Who) (seen history : List (Entry O R)) : Type 0 where
    pub later : List (Entry O R)
    pub longer : history ≡ seen ++ later
    pub others : All (λ e. is_by players e ≡ false) later
