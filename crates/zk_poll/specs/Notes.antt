-- Inner: no contract of a top call is made of this file.
use Rattle.std.specs.Prelude.{ℕ, Bool, true, ◌==◌, if◌then◌else◌, int_lt, Option, Some, None, List, [], ◌∷◌}
use Rattle.std.specs.List.{list_any}
use Rattle.zk_base.specs.declared.ids.Who.{Who}
use Rattle.zk_poll.specs.declared.notes.Member.{Member}

-- what a contract sees of notes: who is registered, in the order of registration, and how many more fit without memory
pub record NotesView : Type 0 where
  pub members : List Member
  pub room : ℕ

-- it is registered at this place
abbrev pub is_at : ℕ → Member → Bool
is_at place m = m.place == place

-- somebody is
abbrev pub is_registered : ℕ → List Member → Bool
is_registered place members = list_any (is_at place) members

-- what is told of one: who it is, and whether it is noted
abbrev pub told : Member → Who × Bool
told m = (m.who, m.noted)

-- whoever of two is noted first: the earlier one, unless the later one has a lower priority number
abbrev pub sooner_of : Option Member → Member → Option Member
sooner_of None m = Some m
sooner_of (Some first) m = if int_lt m.who.prio first.who.prio then Some m else Some first

-- and who is noted already isn't noted
abbrev pub sooner : Option Member → Member → Option Member
sooner best m = if m.noted then best else sooner_of best m

-- the first to be noted, of the best so far and of these
abbrev pub first_to_note : Option Member → List Member → Option Member
first_to_note best [] = best
first_to_note best (m ∷ ms) = first_to_note (sooner best m) ms

-- who is registered at this place is noted
abbrev pub noted_at : ℕ → List Member → List Member
noted_at place [] = []
noted_at place (m ∷ ms) = if m.place == place then record m { noted = true } ∷ ms else m ∷ noted_at place ms
