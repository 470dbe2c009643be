-- Inner: no contract of a top call is made of this file.
-- The cells of the objects of a kind, by object number, and a caller's passes of them.
use Rattle.std.specs.Prelude.{◌≡◌, ℕ, Bool, false, Option, Some, None, Result, Ok, Err, List, map, slice_get, option_map}
use Rattle.std.specs.List.{AllZip}
use Rattle.std.specs.Option.{option_map_or}
use Rattle.zk_base.specs.declared.ids.Who.{Who}
use Rattle.zk_base.specs.declared.ids.Entry.{Entry}
use Rattle.zk_base.specs.declared.errors.NoMemory.{NoMemory}
use Rattle.zk_base.specs.Legal.{Machine}
use Rattle.zk_base.specs.History.{entry}
use Rattle.zk_turn.specs.declared.pass.Pass.{Pass}
use Rattle.zk_turn.specs.declared.cell.Cell.{Cell}
use Rattle.zk_turn.specs.Passes.{given_to}
use Rattle.zk_worker.specs.declared.steps.StepReply.{StepReply}
use Rattle.zk_worker.specs.Families.{Family, start_of, with_entry, answer_at, EachGrew}
use Rattle.zk_visit.specs.Seats.{IsAt, seen_at, holds_at}

module _ {S O R T : Type 0} where
  -- the state that each cell was made in; an object of another kind has none
  abbrev pub starts_in : (S → T) → List (Option (Cell S O R T)) → List (Option T)
  starts_in start cells = map (option_map (λ c. start (given_to c))) cells

  -- the machine of a kind, and these states
  abbrev pub family : Machine T O R → (S → T) → List (Option (Cell S O R T)) → Family T O R
  family m start cells = record { machine = m; starts = starts_in start cells }

  -- what the passes have seen
  abbrev pub seen_all : List (Option (Pass S O R T)) → List (List (Entry O R))
  seen_all passes = map seen_at passes

  -- how many turns the one at a number had
  abbrev pub holds_in : List (Option (Pass S O R T)) → ℕ → ℕ
  holds_in passes object = option_map_or holds_at (slice_get passes object) 0

  -- a pass of the cell where there is a cell; no looks are made there
  abbrev pub IsSeat : (T → List (Entry O R) → Type 0) → (S → T) → Who → Option (Cell S O R T) →
      Option (Pass S O R T) → Type 0
  IsSeat legal start who None None = Unit {0}
  IsSeat legal start who None (Some p) = ⊥
  IsSeat legal start who (Some c) p = IsAt legal start c who 0 p

  -- one for each
  abbrev pub AreSeats : (T → List (Entry O R) → Type 0) → (S → T) → Who → List (Option (Cell S O R T)) →
      List (Option (Pass S O R T)) → Type 0
  AreSeats legal start who cells passes = AllZip (IsSeat legal start who) cells passes

  -- whether the ids in an operation are in range at a cell
  abbrev pub takes_in : Machine T O R → (S → T) → Option (Cell S O R T) → O → Bool
  takes_in m start cell op = option_map_or (λ c. m.in_range (start (given_to c)) op) cell false

module _ {O R T : Type 0} where
  -- the entry was made at the object of this number, where these were the histories
  pub record IsEnteredAt (f : Family T O R) (who : Who) (step object : ℕ) (op : O) (reply : R) (place : ℕ)
      (old new : List (List (Entry O R))) : Type 0 where
    pub found : List (List (Entry O R))
    pub since : EachGrew who.number old found
    pub replied : (tell : ℕ → R → ℕ → StepReply) → answer_at f found tell who object op ≡ Some (tell object reply place)
    pub entered : new ≡ with_entry found object (entry who step op reply)

  -- what an attempt at the object of this number answers, and what is seen then
  abbrev pub VisitedAt : Family T O R → Who → ℕ → ℕ → O → List (List (Entry O R)) → List (List (Entry O R)) →
      Result (Option (R × ℕ)) NoMemory → Type 0
  VisitedAt f who step object op old new (Ok (Some made)) = IsEnteredAt f who step object op made.0 made.1 old new
  VisitedAt f who step object op old new (Ok None) =
      EachGrew who.number old new × ((tell : ℕ → R → ℕ → StepReply) → answer_at f new tell who object op ≡ None)
  VisitedAt f who step object op old new (Err e) = EachGrew who.number old new
