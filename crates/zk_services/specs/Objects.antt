-- Inner: no contract of a top call is made of this file.
use Rattle.std.specs.Prelude.{ℕ, Bool, false, Option, Some, None, List, [], length, map, option_map, option_and_then}
use Rattle.std.specs.Option.{option_map_or}
use Rattle.zk_base.specs.declared.ids.Who.{Who}
use Rattle.zk_base.specs.declared.ids.Entry.{Entry}
use Rattle.zk_base.specs.History.{entry}
use Rattle.zk_base.specs.Legal.{Machine, state_after}
use Rattle.zk_worker.specs.Families.{with_entry}

-- the state that each object started in; those of other kinds have none
abbrev pub starts_of : {V S : Type 0} → (V → S) → List (Option V) → List (Option S)
starts_of start objects = map (option_map start) objects

-- the history of an object, which is empty where it is of another kind
abbrev pub history_of : {V E : Type 0} → (V → List E) → Option V → List E
history_of history None = []
history_of history (Some service) = history service

-- the history of each object
abbrev pub histories_of : {V E : Type 0} → (V → List E) → List (Option V) → List (List E)
histories_of history objects = map (history_of history) objects

-- whether an object is of the kind, and the ids in an operation are in range there
abbrev pub is_taken : {V S O R : Type 0} → Machine S O R → (V → S) → Option V → O → Bool
is_taken m start object op = option_map_or (λ service. m.in_range (start service) op) object false

-- what an object answers, with the place of the entry
abbrev pub made_of : {V S O R : Type 0} → Machine S O R → (V → S) → (V → List (Entry O R)) →
    Option V → Who → O → Option (R × ℕ)
made_of m start history object who op =
    option_and_then (λ service. option_map (λ reply. (reply, length (history service)))
    (m.reply_of (state_after m (start service) (history service)) who op)) object

-- the histories after an attempt at an object: an entry more where it was made
abbrev pub histories_after : {O R : Type 0} → List (List (Entry O R)) → ℕ → Who → ℕ → O →
    Option (R × ℕ) → List (List (Entry O R))
histories_after histories object who step op None = histories
histories_after histories object who step op (Some made) =
    with_entry histories object (entry who step op made.0)

-- whether an operation at an object gives an entry whose room an earlier one took
abbrev pub closes_in : {V S O R : Type 0} → (S → Who → O → Bool) → Machine S O R → (V → S) → (V → List (Entry O R)) →
    Option V → Who → O → Bool
closes_in closes m start history object who op =
    option_map_or (λ service. closes (state_after m (start service) (history service)) who op) object false
