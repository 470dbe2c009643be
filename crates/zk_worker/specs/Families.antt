use Rattle.std.specs.Prelude.{ℕ, zero, suc, Bool, false, Option, is_some, List, [], ◌∷◌, ◌++◌, map, slice_get, option_and_then}
use Rattle.std.specs.List.{AllZip}
use Rattle.std.specs.Option.{option_map_or}
use Rattle.zk_base.specs.declared.ids.Who.{Who}
use Rattle.zk_base.specs.declared.ids.Entry.{Entry}
use Rattle.zk_base.specs.Legal.{Machine, state_after}
use Rattle.zk_line.specs.declared.types.Decl.{Decl}
use Rattle.zk_worker.specs.declared.steps.StepReply.{StepReply}
use Rattle.zk_worker.specs.Single.{answer_in, OthersGrew}

-- the objects of a kind of which there are many: their machine, and by object number the state that each starts in; an
-- object of another kind has none
pub record Family (S O R : Type 0) : Type 0 where
  pub machine : Machine S O R
  pub starts : List (Option S)

-- the state that an object starts in, if it is of the kind
abbrev pub start_of : {S O R : Type 0} → Family S O R → ℕ → Option S
start_of family object = option_and_then (λ start. start) (slice_get family.starts object)

-- no entry was made at any of these objects
abbrev pub no_entries : {A O R : Type 0} → List A → List (List (Entry O R))
no_entries objects = map (λ object. []) objects

-- the entry at a place of an object's history
abbrev pub entry_at : {O R : Type 0} → List (List (Entry O R)) → ℕ → ℕ → Option (Entry O R)
entry_at histories object place =
    option_and_then (λ h. slice_get h place) (slice_get histories object)

-- the histories with an entry more in that of an object
abbrev pub with_entry : {O R : Type 0} → List (List (Entry O R)) → ℕ → Entry O R →
    List (List (Entry O R))
with_entry [] object e = []
with_entry (h ∷ hs) zero e = (h ++ e ∷ []) ∷ hs
with_entry (h ∷ hs) (suc object) e = h ∷ with_entry hs object e

-- each history grew by entries of other players than the one of this number
abbrev pub EachGrew : {O R : Type 0} → ℕ → List (List (Entry O R)) → List (List (Entry O R)) →
    Type 0
EachGrew number old new = AllZip (OthersGrew number) old new

-- what an object answers to an operation after its history, if it is of the kind and the operation is possible
abbrev pub answer_at : {S O R : Type 0} → Family S O R → List (List (Entry O R)) →
    (ℕ → R → ℕ → StepReply) → Who → ℕ → O → Option StepReply
answer_at family histories step_reply who object op =
    option_and_then (λ start.
    option_and_then (λ h. answer_in family.machine start h (step_reply object) who op)
    (slice_get histories object)) (start_of family object)

-- whether an operation at an object gives an entry whose room an earlier one took
abbrev pub closes_at : {S O R : Type 0} → (S → Who → O → Bool) → Family S O R → List (List (Entry O R)) →
    Who → ℕ → O → Bool
closes_at closes family histories who object op =
    option_map_or (λ start.
    option_map_or (λ h. closes (state_after family.machine start h) who op) (slice_get histories object) false)
    (start_of family object) false

-- whether an object is of the kind, and the ids in an operation are in range there
abbrev pub takes_at : {S O R : Type 0} → Family S O R → ℕ → O → Bool
takes_at family object op =
    option_map_or (λ start. family.machine.in_range start op) (start_of family object) false

-- whether an object is declared as one of the kind: its declaration says in which state it starts
abbrev pub is_declared : {S : Type 0} → (Decl → Option S) → List Decl → ℕ → Bool
is_declared start decls object =
    option_map_or (λ decl. is_some (start decl)) (slice_get decls object) false
