use Rattle.std.specs.Prelude.{◌≡◌, ℕ, ◌^◌, ◌<◌, Option, Some, None, List, [], ◌∷◌, option_map, option_and_then}
use Rattle.zk_base.specs.declared.ids.Entry.{Entry}
use Rattle.zk_base.specs.declared.ids.Who.{Who}
use Rattle.zk_words.specs.Text.{line_text}
use Rattle.zk_line.specs.declared.types.Decl.{Decl}
use Rattle.zk_scenario.specs.Players.{who_of}
use Rattle.zk_trace.specs.Looks.{spot_word}
use Rattle.zk_trace.specs.Sides.{pair, sides_row, said_by_sides}
use Rattle.zk_trace.specs.SpotRead.{spot_of}

-- what stands in front of the sign of an entry: whose step it is, and what was asked
abbrev pub Asking : Type 0 → Type 0
Asking O = (Who × ℕ) × O

-- its words
abbrev pub entry_front : {O : Type 0} → List Decl → (O → List (List ℕ)) → Asking O → List (List ℕ)
entry_front decls op_words front = spot_word decls front.0.0.number front.0.1 ∷ op_words front.1

-- what those words say
abbrev pub entry_front_of : {O : Type 0} → List Decl → (List (List ℕ) → Option O) → List (List ℕ) → Option (Asking O)
entry_front_of decls op_of [] = None
entry_front_of decls op_of (word ∷ words) =
    option_and_then (λ spot. option_map (pair spot) (op_of words)) (spot_of decls word)

-- an entry, by what was asked and what was answered
abbrev pub entry_with : {O R : Type 0} → Asking O → R → Entry O R
entry_with front reply = record { who = front.0.0; step = front.0.1; op = front.1; reply = reply }

-- the line of an entry without its line feed, by the words of its operation and of its reply
abbrev pub entry_row : {O R : Type 0} → List Decl → (O → List (List ℕ)) → (R → List (List ℕ)) → Entry O R → List ℕ
entry_row decls op_words reply_words e =
    sides_row (entry_front decls op_words ((e.who, e.step), e.op)) (line_text (reply_words e.reply))

-- the entry that a line says
abbrev pub entry_of : {O R : Type 0} → List Decl → (List (List ℕ) → Option O) → (O → List ℕ → Option R) → List ℕ → Option (Entry O R)
entry_of decls op_of reply_of row =
    said_by_sides entry_with (entry_front_of decls op_of) (λ front. reply_of front.1) row

-- an entry is in form: its player is the scenario's, with its priority, its numbers fit their types, what its operation names is
-- declared, and its reply has a variant that answers the operation
pub record FitsEntry {O R : Type 0} (decls : List Decl) (FitsOp : O → Type 0) (Answers : O → R → Type 0) (e : Entry O R) : Type 0 where
  pub known : who_of decls e.who.number ≡ Some e.who
  pub step : e.step < 2 ^ 32
  pub op : FitsOp e.op
  pub reply : Answers e.op e.reply
