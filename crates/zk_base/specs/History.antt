use Rattle.std.specs.Prelude.{◌≡◌, ℕ, ◌<◌, Option, Some, None, Result, Ok, Err, List, [], ◌∷◌, ◌++◌, All}
use Rattle.zk_base.specs.declared.ids.Who.{Who}
use Rattle.zk_base.specs.declared.ids.Entry.{Entry}

-- one entry
abbrev pub entry : {O R : Type 0} → Who → ℕ → O → R → Entry O R
entry who step op reply = record { who = who; step = step; op = op; reply = reply }

-- the history after an attempt: one entry more where there was a reply
abbrev pub extended : {O R : Type 0} → List (Entry O R) → Who → ℕ → O → Option R → List (Entry O R)
extended h who step op None = h
extended h who step op (Some reply) = h ++ entry who step op reply ∷ []

-- an answer that comes without an entry: the operation wasn't possible, or there was no memory
abbrev pub AddsNone : {A E : Type 0} → Result (Option A) E → Type 0
AddsNone (Ok (Some made)) = ⊥
AddsNone (Ok None) = Unit {0}
AddsNone (Err e) = Unit {0}

-- the step is above the steps of this player's entries
abbrev pub IsAbove : {O R : Type 0} → List (Entry O R) → ℕ → ℕ → Type 0
IsAbove h number step = All (λ e. e.who.number ≡ number → e.step < step) h

-- each player's steps rise strictly
abbrev pub Rises : {O R : Type 0} → List (Entry O R) → Type 0
Rises [] = Unit {0}
Rises (e ∷ es) = All (λ f. f.who.number ≡ e.who.number → e.step < f.step) es × Rises es

-- an entry of a history: it, what stands before it and what stands behind it
pub record IsEntry {O R : Type 0} (h front : List (Entry O R)) (e : Entry O R) : Type 0 where
  pub rest : List (Entry O R)
  pub whole : h ≡ front ++ e ∷ rest
