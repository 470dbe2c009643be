use Rattle.std.specs.Prelude.{◌≡◌, Bool, true, if◌then◌else◌, Option, Some, is_some, List, [], ◌∷◌, All}
use Rattle.zk_base.specs.declared.ids.Who.{Who}
use Rattle.zk_base.specs.declared.ids.Entry.{Entry}
use Rattle.zk_base.specs.History.{Rises}

-- a machine: its reply in a state, or nothing where the operation isn't possible; the state after an operation that is;
-- and whether the ids in an operation are in range
pub record Machine (S O R : Type 0) : Type 0 where
  pub reply_of : S → Who → O → Option R
  pub next : S → Who → O → S
  pub in_range : S → O → Bool

-- the state after an operation with this reply: nothing changes where there is none
abbrev pub after_reply : {S O R : Type 0} → Machine S O R → S → Who → O → Option R → S
after_reply m s who op reply = if is_some reply then m.next s who op else s

-- the state after a history
abbrev pub state_after : {S O R : Type 0} → Machine S O R → S → List (Entry O R) → S
state_after m s [] = s
state_after m s (e ∷ es) = state_after m (m.next s e.who e.op) es

-- each entry has the reply that the machine gives in the state after the entries before it
abbrev pub Replays : {S O R : Type 0} → Machine S O R → S → List (Entry O R) → Type 0
Replays m s [] = Unit {0}
Replays m s (e ∷ es) = (m.reply_of s e.who e.op ≡ Some e.reply) × Replays m (m.next s e.who e.op) es

-- the ids in each operation are in range
abbrev pub AreInRange : {S O R : Type 0} → Machine S O R → S → List (Entry O R) → Type 0
AreInRange m start h = All (λ e. m.in_range start e.op ≡ true) h

-- a history that the machine lets stand from this state on
abbrev pub IsLegal : {S O R : Type 0} → Machine S O R → S → List (Entry O R) → Type 0
IsLegal m start h = Replays m start h × Rises h × AreInRange m start h
