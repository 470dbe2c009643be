-- Inner: no contract of a top call is made of this file.
use Rattle.std.specs.Prelude.{◌≡◌, Bool, true, false, Some, List, [], ◌∷◌, ◌++◌}
use Rattle.zk_base.specs.declared.ids.Entry.{Entry}
use Rattle.zk_base.specs.Legal.{Machine, state_after}

-- whether an entry is what a machine answers behind a history, which then has it
abbrev pub Answers : {S O R : Type 0} → Machine S O R → S → List (Entry O R) → Entry O R → List (Entry O R) → Bool →
    Type 0
Answers m start h e after true = (m.reply_of (state_after m start h) e.who e.op ≡ Some e.reply) × (after ≡ h ++ e ∷ [])
Answers m start h e after false = m.reply_of (state_after m start h) e.who e.op ≡ Some e.reply → ⊥
