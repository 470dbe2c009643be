-- Inner: no contract of a top call is made of this file.
use Rattle.std.specs.Prelude.{◌≡◌, ℕ, ◌+◌, ◌≤◌, Bool, true, Option, Some, None, is_some, Result, Ok, Err, List}
use Rattle.zk_base.specs.declared.ids.Who.{Who}
use Rattle.zk_base.specs.declared.ids.Entry.{Entry}
use Rattle.zk_base.specs.Legal.{Machine, state_after, IsLegal}

-- what one operation answers, and which state it leaves: nothing changes where it isn't possible and where there is no memory
abbrev pub Steps : {S O R E : Type 0} → Machine S O R → S → Who → O → Result (Option (R × R)) E → (S → Type 0) → Type 0
Steps m s who op (Err e) after = after s
Steps m s who op (Ok None) after = (m.reply_of s who op ≡ None) × after s
Steps m s who op (Ok (Some two)) after = (m.reply_of s who op ≡ Some two.0) × (two.1 ≡ two.0) × after (m.next s who op)

-- each entry is counted, what is in range stays so, an operation adds at most two owed entries, and a closing one gives one
pub record CountsEntries {S O R : Type 0} (m : Machine S O R) (entries owed : S → ℕ)
    (closes : S → Who → O → Bool) : Type 0 where
  pub counts : (s : S) (who : Who) (op : O) → entries (m.next s who op) ≡ entries s + 1
  pub ranges : (s : S) (who : Who) (op : O) → m.in_range (m.next s who op) ≡ m.in_range s
  pub adds : (s : S) (who : Who) (op : O) → owed (m.next s who op) ≤ owed s + 2
  pub gives : (s : S) (who : Who) (op : O) → closes s who op ≡ true → is_some (m.reply_of s who op) ≡ true →
      1 + owed (m.next s who op) ≤ owed s

-- an engine beside its history: it stands for the state after the history, which is legal, and the owed entries have their room
pub record IsRecorded {S O R : Type 0} (m : Machine S O R) (owed entries : S → ℕ) (stands : S → Type 0)
    (start : S) (past : List (Entry O R)) (long capacity : ℕ) : Type 0 where
  pub stands_for : stands (state_after m start past)
  pub first : entries start ≡ 0
  pub legal : IsLegal m start past
  pub room : long + owed (state_after m start past) ≤ capacity
