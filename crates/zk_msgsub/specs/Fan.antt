-- Inner: no contract of a top call is made of this file.
-- The machine of a fan: who is listed, and what each operation answers and changes.
use Rattle.std.specs.Prelude.{ℕ, ◌+◌, Bool, true, not, ◌==◌, ◌&&◌, nat_lt, if◌then◌else◌, Option, Some, None, List, [], ◌∷◌, ◌++◌, filter}
use Rattle.std.specs.List.{list_any, list_all}
use Rattle.zk_base.specs.declared.ids.Who.{Who}
use Rattle.zk_base.specs.Legal.{Machine}
use Rattle.zk_base.specs.Limits.{most_few}
use Rattle.zk_msgsub.specs.declared.fan_state.FanOp.{FanOp}
use Rattle.zk_msgsub.specs.declared.fan_state.FanOp.TheVariants.{Add, Remove, Open}
use Rattle.zk_msgsub.specs.declared.fan_state.FanReply.{FanReply}
use Rattle.zk_msgsub.specs.declared.fan_state.FanReply.TheVariants.{Done, Already, Inval, Subs}

-- the state of a fan: the subscribers that are listed, in order, and the number of entries so far
pub record Roster : Type 0 where
  pub listed : List ℕ
  pub entries : ℕ

-- the state before the first entry
abbrev pub new_fan : List ℕ → Roster
new_fan first = record { listed = first; entries = 0 }

-- the number is in the list
abbrev pub is_in : List ℕ → ℕ → Bool
is_in ns n = list_any (λ m. m == n) ns

-- no number is in the list twice
abbrev pub is_once_each : List ℕ → Bool
is_once_each [] = true
is_once_each (n ∷ ns) = not (is_in ns n) && is_once_each ns

-- a subscriber is a number that a short list has room for: 0 to 7
abbrev pub is_subscriber : ℕ → Bool
is_subscriber n = nat_lt n most_few

-- these are different subscribers
abbrev pub are_subscribers : List ℕ → Bool
are_subscribers ns = list_all is_subscriber ns && is_once_each ns

-- the list without a number
abbrev pub without : ℕ → List ℕ → List ℕ
without n ns = filter (λ m. not (m == n)) ns

-- the reply to each operation: all are always possible
abbrev pub fan_answer : List ℕ → FanOp → FanReply
fan_answer listed (Add n) = if is_in listed n then Already else Done
fan_answer listed (Remove n) = if is_in listed n then Done else Inval
fan_answer listed Open = Subs listed

abbrev pub fan_reply : Roster → Who → FanOp → Option FanReply
fan_reply s who op = Some (fan_answer s.listed op)

-- whom the reply to an open tells
abbrev pub subs_told : FanReply → Option (List ℕ)
subs_told (Subs listed) = Some listed
subs_told reply = None

-- who is listed after each operation: one that is added comes behind the others
abbrev pub fan_changed : List ℕ → FanOp → List ℕ
fan_changed listed (Add n) = if is_in listed n then listed else listed ++ n ∷ []
fan_changed listed (Remove n) = without n listed
fan_changed listed Open = listed

-- the state after an entry, which is counted
abbrev pub fan_next : Roster → Who → FanOp → Roster
fan_next s who op = record { listed = fan_changed s.listed op; entries = s.entries + 1 }

-- the subscriber that an operation names is one
abbrev pub names_subscriber : FanOp → Bool
names_subscriber (Add n) = is_subscriber n
names_subscriber (Remove n) = is_subscriber n
names_subscriber Open = true

abbrev pub fan_in_range : Roster → FanOp → Bool
fan_in_range s op = names_subscriber op

-- the machine of a fan
abbrev pub fan_machine : Machine Roster FanOp FanReply
fan_machine = record { reply_of = fan_reply; next = fan_next; in_range = fan_in_range }
