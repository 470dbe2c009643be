-- Inner: no contract of a top call is made of this file.
-- What holds of every legal history of a fan.
use Rattle.std.specs.Prelude.{◌≡◌, ℕ, Bool, true, false, not, ◌==◌, ◌&&◌, ◌⊎◌, if◌then◌else◌, Some, List, [], ◌∷◌, ◌++◌, filter}
use Rattle.zk_base.specs.declared.ids.Who.{Who}
use Rattle.zk_base.specs.declared.ids.Entry.{Entry}
use Rattle.zk_base.specs.History.{IsEntry}
use Rattle.zk_base.specs.Legal.{state_after, IsLegal}
use Rattle.zk_msgsub.specs.declared.fan_state.FanOp.{FanOp}
use Rattle.zk_msgsub.specs.declared.fan_state.FanOp.TheVariants.{Add, Remove, Open}
use Rattle.zk_msgsub.specs.declared.fan_state.FanReply.{FanReply}
use Rattle.zk_msgsub.specs.declared.fan_state.FanReply.TheVariants.{Done, Already, Inval, Subs}
use Rattle.zk_msgsub.specs.Fan.{new_fan, is_in, are_subscribers, fan_reply, fan_machine}

-- a history of a fan
abbrev pub FanHistory : Type 0
FanHistory = List (Entry FanOp FanReply)

-- it holds of each legal history of each fan, whoever is listed at first
abbrev pub OfEachFan : (List ℕ → FanHistory → Type 0) → Type 0
OfEachFan P = (first : List ℕ) → are_subscribers first ≡ true → (h : FanHistory) →
    IsLegal fan_machine (new_fan first) h → P first h

-- the reply says that it is done
abbrev pub is_done : FanReply → Bool
is_done Done = true
is_done reply = false

-- the operation adds or removes this subscriber
abbrev pub names : ℕ → FanOp → Bool
names n (Add m) = m == n
names n (Remove m) = m == n
names n Open = false

-- the entry is a done change of this subscriber
abbrev pub changes : ℕ → Entry FanOp FanReply → Bool
changes n e = names n e.op && is_done e.reply

-- no entry of the history is
abbrev pub is_unchanged : FanHistory → ℕ → Bool
is_unchanged [] n = true
is_unchanged (e ∷ es) n = not (changes n e) && is_unchanged es n

-- the subscriber that an entry adds, unless it isn't done, or one of the entries behind it changes that subscriber
abbrev pub added_for_good : FanOp → FanReply → FanHistory → List ℕ
added_for_good (Add n) Done later = if is_unchanged later n then n ∷ [] else []
added_for_good op reply later = []

-- the subscribers whose last done change is an add, by its place
abbrev pub last_added : FanHistory → List ℕ
last_added [] = []
last_added (e ∷ es) = added_for_good e.op e.reply es ++ last_added es

-- who is listed after a history: those of the start that were never changed, in their order, then by the place of the last add
abbrev pub listed_by : List ℕ → FanHistory → List ℕ
listed_by first h = filter (is_unchanged h) first ++ last_added h

-- the last done change of the subscriber is an add
pub record AddedLast (n : ℕ) (h : FanHistory) : Type 0 where
  pub front : FanHistory
  pub e : Entry FanOp FanReply
  pub rest : FanHistory
  pub whole : h ≡ front ++ e ∷ rest
  pub added : e.op ≡ Add n
  pub done : e.reply ≡ Done
  pub last : is_unchanged rest n ≡ true

-- the last word on the subscriber lists it: that of the entries, or of the start where none was done
abbrev pub IsListed : List ℕ → ℕ → FanHistory → Type 0
IsListed first n h = AddedLast n h ⊎ ((is_in first n ≡ true) × (is_unchanged h n ≡ true))

-- Each of what follows is said of one history, and of who was listed at first.

-- an open tells just those whom the last word lists
pub record OpenTellsTheListed (first : List ℕ) (h : FanHistory) : Type 0 where
  pub told : (front : FanHistory) (e : Entry FanOp FanReply) (subs : List ℕ) (n : ℕ) → IsEntry h front e → e.op ≡ Open →
      e.reply ≡ Subs subs → is_in subs n ≡ true → IsListed first n front
  pub all : (front : FanHistory) (e : Entry FanOp FanReply) (subs : List ℕ) (n : ℕ) → IsEntry h front e → e.op ≡ Open →
      e.reply ≡ Subs subs → IsListed first n front → is_in subs n ≡ true

-- in their order: first those of the start, then by the place of the last add
abbrev pub OpenTellsTheOrder : List ℕ → FanHistory → Type 0
OpenTellsTheOrder first h = (front : FanHistory) (e : Entry FanOp FanReply) → IsEntry h front e → e.op ≡ Open →
    e.reply ≡ Subs (listed_by first front)

-- and each once: different subscribers, 0 to 7
abbrev pub OpenTellsEachOnce : List ℕ → FanHistory → Type 0
OpenTellsEachOnce first h = (front : FanHistory) (e : Entry FanOp FanReply) (subs : List ℕ) → IsEntry h front e → e.op ≡ Open →
    e.reply ≡ Subs subs → are_subscribers subs ≡ true

-- an add is done just where the last word doesn't list the subscriber
pub record AddIsTold (first : List ℕ) (h : FanHistory) : Type 0 where
  pub already : (front : FanHistory) (e : Entry FanOp FanReply) (n : ℕ) → IsEntry h front e → e.op ≡ Add n →
      IsListed first n front → e.reply ≡ Already
  pub done : (front : FanHistory) (e : Entry FanOp FanReply) (n : ℕ) → IsEntry h front e → e.op ≡ Add n →
      (IsListed first n front → ⊥) → e.reply ≡ Done

-- a remove is done just where the last word lists the subscriber
pub record RemoveIsTold (first : List ℕ) (h : FanHistory) : Type 0 where
  pub done : (front : FanHistory) (e : Entry FanOp FanReply) (n : ℕ) → IsEntry h front e → e.op ≡ Remove n →
      IsListed first n front → e.reply ≡ Done
  pub inval : (front : FanHistory) (e : Entry FanOp FanReply) (n : ℕ) → IsEntry h front e → e.op ≡ Remove n →
      (IsListed first n front → ⊥) → e.reply ≡ Inval

-- each operation is possible at any time, for anybody
abbrev pub MayAlways : List ℕ → FanHistory → Type 0
MayAlways first h = (who : Who) (op : FanOp) →
    (reply : FanReply) × (fan_reply (state_after fan_machine (new_fan first) h) who op ≡ Some reply)

-- the laws of a fan: what opens tell, and what changes are told
pub record KeepsFanLaws (first : List ℕ) (h : FanHistory) : Type 0 where
  pub listed : OpenTellsTheListed first h
  pub order : OpenTellsTheOrder first h
  pub once : OpenTellsEachOnce first h
  pub add : AddIsTold first h
  pub remove : RemoveIsTold first h
  pub always : MayAlways first h
