-- Inner: no contract of a top call is made of this file.
-- What is shown in the end, beside what was shown to a caller: signals and the looks at them are shown to it alone until then.
use Rattle.std.specs.Prelude.{◌≡◌, ℕ, ◌≤◌, false, Option, Some, None, List, length, slice_get, All}
use Rattle.zk_base.specs.declared.seen.Seen.{Seen}
use Rattle.zk_model_wait.specs.Signal.{value_at}
use Rattle.zk_worker.specs.Families.{entry_at}
use Rattle.zk_worker.specs.Looks.{looks_at, writes_of}
use Rattle.zk_worker.specs.Shown.{Shown, OnlyOthersCame}
use Rattle.zk_cells.specs.Notes.{Write}

-- of the cells what all show, and of the signals what was last shown to one caller
abbrev pub late : Shown → Shown → Shown
late mine all = record all { signals = mine.signals; looks = mine.looks; looked = mine.looked }

-- a look at a signal with this history found the value of its stamp
abbrev pub IsLookAt : List Write → Seen → Type 0
IsLookAt h seen = (seen.stamp ≤ length h) × (value_at (writes_of h) seen.stamp ≡ seen)

-- a signal is there still, and each look at it that was shown found the value of its stamp
pub record LooksLast (looks : Option (List (List Seen))) (signals : List (List Write)) (object : ℕ) : Type 0 where
  pub shown : List Seen
  pub history : List Write
  pub looked : looks_at looks object ≡ Some shown
  pub there : slice_get signals object ≡ Some history
  pub each : All (IsLookAt history) shown

-- what is shown in the end goes on from what was shown to this player: by entries of others, but that at the signals what stood
-- for others' writes is replaced by these, so that this player's are just those that were shown; and each of its looks found the
-- value of its stamp
pub record Closes (number : ℕ) (seen last : Shown) : Type 0 where
  pub others : OnlyOthersCame false number seen (late seen last)
  pub stays : (object place : ℕ) (e : Write) → entry_at seen.signals object place ≡ Some e → e.who.number ≡ number →
      entry_at last.signals object place ≡ Some e
  pub back : (object place : ℕ) (e : Write) → entry_at last.signals object place ≡ Some e → e.who.number ≡ number →
      entry_at seen.signals object place ≡ Some e
  pub looks : (object : ℕ) (h : List Write) → slice_get seen.signals object ≡ Some h →
      LooksLast seen.looks last.signals object
  pub whole : last.looks ≡ None
  pub unlooked : last.looked ≡ None
