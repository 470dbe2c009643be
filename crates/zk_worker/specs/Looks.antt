use Rattle.std.specs.Prelude.{◌≡◌, ℕ, ◌≤◌, Bool, not, ◌&&◌, if◌then◌else◌, Option, Some, None, List, [], ◌∷◌, ◌++◌, map, slice_get, option_and_then}
use Rattle.std.specs.List.{AllZip}
use Rattle.zk_base.specs.declared.ids.Entry.{Entry}
use Rattle.zk_base.specs.declared.seen.Seen.{Seen}
use Rattle.zk_model_wait.specs.declared.signal.SignalOp.{SignalOp}
use Rattle.zk_model_wait.specs.declared.signal.SignalReply.{SignalReply}
use Rattle.zk_model_wait.specs.Signal.{signal_seen, value_at}
use Rattle.zk_worker.specs.declared.steps.StepReply.{StepReply}
use Rattle.zk_worker.specs.declared.steps.StepReply.TheVariants as step_replies

-- the writes of a signal, the oldest first: those of its machine's state after this history
abbrev pub writes_of : List (Entry SignalOp SignalReply) → List SignalOp
writes_of h = map (λ e. e.op) h

-- what a look finds after a history: the value of its last write
abbrev pub seen_after : List (Entry SignalOp SignalReply) → Seen
seen_after h = signal_seen (record { writes = writes_of h })

-- the last of these looks
abbrev pub last_of : List Seen → Option Seen
last_of [] = None
last_of (seen ∷ []) = Some seen
last_of (seen ∷ next ∷ more) = last_of (next ∷ more)

-- the looks that are shown of one signal, if any are shown
abbrev pub looks_at : Option (List (List Seen)) → ℕ → Option (List Seen)
looks_at looks object = option_and_then (λ looks. slice_get looks object) looks

-- what a look finds: where looks are shown the last of them, which is this look, and else the last write
abbrev pub found_by : Option (List Seen) → List (Entry SignalOp SignalReply) → Option Seen
found_by None h = Some (seen_after h)
found_by (Some looks) h = last_of looks

-- what is answered to a look: nothing where it must find the signal raised and doesn't
abbrev pub look_reply : Bool → Seen → Option StepReply
look_reply must seen = if must && not seen.raised then None else Some (step_replies.Seen seen)

-- what is answered to a look at the signal of this object number
abbrev pub look_at : Option (List (List Seen)) → List (List (Entry SignalOp SignalReply)) → ℕ → Bool →
    Option StepReply
look_at looks histories object must =
    option_and_then (λ h. option_and_then (look_reply must) (found_by (looks_at looks object) h))
    (slice_get histories object)

-- what is known of a signal: where looks are shown they, and else the value of each stamp
abbrev pub IsKnown : Option (List Seen) → List (Entry SignalOp SignalReply) → Seen → Type 0
IsKnown None h seen = value_at (writes_of h) seen.stamp ≡ seen
IsKnown (Some looks) h seen = (k : ℕ) × (slice_get looks k ≡ Some seen)

-- a list grew
abbrev pub Longer : {A : Type 0} → List A → List A → Type 0
Longer {A = A} old new = (more : List A) × (new ≡ old ++ more)

-- the looks that are shown of each signal grew, if any are shown
abbrev pub LooksGrew : Option (List (List Seen)) → Option (List (List Seen)) → Type 0
LooksGrew None None = Unit {0}
LooksGrew None (Some new) = ⊥
LooksGrew (Some old) None = ⊥
LooksGrew (Some old) (Some new) = AllZip Longer old new

-- the looks at items that are shown are below the step of this number, if any are shown
abbrev pub LookedBelow : Option ℕ → ℕ → Type 0
LookedBelow None next = Unit {0}
LookedBelow (Some looked) next = looked ≤ next
