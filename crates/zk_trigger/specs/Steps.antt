-- Inner: no contract of a top call is made of this file.
use Rattle.std.specs.Prelude.{◌≡◌, ℕ, ◌+◌, ◌≤◌, Bool, false, not, if◌then◌else◌, Option, option_map, List, ◌++◌, map, slice_index_or}
use Rattle.std.specs.List.{filter, find}
use Rattle.zk_model_trigger.specs.declared.ops.Cause.{Cause}
use Rattle.zk_model_trigger.specs.declared.ops.TriggerReply.{TriggerReply}
use Rattle.zk_model_trigger.specs.declared.ops.TriggerReply.TheVariants.{Armed, Busy}
use Rattle.zk_model_trigger.specs.Arms.{is_reached, found_cause}
use Rattle.zk_trigger.specs.declared.engine.TriggerEngine.{TriggerEngine}
use Rattle.zk_trigger.specs.declared.live.LiveArm.{LiveArm}
use Rattle.zk_trigger.specs.declared.live.Sought.{Sought}
use Rattle.zk_trigger.specs.Live.{LiveView, word_of, meets_sought, all_sought, fire_live, has_item, waits_with, fires_with}

-- the event is ready
abbrev pub set_at : List Bool → ℕ → Bool
set_at ready event = slice_index_or ready event false

-- why an arm with these events and this deadline would fire now
abbrev pub cause_at : List Bool → ℕ → List ℕ → Option ℕ → Option Cause
cause_at ready now events deadline = found_cause (find (set_at ready) events) (is_reached now deadline)

-- the arm that is asked for, with the next number
abbrev pub asked_live : TriggerEngine → ℕ → ℕ → List ℕ → Option ℕ → LiveArm
asked_live e item queue events ticks = record {
  number = e.made;
  item = item;
  queue = queue;
  events = word_of events;
  deadline = option_map (λ t. e.now + t) ticks;
}

-- the item has a live arm
abbrev pub is_busy : TriggerEngine → ℕ → Bool
is_busy e item = has_item e.live.waiting e.live.fires item

-- why the arm that is asked for fires at once, if it does
abbrev pub cause_for : TriggerEngine → List ℕ → Option ℕ → Option Cause
cause_for e events ticks = cause_at e.ready e.now events (option_map (λ t. e.now + t) ticks)

-- an arm was answered so, and left this
pub record IsAnswered (item queue : ℕ) (events : List ℕ) (ticks : Option ℕ) (e after : TriggerEngine)
    (reply : TriggerReply) : Type 0 where
  pub told : reply ≡ (if is_busy e item then Busy else Armed e.made)
  pub next : after ≡ record e {
    entries = e.entries + 1;
    made = if is_busy e item then e.made else e.made + 1;
    live = after.live;
  }
  pub waiting : after.live.waiting ≡ (if is_busy e item then e.live.waiting
      else e.live.waiting ++ waits_with (asked_live e item queue events ticks) (cause_for e events ticks))
  pub fires : after.live.fires ≡ (if is_busy e item then e.live.fires
      else e.live.fires ++ fires_with (asked_live e item queue events ticks) (cause_for e events ticks))

-- those that are sought have fired with this cause
pub record HasFired (sought : Sought) (cause : Cause) (old new : LiveView) : Type 0 where
  pub waiting : new.waiting ≡ filter (λ a. not (meets_sought sought a)) old.waiting
  pub fires : new.fires ≡ old.fires ++ map (fire_live cause) (all_sought sought old.waiting)
  pub room : old.room ≤ new.room
