use Rattle.std.specs.Prelude.{◌≡◌, ℕ, ◌-◌, ◌≤◌, Bool, true, nat_le, ◌&&◌, List, ◌++◌, length, take, drop, replicate}
use Rattle.zk_words.specs.declared.event.Source.{Source}
use Rattle.zk_words.specs.declared.event.Source.TheVariants as source
use Rattle.zk_line.specs.declared.events.TheConstants.{MOST_EVENTS}
use Rattle.zk_line.specs.declared.types.Ref.{Ref}
use Rattle.zk_line.specs.declared.events.Event.{Event}
use Rattle.zk_line.specs.declared.events.Event.TheVariants.{Ignore, Sem, Msgq, Sig}

-- a poll has an event, and no more than it may have
abbrev pub is_few : List Event → Bool
is_few events = nat_le 1 (length events) && nat_le (length events) MOST_EVENTS

-- the event of an object that is a source
abbrev pub event_at : Source → Ref → Event
event_at source.Sem object = Sem object
event_at source.Msgq object = Msgq object
event_at source.Signal object = Sig object

-- events with events that ask for nothing behind them, as many in all as a poll may have
abbrev pub filled : List Event → List Event
filled events = events ++ replicate (MOST_EVENTS - length events) Ignore

-- the events of a poll are the first of those that are kept, and what stands behind them asks for nothing
pub record IsFilled (events : List Event) (len : ℕ) : Type 0 where
  pub long : length events ≡ MOST_EVENTS
  pub within : len ≤ MOST_EVENTS
  pub idle : drop len events ≡ replicate (MOST_EVENTS - len) Ignore
  pub few : is_few (take len events) ≡ true
