use Rattle.std.specs.Prelude.{◌≡◌, ◌⊎◌, ℕ, Some, [], slice_get}
use Rattle.zk_base.specs.Legal.{IsLegal}
use Rattle.zk_model_bus.specs.Channel.{Channel, chan_machine}
use Rattle.zk_model_bus.specs.ChannelLaws.{ChanHistory}
use Rattle.zk_model_wait.specs.Clock.{new_clock, clock_machine}
use Rattle.zk_scenario.specs.Content.{Content}
use Rattle.zk_scenario.specs.Valid.{IsValid}
use Rattle.zk_worker.specs.Families.{start_of}
use Rattle.zk_worker.specs.Follows.{IsFollowing}
use Rattle.zk_worker.specs.Machines.{machines_of}
use Rattle.zk_worker.specs.Places.{PlayerPlace}
use Rattle.zk_worker.specs.Shown.{Shown, ShowsLog}
use Rattle.zk_player_laws.specs.StackLaws.{AlwaysHasRoom}

-- a history that is shown of a channel is legal from where the channel starts; an object of another kind has none
abbrev pub ShowsLegalChans : Content → Shown → Type 0
ShowsLegalChans s shown = (object : ℕ) (h : ChanHistory) → slice_get shown.chans object ≡ Some h →
    (h ≡ []) ⊎ ((start : Channel) × (start_of (machines_of s).chans object ≡ Some start) × IsLegal chan_machine start h)

-- what is shown of the clock is a legal history
abbrev pub ShowsLegalClock : Shown → Type 0
ShowsLegalClock shown = IsLegal clock_machine new_clock shown.clock

-- of each player that follows a valid scenario, by what is shown with legal histories of the clock and of channels: each script
-- that it was to enter was entered
abbrev pub EachLogEntersItsScripts : Type 0
EachLogEntersItsScripts = (s : Content) (number : ℕ) (shown : Shown) (at : PlayerPlace) (is : IsFollowing s number shown at) →
    IsValid s → ShowsLog shown number at.spots → ShowsLegalClock shown → ShowsLegalChans s shown →
    AlwaysHasRoom s is.start is.made
