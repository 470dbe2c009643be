-- Inner: no contract of a top call is made of this file.
-- What a kernel has left, played on.
use Rattle.std.specs.Prelude.{◌≡◌, ◌<◌, ℕ, Bool, true, false, Some, None, slice_get}
use Rattle.zk_scenario.specs.Content.{Content}
use Rattle.zk_worker.specs.Choosing.{chosen}
use Rattle.zk_worker.specs.Machines.{machines_of}
use Rattle.zk_worker.specs.Places.{PlayerPlace}
use Rattle.zk_world.specs.Ready.{all_left}
use Rattle.zk_world.specs.World.{World}
use Rattle.zk_kernel.specs.Rests.{Left}

-- none of the first so many players has a possible attempt
abbrev pub NoneOf : ℕ → Content → World → Type 0
NoneOf many s w = (p : ℕ) (at : PlayerPlace) → p < many → slice_get w.players p ≡ Some at →
    chosen (machines_of s) s w.shown at ≡ None

-- no player has a possible attempt
abbrev pub NoneGoesOn : Content → World → Type 0
NoneGoesOn s w = (p : ℕ) (at : PlayerPlace) → slice_get w.players p ≡ Some at → chosen (machines_of s) s w.shown at ≡ None

-- a round with a step leaves fewer steps to make; one without leaves all as it was, and no player can go on
abbrev pub IsRound : Left → Left → Bool → Type 0
IsRound old new true = all_left old.scenario new.world.players < all_left old.scenario old.world.players
IsRound old new false = (new.world ≡ old.world) × NoneGoesOn new.scenario new.world
