-- Inner: no contract of a top call is made of this file.
use Rattle.std.specs.Prelude.{ℕ, ◌+◌, Bool, true, not, ◌==◌, nat_lt, ◌&&◌, ◌||◌, max, if◌then◌else◌, Option, Some, None, List, [], ◌∷◌}
use Rattle.std.specs.List.{list_any}
use Rattle.std.specs.Option.{option_or}
use Rattle.zk_trace.specs.declared.stood.Stood.{Stood}
use Rattle.zk_failures.specs.PlaceFailure.{same_part}

-- whether a line is that of a player's step
abbrev pub is_step : ℕ → ℕ → Stood → Bool
is_step player step line = line.player == player && line.step == step

-- the last line of a player, if it has one
abbrev pub last_of : ℕ → List Stood → Option Stood
last_of player [] = None
last_of player (line ∷ lines) = option_or (last_of player lines) (if line.player == player then Some line else None)

-- the number behind the highest step of a player, or 0
abbrev pub above_of : ℕ → List Stood → ℕ
above_of player [] = 0
above_of player (line ∷ lines) = max (if line.player == player then line.step + 1 else 0) (above_of player lines)

-- whether a line isn't of the part of the last one of its player, or has a higher step
abbrev pub rises : Option Stood → Stood → Bool
rises None line = true
rises (Some last) line = not (same_part last.spot line.spot) || nat_lt last.step line.step

-- whether a line may stand behind others
abbrev pub may_stand : List Stood → Stood → Bool
may_stand lines line = not (list_any (is_step line.player line.step) lines) && rises (last_of line.player lines) line
