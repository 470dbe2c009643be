-- Inner: no contract of a top call is made of this file.
use Rattle.std.specs.Prelude.{ℕ, ◌==◌, if◌then◌else◌, Option, None, List, [], ◌∷◌, slice_get}
use Rattle.zk_line.specs.declared.types.Call.{Call}
use Rattle.zk_scenario.specs.Content.{Content}
use Rattle.zk_scenario.specs.Players.{calls_of}
use Rattle.zk_worker.specs.declared.frames.Frame.{Frame}
use Rattle.zk_worker.specs.declared.frames.Role.{Role}
use Rattle.zk_worker.specs.declared.frames.Role.TheVariants.{Script}
use Rattle.zk_worker.specs.declared.frames.Stage.{Stage}
use Rattle.zk_worker.specs.declared.frames.Stage.TheVariants.{Start}
use Rattle.zk_worker.specs.Places.{PlayerPlace}

-- the next call of an open script, where it isn't begun
abbrev pub role_call : Content → Role → ℕ → Stage → Option Call
role_call s (Script owner) next Start = slice_get (calls_of s.scripts owner) next
role_call s role next stage = None

-- that of the innermost open script
abbrev pub top_call : Content → List Frame → Option Call
top_call s [] = None
top_call s (frame ∷ below) = role_call s frame.role frame.next frame.stage

-- the call that a player makes next: a check that was passed has begun it
abbrev pub next_call : Content → PlayerPlace → Option Call
next_call s at = if at.passed == 0 then top_call s at.frames else None
