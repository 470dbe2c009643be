-- Inner: no contract of a top call is made of this file.
use Rattle.std.specs.Prelude.{ℕ, ◌≤◌, Bool, false, List, [], ◌∷◌, length, All}
use Rattle.zk_scenario.specs.Content.{Content}
use Rattle.zk_scenario.specs.declared.scenario.TheConstants.{MOST_STEPS}
use Rattle.zk_worker.specs.declared.frames.TheConstants.{MOST_FRAMES}
use Rattle.zk_worker.specs.declared.steps.Spot.{Spot}
use Rattle.zk_worker.specs.declared.answers.Answered.{Answered}
use Rattle.zk_worker.specs.declared.frames.Frame.{Frame}
use Rattle.zk_worker.specs.Protocol.{is_over}

-- whether the innermost script is over
abbrev pub is_top_over : Content → List Frame → Bool
is_top_over s [] = false
is_top_over s (frame ∷ below) = is_over s frame.role frame.next

-- what a player keeps holds its limits, and there is room for all that it may come to keep
pub record IsRoomy (most passed : ℕ) (frames : List Frame) (answers : List Answered) (spots : List Spot)
    (room_frames room_answers room_spots : ℕ) : Type 0 where
  pub few_frames : length frames ≤ MOST_FRAMES
  pub few_answers : length answers ≤ length spots
  pub few_spots : length spots ≤ most
  pub few_steps : most ≤ MOST_STEPS
  pub nexts : All (λ frame. frame.next ≤ length spots) frames
  pub few_passed : passed ≤ length spots
  pub for_frames : MOST_FRAMES ≤ room_frames
  pub for_answers : most ≤ room_answers
  pub for_spots : most ≤ room_spots
