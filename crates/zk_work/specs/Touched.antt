-- Inner: no contract of a top call is made of this file.
use Rattle.std.specs.Prelude.{ℕ, Option, Some, None, option_map, option_to_list, List, [], map}
use Rattle.zk_model_work.specs.declared.ops.WorkOp.{WorkOp}
use Rattle.zk_model_work.specs.declared.ops.WorkOp.TheVariants.{Submit, Cancel, CancelStart, FlushStart, Schedule, Reschedule, Announce, Begin, End}
use Rattle.zk_model_work.specs.declared.ops.WorkReply.{WorkReply}
use Rattle.zk_model_work.specs.declared.ops.WorkReply.TheVariants.{Now}
use Rattle.zk_model_work.specs.Lists.{first}
use Rattle.zk_queue.specs.Open.{line, run}
use Rattle.zk_work.specs.EngineState.{EngineState}

-- the item whose busy flags an operation may change, unless it is an announce:
-- the one that it names, the first in the line of the queue that begins, or what the queue that ends runs
abbrev pub touched_item : EngineState → WorkOp → Option ℕ
touched_item k (Submit item named) = Some item
touched_item k (Cancel item) = Some item
touched_item k (CancelStart item) = Some item
touched_item k (FlushStart item) = Some item
touched_item k (Schedule item queue delay) = Some item
touched_item k (Reschedule item queue delay) = Some item
touched_item k (Begin queue) = option_map (λ t. t.item) (first (line k.active queue))
touched_item k (End queue) = option_map (λ t. t.item) (run k.active queue)
touched_item k op = None

-- the items whose delay is over, as an announce tells them
abbrev pub told_items : WorkReply → List ℕ
told_items (Now time told) = map (λ e. e.item) told
told_items reply = []

-- the items whose busy flags an entry may change
abbrev pub touched_by : EngineState → WorkOp → WorkReply → List ℕ
touched_by k (Announce ticks) reply = told_items reply
touched_by k op reply = option_to_list (touched_item k op)
