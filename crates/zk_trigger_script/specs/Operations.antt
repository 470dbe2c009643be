use Rattle.std.specs.Prelude.{ℕ, if◌then◌else◌, Option, Some, None, option_map, option_and_then, List, [], ◌∷◌, codes}
use Rattle.std.specs.Str.{bytes_eq}
use Rattle.zk_words.specs.Numbers.{number_in}
use Rattle.zk_side.specs.Slots.{are_none, only, number_or_none, few_in}
use Rattle.zk_model_trigger.specs.declared.ops.TriggerOp.{TriggerOp}
use Rattle.zk_model_trigger.specs.declared.ops.TriggerOp.TheVariants.{Arm, Post, Unpost, Tick, Cancel, Next}
use Rattle.zk_trigger_script.specs.declared.limits.TheConstants.{GREATEST_EVENT, GREATEST_ITEM, GREATEST_QUEUE, MOST_TICKS}

-- an item, a queue, ticks or `none`, and one to eight events
abbrev pub arm_of : List (List ℕ) → Option TriggerOp
arm_of (item ∷ queue ∷ ticks ∷ events) =
    option_and_then (λ i. option_and_then (λ q. option_and_then (λ t. option_map (λ e. Arm i q e t)
    (few_in 0 GREATEST_EVENT events)) (number_or_none 1 MOST_TICKS ticks)) (number_in 0 GREATEST_QUEUE queue)) (number_in 0 GREATEST_ITEM item)
arm_of words = None

-- the operation that its words spell: `arm ITEM QUEUE TICKS EVENT ..`, `post EVENT`, `unpost EVENT`, `tick TICKS`, `cancel ITEM`, `next`
abbrev pub trigger_op : List (List ℕ) → Option TriggerOp
trigger_op [] = None
trigger_op (verb ∷ words) =
    if bytes_eq verb (codes "arm") then arm_of words else
    if bytes_eq verb (codes "post") then option_map Post (only (number_in 0 GREATEST_EVENT) words) else
    if bytes_eq verb (codes "unpost") then option_map Unpost (only (number_in 0 GREATEST_EVENT) words) else
    if bytes_eq verb (codes "tick") then option_map Tick (only (number_in 1 MOST_TICKS) words) else
    if bytes_eq verb (codes "cancel") then option_map Cancel (only (number_in 0 GREATEST_ITEM) words) else
    if bytes_eq verb (codes "next") then (if are_none words then Some Next else None) else None
