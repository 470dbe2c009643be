-- Numbers above all that wait.
use Rattle.std.proofs.Common.{◌≡◌, ℕ, ◌<◌, Option, Some, None, List, All, refl}
use Rattle.std.specs.Option.{option_map_or}
use Rattle.std.proofs.lemmas.List.Elements.{All-weaker, All-map}
use Rattle.zk_queue.specs.declared.ticket.Ticket.{Ticket}
use Rattle.zk_queue.specs.Line.{without}
use Rattle.zk_queue.specs.Open.{Open, IsAbove, drop_item, next, begun, begin}
use Rattle.zk_queue.proofs.Lines.{All-without}

-- a drop leaves no others
pub IsAbove-drop : (number item : ℕ) (o : Open) → IsAbove number o → IsAbove number (drop_item o item)
IsAbove-drop number item o above =
    let P : Ticket → Type 0 = λ t. t.number < number in
    All-map (All P) (without item) o.lines (All-weaker (All P) (λ (l : List Ticket). All P (without item l))
    (λ (l : List Ticket) all. All-without P item l all) o.lines above)

-- a begin leaves the items and the queues
pub items-begin : (queue : ℕ) (o : Open) → (begin o queue).items ≡ o.items
items-begin queue o = at (next o queue) where
  at : (t : Option Ticket) → (option_map_or (begun o queue) t o).items ≡ o.items
  at None = refl
  at (Some t) = refl

pub queues-begin : (queue : ℕ) (o : Open) → (begin o queue).queues ≡ o.queues
queues-begin queue o = at (next o queue) where
  at : (t : Option Ticket) → (option_map_or (begun o queue) t o).queues ≡ o.queues
  at None = refl
  at (Some t) = refl

-- and no others wait after it
pub IsAbove-begin : (number queue : ℕ) (o : Open) → IsAbove number o → IsAbove number (begin o queue)
IsAbove-begin number queue o above = at (next o queue) where
  at : (t : Option Ticket) → IsAbove number (option_map_or (begun o queue) t o)
  at None = above
  at (Some t) = IsAbove-drop number t.item o above
