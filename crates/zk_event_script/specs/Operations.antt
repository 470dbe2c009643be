use Rattle.std.specs.Prelude.{ℕ, if◌then◌else◌, Option, Some, None, option_map, option_and_then, List, [], ◌∷◌, codes}
use Rattle.std.specs.Str.{bytes_eq}
use Rattle.zk_words.specs.Numbers.{number_in, exact_number_of}
use Rattle.zk_side.specs.Slots.{are_none, only, one_of}
use Rattle.zk_event.specs.declared.event.EventOp.{EventOp}
use Rattle.zk_event.specs.declared.event.EventOp.TheVariants.{Post, Set, Clear, Wait, WaitEnd, WaitQuit}
use Rattle.zk_event_script.specs.declared.limits.TheConstants.{GREATEST_BITS}

-- a mask of a bit at least, `any` or `all`, `keep` or `reset`, and `no` or `wait`
abbrev pub wait_of : List (List ℕ) → Option EventOp
wait_of (mask ∷ all ∷ reset ∷ waits ∷ words) =
    option_and_then (λ m. option_and_then (λ a. option_and_then (λ r. option_and_then (λ w.
    if are_none words then Some (Wait m a r w) else None)
    (one_of (codes "wait") (codes "no") waits)) (one_of (codes "reset") (codes "keep") reset))
    (one_of (codes "all") (codes "any") all)) (number_in 1 GREATEST_BITS mask)
wait_of words = None

-- the operation that its words spell: `wait MASK ALL RESET WAIT`, `post BITS`, `set BITS`, `clear BITS`, `end PLACE`, `quit PLACE`
abbrev pub event_op : List (List ℕ) → Option EventOp
event_op [] = None
event_op (verb ∷ words) =
    if bytes_eq verb (codes "wait") then wait_of words else
    if bytes_eq verb (codes "post") then option_map Post (only (number_in 0 GREATEST_BITS) words) else
    if bytes_eq verb (codes "set") then option_map Set (only (number_in 0 GREATEST_BITS) words) else
    if bytes_eq verb (codes "clear") then option_map Clear (only (number_in 0 GREATEST_BITS) words) else
    if bytes_eq verb (codes "end") then option_map WaitEnd (only exact_number_of words) else
    if bytes_eq verb (codes "quit") then option_map WaitQuit (only exact_number_of words) else None
