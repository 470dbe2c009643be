use Rattle.std.specs.Prelude.{Bool, true, false, ◌||◌}
use Rattle.zk_base.specs.declared.kinds.Kind.{Kind}
use Rattle.zk_base.specs.declared.kinds.Kind.TheVariants as kinds
use Rattle.zk_base.specs.declared.kinds.Need.{Need}
use Rattle.zk_base.specs.declared.kinds.Need.TheVariants as needs

-- two kinds are one
abbrev pub same_kind : Kind → Kind → Bool
same_kind kinds.Thread kinds.Thread = true
same_kind kinds.Sem kinds.Sem = true
same_kind kinds.Msgq kinds.Msgq = true
same_kind kinds.Signal kinds.Signal = true
same_kind kinds.Queue kinds.Queue = true
same_kind kinds.Item kinds.Item = true
same_kind kinds.Chan kinds.Chan = true
same_kind kinds.Sub kinds.Sub = true
same_kind kinds.Listener kinds.Listener = true
same_kind kind other = false

-- an object of this kind meets the need: each kind has a need of its own, a listener and a subscriber are both observers,
-- and any object will do where nothing is asked of its kind
abbrev pub meets : Need → Kind → Bool
meets needs.Thread kind = same_kind kind kinds.Thread
meets needs.Sem kind = same_kind kind kinds.Sem
meets needs.Msgq kind = same_kind kind kinds.Msgq
meets needs.Signal kind = same_kind kind kinds.Signal
meets needs.Queue kind = same_kind kind kinds.Queue
meets needs.Item kind = same_kind kind kinds.Item
meets needs.Chan kind = same_kind kind kinds.Chan
meets needs.Sub kind = same_kind kind kinds.Sub
meets needs.Obs kind = same_kind kind kinds.Sub || same_kind kind kinds.Listener
meets needs.Any kind = true

-- nothing is asked of the object but that there is one and that it may be used
abbrev pub is_any : Need → Bool
is_any needs.Any = true
is_any need = false
