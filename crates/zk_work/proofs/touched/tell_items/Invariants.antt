use Rattle.std.proofs.Common.{◌≡◌, ◌≤◌, ◌++◌, drop, map, length, vec_len, vec_capacity}
use Rattle.zk_work.proofs.touched.tell_items.Given as goal

abbrev pub invariant-loop-expiry : goal.invariant-loop-expiry
invariant-loop-expiry l =
    (l.items.items ++ map (λ e. e.item) (drop l.expiry-index l.expiries) ≡ map (λ e. e.item) l.expiries)
    × (vec_len l.items ≡ l.expiry-index) × (vec_capacity l.fn.items ≤ vec_capacity l.items)
    × (l.expiry-index-end ≡ length l.expiries)
