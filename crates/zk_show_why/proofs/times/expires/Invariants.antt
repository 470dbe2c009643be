use Rattle.std.proofs.Common.{◌≡◌, drop}
use Rattle.zk_show_why.specs.Times.{expires}
use Rattle.zk_show_why.proofs.times.expires.Given as goal

-- none of those that were passed is the item's
abbrev pub invariant-loop-expiry : goal.invariant-loop-expiry
invariant-loop-expiry l = expires l.item (drop l.expiry-index l.expiries) ≡ expires l.item l.expiries
