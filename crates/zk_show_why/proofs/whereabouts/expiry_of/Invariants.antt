use Rattle.std.proofs.Common.{◌≡◌, drop}
use Rattle.zk_show_why.specs.Whereabouts.{expiry_of}
use Rattle.zk_show_why.proofs.whereabouts.expiry_of.Given as goal

-- none was found so far
abbrev pub invariant-loop-expiry : goal.invariant-loop-expiry
invariant-loop-expiry l = expiry_of l.item (drop l.expiry-index l.expiries) ≡ expiry_of l.item l.expiries
