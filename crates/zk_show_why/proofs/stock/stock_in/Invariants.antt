use Rattle.std.proofs.Common.{◌≡◌, drop}
use Rattle.zk_show_why.specs.Left.{empty_stock, stock_from}
use Rattle.zk_show_why.proofs.stock.stock_in.Given as goal

-- what the entries that are left do to it
abbrev pub invariant-loop-entry : goal.invariant-loop-entry
invariant-loop-entry l = stock_from l.stock (drop l.entry-index l.history) ≡ stock_from empty_stock l.history
