use Rattle.std.proofs.Common.{◌≡◌, map, take}
use Rattle.zk_base.specs.declared.ids.Who.{Who}
use Rattle.zk_cells.proofs.opening.numbers_of.Given as goal

-- the numbers of those so far
abbrev pub invariant-loop-who : goal.invariant-loop-who
invariant-loop-who l = l.numbers.items ≡ map (λ (w : Who). w.number) (take l.who-index l.whos)
