use Rattle.std.proofs.Common.{◌≡◌, ◌++◌, take}
use Rattle.std.specs.List.{flat_map}
use Rattle.zk_scenario.specs.Spelling.{declared_line, fed}
use Rattle.zk_scenario.proofs.text.put_declarations.Given as goal

abbrev pub invariant-loop-line : goal.invariant-loop-line
invariant-loop-line l =
    l.out.items ≡ l.initial.out.items ++ flat_map (λ line. fed (declared_line l.decls line)) (take l.line-index l.written)
