use Rattle.std.proofs.Common.{◌≡◌, ◌++◌, take}
use Rattle.std.specs.List.{flat_map}
use Rattle.zk_line.specs.Text.{call_line}
use Rattle.zk_scenario.specs.Spelling.{fed}
use Rattle.zk_scenario.proofs.text.put_calls.Given as goal

abbrev pub invariant-loop-call : goal.invariant-loop-call
invariant-loop-call l =
    l.out.items ≡ l.initial.out.items ++ flat_map (λ call. fed (call_line l.decls call)) (take l.call-index l.calls)
