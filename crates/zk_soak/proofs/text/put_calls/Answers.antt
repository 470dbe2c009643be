use Rattle.std.proofs.Common.{◌≡◌, ◌+◌, ◌-◌, ◌++◌, ◌∙◌, List, ℕ, ap, sym}
use Rattle.std.specs.List.{flat_map}
use Rattle.zk_line.specs.declared.types.Call.{Call}
use Rattle.zk_line.specs.Text.{call_line}
use Rattle.zk_scenario.specs.Spelling.{fed}
use Rattle.zk_soak.specs.Drawn.{call_drawn, calls_drawn, x_behind}
use Rattle.zk_soak.proofs.Left.{calls_step, x_left}
use Rattle.zk_soak.proofs.text.put_calls.Goals as goal

pub loop-made-preserved : goal.loop-made-preserved
loop-made-preserved c =
    let decls = c.args.decls.now in
    let x = c.loop-made.draws in
    let n = c.args.calls in
    let k = c.loop-made._made in
    let out = c.loop-made.out.items in
    let next = c.put_fed_call.new.out.items in
    let behind = c.call-call.ensures.behind in
    let text : Call → List ℕ = λ call. fed (call_line decls call) in
    let same : next ≡ out ++ text (call_drawn x).call = c.in_ok-put_fed_call.ensures ∙ ap (λ call. out ++ text call) c.call-call.ensures.call in
    record {
      text = ap (λ y. next ++ flat_map text (calls_drawn (n - (k + 1)) y)) behind ∙ calls_step n k c.loop-made-test.true text x out next same ∙ c.loop-made.invariant.text;
      behind = ap (λ y. x_behind (n - (k + 1)) y) behind ∙ sym (x_left n k c.loop-made-test.true x) ∙ c.loop-made.invariant.behind;
    }
