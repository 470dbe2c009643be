use Rattle.std.proofs.Common.{List, ℕ, ◌+◌, ◌-◌, ◌++◌, ◌∙◌, ap}
use Rattle.std.specs.List.{flat_map}
use Rattle.zk_scenario.specs.declared.types.Script.{Script}
use Rattle.zk_scenario.specs.Spelling.{script_lines, lines_text}
use Rattle.zk_soak.specs.Soak.{thread_scripts}
use Rattle.zk_soak.proofs.Left.{scripts_step}
use Rattle.zk_soak.proofs.text.put_threads.Goals as goal

pub loop-thread-preserved : goal.loop-thread-preserved
loop-thread-preserved c =
    let n = c.args.threads in
    let k = c.loop-thread.thread in
    let calls = c.args.calls in
    let next = c.put_thread.new.out.items in
    let text : Script → List ℕ = λ script. lines_text (script_lines c.args.decls.now script) in
    let written = c.in_ok-put_thread.ensures in
    ap (λ y. next ++ flat_map text (thread_scripts (n - (k + 1)) calls (k + 1) y)) written.behind
    ∙ scripts_step n k c.loop-thread-test.true text calls c.loop-thread.draws c.loop-thread.out.items next written.text ∙ c.loop-thread.invariant
