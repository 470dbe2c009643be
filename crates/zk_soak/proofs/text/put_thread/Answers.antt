use Rattle.std.proofs.Common.{◌≡◌, ◌∙◌, ◌++◌, sym, ap, append_assoc}
use Rattle.std.specs.List.{flat_map}
use Rattle.std.proofs.lemmas.Result.{IfOk-equal}
use Rattle.zk_line.specs.Text.{call_line}
use Rattle.zk_scenario.specs.Spelling.{script_line, end_line, fed}
use Rattle.zk_scenario.proofs.ScenarioLines.{lines_text-script_lines}
use Rattle.zk_soak.specs.Soak.{thread_script}
use Rattle.zk_soak.proofs.text.put_thread.Goals as goal

pub returns-clause-text : goal.returns-clause-text
returns-clause-text c =
    let decls = c.args.decls.now in
    let script = thread_script c.args.thread c.args.calls c.args.draws.now in
    let out = c.args.out.now.items in
    let head = fed (script_line decls script.owner) in
    let calls = flat_map (λ call. fed (call_line decls call)) script.calls in
    let tail = fed (end_line) in
    let two : c.put_calls.new.out.items ≡ out ++ head ++ calls = c.in_ok-put_calls.ensures.text ∙ ap (λ l. l ++ calls) c.in_ok-put_head.ensures in
    IfOk-equal _ _ _ _ c.put_end.ensures
    (ap (λ l. l ++ tail) two ∙ append_assoc (out ++ head) calls tail ∙ append_assoc out head (calls ++ tail) ∙ ap (λ l. out ++ l) (sym (lines_text-script_lines decls script)))
