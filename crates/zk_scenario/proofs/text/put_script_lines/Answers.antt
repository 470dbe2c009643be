use Rattle.std.proofs.Common.{◌≡◌, ◌∙◌, ◌++◌, sym, ap, append_assoc}
use Rattle.std.specs.List.{flat_map}
use Rattle.std.proofs.lemmas.Result.{IfOk-equal}
use Rattle.zk_line.specs.Text.{call_line}
use Rattle.zk_scenario.specs.Spelling.{script_line, end_line, fed}
use Rattle.zk_scenario.proofs.ScenarioLines.{lines_text-script_lines}
use Rattle.zk_scenario.proofs.text.put_script_lines.Goals as goal

pub returns : goal.returns
returns c =
    let decls = c.args.decls.now in
    let script = c.args.script.now in
    let out = c.args.out.now.items in
    let head = fed (script_line decls script.owner) in
    let calls = flat_map (λ call. fed (call_line decls call)) script.calls in
    let tail = fed (end_line) in
    let one : c.put_head.new.out.items ≡ out ++ head = c.in_ok-put_head.ensures in
    let two : c.put_calls.new.out.items ≡ out ++ head ++ calls = c.in_ok-put_calls.ensures ∙ ap (λ l. c.put_head.new.out.items ++ flat_map (λ call. fed (call_line decls call)) l) c.items.ensures ∙ ap (λ l. l ++ calls) one in
    IfOk-equal _ _ _ _ c.put_tail.ensures
    (ap (λ l. l ++ tail) two ∙ append_assoc (out ++ head) calls tail ∙ append_assoc out head (calls ++ tail) ∙ ap (λ l. out ++ l) (sym (lines_text-script_lines decls script)))
