use Rattle.std.proofs.Common.{◌≡◌, ◌∙◌, ◌++◌, codes, ap, append_assoc}
use Rattle.std.specs.List.{flat_map}
use Rattle.std.proofs.lemmas.Result.{IfOk-equal}
use Rattle.zk_scenario.specs.Spelling.{declared_line, script_lines, fed, lines_text}
use Rattle.zk_scenario.proofs.ScenarioLines.{lines_text-body_lines}
use Rattle.zk_scenario.proofs.text.put_scenario.Goals as goal

pub returns-clause-text : goal.returns-clause-text
returns-clause-text c =
    let p = c.args.scenario.now in
    let out = c.args.out.now.items in
    let head = fed (codes "zk 1") in
    let declared = flat_map (λ line. fed (declared_line p.decls line)) p.written in
    let scripts = flat_map (λ script. lines_text (script_lines p.decls script)) p.scripts in
    let same = c.decls-decls.ensures.all in
    let two : c.put_declarations.new.out.items ≡ out ++ head ++ declared =
    c.in_ok-put_declarations.ensures ∙ ap (λ ds. c.put.new.out.items ++ flat_map (λ line. fed (declared_line ds line)) c.written.result.now) same
    ∙ ap (λ lines. c.put.new.out.items ++ flat_map (λ line. fed (declared_line p.decls line)) lines) c.written.ensures ∙ ap (λ l. l ++ declared) c.in_ok-put.ensures.ok in
    IfOk-equal _ _ _ _ c.put_scripts.ensures
    (ap (λ ds. c.put_declarations.new.out.items ++ flat_map (λ script. lines_text (script_lines ds script)) c.scripts.result.now) same
    ∙ ap (λ ss. c.put_declarations.new.out.items ++ flat_map (λ script. lines_text (script_lines p.decls script)) ss) c.scripts.ensures
    ∙ ap (λ l. l ++ scripts) two ∙ append_assoc (out ++ head) declared scripts ∙ append_assoc out head (declared ++ scripts)
    ∙ ap (λ l. out ++ (head ++ l)) (lines_text-body_lines p.decls p.written p.scripts))
