use Rattle.std.proofs.Common.{◌++◌, map, ap, ◌∙◌, append_assoc}
use Rattle.std.proofs.lemmas.Result.{IfOk-equal}
use Rattle.zk_words.specs.declared.word.Head.TheVariants as head
use Rattle.zk_line.specs.Args.{arg_text}
use Rattle.zk_line.specs.Calls.{standing, events_said}
use Rattle.zk_line.specs.Text.{said_line, behind}
use Rattle.zk_line.proofs.Joined.{said_line-append}
use Rattle.zk_line.proofs.print.put_call.Goals as goal

pub returns-clause-text : goal.returns-clause-text
returns-clause-text c =
    let decls = c.args.decls.now in
    let out = c.args.out.now.items in
    let said = c.said.inside in
    let first = standing said.args in
    let events = events_said said.events in
    IfOk-equal _ _ _ _ c.put_events.ensures.text
    (ap (λ l. l ++ behind (map (arg_text decls) events)) c.in_ok-put_said.ensures.text
    ∙ append_assoc out (said_line decls (head.Call said.word) first) (behind (map (arg_text decls) events))
    ∙ ap (λ l. out ++ l) (said_line-append decls (head.Call said.word) first events)
    ∙ ap (λ s. out ++ said_line decls (head.Call s.word) s.args) (c.said.view_is ∙ c.said_of-said.ensures))
