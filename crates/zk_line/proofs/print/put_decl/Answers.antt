use Rattle.std.proofs.Common.{◌++◌, map, ap, ◌∙◌, append_assoc}
use Rattle.std.proofs.lemmas.Result.{IfOk-equal}
use Rattle.zk_words.specs.declared.word.Head.TheVariants as head
use Rattle.zk_line.specs.Args.{arg_text}
use Rattle.zk_line.specs.Calls.{standing}
use Rattle.zk_line.specs.Decls.{channel_said}
use Rattle.zk_line.specs.Text.{said_line, behind}
use Rattle.zk_line.proofs.Joined.{said_line-append}
use Rattle.zk_line.proofs.print.put_decl.Goals as goal

pub returns-clause-text : goal.returns-clause-text
returns-clause-text c =
    let decls = c.args.decls.now in
    let out = c.args.out.now.items in
    let said = c.written.inside in
    let first = standing said.args in
    let channel = channel_said said.channel in
    IfOk-equal _ _ _ _ c.put_channel.ensures.text
    (ap (λ l. l ++ behind (map (arg_text decls) channel)) c.in_ok-put_said.ensures.text
    ∙ append_assoc out (said_line decls (head.Declare said.kind) first) (behind (map (arg_text decls) channel))
    ∙ ap (λ l. out ++ l) (said_line-append decls (head.Declare said.kind) first channel)
    ∙ ap (λ s. out ++ said_line decls (head.Declare s.kind) s.args) (c.written.view_is ∙ c.written_of-written.ensures))
