use Rattle.std.proofs.Common.{◌∷◌, sym, ap, ◌∙◌}
use Rattle.zk_trace.specs.AnswerRead.{answered_of}
use Rattle.zk_trace.specs.Names.{player_name}
use Rattle.zk_trace.specs.WholeRead.{player_head_of}
use Rattle.zk_trace.proofs.RowsRead.{titled_there}
use Rattle.zk_trace.proofs.players_read.read_player.Goals as goal

pub returns : goal.returns
returns c =
    let decls = c.args.scenario.now.decls in
    let f = c.args.format in
    let told = sym (c.in-Some-player_head_of.ensures ∙ ap (λ name. player_head_of f name c.in-Some.line.now) c.player_name-name.ensures) in
    let read = rw c.in-Some-2.is at c.in_ok-answers.ensures in
    titled_there (player_head_of f (player_name decls c.args.player)) (λ last. answered_of decls) c.args.feed.now c.in-Some.line.now c.go_on.new.self c.read_answers.new.feed
    c.in-Some-player_head_of.state c.in-Some-player_head_of.count (c.in-Some.ensures ∙ ap (λ l. c.in-Some.line.now ∷ l) (sym c.go_on.ensures)) told
    c.in-Some-2.answers read
