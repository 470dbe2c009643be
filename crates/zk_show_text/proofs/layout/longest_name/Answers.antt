use Rattle.std.proofs.Common.{arith}
use Rattle.zk_line.specs.Objects.{places, is_thread, is_queue, name_at}
use Rattle.zk_show_text.proofs.Longest.{longest-append}
use Rattle.zk_show_text.proofs.layout.longest_name.Goals as goal

pub returns : goal.returns
returns c =
    let decls = c.args.scenario.now.decls in
    let both = longest-append (name_at decls) (places is_thread decls) (places is_queue decls) in
    cc
