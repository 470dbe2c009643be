use Rattle.std.proofs.Common.{false}
use Rattle.zk_line.specs.Objects.{places, is_thread, is_queue}
use Rattle.zk_show_json.specs.Values.{player_value}
use Rattle.zk_show_json.proofs.Arrays.{both-put}
use Rattle.zk_show_json.proofs.names.put_both.Goals as goal

pub returns-clause-text : goal.returns-clause-text
returns-clause-text c =
    let decls = c.args.scenario.now.decls in
    let first = rw (c.decls-decls.ensures.all, c.threads-threads.ensures) at c.in_ok-put_names.ensures.text in
    let next = rw (c.decls-decls.ensures.all, c.queues.ensures, c.threads-threads.ensures) at c.put_names-2.ensures.text in
    both-put (player_value decls) false (places is_thread decls) (places is_queue decls) c.put_names-2.result _ _ _ first next
