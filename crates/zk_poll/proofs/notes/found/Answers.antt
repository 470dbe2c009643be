use Rattle.std.proofs.Common.{sym, ◌∙◌}
use Rattle.zk_base.proofs.Firsts.{find-none}
use Rattle.zk_poll.specs.Notes.{is_at}
use Rattle.zk_poll.proofs.Noting.{found-is}
use Rattle.zk_poll.proofs.notes.found.Goals as goal

pub returns-in-Some : goal.returns-in-Some
returns-in-Some c = found-is c.args.place c.args.members.now c.in-Some.at _ (sym c.place_of.ensures ∙ c.in-Some.is)

pub returns-in-None : goal.returns-in-None
returns-in-None c = sym (find-none (is_at c.args.place) c.args.members.now (sym c.place_of.ensures ∙ c.in-None.is))
