use Rattle.std.proofs.Common.{ap, ◌∙◌}
use Rattle.zk_scenario.specs.Free.{next_is_free}
use Rattle.zk_scenario.proofs.reader.Reader.next_is_free.Goals as goal

pub returns : goal.returns
returns c = c.self.invariant.loose ∙ ap next_is_free c.self.view_is
