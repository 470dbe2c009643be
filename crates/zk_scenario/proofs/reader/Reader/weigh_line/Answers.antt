use Rattle.std.proofs.Common.{rules}
use Rattle.zk_words.proofs.Formed.{line_is_form}
use Rattle.zk_scenario.proofs.reader.Reader.weigh_line.Goals as goal

pub read_form-requires : goal.read_form-requires
read_form-requires c = line_is_form c.args.line.now _ _ (search rules)
