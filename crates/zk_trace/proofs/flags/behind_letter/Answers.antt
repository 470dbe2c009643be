use Rattle.std.proofs.Common.{[], ne_eqb}
use Rattle.std.specs.Int.RustNames.{bit_and}
use Rattle.std.proofs.lemmas.Bool.{cond-false}
use Rattle.zk_trace.proofs.Letters.{taken-off}
use Rattle.zk_trace.proofs.flags.behind_letter.Goals as goal

pub returns : goal.returns
returns c =
    let letter = c.args.flag.1.now in
    let set = cond-false _ [] letter (ne_eqb (bit_and c.args.flags c.args.flag.0) 0 c.if-flags-flag-eq0.false) in
    taken-off c.args.word.now _ letter set c.strip_prefix.result c.strip_prefix.ensures.cases
