use Rattle.std.proofs.Common.{◌∙◌, sym}
use Rattle.zk_scenario.specs.Reading.{Reading}
use Rattle.zk_scenario.proofs.AcceptedLines.{fresh-closed}
use Rattle.zk_scenario.proofs.reader.Reader.end.Goals as goal

pub push-requires : goal.push-requires
push-requires c =
    let at = c.self.inside in
    let r : Reading = record { decls = at.objects; written = at.written.items; scripts = at.scripts; current = at.current } in
    fresh-closed r c.in-Some.script c.self.invariant.valid (sym c.take.ensures.value ∙ c.in-Some.is)
