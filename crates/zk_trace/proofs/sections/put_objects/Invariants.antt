use Rattle.std.proofs.Common.{◌≡◌, ◌++◌, drop}
use Rattle.zk_trace.specs.declared.format.Format.TheVariants.{Two}
use Rattle.zk_trace.specs.Text.{object_sections}
use Rattle.zk_trace.proofs.sections.put_objects.Given as goal

abbrev pub invariant-loop-object : goal.invariant-loop-object
invariant-loop-object g l = record {
  text : l.out.put ++ object_sections g.O.Spelled.words g.R.Spelled.words l.scenario.decls Two l.object (drop l.object l.histories)
      ≡ l.initial.out.put ++ object_sections g.O.Spelled.words g.R.Spelled.words l.scenario.decls Two 0 l.histories;
  front : l.out.front ≡ l.initial.out.front;
}
