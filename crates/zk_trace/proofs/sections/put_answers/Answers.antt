use Rattle.std.proofs.Common.{sym, ◌∙◌, arith}
use Rattle.zk_trace.specs.Text.{answer_line}
use Rattle.zk_trace.proofs.ByPlaces.{text-next}
use Rattle.zk_trace.proofs.sections.put_answers.Goals as goal

pub loop-place-preserved : goal.loop-place-preserved
loop-place-preserved c = record {
  text = text-next c.args.answers.now c.loop-place.place c.in-Some.answered (let test = c.loop-place-test.true in let long = c.len-place-end.ensures in omega arith) (sym c.get.ensures ∙ c.in-Some.is)
      (answer_line c.args.scenario.now.decls) c.args.out.now.put c.loop-place.out.put c.put_line.new.out.put
      c.loop-place.invariant.text c.in_ok-put_line.ensures.text;
  front = c.in_ok-put_line.ensures.front ∙ c.loop-place.invariant.front;
}
