use Rattle.std.proofs.Common.{ℕ, List, length, take, ap, ◌∙◌, arith, subst, length-drop}
use Rattle.std.specs.Io.KnownBytes.{Appends}
use Rattle.zk_forms.proofs.Pieces.{Appends-more, take-rest}
use Rattle.zk_forms.proofs.output.write_text.Goals as goal

pub loop-written-preserved : goal.loop-written-preserved
loop-written-preserved g c =
    let text = c.args.text.now in
    let done = c.loop-written.written in
    let rest = take-rest done text in
    let sized = ap length rest in
    let long = length-drop done text in
    let fits = c.in_ok-written.ensures.bound in
    record {
      within = omega arith;
      held = Appends-more (g.K.Sink.held c.args.sink.now) (g.K.Sink.held c.loop-written.sink) (g.K.Sink.held c.write.new.self) text done c.in_ok-written.field-0
          c.loop-written.invariant.within c.loop-written.invariant.held
          (subst (λ (l : List ℕ). Appends (g.K.Sink.held c.loop-written.sink) (g.K.Sink.held c.write.new.self) (take c.in_ok-written.field-0 l)) rest c.in_ok-written.ensures.bytes);
      counted = c.in_ok-written.ensures.cause.1 ∙ c.loop-written.invariant.counted;
    }
