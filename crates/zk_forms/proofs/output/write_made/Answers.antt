use Rattle.std.proofs.Common.{List, ℕ, subst}
use Rattle.std.specs.Io.KnownBytes.{Appends}
use Rattle.zk_forms.specs.Output.{AppendsFront}
use Rattle.zk_forms.specs.Top.{answered, cut_short, unmade}
use Rattle.zk_forms.proofs.Outcomes.{Keeps-same}
use Rattle.zk_forms.proofs.output.write_made.Goals as goal

pub returns-in_default-clause-answered : goal.returns-in_default-clause-answered
returns-in_default-clause-answered g c = λ form input made. unmade (Keeps-same (g.K.Sink.held c.args.sink.now))

pub returns-in-Ok-write_text-clause-answered : goal.returns-in-Ok-write_text-clause-answered
returns-in-Ok-write_text-clause-answered g c = λ form input made.
    let old = g.K.Sink.held c.args.sink.now in
    let new = g.K.Sink.held c.write_text.new.sink in
    let is = rw c.in-Ok.is at made in
    answered c.in-Ok.status c.in-Ok.output.items is
    (subst (λ (text : List ℕ). Appends old new text) c.deref.ensures.value c.in-Ok-write_text.ensures.whole)

pub returns-clause-answered : goal.returns-clause-answered
returns-clause-answered g c = λ form input made.
    let old = g.K.Sink.held c.args.sink.now in
    let new = g.K.Sink.held c.write_text.new.sink in
    let is = rw c.in-Ok.is at made in
    cut_short c.in-Ok.status c.in-Ok.output.items is
    (subst (λ (text : List ℕ). AppendsFront old new text) c.deref.ensures.value c.in-Err.ensures.front) c.in-Err.ensures.cause.2
