use Rattle.std.proofs.Common.{ℕ, suc, ◌+◌, ◌≡◌, ◌∷◌, ◌++◌, List, get_or, drop, sym, ap, ◌∙◌, arith}
use Rattle.std.proofs.Math.Seq.{drop-cons}
use Rattle.zk_worker.specs.declared.steps.Spot.{Spot}
use Rattle.zk_worker.specs.declared.steps.Spot.TheVariants as spots
use Rattle.zk_trace.specs.declared.looks.SignalLook.{SignalLook}
use Rattle.zk_trace.specs.Looked.{signal_look_at, looks_from}
use Rattle.zk_gathering.specs.Looks.{with_found}
use Rattle.zk_gathering.proofs.Gathered.{gathered-step}
use Rattle.zk_gathering.proofs.looks.add_signal_looks.Goals as goal

pub loop-step-preserved : goal.loop-step-preserved
loop-step-preserved c = λ before n same.
    let was = c.loop-step.invariant before n same in
    let player = c.args.player in
    let step = c.loop-step.step in
    let steps = c.args.steps.now in
    let spot = get_or steps step (spots.Work 0) in
    let more = drop (step + 1) steps in
    let next : suc step ≡ step + 1 = omega arith in
    let left : drop step steps ≡ spot ∷ more = drop-cons steps step (spots.Work 0) c.loop-step-test.true ∙ ap (λ (k : ℕ). get_or steps step (spots.Work 0) ∷ drop k steps) next in (
      with_found was.0 c.look_of.result,
      c.in_ok-add_found.ensures was.0 n was.1,
      λ object.
          let rest : List Spot → List SignalLook = λ l. looks_from (signal_look_at object) player step l in
          ap (λ found. with_found was.0 found object ++ looks_from (signal_look_at object) player (step + 1) more) c.look_of.ensures
          ∙ gathered-step was.0 player step spot more object
          ∙ ap (λ (l : List Spot). was.0 object ++ rest l) (sym left)
          ∙ was.2 object,
    )
