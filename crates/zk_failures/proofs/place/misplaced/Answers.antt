use Rattle.std.proofs.Common.{◌≡◌, ◌<◌, true, List, length, take, get_or, below_more, arith, sym, subst, ◌∙◌}
use Rattle.std.proofs.lemmas.List.{take_more, length-take}
use Rattle.std.proofs.lemmas.List.Sums.{count_by-le-length}
use Rattle.std.proofs.lemmas.Option.{slice_get-get_or, slice_get_within}
use Rattle.zk_worker.specs.declared.steps.Spot.TheVariants.{Work}
use Rattle.zk_trace.specs.declared.stood.Stood.{Stood}
use Rattle.zk_trace.specs.Stood.{is_of}
use Rattle.zk_failures.specs.Own.{IsOwn}
use Rattle.zk_failures.specs.Standing.{may_stand}
use Rattle.zk_failures.proofs.Misplaced.{misplaced-here, misplaced-never}
use Rattle.zk_failures.proofs.place.misplaced.Goals as goal

pub put_row-requires : goal.put_row-requires
put_row-requires c = λ k d within.
    let owns = c.loop-place.owns.items in
    let rows = c.args.rows.now in
    let front = take c.loop-place.place rows in
    let is = c.loop-place.invariant.own k (get_or owns k d) (slice_get-get_or owns k d within) in
    let few = count_by-le-length (is_of k) front in
    omega (arith, is.rows, few, length-take c.loop-place.place rows)

pub returns-then-not-branch-clause-place : goal.returns-then-not-branch-clause-place
returns-then-not-branch-clause-place c = λ grouped below.
    let rows = c.args.rows.now in
    let place = c.loop-place.place in
    let row : Stood = get_or rows place (record { player = 0; step = 0; spot = Work 0 }) in
    let there = slice_get-get_or rows place (record { player = 0; step = 0; spot = Work 0 }) c.loop-place-test.true in
    let known : row.player < length c.loop-place.owns.items = omega (arith, below place row there, c.loop-place.invariant.long) in
    let may = c.in_ok-put_row.ensures.may (take place rows) c.loop-place.invariant.own known in
    record {
      fails = misplaced-here rows place row there (sym may ∙ c.if-not-branch.true);
      none_before = c.loop-place.invariant.none grouped below;
    }

pub loop-place-preserved : goal.loop-place-preserved
loop-place-preserved c =
    let rows = c.args.rows.now in
    let place = c.loop-place.place in
    let row : Stood = get_or rows place (record { player = 0; step = 0; spot = Work 0 }) in
    let there = slice_get-get_or rows place (record { player = 0; step = 0; spot = Work 0 }) c.loop-place-test.true in
    let front = take place rows in
    let own = c.loop-place.invariant.own in
    record {
      own = λ player one here.
          subst (λ (lines : List Stood). IsOwn player lines one) (sym (take_more rows place (record { player = 0; step = 0; spot = Work 0 }) c.loop-place-test.true))
          (c.in_ok-put_row.ensures.put c.if-not-branch.false front own player one here);
      long = c.in_ok-put_row.ensures.long ∙ c.loop-place.invariant.long;
      none = λ grouped below.
          let none = c.loop-place.invariant.none grouped below in
          let known : row.player < length c.loop-place.owns.items = omega (arith, below place row there, c.loop-place.invariant.long) in
          let may : may_stand front row ≡ true = sym (c.in_ok-put_row.ensures.may front own known) ∙ c.if-not-branch.false in
          below_more _ _ none (misplaced-never rows place row there grouped none may);
    }

pub returns-clause-place : goal.returns-clause-place
returns-clause-place c = λ grouped below place m.
    let within = slice_get_within c.args.rows.now place m.line m.there in
    c.loop-place.invariant.none grouped below place (omega arith) m
