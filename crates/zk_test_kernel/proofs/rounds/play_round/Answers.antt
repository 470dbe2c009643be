use Rattle.std.proofs.Common.{rules, ◌≡◌, ◌<◌, ℕ, length, List, refl, sym, ap, subst, ◌∙◌, arith}
use Rattle.std.proofs.lemmas.List.{length-set}
use Rattle.std.proofs.lemmas.Option.{slice_get_read, get_or_from_slice_get}
use Rattle.zk_kernel.specs.declared.caller.Caller.{Caller}
use Rattle.zk_kernel.specs.Callers.{place_of}
use Rattle.zk_kernel.specs.Rests.{AreAllCallers}
use Rattle.zk_kernel.proofs.Whole.{one-on}
use Rattle.zk_test_kernel.proofs.rounds.play_round.Goals as goal

pub returns-in_err-step : goal.returns-in_err-step
returns-in_err-step g c =
    let l = c.loop-index in
    let inside : l.index < length l.callers.items = omega (arith, l.invariant.long, c.loop-index-test.true) in
    let stood = get_or_from_slice_get l.callers.items l.index c.index_mut.result.now c.step.new.self
    (slice_get_read l.callers.items (length l.callers.items) l.index c.index_mut.result.now refl inside c.index_mut.ensures.value) in
    record {
      all = one-on c.args.kernel.now l.callers.items l.index c.step.new.self inside c.in_err-step.ensures.own
          (c.in_err-step.ensures.who ∙ ap (λ (x : Caller). (place_of x).who) (sym stood)) l.invariant.all;
    }

pub loop-index-preserved : goal.loop-index-preserved
loop-index-preserved g c =
    let l = c.loop-index in
    let inside : l.index < length l.callers.items = omega (arith, l.invariant.long, c.loop-index-test.true) in
    let stood = get_or_from_slice_get l.callers.items l.index c.index_mut.result.now c.step.new.self
    (slice_get_read l.callers.items (length l.callers.items) l.index c.index_mut.result.now refl inside c.index_mut.ensures.value) in
    record {
      all = one-on c.args.kernel.now l.callers.items l.index c.step.new.self inside c.in_ok-step.ensures.own
          (c.in_ok-step.ensures.who ∙ ap (λ (x : Caller). (place_of x).who) (sym stood)) l.invariant.all;
      long = length-set l.callers.items l.index c.step.new.self ∙ l.invariant.long;
    }
