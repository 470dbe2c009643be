use Rattle.std.proofs.Common.{◌≡◌, ◌≤◌, ℕ, true, List, take, length, sym, ap, subst, ◌∙◌, arith}
use Rattle.std.proofs.lemmas.List.{take_all}
use Rattle.std.proofs.lemmas.List.Elements.{All-more, All-weaker}
use Rattle.zk_services.specs.Counted.{service_of}
use Rattle.zk_replay.specs.declared.last_turn.Asked.{Asked}
use Rattle.zk_replay.specs.Sleeping.{list_of, listed_at, asks_at, AreListed}
use Rattle.zk_replay.proofs.sleepers.join_all.Goals as goal

pub loop-one-preserved : goal.loop-one-preserved
loop-one-preserved c =
    let asked = c.args.asked.now in
    let i = c.loop-one.one-index in
    let n = c.args.player in
    let old = c.loop-one.lists.items in
    let new = c.join.new.lists.items in
    let P : Asked → Type 0 = λ a. asks_at old n a.step ≡ true in
    let Q : Asked → Type 0 = λ a. asks_at new n a.step ≡ true in
    let list : c.list_of.result ≡ list_of (service_of c.one-item.result.step) = c.list_of.ensures ∙ ap list_of c.service_of.ensures in
    record {
      joined = All-more Q asked i c.one-item.result c.loop-one-test.true
          (All-weaker P Q (λ a stood. c.join.ensures.kept (list_of (service_of a.step)) n stood) (take i asked) c.loop-one.invariant.joined)
          (subst Q c.one-item.is (ap (λ (l : ℕ). listed_at new l n) (sym list) ∙ c.join.ensures.joined c.if-not-join.false));
      kept = λ k p stood. c.join.ensures.kept k p (c.loop-one.invariant.kept k p stood);
    }

pub returns-clause-joined : goal.returns-clause-joined
returns-clause-joined c = λ yes.
    let all : length c.args.asked.now ≤ c.loop-one.one-index = omega (arith, c.loop-one-test.false) in
    subst (λ (l : List Asked). AreListed c.loop-one.lists.items l c.args.player) (take_all c.loop-one.one-index c.args.asked.now all) c.loop-one.invariant.joined
