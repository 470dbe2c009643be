use Rattle.std.proofs.Common.{◌≡◌, ℕ, ◌++◌, ◌∷◌, [], List, Vec, Global, length, sym, ap, subst, ◌∙◌, arith, append_assoc}
use Rattle.std.proofs.lemmas.List.{length-append}
use Rattle.zk_msgsub.specs.declared.seats.PubSeat.{PubSeat}
use Rattle.zk_feed.specs.declared.feeder.Feeder.{Feeder}
use Rattle.zk_feed.specs.Feeding.{IsGathered}
use Rattle.zk_feed.proofs.Gathering.{fed-at, own-pass, so-far-more, some-pass}
use Rattle.zk_feed.proofs.shared.Shared.gather.Goals as goal

pub finish-pass-requires : goal.finish-pass-requires
finish-pass-requires c =
    let f = c.args.self.now in
    let l = c.loop-feeder in
    let steps = c.in-Some.ensures.steps.0 in
    let whole = ap (λ (rest : List Feeder). l.yielded ++ rest) (sym steps) ∙ l.invariant.items in
    record {
      there = some-pass f (length l.yielded) f.size.messages c.in-Some.feeder.publisher
          (fed-at f f.size.publishers c.args.feeders.items l.yielded _ c.in-Some.feeder c.requires.fed whole c.if-refused.false);
    }

pub joined-requires-clause-own : goal.joined-requires-clause-own
joined-requires-clause-own c =
    let f = c.args.self.now in
    let l = c.loop-feeder in
    let steps = c.in-Some.ensures.steps.0 in
    let whole = ap (λ (rest : List Feeder). l.yielded ++ rest) (sym steps) ∙ l.invariant.items in
    own-pass f (length l.yielded) f.size.messages c.in-Some.feeder.publisher c.finish-pass.result.0
    (fed-at f f.size.publishers c.args.feeders.items l.yielded _ c.in-Some.feeder c.requires.fed whole c.if-refused.false)
    (sym c.finish-pass.ensures.pass)

pub loop-feeder-preserved : goal.loop-feeder-preserved
loop-feeder-preserved c =
    let f = c.args.self.now in
    let l = c.loop-feeder in
    let feeder = c.in-Some.feeder in
    let steps = c.in-Some.ensures.steps.0 in
    let whole = ap (λ (rest : List Feeder). l.yielded ++ rest) (sym steps) ∙ l.invariant.items in
    let feeding = fed-at f f.size.publishers c.args.feeders.items l.yielded _ feeder c.requires.fed whole c.if-refused.false in
    let made = l.invariant.made in
    let room = l.invariant.room in
    let pushed = c.push_within.ensures in
    let long = length-append l.yielded (feeder ∷ []) in
    let many : length l.rows.items ≡ length l.yielded = sym l.rows.ok.0 ∙ made in
    let one = so-far-more f (length l.yielded) feeder.publisher c.finish-pass.result.0 c.finish-pass.result.1 feeding
    (sym c.finish-pass.ensures.pass) c.finish-pass.ensures.seats l.all l.rows.items c.joined.result many l.invariant.so_far
    c.joined.ensures in
    record {
      items = append_assoc l.yielded (feeder ∷ []) _ ∙ whole;
      so_far = subst (λ (rows : List (Vec PubSeat Global)). IsGathered f (length (l.yielded ++ feeder ∷ [])) c.joined.result
          rows) (sym pushed.items)
          (subst (λ (n : ℕ). IsGathered f n c.joined.result (l.rows.items ++ c.finish-pass.result.1 ∷ [])) (sym long) one);
      made = (let len = pushed.len in omega arith);
      room = (let kept = pushed.capacity in omega arith);
    }
