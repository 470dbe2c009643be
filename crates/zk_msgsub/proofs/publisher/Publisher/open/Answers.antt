use Rattle.std.proofs.Common.{◌≡◌, ◌+◌, ◌≤◌, ◌∷◌, [], ap, refl, subst, sym, ◌∙◌, arith}
use Rattle.std.proofs.lemmas.Option.{same_Some}
use Rattle.zk_base.specs.History.{IsAbove}
use Rattle.zk_turn.specs.Passes.{pass_mine, pass_players, pass_room, pass_seen, pass_who}
use Rattle.zk_turn.specs.Players.{room_of_a_pass}
use Rattle.zk_msgsub.specs.Publishers.{FanPass}
use Rattle.zk_msgsub.proofs.Sending.{still-above, told-once}
use Rattle.zk_msgsub.proofs.publisher.Publisher.open.Goals as goal

pub returns-in-Some-subs-clause-once : goal.returns-in-Some-subs-clause-once
returns-in-Some-subs-clause-once g c =
    let entered = rw c.in-Ok-Some.field-0-is at (rw c.in-Ok-Some.is at c.call-pass.ensures.called) in
    told-once c.args.fan.now c.in-Some-subs.listed c.in-Ok-Some.reply (pass_who c.in-Some.pass) c.args.self.now.step
    c.in-Ok-Some.field-0-0-1
    (pass_seen c.in-Some.pass) (pass_seen c.call-pass.result.0) c.call-pass.ensures.own.lawful entered c.in-Some-subs.ensures

pub returns-in-Err-clause-own : goal.returns-in-Err-clause-own
returns-in-Err-clause-own g c =
    let own = c.requires.own in
    let step = c.args.self.now.step in
    let called = c.call-pass.ensures in
    let p = c.in-Some.pass in
    let q = c.call-pass.result.0 in
    let same : own.pass ≡ p = same_Some own.pass p (sym own.there ∙ sym c.take.ensures.value ∙ c.in-Some.is) in
    let alone : pass_players p ≡ pass_who p ∷ [] = subst (λ (r : FanPass). pass_players r ≡ pass_who r ∷ []) same own.alone in
    let later : IsAbove (pass_mine p) (pass_who p).number step = subst (λ (r : FanPass). IsAbove (pass_mine r)
    (pass_who r).number step) same own.later in
    let steps : step + pass_room p ≤ room_of_a_pass = subst (λ (r : FanPass). step + pass_room r ≤ room_of_a_pass) same
    own.steps in
    let room = called.room in
    record {
      pass = q;
      there = refl;
      own = called.own;
      alone = called.players ∙ alone ∙ ap (λ w. w ∷ []) (sym called.who);
      later = still-above p q step alone called.players called.who (rw c.in-Err.is at called.called) later;
      steps = omega arith;
    }
