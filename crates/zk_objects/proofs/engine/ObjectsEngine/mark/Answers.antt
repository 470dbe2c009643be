use Rattle.std.proofs.Common.{List, eqb, refl, sym, ap, ◌∙◌, arith}
use Rattle.zk_model_bus.specs.Table.{enters, is_oops}
use Rattle.zk_objects.specs.declared.object.Object.{Object}
use Rattle.zk_objects.specs.Kept.{answered}
use Rattle.zk_objects.specs.Players.{is_marked}
use Rattle.zk_objects.proofs.Standing.{enters-none, oops-none, unmarked}
use Rattle.zk_objects.proofs.engine.ObjectsEngine.mark.Goals as goal

pub returns-in_default : goal.returns-in_default
returns-in_default c =
    let old = c.args.self.now in
    let player = c.args.player in
    let op = c.args.op.now in
    let reply = c.answer-reply.ensures ∙ ap (λ (os : List Object). answered os player op) c.deref.ensures.value in
    let no-oops = ap is_oops (sym reply) ∙ oops-none c.answer-reply.result c.in_default.not-Oops-1 in
    record {
      reply = reply;
      objects = refl;
      users = λ other. unmarked (is_marked old.users other) (eqb player other) (enters op)
          (enters-none op c.in_default.not-EnterUser-0);
      dead = λ other. unmarked (is_marked old.dead other) (eqb player other)
          (is_oops (answered old.objects.items player op)) no-oops;
      same_users = tt;
      same_dead = tt;
      roomy = λ users dead. refl;
      users_room = omega arith;
      dead_room = omega arith;
      users_kept = tt;
      dead_kept = tt;
    }
