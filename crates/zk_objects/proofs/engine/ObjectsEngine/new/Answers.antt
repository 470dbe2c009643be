use Rattle.std.proofs.Common.{ℕ, Bool, List, ltb, ◌&&◌, ap, ◌∙◌}
use Rattle.zk_base.specs.Limits.{most_players}
use Rattle.zk_model_bus.specs.Table.{Setup}
use Rattle.zk_player_set.specs.declared.player_set.PlayerSet.{PlayerSet}
use Rattle.zk_objects.specs.First.{declares_user}
use Rattle.zk_player_set.specs.Players.{has}
use Rattle.zk_objects.proofs.Firsts.{stands-first}
use Rattle.zk_objects.proofs.engine.ObjectsEngine.new.Goals as goal

pub returns : goal.returns
returns c =
    let same = c.deref.ensures.value ∙ ap (λ (s : Setup). s.threads) c.setup.view_is in
    stands-first c.args.setup.now c.in_ok-first_objects.field-0.items c.new.result c.new-2.result c.requires
    c.in_ok-first_objects.ensures
    (λ player.
    ap (λ (s : PlayerSet). has s player) c.new.ensures.within ∙ c.first_users.ensures player
    ∙ ap (λ (threads : List (ℕ × Bool)). ltb player most_players && declares_user threads player) same)
    c.new.ensures.above
    (λ player. ap (λ (s : PlayerSet). has s player) c.new-2.ensures.within ∙ c.none.ensures player)
    c.new-2.ensures.above
