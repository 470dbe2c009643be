use Rattle.std.proofs.Common.{sym, ap, ◌∙◌}
use Rattle.zk_player_set.specs.declared.player_set.PlayerSet.{PlayerSet}
use Rattle.zk_objects.specs.First.{declares_user}
use Rattle.zk_player_set.specs.Players.{has}
use Rattle.zk_objects.proofs.Firsts.{one-more, none-more, all-seen}
use Rattle.zk_objects.proofs.first.first_users.Goals as goal
use Rattle.zk_objects.proofs.first.first_users.Goals.{then-begins_as_user, else-begins_as_user}

pub loop-player-preserved : goal.loop-player-preserved
loop-player-preserved c = λ p.
    let test = declares_user c.args.threads.now in
    let old = c.loop-player.users in
    let player = c.loop-player.player in
    let before = c.loop-player.invariant p in
    elim c.if-begins_as_user.branch [
      | then-begins_as_user w ↦
          ap (λ (s : PlayerSet). has s p) w.users-is ∙ w.insert.ensures p
          ∙ one-more test player p (has old p) c.loop-player-test.true (sym c.begins_as_user.ensures ∙ w.if-begins_as_user.true)
          before
      | else-begins_as_user w ↦
          ap (λ (s : PlayerSet). has s p) w.users-is
          ∙ none-more test player p (has old p) (sym c.begins_as_user.ensures ∙ w.if-begins_as_user.false) before
    ]

pub returns : goal.returns
returns c = λ p.
    all-seen (declares_user c.args.threads.now) c.loop-player.player p
    (has c.loop-player.users p) c.loop-player-test.false c.loop-player.auto.player-end (c.loop-player.invariant p)
