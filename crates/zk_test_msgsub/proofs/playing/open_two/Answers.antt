use Rattle.std.proofs.Common.{[], ◌∷◌, ℕ, pos}
use Rattle.zk_base.specs.declared.ids.Who.{Who}
use Rattle.zk_test_msgsub.proofs.playing.open_two.Goals as goal

abbrev player : ℕ → Who
player n = record { number = n; prio = pos 0 }

pub last_pass-fourth-requires : goal.last_pass-fourth-requires
last_pass-fourth-requires c = (player 0 ∷ player 1 ∷ player 2 ∷ [], c.in_ok-fan.ensures.passes)

pub last_pass-third-requires : goal.last_pass-third-requires
last_pass-third-requires c = (
  player 0 ∷ player 1 ∷ [],
  c.last_pass-fourth.ensures.others (player 0 ∷ player 1 ∷ player 2 ∷ []) c.in_ok-fan.ensures.passes,
)

pub last_pass-other-requires : goal.last_pass-other-requires
last_pass-other-requires c = (
  player 0 ∷ [],
  c.last_pass-third.ensures.others (player 0 ∷ player 1 ∷ [])
      (c.last_pass-fourth.ensures.others (player 0 ∷ player 1 ∷ player 2 ∷ []) c.in_ok-fan.ensures.passes),
)
