-- The run of a scenario is one, and ends where no player can go on.
use Rattle.std.proofs.Common.{◌≡◌, ℕ, zero, suc, ◌+◌, sym, ap, ◌∙◌, arith}
use Rattle.std.proofs.lemmas.Option.{slice_get_within}
use Rattle.zk_scenario.specs.Content.{Content}
use Rattle.zk_worker.specs.Machines.{Machines, machines_of}
use Rattle.zk_world.specs.World.{World, first}
use Rattle.zk_replay.specs.RoundRobin.{round, rounds, IsRun}
use Rattle.zk_replay.specs.Laws.{HasOneRun, NoneGoesOn}
use Rattle.zk_replay.proofs.StillRounds.{round-still}

module _ (m : Machines) (s : Content) where
  -- behind the last round no further one changes anything
  rounds-stay : (n k : ℕ) (w : World) → round m s (rounds m s n w) ≡ rounds m s n w → rounds m s (k + n) w ≡ rounds m s n w
  rounds-stay n zero w over = let same : zero + n ≡ n = omega arith in ap (λ (j : ℕ). rounds m s j w) same
  rounds-stay n (suc k) w over =
      let same : suc k + n ≡ suc (k + n) = omega arith in
      ap (λ (j : ℕ). rounds m s j w) same ∙ ap (round m s) (rounds-stay n k w over) ∙ over

  run-stays : (v : World) (run : IsRun m s v) (k : ℕ) → rounds m s (k + run.0) (first s) ≡ v
  run-stays v run k = rounds-stay run.0 k (first s) (ap (round m s) (sym run.1) ∙ run.2 ∙ run.1) ∙ sym run.1

  run-once : (v w : World) → IsRun m s v → IsRun m s w → v ≡ w
  run-once v w a b =
      let same : b.0 + a.0 ≡ a.0 + b.0 = omega arith in
      sym (run-stays v a b.0) ∙ ap (λ (j : ℕ). rounds m s j (first s)) same ∙ run-stays w b a.0

pub has_one_run : HasOneRun
has_one_run s v w a b = run-once (machines_of s) s v w a b

pub none_goes_on : NoneGoesOn
none_goes_on s w run unspent player at is =
    round-still (machines_of s) s w run.2 unspent player at (slice_get_within w.players player at is) is
