-- The run of a valid scenario: each of its worlds is sound, and its trace is lawful.
use Rattle.std.proofs.Common.{◌≡◌, ℕ, ◌≤◌, false, List, length, refl, sym, ap, subst, ◌∙◌, arith}
use Rattle.std.proofs.lemmas.Bool.{lt-leb}
use Rattle.std.proofs.lemmas.List.Folds.{list_any_none}
use Rattle.zk_scenario.specs.Content.{Content}
use Rattle.zk_scenario.specs.Players.{players}
use Rattle.zk_scenario.specs.Valid.{IsValid}
use Rattle.zk_worker.specs.declared.steps.Spot.{Spot}
use Rattle.zk_worker.specs.Follows.{is_spent_at}
use Rattle.zk_worker.specs.Machines.{machines_of}
use Rattle.zk_worker.specs.Places.{PlayerPlace}
use Rattle.zk_worker.specs.Protocol.{attempts}
use Rattle.zk_worker.proofs.Lists.{none-passes}
use Rattle.zk_worker.proofs.Starts.{start_at-fresh}
use Rattle.zk_trace.specs.declared.trace.Ending.{Ending}
use Rattle.zk_trace.specs.declared.trace.Trace.{Trace}
use Rattle.zk_trace.specs.Lawful.{IsLawful}
use Rattle.zk_services.specs.Starts.{starts}
use Rattle.zk_services.proofs.Starts.{starts-all}
use Rattle.zk_world.specs.Over.{IsOver}
use Rattle.zk_world.specs.Sound.{IsSound}
use Rattle.zk_world.specs.Traces.{ending_at, world_trace}
use Rattle.zk_world.specs.World.{World, first, is_spent}
use Rattle.zk_world.proofs.Beginning.{sound-first}
use Rattle.zk_world.proofs.Lawful.{sound-lawful, sound-halts, lawful-where}
use Rattle.zk_world.proofs.Over.{sound-over}
use Rattle.zk_world.proofs.Sound.{sound-stepped}
use Rattle.zk_scenario.specs.Steps.{steps_of}
use Rattle.zk_scenario.proofs.Steps.{steps-some}
use Rattle.zk_replay.specs.RoundRobin.{round, rounds, IsRun}
use Rattle.zk_replay.specs.Replay.{trace_of, IsReplay}
use Rattle.zk_replay.proofs.OneRun.{none_goes_on}
use Rattle.zk_replay.proofs.StillRounds.{first_possible-is, rounds-keep}

unspent-fresh : (s : Content) (at : PlayerPlace) → length at.spots ≤ 0 → is_spent_at s at ≡ false
unspent-fresh s at none = lt-leb (steps_of s) (length at.spots) (omega (arith, none, steps-some s))

-- no player of the first world is spent
pub unspent-first : (s : Content) → is_spent s (first s) ≡ false
unspent-first s =
    let n = length (players s.decls) in
    let P : PlayerPlace → Type 0 = λ at. is_spent_at s at ≡ false in
    list_any_none (is_spent_at s) (starts s n)
    (starts-all P s (λ k at is. unspent-fresh s at (omega (arith, ap (λ (l : List Spot). length l) (start_at-fresh s k at is).none_made))) n)

-- each world of the run of a valid scenario is sound
pub run-sound : (s : Content) (w : World) → IsValid s → IsRun (machines_of s) s w → IsSound s w
run-sound s w valid run =
    let m = machines_of s in
    subst (IsSound s) (sym run.1)
    (rounds-keep m s (IsSound s) (λ v p at made sound unspent there choice.
    sound-stepped m s v p at made refl sound there (none-passes (is_spent_at s) v.players p at unspent there)
    (first_possible-is m v.shown at.who (attempts s at) made choice)) run.0 (first s) (sound-first s valid))

-- what rounds have come to from the first world on, and a further one leaves as it is, is the run
pub run-from : (s : Content) (old w : World) (n : ℕ) → old ≡ first s → w ≡ rounds (machines_of s) s n old → round (machines_of s) s w ≡ w → IsRun (machines_of s) s w
run-from s old w n begins so_far over = (n, so_far ∙ ap (rounds (machines_of s) s n) begins, over)

-- the trace of its last world is that of the run
pub replayed : (s : Content) (w : World) (ending : Ending) (t : Trace) → IsRun (machines_of s) s w → ending ≡ ending_at s w → t ≡ world_trace s ending w → IsReplay s t
replayed s w ending t run is same = (w, run, same ∙ ap (λ (e : Ending). world_trace s e w) is)

run-lawful : (s : Content) (w : World) → IsValid s → IsRun (machines_of s) s w → IsLawful s (trace_of s w)
run-lawful s w valid run =
    let sound = run-sound s w valid run in
    lawful-where s (trace_of s w) (sound-lawful s (ending_at s w) w sound) (sound-halts s w sound (λ unspent p at there. none_goes_on s w run unspent p at there))

-- the trace of a run of a valid scenario is lawful
pub lawful : (s : Content) (t : Trace) → IsValid s → IsReplay s t → IsLawful s t
lawful s t valid run = subst (λ (x : Trace). IsLawful s x) (sym run.2) (run-lawful s run.0 valid run.1)

-- where the trace of a run has ended, none of its admissions waits or runs
pub over : (s : Content) (t : Trace) → IsValid s → IsReplay s t → IsOver s t
over s t valid run = subst (IsOver s) (sym run.2) (sound-over s run.0 (run-sound s run.0 valid run.1))
