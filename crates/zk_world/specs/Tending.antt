-- Inner: no contract of a top call is made of this file.
use Rattle.std.specs.Prelude.{◌≡◌, ◌==◌, ℕ, ◌+◌, ◌<◌, Bool, true, false, if◌then◌else◌, List, [], ◌∷◌, length}
use Rattle.zk_base.specs.declared.ids.Entry.{Entry}
use Rattle.zk_line.specs.declared.types.Decl.{Decl}
use Rattle.zk_line.specs.Objects.{places, number_of, is_at, is_thread, is_queue}
use Rattle.zk_model_work.specs.declared.ops.WorkOp.{WorkOp}
use Rattle.zk_model_work.specs.declared.ops.WorkOp.TheVariants as ops
use Rattle.zk_model_work.specs.declared.ops.WorkReply.{WorkReply}
use Rattle.zk_scenario.specs.Content.{Content}
use Rattle.zk_worker.specs.declared.checks.Mode.TheVariants.{Supervisor}
use Rattle.zk_worker.specs.declared.frames.Frame.{Frame}
use Rattle.zk_worker.specs.declared.frames.Role.{Role}
use Rattle.zk_worker.specs.declared.frames.Role.TheVariants.{Script, Worker}
use Rattle.zk_worker.specs.declared.frames.Stage.{Stage}
use Rattle.zk_worker.specs.declared.frames.Stage.TheVariants.{Start, Runs}
use Rattle.zk_worker.specs.Places.{PlayerPlace}
use Rattle.zk_worker.specs.Shown.{Shown}

-- whether a player has begun a run and not ended it, after an operation of its own, where it had or hadn't before
abbrev pub begun_by : WorkOp → Bool → Bool
begun_by (ops.Begin queue) before = true
begun_by (ops.End queue) before = false
begun_by op before = before

-- the same after an entry, which others' entries leave as it was
abbrev pub begun_after : ℕ → Bool → Entry WorkOp WorkReply → Bool
begun_after number before e = if e.who.number == number then begun_by e.op before else before

-- the same after these entries
abbrev pub begun_from : ℕ → Bool → List (Entry WorkOp WorkReply) → Bool
begun_from number before [] = before
begun_from number before (e ∷ h) = begun_from number (begun_after number before e) h

-- whether the player of this number has begun a run in this history and not ended it
abbrev pub has_begun : ℕ → List (Entry WorkOp WorkReply) → Bool
has_begun number h = begun_from number false h

-- the run of a worker: it is the queue's, and between two runs it has begun none
abbrev pub IsWorkers : List Decl → ℕ → Role → Stage → Bool → Type 0
IsWorkers decls queue (Worker object) Start begun = (number_of decls object ≡ queue) × (begun ≡ false)
IsWorkers decls queue (Worker object) Runs begun = number_of decls object ≡ queue
IsWorkers decls queue role stage begun = ⊥

-- it is a script that is open, and no thread's
abbrev pub IsScript : List Decl → Role → Type 0
IsScript decls (Script owner) = is_at is_thread decls owner ≡ false
IsScript decls (Worker object) = ⊥

-- these are a worker's open scripts and its run, which tends this queue
abbrev pub WorksQueue : List Decl → ℕ → List Frame → Bool → Type 0
WorksQueue decls queue [] begun = ⊥
WorksQueue decls queue (frame ∷ []) begun = IsWorkers decls queue frame.role frame.stage begun
WorksQueue decls queue (frame ∷ next ∷ below) begun =
    IsScript decls frame.role × WorksQueue decls queue (next ∷ below) begun

-- a player works at a queue: it tends the queue, and is no user
pub record Works (decls : List Decl) (queue : ℕ) (at : PlayerPlace) (begun : Bool) : Type 0 where
  pub supervises : at.mode ≡ Supervisor
  pub tends : WorksQueue decls queue at.frames begun

-- a player that is the worker of a queue works at it, as its own entries say
abbrev pub IsAtWork : Content → Shown → PlayerPlace → Type 0
IsAtWork s shown at = (queue : ℕ) → queue < length (places is_queue s.decls) →
    at.who.number ≡ length (places is_thread s.decls) + queue →
    Works s.decls queue at (has_begun at.who.number shown.work)
