-- First states that the law refuses.
use Rattle.std.proofs.Common.{ℕ, Bool, true, false, Option, Some, None, List, [], ◌∷◌, ap, arith}
use Rattle.std.specs.Prelude.{pos}
use Rattle.zk_line.specs.declared.types.Decl.TheVariants as decls
use Rattle.zk_model_wait.specs.Sem.{Sem, sem_machine}
use Rattle.zk_model_work.specs.declared.parts.Queue.{Queue}
use Rattle.zk_model_work.specs.State.{start_of}
use Rattle.zk_player_laws.specs.StartLaws.{nobody, declared_sem, StartAs, WorkStarts}

-- the count of a semaphore, if there is one
abbrev count_in : Option Sem → ℕ
count_in None = 0
count_in (Some sem) = sem.count

-- `sem s 2 3` that starts at 0
pub sem_at_zero-refused : (name : List ℕ) →
    StartAs declared_sem (decls.Sem name 2 3 false ∷ [])
    (record { machine = sem_machine; starts = Some (record { count = 0; limit = 3; entries = 0; takers = nobody; pollers = nobody }) ∷ [] }) → ⊥
sem_at_zero-refused name starts = let same = ap count_in (starts 0) in omega (arith, same)

-- whether the first of these queues is started
abbrev is_first_started : List Queue → Bool
is_first_started [] = false
is_first_started (queue ∷ more) = queue.started

-- `queue q 0 on` that isn't started
pub queue_off-refused : (name : List ℕ) →
    WorkStarts (record { decls = decls.Queue name (pos 0) true ∷ []; written = []; scripts = [] }) (start_of 0 (0 ∷ []) (false ∷ [])) → ⊥
queue_off-refused name starts = let same = ap is_first_started starts.queues in cc
