-- The objects of a scenario start as the laws of their histories ask.
use Rattle.std.proofs.Common.{◌≡◌, ℕ, zero, suc, ◌≤◌, true, nat_le, Option, Some, None, List, [], ◌∷◌, map}
use Rattle.std.specs.List.{slice_get, list_all}
use Rattle.std.specs.Option.{option_and_then}
use Rattle.std.proofs.lemmas.Bool.{and_parts, leb-true}
use Rattle.zk_model_wait.specs.Sem as sem
use Rattle.zk_model_wait.specs.Msgq as msgq
use Rattle.zk_model_wait.specs.Signal as signal
use Rattle.zk_base.specs.declared.validator.Valid.{Valid}
use Rattle.zk_model_bus.specs.Channel as chan
use Rattle.zk_model_bus.specs.Observer as obs
use Rattle.zk_words.specs.Numbers.{is_between}
use Rattle.zk_line.specs.declared.types.Decl.{Decl}
use Rattle.zk_line.specs.declared.types.Decl.TheVariants.{Thread, Queue, Item, Sem, Msgq, Signal, Listener, Sub, Chan}
use Rattle.zk_line.specs.Fits.{decl_fits}
use Rattle.zk_words.specs.declared.limits.TheConstants.{MOST_COUNT}
use Rattle.zk_worker.specs.Machines.{sem_start, msgq_start, signal_start, chan_start, observer_start}

-- a semaphore that starts at a count within its limit
pub record StartsAsSem (start : sem.Sem) : Type 0 where
  pub initial : ℕ
  pub limit : ℕ
  pub within : initial ≤ limit
  pub is_new : start ≡ sem.new_sem initial limit

-- a message queue that starts empty
pub record StartsAsMsgq (start : msgq.Msgq) : Type 0 where
  pub most : ℕ
  pub is_new : start ≡ msgq.new_msgq most

-- a channel that nobody holds
pub record StartsAsChan (start : chan.Channel) : Type 0 where
  pub message : List ℕ
  pub valid : Valid
  pub observers : List ℕ
  pub is_new : start ≡ chan.new_chan message valid observers

-- an observer that is enabled
pub record StartsAsObserver (start : obs.Observer) : Type 0 where
  pub capacity : Option ℕ
  pub is_new : start ≡ obs.new_obs capacity

-- each declared semaphore starts so
pub sem-starts : (decls : List Decl) (object : ℕ) (start : sem.Sem) → list_all decl_fits decls ≡ true →
    option_and_then (λ s. s) (slice_get (map sem_start decls) object) ≡ Some start → StartsAsSem start
sem-starts [] object start fit is = absurd (cc)
sem-starts (Thread name prio user ∷ ds) zero start fit is = absurd (cc)
sem-starts (Queue name prio on ∷ ds) zero start fit is = absurd (cc)
sem-starts (Item name ∷ ds) zero start fit is = absurd (cc)
sem-starts (Sem name initial limit raw ∷ ds) zero start fit is =
    let here = and_parts (decl_fits (Sem name initial limit raw)) (list_all decl_fits ds) fit in
    let counts = and_parts (is_between 1 MOST_COUNT limit) (nat_le initial limit) here.0 in
    record { initial = initial; limit = limit; within = leb-true initial limit counts.1; is_new = cc }
sem-starts (Msgq name size most raw ∷ ds) zero start fit is = absurd (cc)
sem-starts (Signal name raw ∷ ds) zero start fit is = absurd (cc)
sem-starts (Listener name ∷ ds) zero start fit is = absurd (cc)
sem-starts (Sub name capacity ∷ ds) zero start fit is = absurd (cc)
sem-starts (Chan name message valid observers ∷ ds) zero start fit is = absurd (cc)
sem-starts (d ∷ ds) (suc object) start fit is = sem-starts ds object start (and_parts (decl_fits d) (list_all decl_fits ds) fit).1 is

-- and each declared message queue
pub msgq-starts : (decls : List Decl) (object : ℕ) (start : msgq.Msgq) →
    option_and_then (λ s. s) (slice_get (map msgq_start decls) object) ≡ Some start → StartsAsMsgq start
msgq-starts [] object start is = absurd (cc)
msgq-starts (Thread name prio user ∷ ds) zero start is = absurd (cc)
msgq-starts (Queue name prio on ∷ ds) zero start is = absurd (cc)
msgq-starts (Item name ∷ ds) zero start is = absurd (cc)
msgq-starts (Sem name initial limit raw ∷ ds) zero start is = absurd (cc)
msgq-starts (Msgq name size most raw ∷ ds) zero start is = record { most = most; is_new = cc }
msgq-starts (Signal name raw ∷ ds) zero start is = absurd (cc)
msgq-starts (Listener name ∷ ds) zero start is = absurd (cc)
msgq-starts (Sub name capacity ∷ ds) zero start is = absurd (cc)
msgq-starts (Chan name message valid observers ∷ ds) zero start is = absurd (cc)
msgq-starts (d ∷ ds) (suc object) start is = msgq-starts ds object start is

-- each declared signal starts clear
pub signal-starts : (decls : List Decl) (object : ℕ) (start : signal.Signal) →
    option_and_then (λ s. s) (slice_get (map signal_start decls) object) ≡ Some start → start ≡ signal.new_signal
signal-starts [] object start is = absurd (cc)
signal-starts (Thread name prio user ∷ ds) zero start is = absurd (cc)
signal-starts (Queue name prio on ∷ ds) zero start is = absurd (cc)
signal-starts (Item name ∷ ds) zero start is = absurd (cc)
signal-starts (Sem name initial limit raw ∷ ds) zero start is = absurd (cc)
signal-starts (Msgq name size most raw ∷ ds) zero start is = absurd (cc)
signal-starts (Signal name raw ∷ ds) zero start is = cc
signal-starts (Listener name ∷ ds) zero start is = absurd (cc)
signal-starts (Sub name capacity ∷ ds) zero start is = absurd (cc)
signal-starts (Chan name message valid observers ∷ ds) zero start is = absurd (cc)
signal-starts (d ∷ ds) (suc object) start is = signal-starts ds object start is

-- each declared channel starts free
pub chan-starts : (decls : List Decl) (object : ℕ) (start : chan.Channel) →
    option_and_then (λ s. s) (slice_get (map chan_start decls) object) ≡ Some start → StartsAsChan start
chan-starts [] object start is = absurd (cc)
chan-starts (Thread name prio user ∷ ds) zero start is = absurd (cc)
chan-starts (Queue name prio on ∷ ds) zero start is = absurd (cc)
chan-starts (Item name ∷ ds) zero start is = absurd (cc)
chan-starts (Sem name initial limit raw ∷ ds) zero start is = absurd (cc)
chan-starts (Msgq name size most raw ∷ ds) zero start is = absurd (cc)
chan-starts (Signal name raw ∷ ds) zero start is = absurd (cc)
chan-starts (Listener name ∷ ds) zero start is = absurd (cc)
chan-starts (Sub name capacity ∷ ds) zero start is = absurd (cc)
chan-starts (Chan name message valid observers ∷ ds) zero start is = record { message = message; valid = valid; observers = observers; is_new = cc }
chan-starts (d ∷ ds) (suc object) start is = chan-starts ds object start is

-- each declared listener and subscriber starts enabled
pub observer-starts : (decls : List Decl) (object : ℕ) (start : obs.Observer) →
    option_and_then (λ s. s) (slice_get (map observer_start decls) object) ≡ Some start → StartsAsObserver start
observer-starts [] object start is = absurd (cc)
observer-starts (Thread name prio user ∷ ds) zero start is = absurd (cc)
observer-starts (Queue name prio on ∷ ds) zero start is = absurd (cc)
observer-starts (Item name ∷ ds) zero start is = absurd (cc)
observer-starts (Sem name initial limit raw ∷ ds) zero start is = absurd (cc)
observer-starts (Msgq name size most raw ∷ ds) zero start is = absurd (cc)
observer-starts (Signal name raw ∷ ds) zero start is = absurd (cc)
observer-starts (Listener name ∷ ds) zero start is = record { capacity = None; is_new = cc }
observer-starts (Sub name capacity ∷ ds) zero start is = record { capacity = Some capacity; is_new = cc }
observer-starts (Chan name message valid observers ∷ ds) zero start is = absurd (cc)
observer-starts (d ∷ ds) (suc object) start is = observer-starts ds object start is
