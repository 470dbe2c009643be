-- Inner: no contract of a top call is made of this file.
use Rattle.std.specs.Prelude.{◌≡◌, ℕ, ◌+◌, Bool, true, false, not, Option, Some, None, List, [], ◌∷◌, map, count_by, slice_get, option_and_then}
use Rattle.std.specs.List.{flat_map}
use Rattle.zk_base.specs.Waits.{Waits}
use Rattle.zk_line.specs.declared.types.Decl.{Decl}
use Rattle.zk_line.specs.declared.types.Decl.TheVariants as decls
use Rattle.zk_line.specs.declared.types.Declared.{Declared}
use Rattle.zk_line.specs.declared.types.Declared.TheVariants.{Object, Allow}
use Rattle.zk_line.specs.Objects.{kind_of, is_thread, is_item, number_of}
use Rattle.zk_model_bus.specs.Channel.{Channel}
use Rattle.zk_model_bus.specs.Observer.{Observer}
use Rattle.zk_model_bus.specs.Table.{Table}
use Rattle.zk_model_wait.specs.Msgq.{Msgq}
use Rattle.zk_model_wait.specs.Sem.{Sem}
use Rattle.zk_model_wait.specs.Signal.{Signal}
use Rattle.zk_model_work.specs.declared.parts.Queue.{Queue}
use Rattle.zk_model_work.specs.State.{State}
use Rattle.zk_scenario.specs.Content.{Content}
use Rattle.zk_worker.specs.Families.{Family, start_of}
use Rattle.zk_worker.specs.Machines.{Machines, machines_of}

-- nobody waits, and no wait is decided
abbrev pub nobody : {M A : Type 0} → Waits M A
nobody = record { waiting = []; decided = [] }

-- a semaphore has its first count and its limit
abbrev pub declared_sem : Decl → Option Sem
declared_sem (decls.Sem name initial limit raw) =
    Some (record { count = initial; limit = limit; entries = 0; takers = nobody; pollers = nobody })
declared_sem decl = None

-- a message queue is empty, and holds as many messages as it says
abbrev pub declared_msgq : Decl → Option Msgq
declared_msgq (decls.Msgq name size capacity raw) =
    Some (record { most = capacity; entries = 0; messages = []; puts = nobody; gets = nobody; pollers = nobody })
declared_msgq decl = None

-- nothing was written to a signal: it is clear
abbrev pub declared_signal : Decl → Option Signal
declared_signal (decls.Signal name raw) = Some (record { writes = [] })
declared_signal decl = None

-- a channel has its first message, its validator and its observers, none of them masked, and nobody holds it
abbrev pub declared_chan : Decl → Option Channel
declared_chan (decls.Chan name message valid observers) = Some (record {
  valid = valid;
  entries = 0;
  message = message;
  observers = map (λ observer. record { number = observer; masked = false }) observers;
  holder = None;
  waits = nobody;
})
declared_chan decl = None

-- an observer is on, and lists no channel: a subscriber lists as many as it says, and a listener isn't bounded
abbrev pub declared_observer : Decl → Option Observer
declared_observer (decls.Listener name) =
    Some (record { capacity = None; entries = 0; enabled = true; channels = []; takers = nobody })
declared_observer (decls.Sub name capacity) =
    Some (record { capacity = Some capacity; entries = 0; enabled = true; channels = []; takers = nobody })
declared_observer decl = None

-- each object of a kind starts as its declaration says, and no other object is of the kind
abbrev pub StartAs : {S O R : Type 0} → (Decl → Option S) → List Decl → Family S O R → Type 0
StartAs declared decls family = (object : ℕ) → start_of family object ≡ option_and_then declared (slice_get decls object)

-- the work queues of these declarations, in their order, and the first of these has this worker: each is started or not
abbrev pub declared_queues : ℕ → List Decl → List Queue
declared_queues worker [] = []
declared_queues worker (decls.Queue name prio on ∷ more) =
    record { worker = worker; started = on; draining = false; plugged = false; drained = 0 } ∷ declared_queues (worker + 1) more
declared_queues worker (decl ∷ more) = declared_queues worker more

-- by object number the number of each item among the items; the first of those declared here has this number
abbrev pub declared_items : ℕ → List Decl → List (Option ℕ)
declared_items n [] = []
declared_items n (decls.Item name ∷ more) = Some n ∷ declared_items (n + 1) more
declared_items n (decl ∷ more) = None ∷ declared_items n more

-- the threads of these declarations, in their order, each with the number of its object, and whether it is a user; the first of
-- these declarations has this number
abbrev pub declared_threads : ℕ → List Decl → List (ℕ × Bool)
declared_threads n [] = []
declared_threads n (decls.Thread name prio user ∷ more) = (n, user) ∷ declared_threads (n + 1) more
declared_threads n (decl ∷ more) = declared_threads (n + 1) more

-- an object is initialised at first, where its declaration doesn't say otherwise
abbrev pub is_declared_ready : Decl → Bool
is_declared_ready (decls.Sem name initial limit raw) = not raw
is_declared_ready (decls.Msgq name size capacity raw) = not raw
is_declared_ready (decls.Signal name raw) = not raw
is_declared_ready decl = true

-- the permission that a line gives, if it gives one: of a thread, by its number among the threads, on an object
abbrev pub declared_permission : List Decl → Declared → List (ℕ × ℕ)
declared_permission decls (Object object) = []
declared_permission decls (Allow thread object) = (number_of decls thread, object) ∷ []

-- the work service has the declared items and queues, the workers behind the threads, and nothing has come to it
pub record WorkStarts (s : Content) (start : State) : Type 0 where
  pub time : start.time ≡ 0
  pub entries : start.entries ≡ 0
  pub items : start.items ≡ count_by is_item s.decls
  pub admissions : start.admissions ≡ []
  pub arms : start.arms ≡ []
  pub marks : start.marks ≡ []
  pub waits : start.waits ≡ []
  pub queues : start.queues ≡ declared_queues (count_by is_thread s.decls) s.decls

-- the object table has the declared kinds, what is initialised, the threads and their permissions, and nothing has come to it
pub record TableStarts (s : Content) (start : Table) : Type 0 where
  pub entries : start.entries ≡ []
  pub kinds : start.setup.kinds ≡ map kind_of s.decls
  pub ready : start.setup.ready ≡ map is_declared_ready s.decls
  pub threads : start.setup.threads ≡ declared_threads 0 s.decls
  pub allowed : start.setup.allowed ≡ flat_map (declared_permission s.decls) s.written

-- each service, and each object of which there are many, starts as the scenario declares it; the clock at 0, without an alarm
pub record StartsAsDeclared (s : Content) (m : Machines) : Type 0 where
  pub work : WorkStarts s m.work_start
  pub items : m.items ≡ declared_items 0 s.decls
  pub clock : m.clock_start ≡ record { time = 0; entries = 0; alarms = [] }
  pub table : TableStarts s m.table_start
  pub sems : StartAs declared_sem s.decls m.sems
  pub msgqs : StartAs declared_msgq s.decls m.msgqs
  pub signals : StartAs declared_signal s.decls m.signals
  pub chans : StartAs declared_chan s.decls m.chans
  pub observers : StartAs declared_observer s.decls m.observers

-- of each scenario
abbrev pub EachStartsAsDeclared : Type 0
EachStartsAsDeclared = (s : Content) → StartsAsDeclared s (machines_of s)
