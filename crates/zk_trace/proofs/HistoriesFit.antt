-- The entries of a history that its machine lets stand are in form, where what was asked is.
use Rattle.std.proofs.Common.{◌≡◌, ℕ, zero, suc, ◌^◌, ◌<◌, Bool, true, false, ◌&&◌, Option, Some, None, List, [], ◌∷◌, length, map, take, All, refl, sym, subst, ◌∙◌}
use Rattle.std.specs.List.{AllByRecursion, AllZip, slice_get, list_all}
use Rattle.std.proofs.lemmas.Bool.{and_parts}
use Rattle.std.proofs.lemmas.List.Elements.{All-nil, All-cons}
use Rattle.std.proofs.lemmas.List.FromFn.{length-range_with_len}
use Rattle.std.proofs.lemmas.Option.{same_Some, none-some}
use Rattle.zk_base.specs.declared.ids.Entry.{Entry}
use Rattle.zk_base.specs.Fews as fews
use Rattle.zk_base.specs.Legal.{Machine, Replays, IsLegal}
use Rattle.zk_base.specs.Messages.{is_message}
use Rattle.zk_base.proofs.Lists.{list_all-at}
use Rattle.zk_blocks.specs.Blocks.{FitsGiven}
use Rattle.zk_blocks.specs.Each.{EachFits}
use Rattle.zk_line.specs.declared.types.Decl.{Decl}
use Rattle.zk_line.specs.declared.types.Decl.TheVariants as decls_of
use Rattle.zk_line.specs.Fits.{decl_fits, all_different}
use Rattle.zk_line.specs.Objects.{places, is_at, is_thread, is_queue, is_sem, is_msgq, is_signal, is_chan, is_observer}
use Rattle.zk_scenario.specs.Content.{Content}
use Rattle.zk_scenario.specs.Players.{who_of}
use Rattle.zk_scenario.specs.Valid.{IsValid}
use Rattle.zk_model_bus.specs.Channel.{Channel, new_chan, chan_machine}
use Rattle.zk_model_bus.specs.Observer.{Observer, new_obs, obs_machine}
use Rattle.zk_model_bus.specs.Table.{Table, table_machine}
use Rattle.zk_model_bus.specs.declared.channel.ChanOp.{ChanOp}
use Rattle.zk_model_bus.specs.declared.channel.ChanReply.{ChanReply}
use Rattle.zk_model_bus.specs.declared.observer.ObsOp.{ObsOp}
use Rattle.zk_model_bus.specs.declared.observer.ObsReply.{ObsReply}
use Rattle.zk_model_bus.specs.declared.table.TableOp.{TableOp}
use Rattle.zk_model_bus.specs.declared.table.TableReply.{TableReply}
use Rattle.zk_model_wait.specs.Clock.{new_clock, clock_machine}
use Rattle.zk_model_wait.specs.Msgq.{Msgq, new_msgq, msgq_machine}
use Rattle.zk_model_wait.specs.Sem.{Sem, new_sem, sem_machine}
use Rattle.zk_model_wait.specs.Signal.{Signal, new_signal, signal_machine}
use Rattle.zk_model_wait.specs.declared.clock.ClockOp.{ClockOp}
use Rattle.zk_model_wait.specs.declared.clock.ClockReply.{ClockReply}
use Rattle.zk_model_wait.specs.declared.msgq.MsgqOp.{MsgqOp}
use Rattle.zk_model_wait.specs.declared.msgq.MsgqReply.{MsgqReply}
use Rattle.zk_model_wait.specs.declared.sem.SemOp.{SemOp}
use Rattle.zk_model_wait.specs.declared.sem.SemReply.{SemReply}
use Rattle.zk_model_wait.specs.declared.signal.SignalOp.{SignalOp}
use Rattle.zk_model_wait.specs.declared.signal.SignalReply.{SignalReply}
use Rattle.zk_model_work.specs.declared.ops.WorkOp.{WorkOp}
use Rattle.zk_model_work.specs.declared.ops.WorkReply.{WorkReply}
use Rattle.zk_model_work.specs.Machine.{work_machine}
use Rattle.zk_model_work.proofs.Counts.{length-fresh_queues}
use Rattle.zk_worker.specs.Machines.{workers, is_on, work_start_of, sem_start, msgq_start, signal_start, chan_start, observer_start}
use Rattle.zk_worker.proofs.Ranges.{same-lengths}
use Rattle.zk_trace.specs.EntryRead.{FitsEntry}
use Rattle.zk_trace.specs.Fields.{IsOf}
use Rattle.zk_trace.proofs.LegalHistories.{IsLegalAt}
use Rattle.zk_trace.specs.Sized.{AreSized, IsSizedWork}
use Rattle.zk_trace.specs.Work as work
use Rattle.zk_trace.specs.WorkRead as work_read
use Rattle.zk_trace.specs.Clock as clock
use Rattle.zk_trace.specs.ClockRead as clock_read
use Rattle.zk_trace.specs.Table as table
use Rattle.zk_trace.specs.TableRead as table_read
use Rattle.zk_trace.specs.Sem as sem
use Rattle.zk_trace.specs.SemRead as sem_read
use Rattle.zk_trace.specs.Msgq as msgq
use Rattle.zk_trace.specs.MsgqRead as msgq_read
use Rattle.zk_trace.specs.Signal as signal
use Rattle.zk_trace.specs.SignalRead as signal_read
use Rattle.zk_trace.specs.Chan as chan
use Rattle.zk_trace.specs.ChanRead as chan_read
use Rattle.zk_trace.specs.Obs as obs
use Rattle.zk_trace.specs.ObsRead as obs_read
use Rattle.zk_trace.proofs.WorkStates.{Keeps, Admits, Arms}
use Rattle.zk_trace.proofs.WorkAnswers.{work-answers}
use Rattle.zk_trace.proofs.ClockAnswers.{clock-answers}
use Rattle.zk_trace.proofs.TableAnswers.{table-answers}
use Rattle.zk_trace.proofs.SemAnswers.{sem-answers}
use Rattle.zk_trace.proofs.MsgqAnswers.{msgq-answers}
use Rattle.zk_trace.proofs.SignalAnswers.{signal-answers}
use Rattle.zk_trace.proofs.ChanAnswers.{chan-answers}
use Rattle.zk_trace.proofs.ObsAnswers.{obs-answers}

-- what is known of an entry but that its reply is of its operation
pub record IsAsked {O R : Type 0} (decls : List Decl) (FitsOp : O → Type 0) (Sized : R → Type 0) (e : Entry O R) : Type 0 where
  pub known : who_of decls e.who.number ≡ Some e.who
  pub step : e.step < 2 ^ 32
  pub op : FitsOp e.op
  pub sized : Sized e.reply

module _ {O R : Type 0} (decls : List Decl) (FitsOp : O → Type 0) (Sized : R → Type 0) (Answers : O → R → Type 0) where
  ops-fit : (h : List (Entry O R)) → AllByRecursion (IsAsked decls FitsOp Sized) h → AllByRecursion (λ e. FitsOp e.op) h
  ops-fit [] asked = tt
  ops-fit (e ∷ es) asked = (asked.0.op, ops-fit es asked.1)

  all-fit : (h : List (Entry O R)) → AllByRecursion (IsAsked decls FitsOp Sized) h → AllByRecursion (λ e. Sized e.reply → Answers e.op e.reply) h →
      AllByRecursion (FitsEntry decls FitsOp Answers) h
  all-fit [] asked answer = tt
  all-fit (e ∷ es) asked answer = (
    record { known = asked.0.known; step = asked.0.step; op = asked.0.op; reply = answer.0 asked.0.sized },
    all-fit es asked.1 answer.1,
  )

  -- so it is of a history whose replies are of their operations
  history-fits : (h : List (Entry O R)) → AllByRecursion (IsAsked decls FitsOp Sized) h →
      (AllByRecursion (λ e. FitsOp e.op) h → AllByRecursion (λ e. Sized e.reply → Answers e.op e.reply) h) → AllByRecursion (FitsEntry decls FitsOp Answers) h
  history-fits h asked answer = all-fit h asked (answer (ops-fit h asked))

  module _ {S : Type 0} (machine : Machine S O R) (start : Decl → Option S) (of_kind : Decl → Bool) (Good : Decl → Type 0) (none : (d : Decl) → of_kind d ≡ false → start d ≡ None)
      (answer : (d : Decl) (s : S) → Good d → start d ≡ Some s → (h : List (Entry O R)) → Replays machine s h → AllByRecursion (λ e. FitsOp e.op) h →
      AllByRecursion (λ e. Sized e.reply → Answers e.op e.reply) h) (some : (d : Decl) → of_kind d ≡ true → (s : S) × (start d ≡ Some s)) where
    one-fits : (d : Decl) (h : List (Entry O R)) → Good d → IsLegalAt machine (start d) h → AllByRecursion (IsAsked decls FitsOp Sized) h →
        FitsGiven (of_kind d) [] (AllByRecursion (FitsEntry decls FitsOp Answers)) h
    one-fits d h good legal asked = by (of_kind d) refl where
      by : (b : Bool) → of_kind d ≡ b → FitsGiven b [] (AllByRecursion (FitsEntry decls FitsOp Answers)) h
      by true is =
          let s = some d is in
          let stands = subst (λ (o : Option S). IsLegalAt machine o h) s.1 legal in
          history-fits h asked (answer d s.0 good s.1 h stands.0)
      by false isnt = subst (λ (o : Option S). IsLegalAt machine o h) (none d isnt) legal

    -- of the histories of a kind each fits, and those of others are empty
    histories-fit : (ds : List Decl) (hs : List (List (Entry O R))) → AllByRecursion Good ds → AllZip (IsLegalAt machine) (map start ds) hs →
        AllByRecursion (AllByRecursion (IsAsked decls FitsOp Sized)) hs → EachFits (λ d. FitsGiven (of_kind d) [] (AllByRecursion (FitsEntry decls FitsOp Answers))) ds hs
    histories-fit [] [] good legal asked = tt
    histories-fit [] (h ∷ hs) good legal asked = legal
    histories-fit (d ∷ ds) [] good legal asked = legal
    histories-fit (d ∷ ds) (h ∷ hs) good legal asked = (one-fits d h good.0 legal.0 asked.0, histories-fit ds hs good.1 legal.1 asked.1)

-- where nothing is asked of the declarations
any-good : (ds : List Decl) → AllByRecursion (λ (d : Decl). Unit {0}) ds
any-good [] = tt
any-good (d ∷ ds) = (tt, any-good ds)

-- where nothing is asked of the replies
any-reply : {O R : Type 0} (P : Entry O R → Type 0) (h : List (Entry O R)) → AllByRecursion P h → AllByRecursion (λ (e : Entry O R). Unit {0} → P e) h
any-reply P [] all = tt
any-reply P (e ∷ es) all = (λ any. all.0, any-reply P es all.1)

-- the work service begins without admissions and arms, with the queues that are declared
work-keeps : (s : Content) → Keeps s.decls (work_start_of s)
work-keeps s = record {
  admissions = All-nil (Admits s.decls);
  arms = All-nil (Arms s.decls);
  queues = length-fresh_queues (workers s.decls) (map (is_on s.decls) (places is_queue s.decls)) (same-lengths s)
      ∙ length-range_with_len (length (places is_thread s.decls)) (length (places is_queue s.decls));
}

-- The services of which there is one.

pub work-fits : (s : Content) (h : List (Entry WorkOp WorkReply)) → IsLegal work_machine (work_start_of s) h → AllByRecursion (IsAsked s.decls (work_read.FitsOp s.decls) IsSizedWork) h →
    AllByRecursion (FitsEntry s.decls (work_read.FitsOp s.decls) (λ op r. work_read.AnswersTo s.decls (work.said_of op).0 r)) h
work-fits s h legal asked =
    history-fits s.decls (work_read.FitsOp s.decls) IsSizedWork (λ op r. work_read.AnswersTo s.decls (work.said_of op).0 r) h asked
    (work-answers s.decls (work_start_of s) h (work-keeps s) legal.0)

pub clock-fits : (s : Content) (h : List (Entry ClockOp ClockReply)) → IsLegal clock_machine new_clock h →
    AllByRecursion (IsAsked s.decls (clock_read.FitsOp s.decls) (λ r. AreSized (clock.reply_parts r))) h →
    AllByRecursion (FitsEntry s.decls (clock_read.FitsOp s.decls) (λ op r. clock_read.AnswersTo s.decls (clock.said_of op).0 r)) h
clock-fits s h legal asked =
    history-fits s.decls (clock_read.FitsOp s.decls) (λ r. AreSized (clock.reply_parts r)) (λ op r. clock_read.AnswersTo s.decls (clock.said_of op).0 r) h asked
    (λ fit. clock-answers s.decls h legal.0)

pub table-fits : (s : Content) (start : Table) (h : List (Entry TableOp TableReply)) → IsLegal table_machine start h →
    AllByRecursion (IsAsked s.decls (table_read.FitsOp s.decls) (λ r. Unit {0})) h →
    AllByRecursion (FitsEntry s.decls (table_read.FitsOp s.decls) (λ op r. table_read.AnswersTo s.decls (table.said_of op).0 r)) h
table-fits s start h legal asked =
    all-fit s.decls (table_read.FitsOp s.decls) (λ r. Unit {0}) (λ op r. table_read.AnswersTo s.decls (table.said_of op).0 r) h asked
    (any-reply (λ e. table_read.AnswersTo s.decls (table.said_of e.op).0 e.reply) h (table-answers s.decls start h legal.0))

-- The families.

-- each entry of a semaphore, and none where there is no semaphore
abbrev pub SemsFit : List Decl → List Decl → List (List (Entry SemOp SemReply)) → Type 0
SemsFit decls = EachFits (λ d. FitsGiven (is_sem d) [] (AllByRecursion (FitsEntry decls (sem_read.FitsOp decls) (λ op r. sem_read.AnswersTo decls (sem.said_of op).0 r))))

sem-none : (d : Decl) → is_sem d ≡ false → sem_start d ≡ None
sem-none (decls_of.Sem name initial limit raw) isnt = absurd (cc)
sem-none d isnt = refl

sem-some : (d : Decl) → is_sem d ≡ true → (s : Sem) × (sem_start d ≡ Some s)
sem-some (decls_of.Sem name initial limit raw) is = (new_sem initial limit, refl)
sem-some d is = absurd (cc)

pub sems-fit : (s : Content) (hs : List (List (Entry SemOp SemReply))) → AllZip (IsLegalAt sem_machine) (map sem_start s.decls) hs →
    AllByRecursion (AllByRecursion (IsAsked s.decls (sem_read.FitsOp s.decls) (λ r. AreSized (sem.reply_parts r)))) hs → SemsFit s.decls s.decls hs
sems-fit s hs legal asked =
    histories-fit s.decls (sem_read.FitsOp s.decls) (λ r. AreSized (sem.reply_parts r)) (λ op r. sem_read.AnswersTo s.decls (sem.said_of op).0 r) sem_machine sem_start is_sem (λ d. Unit {0})
    sem-none answer sem-some s.decls hs (any-good s.decls) legal asked
  where
    answer : (d : Decl) (st : Sem) → Unit {0} → sem_start d ≡ Some st → (h : List (Entry SemOp SemReply)) → Replays sem_machine st h → AllByRecursion (λ e. sem_read.FitsOp s.decls e.op) h →
        AllByRecursion (λ e. AreSized (sem.reply_parts e.reply) → sem_read.AnswersTo s.decls (sem.said_of e.op).0 e.reply) h
    answer (decls_of.Sem name initial limit raw) st good is h replays fit =
        sem-answers s.decls initial limit h (subst (λ (x : Sem). Replays sem_machine x h) (sym (same_Some (new_sem initial limit) st is)) replays)
    answer d st good is h replays fit = absurd (none-some st is)

-- the same of message queues
abbrev pub MsgqsFit : List Decl → List Decl → List (List (Entry MsgqOp MsgqReply)) → Type 0
MsgqsFit decls = EachFits (λ d. FitsGiven (is_msgq d) [] (AllByRecursion (FitsEntry decls (msgq_read.FitsOp decls) (λ op r. msgq_read.AnswersTo decls (msgq.said_of op).0 r))))

msgq-none : (d : Decl) → is_msgq d ≡ false → msgq_start d ≡ None
msgq-none (decls_of.Msgq name size capacity raw) isnt = absurd (cc)
msgq-none d isnt = refl

msgq-some : (d : Decl) → is_msgq d ≡ true → (s : Msgq) × (msgq_start d ≡ Some s)
msgq-some (decls_of.Msgq name size capacity raw) is = (new_msgq capacity, refl)
msgq-some d is = absurd (cc)

pub msgqs-fit : (s : Content) (hs : List (List (Entry MsgqOp MsgqReply))) → AllZip (IsLegalAt msgq_machine) (map msgq_start s.decls) hs →
    AllByRecursion (AllByRecursion (IsAsked s.decls (msgq_read.FitsOp s.decls) (λ r. AreSized (msgq.reply_parts r)))) hs → MsgqsFit s.decls s.decls hs
msgqs-fit s hs legal asked =
    histories-fit s.decls (msgq_read.FitsOp s.decls) (λ r. AreSized (msgq.reply_parts r)) (λ op r. msgq_read.AnswersTo s.decls (msgq.said_of op).0 r) msgq_machine msgq_start is_msgq (λ d. Unit {0})
    msgq-none answer msgq-some s.decls hs (any-good s.decls) legal asked
  where
    answer : (d : Decl) (st : Msgq) → Unit {0} → msgq_start d ≡ Some st → (h : List (Entry MsgqOp MsgqReply)) → Replays msgq_machine st h → AllByRecursion (λ e. msgq_read.FitsOp s.decls e.op) h →
        AllByRecursion (λ e. AreSized (msgq.reply_parts e.reply) → msgq_read.AnswersTo s.decls (msgq.said_of e.op).0 e.reply) h
    answer (decls_of.Msgq name size capacity raw) st good is h replays fit =
        msgq-answers s.decls capacity h (subst (λ (x : Msgq). Replays msgq_machine x h) (sym (same_Some (new_msgq capacity) st is)) replays) fit
    answer d st good is h replays fit = absurd (none-some st is)

-- of signals
abbrev pub SignalsFit : List Decl → List Decl → List (List (Entry SignalOp SignalReply)) → Type 0
SignalsFit decls = EachFits (λ d. FitsGiven (is_signal d) [] (AllByRecursion (FitsEntry decls (signal_read.FitsOp decls) (λ op r. signal_read.AnswersTo decls (signal.said_of op).0 r))))

signal-none : (d : Decl) → is_signal d ≡ false → signal_start d ≡ None
signal-none (decls_of.Signal name raw) isnt = absurd (cc)
signal-none d isnt = refl

signal-some : (d : Decl) → is_signal d ≡ true → (s : Signal) × (signal_start d ≡ Some s)
signal-some (decls_of.Signal name raw) is = (new_signal, refl)
signal-some d is = absurd (cc)

pub signals-fit : (s : Content) (hs : List (List (Entry SignalOp SignalReply))) → AllZip (IsLegalAt signal_machine) (map signal_start s.decls) hs →
    AllByRecursion (AllByRecursion (IsAsked s.decls (signal_read.FitsOp s.decls) (λ r. AreSized (signal.reply_parts r)))) hs → SignalsFit s.decls s.decls hs
signals-fit s hs legal asked =
    histories-fit s.decls (signal_read.FitsOp s.decls) (λ r. AreSized (signal.reply_parts r)) (λ op r. signal_read.AnswersTo s.decls (signal.said_of op).0 r) signal_machine signal_start is_signal (λ d. Unit {0})
    signal-none (λ d st good is h replays fit. signal-answers s.decls st h replays) signal-some s.decls hs (any-good s.decls) legal asked

-- of channels
abbrev pub ChansFit : List Decl → List Decl → List (List (Entry ChanOp ChanReply)) → Type 0
ChansFit decls = EachFits (λ d. FitsGiven (is_chan d) [] (AllByRecursion (FitsEntry decls (chan_read.FitsOp decls) (λ op r. chan_read.AnswersTo decls (chan.said_of op).0 r))))

chan-none : (d : Decl) → is_chan d ≡ false → chan_start d ≡ None
chan-none (decls_of.Chan name message valid observers) isnt = absurd (cc)
chan-none d isnt = refl

chan-some : (d : Decl) → is_chan d ≡ true → (s : Channel) × (chan_start d ≡ Some s)
chan-some (decls_of.Chan name message valid observers) is = (new_chan message valid observers, refl)
chan-some d is = absurd (cc)

-- the message and the observers that a channel begins with
abbrev IsChanGood : List Decl → Decl → Type 0
IsChanGood decls (decls_of.Chan name message valid observers) = (is_message message ≡ true) × All (IsOf is_observer decls) observers
IsChanGood decls d = Unit {0}

declared-before : (decls : List Decl) (many observer : ℕ) → is_at is_observer (take many decls) observer ≡ true → IsOf is_observer decls observer
declared-before [] zero observer is = absurd (cc)
declared-before [] (suc many) observer is = absurd (cc)
declared-before (d ∷ ds) zero observer is = absurd (cc)
declared-before (d ∷ ds) (suc many) zero is = is
declared-before (d ∷ ds) (suc many) (suc observer) is = declared-before ds many observer is

each-before : (decls : List Decl) (many : ℕ) (observers : List ℕ) → list_all (is_at is_observer (take many decls)) observers ≡ true → All (IsOf is_observer decls) observers
each-before decls many [] all = All-nil (IsOf is_observer decls)
each-before decls many (o ∷ os) all =
    let both = and_parts (is_at is_observer (take many decls) o) (list_all (is_at is_observer (take many decls)) os) all in
    All-cons (IsOf is_observer decls) o os (declared-before decls many o both.0) (each-before decls many os both.1)

chan-good : (s : Content) → IsValid s → (object : ℕ) (d : Decl) → slice_get s.decls object ≡ Some d → IsChanGood s.decls d
chan-good s valid object (decls_of.Chan name message valid_ observers) there =
    let fits = list_all-at decl_fits s.decls object (decls_of.Chan name message valid_ observers) valid.in_range there in
    let both = and_parts (is_message message && fews.is_few observers) (all_different observers) fits in (
      (and_parts (is_message message) (fews.is_few observers) both.0).0,
      each-before s.decls object observers (valid.observed object (decls_of.Chan name message valid_ observers) there),
    )
chan-good s valid object d there = tt

-- what holds of each that is there
pub all-there : {A : Type 0} (P : A → Type 0) (xs : List A) → ((k : ℕ) (x : A) → slice_get xs k ≡ Some x → P x) → AllByRecursion P xs
all-there P [] each = tt
all-there P (x ∷ xs) each = (each zero x refl, all-there P xs (λ k y there. each (suc k) y there))

pub chans-fit : (s : Content) (hs : List (List (Entry ChanOp ChanReply))) → IsValid s → AllZip (IsLegalAt chan_machine) (map chan_start s.decls) hs →
    AllByRecursion (AllByRecursion (IsAsked s.decls (chan_read.FitsOp s.decls) (λ r. AreSized (chan.reply_parts r)))) hs → ChansFit s.decls s.decls hs
chans-fit s hs valid legal asked =
    histories-fit s.decls (chan_read.FitsOp s.decls) (λ r. AreSized (chan.reply_parts r)) (λ op r. chan_read.AnswersTo s.decls (chan.said_of op).0 r) chan_machine chan_start is_chan (IsChanGood s.decls)
    chan-none answer chan-some s.decls hs (all-there (IsChanGood s.decls) s.decls (chan-good s valid)) legal asked
  where
    answer : (d : Decl) (st : Channel) → IsChanGood s.decls d → chan_start d ≡ Some st → (h : List (Entry ChanOp ChanReply)) → Replays chan_machine st h → AllByRecursion (λ e. chan_read.FitsOp s.decls e.op) h →
        AllByRecursion (λ e. AreSized (chan.reply_parts e.reply) → chan_read.AnswersTo s.decls (chan.said_of e.op).0 e.reply) h
    answer (decls_of.Chan name message valid_ observers) st good is h replays fit =
        chan-answers s.decls message valid_ observers h good.0 good.1
        (subst (λ (x : Channel). Replays chan_machine x h) (sym (same_Some (new_chan message valid_ observers) st is)) replays) fit
    answer d st good is h replays fit = absurd (none-some st is)

-- of observers
abbrev pub ObserversFit : List Decl → List Decl → List (List (Entry ObsOp ObsReply)) → Type 0
ObserversFit decls = EachFits (λ d. FitsGiven (is_observer d) [] (AllByRecursion (FitsEntry decls (obs_read.FitsOp decls) (λ op r. obs_read.AnswersTo decls (obs.said_of op).0 r))))

obs-none : (d : Decl) → is_observer d ≡ false → observer_start d ≡ None
obs-none (decls_of.Listener name) isnt = absurd (cc)
obs-none (decls_of.Sub name capacity) isnt = absurd (cc)
obs-none d isnt = refl

obs-some : (d : Decl) → is_observer d ≡ true → (s : Observer) × (observer_start d ≡ Some s)
obs-some (decls_of.Listener name) is = (new_obs None, refl)
obs-some (decls_of.Sub name capacity) is = (new_obs (Some capacity), refl)
obs-some d is = absurd (cc)

pub observers-fit : (s : Content) (hs : List (List (Entry ObsOp ObsReply))) → AllZip (IsLegalAt obs_machine) (map observer_start s.decls) hs →
    AllByRecursion (AllByRecursion (IsAsked s.decls (obs_read.FitsOp s.decls) (λ r. Unit {0}))) hs → ObserversFit s.decls s.decls hs
observers-fit s hs legal asked =
    histories-fit s.decls (obs_read.FitsOp s.decls) (λ r. Unit {0}) (λ op r. obs_read.AnswersTo s.decls (obs.said_of op).0 r) obs_machine observer_start is_observer (λ d. Unit {0})
    obs-none answer obs-some s.decls hs (any-good s.decls) legal asked
  where
    from : (capacity : Option ℕ) (st : Observer) (h : List (Entry ObsOp ObsReply)) → new_obs capacity ≡ st → Replays obs_machine st h → AllByRecursion (λ e. obs_read.FitsOp s.decls e.op) h →
        AllByRecursion (λ e. Unit {0} → obs_read.AnswersTo s.decls (obs.said_of e.op).0 e.reply) h
    from capacity st h is replays fit =
        any-reply (λ e. obs_read.AnswersTo s.decls (obs.said_of e.op).0 e.reply) h
        (obs-answers s.decls capacity h (subst (λ (x : Observer). Replays obs_machine x h) (sym is) replays) fit)

    answer : (d : Decl) (st : Observer) → Unit {0} → observer_start d ≡ Some st → (h : List (Entry ObsOp ObsReply)) → Replays obs_machine st h → AllByRecursion (λ e. obs_read.FitsOp s.decls e.op) h →
        AllByRecursion (λ e. Unit {0} → obs_read.AnswersTo s.decls (obs.said_of e.op).0 e.reply) h
    answer (decls_of.Listener name) st good is h replays fit = from None st h (same_Some (new_obs None) st is) replays fit
    answer (decls_of.Sub name capacity) st good is h replays fit = from (Some capacity) st h (same_Some (new_obs (Some capacity)) st is) replays fit
    answer d st good is h replays fit = absurd (none-some st is)
