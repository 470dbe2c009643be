-- No line of a trace in form has a feed in it.
use Rattle.std.proofs.Common.{ℕ, ◌+◌, zero, suc, Bool, true, false, Option, Some, None, List, [], ◌∷◌, ◌++◌, if◌then◌else◌, map, length, refl}
use Rattle.std.specs.List.{AllByRecursion, range_with_len}
use Rattle.zk_base.specs.declared.ids.Entry.{Entry}
use Rattle.zk_blocks.specs.Blocks.{FitsGiven, given_lines}
use Rattle.zk_blocks.specs.Cut.{AreUnfed}
use Rattle.zk_blocks.specs.Each.{each_lines, EachFits}
use Rattle.zk_blocks.specs.Families.{family_lines, plain_family_lines, section_family_lines}
use Rattle.zk_blocks.specs.Rows.{AllFit}
use Rattle.zk_blocks.specs.Sections.{has_row, neither, has_rows, headed_lines, plain_section_lines, section_lines, two_lines}
use Rattle.zk_line.specs.Objects.{AreNames, name_of, is_sem, is_msgq, is_signal, is_chan, is_observer}
use Rattle.zk_line.specs.declared.types.Decl.{Decl}
use Rattle.zk_scenario.specs.Content.{Content}
use Rattle.zk_scenario.specs.Players.{players}
use Rattle.zk_words.specs.Bytes.{line_feed}
use Rattle.zk_worker.specs.declared.log.Log.{Log}
use Rattle.zk_model_bus.specs.declared.channel.ChanOp.{ChanOp}
use Rattle.zk_model_bus.specs.declared.channel.ChanReply.{ChanReply}
use Rattle.zk_model_bus.specs.declared.observer.ObsOp.{ObsOp}
use Rattle.zk_model_bus.specs.declared.observer.ObsReply.{ObsReply}
use Rattle.zk_model_bus.specs.declared.table.TableOp.{TableOp}
use Rattle.zk_model_bus.specs.declared.table.TableReply.{TableReply}
use Rattle.zk_model_wait.specs.declared.clock.ClockOp.{ClockOp}
use Rattle.zk_model_wait.specs.declared.clock.ClockReply.{ClockReply}
use Rattle.zk_model_wait.specs.declared.msgq.MsgqOp.{MsgqOp}
use Rattle.zk_model_wait.specs.declared.msgq.MsgqReply.{MsgqReply}
use Rattle.zk_model_wait.specs.declared.sem.SemOp.{SemOp}
use Rattle.zk_model_wait.specs.declared.sem.SemReply.{SemReply}
use Rattle.zk_model_wait.specs.declared.signal.SignalOp.{SignalOp}
use Rattle.zk_model_wait.specs.declared.signal.SignalReply.{SignalReply}
use Rattle.zk_model_work.specs.declared.ops.WorkOp.{WorkOp}
use Rattle.zk_model_work.specs.declared.ops.WorkReply.{WorkReply}
use Rattle.zk_trace.specs.declared.format.Format.{Format}
use Rattle.zk_trace.specs.declared.format.Format.TheVariants.{One, Two}
use Rattle.zk_trace.specs.declared.looks.ItemLook.{ItemLook}
use Rattle.zk_trace.specs.declared.looks.SignalLook.{SignalLook}
use Rattle.zk_trace.specs.declared.stood.Stood.{Stood}
use Rattle.zk_trace.specs.declared.trace.Trace.{Trace}
use Rattle.zk_trace.specs.AnswerRead.{answered_row, IsAnswered}
use Rattle.zk_trace.specs.EntryKinds.{work_row, IsWork, clock_row, IsClock, table_row, IsTable, sem_row, IsSem, msgq_row, IsMsgq, signal_row, IsSignal, chan_row, IsChan, obs_row, IsObs}
use Rattle.zk_trace.specs.Exact.{IsUnfed}
use Rattle.zk_trace.specs.Form.{IsLog, IsInForm}
use Rattle.zk_trace.specs.Formats.{CanTell, CanTellAll}
use Rattle.zk_trace.specs.LookRead.{item_look_row, FitsItemLook, signal_look_row, FitsSignalLook}
use Rattle.zk_trace.specs.Names.{player_name}
use Rattle.zk_trace.specs.Stood.{stood}
use Rattle.zk_trace.specs.Text.{work_name, clock_name, table_name, head_row, first_row}
use Rattle.zk_trace.specs.WholeRead.{plain_row, pairs_of, player_lines, players_lines, trace_lines}
use Rattle.zk_trace.specs.Words.{ending_word}
use Rattle.zk_trace.proofs.AnswerRead.{answered_exact}
use Rattle.zk_trace.proofs.EntryRead.{entry_exact}
use Rattle.zk_trace.proofs.FormWhole.{pairs_there}
use Rattle.zk_trace.proofs.HeadRead.{head-unfed, plain-unfed, player-unfed}
use Rattle.zk_trace.proofs.LookRead.{item_looks_exact, signal_looks_exact}
use Rattle.zk_trace.proofs.ChanRead.{chan_spelled}
use Rattle.zk_trace.proofs.ClockRead.{clock_spelled}
use Rattle.zk_trace.proofs.MsgqRead.{msgq_spelled}
use Rattle.zk_trace.proofs.ObsRead.{obs_spelled}
use Rattle.zk_trace.proofs.SemRead.{sem_spelled}
use Rattle.zk_trace.proofs.SignalRead.{signal_spelled}
use Rattle.zk_trace.proofs.TableRead.{table_spelled}
use Rattle.zk_trace.proofs.WorkRead.{work_spelled}
use Rattle.zk_trace.proofs.PlainWords.{plain-name, lacks_plain, lacks_is}
use Rattle.zk_trace.proofs.SectionNames.{all_at}
use Rattle.zk_trace.proofs.WholeRead.{endings_are, name-lacks}

-- no feed is in these lines, nor in those
unfed-both : (xs ys : List (List ℕ)) → AreUnfed line_feed xs → AreUnfed line_feed ys → AreUnfed line_feed (xs ++ ys)
unfed-both [] ys first second = second
unfed-both (x ∷ xs) ys first second = (first.0, unfed-both xs ys first.1 second)

module _ {X : Type 0} (row : X → List ℕ) where
  unfed-rows : (Fits : X → Type 0) → ((x : X) → Fits x → IsUnfed (row x)) → (xs : List X) → AllByRecursion Fits xs → AreUnfed line_feed (map row xs)
  unfed-rows Fits unfed [] fits = tt
  unfed-rows Fits unfed (x ∷ xs) fits = (unfed x fits.0, unfed-rows Fits unfed xs fits.1)

  unfed-looks : (Fits : Option X → X → Type 0) → ((last : Option X) (x : X) → Fits last x → IsUnfed (row x)) → (last : Option X) (xs : List X) → AllFit Fits last xs → AreUnfed line_feed (map row xs)
  unfed-looks Fits unfed last [] fits = tt
  unfed-looks Fits unfed last (x ∷ xs) fits = (unfed last x fits.0, unfed-looks Fits unfed (Some x) xs fits.1)

-- nor behind a head without one
unfed-headed : {A : Type 0} (head : A → List ℕ) (stands : A → Bool) (lines_of : A → List (List ℕ)) (a : A) → IsUnfed (head a) → AreUnfed line_feed (lines_of a) →
    AreUnfed line_feed (headed_lines head stands lines_of a)
unfed-headed head stands lines_of a first unfed = by (stands a) where
  by : (b : Bool) → AreUnfed line_feed (if b then head a ∷ lines_of a else [])
  by true = (first, unfed)
  by false = tt

-- nor in what is there where it is called for
unfed-given : {A : Type 0} (is : Bool) (none : A) (Fits : A → Type 0) (lines_of : A → List (List ℕ)) (a : A) → (Fits a → AreUnfed line_feed (lines_of a)) →
    FitsGiven is none Fits a → AreUnfed line_feed (given_lines is lines_of a)
unfed-given true none Fits lines_of a unfed fits = unfed fits
unfed-given false none Fits lines_of a unfed fits = tt

-- nor under the names of declarations
unfed-family : {A : Type 0} (of_kind : Decl → Bool) (none : A) (head : List ℕ → A → List ℕ) (stands : A → Bool) (Fits Can : A → Type 0) (lines_of : A → List (List ℕ)) →
    ((name : List ℕ) (a : A) → IsUnfed name → Can a → IsUnfed (head name a)) → ((a : A) → Fits a → AreUnfed line_feed (lines_of a)) →
    (ds : List Decl) (each : List A) → AllByRecursion (λ d. IsUnfed (name_of d)) ds → EachFits (λ d. FitsGiven (of_kind d) none Fits) ds each → AllByRecursion Can each →
    AreUnfed line_feed (family_lines of_kind name_of head stands (λ d. lines_of) ds each)
unfed-family of_kind none head stands Fits Can lines_of first unfed [] each named fits can = tt
unfed-family of_kind none head stands Fits Can lines_of first unfed (d ∷ ds) [] named fits can = tt
unfed-family of_kind none head stands Fits Can lines_of first unfed (d ∷ ds) (a ∷ each) named fits can =
    unfed-both (given_lines (of_kind d) (headed_lines (head (name_of d)) stands lines_of) a) (family_lines of_kind name_of head stands (λ d. lines_of) ds each)
    (unfed-given (of_kind d) none Fits (headed_lines (head (name_of d)) stands lines_of) a (λ fit. unfed-headed (head (name_of d)) stands lines_of a (first (name_of d) a named.0 can.0) (unfed a fit)) fits.0)
    (unfed-family of_kind none head stands Fits Can lines_of first unfed ds each named.1 fits.1 can.1)

module _ (f : Format) (decls : List Decl) (are : AreNames decls) where
  unfed-players : (lines : List Stood) (count player : ℕ) (logs : List Log) → EachFits (IsLog decls lines) (range_with_len player count) logs →
      AllByRecursion (λ log. CanTell f (length log.answers)) logs →
      AreUnfed line_feed (each_lines (player_lines f decls) (range_with_len player count) (map (λ log. (log.state, log.answers)) logs))
  unfed-players lines zero player logs fits can = tt
  unfed-players lines (suc count) player [] fits can = tt
  unfed-players lines (suc count) player (log ∷ logs) fits can = (
    player-unfed f (player_name decls player) log.state (length log.answers) (name-lacks decls are line_feed refl player) can.0,
    unfed-both (map (answered_row decls) log.answers) (each_lines (player_lines f decls) (range_with_len (player + 1) count) (map (λ log. (log.state, log.answers)) logs))
        (unfed-rows (answered_row decls) (IsAnswered decls) (answered_exact decls are).unfed log.answers fits.0.answers)
        (unfed-players lines count (player + 1) logs fits.1 can.1),
  )

-- two numbers that can be told, at each place of two lists
pairs_can : {E K : Type 0} (F : List E → Type 0) (G : List K → Type 0) (all : List (List E)) (others : List (List K)) → AllByRecursion F all → AllByRecursion G others →
    AllByRecursion (λ both. F both.0 × G both.1) (pairs_of all others)
pairs_can F G [] others first second = tt
pairs_can F G (es ∷ all) [] first second = tt
pairs_can F G (es ∷ all) (ks ∷ others) first second = ((first.0, second.0), pairs_can F G all others first.1 second.1)

first-unfed : (f : Format) → IsUnfed (first_row f)
first-unfed One = lacks_is line_feed (first_row One) refl
first-unfed Two = lacks_is line_feed (first_row Two) refl

-- no line of a trace in form has a feed in it
pub trace-unfed : (f : Format) (s : Content) → AreNames s.decls → (t : Trace) → IsInForm s t → CanTellAll f t → AreUnfed line_feed (trace_lines s.decls (f, t))
trace-unfed f s are t form can =
    let decls = s.decls in
    let named : AllByRecursion (λ d. IsUnfed (name_of d)) decls =
    all_at (λ d. IsUnfed (name_of d)) decls (λ place d there. lacks_plain line_feed refl (name_of d) (plain-name (name_of d) (are.formed place d there))) in
    let work_rows = λ (h : List (Entry WorkOp WorkReply)). unfed-rows (work_row decls) (IsWork decls) (entry_exact decls are (work_spelled decls are)).unfed h in
    let clock_rows = λ (h : List (Entry ClockOp ClockReply)). unfed-rows (clock_row decls) (IsClock decls) (entry_exact decls are (clock_spelled decls are)).unfed h in
    let table_rows = λ (h : List (Entry TableOp TableReply)). unfed-rows (table_row decls) (IsTable decls) (entry_exact decls are (table_spelled decls are)).unfed h in
    let sem_rows = λ (h : List (Entry SemOp SemReply)). unfed-rows (sem_row decls) (IsSem decls) (entry_exact decls are (sem_spelled decls are)).unfed h in
    let msgq_rows = λ (h : List (Entry MsgqOp MsgqReply)). unfed-rows (msgq_row decls) (IsMsgq decls) (entry_exact decls are (msgq_spelled decls are)).unfed h in
    let signal_rows = λ (h : List (Entry SignalOp SignalReply)). unfed-rows (signal_row decls) (IsSignal decls) (entry_exact decls are (signal_spelled decls are)).unfed h in
    let chan_rows = λ (h : List (Entry ChanOp ChanReply)). unfed-rows (chan_row decls) (IsChan decls) (entry_exact decls are (chan_spelled decls are)).unfed h in
    let obs_rows = λ (h : List (Entry ObsOp ObsReply)). unfed-rows (obs_row decls) (IsObs decls) (entry_exact decls are (obs_spelled decls are)).unfed h in
    let item_looks = λ (looks : List ItemLook). unfed-looks (item_look_row decls) (FitsItemLook decls) (λ last. (item_looks_exact decls are last).unfed) None looks in
    let signal_looks = λ (looks : List SignalLook). unfed-looks (signal_look_row decls) (FitsSignalLook decls) (λ last. (signal_looks_exact decls are last).unfed) None looks in
    let work_lines : List (List ℕ) = section_lines (head_row f work_name) (work_row decls) (item_look_row decls) (t.work, t.looks.items) in
    let clock_lines : List (List ℕ) = plain_section_lines (plain_row f clock_name) (clock_row decls) t.clock in
    let table_lines : List (List ℕ) = plain_section_lines (plain_row f table_name) (table_row decls) t.table in
    let sem_lines : List (List ℕ) = plain_family_lines is_sem name_of (plain_row f) (λ d. sem_row decls) decls t.sems in
    let msgq_lines : List (List ℕ) = plain_family_lines is_msgq name_of (plain_row f) (λ d. msgq_row decls) decls t.msgqs in
    let signal_lines : List (List ℕ) = section_family_lines is_signal name_of (head_row f) (λ d. signal_row decls) (λ d. signal_look_row decls) decls (pairs_of t.signals t.looks.signals) in
    let chan_lines : List (List ℕ) = plain_family_lines is_chan name_of (plain_row f) (λ d. chan_row decls) decls t.chans in
    let obs_lines : List (List ℕ) = plain_family_lines is_observer name_of (plain_row f) (λ d. obs_row decls) decls t.observers in
    let all_lines : List (List ℕ) = players_lines f decls (map (λ log. (log.state, log.answers)) t.logs) in
    let from_chans : List (List ℕ) = chan_lines ++ obs_lines in
    let from_signals : List (List ℕ) = signal_lines ++ from_chans in
    let from_msgqs : List (List ℕ) = msgq_lines ++ from_signals in
    let families : List (List ℕ) = sem_lines ++ from_msgqs in
    let work = unfed-headed (λ (rows : List (Entry WorkOp WorkReply) × List ItemLook). head_row f work_name (length rows.0) (length rows.1)) has_rows (two_lines (work_row decls) (item_look_row decls)) (t.work, t.looks.items)
    (head-unfed f work_name (length t.work) (length t.looks.items) (lacks_is line_feed work_name refl) can.work can.item_looks)
    (unfed-both (map (work_row decls) t.work) (map (item_look_row decls) t.looks.items) (work_rows t.work form.work) (item_looks t.looks.items form.item_looks)) in
    let clock = unfed-headed (λ (h : List (Entry ClockOp ClockReply)). plain_row f clock_name (length h)) has_row (map (clock_row decls)) t.clock (plain-unfed f clock_name (length t.clock) (lacks_is line_feed clock_name refl) can.clock) (clock_rows t.clock form.clock) in
    let table = unfed-headed (λ (h : List (Entry TableOp TableReply)). plain_row f table_name (length h)) has_row (map (table_row decls)) t.table (plain-unfed f table_name (length t.table) (lacks_is line_feed table_name refl) can.table) (table_rows t.table form.table) in
    let sems = unfed-family is_sem [] (λ name h. plain_row f name (length h)) has_row (AllByRecursion (IsSem decls)) (λ h. CanTell f (length h)) (map (sem_row decls))
    (λ name h unfed. plain-unfed f name (length h) unfed) sem_rows decls t.sems named form.sems can.sems in
    let msgqs = unfed-family is_msgq [] (λ name h. plain_row f name (length h)) has_row (AllByRecursion (IsMsgq decls)) (λ h. CanTell f (length h)) (map (msgq_row decls))
    (λ name h unfed. plain-unfed f name (length h) unfed) msgq_rows decls t.msgqs named form.msgqs can.msgqs in
    let signals = unfed-family is_signal neither (λ name rows. head_row f name (length rows.0) (length rows.1)) has_rows
    (λ p. AllByRecursion (IsSignal decls) p.0 × AllFit (FitsSignalLook decls) None p.1) (λ rows. CanTell f (length rows.0) × CanTell f (length rows.1)) (two_lines (signal_row decls) (signal_look_row decls))
    (λ name rows unfed able. head-unfed f name (length rows.0) (length rows.1) unfed able.0 able.1)
    (λ p fits. unfed-both (map (signal_row decls) p.0) (map (signal_look_row decls) p.1) (signal_rows p.0 fits.0) (signal_looks p.1 fits.1)) decls (pairs_of t.signals t.looks.signals) named
    (pairs_there is_signal (AllByRecursion (IsSignal decls)) (AllFit (FitsSignalLook decls) None) decls t.signals t.looks.signals form.signals form.signal_looks)
    (pairs_can (λ h. CanTell f (length h)) (λ looks. CanTell f (length looks)) t.signals t.looks.signals can.signals can.signal_looks) in
    let chans = unfed-family is_chan [] (λ name h. plain_row f name (length h)) has_row (AllByRecursion (IsChan decls)) (λ h. CanTell f (length h)) (map (chan_row decls))
    (λ name h unfed. plain-unfed f name (length h) unfed) chan_rows decls t.chans named form.chans can.chans in
    let observers = unfed-family is_observer [] (λ name h. plain_row f name (length h)) has_row (AllByRecursion (IsObs decls)) (λ h. CanTell f (length h)) (map (obs_row decls))
    (λ name h unfed. plain-unfed f name (length h) unfed) obs_rows decls t.observers named form.observers can.observers in
    let all = unfed-players f decls are (stood t) (length (players decls)) 0 t.logs form.logs can.logs in (
      first-unfed f,
      (
        lacks_plain line_feed refl (ending_word t.ending) (endings_are t.ending).1,
        unfed-both (work_lines ++ (clock_lines ++ table_lines)) (families ++ all_lines)
            (unfed-both work_lines (clock_lines ++ table_lines) work (unfed-both clock_lines table_lines clock table))
            (unfed-both families all_lines
            (unfed-both sem_lines from_msgqs sems (unfed-both msgq_lines from_signals msgqs (unfed-both signal_lines from_chans signals (unfed-both chan_lines obs_lines chans observers)))) all),
      ),
    )
