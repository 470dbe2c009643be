-- The text of a trace in form is that of its lines, each with its feed, and none of these has a feed in it.
use Rattle.std.proofs.Common.{◌≡◌, ℕ, ◌+◌, zero, suc, Bool, true, false, Some, None, List, [], ◌∷◌, ◌++◌, codes, append_assoc, map, length, slice_get, arith, refl, sym, ap, ◌∙◌}
use Rattle.std.specs.List.{AllByRecursion, flat_map, range_with_len}
use Rattle.std.specs.Option.{option_map_or}
use Rattle.std.proofs.lemmas.List.Concat.{flat_map-append}
use Rattle.zk_base.specs.declared.ids.Entry.{Entry}
use Rattle.zk_blocks.specs.Blocks.{FitsGiven, given_lines}
use Rattle.zk_blocks.specs.Cut.{fed, fed_lines}
use Rattle.zk_blocks.specs.Each.{each_lines, EachFits}
use Rattle.zk_blocks.specs.Families.{plain_family_lines, section_family_lines}
use Rattle.zk_blocks.specs.Sections.{plain_section_lines, section_lines, two_lines}
use Rattle.zk_blocks.specs.Rows.{AllFit}
use Rattle.zk_line.specs.Objects.{name_of, name_at, is_sem, is_msgq, is_signal, is_chan, is_observer}
use Rattle.zk_line.specs.declared.types.Decl.{Decl}
use Rattle.zk_scenario.specs.Content.{Content}
use Rattle.zk_scenario.specs.Players.{players}
use Rattle.zk_words.specs.Bytes.{line_feed}
use Rattle.zk_worker.specs.declared.log.Log.{Log}
use Rattle.zk_model_bus.specs.declared.channel.ChanReply.{ChanReply}
use Rattle.zk_model_bus.specs.declared.observer.ObsReply.{ObsReply}
use Rattle.zk_model_bus.specs.declared.table.TableReply.{TableReply}
use Rattle.zk_model_wait.specs.declared.clock.ClockReply.{ClockReply}
use Rattle.zk_model_wait.specs.declared.msgq.MsgqReply.{MsgqReply}
use Rattle.zk_model_wait.specs.declared.sem.SemReply.{SemReply}
use Rattle.zk_model_wait.specs.declared.signal.SignalReply.{SignalReply}
use Rattle.zk_model_work.specs.declared.ops.WorkReply.{WorkReply}
use Rattle.zk_model_bus.specs.declared.channel.ChanReply.TheVariants as chan_replies
use Rattle.zk_model_bus.specs.declared.observer.ObsReply.TheVariants as obs_replies
use Rattle.zk_model_bus.specs.declared.table.TableReply.TheVariants as table_replies
use Rattle.zk_model_wait.specs.declared.clock.ClockReply.TheVariants as clock_replies
use Rattle.zk_model_wait.specs.declared.msgq.MsgqReply.TheVariants as msgq_replies
use Rattle.zk_model_wait.specs.declared.sem.SemReply.TheVariants as sem_replies
use Rattle.zk_model_wait.specs.declared.signal.SignalReply.TheVariants as signal_replies
use Rattle.zk_model_work.specs.declared.ops.Submitted.TheVariants as submissions
use Rattle.zk_model_work.specs.declared.ops.WorkReply.TheVariants as work_replies
use Rattle.zk_trace.specs.declared.format.Format.{Format}
use Rattle.zk_trace.specs.declared.stood.Stood.{Stood}
use Rattle.zk_trace.specs.declared.trace.Trace.{Trace}
use Rattle.zk_trace.specs.AnswerRead.{answered_row}
use Rattle.zk_trace.specs.EntryKinds.{work_row, clock_row, table_row, sem_row, IsSem, msgq_row, IsMsgq, signal_row, IsSignal, chan_row, IsChan, obs_row, IsObs}
use Rattle.zk_trace.specs.EntryRead.{entry_row}
use Rattle.zk_trace.specs.Form.{IsLog, IsInForm}
use Rattle.zk_trace.specs.LookRead.{item_look_row, signal_look_row, FitsSignalLook}
use Rattle.zk_trace.specs.Looks.{item_look_line, signal_look_line}
use Rattle.zk_trace.specs.Names.{player_name}
use Rattle.zk_trace.specs.Stood.{stood}
use Rattle.zk_trace.specs.Text.{work_name, clock_name, table_name, head_row, first_row, line, trace_text, section_head, entry_line, service_section, object_section, object_sections, looked_lines, looked_section, looked_object, looked_sections, answer_line, player_head, player_sections}
use Rattle.zk_trace.specs.WholeRead.{plain_row, pairs_of, player_lines, players_lines, trace_lines}
use Rattle.zk_trace.specs.Words.{ending_word}
use Rattle.zk_trace.specs.Work as work
use Rattle.zk_trace.specs.Clock as clock
use Rattle.zk_trace.specs.Table as table
use Rattle.zk_trace.specs.Sem as sem
use Rattle.zk_trace.specs.Msgq as msgq
use Rattle.zk_trace.specs.Signal as signal
use Rattle.zk_trace.specs.Chan as chan
use Rattle.zk_trace.specs.Obs as obs
use Rattle.zk_trace.proofs.AnswerRead.{answer_line-fed}
use Rattle.zk_trace.proofs.EntryRead.{IsWorded, entry_line-fed}
use Rattle.zk_trace.proofs.LookRead.{item_look_line-fed, signal_look_line-fed}

-- lines of which each is a row and a feed are the text of these rows
rows-text : {X : Type 0} (line row : X → List ℕ) → ((x : X) → line x ≡ row x ++ codes "\n") → (xs : List X) → flat_map line xs ≡ fed_lines line_feed (map row xs)
rows-text line row same [] = refl
rows-text line row same (x ∷ xs) =
    ap (λ l. l ++ flat_map line xs) (same x) ∙ ap (λ l. fed line_feed (row x) ++ l) (rows-text line row same xs)

-- the text of lines and then others
both-text : (xs ys : List (List ℕ)) → fed_lines line_feed (xs ++ ys) ≡ fed_lines line_feed xs ++ fed_lines line_feed ys
both-text xs ys = flat_map-append (fed line_feed) xs ys

-- an object's name is that of its declaration
named : (decls : List Decl) (object : ℕ) (d : Decl) → slice_get decls object ≡ Some d → name_at decls object ≡ name_of d
named decls object d there = ap (λ o. option_map_or name_of o []) there

-- Sections of entries alone.

module _ {O R : Type 0} (op_words : List Decl → O → List (List ℕ)) (reply_words : List Decl → R → List (List ℕ)) (decls : List Decl)
    (worded : (r : R) → IsWorded (reply_words decls r)) where
  abbrev row : Entry O R → List ℕ
  row e = entry_row decls (op_words decls) (reply_words decls) e

  entries-text : (h : List (Entry O R)) → flat_map (entry_line op_words reply_words decls) h ≡ fed_lines line_feed (map row h)
  entries-text = rows-text (entry_line op_words reply_words decls) row (λ e. entry_line-fed op_words reply_words decls e (worded e.reply))

  pub service-text : (f : Format) (name : List ℕ) (h : List (Entry O R)) → service_section op_words reply_words decls f name h ≡ fed_lines line_feed (plain_section_lines (plain_row f name) row h)
  service-text f name [] = refl
  service-text f name (e ∷ es) = ap (λ l. section_head f name (length (e ∷ es)) 0 ++ l) (entries-text (e ∷ es))

  module _ (f : Format) (of_kind : Decl → Bool) (Fits : List (Entry O R) → Type 0) where
    object-text : (is : Bool) (object : ℕ) (d : Decl) (h : List (Entry O R)) → slice_get decls object ≡ Some d → FitsGiven is [] Fits h →
        object_section op_words reply_words decls f object h ≡ fed_lines line_feed (given_lines is (plain_section_lines (plain_row f (name_of d)) row) h)
    object-text true object d h there fits = ap (λ name. service_section op_words reply_words decls f name h) (named decls object d there) ∙ service-text f (name_of d) h
    object-text false object d h there fits = ap (service_section op_words reply_words decls f (name_at decls object)) fits

    pub objects-text : (object : ℕ) (ds : List Decl) (hs : List (List (Entry O R))) → ((k : ℕ) → slice_get decls (object + k) ≡ slice_get ds k) →
        EachFits (λ d. FitsGiven (of_kind d) [] Fits) ds hs →
        object_sections op_words reply_words decls f object hs ≡ fed_lines line_feed (plain_family_lines of_kind name_of (plain_row f) (λ d. row) ds hs)
    objects-text object [] [] same fits = refl
    objects-text object [] (h ∷ hs) same fits = absurd fits
    objects-text object (d ∷ ds) [] same fits = absurd fits
    objects-text object (d ∷ ds) (h ∷ hs) same fits =
        let here : object ≡ object + 0 = omega arith in
        let there = ap (slice_get decls) here ∙ same zero in
        ap (λ l. l ++ object_sections op_words reply_words decls f (object + 1) hs) (object-text (of_kind d) object d h there fits.0)
        ∙ ap (λ l. fed_lines line_feed (given_lines (of_kind d) (plain_section_lines (plain_row f (name_of d)) row) h) ++ l)
        (objects-text (object + 1) ds hs (λ k. ap (slice_get decls) (omega arith) ∙ same (suc k)) fits.1)
        ∙ sym (both-text (given_lines (of_kind d) (plain_section_lines (plain_row f (name_of d)) row) h) (plain_family_lines of_kind name_of (plain_row f) (λ d. row) ds hs))

-- Sections of entries and looks.

module _ {O R L : Type 0} (op_words : List Decl → O → List (List ℕ)) (reply_words : List Decl → R → List (List ℕ)) (look_line : List Decl → L → List ℕ)
    (decls : List Decl) (worded : (r : R) → IsWorded (reply_words decls r)) (look_row : L → List ℕ) (same_look : (look : L) → look_line decls look ≡ look_row look ++ codes "\n") where
  abbrev entry : Entry O R → List ℕ
  entry e = entry_row decls (op_words decls) (reply_words decls) e

  two-text : (h : List (Entry O R)) (looks : List L) → looked_lines op_words reply_words look_line decls h looks ≡ fed_lines line_feed (two_lines entry look_row (h, looks))
  two-text h looks =
      ap (λ l. l ++ flat_map (look_line decls) looks) (entries-text op_words reply_words decls worded h)
      ∙ ap (λ l. fed_lines line_feed (map entry h) ++ l) (rows-text (look_line decls) look_row same_look looks)
      ∙ sym (both-text (map entry h) (map look_row looks))

  pub looked-text : (f : Format) (name : List ℕ) (h : List (Entry O R)) (looks : List L) →
      looked_section op_words reply_words look_line decls f name h looks ≡ fed_lines line_feed (section_lines (head_row f name) entry look_row (h, looks))
  looked-text f name [] [] = refl
  looked-text f name [] (l ∷ ls) = ap (λ x. section_head f name 0 (length (l ∷ ls)) ++ x) (two-text [] (l ∷ ls))
  looked-text f name (e ∷ es) looks = ap (λ x. section_head f name (length (e ∷ es)) (length looks) ++ x) (two-text (e ∷ es) looks)

  module _ (f : Format) (of_kind : Decl → Bool) (First : List (Entry O R) → Type 0) (Second : List L → Type 0) (all : List (List L)) where
    looked_object-text : (is : Bool) (object : ℕ) (d : Decl) (h : List (Entry O R)) (looks : List L) → slice_get decls object ≡ Some d → slice_get all object ≡ Some looks →
        FitsGiven is [] First h → FitsGiven is [] Second looks →
        looked_object op_words reply_words look_line decls f all object h ≡ fed_lines line_feed (given_lines is (section_lines (head_row f (name_of d)) entry look_row) (h, looks))
    looked_object-text true object d h looks there seen first second =
        ap (λ l. looked_section op_words reply_words look_line decls f (name_at decls object) h l) (ap (λ o. option_map_or (λ l. l) o []) seen)
        ∙ ap (λ name. looked_section op_words reply_words look_line decls f name h looks) (named decls object d there) ∙ looked-text f (name_of d) h looks
    looked_object-text false object d h looks there seen first second =
        ap (λ l. looked_section op_words reply_words look_line decls f (name_at decls object) h l) (ap (λ o. option_map_or (λ l. l) o []) seen ∙ second)
        ∙ ap (λ x. looked_section op_words reply_words look_line decls f (name_at decls object) x []) first

    pub looked_objects-text : (object : ℕ) (ds : List Decl) (hs : List (List (Entry O R))) (others : List (List L)) → ((k : ℕ) → slice_get decls (object + k) ≡ slice_get ds k) →
        ((k : ℕ) → slice_get all (object + k) ≡ slice_get others k) → EachFits (λ d. FitsGiven (of_kind d) [] First) ds hs → EachFits (λ d. FitsGiven (of_kind d) [] Second) ds others →
        looked_sections op_words reply_words look_line decls f all object hs
        ≡ fed_lines line_feed (section_family_lines of_kind name_of (head_row f) (λ d. entry) (λ d. look_row) ds (pairs_of hs others))
    looked_objects-text object [] [] others same seen first second = refl
    looked_objects-text object [] (h ∷ hs) others same seen first second = absurd first
    looked_objects-text object (d ∷ ds) [] others same seen first second = absurd first
    looked_objects-text object (d ∷ ds) (h ∷ hs) [] same seen first second = absurd second
    looked_objects-text object (d ∷ ds) (h ∷ hs) (looks ∷ others) same seen first second =
        let here : object ≡ object + 0 = omega arith in
        let there = ap (slice_get decls) here ∙ same zero in
        let looked = ap (slice_get all) here ∙ seen zero in
        let lines = given_lines (of_kind d) (section_lines (head_row f (name_of d)) entry look_row) (h, looks) in
        let rest = section_family_lines of_kind name_of (head_row f) (λ d. entry) (λ d. look_row) ds (pairs_of hs others) in
        ap (λ l. l ++ looked_sections op_words reply_words look_line decls f all (object + 1) hs) (looked_object-text (of_kind d) object d h looks there looked first.0 second.0)
        ∙ ap (λ l. fed_lines line_feed lines ++ l)
        (looked_objects-text (object + 1) ds hs others (λ k. ap (slice_get decls) (omega arith) ∙ same (suc k)) (λ k. ap (slice_get all) (omega arith) ∙ seen (suc k)) first.1 second.1)
        ∙ sym (both-text lines rest)

-- Players.

module _ (f : Format) (decls : List Decl) (lines : List Stood) where
  pub players-text : (count player : ℕ) (logs : List Log) → EachFits (IsLog decls lines) (range_with_len player count) logs →
      player_sections f decls player logs ≡ fed_lines line_feed (each_lines (player_lines f decls) (range_with_len player count) (map (λ log. (log.state, log.answers)) logs))
  players-text zero player [] fits = refl
  players-text zero player (log ∷ logs) fits = absurd fits
  players-text (suc count) player [] fits = absurd fits
  players-text (suc count) player (log ∷ logs) fits =
      let here = player_lines f decls player (log.state, log.answers) in
      let rest = each_lines (player_lines f decls) (range_with_len (player + 1) count) (map (λ log. (log.state, log.answers)) logs) in
      ap (λ l. (player_head f (player_name decls player) log.state (length log.answers) ++ l) ++ player_sections f decls (player + 1) logs)
      (rows-text (answer_line decls) (answered_row decls) (answer_line-fed decls) log.answers)
      ∙ ap (λ l. fed_lines line_feed here ++ l) (players-text count (player + 1) logs fits.1)
      ∙ sym (both-text here rest)

-- Replies have words.

work_worded : (decls : List Decl) (r : WorkReply) → IsWorded (work.reply_words decls r)
work_worded decls (work_replies.Sub submissions.Already) = tt
work_worded decls (work_replies.Sub submitted) = tt
work_worded decls r = tt

clock_worded : (decls : List Decl) (r : ClockReply) → IsWorded (clock.reply_words decls r)
clock_worded decls (clock_replies.Now time) = tt
clock_worded decls r = tt

table_worded : (decls : List Decl) (r : TableReply) → IsWorded (table.reply_words decls r)
table_worded decls table_replies.Done = tt
table_worded decls r = tt

sem_worded : (decls : List Decl) (r : SemReply) → IsWorded (sem.reply_words decls r)
sem_worded decls sem_replies.Got = tt
sem_worded decls r = tt

msgq_worded : (decls : List Decl) (r : MsgqReply) → IsWorded (msgq.reply_words decls r)
msgq_worded decls msgq_replies.Done = tt
msgq_worded decls r = tt

signal_worded : (decls : List Decl) (r : SignalReply) → IsWorded (signal.reply_words decls r)
signal_worded decls (signal_replies.Stamp stamp) = tt

chan_worded : (decls : List Decl) (r : ChanReply) → IsWorded (chan.reply_words decls r)
chan_worded decls chan_replies.Got = tt
chan_worded decls r = tt

obs_worded : (decls : List Decl) (r : ObsReply) → IsWorded (obs.reply_words decls r)
obs_worded decls obs_replies.Off = tt
obs_worded decls r = tt

-- The whole.

regroup : (first ending work clock table sems msgqs signals chans observers all : List ℕ) →
    first ++ ending ++ (((work ++ clock) ++ table) ++ sems ++ msgqs ++ signals ++ chans ++ observers) ++ all
    ≡ first ++ (ending ++ ((work ++ (clock ++ table)) ++ ((sems ++ (msgqs ++ (signals ++ (chans ++ observers)))) ++ all)))
regroup first ending work clock table sems msgqs signals chans observers all = simp append_assoc

swap : (first ending : List ℕ) {work clock table sems msgqs signals chans observers all a b c d e f g h i : List ℕ} →
    work ≡ a → clock ≡ b → table ≡ c → sems ≡ d → msgqs ≡ e → signals ≡ f → chans ≡ g → observers ≡ h → all ≡ i →
    first ++ ending ++ (((work ++ clock) ++ table) ++ sems ++ msgqs ++ signals ++ chans ++ observers) ++ all
    ≡ first ++ ending ++ (((a ++ b) ++ c) ++ d ++ e ++ f ++ g ++ h) ++ i
swap first ending work_is clock_is table_is sems_are msgqs_are signals_are chans_are observers_are all_are = cc

spread : (first ending : List ℕ) (work clock table sems msgqs signals chans observers all : List (List ℕ)) →
    fed_lines line_feed (first ∷ ending ∷ ((work ++ (clock ++ table)) ++ ((sems ++ (msgqs ++ (signals ++ (chans ++ observers)))) ++ all)))
    ≡ fed line_feed first ++ (fed line_feed ending ++ ((fed_lines line_feed work ++ (fed_lines line_feed clock ++ fed_lines line_feed table))
    ++ ((fed_lines line_feed sems ++ (fed_lines line_feed msgqs ++ (fed_lines line_feed signals ++ (fed_lines line_feed chans ++ fed_lines line_feed observers)))) ++ fed_lines line_feed all)))
spread first ending work clock table sems msgqs signals chans observers all = simp both-text

-- the text of a trace in form is that of its lines
pub text-lines : (f : Format) (s : Content) (t : Trace) → IsInForm s t → trace_text f s t ≡ fed_lines line_feed (trace_lines s.decls (f, t))
text-lines f s t form =
    let decls = s.decls in
    let first : List ℕ = first_row f ++ codes "\n" in
    let ending : List ℕ = line (ending_word t.ending ∷ []) in
    let work_lines : List (List ℕ) = section_lines (head_row f work_name) (work_row decls) (item_look_row decls) (t.work, t.looks.items) in
    let clock_lines : List (List ℕ) = plain_section_lines (plain_row f clock_name) (clock_row decls) t.clock in
    let table_lines : List (List ℕ) = plain_section_lines (plain_row f table_name) (table_row decls) t.table in
    let sem_lines : List (List ℕ) = plain_family_lines is_sem name_of (plain_row f) (λ d. sem_row decls) decls t.sems in
    let msgq_lines : List (List ℕ) = plain_family_lines is_msgq name_of (plain_row f) (λ d. msgq_row decls) decls t.msgqs in
    let signal_lines : List (List ℕ) = section_family_lines is_signal name_of (head_row f) (λ d. signal_row decls) (λ d. signal_look_row decls) decls (pairs_of t.signals t.looks.signals) in
    let chan_lines : List (List ℕ) = plain_family_lines is_chan name_of (plain_row f) (λ d. chan_row decls) decls t.chans in
    let obs_lines : List (List ℕ) = plain_family_lines is_observer name_of (plain_row f) (λ d. obs_row decls) decls t.observers in
    let all_lines : List (List ℕ) = players_lines f decls (map (λ log. (log.state, log.answers)) t.logs) in
    let here : (k : ℕ) → slice_get decls (0 + k) ≡ slice_get decls k = λ k. ap (slice_get decls) (omega arith) in
    let seen : (k : ℕ) → slice_get t.looks.signals (0 + k) ≡ slice_get t.looks.signals k = λ k. ap (slice_get t.looks.signals) (omega arith) in
    let work_is = looked-text work.op_words work.reply_words item_look_line decls (work_worded decls) (item_look_row decls) (item_look_line-fed decls) f work_name t.work t.looks.items in
    let clock_is = service-text clock.op_words clock.reply_words decls (clock_worded decls) f clock_name t.clock in
    let table_is = service-text table.op_words table.reply_words decls (table_worded decls) f table_name t.table in
    let sems_are = objects-text sem.op_words sem.reply_words decls (sem_worded decls) f is_sem (AllByRecursion (IsSem decls)) 0 decls t.sems here form.sems in
    let msgqs_are = objects-text msgq.op_words msgq.reply_words decls (msgq_worded decls) f is_msgq (AllByRecursion (IsMsgq decls)) 0 decls t.msgqs here form.msgqs in
    let signals_are = looked_objects-text signal.op_words signal.reply_words signal_look_line decls (signal_worded decls) (signal_look_row decls) (signal_look_line-fed decls)
    f is_signal (AllByRecursion (IsSignal decls)) (AllFit (FitsSignalLook decls) None) t.looks.signals 0 decls t.signals t.looks.signals here seen form.signals form.signal_looks in
    let chans_are = objects-text chan.op_words chan.reply_words decls (chan_worded decls) f is_chan (AllByRecursion (IsChan decls)) 0 decls t.chans here form.chans in
    let observers_are = objects-text obs.op_words obs.reply_words decls (obs_worded decls) f is_observer (AllByRecursion (IsObs decls)) 0 decls t.observers here form.observers in
    let players_are = players-text f decls (stood t) (length (players decls)) 0 t.logs form.logs in
    swap first ending work_is clock_is table_is sems_are msgqs_are signals_are chans_are observers_are players_are
    ∙ regroup first ending (fed_lines line_feed work_lines) (fed_lines line_feed clock_lines) (fed_lines line_feed table_lines) (fed_lines line_feed sem_lines) (fed_lines line_feed msgq_lines)
    (fed_lines line_feed signal_lines) (fed_lines line_feed chan_lines) (fed_lines line_feed obs_lines) (fed_lines line_feed all_lines)
    ∙ sym (spread (first_row f) (ending_word t.ending) work_lines clock_lines table_lines sem_lines msgq_lines signal_lines chan_lines obs_lines all_lines)
