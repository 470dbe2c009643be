-- A trace in form is made of just one whole that fits, and what is made of one that fits is in form.
use Rattle.std.proofs.Common.{◌≡◌, ℕ, ◌+◌, ◌<◌, zero, suc, Bool, true, false, Option, None, List, [], ◌∷◌, map, length, arith, refl, sym, ap, subst, ◌∙◌}
use Rattle.std.specs.List.{AllByRecursion, range_with_len}
use Rattle.std.proofs.lemmas.Bool.{true≢false}
use Rattle.zk_base.specs.declared.ids.Entry.{Entry}
use Rattle.zk_blocks.specs.Blocks.{IsBlock, FitsGiven}
use Rattle.zk_blocks.specs.Each.{EachFits}
use Rattle.zk_blocks.specs.Families.{FitsPlainFamily, FitsSectionFamily}
use Rattle.zk_blocks.specs.Rows.{AllFit, FitRows}
use Rattle.zk_blocks.specs.Sections.{has_row, neither, FitsPlainSection, FitsSection}
use Rattle.zk_blocks.proofs.Blocks.{pair}
use Rattle.zk_blocks.proofs.Each.{each_fits-length}
use Rattle.zk_blocks.proofs.Headed.{fits_headed}
use Rattle.zk_blocks.proofs.Made.{made}
use Rattle.zk_blocks.proofs.Rows.{fit_each, each_fit, no_rows}
use Rattle.zk_blocks.proofs.Sections.{no_rows_of_two}
use Rattle.zk_line.specs.Objects.{AreNames, is_sem, is_msgq, is_signal, is_chan, is_observer}
use Rattle.zk_line.specs.declared.types.Decl.{Decl}
use Rattle.zk_model_wait.specs.declared.signal.SignalOp.{SignalOp}
use Rattle.zk_model_wait.specs.declared.signal.SignalReply.{SignalReply}
use Rattle.zk_scenario.specs.Content.{Content}
use Rattle.zk_scenario.specs.Players.{players}
use Rattle.zk_worker.specs.declared.answers.Answered.{Answered}
use Rattle.zk_worker.specs.declared.log.Log.{Log}
use Rattle.zk_worker.specs.declared.log.PlayerState.{PlayerState}
use Rattle.zk_trace.specs.declared.format.Format.{Format}
use Rattle.zk_trace.specs.declared.format.Formats.{Formats}
use Rattle.zk_trace.specs.declared.looks.ItemLook.{ItemLook}
use Rattle.zk_trace.specs.declared.looks.SignalLook.{SignalLook}
use Rattle.zk_trace.specs.declared.stood.Stood.{Stood}
use Rattle.zk_trace.specs.declared.trace.Trace.{Trace}
use Rattle.zk_trace.specs.AnswerRead.{IsAnswered}
use Rattle.zk_trace.specs.EntryKinds.{IsWork, IsClock, IsTable, IsSem, IsMsgq, IsSignal, IsChan, IsObs}
use Rattle.zk_trace.specs.EntryRead.{FitsEntry}
use Rattle.zk_trace.specs.Form.{AreOfKind, IsLog, IsInForm}
use Rattle.zk_trace.specs.Formats.{CanTell, CanTellAll}
use Rattle.zk_trace.specs.LookRead.{FitsItemLook, FitsSignalLook}
use Rattle.zk_trace.specs.SectionRead.{has_player}
use Rattle.zk_trace.specs.Stood.{stood}
use Rattle.zk_trace.specs.TraceRead.{IsWritten}
use Rattle.zk_trace.specs.WholeRead.{Players, Rest, Whole, whole_lines, logs_of, trace_of, written_of, pairs_of, whole_of, trace_lines, read_trace}
use Rattle.zk_trace.proofs.SpotRead.{who-number}
use Rattle.zk_trace.proofs.HeadRead.{can_none}
use Rattle.zk_trace.proofs.WholeRead.{FitPlayer, FitRest, FitWhole, whole}

-- Lists.

each_change : {D A : Type 0} {F G : D → A → Type 0} → ((d : D) (a : A) → F d a → G d a) → (ds : List D) (each : List A) → EachFits F ds each → EachFits G ds each
each_change f [] [] fits = tt
each_change f [] (a ∷ more) fits = absurd fits
each_change f (d ∷ ds) [] fits = absurd fits
each_change f (d ∷ ds) (a ∷ more) fits = (f d a fits.0, each_change f ds more fits.1)

given_change : {A : Type 0} {F G : A → Type 0} (is : Bool) (none : A) → ((a : A) → F a → G a) → (a : A) → FitsGiven is none F a → FitsGiven is none G a
given_change true none f a fits = f a fits
given_change false none f a fits = fits

-- what fits where it is there, and of which something else holds too
module _ {D X : Type 0} (of_kind : D → Bool) (P C : List X → Type 0) where
  abbrev FitBoth : List X → Type 0
  FitBoth xs = P xs × C xs

  together_given : (is : Bool) (xs : List X) → FitsGiven is [] P xs → C xs → FitsGiven is [] FitBoth xs
  together_given true xs fits holds = (fits, holds)
  together_given false xs fits holds = fits

  together : (ds : List D) (lists : List (List X)) → EachFits (λ d. FitsGiven (of_kind d) [] P) ds lists → AllByRecursion C lists →
      EachFits (λ d. FitsGiven (of_kind d) [] FitBoth) ds lists
  together [] [] fits holds = tt
  together [] (xs ∷ lists) fits holds = absurd fits
  together (d ∷ ds) [] fits holds = absurd fits
  together (d ∷ ds) (xs ∷ lists) fits holds = (together_given (of_kind d) xs fits.0 holds.0, together ds lists fits.1 holds.1)

  parted_given : C [] → (is : Bool) (xs : List X) → FitsGiven is [] FitBoth xs → FitsGiven is [] P xs × C xs
  parted_given none true xs fits = fits
  parted_given none false xs fits = (fits, subst C (sym fits) none)

  parted : C [] → (ds : List D) (lists : List (List X)) → EachFits (λ d. FitsGiven (of_kind d) [] FitBoth) ds lists →
      EachFits (λ d. FitsGiven (of_kind d) [] P) ds lists × AllByRecursion C lists
  parted none [] [] fits = (tt, tt)
  parted none [] (xs ∷ lists) fits = absurd fits
  parted none (d ∷ ds) [] fits = absurd fits
  parted none (d ∷ ds) (xs ∷ lists) fits =
      let here = parted_given none (of_kind d) xs fits.0 in
      let there = parted none ds lists fits.1 in
      ((here.0, there.0), (here.1, there.1))

module _ {E K : Type 0} where
  -- what is paired and taken apart again is as it was
  firsts-pairs : (es : List E) (ks : List K) → length es ≡ length ks → map (λ both. both.0) (pairs_of es ks) ≡ es
  firsts-pairs [] ks same = refl
  firsts-pairs (e ∷ es) [] same = absurd (omega (arith, same))
  firsts-pairs (e ∷ es) (k ∷ ks) same = ap (λ l. e ∷ l) (firsts-pairs es ks (omega (arith, same)))

  seconds-pairs : (es : List E) (ks : List K) → length es ≡ length ks → map (λ both. both.1) (pairs_of es ks) ≡ ks
  seconds-pairs [] [] same = refl
  seconds-pairs [] (k ∷ ks) same = absurd (omega (arith, same))
  seconds-pairs (e ∷ es) [] same = absurd (omega (arith, same))
  seconds-pairs (e ∷ es) (k ∷ ks) same = ap (λ l. k ∷ l) (seconds-pairs es ks (omega (arith, same)))

  pairs-parts : (both : List (E × K)) → pairs_of (map (λ one. one.0) both) (map (λ one. one.1) both) ≡ both
  pairs-parts [] = refl
  pairs-parts (one ∷ both) = ap (λ l. one ∷ l) (pairs-parts both)

  module _ {D : Type 0} (of_kind : D → Bool) (F : List E → Type 0) (G : List K → Type 0) where
    abbrev FitsPair : D → List E × List K → Type 0
    FitsPair d both = FitsGiven (of_kind d) neither (λ p. F p.0 × G p.1) both

    pair_there : (is : Bool) (es : List E) (ks : List K) → FitsGiven is [] F es → FitsGiven is [] G ks → FitsGiven is neither (λ (p : List E × List K). F p.0 × G p.1) (es, ks)
    pair_there true es ks first second = (first, second)
    pair_there false es ks first second = pair first second

    pair_back : (is : Bool) (both : List E × List K) → FitsGiven is neither (λ (p : List E × List K). F p.0 × G p.1) both → FitsGiven is [] F both.0 × FitsGiven is [] G both.1
    pair_back true both fits = fits
    pair_back false both fits = (ap (λ p. p.0) fits, ap (λ p. p.1) fits)

    -- where two lists for each fit, their pairs do
    pub pairs_there : (ds : List D) (all : List (List E)) (others : List (List K)) → EachFits (λ d. FitsGiven (of_kind d) [] F) ds all → EachFits (λ d. FitsGiven (of_kind d) [] G) ds others →
        EachFits FitsPair ds (pairs_of all others)
    pairs_there [] [] others first second = tt
    pairs_there [] (es ∷ all) others first second = absurd first
    pairs_there (d ∷ ds) [] others first second = absurd first
    pairs_there (d ∷ ds) (es ∷ all) [] first second = absurd second
    pairs_there (d ∷ ds) (es ∷ all) (ks ∷ others) first second = (pair_there (of_kind d) es ks first.0 second.0, pairs_there ds all others first.1 second.1)

    pairs_back : (ds : List D) (both : List (List E × List K)) → EachFits FitsPair ds both →
        EachFits (λ d. FitsGiven (of_kind d) [] F) ds (map (λ p. p.0) both) × EachFits (λ d. FitsGiven (of_kind d) [] G) ds (map (λ p. p.1) both)
    pairs_back [] [] fits = (tt, tt)
    pairs_back [] (one ∷ both) fits = absurd fits
    pairs_back (d ∷ ds) [] fits = absurd fits
    pairs_back (d ∷ ds) (one ∷ both) fits =
        let here = pair_back (of_kind d) one fits.0 in
        let there = pairs_back ds both fits.1 in
        ((here.0, there.0), (here.1, there.1))

-- What fits where a head may not be passed.

none_below : (xs : List ℕ) → has_row xs ≡ false → (n : ℕ) → n < length xs → ⊥
none_below [] no_row n below = omega arith
none_below (x ∷ xs) no_row n below = true≢false no_row

module _ (f : Format) (decls : List Decl) (are : AreNames decls) where
  -- without a player there is no entry and no look
  no_entries : {O R : Type 0} {FitsOp : O → Type 0} {Answers : O → R → Type 0} → has_player decls ≡ false → (e : Entry O R) → FitsEntry decls FitsOp Answers e → ⊥
  no_entries nobody e fits = none_below (players decls) nobody e.who.number (who-number decls are e.who.number e.who fits.known).1

  no_item_looks : has_player decls ≡ false → (look : ItemLook) → FitsItemLook decls None look → ⊥
  no_item_looks nobody look fits = none_below (players decls) nobody look.player fits.1.player

  no_signal_looks : has_player decls ≡ false → (look : SignalLook) → FitsSignalLook decls None look → ⊥
  no_signal_looks nobody look fits = none_below (players decls) nobody look.player fits.1.player

  -- the number of some lines can be told
  abbrev Can : {X : Type 0} → List X → Type 0
  Can xs = CanTell f (length xs)

  -- Sections of entries alone.

  module _ {X : Type 0} (Fits : X → Type 0) (never : has_player decls ≡ false → (x : X) → Fits x → ⊥) where
    section_there : (xs : List X) → AllByRecursion Fits xs × Can xs → FitsPlainSection (has_player decls) (CanTell f) (λ last. Fits) xs
    section_there xs fits =
        fits_headed {Fits = FitRows (CanTell f) (λ last. Fits)} (has_player decls) (λ nobody ys fit. no_rows (λ last. Fits) (never nobody) ys fit.0) xs (each_fit Fits None xs fits.0, fits.1)

    section_back : (xs : List X) → FitsPlainSection (has_player decls) (CanTell f) (λ last. Fits) xs → AllByRecursion Fits xs × Can xs
    section_back xs fits = (fit_each Fits None xs fits.0.0, fits.0.1)

    family_there : (of_kind : Decl → Bool) (lists : List (List X)) → AreOfKind of_kind (AllByRecursion Fits) decls lists → AllByRecursion Can lists →
        FitsPlainFamily of_kind (has_player decls) (CanTell f) (λ d last. Fits) decls lists
    family_there of_kind lists fits can =
        each_change (λ d. given_change (of_kind d) [] section_there) decls lists (together of_kind (AllByRecursion Fits) Can decls lists fits can)

    family_back : (of_kind : Decl → Bool) (lists : List (List X)) → FitsPlainFamily of_kind (has_player decls) (CanTell f) (λ d last. Fits) decls lists →
        AreOfKind of_kind (AllByRecursion Fits) decls lists × AllByRecursion Can lists
    family_back of_kind lists fits =
        parted of_kind (AllByRecursion Fits) Can (can_none f) decls lists (each_change (λ d. given_change (of_kind d) [] section_back) decls lists fits)

  -- Sections of entries and looks.

  module _ {E K : Type 0} (First : E → Type 0) (Second : Option K → K → Type 0)
      (no_first : has_player decls ≡ false → (e : E) → First e → ⊥) (no_second : has_player decls ≡ false → (k : K) → Second None k → ⊥) where
    abbrev FitFirst : List E → Type 0
    FitFirst es = AllByRecursion First es × Can es

    abbrev FitSecond : List K → Type 0
    FitSecond ks = AllFit Second None ks × Can ks

    looked_there : (both : List E × List K) → FitFirst both.0 × FitSecond both.1 → FitsSection (has_player decls) (CanTell f) (λ last. First) Second both
    looked_there both fits =
        fits_headed (has_player decls) (λ nobody b. no_rows_of_two (CanTell f) (λ last. First) Second (no_first nobody) (no_second nobody) b) both
        ((each_fit First None both.0 fits.0.0, fits.0.1), fits.1)

    looked_back : (both : List E × List K) → FitsSection (has_player decls) (CanTell f) (λ last. First) Second both → FitFirst both.0 × FitSecond both.1
    looked_back both fits = ((fit_each First None both.0 fits.0.0.0, fits.0.0.1), fits.0.1)

    looked_family_there : (of_kind : Decl → Bool) (all : List (List E)) (others : List (List K)) →
        AreOfKind of_kind (AllByRecursion First) decls all → AreOfKind of_kind (AllFit Second None) decls others → AllByRecursion Can all → AllByRecursion Can others →
        FitsSectionFamily of_kind (has_player decls) (CanTell f) (λ d last. First) (λ d. Second) decls (pairs_of all others)
    looked_family_there of_kind all others first second can_first can_second =
        each_change (λ d. given_change (of_kind d) neither looked_there) decls (pairs_of all others)
        (pairs_there of_kind FitFirst FitSecond decls all others
        (together of_kind (AllByRecursion First) Can decls all first can_first) (together of_kind (AllFit Second None) Can decls others second can_second))

    looked_family_back : (of_kind : Decl → Bool) (both : List (List E × List K)) → FitsSectionFamily of_kind (has_player decls) (CanTell f) (λ d last. First) (λ d. Second) decls both →
        (AreOfKind of_kind (AllByRecursion First) decls (map (λ p. p.0) both) × AllByRecursion Can (map (λ p. p.0) both))
        × (AreOfKind of_kind (AllFit Second None) decls (map (λ p. p.1) both) × AllByRecursion Can (map (λ p. p.1) both))
    looked_family_back of_kind both fits =
        let parts = pairs_back of_kind FitFirst FitSecond decls both (each_change (λ d. given_change (of_kind d) neither looked_back) decls both fits) in (
          parted of_kind (AllByRecursion First) Can (can_none f) decls (map (λ p. p.0) both) parts.0,
          parted of_kind (AllFit Second None) Can (can_none f) decls (map (λ p. p.1) both) parts.1,
        )

  -- Players.

  abbrev shown : Log → PlayerState × List Answered
  shown log = (log.state, log.answers)

  abbrev CanLog : Log → Type 0
  CanLog log = CanTell f (length log.answers)

  players_there : (lines : List Stood) (count player : ℕ) (logs : List Log) → EachFits (IsLog decls lines) (range_with_len player count) logs → AllByRecursion CanLog logs →
      EachFits (λ p. FitPlayer f decls) (range_with_len player count) (map shown logs) × (logs_of lines player (map shown logs) ≡ logs)
  players_there lines zero player [] fits can = (tt, refl)
  players_there lines zero player (log ∷ logs) fits can = absurd fits
  players_there lines (suc count) player [] fits can = absurd fits
  players_there lines (suc count) player (log ∷ logs) fits can =
      let there = players_there lines count (player + 1) logs fits.1 can.1 in (
        ((each_fit (IsAnswered decls) None log.answers fits.0.answers, can.0), there.0),
        ap (λ steps. record { state = log.state; steps = steps; answers = log.answers } ∷ logs_of lines (player + 1) (map shown logs)) (sym fits.0.steps)
            ∙ ap (λ l. log ∷ l) there.1,
      )

  players_back : (lines : List Stood) (count player : ℕ) (all : Players) → EachFits (λ p. FitPlayer f decls) (range_with_len player count) all →
      EachFits (IsLog decls lines) (range_with_len player count) (logs_of lines player all) × AllByRecursion CanLog (logs_of lines player all)
  players_back lines zero player [] fits = (tt, tt)
  players_back lines zero player (one ∷ all) fits = absurd fits
  players_back lines (suc count) player [] fits = absurd fits
  players_back lines (suc count) player (one ∷ all) fits =
      let there = players_back lines count (player + 1) all fits.1 in
      ((record { steps = refl; answers = fit_each (IsAnswered decls) None one.1 fits.0.0 }, there.0), (fits.0.1, there.1))

  shown-logs : (lines : List Stood) (player : ℕ) (all : Players) → map shown (logs_of lines player all) ≡ all
  shown-logs lines player [] = refl
  shown-logs lines player (one ∷ all) = ap (λ l. one ∷ l) (shown-logs lines (player + 1) all)

module _ (f : Format) (s : Content) (are : AreNames s.decls) where
  -- a trace, with other histories and looks of signals, and other logs
  abbrev changed : Trace → List (List (Entry SignalOp SignalReply)) → List (List SignalLook) → List Log → Trace
  changed t signals looks logs = record {
    ending = t.ending;
    work = t.work;
    clock = t.clock;
    table = t.table;
    sems = t.sems;
    msgqs = t.msgqs;
    signals = signals;
    chans = t.chans;
    observers = t.observers;
    looks = record { items = t.looks.items; signals = looks };
    logs = logs;
  }

  -- what stands in a text, with other signals and other players
  abbrev replaced : Whole → List (List (Entry SignalOp SignalReply) × List SignalLook) → Players → Whole
  replaced w both all =
      let families = w.1.1.1.0 in
      (w.0, (w.1.0, (w.1.1.0, ((families.0, (families.1.0, (both, families.1.1.1))), all))))

  -- a trace in form is made of what stands in its text, which fits
  there : (t : Trace) → IsInForm s t → CanTellAll f t → FitRest f s.decls (whole_of (f, t)).1 × (trace_of (whole_of (f, t)) ≡ t)
  there t form can =
      let decls = s.decls in
      let count = length (players decls) in
      let logs = players_there f decls are (stood t) count 0 t.logs form.logs can.logs in
      let same : length t.signals ≡ length t.looks.signals =
      sym (each_fits-length (λ d. FitsGiven (is_signal d) [] (AllByRecursion (IsSignal decls))) decls t.signals form.signals)
      ∙ each_fits-length (λ d. FitsGiven (is_signal d) [] (AllFit (FitsSignalLook decls) None)) decls t.looks.signals form.signal_looks in (
        (
          tt,
          (
            (
              looked_there f decls are (IsWork decls) (FitsItemLook decls) (no_entries f decls are) (no_item_looks f decls are) (t.work, t.looks.items)
                  ((form.work, can.work), (form.item_looks, can.item_looks)),
              (
                section_there f decls are (IsClock decls) (no_entries f decls are) t.clock (form.clock, can.clock),
                section_there f decls are (IsTable decls) (no_entries f decls are) t.table (form.table, can.table),
              ),
            ),
            (
              (
                family_there f decls are (IsSem decls) (no_entries f decls are) is_sem t.sems form.sems can.sems,
                (
                  family_there f decls are (IsMsgq decls) (no_entries f decls are) is_msgq t.msgqs form.msgqs can.msgqs,
                  (
                    looked_family_there f decls are (IsSignal decls) (FitsSignalLook decls) (no_entries f decls are) (no_signal_looks f decls are) is_signal t.signals t.looks.signals
                        form.signals form.signal_looks can.signals can.signal_looks,
                    (
                      family_there f decls are (IsChan decls) (no_entries f decls are) is_chan t.chans form.chans can.chans,
                      family_there f decls are (IsObs decls) (no_entries f decls are) is_observer t.observers form.observers can.observers,
                    ),
                  ),
                ),
              ),
              logs.0,
            ),
          ),
        ),
        ap (λ signals. changed t signals (map (λ both. both.1) (pairs_of t.signals t.looks.signals))
            (logs_of (stood (changed t signals (map (λ both. both.1) (pairs_of t.signals t.looks.signals)) [])) 0 (map (shown f decls are) t.logs))) (firsts-pairs t.signals t.looks.signals same)
            ∙ ap (λ looks. changed t t.signals looks (logs_of (stood (changed t t.signals looks [])) 0 (map (shown f decls are) t.logs))) (seconds-pairs t.signals t.looks.signals same)
            ∙ ap (changed t t.signals t.looks.signals) logs.1,
      )

  -- and what is made of one that fits is in form, and has its text
  back : (r : Rest) → FitRest f s.decls r → (IsInForm s (trace_of (f, r)) × CanTellAll f (trace_of (f, r))) × (whole_of (f, trace_of (f, r)) ≡ (f, r))
  back r fits =
      let decls = s.decls in
      let count = length (players decls) in
      let t = trace_of (f, r) in
      let singles = fits.1.0 in
      let families = fits.1.1.0 in
      let work = looked_back f decls are (IsWork decls) (FitsItemLook decls) (no_entries f decls are) (no_item_looks f decls are) r.1.0.0 singles.0 in
      let clock = section_back f decls are (IsClock decls) (no_entries f decls are) r.1.0.1.0 singles.1.0 in
      let table = section_back f decls are (IsTable decls) (no_entries f decls are) r.1.0.1.1 singles.1.1 in
      let sems = family_back f decls are (IsSem decls) (no_entries f decls are) is_sem r.1.1.0.0 families.0 in
      let msgqs = family_back f decls are (IsMsgq decls) (no_entries f decls are) is_msgq r.1.1.0.1.0 families.1.0 in
      let signals = looked_family_back f decls are (IsSignal decls) (FitsSignalLook decls) (no_entries f decls are) (no_signal_looks f decls are) is_signal r.1.1.0.1.1.0 families.1.1.0 in
      let chans = family_back f decls are (IsChan decls) (no_entries f decls are) is_chan r.1.1.0.1.1.1.0 families.1.1.1.0 in
      let observers = family_back f decls are (IsObs decls) (no_entries f decls are) is_observer r.1.1.0.1.1.1.1 families.1.1.1.1 in
      let logs = players_back f decls are (stood t) count 0 r.1.1.1 fits.1.1.1 in (
        (
          record {
            work = work.0.0;
            clock = clock.0;
            table = table.0;
            sems = sems.0;
            msgqs = msgqs.0;
            signals = signals.0.0;
            chans = chans.0;
            observers = observers.0;
            item_looks = work.1.0;
            signal_looks = signals.1.0;
            logs = logs.0;
          },
          record {
            work = work.0.1;
            clock = clock.1;
            table = table.1;
            sems = sems.1;
            msgqs = msgqs.1;
            signals = signals.0.1;
            chans = chans.1;
            observers = observers.1;
            item_looks = work.1.1;
            signal_looks = signals.1.1;
            logs = logs.1;
          },
        ),
        ap (λ both. replaced (f, r) both (map (shown f decls are) (logs_of (stood t) 0 r.1.1.1))) (pairs-parts r.1.1.0.1.1.0)
            ∙ ap (replaced (f, r) r.1.1.0.1.1.0) (shown-logs f decls are (stood t) 0 r.1.1.1),
      )

module _ (formats : Formats) (s : Content) (are : AreNames s.decls) where
  pub made_in_form : (w : Whole) → FitWhole formats s.decls w → IsWritten formats s w.0 (trace_of w)
  made_in_form w fits = let is = (back w.0 s are w.1 fits.1).0 in record { read = fits.0; form = is.0; told = is.1 }

  -- a trace in form and its format are read exactly from its lines
  pub trace_block : IsBlock (trace_lines s.decls) (λ w. IsWritten formats s w.0 w.1) (read_trace formats s.decls) (λ line. Unit {0}) (λ line. ⊥)
  trace_block =
      made (whole formats s.decls are) written_of
      (λ w is. let fits = there w.0 s are w.1 is.form is.told in (whole_of w, ((is.read, fits.0), pair refl fits.1), refl))
      (λ w fits. (made_in_form w fits, ap (whole_lines s.decls) (sym (back w.0 s are w.1 fits.1).1)))
