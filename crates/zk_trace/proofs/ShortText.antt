-- Where a text has fewer than 2^64 bytes, each number of lines in it can be told.
use Rattle.std.proofs.Common.{ℕ, ◌+◌, ◌^◌, ◌<◌, ◌≤◌, zero, suc, Bool, true, false, None, List, [], ◌∷◌, ◌++◌, map, length, length-append, arith, sym, ap, subst}
use Rattle.std.specs.List.{AllByRecursion, range_with_len}
use Rattle.std.proofs.lemmas.List.{length-map}
use Rattle.zk_blocks.specs.Blocks.{FitsGiven, given_lines}
use Rattle.zk_blocks.specs.Cut.{fed, fed_lines}
use Rattle.zk_blocks.specs.Each.{each_lines, EachFits}
use Rattle.zk_blocks.specs.Families.{plain_family_lines, section_family_lines}
use Rattle.zk_blocks.specs.Rows.{AllFit}
use Rattle.zk_blocks.specs.Sections.{plain_section_lines, section_lines}
use Rattle.zk_line.specs.Objects.{name_of, is_sem, is_msgq, is_signal, is_chan, is_observer}
use Rattle.zk_line.specs.declared.types.Decl.{Decl}
use Rattle.zk_scenario.specs.Content.{Content}
use Rattle.zk_scenario.specs.Players.{players}
use Rattle.zk_words.specs.Bytes.{line_feed}
use Rattle.zk_worker.specs.declared.log.Log.{Log}
use Rattle.zk_trace.specs.declared.format.Format.{Format}
use Rattle.zk_trace.specs.declared.format.Format.TheVariants.{One, Two}
use Rattle.zk_trace.specs.declared.stood.Stood.{Stood}
use Rattle.zk_trace.specs.declared.trace.Trace.{Trace}
use Rattle.zk_trace.specs.AnswerRead.{answered_row}
use Rattle.zk_trace.specs.EntryKinds.{work_row, clock_row, table_row, sem_row, IsSem, msgq_row, IsMsgq, signal_row, IsSignal, chan_row, IsChan, obs_row, IsObs}
use Rattle.zk_trace.specs.Form.{IsLog, IsInForm}
use Rattle.zk_trace.specs.Formats.{CanTell, CanTellAll}
use Rattle.zk_trace.specs.LookRead.{item_look_row, signal_look_row, FitsSignalLook}
use Rattle.zk_trace.specs.Stood.{stood}
use Rattle.zk_trace.specs.Text.{work_name, clock_name, table_name, head_row, trace_text}
use Rattle.zk_trace.specs.WholeRead.{plain_row, pairs_of, player_lines, players_lines, trace_lines}
use Rattle.zk_trace.proofs.TraceText.{text-lines}

-- a text has no fewer bytes than lines
fed-long : (lines : List (List ℕ)) → length lines ≤ length (fed_lines line_feed lines)
fed-long [] = omega arith
fed-long (line ∷ lines) =
    let rest = fed-long lines in
    omega (arith, rest, length-append (fed line_feed line) (fed_lines line_feed lines), length-append line (line_feed ∷ []))

module _ {X : Type 0} (head : ℕ → List ℕ) (row : X → List ℕ) where
  -- a section has no fewer lines than rows
  plain-long : (xs : List X) → length xs ≤ length (plain_section_lines head row xs)
  plain-long [] = omega arith
  plain-long (x ∷ xs) = omega (arith, length-map (x ∷ xs) row)

module _ {E K : Type 0} (head : ℕ → ℕ → List ℕ) (first : E → List ℕ) (second : K → List ℕ) where
  two-long : (es : List E) (ks : List K) → length es + length ks ≤ length (section_lines head first second (es, ks))
  two-long [] [] = omega arith
  two-long [] (k ∷ ks) = omega (arith, length-map (k ∷ ks) second)
  two-long (e ∷ es) ks = omega (arith, length-append (map first (e ∷ es)) (map second ks), length-map (e ∷ es) first, length-map ks second)

-- as many as these
abbrev IsShort : {X : Type 0} → ℕ → List X → Type 0
IsShort most xs = length xs ≤ most

module _ (most : ℕ) (of_kind : Decl → Bool) where
  module _ {X : Type 0} (head : List ℕ → ℕ → List ℕ) (row : X → List ℕ) (Fits : List X → Type 0) where
    given-short : (is : Bool) (name : List ℕ) (xs : List X) → FitsGiven is [] Fits xs → length (given_lines is (plain_section_lines (head name) row) xs) ≤ most → IsShort most xs
    given-short true name xs fits long = let more = plain-long (head name) row xs in omega (arith, more, long)
    given-short false name xs fits long = subst (IsShort most) (sym fits) (omega arith)

    family-short : (ds : List Decl) (lists : List (List X)) → EachFits (λ d. FitsGiven (of_kind d) [] Fits) ds lists →
        length (plain_family_lines of_kind name_of head (λ d. row) ds lists) ≤ most → AllByRecursion (IsShort most) lists
    family-short [] [] fits long = tt
    family-short [] (xs ∷ lists) fits long = absurd fits
    family-short (d ∷ ds) [] fits long = tt
    family-short (d ∷ ds) (xs ∷ lists) fits long =
        let here = given_lines (of_kind d) (plain_section_lines (head (name_of d)) row) xs in
        let rest = plain_family_lines of_kind name_of head (λ d. row) ds lists in
        let total : length (here ++ rest) ≤ most = long in
        (given-short (of_kind d) (name_of d) xs fits.0 (omega (arith, total, length-append here rest)), family-short ds lists fits.1 (omega (arith, total, length-append here rest)))

  module _ {E K : Type 0} (head : List ℕ → ℕ → ℕ → List ℕ) (first : E → List ℕ) (second : K → List ℕ) (First : List E → Type 0) (Second : List K → Type 0) where
    two-short : (is : Bool) (name : List ℕ) (es : List E) (ks : List K) → FitsGiven is [] First es → FitsGiven is [] Second ks →
        length (given_lines is (section_lines (head name) first second) (es, ks)) ≤ most → IsShort most es × IsShort most ks
    two-short true name es ks fits fits₂ long = let more = two-long (head name) first second es ks in (omega (arith, more, long), omega (arith, more, long))
    two-short false name es ks fits fits₂ long = (subst (IsShort most) (sym fits) (omega arith), subst (IsShort most) (sym fits₂) (omega arith))

    two_family-short : (ds : List Decl) (all : List (List E)) (others : List (List K)) → EachFits (λ d. FitsGiven (of_kind d) [] First) ds all →
        EachFits (λ d. FitsGiven (of_kind d) [] Second) ds others →
        length (section_family_lines of_kind name_of head (λ d. first) (λ d. second) ds (pairs_of all others)) ≤ most →
        AllByRecursion (IsShort most) all × AllByRecursion (IsShort most) others
    two_family-short [] [] [] fits fits₂ long = (tt, tt)
    two_family-short [] (es ∷ all) others fits fits₂ long = absurd fits
    two_family-short [] [] (ks ∷ others) fits fits₂ long = absurd fits₂
    two_family-short (d ∷ ds) [] others fits fits₂ long = absurd fits
    two_family-short (d ∷ ds) (es ∷ all) [] fits fits₂ long = absurd fits₂
    two_family-short (d ∷ ds) (es ∷ all) (ks ∷ others) fits fits₂ long =
        let here = given_lines (of_kind d) (section_lines (head (name_of d)) first second) (es, ks) in
        let rest = section_family_lines of_kind name_of head (λ d. first) (λ d. second) ds (pairs_of all others) in
        let total : length (here ++ rest) ≤ most = long in
        let one = two-short (of_kind d) (name_of d) es ks fits.0 fits₂.0 (omega (arith, total, length-append here rest)) in
        let more = two_family-short ds all others fits.1 fits₂.1 (omega (arith, total, length-append here rest)) in
        ((one.0, more.0), (one.1, more.1))

abbrev IsShortLog : ℕ → Log → Type 0
IsShortLog most log = length log.answers ≤ most

players-short : (most : ℕ) (f : Format) (decls : List Decl) (lines : List Stood) (count player : ℕ) (logs : List Log) → EachFits (IsLog decls lines) (range_with_len player count) logs →
    length (each_lines (player_lines f decls) (range_with_len player count) (map (λ log. (log.state, log.answers)) logs)) ≤ most → AllByRecursion (IsShortLog most) logs
players-short most f decls lines zero player [] fits long = tt
players-short most f decls lines zero player (log ∷ logs) fits long = absurd fits
players-short most f decls lines (suc count) player [] fits long = tt
players-short most f decls lines (suc count) player (log ∷ logs) fits long =
    let here = player_lines f decls player (log.state, log.answers) in
    let rest = each_lines (player_lines f decls) (range_with_len (player + 1) count) (map (λ log. (log.state, log.answers)) logs) in
    let row = answered_row decls in
    let total : length (here ++ rest) ≤ most = long in (
      omega (arith, total, length-append here rest, length-map log.answers row),
      players-short most f decls lines count (player + 1) logs fits.1 (omega (arith, total, length-append here rest)),
    )

-- what is no more than fewer than 2^64 can be told
tell : (f : Format) (most : ℕ) → most < 2 ^ 64 → (n : ℕ) → n ≤ most → CanTell f n
tell One most small n le = tt
tell Two most small n le = omega (arith, small, le)

all-tell : {X : Type 0} (P Q : X → Type 0) → ((x : X) → P x → Q x) → (xs : List X) → AllByRecursion P xs → AllByRecursion Q xs
all-tell P Q change [] each = tt
all-tell P Q change (x ∷ xs) each = (change x each.0, all-tell P Q change xs each.1)

lists-tell : (f : Format) (most : ℕ) → most < 2 ^ 64 → {X : Type 0} (xs : List (List X)) → AllByRecursion (IsShort most) xs → AllByRecursion (λ h. CanTell f (length h)) xs
lists-tell f most small {X} xs = all-tell (IsShort most) (λ h. CanTell f (length h)) (λ (h : List X). tell f most small (length h)) xs

-- each number of lines of a trace whose text is short can be told
pub short-told : (f : Format) (s : Content) (t : Trace) → IsInForm s t → length (trace_text f s t) < 2 ^ 64 → CanTellAll f t
short-told f s t form short =
    let decls = s.decls in
    let most : ℕ = length (trace_lines decls (f, t)) in
    let small : most < 2 ^ 64 = let lines = fed-long (trace_lines decls (f, t)) in let text = ap length (text-lines f s t form) in omega (arith, short, lines, text) in
    let work : List (List ℕ) = section_lines (head_row f work_name) (work_row decls) (item_look_row decls) (t.work, t.looks.items) in
    let clock : List (List ℕ) = plain_section_lines (plain_row f clock_name) (clock_row decls) t.clock in
    let table : List (List ℕ) = plain_section_lines (plain_row f table_name) (table_row decls) t.table in
    let sems : List (List ℕ) = plain_family_lines is_sem name_of (plain_row f) (λ d. sem_row decls) decls t.sems in
    let msgqs : List (List ℕ) = plain_family_lines is_msgq name_of (plain_row f) (λ d. msgq_row decls) decls t.msgqs in
    let signals : List (List ℕ) = section_family_lines is_signal name_of (head_row f) (λ d. signal_row decls) (λ d. signal_look_row decls) decls (pairs_of t.signals t.looks.signals) in
    let chans : List (List ℕ) = plain_family_lines is_chan name_of (plain_row f) (λ d. chan_row decls) decls t.chans in
    let observers : List (List ℕ) = plain_family_lines is_observer name_of (plain_row f) (λ d. obs_row decls) decls t.observers in
    let all : List (List ℕ) = players_lines f decls (map (λ log. (log.state, log.answers)) t.logs) in
    let one = length-append (work ++ (clock ++ table)) ((sems ++ (msgqs ++ (signals ++ (chans ++ observers)))) ++ all) in
    let two = length-append work (clock ++ table) in
    let three = length-append clock table in
    let four = length-append (sems ++ (msgqs ++ (signals ++ (chans ++ observers)))) all in
    let five = length-append sems (msgqs ++ (signals ++ (chans ++ observers))) in
    let six = length-append msgqs (signals ++ (chans ++ observers)) in
    let seven = length-append signals (chans ++ observers) in
    let eight = length-append chans observers in
    let worked = two-long (head_row f work_name) (work_row decls) (item_look_row decls) t.work t.looks.items in
    let clocked = plain-long (plain_row f clock_name) (clock_row decls) t.clock in
    let tabled = plain-long (plain_row f table_name) (table_row decls) t.table in
    let told = tell f most small in
    let looked = two_family-short most is_signal (head_row f) (signal_row decls) (signal_look_row decls) (AllByRecursion (IsSignal decls)) (AllFit (FitsSignalLook decls) None) decls
    t.signals t.looks.signals form.signals form.signal_looks (omega (arith, one, four, five, six, seven)) in
    record {
      work = told (length t.work) (omega (arith, worked, one, two));
      clock = told (length t.clock) (omega (arith, clocked, one, two, three));
      table = told (length t.table) (omega (arith, tabled, one, two, three));
      sems = lists-tell f most small t.sems (family-short most is_sem (plain_row f) (sem_row decls) (AllByRecursion (IsSem decls)) decls t.sems form.sems (omega (arith, one, four, five)));
      msgqs = lists-tell f most small t.msgqs (family-short most is_msgq (plain_row f) (msgq_row decls) (AllByRecursion (IsMsgq decls)) decls t.msgqs form.msgqs (omega (arith, one, four, five, six)));
      signals = lists-tell f most small t.signals looked.0;
      chans = lists-tell f most small t.chans (family-short most is_chan (plain_row f) (chan_row decls) (AllByRecursion (IsChan decls)) decls t.chans form.chans (omega (arith, one, four, five, six, seven, eight)));
      observers = lists-tell f most small t.observers
          (family-short most is_observer (plain_row f) (obs_row decls) (AllByRecursion (IsObs decls)) decls t.observers form.observers (omega (arith, one, four, five, six, seven, eight)));
      item_looks = told (length t.looks.items) (omega (arith, worked, one, two));
      signal_looks = lists-tell f most small t.looks.signals looked.1;
      logs = all-tell (IsShortLog most) (λ log. CanTell f (length log.answers)) (λ log. told (length log.answers)) t.logs
          (players-short most f decls (stood t) (length (players decls)) 0 t.logs form.logs (omega (arith, one, four)));
    }
