-- Whole traces are read exactly from their lines, in each format.
use Rattle.std.proofs.Common.{◌≡◌, ℕ, Bool, true, false, Option, Some, None, List, [], ◌∷◌, length, slice_get, refl, sym, ap, subst, ◌∙◌}
use Rattle.std.specs.Prelude.{bytes_eq, option_and_then}
use Rattle.std.specs.List.{AllByRecursion}
use Rattle.std.specs.Option.{option_map_or}
use Rattle.std.proofs.lemmas.Bool.{cond-true}
use Rattle.std.proofs.lemmas.Option.{cond_some, option_and_then_some}
use Rattle.std.proofs.lemmas.Slice.Eq.{bytes_eq-Decides}
use Rattle.zk_base.proofs.Lists.{find-passes}
use Rattle.zk_blocks.specs.Apart.{AreApart}
use Rattle.zk_blocks.specs.Blocks.{IsBlock, FitsThen, FitsKept}
use Rattle.zk_blocks.specs.Each.{EachFits}
use Rattle.zk_blocks.specs.Exact.{IsExact}
use Rattle.zk_blocks.specs.Families.{FitsPlainFamily, FitsSectionFamily}
use Rattle.zk_blocks.specs.Heads.{IsHead, IsLater}
use Rattle.zk_blocks.specs.Rows.{AreCounted, FitRows}
use Rattle.zk_blocks.specs.Sections.{has_row, has_rows, FitsSection, FitsPlainSection, FitTwo, AreTwoCounted, FitsTitled}
use Rattle.zk_blocks.proofs.Blocks.{pair, one_line}
use Rattle.zk_blocks.proofs.Each.{each_alike}
use Rattle.zk_blocks.proofs.Families.{later_apart, section_before, plain_section_before, plain_family, section_family}
use Rattle.zk_blocks.proofs.Joined.{both}
use Rattle.zk_blocks.proofs.Made.{made}
use Rattle.zk_blocks.proofs.Sections.{titled}
use Rattle.zk_blocks.proofs.Told.{told}
use Rattle.zk_line.specs.Objects.{AreNames, is_sem, is_msgq, is_signal, is_chan, is_observer, name_of}
use Rattle.zk_line.specs.declared.types.Decl.{Decl}
use Rattle.zk_scenario.specs.Players.{players}
use Rattle.zk_words.specs.Bytes.{space}
use Rattle.zk_worker.specs.declared.answers.Answered.{Answered}
use Rattle.zk_worker.specs.declared.log.PlayerState.{PlayerState}
use Rattle.zk_trace.specs.declared.format.Format.{Format}
use Rattle.zk_trace.specs.declared.format.Format.TheVariants.{One, Two}
use Rattle.zk_trace.specs.declared.format.Formats.{Formats}
use Rattle.zk_trace.specs.declared.trace.Ending.{Ending}
use Rattle.zk_trace.specs.declared.trace.Ending.TheVariants.{Ended}
use Rattle.zk_trace.specs.AnswerRead.{IsAnswered}
use Rattle.zk_trace.specs.EntryKinds.{IsWork, IsClock, IsTable, IsSem, IsMsgq, IsSignal, IsChan, IsObs}
use Rattle.zk_trace.specs.Exact.{is_plain, Lacks, IsPlain}
use Rattle.zk_trace.specs.Form.{player_numbers}
use Rattle.zk_trace.specs.Formats.{reads, CanTell}
use Rattle.zk_trace.specs.LookRead.{FitsItemLook, FitsSignalLook}
use Rattle.zk_trace.specs.Names.{object_name, player_name}
use Rattle.zk_trace.specs.SectionRead.{head_of, plain_head_of, has_player, IsPlayerRow}
use Rattle.zk_trace.specs.Text.{work_name, clock_name, table_name, head_row, player_row, first_row}
use Rattle.zk_trace.specs.WholeRead.{Singles, read_singles, plain_row, singles_lines, Families, read_families, families_lines, Players, read_players, players_lines, all_formats, format_of, where_read, first_of, all_endings, ending_of, Sections, read_sections, sections_lines, Rest, read_rest, rest_lines, Whole, read_behind, read_whole, whole_lines}
use Rattle.zk_trace.specs.Words.{ending_word}
use Rattle.zk_trace.proofs.Fields.{named_exact}
use Rattle.zk_trace.proofs.HeadRead.{heads, head-can, two_head, plain-narrower, plain-can, can_none, plain_head, player-can, player_head, player-row}
use Rattle.zk_trace.proofs.PlainWords.{plain-name, lacks_plain, lacks_is}
use Rattle.zk_trace.proofs.SectionNames.{all_at, observer_names, chan_names, signal_names, msgq_names, sem_names, sections_apart}
use Rattle.zk_trace.proofs.TraceRows.{IsPlayers, work_rows, over_work, clock_rows, over_clock, table_rows, over_table, sem_rows, over_sem, msgq_rows, over_msgq, signal_rows, over_signal, chan_rows, over_chan, obs_rows, over_obs, item_look_rows, over_item_look, signal_look_rows, over_signal_look, work_apart, signal_apart, answer_rows, over_answer}

-- The ending.

pub endings_are : (e : Ending) → (ending_of (ending_word e) ≡ Some e) × IsPlain (ending_word e)
endings_are Ended = (refl, refl)
endings_are e = (refl, refl)

ending_exact : IsExact ending_word (λ e. Unit {0}) ending_of
ending_exact = let exact = named_exact ending_word all_endings endings_are in record { again = exact.again; spelled = exact.spelled }

-- What fits.

module _ (f : Format) (decls : List Decl) where
  abbrev pub may : Bool
  may = has_player decls

  abbrev pub FitSingles : Singles → Type 0
  FitSingles singles =
      FitsThen (FitsSection may (CanTell f) (λ last. IsWork decls) (FitsItemLook decls))
      (FitsThen (FitsPlainSection may (CanTell f) (λ last. IsClock decls)) (FitsPlainSection may (CanTell f) (λ last. IsTable decls))) singles

  abbrev pub FitFamilies : Families → Type 0
  FitFamilies families =
      FitsThen (FitsPlainFamily is_sem may (CanTell f) (λ d last. IsSem decls) decls)
      (FitsThen (FitsPlainFamily is_msgq may (CanTell f) (λ d last. IsMsgq decls) decls)
      (FitsThen (FitsSectionFamily is_signal may (CanTell f) (λ d last. IsSignal decls) (λ d. FitsSignalLook decls) decls)
      (FitsThen (FitsPlainFamily is_chan may (CanTell f) (λ d last. IsChan decls) decls)
      (FitsPlainFamily is_observer may (CanTell f) (λ d last. IsObs decls) decls)))) families

  abbrev pub FitPlayer : PlayerState × List Answered → Type 0
  FitPlayer player = FitsTitled (CanTell f) (λ last. IsAnswered decls) player

  abbrev pub FitPlayers : Players → Type 0
  FitPlayers all = EachFits (λ player. FitPlayer) (player_numbers decls) all

  abbrev pub FitSections : Sections → Type 0
  FitSections sections = FitsThen FitSingles (FitsThen FitFamilies FitPlayers) sections

  abbrev pub FitRest : Rest → Type 0
  FitRest rest = FitsThen (λ (e : Ending). Unit {0}) FitSections rest

-- a whole is in a format that is read, and its rest fits
abbrev pub FitWhole : Formats → List Decl → Whole → Type 0
FitWhole formats decls whole = (reads formats (length (players decls)) whole.0 ≡ true) × FitRest whole.0 decls whole.1

-- The first line.

pub format-again : (f : Format) → format_of (first_row f) ≡ Some f
format-again One = refl
format-again Two = refl

pub format-spelled : (row : List ℕ) (f : Format) → format_of row ≡ Some f → row ≡ first_row f
format-spelled row f said = (bytes_eq-Decides row (first_row f)).0 (find-passes (λ g. bytes_eq row (first_row g)) all_formats f said)

module _ (formats : Formats) (decls : List Decl) where
  -- a first line is that of its format, which is read
  first-spelled : (row : List ℕ) (f : Format) → first_of formats decls row ≡ Some f → (row ≡ first_row f) × (reads formats (length (players decls)) f ≡ true)
  first-spelled row f said = option_and_then_some (where_read formats decls) (format_of row) f said
      (λ g is more.
      let found = cond_some (reads formats (length (players decls)) g) g f more in
      subst (λ h. (row ≡ first_row h) × (reads formats (length (players decls)) h ≡ true)) found.1 (format-spelled row g is, found.0))

  first_head : IsHead (λ (w : Whole). first_row w.0) (FitWhole formats decls) (first_of formats decls) (λ f w. w.0 ≡ f)
  first_head = record {
    again = λ w fits. (
      w.0,
      ap (option_and_then (where_read formats decls)) (format-again w.0) ∙ cond-true (reads formats (length (players decls)) w.0) (Some w.0) None fits.0,
      refl,
    );
    spelled = λ row f w said is. (first-spelled row f said).0 ∙ ap first_row (sym is);
  }

module _ (decls : List Decl) (are : AreNames decls) where
  -- a byte that no word has isn't in the name of a player
  pub name-lacks : (c : ℕ) → is_plain c ≡ false → (player : ℕ) → Lacks c (player_name decls player)
  name-lacks c fails player = by_object (slice_get (players decls) player) where
    by_decl : (object : ℕ) (o : Option Decl) → slice_get decls object ≡ o → Lacks c (option_map_or name_of o [])
    by_decl object None there = tt
    by_decl object (Some d) there = lacks_plain c fails (name_of d) (plain-name (name_of d) (are.formed object d there))

    by_object : (o : Option ℕ) → Lacks c (object_name decls o)
    by_object None = tt
    by_object (Some object) = by_decl object (slice_get decls object) refl

module _ (f : Format) (decls : List Decl) (are : AreNames decls) where
  -- The sections.

  lacks-named : (object : ℕ) (d : Decl) → slice_get decls object ≡ Some d → Lacks space (name_of d)
  lacks-named object d there = lacks_plain space refl (name_of d) (plain-name (name_of d) (are.formed object d there))

  plain_heads : {X : Type 0} (Fits : Option X → X → Type 0) →
      AllByRecursion (λ d. IsHead (λ (xs : List X). plain_row f (name_of d) (length xs)) (FitsKept has_row (FitRows (CanTell f) Fits)) (plain_head_of f (name_of d)) AreCounted) decls
  plain_heads {X} Fits = all_at
      (λ d. IsHead (λ (xs : List X). plain_row f (name_of d) (length xs)) (FitsKept has_row (FitRows (CanTell f) Fits)) (plain_head_of f (name_of d)) AreCounted) decls
      (λ object d there. plain_head f (name_of d) (lacks-named object d there) Fits)

  two_heads : {E K : Type 0} (First : Option E → E → Type 0) (Second : Option K → K → Type 0) →
      AllByRecursion (λ d. IsHead (λ (both : List E × List K). head_row f (name_of d) (length both.0) (length both.1)) (FitsKept has_rows (FitTwo (CanTell f) First Second))
      (head_of f (name_of d)) AreTwoCounted) decls
  two_heads {E} {K} First Second = all_at
      (λ d. IsHead (λ (both : List E × List K). head_row f (name_of d) (length both.0) (length both.1)) (FitsKept has_rows (FitTwo (CanTell f) First Second))
      (head_of f (name_of d)) AreTwoCounted) decls
      (λ object d there. two_head f (name_of d) (lacks-named object d there) First Second)

  singles : IsBlock (singles_lines f decls) (FitSingles f decls) (read_singles f decls)
      (IsLater (head_of f) IsPlayers (work_name ∷ clock_name ∷ table_name ∷ sem_names decls)) (IsLater (head_of f) IsPlayers (sem_names decls))
  singles =
      let apart = sections_apart decls are in
      both (section_before (heads f) (CanTell f) (can_none f) (head_row f) {head_in = head_of f} (λ name line counts known. (counts, known)) (head-can f)
      (work_rows decls are) (item_look_rows decls are) (λ look fits last. work_apart decls are look) (over_work decls are f) (over_item_look decls are f)
      (has_player decls) work_name (clock_name ∷ table_name ∷ sem_names decls)
      (two_head f work_name (lacks_is space work_name refl) (λ last. IsWork decls) (FitsItemLook decls)) apart.0)
      (both (plain_section_before (heads f) (CanTell f) (can_none f) (plain_row f) {head_in = plain_head_of f} (plain-narrower f) (plain-can f)
      (clock_rows decls are) (over_clock decls are f) (has_player decls) clock_name (table_name ∷ sem_names decls)
      (plain_head f clock_name (lacks_is space clock_name refl) (λ last. IsClock decls)) apart.1.0)
      (plain_section_before (heads f) (CanTell f) (can_none f) (plain_row f) {head_in = plain_head_of f} (plain-narrower f) (plain-can f)
      (table_rows decls are) (over_table decls are f) (has_player decls) table_name (sem_names decls)
      (plain_head f table_name (lacks_is space table_name refl) (λ last. IsTable decls)) apart.1.1.0))

  sems_apart : AreApart (sem_names decls)
  sems_apart = (sections_apart decls are).1.1.1

  msgqs_apart : AreApart (msgq_names decls)
  msgqs_apart = later_apart is_sem name_of (msgq_names decls) decls sems_apart

  signals_apart : AreApart (signal_names decls)
  signals_apart = later_apart is_msgq name_of (signal_names decls) decls msgqs_apart

  chans_apart : AreApart (chan_names decls)
  chans_apart = later_apart is_signal name_of (chan_names decls) decls signals_apart

  observers_apart : AreApart (observer_names decls)
  observers_apart = later_apart is_chan name_of (observer_names decls) decls chans_apart

  families : IsBlock (families_lines f decls) (FitFamilies f decls) (read_families f decls) (IsLater (head_of f) IsPlayers (sem_names decls)) IsPlayers
  families =
      both (plain_family (heads f) (CanTell f) (can_none f) (plain_row f) {head_in = plain_head_of f} (plain-narrower f) (plain-can f) is_sem name_of
      (λ d. sem_rows decls are) (λ d. over_sem decls are f) (has_player decls) (msgq_names decls) decls (plain_heads (λ last. IsSem decls)) sems_apart)
      (both (plain_family (heads f) (CanTell f) (can_none f) (plain_row f) {head_in = plain_head_of f} (plain-narrower f) (plain-can f) is_msgq name_of
      (λ d. msgq_rows decls are) (λ d. over_msgq decls are f) (has_player decls) (signal_names decls) decls (plain_heads (λ last. IsMsgq decls)) msgqs_apart)
      (both (section_family (heads f) (CanTell f) (can_none f) (head_row f) {head_in = head_of f} (λ name line counts known. (counts, known)) (head-can f) is_signal name_of
      (λ d. signal_rows decls are) (λ d. signal_look_rows decls are) (λ d look fits last. signal_apart decls are look)
      (λ d. over_signal decls are f) (λ d. over_signal_look decls are f) (has_player decls) (chan_names decls) decls
      (two_heads (λ last. IsSignal decls) (FitsSignalLook decls)) signals_apart)
      (both (plain_family (heads f) (CanTell f) (can_none f) (plain_row f) {head_in = plain_head_of f} (plain-narrower f) (plain-can f) is_chan name_of
      (λ d. chan_rows decls are) (λ d. over_chan decls are f) (has_player decls) (observer_names decls) decls (plain_heads (λ last. IsChan decls)) chans_apart)
      (plain_family (heads f) (CanTell f) (can_none f) (plain_row f) {head_in = plain_head_of f} (plain-narrower f) (plain-can f) is_observer name_of
      (λ d. obs_rows decls are) (λ d. over_obs decls are f) (has_player decls) [] decls (plain_heads (λ last. IsObs decls)) observers_apart))))

  all_players : IsBlock (players_lines f decls) (FitPlayers f decls) (read_players f decls) IsPlayers (λ line. ⊥)
  all_players =
      each_alike IsPlayerRow (λ line. ⊥)
      (λ player.
      let name = player_name decls player in
      titled (answer_rows decls are) (over_answer decls are) (player_row f name) (CanTell f) (player_head f name (name-lacks decls are space refl player) (λ last. IsAnswered decls))
      (player-can f name) IsPlayerRow (player-row f name))
      (player_numbers decls)

  sections : IsBlock (sections_lines f decls) (FitSections f decls) (read_sections f decls)
      (IsLater (head_of f) IsPlayers (work_name ∷ clock_name ∷ table_name ∷ sem_names decls)) (λ line. ⊥)
  sections = both singles (both families all_players)

  -- the ending and the sections
  rest : IsBlock (rest_lines f decls) (FitRest f decls) (read_rest f decls) (λ line. Unit {0}) (λ line. ⊥)
  rest =
      both (one_line ending_exact (λ line. Unit {0}) (IsLater (head_of f) IsPlayers (work_name ∷ clock_name ∷ table_name ∷ sem_names decls)) (λ e fits. tt)) sections

module _ (formats : Formats) (decls : List Decl) (are : AreNames decls) where
  -- all that stands in the text of a trace
  pub whole : IsBlock (whole_lines decls) (FitWhole formats decls) (read_whole formats decls) (λ line. Unit {0}) (λ line. ⊥)
  whole = told (first_head formats decls) behind (λ line. Unit {0}) (λ w fits. tt) where
    back : (f : Format) (w : Whole) → FitWhole formats decls w × (w.0 ≡ f) →
        (r : Rest) × (FitRest f decls r × ◌≡◌ {A = Whole} (f, r) w) × (rest_lines f decls r ≡ rest_lines w.0 decls w.1)
    back f w fits = (w.1, (subst (λ g. FitRest g decls w.1) fits.1 fits.0.1, pair (sym fits.1) refl), ap (λ g. rest_lines g decls w.1) (sym fits.1))

    behind : (row : List ℕ) (f : Format) → first_of formats decls row ≡ Some f →
        IsBlock (λ w. rest_lines w.0 decls w.1) (λ w. FitWhole formats decls w × (w.0 ≡ f)) (read_behind decls f) (λ line. Unit {0}) (λ line. ⊥)
    behind row f known =
        made (rest f decls are) (λ r. (f, r)) (back f) (λ r fits. ((((first-spelled formats decls row f known).1, fits), refl), refl))
