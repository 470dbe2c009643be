-- In a scenario's text followed by a trace's, each line has the number that is told of what stands there.
use Rattle.std.proofs.Common.{◌≡◌, ℕ, zero, suc, ◌+◌, ◌-◌, ◌<◌, Bool, true, false, cond, eqb, ltb, Some, None, List, [], ◌∷◌, ◌++◌, append_assoc, length, length-append, map, take, slice_get, arith, refl, sym, ap, inl, inr, ◌∙◌}
use Rattle.std.specs.Prelude.{option_map}
use Rattle.std.specs.List.{AllByRecursion, flat_map, range_with_len, sum_by}
use Rattle.std.proofs.lemmas.Bool.{cases_lt, cond-true, cond-false, lt-ltb, le-ltb, ne_eqb}
use Rattle.std.proofs.lemmas.List.{length-map, map-append}
use Rattle.std.proofs.lemmas.List.Concat.{flat_map-append}
use Rattle.std.proofs.lemmas.List.Sums.{sum_by-cons}
use Rattle.std.proofs.lemmas.Option.{none-some, same_Some, slice_get_within, slice_get-map, option_and_then_some}
use Rattle.zk_base.specs.declared.ids.Entry.{Entry}
use Rattle.zk_blocks.specs.Blocks.{FitsGiven, given_lines}
use Rattle.zk_blocks.specs.Cut.{cut_of, fed, fed_lines, put_byte, put_feed}
use Rattle.zk_blocks.specs.Each.{each_lines, EachFits}
use Rattle.zk_blocks.specs.Families.{plain_family_lines, section_family_lines}
use Rattle.zk_blocks.specs.Rows.{AllFit}
use Rattle.zk_blocks.specs.Sections.{plain_section_lines, section_lines}
use Rattle.zk_blocks.proofs.Cut.{cut_again}
use Rattle.zk_line.specs.Objects.{AreNames, name_of, is_sem, is_msgq, is_signal, is_chan, is_observer}
use Rattle.zk_line.specs.declared.types.Decl.{Decl}
use Rattle.zk_line.proofs.Options.{one_part}
use Rattle.zk_scenario.specs.Content.{Content}
use Rattle.zk_scenario.specs.Players.{players}
use Rattle.zk_scenario.specs.Spelling.{lines_of, text_of}
use Rattle.zk_words.specs.Bytes.{line_feed}
use Rattle.zk_worker.specs.declared.log.Log.{Log}
use Rattle.zk_model_wait.specs.declared.signal.SignalOp.{SignalOp}
use Rattle.zk_model_wait.specs.declared.signal.SignalReply.{SignalReply}
use Rattle.zk_model_work.specs.declared.ops.WorkOp.{WorkOp}
use Rattle.zk_model_work.specs.declared.ops.WorkReply.{WorkReply}
use Rattle.zk_trace.specs.declared.format.Format.{Format}
use Rattle.zk_trace.specs.declared.looks.ItemLook.{ItemLook}
use Rattle.zk_trace.specs.declared.looks.SignalLook.{SignalLook}
use Rattle.zk_trace.specs.declared.stood.Stood.{Stood}
use Rattle.zk_trace.specs.declared.trace.Trace.{Trace}
use Rattle.zk_trace.specs.AnswerRead.{answered_row}
use Rattle.zk_trace.specs.EntryKinds.{work_row, clock_row, table_row, sem_row, IsSem, msgq_row, IsMsgq, signal_row, IsSignal, chan_row, IsChan, obs_row, IsObs}
use Rattle.zk_trace.specs.Feeds.{lines_in}
use Rattle.zk_trace.specs.Form.{IsLog, IsInForm}
use Rattle.zk_trace.specs.Formats.{CanTellAll}
use Rattle.zk_trace.specs.LookRead.{item_look_row, signal_look_row, FitsSignalLook}
use Rattle.zk_trace.specs.Names.{player_name}
use Rattle.zk_trace.specs.Stood.{stood}
use Rattle.zk_trace.specs.Text.{work_name, clock_name, table_name, head_row, first_row, player_row, trace_text}
use Rattle.zk_trace.specs.WholeRead.{plain_row, pairs_of, player_lines, trace_lines}
use Rattle.zk_trace.specs.Words.{ending_word}
use Rattle.zk_trace.proofs.TraceText.{text-lines}
use Rattle.zk_trace.proofs.TraceUnfed.{trace-unfed}
use Rattle.zk_failures.specs.declared.site.Site.{Site}
use Rattle.zk_failures.specs.declared.site.Site.TheVariants as sites
use Rattle.zk_failures.specs.LineOf.{signal_texts, texts_of, IsItsLine}
use Rattle.zk_failures.specs.Lines.{both_lengths, section_lengths, lines_of_section, row_line, player_line}

-- What is in one of two lists.

get-left : {A : Type 0} (xs ys : List A) (k : ℕ) → k < length xs → slice_get (xs ++ ys) k ≡ slice_get xs k
get-left [] ys k less = absurd (omega (arith, less))
get-left (x ∷ xs) ys zero less = refl
get-left (x ∷ xs) ys (suc k) less = get-left xs ys k (omega (arith, less))

get-right : {A : Type 0} (xs ys : List A) (k : ℕ) → slice_get (xs ++ ys) (length xs + k) ≡ slice_get ys k
get-right [] ys k = ap (slice_get ys) (omega arith)
get-right (x ∷ xs) ys k =
    let next : suc (length xs) + k ≡ suc (length xs + k) = omega arith in
    ap (slice_get (x ∷ xs ++ ys)) next ∙ get-right xs ys k

-- The lines of a text behind another one that ends with a feed.

abbrev HasLine : List (List ℕ) → Type 0
HasLine [] = ⊥
HasLine (line ∷ lines) = Unit {0}

one-fed : (x rest : List ℕ) → HasLine (lines_in (x ++ line_feed ∷ [])) × (lines_in ((x ++ line_feed ∷ []) ++ rest) ≡ lines_in (x ++ line_feed ∷ []) ++ lines_in rest)
one-fed [] rest = (tt, refl)
one-fed (b ∷ x) rest = by (eqb b line_feed) (cut_of line_feed (x ++ line_feed ∷ [])) (cut_of line_feed ((x ++ line_feed ∷ []) ++ rest)) (one-fed x rest) where
  by : (is : Bool) (cut all : List (List ℕ) × List ℕ) → HasLine cut.0 × (all.0 ≡ cut.0 ++ lines_in rest) →
      HasLine (cond is (put_feed cut) (put_byte b cut)).0 × ((cond is (put_feed all) (put_byte b all)).0 ≡ (cond is (put_feed cut) (put_byte b cut)).0 ++ lines_in rest)
  by true cut all there = (tt, ap (λ (ls : List (List ℕ)). [] ∷ ls) there.1)
  by false ([], piece) all there = absurd there.0
  by false ((line ∷ lines), piece) ([], other) there = absurd (let long = ap length there.1 in omega (arith, long))
  by false ((line ∷ lines), piece) ((l ∷ ls), other) there = (tt, (let same : l ∷ ls ≡ line ∷ (lines ++ lines_in rest) = there.1 in cc))

lines-behind : (front : List (List ℕ)) (rest : List ℕ) → lines_in (fed_lines line_feed front ++ rest) ≡ lines_in (fed_lines line_feed front) ++ lines_in rest
lines-behind [] rest = refl
lines-behind (x ∷ front) rest =
    let all = fed_lines line_feed front in
    ap lines_in (append_assoc (fed line_feed x) all rest) ∙ (one-fed x (all ++ rest)).1
    ∙ ap (λ (ls : List (List ℕ)). lines_in (fed line_feed x) ++ ls) (lines-behind front rest)
    ∙ sym (append_assoc (lines_in (fed line_feed x)) (lines_in all) (lines_in rest))
    ∙ ap (λ (ls : List (List ℕ)). ls ++ lines_in rest) (sym ((one-fed x all).1))

-- Sections: of each its head and its rows. One without rows has no line.

abbrev Block : Type 0
Block = List ℕ × List (List ℕ)

abbrev block_lines : Block → List (List ℕ)
block_lines (head, []) = []
block_lines (head, (row ∷ rows)) = head ∷ row ∷ rows

abbrev rows_in : Block → List (List ℕ)
rows_in block = block.1

abbrev rows_of : Block → ℕ
rows_of block = length block.1

block-length : (block : Block) → length (block_lines block) ≡ lines_of_section (rows_of block)
block-length (head, []) = refl
block-length (head, (row ∷ rows)) =
    let some : eqb (suc (length rows)) 0 ≡ false = ne_eqb (suc (length rows)) 0 (λ same. omega (arith, same)) in
    sym (cond-false (eqb (suc (length rows)) 0) 0 (1 + suc (length rows)) some ∙ omega arith)

all-length : (blocks : List Block) → length (flat_map block_lines blocks) ≡ sum_by lines_of_section (map rows_of blocks)
all-length [] = refl
all-length (b ∷ blocks) =
    omega (arith, length-append (block_lines b) (flat_map block_lines blocks), block-length b, all-length blocks, sum_by-cons lines_of_section (rows_of b) (map rows_of blocks))

behind-head : (head : List ℕ) (rows : List (List ℕ)) (k : ℕ) (text : List ℕ) → slice_get rows k ≡ Some text → slice_get (block_lines (head, rows)) (1 + k) ≡ Some text
behind-head head [] k text there = absurd (none-some text there)
behind-head head (row ∷ rows) k text there = let next : 1 + k ≡ suc k = omega arith in ap (slice_get (head ∷ row ∷ rows)) next ∙ there

-- a row is as many lines farther on as there are heads before it
row-there : (blocks : List Block) (row : ℕ) (text : List ℕ) → slice_get (flat_map rows_in blocks) row ≡ Some text →
    slice_get (flat_map block_lines blocks) (row_line (map rows_of blocks) row) ≡ Some text
row-there [] row text there = absurd (none-some text there)
row-there (b ∷ blocks) row text there = elim (cases_lt row (length b.1)) [
  | inl less ↦
      let here = sym (get-left b.1 (flat_map rows_in blocks) row less) ∙ there in
      let at = behind-head b.0 b.1 row text here in
      let within = slice_get_within (block_lines b) (1 + row) text at in
      ap (slice_get (block_lines b ++ flat_map block_lines blocks))
      (cond-true (ltb row (rows_of b)) (1 + row) (lines_of_section (rows_of b) + row_line (map rows_of blocks) (row - rows_of b)) (lt-ltb row (rows_of b) less))
      ∙ get-left (block_lines b) (flat_map block_lines blocks) (1 + row) within ∙ at
  | inr more ↦
      let split : row ≡ length b.1 + (row - length b.1) = omega (arith, more) in
      let later = sym (ap (slice_get (b.1 ++ flat_map rows_in blocks)) split ∙ get-right b.1 (flat_map rows_in blocks) (row - length b.1)) ∙ there in
      ap (slice_get (block_lines b ++ flat_map block_lines blocks))
      (cond-false (ltb row (rows_of b)) (1 + row) (lines_of_section (rows_of b) + row_line (map rows_of blocks) (row - rows_of b)) (le-ltb row (rows_of b) more)
      ∙ ap (λ n. n + row_line (map rows_of blocks) (row - rows_of b)) (sym (block-length b)))
      ∙ get-right (block_lines b) (flat_map block_lines blocks) (row_line (map rows_of blocks) (row - rows_of b))
      ∙ row-there blocks (row - rows_of b) text later
]

-- The sections of the objects of a kind.

module _ {X : Type 0} (f : Format) (row : X → List ℕ) where
  abbrev family_blocks : List Decl → List (List X) → List Block
  family_blocks [] hs = []
  family_blocks (d ∷ ds) [] = []
  family_blocks (d ∷ ds) (h ∷ hs) = (plain_row f (name_of d) (length h), map row h) ∷ family_blocks ds hs

  plain-lines : (head : ℕ → List ℕ) (h : List X) → plain_section_lines head row h ≡ block_lines (head (length h), map row h)
  plain-lines head [] = refl
  plain-lines head (x ∷ xs) = refl

  module _ (of_kind : Decl → Bool) (Fits : List X → Type 0) where
    given-lines : (is : Bool) (head : ℕ → List ℕ) (h : List X) → FitsGiven is [] Fits h → given_lines is (plain_section_lines head row) h ≡ block_lines (head (length h), map row h)
    given-lines true head h fits = plain-lines head h
    given-lines false head h fits = sym (ap (λ (x : List X). block_lines (head (length h), map row x)) fits)

    family-lines : (ds : List Decl) (hs : List (List X)) → EachFits (λ d. FitsGiven (of_kind d) [] Fits) ds hs →
        plain_family_lines of_kind name_of (plain_row f) (λ d. row) ds hs ≡ flat_map block_lines (family_blocks ds hs)
    family-lines [] [] fits = refl
    family-lines [] (h ∷ hs) fits = absurd fits
    family-lines (d ∷ ds) [] fits = absurd fits
    family-lines (d ∷ ds) (h ∷ hs) fits =
        ap (λ (ls : List (List ℕ)). ls ++ plain_family_lines of_kind name_of (plain_row f) (λ d. row) ds hs) (given-lines (of_kind d) (plain_row f (name_of d)) h fits.0)
        ∙ ap (λ (ls : List (List ℕ)). block_lines (plain_row f (name_of d) (length h), map row h) ++ ls) (family-lines ds hs fits.1)

    family-rows : (ds : List Decl) (hs : List (List X)) → EachFits (λ d. FitsGiven (of_kind d) [] Fits) ds hs → flat_map rows_in (family_blocks ds hs) ≡ flat_map (map row) hs
    family-rows [] [] fits = refl
    family-rows [] (h ∷ hs) fits = absurd fits
    family-rows (d ∷ ds) [] fits = absurd fits
    family-rows (d ∷ ds) (h ∷ hs) fits = ap (λ (ls : List (List ℕ)). map row h ++ ls) (family-rows ds hs fits.1)

    family-lengths : (ds : List Decl) (hs : List (List X)) → EachFits (λ d. FitsGiven (of_kind d) [] Fits) ds hs → map rows_of (family_blocks ds hs) ≡ map length hs
    family-lengths [] [] fits = refl
    family-lengths [] (h ∷ hs) fits = absurd fits
    family-lengths (d ∷ ds) [] fits = absurd fits
    family-lengths (d ∷ ds) (h ∷ hs) fits =
        ap (λ n. n ∷ map rows_of (family_blocks ds hs)) (length-map h row) ∙ ap (λ (ns : List ℕ). length h ∷ ns) (family-lengths ds hs fits.1)

-- Those of the signals.

module _ (f : Format) (decls : List Decl) where
  abbrev write : Entry SignalOp SignalReply → List ℕ
  write = signal_row decls

  abbrev look : SignalLook → List ℕ
  look = signal_look_row decls

  abbrev signal_rows : List (Entry SignalOp SignalReply) → List SignalLook → List (List ℕ)
  signal_rows h ls = map write h ++ map look ls

  abbrev signal_blocks : List Decl → List (List (Entry SignalOp SignalReply)) → List (List SignalLook) → List Block
  signal_blocks [] hs looks = []
  signal_blocks (d ∷ ds) [] looks = []
  signal_blocks (d ∷ ds) (h ∷ hs) [] = []
  signal_blocks (d ∷ ds) (h ∷ hs) (ls ∷ looks) = (head_row f (name_of d) (length h) (length ls), signal_rows h ls) ∷ signal_blocks ds hs looks

  abbrev Writes : List (Entry SignalOp SignalReply) → Type 0
  Writes = AllByRecursion (IsSignal decls)

  abbrev Looks : List SignalLook → Type 0
  Looks = AllFit (FitsSignalLook decls) None

  both-lines : (head : ℕ → ℕ → List ℕ) (h : List (Entry SignalOp SignalReply)) (ls : List SignalLook) → section_lines head write look (h, ls) ≡ block_lines (head (length h) (length ls), signal_rows h ls)
  both-lines head [] [] = refl
  both-lines head [] (l ∷ ls) = refl
  both-lines head (e ∷ es) ls = refl

  given-both : (is : Bool) (head : ℕ → ℕ → List ℕ) (h : List (Entry SignalOp SignalReply)) (ls : List SignalLook) → FitsGiven is [] Writes h → FitsGiven is [] Looks ls →
      given_lines is (section_lines head write look) (h, ls) ≡ block_lines (head (length h) (length ls), signal_rows h ls)
  given-both true head h ls first second = both-lines head h ls
  given-both false head h ls first second =
      sym (ap (λ (x : List (Entry SignalOp SignalReply)). block_lines (head (length h) (length ls), signal_rows x ls)) first
      ∙ ap (λ (x : List SignalLook). block_lines (head (length h) (length ls), signal_rows [] x)) second)

  signal-lines : (ds : List Decl) (hs : List (List (Entry SignalOp SignalReply))) (looks : List (List SignalLook)) →
      EachFits (λ d. FitsGiven (is_signal d) [] Writes) ds hs → EachFits (λ d. FitsGiven (is_signal d) [] Looks) ds looks →
      section_family_lines is_signal name_of (head_row f) (λ d. write) (λ d. look) ds (pairs_of hs looks) ≡ flat_map block_lines (signal_blocks ds hs looks)
  signal-lines [] [] looks first second = refl
  signal-lines [] (h ∷ hs) looks first second = absurd first
  signal-lines (d ∷ ds) [] looks first second = absurd first
  signal-lines (d ∷ ds) (h ∷ hs) [] first second = absurd second
  signal-lines (d ∷ ds) (h ∷ hs) (ls ∷ looks) first second =
      ap (λ (x : List (List ℕ)). x ++ section_family_lines is_signal name_of (head_row f) (λ d. write) (λ d. look) ds (pairs_of hs looks))
      (given-both (is_signal d) (head_row f (name_of d)) h ls first.0 second.0)
      ∙ ap (λ (x : List (List ℕ)). block_lines (head_row f (name_of d) (length h) (length ls), signal_rows h ls) ++ x) (signal-lines ds hs looks first.1 second.1)

  signal-rows : (ds : List Decl) (hs : List (List (Entry SignalOp SignalReply))) (looks : List (List SignalLook)) →
      EachFits (λ d. FitsGiven (is_signal d) [] Writes) ds hs → EachFits (λ d. FitsGiven (is_signal d) [] Looks) ds looks →
      flat_map rows_in (signal_blocks ds hs looks) ≡ signal_texts decls hs looks
  signal-rows [] [] looks first second = refl
  signal-rows [] (h ∷ hs) looks first second = absurd first
  signal-rows (d ∷ ds) [] looks first second = absurd first
  signal-rows (d ∷ ds) (h ∷ hs) [] first second = absurd second
  signal-rows (d ∷ ds) (h ∷ hs) (ls ∷ looks) first second = ap (λ (x : List (List ℕ)). signal_rows h ls ++ x) (signal-rows ds hs looks first.1 second.1)

  signal-lengths : (ds : List Decl) (hs : List (List (Entry SignalOp SignalReply))) (looks : List (List SignalLook)) →
      EachFits (λ d. FitsGiven (is_signal d) [] Writes) ds hs → EachFits (λ d. FitsGiven (is_signal d) [] Looks) ds looks →
      map rows_of (signal_blocks ds hs looks) ≡ both_lengths hs looks
  signal-lengths [] [] looks first second = refl
  signal-lengths [] (h ∷ hs) looks first second = absurd first
  signal-lengths (d ∷ ds) [] looks first second = absurd first
  signal-lengths (d ∷ ds) (h ∷ hs) [] first second = absurd second
  signal-lengths (d ∷ ds) (h ∷ hs) (ls ∷ looks) first second =
      ap (λ n. n ∷ map rows_of (signal_blocks ds hs looks)) (omega (arith, length-append (map write h) (map look ls), length-map h write, length-map ls look))
      ∙ ap (λ (ns : List ℕ). (length h + length ls) ∷ ns) (signal-lengths ds hs looks first.1 second.1)

-- All sections.

module _ (f : Format) (s : Content) (t : Trace) (form : IsInForm s t) where
  abbrev decls : List Decl
  decls = s.decls

  abbrev work_block : Block
  work_block = (head_row f work_name (length t.work) (length t.looks.items), map (work_row decls) t.work ++ map (item_look_row decls) t.looks.items)

  abbrev clock_block : Block
  clock_block = (plain_row f clock_name (length t.clock), map (clock_row decls) t.clock)

  abbrev table_block : Block
  table_block = (plain_row f table_name (length t.table), map (table_row decls) t.table)

  abbrev sems : List Block
  sems = family_blocks f (sem_row decls) decls t.sems

  abbrev msgqs : List Block
  msgqs = family_blocks f (msgq_row decls) decls t.msgqs

  abbrev signals : List Block
  signals = signal_blocks f decls decls t.signals t.looks.signals

  abbrev chans : List Block
  chans = family_blocks f (chan_row decls) decls t.chans

  abbrev observers : List Block
  observers = family_blocks f (obs_row decls) decls t.observers

  abbrev blocks : List Block
  blocks = work_block ∷ clock_block ∷ table_block ∷ (sems ++ msgqs ++ signals ++ chans ++ observers)

  abbrev player_part : List (List ℕ)
  player_part = each_lines (player_lines f decls) (range_with_len 0 (length (players decls))) (map (λ log. (log.state, log.answers)) t.logs)

  work-lines : section_lines (head_row f work_name) (work_row decls) (item_look_row decls) (t.work, t.looks.items) ≡ block_lines work_block
  work-lines = by t.work t.looks.items where
    by : (es : List (Entry WorkOp WorkReply)) (ls : List ItemLook) →
        section_lines (head_row f work_name) (work_row decls) (item_look_row decls) (es, ls) ≡ block_lines (head_row f work_name (length es) (length ls), map (work_row decls) es ++ map (item_look_row decls) ls)
    by [] [] = refl
    by [] (l ∷ ls) = refl
    by (e ∷ es) ls = refl

  joined : {A : Type 0} (g : Block → List A) (w c tb : Block) (x y z u v : List Block) →
      flat_map g (w ∷ c ∷ tb ∷ (x ++ y ++ z ++ u ++ v)) ≡ g w ++ (g c ++ (g tb ++ (flat_map g x ++ (flat_map g y ++ (flat_map g z ++ (flat_map g u ++ flat_map g v))))))
  joined g w c tb x y z u v = simp (flat_map-append, append_assoc)

  regroup : (w c tb x y z u v p : List (List ℕ)) →
      (w ++ (c ++ tb)) ++ ((x ++ (y ++ (z ++ (u ++ v)))) ++ p) ≡ (w ++ (c ++ (tb ++ (x ++ (y ++ (z ++ (u ++ v))))))) ++ p
  regroup w c tb x y z u v p = simp append_assoc

  lines-are : trace_lines decls (f, t) ≡ first_row f ∷ ending_word t.ending ∷ (flat_map block_lines blocks ++ player_part)
  lines-are =
      let sem_is = family-lines f (sem_row decls) is_sem (AllByRecursion (IsSem decls)) decls t.sems form.sems in
      let msgq_is = family-lines f (msgq_row decls) is_msgq (AllByRecursion (IsMsgq decls)) decls t.msgqs form.msgqs in
      let signal_is = signal-lines f decls decls t.signals t.looks.signals form.signals form.signal_looks in
      let chan_is = family-lines f (chan_row decls) is_chan (AllByRecursion (IsChan decls)) decls t.chans form.chans in
      let obs_is = family-lines f (obs_row decls) is_observer (AllByRecursion (IsObs decls)) decls t.observers form.observers in
      ap (λ (ls : List (List ℕ)). first_row f ∷ ending_word t.ending ∷ ls)
      (same work-lines (plain-lines f (clock_row decls) (plain_row f clock_name) t.clock) (plain-lines f (table_row decls) (plain_row f table_name) t.table) sem_is msgq_is signal_is chan_is obs_is
      ∙ regroup (block_lines work_block) (block_lines clock_block) (block_lines table_block) (flat_map block_lines sems) (flat_map block_lines msgqs) (flat_map block_lines signals)
      (flat_map block_lines chans) (flat_map block_lines observers) player_part
      ∙ ap (λ (ls : List (List ℕ)). ls ++ player_part) (sym (joined block_lines work_block clock_block table_block sems msgqs signals chans observers))) where
        same : {w c tb x y z u v a b d e k g h i : List (List ℕ)} → w ≡ a → c ≡ b → tb ≡ d → x ≡ e → y ≡ k → z ≡ g → u ≡ h → v ≡ i →
            (w ++ (c ++ tb)) ++ ((x ++ (y ++ (z ++ (u ++ v)))) ++ player_part) ≡ (a ++ (b ++ d)) ++ ((e ++ (k ++ (g ++ (h ++ i)))) ++ player_part)
        same hw hc ht hx hy hz hu hv = cc

  rows-are : flat_map rows_in blocks ≡ texts_of decls t
  rows-are =
      joined rows_in work_block clock_block table_block sems msgqs signals chans observers
      ∙ same (family-rows f (sem_row decls) is_sem (AllByRecursion (IsSem decls)) decls t.sems form.sems)
      (family-rows f (msgq_row decls) is_msgq (AllByRecursion (IsMsgq decls)) decls t.msgqs form.msgqs)
      (signal-rows f decls decls t.signals t.looks.signals form.signals form.signal_looks)
      (family-rows f (chan_row decls) is_chan (AllByRecursion (IsChan decls)) decls t.chans form.chans)
      (family-rows f (obs_row decls) is_observer (AllByRecursion (IsObs decls)) decls t.observers form.observers)
      ∙ flat (map (work_row decls) t.work) (map (item_look_row decls) t.looks.items) (map (clock_row decls) t.clock) (map (table_row decls) t.table) (flat_map (map (sem_row decls)) t.sems)
      (flat_map (map (msgq_row decls)) t.msgqs) (signal_texts decls t.signals t.looks.signals) (flat_map (map (chan_row decls)) t.chans) (flat_map (map (obs_row decls)) t.observers) where
        same : {x y z u v e k g h i : List (List ℕ)} → x ≡ e → y ≡ k → z ≡ g → u ≡ h → v ≡ i →
            rows_in work_block ++ (rows_in clock_block ++ (rows_in table_block ++ (x ++ (y ++ (z ++ (u ++ v))))))
            ≡ rows_in work_block ++ (rows_in clock_block ++ (rows_in table_block ++ (e ++ (k ++ (g ++ (h ++ i))))))
        same hx hy hz hu hv = cc

        flat : (w l c tb x y z u v : List (List ℕ)) → (w ++ l) ++ (c ++ (tb ++ (x ++ (y ++ (z ++ (u ++ v)))))) ≡ w ++ l ++ c ++ tb ++ x ++ y ++ z ++ u ++ v
        flat w l c tb x y z u v = simp append_assoc

  lengths-are : map rows_of blocks ≡ section_lengths t
  lengths-are =
      let first : rows_of work_block ≡ length t.work + length t.looks.items =
      omega (arith, length-append (map (work_row decls) t.work) (map (item_look_row decls) t.looks.items), length-map t.work (work_row decls), length-map t.looks.items (item_look_row decls)) in
      ap (λ (ns : List ℕ). rows_of work_block ∷ rows_of clock_block ∷ rows_of table_block ∷ ns) (parts sems msgqs signals chans observers)
      ∙ same first (length-map t.clock (clock_row decls)) (length-map t.table (table_row decls))
      (family-lengths f (sem_row decls) is_sem (AllByRecursion (IsSem decls)) decls t.sems form.sems)
      (family-lengths f (msgq_row decls) is_msgq (AllByRecursion (IsMsgq decls)) decls t.msgqs form.msgqs)
      (signal-lengths f decls decls t.signals t.looks.signals form.signals form.signal_looks)
      (family-lengths f (chan_row decls) is_chan (AllByRecursion (IsChan decls)) decls t.chans form.chans)
      (family-lengths f (obs_row decls) is_observer (AllByRecursion (IsObs decls)) decls t.observers form.observers) where
        parts : (x y z u v : List Block) → map rows_of (x ++ y ++ z ++ u ++ v) ≡ map rows_of x ++ map rows_of y ++ map rows_of z ++ map rows_of u ++ map rows_of v
        parts x y z u v = simp map-append

        same : {w c tb a b d : ℕ} {x y z u v e k g h i : List ℕ} → w ≡ a → c ≡ b → tb ≡ d → x ≡ e → y ≡ k → z ≡ g → u ≡ h → v ≡ i →
            w ∷ c ∷ tb ∷ (x ++ y ++ z ++ u ++ v) ≡ a ∷ b ∷ d ∷ (e ++ k ++ g ++ h ++ i)
        same hw hc ht hx hy hz hu hv = cc

-- The sections of the players.

abbrev log_lines : Log → ℕ
log_lines log = 1 + length log.answers

module _ (f : Format) (decls : List Decl) (lines : List Stood) where
  abbrev players_from : ℕ → ℕ → List Log → List (List ℕ)
  players_from from count logs = each_lines (player_lines f decls) (range_with_len from count) (map (λ log. (log.state, log.answers)) logs)

  abbrev one_player : ℕ → Log → List (List ℕ)
  one_player player log = player_row f (player_name decls player) log.state (length log.answers) ∷ map (answered_row decls) log.answers

  -- what stands in the section of a player is as many lines farther on as there are in those before it
  player-there : (count from : ℕ) (logs : List Log) → EachFits (IsLog decls lines) (range_with_len from count) logs → (player : ℕ) (log : Log) (place : ℕ) (text : List ℕ) →
      slice_get logs player ≡ Some log → slice_get (one_player (from + player) log) place ≡ Some text →
      slice_get (players_from from count logs) (sum_by log_lines (take player logs) + place) ≡ Some text
  player-there zero from [] fits player log place text there here = absurd (none-some log there)
  player-there zero from (l ∷ logs) fits player log place text there here = absurd fits
  player-there (suc count) from [] fits player log place text there here = absurd fits
  player-there (suc count) from (l ∷ logs) fits zero log place text there here =
      let begin : 0 + place ≡ place = omega arith in
      let own : from + zero ≡ from = omega arith in
      let at = ap (λ (x : Log). slice_get (one_player from x) place) (same_Some l log there) ∙ ap (λ (n : ℕ). slice_get (one_player n log) place) (sym own) ∙ here in
      let within = slice_get_within (one_player from l) place text at in
      ap (slice_get (one_player from l ++ players_from (from + 1) count logs)) begin ∙ get-left (one_player from l) (players_from (from + 1) count logs) place within ∙ at
  player-there (suc count) from (l ∷ logs) fits (suc player) log place text there here =
      let next : from + suc player ≡ (from + 1) + player = omega arith in
      let long : length (one_player from l) ≡ log_lines l = omega (arith, length-map l.answers (answered_row decls)) in
      let place_is : sum_by log_lines (l ∷ take player logs) + place ≡ length (one_player from l) + (sum_by log_lines (take player logs) + place) =
      omega (arith, long, sum_by-cons log_lines l (take player logs)) in
      ap (slice_get (one_player from l ++ players_from (from + 1) count logs)) place_is
      ∙ get-right (one_player from l) (players_from (from + 1) count logs) (sum_by log_lines (take player logs) + place)
      ∙ player-there count (from + 1) logs fits.1 player log place text there (ap (λ (n : ℕ). slice_get (one_player n log) place) (sym next) ∙ here)

-- The whole.

module _ (f : Format) (s : Content) (are : AreNames s.decls) (t : Trace) (form : IsInForm s t) (told : CanTellAll f t) where
  abbrev sections : List (List ℕ)
  sections = flat_map block_lines (blocks f s t form)

  trace-lines : lines_in (trace_text f s t) ≡ first_row f ∷ ending_word t.ending ∷ (sections ++ player_part f s t form)
  trace-lines =
      ap lines_in (text-lines f s t form) ∙ ap (λ c. c.0) (cut_again line_feed (trace_lines s.decls (f, t)) (trace-unfed f s are t form told)) ∙ lines-are f s t form

  -- where a line stands among those of the sections and the players
  in-trace : (k : ℕ) (text : List ℕ) → slice_get (sections ++ player_part f s t form) k ≡ Some text →
      slice_get (lines_in (text_of s ++ trace_text f s t)) (length (lines_in (text_of s)) + (2 + k)) ≡ Some text
  in-trace k text there =
      let next : 2 + k ≡ suc (suc k) = omega arith in
      ap (λ (ls : List (List ℕ)). slice_get ls (length (lines_in (text_of s)) + (2 + k))) (lines-behind (lines_of s) (trace_text f s t))
      ∙ get-right (lines_in (text_of s)) (lines_in (trace_text f s t)) (2 + k)
      ∙ ap (λ (ls : List (List ℕ)). slice_get ls (2 + k)) trace-lines
      ∙ ap (slice_get (first_row f ∷ ending_word t.ending ∷ (sections ++ player_part f s t form))) next ∙ there

  in-player : (player : ℕ) (log : Log) (place : ℕ) (text : List ℕ) → slice_get t.logs player ≡ Some log → slice_get (one_player f s.decls (stood t) player log) place ≡ Some text →
      slice_get (lines_in (text_of s ++ trace_text f s t)) (length (lines_in (text_of s)) + (player_line t player + place)) ≡ Some text
  in-player player log place text there here =
      let before = sum_by log_lines (take player t.logs) in
      let own : 0 + player ≡ player = omega arith in
      let total : length sections ≡ sum_by lines_of_section (section_lengths t) = all-length (blocks f s t form) ∙ ap (sum_by lines_of_section) (lengths-are f s t form) in
      let is : player_line t player + place ≡ 2 + (length sections + (before + place)) = omega (arith, total) in
      ap (λ (n : ℕ). slice_get (lines_in (text_of s ++ trace_text f s t)) (length (lines_in (text_of s)) + n)) is
      ∙ in-trace (length sections + (before + place)) text
      (get-right sections (player_part f s t form) (before + place)
      ∙ player-there f s.decls (stood t) (length (players s.decls)) 0 t.logs form.logs player log place text there (ap (λ (n : ℕ). slice_get (one_player f s.decls (stood t) n log) place) own ∙ here))

  -- each line has its number
  pub line-of : (site : Site) → IsItsLine f s t site
  line-of sites.Ending text is =
      ap (λ (ls : List (List ℕ)). slice_get ls (length (lines_in (text_of s)) + 1)) (lines-behind (lines_of s) (trace_text f s t))
      ∙ get-right (lines_in (text_of s)) (lines_in (trace_text f s t)) 1
      ∙ ap (λ (ls : List (List ℕ)). slice_get ls 1) trace-lines ∙ is
  line-of (sites.Row place) text is =
      let there = row-there (blocks f s t form) place text (ap (λ (ls : List (List ℕ)). slice_get ls place) (rows-are f s t form) ∙ is) in
      let at : slice_get sections (row_line (section_lengths t) place) ≡ Some text = ap (λ (ns : List ℕ). slice_get sections (row_line ns place)) (sym (lengths-are f s t form)) ∙ there in
      in-trace (row_line (section_lengths t) place) text
      (get-left sections (player_part f s t form) (row_line (section_lengths t) place) (slice_get_within sections (row_line (section_lengths t) place) text at) ∙ at)
  line-of (sites.Player player) text is =
      let log = one_part (λ (log : Log). player_row f (player_name s.decls player) log.state (length log.answers)) (slice_get t.logs player) text is in
      let none : player_line t player ≡ player_line t player + 0 = omega arith in
      ap (λ (n : ℕ). slice_get (lines_in (text_of s ++ trace_text f s t)) (length (lines_in (text_of s)) + n)) none
      ∙ in-player player log.0 0 text log.1 (ap Some log.2)
  line-of (sites.Answer player place) text is =
      option_and_then_some (λ (log : Log). option_map (answered_row s.decls) (slice_get log.answers place)) (slice_get t.logs player) text is
      (λ log there made.
      let next : player_line t player + 1 + place ≡ player_line t player + suc place = omega arith in
      ap (λ (n : ℕ). slice_get (lines_in (text_of s ++ trace_text f s t)) (length (lines_in (text_of s)) + n)) next
      ∙ in-player player log (suc place) text there (slice_get-map (answered_row s.decls) log.answers place ∙ made))
