-- The words of the items, which are their busy flags.
use Rattle.std.proofs.Common.{◌≡◌, ◌≢◌, ℕ, zero, suc, ◌-◌, ◌^◌, ◌<◌, Bool, true, false, cond, ◌||◌, Option, Some, None, is_some, option_map, List, [], ◌∷◌, ◌++◌, length, map, get_or, set, replicate, All, refl, sym, ap, subst, ◌∙◌, ◌⊎◌, inl, inr, eq-eqb, arith}
use Rattle.std.proofs.Math.ListN.{get_or-map}
use Rattle.std.proofs.lemmas.Bool.{cases_eq, eqb-true, ne_eqb}
use Rattle.std.proofs.lemmas.List.{length-map, length-set, length-replicate, get_or-replicate, map-set, set-get_or, get_or_default, get_or-set_same, get_or-set_other}
use Rattle.std.proofs.lemmas.List.Elements.{All-set, All-replicate}
use Rattle.std.specs.Int.RustNames.{bit_and, bit_or}
use Rattle.std.specs.List.{list_any, find}
use Rattle.std.specs.Option.{IfSome, option_map_or, option_or}
use Rattle.zk_model_work.specs.declared.busy.BusyFlags.{BusyFlags}
use Rattle.zk_model_work.specs.Questions.{busy_flags}
use Rattle.zk_queue.specs.declared.ticket.Ticket.{Ticket}
use Rattle.zk_queue.specs.Line.{InLine, is_of, without, number_in, number_among}
use Rattle.zk_model_work.specs.Lists.{first}
use Rattle.zk_queue.specs.Open as opened
use Rattle.zk_queue.specs.Open.{begun, begin, end, if_free, Open, ItemMarks, marks_in, unmarked, nothing_open, marks_of, is_run_of, is_running, is_queued, flags, mark}
use Rattle.zk_queue.specs.Words.{has_flag, numbers, open_of, IsWord, AreKept}
use Rattle.zk_queue.proofs.Bits.{flag-running, flag-queued, queued-on, queued-off, running-on, running-off, marks-in}

-- the word of an item as a number
abbrev pub word_at : List BusyFlags → ℕ → ℕ
word_at words item = get_or (numbers words) item 0

-- a word that is read
pub word-read : (words : List BusyFlags) (item : ℕ) (w : BusyFlags) → item < length words → w ≡ get_or words item w →
    w.0 ≡ word_at words item
word-read words item w within said =
    ap (λ (w : BusyFlags). w.0) said ∙ sym (get_or-map (λ (w : BusyFlags). w.0) words item w)
    ∙ get_or_default (numbers words) item w.0 0 (let long = length-map words (λ (w : BusyFlags). w.0) in omega arith)

-- the marks of an item are those in its word
pub marks-at : (lines : List (List Ticket)) (runs : List (Option Ticket)) (words : List BusyFlags) (item : ℕ) →
    marks_of (open_of lines runs words) item ≡ marks_in (word_at words item)
marks-at lines runs words item = get_or-map marks_in (numbers words) item 0

-- the busy flags by their parts
flags-alike : (o p : Open) (i j : ℕ) → is_running o i ≡ is_running p j → is_queued o i ≡ is_queued p j →
    marks_of o i ≡ marks_of p j → flags o i ≡ flags p j
flags-alike o p i j runs waits marks =
    ap (λ (b : Bool). busy_flags b (marks_of o i).cancelling (is_queued o i) (marks_of o i).delayed (marks_of o i).flushing) runs
    ∙ ap (λ (b : Bool). busy_flags (is_running p j) (marks_of o i).cancelling b (marks_of o i).delayed (marks_of o i).flushing) waits
    ∙ ap (λ (m : ItemMarks). busy_flags (is_running p j) m.cancelling (is_queued p j) m.delayed m.flushing) marks

-- the words, where one of them is another
numbers-set : (words : List BusyFlags) (item : ℕ) (w : BusyFlags) → numbers (set words item w) ≡ set (numbers words) item w.0
numbers-set words item w = map-set (λ (w : BusyFlags). w.0) words item w

-- the marks of all stay, where one word becomes another with the same marks
pub marks-stay : (words : List BusyFlags) (item : ℕ) (w : BusyFlags) → marks_in w.0 ≡ marks_in (word_at words item) →
    map marks_in (numbers (set words item w)) ≡ map marks_in (numbers words)
marks-stay words item w same =
    ap (map marks_in) (numbers-set words item w) ∙ map-set marks_in (numbers words) item w.0
    ∙ ap (set (map marks_in (numbers words)) item) (same ∙ sym (get_or-map marks_in (numbers words) item 0))
    ∙ set-get_or (map marks_in (numbers words)) item unmarked

-- a queue runs the item
abbrev pub runs_item : List (Option Ticket) → ℕ → Bool
runs_item runs item = list_any (is_run_of item) runs

-- the item waits
abbrev pub waits_item : List (List Ticket) → ℕ → Bool
waits_item lines item = is_some (number_among item lines)

-- each word is the busy flags of its item
abbrev pub Flagged : List (List Ticket) → List (Option Ticket) → List BusyFlags → Type 0
Flagged lines runs words = (item : ℕ) → item < length words → IsWord (open_of lines runs words) words item

-- the word of one item changes, and with it what waits and what runs of this item alone
pub flagged-set : (lines after_lines : List (List Ticket)) (runs after_runs : List (Option Ticket)) (words : List BusyFlags)
    (item : ℕ) (w : BusyFlags) (r c q d f : Bool) → Flagged lines runs words → item < length words →
    ((j : ℕ) → j ≢ item → runs_item after_runs j ≡ runs_item runs j) →
    ((j : ℕ) → j ≢ item → waits_item after_lines j ≡ waits_item lines j) →
    w.0 ≡ busy_flags r c q d f → r ≡ runs_item after_runs item → q ≡ waits_item after_lines item →
    Flagged after_lines after_runs (set words item w)
flagged-set lines after_lines runs after_runs words item w r c q d f flagged within runs_same waits_same is runs_it waits_it =
    λ j j_in. by j (let long = length-set words item w in omega arith) (cases_eq j item) where
      at_item : word_at (set words item w) item ≡ w.0
      at_item = ap (λ (ns : List ℕ). get_or ns item 0) (numbers-set words item w)
          ∙ get_or-set_same (numbers words) item w.0 0 (let long = length-map words (λ (w : BusyFlags). w.0) in omega arith)

      marks : marks_of (open_of after_lines after_runs (set words item w)) item ≡ record { cancelling = c; delayed = d; flushing = f }
      marks = marks-at after_lines after_runs (set words item w) item ∙ ap marks_in (at_item ∙ is) ∙ marks-in r c q d f

      here : w.0 ≡ flags (open_of after_lines after_runs (set words item w)) item
      here = is ∙ ap (λ b. busy_flags b c q d f) runs_it ∙ ap (λ b. busy_flags (runs_item after_runs item) c b d f) waits_it
          ∙ ap (λ (m : ItemMarks). busy_flags (runs_item after_runs item) m.cancelling (waits_item after_lines item) m.delayed m.flushing)
          (sym marks)

      there : (j : ℕ) → j ≢ item → word_at (set words item w) j ≡ word_at words j
      there j differ = ap (λ (ns : List ℕ). get_or ns j 0) (numbers-set words item w)
          ∙ get_or-set_other (numbers words) item j w.0 0 differ

      by : (j : ℕ) → j < length words → (j ≡ item) ⊎ (j ≡ item → ⊥) → IsWord (open_of after_lines after_runs (set words item w)) (set words item w) j
      by j j_in (inl same) = subst (IsWord (open_of after_lines after_runs (set words item w)) (set words item w)) (sym same) (at_item ∙ here)
      by j j_in (inr differ) =
          there j differ ∙ flagged j j_in
          ∙ flags-alike (open_of lines runs words) (open_of after_lines after_runs (set words item w)) j j (sym (runs_same j differ)) (sym (waits_same j differ))
          (marks-at lines runs words j ∙ ap marks_in (sym (there j differ)) ∙ sym (marks-at after_lines after_runs (set words item w) j))

-- the words stay, where the same items run and wait
pub flagged-alike : (lines after_lines : List (List Ticket)) (runs after_runs : List (Option Ticket)) (words : List BusyFlags) →
    Flagged lines runs words → ((j : ℕ) → runs_item after_runs j ≡ runs_item runs j) →
    ((j : ℕ) → waits_item after_lines j ≡ waits_item lines j) → Flagged after_lines after_runs words
flagged-alike lines after_lines runs after_runs words flagged runs_same waits_same = λ j j_in.
    flagged j j_in ∙ flags-alike (open_of lines runs words) (open_of after_lines after_runs words) j j
    (sym (runs_same j)) (sym (waits_same j)) refl

module _ (p : Option Ticket → Bool) where
  -- one run is another that passes alike
  any-set_alike : (runs : List (Option Ticket)) (i : ℕ) (run d : Option Ticket) → p run ≡ p (get_or runs i d) →
      list_any p (set runs i run) ≡ list_any p runs
  any-set_alike [] i run d same = refl
  any-set_alike (x ∷ runs) zero run d same = ap (λ b. b || list_any p runs) same
  any-set_alike (x ∷ runs) (suc i) run d same = ap (λ b. p x || b) (any-set_alike runs i run d same)

  or_true : (b : Bool) → (b || true) ≡ true
  or_true true = refl
  or_true false = refl

  -- one run is another that passes
  any-set_here : (runs : List (Option Ticket)) (i : ℕ) (run : Option Ticket) → i < length runs → p run ≡ true →
      list_any p (set runs i run) ≡ true
  any-set_here [] i run within passes = absurd (omega arith)
  any-set_here (x ∷ runs) zero run within passes = ap (λ b. b || list_any p runs) passes
  any-set_here (x ∷ runs) (suc i) run within passes =
      ap (λ b. p x || b) (any-set_here runs i run (omega arith) passes) ∙ or_true (p x)

-- another item's ticket
pub other-ticket : (j : ℕ) (t : Ticket) → j ≢ t.item → is_of j t ≡ false
other-ticket j t differ = ne_eqb t.item j (λ same. differ (sym same))

own-ticket : (t : Ticket) → is_of t.item t ≡ true
own-ticket t = eq-eqb t.item t.item refl

number-push : (j : ℕ) (line : List Ticket) (t : Ticket) → is_of j t ≡ false → number_in j (line ++ t ∷ []) ≡ number_in j line
number-push j [] t differs = ap (λ b. option_map (λ (t : Ticket). t.number) (cond b (Some t) None)) differs
number-push j (u ∷ line) t differs = at (is_of j u) (number-push j line t differs) where
  at : (b : Bool) → number_in j (line ++ t ∷ []) ≡ number_in j line →
      option_map (λ (t : Ticket). t.number) (cond b (Some u) (find (is_of j) (line ++ t ∷ [])))
      ≡ option_map (λ (t : Ticket). t.number) (cond b (Some u) (find (is_of j) line))
  at true rest = refl
  at false rest = rest

number-push_here : (j : ℕ) (line : List Ticket) (t : Ticket) → is_of j t ≡ true → is_some (number_in j (line ++ t ∷ [])) ≡ true
number-push_here j [] t its = ap (λ b. is_some (option_map (λ (t : Ticket). t.number) (cond b (Some t) None))) its
number-push_here j (u ∷ line) t its = at (is_of j u) (number-push_here j line t its) where
  at : (b : Bool) → is_some (number_in j (line ++ t ∷ [])) ≡ true →
      is_some (option_map (λ (t : Ticket). t.number) (cond b (Some u) (find (is_of j) (line ++ t ∷ [])))) ≡ true
  at true rest = refl
  at false rest = rest

number-without : (j item : ℕ) (line : List Ticket) → j ≢ item → number_in j (without item line) ≡ number_in j line
number-without j item [] differ = refl
number-without j item (t ∷ ts) differ = at (is_of item t) refl (is_of j t) refl (number-without j item ts differ) where
  at : (b : Bool) → is_of item t ≡ b → (e : Bool) → is_of j t ≡ e → number_in j (without item ts) ≡ number_in j ts →
      number_in j (cond b ts (t ∷ without item ts))
      ≡ option_map (λ (t : Ticket). t.number) (cond e (Some t) (find (is_of j) ts))
  at true its true also rest = absurd (differ (sym (eqb-true t.item j also) ∙ eqb-true t.item item its))
  at true its false not_it rest = refl
  at false other true its rest = ap (λ b. option_map (λ (t : Ticket). t.number) (cond b (Some t) (find (is_of j) (without item ts)))) its
  at false other false not_it rest =
      ap (λ b. option_map (λ (t : Ticket). t.number) (cond b (Some t) (find (is_of j) (without item ts)))) not_it ∙ rest

-- an item waits as before, where another is admitted
pub waits-push : (j : ℕ) (lines : List (List Ticket)) (queue : ℕ) (t : Ticket) → is_of j t ≡ false →
    number_among j (set lines queue (get_or lines queue [] ++ t ∷ [])) ≡ number_among j lines
waits-push j [] queue t differs = refl
waits-push j (line ∷ lines) zero t differs = ap (λ (n : Option ℕ). option_or n (number_among j lines)) (number-push j line t differs)
waits-push j (line ∷ lines) (suc queue) t differs = ap (option_or (number_in j line)) (waits-push j lines queue t differs)

or_some : (n m : Option ℕ) → is_some n ≡ true → is_some (option_or n m) ≡ true
or_some None m some = absurd (cc)
or_some (Some x) m some = refl

or_later : (n m : Option ℕ) → is_some m ≡ true → is_some (option_or n m) ≡ true
or_later None m some = some
or_later (Some x) m some = refl

waits-push_here : (j : ℕ) (lines : List (List Ticket)) (queue : ℕ) (t : Ticket) → queue < length lines → is_of j t ≡ true →
    is_some (number_among j (set lines queue (get_or lines queue [] ++ t ∷ []))) ≡ true
waits-push_here j [] queue t within its = absurd (omega arith)
waits-push_here j (line ∷ lines) zero t within its =
    or_some (number_in j (line ++ t ∷ [])) (number_among j lines) (number-push_here j line t its)
waits-push_here j (line ∷ lines) (suc queue) t within its =
    or_later (number_in j line) (number_among j (set lines queue (get_or lines queue [] ++ t ∷ [])))
    (waits-push_here j lines queue t (omega arith) its)

-- and where another is dropped
pub waits-without : (j item : ℕ) (lines : List (List Ticket)) → j ≢ item → number_among j (map (without item) lines) ≡ number_among j lines
waits-without j item [] differ = refl
waits-without j item (line ∷ lines) differ =
    ap (λ (n : Option ℕ). option_or n (number_among j (map (without item) lines))) (number-without j item line differ)
    ∙ ap (option_or (number_in j line)) (waits-without j item lines differ)

module _ (lines : List (List Ticket)) (runs : List (Option Ticket)) (words : List BusyFlags) (flagged : Flagged lines runs words)
    (item : ℕ) (within : item < length words) (w : BusyFlags) where
  abbrev m : ItemMarks
  m = marks_of (open_of lines runs words) item

  old : word_at words item ≡ busy_flags (runs_item runs item) m.cancelling (waits_item lines item) m.delayed m.flushing
  old = flagged item within

  -- an item is admitted, and its word says so
  pub flagged-admit : (queue number : ℕ) → queue < length lines → w.0 ≡ bit_or (word_at words item) 4 →
      Flagged (set lines queue (get_or lines queue [] ++ record { item = item; number = number } ∷ [])) runs (set words item w)
  flagged-admit queue number queue_in is =
      let t : Ticket = record { item = item; number = number } in
      flagged-set lines (set lines queue (get_or lines queue [] ++ t ∷ [])) runs runs words item w
      (runs_item runs item) m.cancelling true m.delayed m.flushing flagged within (λ j differ. refl)
      (λ j differ. ap is_some (waits-push j lines queue t (other-ticket j t differ)))
      (is ∙ ap (λ n. bit_or n 4) old ∙ queued-on (runs_item runs item) m.cancelling (waits_item lines item) m.delayed m.flushing)
      refl (sym (waits-push_here item lines queue t queue_in (own-ticket t)))

  pub marks-admit : w.0 ≡ bit_or (word_at words item) 4 → marks_in w.0 ≡ marks_in (word_at words item)
  marks-admit is =
      ap marks_in (is ∙ ap (λ n. bit_or n 4) old ∙ queued-on (runs_item runs item) m.cancelling (waits_item lines item) m.delayed m.flushing)
      ∙ marks-in (runs_item runs item) m.cancelling true m.delayed m.flushing
      ∙ sym (marks-in (runs_item runs item) m.cancelling (waits_item lines item) m.delayed m.flushing) ∙ ap marks_in (sym old)

  -- an item is dropped, and its word says so
  pub flagged-drop : number_among item (map (without item) lines) ≡ None → w.0 ≡ bit_and (word_at words item) (2 ^ 8 - 1 - 4) →
      Flagged (map (without item) lines) runs (set words item w)
  flagged-drop gone is =
      flagged-set lines (map (without item) lines) runs runs words item w
      (runs_item runs item) m.cancelling false m.delayed m.flushing flagged within (λ j differ. refl)
      (λ j differ. ap is_some (waits-without j item lines differ))
      (is ∙ ap (λ n. bit_and n (2 ^ 8 - 1 - 4)) old
      ∙ queued-off (runs_item runs item) m.cancelling (waits_item lines item) m.delayed m.flushing)
      refl (sym (ap is_some gone))

  pub marks-drop : w.0 ≡ bit_and (word_at words item) (2 ^ 8 - 1 - 4) → marks_in w.0 ≡ marks_in (word_at words item)
  marks-drop is =
      ap marks_in (is ∙ ap (λ n. bit_and n (2 ^ 8 - 1 - 4)) old
      ∙ queued-off (runs_item runs item) m.cancelling (waits_item lines item) m.delayed m.flushing)
      ∙ marks-in (runs_item runs item) m.cancelling false m.delayed m.flushing
      ∙ sym (marks-in (runs_item runs item) m.cancelling (waits_item lines item) m.delayed m.flushing) ∙ ap marks_in (sym old)

  began : w.0 ≡ bit_or (bit_and (word_at words item) (2 ^ 8 - 1 - 4)) 1 →
      w.0 ≡ busy_flags true m.cancelling false m.delayed m.flushing
  began is = is ∙ ap (λ n. bit_or (bit_and n (2 ^ 8 - 1 - 4)) 1) old
      ∙ ap (λ n. bit_or n 1) (queued-off (runs_item runs item) m.cancelling (waits_item lines item) m.delayed m.flushing)
      ∙ running-on (runs_item runs item) m.cancelling false m.delayed m.flushing

  -- an item that waited runs, and its word says so
  pub flagged-begin : (queue number : ℕ) → queue < length runs → get_or runs queue None ≡ None →
      number_among item (map (without item) lines) ≡ None →
      w.0 ≡ bit_or (bit_and (word_at words item) (2 ^ 8 - 1 - 4)) 1 →
      Flagged (map (without item) lines) (set runs queue (Some (record { item = item; number = number }))) (set words item w)
  flagged-begin queue number queue_in idle gone is =
      let t : Ticket = record { item = item; number = number } in
      flagged-set lines (map (without item) lines) runs (set runs queue (Some t)) words item w
      true m.cancelling false m.delayed m.flushing flagged within
      (λ j differ. any-set_alike (is_run_of j) runs queue (Some t) None (other-ticket j t differ
      ∙ ap (is_run_of j) (sym idle)))
      (λ j differ. ap is_some (waits-without j item lines differ)) (began is)
      (sym (any-set_here (is_run_of item) runs queue (Some t) queue_in (own-ticket t))) (sym (ap is_some gone))

  pub marks-begin : w.0 ≡ bit_or (bit_and (word_at words item) (2 ^ 8 - 1 - 4)) 1 → marks_in w.0 ≡ marks_in (word_at words item)
  marks-begin is =
      ap marks_in (began is) ∙ marks-in true m.cancelling false m.delayed m.flushing
      ∙ sym (marks-in (runs_item runs item) m.cancelling (waits_item lines item) m.delayed m.flushing) ∙ ap marks_in (sym old)

  -- an item's run ends, and no other queue runs it
  pub flagged-end : (queue number : ℕ) → get_or runs queue None ≡ Some (record { item = item; number = number }) →
      runs_item (set runs queue None) item ≡ false → w.0 ≡ bit_and (word_at words item) (2 ^ 8 - 1 - 1) →
      Flagged lines (set runs queue None) (set words item w)
  flagged-end queue number runs_it over is =
      let t : Ticket = record { item = item; number = number } in
      flagged-set lines lines runs (set runs queue None) words item w
      false m.cancelling (waits_item lines item) m.delayed m.flushing flagged within
      (λ j differ. any-set_alike (is_run_of j) runs queue None None (sym (ap (is_run_of j) runs_it ∙ other-ticket j t differ)))
      (λ j differ. refl)
      (is ∙ ap (λ n. bit_and n (2 ^ 8 - 1 - 1)) old
      ∙ running-off (runs_item runs item) m.cancelling (waits_item lines item) m.delayed m.flushing)
      (sym over) refl

  pub marks-end : w.0 ≡ bit_and (word_at words item) (2 ^ 8 - 1 - 1) → marks_in w.0 ≡ marks_in (word_at words item)
  marks-end is =
      ap marks_in (is ∙ ap (λ n. bit_and n (2 ^ 8 - 1 - 1)) old
      ∙ running-off (runs_item runs item) m.cancelling (waits_item lines item) m.delayed m.flushing)
      ∙ marks-in false m.cancelling (waits_item lines item) m.delayed m.flushing
      ∙ sym (marks-in (runs_item runs item) m.cancelling (waits_item lines item) m.delayed m.flushing) ∙ ap marks_in (sym old)

  -- an item is marked
  pub flagged-mark : (bits : ℕ) →
      w.0 ≡ busy_flags (has_flag (word_at words item) 1) (has_flag bits 2) (has_flag (word_at words item) 4) (has_flag bits 8)
      (has_flag bits 16) → Flagged lines runs (set words item w)
  flagged-mark bits is =
      flagged-set lines lines runs runs words item w
      (has_flag (word_at words item) 1) (has_flag bits 2) (has_flag (word_at words item) 4) (has_flag bits 8) (has_flag bits 16)
      flagged within (λ j differ. refl) (λ j differ. refl) is
      (ap (λ n. has_flag n 1) old ∙ flag-running (runs_item runs item) m.cancelling (waits_item lines item) m.delayed m.flushing)
      (ap (λ n. has_flag n 4) old ∙ flag-queued (runs_item runs item) m.cancelling (waits_item lines item) m.delayed m.flushing)

-- one more run of an item, of a queue that runs another or none of it
pub flagged-end_other : (lines : List (List Ticket)) (runs : List (Option Ticket)) (words : List BusyFlags) (item queue number : ℕ) →
    Flagged lines runs words → get_or runs queue None ≡ Some (record { item = item; number = number }) →
    runs_item (set runs queue None) item ≡ true → Flagged lines (set runs queue None) words
flagged-end_other lines runs words item queue number flagged runs_it also =
    flagged-alike lines lines runs (set runs queue None) words flagged (λ j. by j (cases_eq j item)) (λ j. refl) where
      or_true_right : (b : Bool) → (b || true) ≡ true
      or_true_right true = refl
      or_true_right false = refl

      some_any : (runs : List (Option Ticket)) (i : ℕ) → list_any (is_run_of item) (set runs i None) ≡ true →
          list_any (is_run_of item) runs ≡ true
      some_any [] i any = any
      some_any (run ∷ runs) zero any = ap (λ b. is_run_of item run || b) any ∙ or_true_right (is_run_of item run)
      some_any (run ∷ runs) (suc i) any = at (is_run_of item run) (some_any runs i) any where
        at : (b : Bool) → (list_any (is_run_of item) (set runs i None) ≡ true → list_any (is_run_of item) runs ≡ true) →
            (b || list_any (is_run_of item) (set runs i None)) ≡ true → (b || list_any (is_run_of item) runs) ≡ true
        at true rest any = refl
        at false rest any = rest any

      by : (j : ℕ) → (j ≡ item) ⊎ (j ≡ item → ⊥) → runs_item (set runs queue None) j ≡ runs_item runs j
      by j (inl same) =
          subst (λ (j : ℕ). runs_item (set runs queue None) j ≡ runs_item runs j) (sym same)
          (also ∙ sym (some_any runs queue also))
      by j (inr differ) =
          any-set_alike (is_run_of j) runs queue None None (sym (ap (is_run_of j) runs_it ∙ other-ticket j (record { item = item; number = number }) differ))

-- before the first admission
pub flagged-fresh : (items queues : ℕ) (w : BusyFlags) → w.0 ≡ 0 → Flagged (replicate queues []) (replicate queues None) (replicate items w)
flagged-fresh items queues w none = λ item within.
    word item within ∙ sym (flags-none item within) where
      word : (item : ℕ) → item < length (replicate items w) → word_at (replicate items w) item ≡ 0
      word item within =
          let inside = get_or-replicate items item w w (let long = length-replicate items w in omega arith) in
          sym (word-read (replicate items w) item w within (sym inside)) ∙ none

      runs_none : (item queues : ℕ) → runs_item (replicate queues None) item ≡ false
      runs_none item zero = refl
      runs_none item (suc queues) = runs_none item queues

      waits_none : (item queues : ℕ) → waits_item (replicate queues []) item ≡ false
      waits_none item zero = refl
      waits_none item (suc queues) = waits_none item queues

      flags-none : (item : ℕ) → item < length (replicate items w) →
          flags (open_of (replicate queues []) (replicate queues None) (replicate items w)) item ≡ 0
      flags-none item within =
          ap (λ (m : ItemMarks). busy_flags (runs_item (replicate queues None) item) m.cancelling
          (waits_item (replicate queues []) item) m.delayed m.flushing)
          (marks-at (replicate queues []) (replicate queues None) (replicate items w) item ∙ ap marks_in (word item within))
          ∙ ap (λ b. busy_flags b false (waits_item (replicate queues []) item) false false) (runs_none item queues)
          ∙ ap (λ b. busy_flags false false b false false) (waits_none item queues)

-- and its marks
pub marks-fresh : (items : ℕ) (w : BusyFlags) → w.0 ≡ 0 → map marks_in (numbers (replicate items w)) ≡ replicate items unmarked
marks-fresh zero w none = refl
marks-fresh (suc items) w none =
    ap (λ n. marks_in n ∷ map marks_in (numbers (replicate items w))) none
    ∙ ap (λ (ms : List ItemMarks). unmarked ∷ ms) (marks-fresh items w none)

-- how the open admissions are seen, where a word changes and its marks stay
pub open-same : (lines : List (List Ticket)) (runs : List (Option Ticket)) (words : List BusyFlags) (item : ℕ) (w : BusyFlags) →
    marks_in w.0 ≡ marks_in (word_at words item) → open_of lines runs (set words item w) ≡ open_of lines runs words
open-same lines runs words item w same =
    let marks = marks-stay words item w same in
    let long = length-set words item w in
    cc

-- and where its marks become others
pub open-marked : (lines : List (List Ticket)) (runs : List (Option Ticket)) (words : List BusyFlags) (item bits : ℕ) (w : BusyFlags) →
    marks_in w.0 ≡ marks_in bits → open_of lines runs (set words item w) ≡ mark (open_of lines runs words) item bits
open-marked lines runs words item bits w same =
    let marks = ap (map marks_in) (numbers-set words item w) ∙ map-set marks_in (numbers words) item w.0
    ∙ ap (set (map marks_in (numbers words)) item) same in
    let long = length-set words item w in
    cc

-- what is kept, where the lines, the runs and the words are others
pub are-kept : (w after : InLine) (runs after_runs : List (Option Ticket)) (words after_words : List BusyFlags) →
    AreKept w runs words → after.items ≡ w.items → length after.lines ≡ length w.lines → length after_runs ≡ length runs →
    length after_words ≡ length words →
    All (λ (run : Option Ticket). IfSome run (λ t. t.item < length words)) after_runs →
    Flagged after.lines after_runs after_words → AreKept after after_runs after_words
are-kept w after runs after_runs words after_words kept items lines queues long known flagged =
    record {
      items = items ∙ kept.items ∙ sym long;
      queues = lines ∙ kept.queues ∙ sym queues;
      known = subst (λ (n : ℕ). All (λ (run : Option Ticket). IfSome run (λ t. t.item < n)) after_runs) (sym long) known;
      flagged = flagged;
    }

-- one more run of an item, and one less
pub known-begin : (runs : List (Option Ticket)) (queue n : ℕ) (t : Ticket) → t.item < n →
    All (λ (run : Option Ticket). IfSome run (λ t. t.item < n)) runs →
    All (λ (run : Option Ticket). IfSome run (λ t. t.item < n)) (set runs queue (Some t))
known-begin runs queue n t within known = All-set (λ (run : Option Ticket). IfSome run (λ t. t.item < n)) runs queue (Some t) within known

pub known-end : (runs : List (Option Ticket)) (queue n : ℕ) →
    All (λ (run : Option Ticket). IfSome run (λ t. t.item < n)) runs →
    All (λ (run : Option Ticket). IfSome run (λ t. t.item < n)) (set runs queue None)
known-end runs queue n known = All-set (λ (run : Option Ticket). IfSome run (λ t. t.item < n)) runs queue None tt known

-- what runs is an item
pub known-run : (runs : List (Option Ticket)) (queue n : ℕ) (t : Ticket) →
    All (λ (run : Option Ticket). IfSome run (λ t. t.item < n)) runs → queue < length runs → get_or runs queue None ≡ Some t → t.item < n
known-run runs queue n t known within is =
    subst (λ (run : Option Ticket). IfSome run (λ t. t.item < n)) (get_or_default runs queue None None within ∙ is)
    (known queue None within)

-- before the first admission
pub kept-fresh : (items queues : ℕ) (w : InLine) (runs : List (Option Ticket)) (words : List BusyFlags) (none : BusyFlags) →
    w ≡ record { items = items; lines = replicate queues [] } → runs ≡ replicate queues None → words ≡ replicate items none →
    none.0 ≡ 0 → AreKept w runs words × (open_of w.lines runs words ≡ nothing_open items queues)
kept-fresh items queues w runs words none lines_are runs_are words_are zero_is =
    subst (λ (w : InLine). AreKept w runs words × (open_of w.lines runs words ≡ nothing_open items queues)) (sym lines_are)
    (subst (λ (runs : List (Option Ticket)). AreKept fresh runs words × (open_of (replicate queues []) runs words ≡ nothing_open items queues))
    (sym runs_are)
    (subst (λ (words : List BusyFlags). AreKept fresh (replicate queues None) words
    × (open_of (replicate queues []) (replicate queues None) words ≡ nothing_open items queues)) (sym words_are)
    (kept, seen))) where
      fresh : InLine
      fresh = record { items = items; lines = replicate queues [] }

      kept : AreKept fresh (replicate queues None) (replicate items none)
      kept = record {
        items = sym (length-replicate items none);
        queues = length-replicate {A = List Ticket} queues [] ∙ sym (length-replicate {A = Option Ticket} queues None);
        known = All-replicate (λ (run : Option Ticket). IfSome run (λ t. t.item < length (replicate items none))) queues None tt;
        flagged = flagged-fresh items queues none zero_is;
      }

      seen : open_of (replicate queues []) (replicate queues None) (replicate items none) ≡ nothing_open items queues
      seen = let marks = marks-fresh items none zero_is in
          let long = length-replicate items none in
          let many = length-replicate {A = Option Ticket} queues None in
          cc

-- a queue begins its lowest
pub none-runs : (run : Option Ticket) → is_some run ≡ false → run ≡ None
none-runs None none = refl
none-runs (Some t) none = absurd (cc)

pub seen-begin : (lines after : List (List Ticket)) (runs : List (Option Ticket)) (words : List BusyFlags) (t : Ticket) (queue : ℕ)
    (w : BusyFlags) → after ≡ map (without t.item) lines → get_or runs queue None ≡ None → first (get_or lines queue []) ≡ Some t →
    marks_in w.0 ≡ marks_in (word_at words t.item) →
    open_of after (set runs queue (Some t)) (set words t.item w) ≡ begin (open_of lines runs words) queue
seen-begin lines after runs words t queue w next idle lowest same =
    let o = open_of lines runs words in
    let may : opened.next o queue ≡ Some t = ap (λ (r : Option Ticket). if_free r (first (get_or lines queue []))) idle ∙ lowest in
    let long = length-set runs queue (Some t) in
    let began : open_of (map (without t.item) lines) (set runs queue (Some t)) words ≡ begun o queue t = cc in
    open-same after (set runs queue (Some t)) words t.item w same
    ∙ ap (λ (ls : List (List Ticket)). open_of ls (set runs queue (Some t)) words) next ∙ began
    ∙ sym (ap (λ (r : Option Ticket). option_map_or (begun o queue) r o) may)

-- a run ends
pub seen-end : (lines : List (List Ticket)) (runs : List (Option Ticket)) (words : List BusyFlags) (item queue : ℕ) (w : BusyFlags) →
    marks_in w.0 ≡ marks_in (word_at words item) →
    open_of lines (set runs queue None) (set words item w) ≡ end (open_of lines runs words) queue
seen-end lines runs words item queue w same =
    let long = length-set runs queue None in
    let ended : open_of lines (set runs queue None) words ≡ end (open_of lines runs words) queue = cc in
    open-same lines (set runs queue None) words item w same ∙ ended
