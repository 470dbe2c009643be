-- Lines that are put one after another, each in the list of its player, stand there in their order.
use Rattle.std.proofs.Common.{◌≡◌, ℕ, ◌+◌, ◌<◌, ◌≤◌, zero, suc, Bool, true, false, cond, eqb, eq-eqb, Option, Some, None, List, [], ◌∷◌, ◌++◌, append_assoc, append-nil, length, get_or, drop, drop-cons, add-one, map, slice_set, slice_get, arith, refl, sym, ap, inl, inr, ◌∙◌}
use Rattle.std.specs.Prelude.{option_map}
use Rattle.std.specs.List.{filter, range_with_len}
use Rattle.std.proofs.lemmas.Bool.{cases_Bool, eqb-true, eqb-false, ne_eqb}
use Rattle.std.proofs.lemmas.List.FromFn.{length-map-range_with_len}
use Rattle.std.proofs.lemmas.Option.{same_Some, none-some}
use Rattle.zk_base.specs.declared.ids.Entry.{Entry}
use Rattle.zk_line.proofs.Options.{one_part}
use Rattle.zk_trace.specs.declared.looks.SignalLook.{SignalLook}
use Rattle.zk_trace.specs.declared.stood.Family.{Family}
use Rattle.zk_trace.specs.declared.stood.Family.TheVariants as families
use Rattle.zk_trace.specs.declared.stood.Home.TheVariants as homes
use Rattle.zk_trace.specs.declared.stood.Stood.{Stood}
use Rattle.zk_trace.specs.declared.trace.Trace.{Trace}
use Rattle.zk_trace.specs.Stood.{is_of, stood, sorted_spots, steps_of, put_line, put_lines, entries_stood, histories_stood, item_look_stood, signal_look_stood, signals_stood}
use Rattle.zk_trace.specs.Text.{looks_at}
use Rattle.zk_trace.specs.WholeRead.{Players, logs_of, logs_by}

-- a line more at the end of a list that is there
pub put-there : (player : ℕ) (line : Stood) (lists : List (List Stood)) (old new : List Stood) → player < length lists →
    old ≡ get_or lists player old → new ≡ old ++ line ∷ [] → slice_set lists player new ≡ put_line player line lists
put-there player line [] old new there is more = absurd (omega arith)
put-there zero line (l ∷ ls) old new there is more = ap (λ x. x ∷ ls) (more ∙ ap (λ x. x ++ line ∷ []) is)
put-there (suc player) line (l ∷ ls) old new there is more = ap (λ x. l ∷ x) (put-there player line ls old new (omega arith) is more)

-- no list is there
pub put-past : (player : ℕ) (line : Stood) (lists : List (List Stood)) → length lists ≤ player → lists ≡ put_line player line lists
put-past player line [] past = refl
put-past zero line (l ∷ ls) past = absurd (omega arith)
put-past (suc player) line (l ∷ ls) past = ap (λ x. l ∷ x) (put-past player line ls (omega arith))

module _ {O R : Type 0} (hs : List (List (Entry O R))) (object : ℕ) (h : List (Entry O R)) (there : object < length hs) (is : h ≡ get_or hs object h) where
  next : drop object hs ≡ h ∷ drop (object + 1) hs
  next = drop-cons hs object h there ∙ ap (λ x. x ∷ drop (suc object) hs) (sym is) ∙ ap (λ n. h ∷ drop n hs) (sym (add-one object))

  -- behind some lines those of one history, and then those of the others
  pub histories-on : (family : Family) (lines : List Stood) →
      lines ++ entries_stood (homes.Object family object) 0 h ++ histories_stood family (object + 1) (drop (object + 1) hs)
      ≡ lines ++ histories_stood family object (drop object hs)
  histories-on family lines =
      append_assoc lines (entries_stood (homes.Object family object) 0 h) (histories_stood family (object + 1) (drop (object + 1) hs))
      ∙ ap (λ l. lines ++ histories_stood family object l) (sym next)

  -- the same of signals, whose looks follow the writes
  pub signals-on : (looks : List (List SignalLook)) (lines : List Stood) →
      lines ++ entries_stood (homes.Object families.Signal object) 0 h ++ map (signal_look_stood object) (looks_at looks object)
      ++ signals_stood looks (object + 1) (drop (object + 1) hs)
      ≡ lines ++ signals_stood looks object (drop object hs)
  signals-on looks lines =
      let writes = entries_stood (homes.Object families.Signal object) 0 h in
      let seen = map (signal_look_stood object) (looks_at looks object) in
      let more = signals_stood looks (object + 1) (drop (object + 1) hs) in
      ap (λ l. l ++ more) (append_assoc lines writes seen) ∙ append_assoc lines (writes ++ seen) more
      ∙ ap (λ l. lines ++ signals_stood looks object l) (sym next)

-- all lines of a trace, part by part
pub all-stood : (t : Trace) (start a b c d e f g h end : List Stood) → start ≡ [] →
    a ≡ start ++ entries_stood homes.Work 0 t.work → b ≡ a ++ map item_look_stood t.looks.items → c ≡ b ++ entries_stood homes.Clock 0 t.clock →
    d ≡ c ++ entries_stood homes.Table 0 t.table → e ≡ d ++ histories_stood families.Sem 0 t.sems → f ≡ e ++ histories_stood families.Msgq 0 t.msgqs →
    g ≡ f ++ signals_stood t.looks.signals 0 t.signals → h ≡ g ++ histories_stood families.Chan 0 t.chans → end ≡ h ++ histories_stood families.Obs 0 t.observers →
    end ≡ stood t
all-stood t start a b c d e f g h end empty is_a is_b is_c is_d is_e is_f is_g is_h is_end =
    is_end ∙ behind (histories_stood families.Obs 0 t.observers) (is_h ∙ behind (histories_stood families.Chan 0 t.chans)
    (is_g ∙ behind (signals_stood t.looks.signals 0 t.signals) (is_f ∙ behind (histories_stood families.Msgq 0 t.msgqs)
    (is_e ∙ behind (histories_stood families.Sem 0 t.sems) (is_d ∙ behind (entries_stood homes.Table 0 t.table)
    (is_c ∙ behind (entries_stood homes.Clock 0 t.clock) (is_b ∙ behind (map item_look_stood t.looks.items)
    (is_a ∙ behind (entries_stood homes.Work 0 t.work) empty)))))))) where
      behind : (more : List Stood) {x y : List Stood} → x ≡ y → x ++ more ≡ y ++ more
      behind more is = ap (λ l. l ++ more) is

-- What stands in each list.

suc-eqb : (a b : ℕ) → eqb (suc a) (suc b) ≡ eqb a b
suc-eqb a b = elim (cases_Bool (eqb a b)) [
  | inl same ↦ eq-eqb (suc a) (suc b) (ap suc (eqb-true a b same)) ∙ sym same
  | inr other ↦ ne_eqb (suc a) (suc b) (λ same. eqb-false a b other (omega arith)) ∙ sym other
]

-- a list with nothing more
nothing-more : (b : Bool) (line : Stood) (o : Option (List Stood)) → b ≡ false → o ≡ option_map (λ l. l ++ cond b (line ∷ []) []) o
nothing-more b line None is = refl
nothing-more b line (Some l) is = ap Some (sym (ap (λ c. l ++ cond c (line ∷ []) []) is ∙ append-nil l))

-- a line more, in the list of its player
put-get : (player : ℕ) (line : Stood) (lists : List (List Stood)) (k : ℕ) →
    slice_get (put_line player line lists) k ≡ option_map (λ l. l ++ cond (eqb player k) (line ∷ []) []) (slice_get lists k)
put-get player line [] k = refl
put-get zero line (l ∷ ls) zero = refl
put-get zero line (l ∷ ls) (suc k) = nothing-more (eqb 0 (suc k)) line (slice_get ls k) (ne_eqb 0 (suc k) (λ same. omega arith))
put-get (suc player) line (l ∷ ls) zero = nothing-more (eqb (suc player) 0) line (Some l) (ne_eqb (suc player) 0 (λ same. omega arith))
put-get (suc player) line (l ∷ ls) (suc k) =
    put-get player line ls k ∙ ap (λ b. option_map (λ l. l ++ cond b (line ∷ []) []) (slice_get ls k)) (sym (suc-eqb player k))

put-length : (player : ℕ) (line : Stood) (lists : List (List Stood)) → length (put_line player line lists) ≡ length lists
put-length player line [] = refl
put-length zero line (l ∷ ls) = refl
put-length (suc player) line (l ∷ ls) = omega (arith, put-length player line ls)

all-length : (lines : List Stood) (lists : List (List Stood)) → length (put_lines lines lists) ≡ length lists
all-length [] lists = refl
all-length (x ∷ lines) lists = all-length lines (put_line x.player x lists) ∙ put-length x.player x lists

-- all lines, each in the list of its player
all-get : (lines : List Stood) (lists : List (List Stood)) (k : ℕ) → slice_get (put_lines lines lists) k ≡ option_map (λ l. l ++ filter (is_of k) lines) (slice_get lists k)
all-get [] lists k = same (slice_get lists k) where
  same : (o : Option (List Stood)) → o ≡ option_map (λ l. l ++ []) o
  same None = refl
  same (Some l) = ap Some (sym (append-nil l))
all-get (x ∷ lines) lists k =
    all-get lines (put_line x.player x lists) k
    ∙ ap (option_map (λ l. l ++ filter (is_of k) lines)) (put-get x.player x lists k)
    ∙ joined (slice_get lists k) where
      one : (b : Bool) (l : List Stood) → (l ++ cond b (x ∷ []) []) ++ filter (is_of k) lines ≡ l ++ cond b (x ∷ filter (is_of k) lines) (filter (is_of k) lines)
      one true l = append_assoc l (x ∷ []) (filter (is_of k) lines)
      one false l = ap (λ y. y ++ filter (is_of k) lines) (append-nil l)

      joined : (o : Option (List Stood)) →
          option_map (λ l. l ++ filter (is_of k) lines) (option_map (λ l. l ++ cond (eqb x.player k) (x ∷ []) []) o) ≡ option_map (λ l. l ++ filter (is_of k) (x ∷ lines)) o
      joined None = refl
      joined (Some l) = ap Some (one (eqb x.player k) l)

-- steps by lists that are those of their players
steps-same : (lines : List Stood) (lists : List (List Stood)) (player : ℕ) →
    ((k : ℕ) (l : List Stood) → slice_get lists k ≡ Some l → l ≡ filter (is_of (player + k)) lines) →
    map sorted_spots lists ≡ map (steps_of lines) (range_with_len player (length lists))
steps-same lines [] player each = refl
steps-same lines (l ∷ lists) player each =
    ap (λ x. sorted_spots x ∷ map sorted_spots lists) (each zero l refl ∙ ap (λ n. filter (is_of n) lines) (omega arith))
    ∙ ap (λ x. steps_of lines player ∷ x)
    (steps-same lines lists (player + 1) (λ k m there. each (suc k) m there ∙ ap (λ n. filter (is_of n) lines) (omega arith)))

-- what stands in a list of empty ones is empty
empty-get : (numbers : List ℕ) (k : ℕ) (l : List Stood) → slice_get (map (λ player. []) numbers) k ≡ Some l → l ≡ []
empty-get [] k l there = absurd (none-some l there)
empty-get (n ∷ numbers) zero l there = sym (same_Some [] l there)
empty-get (n ∷ numbers) (suc k) l there = empty-get numbers k l there

-- the steps by the lists into which all lines were put
pub steps-put : (lines : List Stood) (count : ℕ) →
    map sorted_spots (put_lines lines (map (λ player. []) (range_with_len 0 count))) ≡ map (steps_of lines) (range_with_len 0 count)
steps-put lines count =
    let empty : List (List Stood) = map (λ player. []) (range_with_len 0 count) in
    let long : length empty ≡ count = length-map-range_with_len (λ player. []) 0 count in
    steps-same lines (put_lines lines empty) 0
    (λ k l there.
    let part = one_part (λ (x : List Stood). x ++ filter (is_of k) lines) (slice_get empty k) l (sym (all-get lines empty k) ∙ there) in
    sym part.2 ∙ ap (λ (x : List Stood). x ++ filter (is_of k) lines) (empty-get (range_with_len 0 count) k part.0 part.1) ∙ ap (λ n. filter (is_of n) lines) (omega arith))
    ∙ ap (λ n. map (steps_of lines) (range_with_len 0 n)) (all-length lines empty ∙ long)

-- the logs by the steps of all players
pub logs-by : (lines : List Stood) (player : ℕ) (all : Players) → logs_by (map (steps_of lines) (range_with_len player (length all))) all ≡ logs_of lines player all
logs-by lines player [] = refl
logs-by lines player (one ∷ all) =
    ap (λ l. record { state = one.0; steps = steps_of lines player; answers = one.1 } ∷ l) (logs-by lines (player + 1) all)
