-- Of the admissions by which an item waits and runs, those that flushes wait for are kept.
use Rattle.std.proofs.Common.{◌≡◌, ◌≢◌, ℕ, zero, suc, ◌+◌, ◌<◌, ◌≤◌, ◌⊎◌, inl, inr, Bool, true, false, not, ◌&&◌, ◌||◌, cond, eqb, Option, Some, None, option_map, option_and_then, List, [], ◌∷◌, ◌++◌, length, map, set, get_or, replicate, find, All, refl, sym, ap, subst, ◌∙◌, eq-eqb, arith}
use Rattle.std.specs.List.{list_any, position}
use Rattle.std.specs.Option.{option_map_or, option_or}
use Rattle.std.proofs.lemmas.Bool.{cases_eq, cases_lt, eqb-true, ltb-true, ne_eqb, false≢true, false_from_ne_true, or_cases, or_left, or_right}
use Rattle.std.proofs.lemmas.List.{length-set, length-replicate, get_or-set_same, get_or-set_other, get_or-replicate, get_or_past, append-nil}
use Rattle.std.proofs.lemmas.List.Elements.{All-nil, All-cons, All-head, All-tail}
use Rattle.std.proofs.lemmas.List.Folds.{list_any-append, list_any_none}
use Rattle.std.proofs.lemmas.List.Quantifiers.{position-Some}
use Rattle.std.proofs.lemmas.Map.Views.{any-filter_same}
use Rattle.std.proofs.lemmas.Option.{same_Some}
use Rattle.zk_base.specs.declared.ids.Who.{Who}
use Rattle.zk_model_work.specs.declared.parts.Awaited.{Awaited}
use Rattle.zk_model_work.specs.declared.parts.Awaited.TheVariants as awaiteds
use Rattle.zk_model_work.specs.declared.parts.Closing.{Closing}
use Rattle.zk_model_work.specs.declared.parts.Closing.TheVariants as closings
use Rattle.zk_model_work.specs.declared.parts.Queue.{Queue}
use Rattle.zk_model_work.specs.declared.parts.Wait.{Wait}
use Rattle.zk_model_work.specs.Answers.{wait_for, cancel_wait, flushed, flush_wait, drained_of, drain_wait, is_unanswered, closes}
use Rattle.zk_model_work.specs.Lists.{first}
use Rattle.zk_model_work.specs.Machine.{awaiting}
use Rattle.zk_queue.specs.declared.ticket.Ticket.{Ticket}
use Rattle.zk_queue.specs.Line.{is_of, without, number_in, number_among}
use Rattle.zk_queue.specs.Open as active
use Rattle.zk_queue.specs.Open.{Open, line, run, waiting, running, is_running, is_run_of, is_open, mark, nothing_open, admit, drop_item, begun, begin, end}
use Rattle.zk_work.specs.declared.flushed.Flushed.{Flushed}
use Rattle.zk_work.specs.Active.{run_over}
use Rattle.zk_work.specs.EngineState.{IsBy, AreNumbered}
use Rattle.zk_work.specs.Engine.{is_number, flushes, is_flushing, cancelled, has_come, left_waits}
use Rattle.zk_work.specs.Flushed.{no_numbers, numbers_of, holds, beside_run, noted, awaits_flush, AreKept, AreOld}
use Rattle.zk_work.specs.Flushing.{is_made}
use Rattle.zk_work.specs.OpenWaits.{IsNewAt}
use Rattle.zk_work.proofs.Flushing.{AreMade, next-parts, by-open, items-over, items-cancelled}
use Rattle.zk_work.proofs.Others.{waiting-admit, waiting-admitted}

or-false : (b : Bool) → (b || false) ≡ b
or-false true = refl
or-false false = refl

-- a number that is among others
is-number : (n : ℕ) (o : Option ℕ) → is_number n o ≡ true → o ≡ Some n
is-number n None is = absurd (cc)
is-number n (Some m) is = ap (λ (k : ℕ). Some k) (eqb-true m n is)

number-is : (n : ℕ) (o : Option ℕ) → o ≡ Some n → is_number n o ≡ true
number-is n o is = ap (is_number n) is ∙ eq-eqb n n refl

-- What a flush waits for is asked by one number and another.
flush-either : (waits runs : Option ℕ) (awaited : Awaited) →
    flushes waits runs awaited ≡ (flushes waits None awaited || flushes runs None awaited)
flush-either waits runs (awaiteds.Cancel n) = refl
flush-either waits runs (awaiteds.Drain queue count) = refl
flush-either waits runs (awaiteds.Flush n) =
    ap (λ b. b || is_number n runs) (sym (or-false (is_number n waits)))
    ∙ ap (λ b. (is_number n waits || false) || b) (sym (or-false (is_number n runs)))

any-either : {A : Type 0} (p q r : A → Bool) → ((x : A) → p x ≡ (q x || r x)) → (xs : List A) →
    list_any p xs ≡ (list_any q xs || list_any r xs)
any-either p q r is [] = refl
any-either p q r is (x ∷ xs) =
    ap (λ b. b || list_any p xs) (is x) ∙ ap (λ b. (q x || r x) || b) (any-either p q r is xs)
    ∙ mixed (q x) (r x) (list_any q xs) (list_any r xs) where
      mixed : (a b c d : Bool) → ((a || b) || (c || d)) ≡ ((a || c) || (b || d))
      mixed true b c d = refl
      mixed false true true d = refl
      mixed false true false d = refl
      mixed false false true d = refl
      mixed false false false d = refl

none-flushed : (ws : List Wait) → list_any (λ (w : Wait). flushes None None w.awaited) ws ≡ false
none-flushed ws = list_any_none (λ (w : Wait). flushes None None w.awaited) ws (λ k d within. by (get_or ws k d).awaited) where
  by : (awaited : Awaited) → flushes None None awaited ≡ false
  by (awaiteds.Cancel n) = refl
  by (awaiteds.Flush n) = refl
  by (awaiteds.Drain queue count) = refl

any-flushed : (number : Option ℕ) (ws : List Wait) →
    list_any (λ (w : Wait). flushes number None w.awaited) ws ≡ option_map_or (λ n. list_any (awaits_flush n) ws) number false
any-flushed None ws = none-flushed ws
any-flushed (Some n) ws = refl

-- whether an item is flushed, by its numbers
pub flushing-kept : (o : Open) (fl : List Flushed) (ws : List Wait) (item : ℕ) → AreKept o fl ws → item < o.items →
    (option_map_or (holds (numbers_of fl item)) (waiting o item) false
    || option_map_or (holds (numbers_of fl item)) (running o item) false) ≡ is_flushing o ws item
flushing-kept o fl ws item kept item_in =
    ap (λ b. b || option_map_or (holds f) (running o item) false) (by (waiting o item) (λ n is. inl is))
    ∙ ap (λ b. list_any (λ (w : Wait). flushes (waiting o item) None w.awaited) ws || b) (by (running o item) (λ n is. inr is))
    ∙ sym (any-either (λ (w : Wait). flushes (waiting o item) (running o item) w.awaited)
    (λ (w : Wait). flushes (waiting o item) None w.awaited) (λ (w : Wait). flushes (running o item) None w.awaited)
    (λ w. flush-either (waiting o item) (running o item) w.awaited) ws) where
      f : Flushed
      f = numbers_of fl item

      by : (number : Option ℕ) → ((n : ℕ) → number ≡ Some n → IsBy o item n) →
          option_map_or (holds f) number false ≡ list_any (λ (w : Wait). flushes number None w.awaited) ws
      by None its = sym (none-flushed ws)
      by (Some n) its = kept.kept item n item_in (its n refl)

-- nobody is flushed where nobody waits
pub flushing-nobody : (o : Open) (ws : List Wait) (item : ℕ) → ws ≡ [] → is_flushing o ws item ≡ false
flushing-nobody o ws item none = ap (λ (ws : List Wait). is_flushing o ws item) none

-- the same numbers of the same admissions, for the same waits
pub kept-as : (o same : Open) (fl also : List Flushed) (ws now : List Wait) → same ≡ o → also ≡ fl → now ≡ ws →
    AreKept o fl ws → AreKept same also now
kept-as o same fl also ws now o_is fl_is ws_is kept =
    subst (λ (o : Open). AreKept o also now) (sym o_is)
    (subst (λ (fl : List Flushed). AreKept o fl now) (sym fl_is)
    (subst (λ (ws : List Wait). AreKept o fl ws) (sym ws_is) kept))

-- where no admission came
kept-fewer : (o after : Open) (fl : List Flushed) (ws : List Wait) → AreKept o fl ws → after.items ≡ o.items →
    ((item number : ℕ) → IsBy after item number → IsBy o item number) → AreKept after fl ws
kept-fewer o after fl ws old items before =
    record {
      long = old.long ∙ sym items;
      kept = λ item number item_in by. old.kept item number (subst (λ n. item < n) items item_in) (before item number by);
    }

-- what a search finds among tickets that all pass
found-passes : (P : Ticket → Type 0) (j n : ℕ) (ts : List Ticket) → All P ts → number_in j ts ≡ Some n →
    (t : Ticket) × P t × (t.item ≡ j) × (t.number ≡ n)
found-passes P j n [] all is = absurd (cc)
found-passes P j n (t ∷ ts) all is = at (is_of j t) refl is (found-passes P j n ts (All-tail P t ts all)) where
  at : (b : Bool) → is_of j t ≡ b → option_map (λ (t : Ticket). t.number) (cond b (Some t) (find (is_of j) ts)) ≡ Some n →
      (number_in j ts ≡ Some n → (t : Ticket) × P t × (t.item ≡ j) × (t.number ≡ n)) →
      (t : Ticket) × P t × (t.item ≡ j) × (t.number ≡ n)
  at true of is behind = (t, All-head P t ts all, eqb-true t.item j of, same_Some t.number n is)
  at false of is behind = behind is

all-without : (P : Ticket → Type 0) (item : ℕ) (ts : List Ticket) → All P ts → All P (without item ts)
all-without P item [] all = all
all-without P item (t ∷ ts) all = at (is_of item t) (all-without P item ts (All-tail P t ts all)) where
  at : (b : Bool) → All P (without item ts) → All P (cond b ts (t ∷ without item ts))
  at true rest = All-tail P t ts all
  at false rest = All-cons P t (without item ts) (All-head P t ts all) rest

among-passes : (P : Ticket → Type 0) (j n : ℕ) (lines : List (List Ticket)) → ((i : ℕ) → All P (get_or lines i [])) →
    number_among j lines ≡ Some n → (t : Ticket) × P t × (t.item ≡ j) × (t.number ≡ n)
among-passes P j n [] all is = absurd (cc)
among-passes P j n (l ∷ lines) all is = by (number_in j l) refl is (among-passes P j n lines (λ i. all (suc i))) where
  by : (o : Option ℕ) → number_in j l ≡ o → option_or o (number_among j lines) ≡ Some n →
      (number_among j lines ≡ Some n → (t : Ticket) × P t × (t.item ≡ j) × (t.number ≡ n)) →
      (t : Ticket) × P t × (t.item ≡ j) × (t.number ≡ n)
  by None none is behind = behind is
  by (Some m) some is behind = found-passes P j n l (all 0) (some ∙ is)

lines-without : (P : Ticket → Type 0) (item : ℕ) (lines : List (List Ticket)) → ((i : ℕ) → All P (get_or lines i [])) →
    (i : ℕ) → All P (get_or (map (without item) lines) i [])
lines-without P item [] all i = All-nil P
lines-without P item (l ∷ lines) all zero = all-without P item l (all 0)
lines-without P item (l ∷ lines) all (suc i) = lines-without P item lines (λ k. all (suc k)) i

module _ (next : ℕ) (o : Open) (numbered : AreNumbered next o) where
  -- who waits after a drop has waited before
  drop-before : (item j n : ℕ) → waiting (drop_item o item) j ≡ Some n → waiting o j ≡ Some n
  drop-before item j n is =
      let P : Ticket → Type 0 = λ t. waiting o t.item ≡ Some t.number in
      let t = among-passes P j n (map (without item) o.lines) (lines-without P item o.lines numbered.once) is in
      sym (ap (waiting o) t.2) ∙ t.1 ∙ ap (λ (n : ℕ). Some n) t.3

  -- a run that is found
  run-before : (after : Open) (j n queue : ℕ) (r : Option Ticket) → after.runs ≡ set o.runs queue r → running after j ≡ Some n →
      ((t : Ticket) → r ≡ Some t → IsBy o t.item t.number) → IsBy o j n
  run-before after j n queue r is runs new = by (position (is_run_of j) after.runs) refl runs where
    here : (i : ℕ) → (i ≡ queue) ⊎ (i ≡ queue → ⊥) → i < length after.runs → (t : Ticket) → run after i ≡ Some t →
        IsBy o t.item t.number
    here i (inl same) within t it =
        new t (sym (get_or-set_same o.runs queue r None (
        let long = ap length is ∙ length-set o.runs queue r in omega arith))
        ∙ ap (λ (rs : List (Option Ticket)). get_or rs queue None) (sym is) ∙ ap (run after) (sym same) ∙ it)
    here i (inr differ) within t it =
        inr (numbered.one i t (sym (get_or-set_other o.runs queue i r None differ)
        ∙ ap (λ (rs : List (Option Ticket)). get_or rs i None) (sym is) ∙ it))

    of : (i : ℕ) → i < length after.runs → (r : Option Ticket) → run after i ≡ r → is_run_of j r ≡ true →
        option_map (λ (t : Ticket). t.number) r ≡ Some n → IsBy o j n
    of i within None it its number = absurd (cc)
    of i within (Some t) it its number =
        subst (λ j. IsBy o j n) (eqb-true t.item j its)
        (subst (IsBy o t.item) (same_Some t.number n number) (here i (cases_eq i queue) within t it))

    by : (p : Option ℕ) → position (is_run_of j) after.runs ≡ p →
        option_and_then (λ queue. option_map (λ (t : Ticket). t.number) (run after queue)) p ≡ Some n → IsBy o j n
    by None place is = absurd (cc)
    by (Some i) place is =
        let at = position-Some (is_run_of j) after.runs i None place in
        of i at.0 (run after i) refl at.1 is

  begun-before : (queue : ℕ) (t : Ticket) → first (line o queue) ≡ Some t → (j n : ℕ) → IsBy (begun o queue t) j n → IsBy o j n
  begun-before queue t lowest j n (inl waits) = inl (drop-before t.item j n waits)
  begun-before queue t lowest j n (inr runs) =
      run-before (begun o queue t) j n queue (Some t) refl runs
      (λ u is. subst (λ (u : Ticket). IsBy o u.item u.number) (same_Some t u is) (inl (first-passes (line o queue) (numbered.once queue) lowest))) where
        first-passes : (ts : List Ticket) → All (λ (t : Ticket). waiting o t.item ≡ Some t.number) ts → first ts ≡ Some t →
            waiting o t.item ≡ Some t.number
        first-passes [] all is = absurd (cc)
        first-passes (u ∷ ts) all is = subst (λ (t : Ticket). waiting o t.item ≡ Some t.number) (same_Some u t is)
            (All-head (λ (t : Ticket). waiting o t.item ≡ Some t.number) u ts all)

  module _ (fl : List Flushed) (ws : List Wait) (old : AreKept o fl ws) where
    -- a queue begins what waits for it
    pub kept-begin : (queue : ℕ) (t : Ticket) → active.next o queue ≡ Some t → AreKept (begin o queue) fl ws
    kept-begin queue t is =
        let begins : begin o queue ≡ begun o queue t = ap (λ (r : Option Ticket). option_map_or (begun o queue) r o) is in
        subst (λ (after : Open). AreKept after fl ws) (sym begins)
        (kept-fewer o (begun o queue t) fl ws old refl (begun-before queue t (next-parts o queue t is).1))

    -- what a queue runs ends
    pub kept-end : (queue : ℕ) → AreKept (run_over o queue) fl ws
    kept-end queue = kept-fewer o (run_over o queue) fl ws old (items-over o queue) (by (run o queue)) where
      by : (r : Option Ticket) (j n : ℕ) → IsBy (option_map_or (λ (t : Ticket). mark (end o queue) t.item 0) r o) j n → IsBy o j n
      by None j n its = its
      by (Some t) j n (inl waits) = inl waits
      by (Some t) j n (inr runs) =
          run-before (mark (end o queue) t.item 0) j n queue None refl runs (λ u is. absurd (cc))

    -- an item is cancelled
    pub kept-cancelled : (item : ℕ) → AreKept (cancelled o item) fl ws
    kept-cancelled item = kept-fewer o (cancelled o item) fl ws old (items-cancelled o item) (by (is_running o item)) where
      by : (b : Bool) (j n : ℕ) → IsBy (cond b (mark (drop_item o item) item 2) (drop_item o item)) j n → IsBy o j n
      by true j n (inl waits) = inl (drop-before item j n waits)
      by true j n (inr runs) = inr runs
      by false j n (inl waits) = inl (drop-before item j n waits)
      by false j n (inr runs) = inr runs

    -- a flush starts
    pub kept-flush : (item place : ℕ) (who : Who) → item < o.items →
        let number = flushed (waiting o item) (running o item) in
        AreKept o (noted fl item (running o item) number) (awaiting ws (flush_wait place who number))
    kept-flush item place who item_in = by (flushed (waiting o item) (running o item)) refl where
      f : Flushed
      f = numbers_of fl item

      its : (n : ℕ) → flushed (waiting o item) (running o item) ≡ Some n → IsBy o item n
      its n is = from (waiting o item) refl is where
        from : (w : Option ℕ) → waiting o item ≡ w → option_or w (running o item) ≡ Some n → IsBy o item n
        from None waits is = inr is
        from (Some m) waits is = inl (waits ∙ is)

      -- who isn't the admission that is flushed is the run
      other : (n m : ℕ) → flushed (waiting o item) (running o item) ≡ Some n → IsBy o item m → m ≢ n → running o item ≡ Some m
      other n m is (inr runs) differ = runs
      other n m is (inl waits) differ =
          absurd (differ (same_Some m n (sym (ap (λ (w : Option ℕ). option_or w (running o item)) waits) ∙ is)))

      -- the numbers of the item after that
      has : (n m : ℕ) → flushed (waiting o item) (running o item) ≡ Some n → IsBy o item m →
          holds (beside_run f (running o item) n) m ≡ (holds f m || eqb n m)
      has n m is by_it = at (cases_eq m n) where
        keeps : Bool
        keeps = option_map_or (λ n. is_number n f.first) (running o item) false

        now : (b : Bool) → holds (cond b (record f { second = Some n }) (record f { first = Some n })) n ≡ true
        now true = ap (λ b. is_number n f.first || b) (eq-eqb n n refl) ∙ right (is_number n f.first) where
          right : (b : Bool) → (b || true) ≡ true
          right true = refl
          right false = refl
        now false = ap (λ b. b || is_number n f.second) (eq-eqb n n refl)

        still : m ≢ n → (b : Bool) → keeps ≡ b →
            holds (cond b (record f { second = Some n }) (record f { first = Some n })) m ≡ holds f m
        still differ true is_first =
            let first_is : is_number m f.first ≡ true =
            sym (ap (λ (r : Option ℕ). option_map_or (λ n. is_number n f.first) r false) (other n m is by_it differ)) ∙ is_first in
            ap (λ b. b || eqb n m) first_is ∙ sym (ap (λ b. b || is_number m f.second) first_is)
        still differ false not_first =
            let first_not : is_number m f.first ≡ false =
            sym (ap (λ (r : Option ℕ). option_map_or (λ n. is_number n f.first) r false) (other n m is by_it differ)) ∙ not_first in
            ap (λ b. b || is_number m f.second) (ne_eqb n m (λ same. differ (sym same)))
            ∙ sym (ap (λ b. b || is_number m f.second) first_not)

        at : (m ≡ n) ⊎ (m ≡ n → ⊥) → holds (beside_run f (running o item) n) m ≡ (holds f m || eqb n m)
        at (inl same) = subst (λ m. holds (beside_run f (running o item) n) m ≡ (holds f m || eqb n m)) (sym same)
            (now keeps ∙ sym (ap (λ b. holds f n || b) (eq-eqb n n refl) ∙ right (holds f n))) where
              right : (b : Bool) → (b || true) ≡ true
              right true = refl
              right false = refl
        at (inr differ) = still differ keeps refl
            ∙ sym (ap (λ b. holds f m || b) (ne_eqb n m (λ same. differ (sym same))) ∙ or-false (holds f m))

      -- a flush more of the admission n
      more : (n m : ℕ) → list_any (awaits_flush m) (ws ++ wait_for place who (awaiteds.Flush n) ∷ [])
          ≡ (list_any (awaits_flush m) ws || eqb m n)
      more n m = list_any-append (awaits_flush m) ws (wait_for place who (awaiteds.Flush n) ∷ [])
          ∙ ap (λ b. list_any (awaits_flush m) ws || b) (or-false (eqb m n || false) ∙ or-false (eqb m n))

      symmetric : (m n : ℕ) → eqb m n ≡ eqb n m
      symmetric m n = at (cases_eq m n) where
        at : (m ≡ n) ⊎ (m ≡ n → ⊥) → eqb m n ≡ eqb n m
        at (inl same) = eq-eqb m n same ∙ sym (eq-eqb n m (sym same))
        at (inr differ) = ne_eqb m n differ ∙ sym (ne_eqb n m (λ same. differ (sym same)))

      by : (number : Option ℕ) → flushed (waiting o item) (running o item) ≡ number →
          AreKept o (noted fl item (running o item) number) (awaiting ws (flush_wait place who number))
      by None is = kept-as o o fl fl ws (ws ++ []) refl refl (append-nil ws) old
      by (Some n) is =
          let g = beside_run f (running o item) n in
          record {
            long = length-set fl item g ∙ old.long;
            kept = λ j m j_in by_j. of j m j_in by_j (cases_eq j item);
          } where
            item_place : item < length fl
            item_place = let long = old.long in omega arith

            of : (j m : ℕ) → j < o.items → IsBy o j m → (j ≡ item) ⊎ (j ≡ item → ⊥) →
                holds (numbers_of (set fl item (beside_run f (running o item) n)) j) m
                ≡ list_any (awaits_flush m) (ws ++ wait_for place who (awaiteds.Flush n) ∷ [])
            of j m j_in by_j (inl same) =
                let by_it = subst (λ j. IsBy o j m) same by_j in
                ap (λ j. holds (numbers_of (set fl item (beside_run f (running o item) n)) j) m) same
                ∙ ap (λ (f : Flushed). holds f m)
                (get_or-set_same fl item (beside_run f (running o item) n) no_numbers item_place)
                ∙ has n m is by_it ∙ ap (λ b. b || eqb n m) (old.kept item m item_in by_it)
                ∙ ap (λ b. list_any (awaits_flush m) ws || b) (symmetric n m) ∙ sym (more n m)
            of j m j_in by_j (inr differ) =
                ap (λ (f : Flushed). holds f m)
                (get_or-set_other fl item j (beside_run f (running o item) n) no_numbers differ)
                ∙ old.kept j m j_in by_j
                ∙ sym (ap (λ b. list_any (awaits_flush m) ws || b) (ne_eqb m n (λ same. differ
                (numbered.apart j item n (subst (IsBy o j) same by_j) (its n is)))) ∙ or-false (list_any (awaits_flush m) ws))
                ∙ sym (more n m)

-- each wait that begins is of its place
pub new-cancel_wait : (place : ℕ) (who : Who) (number : Option ℕ) → IsNewAt place (cancel_wait place who number)
new-cancel_wait place who None = tt
new-cancel_wait place who (Some n) = (refl, refl)

pub new-flush_wait : (place : ℕ) (who : Who) (number : Option ℕ) → IsNewAt place (flush_wait place who number)
new-flush_wait place who None = tt
new-flush_wait place who (Some n) = (refl, refl)

pub new-drain_wait : (idle : Bool) (place : ℕ) (queues : List Queue) (who : Who) (queue : ℕ) →
    IsNewAt place (drain_wait idle place queues who queue)
new-drain_wait true place queues who queue = tt
new-drain_wait false place queues who queue = (refl, refl)

-- a wait more that is no flush
module _ (o : Open) (fl : List Flushed) (ws : List Wait) (old : AreKept o fl ws) where
  beside : (new : Option Wait) → ((w : Wait) (m : ℕ) → new ≡ Some w → awaits_flush m w ≡ false) → AreKept o fl (awaiting ws new)
  beside None none = kept-as o o fl fl ws (ws ++ []) refl refl (append-nil ws) old
  beside (Some w) none =
      record {
        long = old.long;
        kept = λ j m j_in by. old.kept j m j_in by
            ∙ sym (list_any-append (awaits_flush m) ws (w ∷ [])
            ∙ ap (λ b. list_any (awaits_flush m) ws || (b || false)) (none w m refl) ∙ or-false (list_any (awaits_flush m) ws));
      }

  pub kept-cancel_wait : (place : ℕ) (who : Who) (number : Option ℕ) → AreKept o fl (awaiting ws (cancel_wait place who number))
  kept-cancel_wait place who None = beside None (λ w m is. absurd (cc))
  kept-cancel_wait place who (Some n) =
      let new : Wait = wait_for place who (awaiteds.Cancel n) in
      beside (Some new) (λ w m is. ap (awaits_flush m) (sym (same_Some new w is)))

  pub kept-drain_wait : (idle : Bool) (place : ℕ) (queues : List Queue) (who : Who) (queue : ℕ) →
      AreKept o fl (awaiting ws (drain_wait idle place queues who queue))
  kept-drain_wait true place queues who queue = beside None (λ w m is. absurd (cc))
  kept-drain_wait false place queues who queue =
      let new : Wait = wait_for place who (awaiteds.Drain queue (drained_of queues queue)) in
      beside (Some new) (λ w m is. ap (awaits_flush m) (sym (same_Some new w is)))

  -- a flush that ends was of no admission that waits or runs
  pub kept-closed : (queues : List Queue) (closing : Closing) (who : Who) (place : ℕ) →
      AreKept o fl (left_waits o queues ws closing who place)
  kept-closed queues closing who place =
      record {
        long = old.long;
        kept = λ j m j_in by. old.kept j m j_in by
            ∙ sym (any-filter_same (awaits_flush m) stays true (λ w is. stays_by m w (by-open o j m by) is) ws);
      } where
        stays : Wait → Bool
        stays w = not (closes (has_come o queues closing) who place w)

        none_come : (b : Bool) → not (b && false) ≡ true
        none_come true = refl
        none_come false = refl

        come : (m : ℕ) (awaited : Awaited) (c : Closing) → is_open o m ≡ true → flushes (Some m) None awaited ≡ true →
            has_come o queues c awaited ≡ false
        come m (awaiteds.Cancel n) c opened is = absurd (cc)
        come m (awaiteds.Drain queue count) c opened is = absurd (cc)
        come m (awaiteds.Flush n) closings.Cancel opened is = refl
        come m (awaiteds.Flush n) closings.Drain opened is = refl
        come m (awaiteds.Flush n) closings.Flush opened is =
            let same = eqb-true m n (sym (or-false (eqb m n)) ∙ is) in
            ap (λ n. not (is_open o n)) (sym same) ∙ ap not opened

        stays_by : (m : ℕ) (w : Wait) → is_open o m ≡ true → awaits_flush m w ≡ true → stays w ≡ true
        stays_by m w opened is = ap (λ b. not (is_unanswered place who.number w && b)) (come m w.awaited closing opened is)
            ∙ none_come (is_unanswered place who.number w)

-- an admission is awaited by no flush yet
pub kept-admit : (next : ℕ) (o : Open) (fl : List Flushed) (ws : List Wait) (item queue : ℕ) → AreKept o fl ws → AreMade next ws →
    AreOld next fl → waiting o item ≡ None → AreKept (admit o item queue next) fl ws
kept-admit next o fl ws item queue old made below free =
    record {
      long = old.long;
      kept = λ j m j_in by. of j m j_in by (cases_eq j item);
    } where
      after : Open
      after = admit o item queue next

      new-held : (j : ℕ) → holds (numbers_of fl j) next ≡ false
      new-held j = false_from_ne_true (holds (numbers_of fl j) next) (λ is. let less = below j next is in omega arith)

      new-awaited : list_any (awaits_flush next) ws ≡ false
      new-awaited = list_any_none (awaits_flush next) ws (λ k d within. by (get_or ws k d).awaited (made k d within)) where
        by : (awaited : Awaited) → is_made next awaited ≡ true → flushes (Some next) None awaited ≡ false
        by (awaiteds.Cancel n) is = refl
        by (awaiteds.Drain queue count) is = refl
        by (awaiteds.Flush n) is =
            let less = ltb-true n next is in
            or-false (eqb next n) ∙ ne_eqb next n (λ same. omega arith)

      of : (j m : ℕ) → j < o.items → IsBy after j m → (j ≡ item) ⊎ (j ≡ item → ⊥) →
          holds (numbers_of fl j) m ≡ list_any (awaits_flush m) ws
      of j m j_in (inr runs) which = old.kept j m j_in (inr runs)
      of j m j_in (inl waits) (inr differ) = old.kept j m j_in (inl (sym (waiting-admit o j item queue next differ) ∙ waits))
      of j m j_in (inl waits) (inl same) =
          let new = waiting-admitted o item queue next m free (ap (waiting after) (sym same) ∙ waits) in
          ap (holds (numbers_of fl j)) new ∙ new-held j ∙ sym (ap (λ n. list_any (awaits_flush n) ws) new ∙ new-awaited)

-- no numbers at first
pub kept-none : (items queues : ℕ) → AreKept (nothing_open items queues) (replicate items no_numbers) []
kept-none items queues =
    record {
      long = length-replicate items no_numbers;
      kept = λ item number item_in by. ap (λ (f : Flushed). holds f number) (get_or-replicate items item no_numbers no_numbers item_in);
    }

pub old-none : (items : ℕ) → AreOld 0 (replicate items no_numbers)
old-none items item number is = by (cases_lt item items) where
  by : (item < items) ⊎ (items ≤ item) → number < 0
  by (inl within) = absurd (false≢true (sym (ap (λ (f : Flushed). holds f number)
      (get_or-replicate items item no_numbers no_numbers within)) ∙ is))
  by (inr beyond) = absurd (false≢true (sym (ap (λ (f : Flushed). holds f number)
      (get_or_past (replicate items no_numbers) item no_numbers (let long = length-replicate items no_numbers in omega arith))) ∙ is))

pub old-later : (next : ℕ) (fl : List Flushed) → AreOld next fl → AreOld (next + 1) fl
old-later next fl old item number is = let less = old item number is in omega arith

-- a flush of an admission that was made
pub old-noted : (next : ℕ) (o : Open) (fl : List Flushed) (item : ℕ) → AreOld next fl → AreNumbered next o → item < length fl →
    AreOld next (noted fl item (running o item) (flushed (waiting o item) (running o item)))
old-noted next o fl item old numbered item_in = by (flushed (waiting o item) (running o item)) refl where
  f : Flushed
  f = numbers_of fl item

  its : (n : ℕ) → flushed (waiting o item) (running o item) ≡ Some n → IsBy o item n
  its n is = from (waiting o item) refl is where
    from : (w : Option ℕ) → waiting o item ≡ w → option_or w (running o item) ≡ Some n → IsBy o item n
    from None waits is = inr is
    from (Some m) waits is = inl (waits ∙ is)

  held : (n m : ℕ) (b : Bool) → n < next → holds (cond b (record f { second = Some n }) (record f { first = Some n })) m ≡ true →
      m < next
  held n m true less is = at (or_cases (is_number m f.first) (eqb n m) is) where
    at : (is_number m f.first ≡ true) ⊎ (eqb n m ≡ true) → m < next
    at (inl before) = old item m (or_left (is_number m f.first) (is_number m f.second) before)
    at (inr new) = let same = eqb-true n m new in omega arith
  held n m false less is = at (or_cases (eqb n m) (is_number m f.second) is) where
    at : (eqb n m ≡ true) ⊎ (is_number m f.second ≡ true) → m < next
    at (inl new) = let same = eqb-true n m new in omega arith
    at (inr before) = old item m (or_right (is_number m f.first) (is_number m f.second) before)

  by : (number : Option ℕ) → flushed (waiting o item) (running o item) ≡ number →
      AreOld next (noted fl item (running o item) number)
  by None is j m its_j = old j m its_j
  by (Some n) is j m its_j = at (cases_eq j item) where
    g : Flushed
    g = beside_run f (running o item) n

    at : (j ≡ item) ⊎ (j ≡ item → ⊥) → m < next
    at (inl same) = held n m (option_map_or (λ n. is_number n f.first) (running o item) false)
        (numbered.below item n (its n is))
        (sym (ap (λ (f : Flushed). holds f m) (get_or-set_same fl item g no_numbers item_in))
        ∙ ap (λ j. holds (numbers_of (set fl item g) j) m) (sym same) ∙ its_j)
    at (inr differ) = old j m (sym (ap (λ (f : Flushed). holds f m) (get_or-set_other fl item j g no_numbers differ)) ∙ its_j)
