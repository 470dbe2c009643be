-- Each item is marked as flushing where a flush waits for an admission of it.
use Rattle.std.proofs.Common.{◌≡◌, ◌≢◌, ℕ, ◌+◌, ◌<◌, ◌⊎◌, inl, inr, Bool, true, false, not, ◌&&◌, ◌||◌, cond, eqb, Option, Some, None, option_map, option_and_then, List, [], ◌∷◌, ◌++◌, length, set, replicate, get_or, find, All, refl, sym, ap, subst, ◌∙◌, eq-eqb, arith}
use Rattle.std.specs.List.{list_any, position}
use Rattle.std.specs.Option.{option_map_or, option_or}
use Rattle.std.proofs.lemmas.Bool.{cases_eq, eqb-true, ltb-true, lt-ltb, or_left, or_right}
use Rattle.std.proofs.lemmas.List.{length-set, length-replicate, get_or-set_same, get_or-set_other, get_or-replicate}
use Rattle.std.proofs.lemmas.List.Elements.{All-nil, All-cons, All-head, All-tail, All-append, All-filter, All-weaker}
use Rattle.std.proofs.lemmas.List.Folds.{list_any-append, list_any_at}
use Rattle.std.proofs.lemmas.List.Quantifiers.{position-Some}
use Rattle.std.proofs.lemmas.Map.Views.{any-filter_same}
use Rattle.std.proofs.lemmas.Option.{same_Some}
use Rattle.zk_base.specs.declared.ids.Who.{Who}
use Rattle.zk_model_work.specs.declared.parts.Awaited.{Awaited}
use Rattle.zk_model_work.specs.declared.parts.Awaited.TheVariants as awaiteds
use Rattle.zk_model_work.specs.declared.parts.Closing.{Closing}
use Rattle.zk_model_work.specs.declared.parts.Closing.TheVariants as closings
use Rattle.zk_model_work.specs.declared.parts.Queue.{Queue}
use Rattle.zk_model_work.specs.declared.parts.Wait.{Wait}
use Rattle.zk_model_work.specs.Answers.{flushed, flush_wait, cancel_wait, drain_wait, closes, is_unanswered, drained_of, wait_for}
use Rattle.zk_model_work.specs.Lists.{first}
use Rattle.zk_model_work.specs.Machine.{awaiting}
use Rattle.zk_queue.specs.declared.ticket.Ticket.{Ticket}
use Rattle.zk_queue.specs.Line.{is_of, has_number, number_in, number_among}
use Rattle.zk_queue.specs.Open as active
use Rattle.zk_queue.specs.Open.{Open, line, run, if_free, waiting, running, is_running, is_run_of, runs_number, is_open, mark, nothing_open, admit, drop_item, begun, begin, end}
use Rattle.zk_work.specs.Active.{run_over}
use Rattle.zk_work.specs.EngineState.{IsBy, AreNumbered}
use Rattle.zk_work.specs.Engine.{is_number, flushes, is_flushing, cancelled, has_come, left_waits}
use Rattle.zk_work.specs.Flushing.{is_made, AreFlushing}
use Rattle.zk_work.proofs.Others.{waiting-admit, waiting-admitted, waiting-drop, running-begun, running-end}

-- all waits are of flushes of admissions that were made, where they are of flushes
abbrev pub AreMade : ℕ → List Wait → Type 0
AreMade next ws = All (λ (w : Wait). is_made next w.awaited ≡ true) ws

-- what waits and runs by the same admissions is flushed alike
flushing-alike : (o after : Open) (ws : List Wait) (j : ℕ) → waiting after j ≡ waiting o j → running after j ≡ running o j →
    is_flushing after ws j ≡ is_flushing o ws j
flushing-alike o after ws j waits runs =
    ap (λ n. list_any (λ (w : Wait). flushes n (running after j) w.awaited) ws) waits
    ∙ ap (λ n. list_any (λ (w : Wait). flushes (waiting o j) n w.awaited) ws) runs

-- nothing is flushed at first
pub flushing-none : (items queues : ℕ) → AreFlushing 0 (nothing_open items queues) (replicate items false) []
flushing-none items queues =
    record {
      long = length-replicate items false;
      made = All-nil (λ (w : Wait). is_made 0 w.awaited ≡ true);
      marked = λ item within. get_or-replicate items item false false within;
    }

-- an item is marked as it is now, and all others stay as they were
pub flushing-set : (next : ℕ) (o after : Open) (fl : List Bool) (ws now : List Wait) (item : ℕ) →
    AreFlushing next o fl ws → after.items ≡ o.items → AreMade next now → item < o.items →
    ((j : ℕ) → j ≢ item → is_flushing after now j ≡ is_flushing o ws j) →
    AreFlushing next after (set fl item (is_flushing after now item)) now
flushing-set next o after fl ws now item old items made item_in others =
    record {
      long = length-set fl item (is_flushing after now item) ∙ old.long ∙ sym items;
      made = made;
      marked = λ j j_in. by j (subst (λ n. j < n) items j_in) (cases_eq j item);
    } where
      item_place : item < length fl
      item_place = let long = old.long in omega arith

      by : (j : ℕ) → j < o.items → (j ≡ item) ⊎ (j ≡ item → ⊥) →
          get_or (set fl item (is_flushing after now item)) j false ≡ is_flushing after now j
      by j j_in (inl same) =
          subst (λ j. get_or (set fl item (is_flushing after now item)) j false ≡ is_flushing after now j) (sym same)
          (get_or-set_same fl item (is_flushing after now item) false item_place)
      by j j_in (inr differ) =
          get_or-set_other fl item j (is_flushing after now item) false differ ∙ old.marked j j_in ∙ sym (others j differ)

-- a queue begins what waits for it
pub flushing-begun : (next : ℕ) (o : Open) (fl : List Bool) (ws : List Wait) (queue : ℕ) (t : Ticket) → AreFlushing next o fl ws →
    run o queue ≡ None → t.item < o.items →
    AreFlushing next (begun o queue t) (set fl t.item (is_flushing (begun o queue t) ws t.item)) ws
flushing-begun next o fl ws queue t old idle item_in =
    flushing-set next o (begun o queue t) fl ws ws t.item old refl old.made item_in
    (λ j differ. flushing-alike o (begun o queue t) ws j (waiting-drop o j t.item differ) (running-begun o j queue t idle differ))

-- what may begin is the first of a queue that runs nothing
pub next-parts : (o : Open) (queue : ℕ) (t : Ticket) → active.next o queue ≡ Some t →
    (run o queue ≡ None) × (first (line o queue) ≡ Some t)
next-parts o queue t is = by (run o queue) is where
  by : (r : Option Ticket) → if_free r (first (line o queue)) ≡ Some t → (r ≡ None) × (first (line o queue) ≡ Some t)
  by None is = (refl, is)
  by (Some u) is = absurd (cc)

pub flushing-begin : (made : ℕ) (o : Open) (fl : List Bool) (ws : List Wait) (queue : ℕ) (t : Ticket) → AreFlushing made o fl ws →
    active.next o queue ≡ Some t → t.item < o.items →
    AreFlushing made (begin o queue) (set fl t.item (is_flushing (begin o queue) ws t.item)) ws
flushing-begin made o fl ws queue t old is item_in =
    let begins : begin o queue ≡ begun o queue t = ap (λ (r : Option Ticket). option_map_or (begun o queue) r o) is in
    subst (λ (after : Open). AreFlushing made after (set fl t.item (is_flushing after ws t.item)) ws) (sym begins)
    (flushing-begun made o fl ws queue t old (next-parts o queue t is).0 item_in)

-- what a queue runs ends
pub flushing-over : (next : ℕ) (o : Open) (fl : List Bool) (ws : List Wait) (queue : ℕ) (t : Ticket) → AreFlushing next o fl ws →
    run o queue ≡ Some t → t.item < o.items → let after = mark (end o queue) t.item 0 in
    AreFlushing next after (set fl t.item (is_flushing after ws t.item)) ws
flushing-over next o fl ws queue t old runs item_in =
    let after = mark (end o queue) t.item 0 in
    flushing-set next o after fl ws ws t.item old refl old.made item_in
    (λ j differ. flushing-alike o after ws j refl (running-end o j queue t runs differ))

pub flushing-end : (made : ℕ) (o : Open) (fl : List Bool) (ws : List Wait) (queue : ℕ) (t : Ticket) → AreFlushing made o fl ws →
    run o queue ≡ Some t → t.item < o.items →
    AreFlushing made (run_over o queue) (set fl t.item (is_flushing (run_over o queue) ws t.item)) ws
flushing-end made o fl ws queue t old runs item_in =
    let over : run_over o queue ≡ mark (end o queue) t.item 0 =
    ap (λ (r : Option Ticket). option_map_or (λ (t : Ticket). mark (end o queue) t.item 0) r o) runs in
    subst (λ (after : Open). AreFlushing made after (set fl t.item (is_flushing after ws t.item)) ws) (sym over)
    (flushing-over made o fl ws queue t old runs item_in)

-- an item is cancelled
pub flushing-cancelled : (next : ℕ) (o : Open) (fl : List Bool) (ws : List Wait) (item : ℕ) → AreFlushing next o fl ws →
    item < o.items → AreFlushing next (cancelled o item) (set fl item (is_flushing (cancelled o item) ws item)) ws
flushing-cancelled next o fl ws item old item_in = by (is_running o item) where
  by : (b : Bool) → let after = cond b (mark (drop_item o item) item 2) (drop_item o item) in
      AreFlushing next after (set fl item (is_flushing after ws item)) ws
  by true = flushing-set next o (mark (drop_item o item) item 2) fl ws ws item old refl old.made item_in
      (λ j differ. flushing-alike o (mark (drop_item o item) item 2) ws j (waiting-drop o j item differ) refl)
  by false = flushing-set next o (drop_item o item) fl ws ws item old refl old.made item_in
      (λ j differ. flushing-alike o (drop_item o item) ws j (waiting-drop o j item differ) refl)

-- a number that wasn't given yet is awaited by no flush
not-made : (next : ℕ) (waits runs : Option ℕ) (awaited : Awaited) → ((n : ℕ) → waits ≡ Some n → n ≡ next) →
    is_made next awaited ≡ true → flushes waits runs awaited ≡ flushes None runs awaited
not-made next waits runs (awaiteds.Cancel n) new made = refl
not-made next waits runs (awaiteds.Drain queue count) new made = refl
not-made next None runs (awaiteds.Flush n) new made = refl
not-made next (Some m) runs (awaiteds.Flush n) new made = ap (λ b. b || is_number n runs) (by (eqb m n) refl) where
  by : (b : Bool) → eqb m n ≡ b → b ≡ false
  by true same =
      let here = eqb-true m n same in
      let is = new m refl in
      let less = ltb-true n next made in
      absurd (omega arith)
  by false same = refl

any-made : (next : ℕ) (waits runs : Option ℕ) (ws : List Wait) → ((n : ℕ) → waits ≡ Some n → n ≡ next) → AreMade next ws →
    list_any (λ (w : Wait). flushes waits runs w.awaited) ws ≡ list_any (λ (w : Wait). flushes None runs w.awaited) ws
any-made next waits runs [] new made = refl
any-made next waits runs (w ∷ ws) new made =
    let P : Wait → Type 0 = λ w. is_made next w.awaited ≡ true in
    ap (λ b. b || list_any (λ (w : Wait). flushes waits runs w.awaited) ws)
    (not-made next waits runs w.awaited new (All-head P w ws made))
    ∙ ap (λ b. flushes None runs w.awaited || b) (any-made next waits runs ws new (All-tail P w ws made))

made-later : (next : ℕ) (ws : List Wait) → AreMade next ws → AreMade (next + 1) ws
made-later next ws made =
    All-weaker (λ (w : Wait). is_made next w.awaited ≡ true) (λ (w : Wait). is_made (next + 1) w.awaited ≡ true)
    (λ w is. by w.awaited is) ws made where
      by : (awaited : Awaited) → is_made next awaited ≡ true → is_made (next + 1) awaited ≡ true
      by (awaiteds.Cancel n) is = refl
      by (awaiteds.Flush n) is = let less = ltb-true n next is in lt-ltb n (next + 1) (omega arith)
      by (awaiteds.Drain queue count) is = refl

-- an admission is awaited by no flush yet
pub flushing-admit : (next : ℕ) (o : Open) (fl : List Bool) (ws : List Wait) (item queue : ℕ) → AreFlushing next o fl ws →
    waiting o item ≡ None → AreFlushing (next + 1) (admit o item queue next) fl ws
flushing-admit next o fl ws item queue old free =
    record {
      long = old.long;
      made = made-later next ws old.made;
      marked = λ j j_in. old.marked j j_in ∙ sym (by j (cases_eq j item));
    } where
      after : Open
      after = admit o item queue next

      by : (j : ℕ) → (j ≡ item) ⊎ (j ≡ item → ⊥) → is_flushing after ws j ≡ is_flushing o ws j
      by j (inl same) = subst (λ j. is_flushing after ws j ≡ is_flushing o ws j) (sym same)
          (any-made next (waiting after item) (running o item) ws
          (λ n is. waiting-admitted o item queue next n free is) old.made
          ∙ ap (λ n. list_any (λ (w : Wait). flushes n (running o item) w.awaited) ws) (sym free))
      by j (inr differ) = flushing-alike o after ws j (waiting-admit o j item queue next differ) refl

any-behind : (p : Wait → Bool) (ws now : List Wait) → list_any p now ≡ false → list_any p (ws ++ now) ≡ list_any p ws
any-behind p ws now none = list_any-append p ws now ∙ ap (λ b. list_any p ws || b) none ∙ alone (list_any p ws) where
  alone : (b : Bool) → (b || false) ≡ b
  alone true = refl
  alone false = refl

-- a wait more that is no flush
module _ (next : ℕ) (o : Open) (fl : List Bool) (ws : List Wait) (old : AreFlushing next o fl ws) where
  beside : (new : Option Wait) → ((w : Wait) → new ≡ Some w → is_made next w.awaited ≡ true) →
      ((w : Wait) (j : ℕ) → new ≡ Some w → flushes (waiting o j) (running o j) w.awaited ≡ false) →
      AreFlushing next o fl (awaiting ws new)
  beside None made none = record {
    long = old.long;
    made = All-append (λ (w : Wait). is_made next w.awaited ≡ true) ws [] old.made
        (All-nil (λ (w : Wait). is_made next w.awaited ≡ true));
    marked = λ j j_in. old.marked j j_in
        ∙ sym (any-behind (λ (w : Wait). flushes (waiting o j) (running o j) w.awaited) ws [] refl);
  }
  beside (Some w) made none = record {
    long = old.long;
    made = All-append (λ (w : Wait). is_made next w.awaited ≡ true) ws (w ∷ []) old.made
        (All-cons (λ (w : Wait). is_made next w.awaited ≡ true) w [] (made w refl)
        (All-nil (λ (w : Wait). is_made next w.awaited ≡ true)));
    marked = λ j j_in. old.marked j j_in
        ∙ sym (any-behind (λ (w : Wait). flushes (waiting o j) (running o j) w.awaited) ws (w ∷ [])
        (ap (λ b. b || false) (none w j refl)));
  }

  pub flushing-cancel_wait : (place : ℕ) (who : Who) (number : Option ℕ) →
      AreFlushing next o fl (awaiting ws (cancel_wait place who number))
  flushing-cancel_wait place who None = beside None (λ w is. absurd (cc)) (λ w j is. absurd (cc))
  flushing-cancel_wait place who (Some n) =
      let new : Wait = wait_for place who (awaiteds.Cancel n) in
      beside (Some new) (λ w is. ap (λ (w : Wait). is_made next w.awaited) (sym (same_Some new w is)))
      (λ w j is. ap (λ (w : Wait). flushes (waiting o j) (running o j) w.awaited) (sym (same_Some new w is)))

  pub flushing-drain_wait : (idle : Bool) (place : ℕ) (queues : List Queue) (who : Who) (queue : ℕ) →
      AreFlushing next o fl (awaiting ws (drain_wait idle place queues who queue))
  flushing-drain_wait true place queues who queue = beside None (λ w is. absurd (cc)) (λ w j is. absurd (cc))
  flushing-drain_wait false place queues who queue =
      let new : Wait = wait_for place who (awaiteds.Drain queue (drained_of queues queue)) in
      beside (Some new) (λ w is. ap (λ (w : Wait). is_made next w.awaited) (sym (same_Some new w is)))
      (λ w j is. ap (λ (w : Wait). flushes (waiting o j) (running o j) w.awaited) (sym (same_Some new w is)))

is-by : (o : Open) (j n : ℕ) → flushes (waiting o j) (running o j) (awaiteds.Flush n) ≡ true → IsBy o j n
is-by o j n is = by (waiting o j) refl (running o j) refl is where
  number : (m : ℕ) (w : Option ℕ) → is_number n (Some m) ≡ true → w ≡ Some m → w ≡ Some n
  number m w same at = at ∙ ap (λ (n : ℕ). Some n) (eqb-true m n same)

  second : (r : Option ℕ) → running o j ≡ r → is_number n r ≡ true → running o j ≡ Some n
  second None at same = absurd (cc)
  second (Some m) at same = number m (running o j) same at

  by : (w : Option ℕ) → waiting o j ≡ w → (r : Option ℕ) → running o j ≡ r → (is_number n w || is_number n r) ≡ true → IsBy o j n
  by None waits r runs is = inr (second r runs is)
  by (Some m) waits r runs is = first (is_number n (Some m)) refl is where
    first : (b : Bool) → is_number n (Some m) ≡ b → (b || is_number n r) ≡ true → IsBy o j n
    first true same is = inl (number m (waiting o j) same waits)
    first false same is = inr (second r runs is)

-- a flush starts
pub flushing-started : (next : ℕ) (o : Open) (fl : List Bool) (ws : List Wait) (item place : ℕ) (who : Who) →
    AreFlushing next o fl ws → AreNumbered next o → item < o.items →
    let now = awaiting ws (flush_wait place who (flushed (waiting o item) (running o item))) in
    AreFlushing next o (set fl item (is_flushing o now item)) now
flushing-started next o fl ws item place who old numbered item_in =
    by (flushed (waiting o item) (running o item)) refl where
      is_its : (n : ℕ) → flushed (waiting o item) (running o item) ≡ Some n → IsBy o item n
      is_its n is = first (waiting o item) refl is where
        first : (w : Option ℕ) → waiting o item ≡ w → option_or w (running o item) ≡ Some n → IsBy o item n
        first None waits is = inr is
        first (Some m) waits is = inl (waits ∙ is)

      not_of : (j n : ℕ) → j ≢ item → IsBy o item n → (b : Bool) →
          flushes (waiting o j) (running o j) (awaiteds.Flush n) ≡ b → b ≡ false
      not_of j n differ its true is = absurd (differ (numbered.apart j item n (is-by o j n is) its))
      not_of j n differ its false is = refl

      by : (f : Option ℕ) → flushed (waiting o item) (running o item) ≡ f → let now = awaiting ws (flush_wait place who f) in
          AreFlushing next o (set fl item (is_flushing o now item)) now
      by None is = flushing-set next o o fl ws (ws ++ []) item old refl
          (All-append (λ (w : Wait). is_made next w.awaited ≡ true) ws [] old.made
          (All-nil (λ (w : Wait). is_made next w.awaited ≡ true))) item_in
          (λ j differ. any-behind (λ (w : Wait). flushes (waiting o j) (running o j) w.awaited) ws [] refl)
      by (Some n) is =
          let new : Wait = wait_for place who (awaiteds.Flush n) in
          flushing-set next o o fl ws (ws ++ new ∷ []) item old refl
          (All-append (λ (w : Wait). is_made next w.awaited ≡ true) ws (new ∷ []) old.made
          (All-cons (λ (w : Wait). is_made next w.awaited ≡ true) new [] (lt-ltb n next (numbered.below item n (is_its n is)))
          (All-nil (λ (w : Wait). is_made next w.awaited ≡ true)))) item_in
          (λ j differ. any-behind (λ (w : Wait). flushes (waiting o j) (running o j) w.awaited) ws (new ∷ [])
          (ap (λ b. b || false) (not_of j n differ (is_its n is) _ refl)))

-- what an item waits by is open
line-open : (item n : ℕ) (l : List Ticket) → number_in item l ≡ Some n → list_any (has_number n) l ≡ true
line-open item n [] is = absurd (cc)
line-open item n (t ∷ ts) is = at (is_of item t) (line-open item n ts) is where
  at : (b : Bool) → (number_in item ts ≡ Some n → list_any (has_number n) ts ≡ true) →
      option_map (λ (t : Ticket). t.number) (cond b (Some t) (find (is_of item) ts)) ≡ Some n →
      (eqb t.number n || list_any (has_number n) ts) ≡ true
  at true rest is = or_left (eqb t.number n) (list_any (has_number n) ts) (eq-eqb t.number n (same_Some t.number n is))
  at false rest is = or_right (eqb t.number n) (list_any (has_number n) ts) (rest is)

among-open : (item n : ℕ) (lines : List (List Ticket)) → number_among item lines ≡ Some n →
    list_any (list_any (has_number n)) lines ≡ true
among-open item n [] is = absurd (cc)
among-open item n (l ∷ lines) is = by (number_in item l) (among-open item n lines) refl is where
  by : (o : Option ℕ) → (number_among item lines ≡ Some n → list_any (list_any (has_number n)) lines ≡ true) →
      number_in item l ≡ o → option_or o (number_among item lines) ≡ Some n →
      (list_any (has_number n) l || list_any (list_any (has_number n)) lines) ≡ true
  by None rest none is = or_right (list_any (has_number n) l) (list_any (list_any (has_number n)) lines) (rest is)
  by (Some m) rest some is =
      or_left (list_any (has_number n) l) (list_any (list_any (has_number n)) lines) (line-open item n l (some ∙ is))

pub by-open : (o : Open) (item n : ℕ) → IsBy o item n → is_open o n ≡ true
by-open o item n (inl waits) =
    or_right (list_any (runs_number n) o.runs) (list_any (list_any (has_number n)) o.lines) (among-open item n o.lines waits)
by-open o item n (inr runs) =
    or_left (list_any (runs_number n) o.runs) (list_any (list_any (has_number n)) o.lines)
    (at (position (is_run_of item) o.runs) refl runs) where
      number : (r : Option Ticket) → option_map (λ (t : Ticket). t.number) r ≡ Some n → runs_number n r ≡ true
      number None is = absurd (cc)
      number (Some t) is = eq-eqb t.number n (same_Some t.number n is)

      at : (p : Option ℕ) → position (is_run_of item) o.runs ≡ p →
          option_and_then (λ queue. option_map (λ (t : Ticket). t.number) (run o queue)) p ≡ Some n →
          list_any (runs_number n) o.runs ≡ true
      at None place is = absurd (cc)
      at (Some queue) place is =
          list_any_at (runs_number n) o.runs queue None (position-Some (is_run_of item) o.runs queue None place).0
          (number (run o queue) is)

-- a flush that ends was of no admission that waits or runs
pub flushing-closed : (next : ℕ) (o : Open) (fl : List Bool) (queues : List Queue) (ws : List Wait) (closing : Closing) (who : Who)
    (place : ℕ) → AreFlushing next o fl ws → AreFlushing next o fl (left_waits o queues ws closing who place)
flushing-closed next o fl queues ws closing who place old =
    record {
      long = old.long;
      made = All-filter stays (λ (w : Wait). is_made next w.awaited ≡ true) ws old.made;
      marked = λ j j_in. old.marked j j_in ∙ sym (any-filter_same (λ (w : Wait). flushes (waiting o j) (running o j) w.awaited)
          stays true (λ w is. by j w is) ws);
    } where
      stays : Wait → Bool
      stays w = not (closes (has_come o queues closing) who place w)

      none_come : (b : Bool) → not (b && false) ≡ true
      none_come true = refl
      none_come false = refl

      come : (j : ℕ) (awaited : Awaited) (c : Closing) → flushes (waiting o j) (running o j) awaited ≡ true →
          has_come o queues c awaited ≡ false
      come j (awaiteds.Cancel n) c is = absurd (cc)
      come j (awaiteds.Drain queue count) c is = absurd (cc)
      come j (awaiteds.Flush n) closings.Cancel is = refl
      come j (awaiteds.Flush n) closings.Drain is = refl
      come j (awaiteds.Flush n) closings.Flush is = ap not (by-open o j n (is-by o j n is))

      by : (j : ℕ) (w : Wait) → flushes (waiting o j) (running o j) w.awaited ≡ true → stays w ≡ true
      by j w is = ap (λ b. not (is_unanswered place who.number w && b)) (come j w.awaited closing is)
          ∙ none_come (is_unanswered place who.number w)

-- the same marks of the same admissions, for the same waits
pub flushing-as : (next : ℕ) (o same : Open) (fl also : List Bool) (ws now : List Wait) → same ≡ o → also ≡ fl → now ≡ ws →
    AreFlushing next o fl ws → AreFlushing next same also now
flushing-as next o same fl also ws now o_is fl_is ws_is flushing =
    subst (λ (o : Open). AreFlushing next o also now) (sym o_is)
    (subst (λ (fl : List Bool). AreFlushing next o fl now) (sym fl_is)
    (subst (λ (ws : List Wait). AreFlushing next o fl ws) (sym ws_is) flushing))

-- an item whose mark was made by the scan of these waits
pub flushing-marked : (next : ℕ) (after mid new : Open) (fl mid_fl new_fl : List Bool) (ws seen : List Wait) (item : ℕ) →
    mid ≡ after → mid_fl ≡ fl → seen ≡ ws → new ≡ mid → new_fl ≡ set mid_fl item (is_flushing mid seen item) →
    AreFlushing next after (set fl item (is_flushing after ws item)) ws → AreFlushing next new new_fl ws
flushing-marked next after mid new fl mid_fl new_fl ws seen item mid_is fl_is seen_is new_is new_fl_is flushing =
    flushing-as next after new (set fl item (is_flushing after ws item)) new_fl ws ws (new_is ∙ mid_is)
    (new_fl_is ∙ ap (λ (fl : List Bool). set fl item (is_flushing mid seen item)) fl_is
    ∙ ap (λ (o : Open). set fl item (is_flushing o seen item)) mid_is
    ∙ ap (λ (ws : List Wait). set fl item (is_flushing after ws item)) seen_is) refl flushing

-- the items stay
pub items-over : (o : Open) (queue : ℕ) → (run_over o queue).items ≡ o.items
items-over o queue = by (run o queue) where
  by : (r : Option Ticket) → (option_map_or (λ (t : Ticket). mark (end o queue) t.item 0) r o).items ≡ o.items
  by None = refl
  by (Some t) = refl

pub items-cancelled : (o : Open) (item : ℕ) → (cancelled o item).items ≡ o.items
items-cancelled o item = by (is_running o item) where
  by : (b : Bool) → (cond b (mark (drop_item o item) item 2) (drop_item o item)).items ≡ o.items
  by true = refl
  by false = refl
