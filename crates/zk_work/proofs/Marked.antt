-- The marks of items that are armed.
use Rattle.std.proofs.Common.{◌≡◌, ◌≢◌, ℕ, zero, suc, ◌-◌, ◌^◌, ◌<◌, Bool, true, false, not, ◌||◌, cond, if◌then◌else◌, Option, Some, None, option_map, List, [], ◌∷◌, length, map, get_or, set, replicate, All, refl, sym, ap, subst, ◌∙◌, ◌⊎◌, inl, inr, eq-eqb, arith}
use Rattle.std.proofs.Math.ListN.{get_or-map}
use Rattle.std.proofs.lemmas.Bool.{cases_eq, ne_eqb, eqb-true, or_parts}
use Rattle.std.proofs.lemmas.List.{length-set, length-replicate, map-set, set-get_or, get_or-set_same, get_or-set_other, get_or-replicate}
use Rattle.std.proofs.lemmas.List.Elements.{All-nil, All-cons, All-head}
use Rattle.std.proofs.lemmas.Map.Views.{any-filter_same}
use Rattle.std.specs.Int.RustNames.{bit_and, bit_or}
use Rattle.std.specs.List.{find, list_any}
use Rattle.std.specs.Option.{option_map_or}
use Rattle.zk_base.proofs.Order.{filter_all, list_any-put_by}
use Rattle.zk_time.specs.declared.timeout.Timeout.{Timeout}
use Rattle.zk_time.specs.Timeouts.{Timeouts, is_of, is_due, nothing_armed, is_armed, deadline_of, queue_of, arm, disarm, due_first, due_rest, drop_due, Differ, IsOrdered}
use Rattle.zk_queue.specs.declared.ticket.Ticket.{Ticket}
use Rattle.zk_queue.specs.Open.{Open, ItemMarks, marks_in, unmarked, nothing_open, marks_of, run, next, is_running, is_queued, flags, mark, drop_item, begun, begin, end}
use Rattle.zk_queue.proofs.Bits.{marks-in, delayed-on, delayed-off}
use Rattle.zk_queue.specs.Open as tickets
use Rattle.zk_time.specs.Timeouts as spec
use Rattle.zk_work.specs.Active.{plain_marks, plain, flushing_in, AreMarked}
use Rattle.zk_work.specs.Engine.{cancelled}
use Rattle.zk_work.proofs.Bits.{cancelling-on, cancelling-off, flushing-on, flushing-off}
use Rattle.zk_work.proofs.Delaying.{disarmed-free}

-- the marks of an item, but not delayed
pub marks-plain : (o : Open) (item : ℕ) → marks_of (plain o) item ≡ plain_marks (marks_of o item)
marks-plain o item = get_or-map plain_marks o.marks item unmarked

-- a mark may tell only that the item is armed or isn't
pub plain-mark : (o : Open) (item n : ℕ) → plain_marks (marks_in n) ≡ plain_marks (marks_of o item) →
    plain (mark o item n) ≡ plain o
plain-mark o item n same =
    ap (λ (ms : List ItemMarks). record (plain o) { marks = ms })
    (map-set plain_marks o.marks item (marks_in n)
    ∙ ap (set (map plain_marks o.marks) item) (same ∙ sym (marks-plain o item))
    ∙ set-get_or (map plain_marks o.marks) item unmarked)

-- the flushing mark of an item
pub marks-flushing : (o : Open) (item : ℕ) → get_or (flushing_in o) item false ≡ (marks_of o item).flushing
marks-flushing o item = get_or-map (λ (m : ItemMarks). m.flushing) o.marks item unmarked

-- an item that is marked as flushing or isn't, as before
pub flushing-mark : (o : Open) (item n : ℕ) → (marks_in n).flushing ≡ (marks_of o item).flushing →
    flushing_in (mark o item n) ≡ flushing_in o
flushing-mark o item n same =
    map-set (λ (m : ItemMarks). m.flushing) o.marks item (marks_in n)
    ∙ ap (set (flushing_in o) item) (same ∙ sym (marks-flushing o item)) ∙ set-get_or (flushing_in o) item false

-- or tell more
pub plain-marked : (o : Open) (item n m : ℕ) → plain_marks (marks_in n) ≡ marks_in m →
    plain (mark o item n) ≡ mark (plain o) item m
plain-marked o item n m same =
    ap (λ (ms : List ItemMarks). record (plain o) { marks = ms })
    (map-set plain_marks o.marks item (marks_in n) ∙ ap (set (map plain_marks o.marks) item) same)

-- one item is marked, and armed so
pub marked-set : (o : Open) (t after : Timeouts) (item n : ℕ) → AreMarked o t → item < o.items → after.items ≡ t.items →
    (marks_in n).delayed ≡ is_armed after item →
    ((j : ℕ) → j ≢ item → is_armed after j ≡ is_armed t j) → AreMarked (mark o item n) after
marked-set o t after item n marked within items here others =
    record {
      armed = items ∙ marked.armed;
      marks = length-set o.marks item (marks_in n) ∙ marked.marks;
      delayed = λ (j : ℕ) j_in. by j j_in (cases_eq j item);
    } where
      place : item < length o.marks
      place = let long = marked.marks in omega arith

      by : (j : ℕ) → j < o.items → (j ≡ item) ⊎ (j ≡ item → ⊥) → (marks_of (mark o item n) j).delayed ≡ is_armed after j
      by j j_in (inl same) =
          subst (λ (j : ℕ). (marks_of (mark o item n) j).delayed ≡ is_armed after j) (sym same)
          (ap (λ (m : ItemMarks). m.delayed) (get_or-set_same o.marks item (marks_in n) unmarked place) ∙ here)
      by j j_in (inr differ) =
          ap (λ (m : ItemMarks). m.delayed) (get_or-set_other o.marks item j (marks_in n) unmarked differ)
          ∙ marked.delayed j j_in ∙ sym (others j differ)

-- where the same marks stand, and the same is armed
pub marked-alike : (o after : Open) (t : Timeouts) → AreMarked o t → after.items ≡ o.items → after.marks ≡ o.marks →
    AreMarked after t
marked-alike o after t marked items marks =
    record {
      armed = marked.armed ∙ sym items;
      marks = ap length marks ∙ marked.marks ∙ sym items;
      delayed = λ (j : ℕ) j_in. ap (λ (ms : List ItemMarks). (get_or ms j unmarked).delayed) marks
          ∙ marked.delayed j (omega arith);
    }

-- nothing is marked at first
pub marked-fresh : (items queues : ℕ) → AreMarked (nothing_open items queues) (nothing_armed items)
marked-fresh items queues =
    record {
      armed = refl;
      marks = length-replicate items unmarked;
      delayed = λ (j : ℕ) j_in. ap (λ (m : ItemMarks). m.delayed) (get_or-replicate items j unmarked unmarked j_in);
    }

pub plain-fresh : (items queues : ℕ) → plain (nothing_open items queues) ≡ nothing_open items queues
plain-fresh items queues = ap (λ (ms : List ItemMarks). record (nothing_open items queues) { marks = ms }) (all items) where
  all : (n : ℕ) → map plain_marks (replicate n unmarked) ≡ replicate n unmarked
  all zero = refl
  all (suc n) = ap (λ (ms : List ItemMarks). unmarked ∷ ms) (all n)

pub flushing-fresh : (items queues : ℕ) → flushing_in (nothing_open items queues) ≡ replicate items false
flushing-fresh items queues = all items where
  all : (n : ℕ) → map (λ (m : ItemMarks). m.flushing) (replicate n unmarked) ≡ replicate n false
  all zero = refl
  all (suc n) = ap (λ (bs : List Bool). false ∷ bs) (all n)

-- a queue begins, and no mark changes
pub plain-begin : (o : Open) (queue : ℕ) → plain (begin o queue) ≡ begin (plain o) queue
plain-begin o queue = at (next o queue) where
  at : (t : Option Ticket) → plain (option_map_or (begun o queue) t o) ≡ option_map_or (begun (plain o) queue) t (plain o)
  at None = refl
  at (Some t) = refl

pub flushing-begin : (o : Open) (queue : ℕ) → flushing_in (begin o queue) ≡ flushing_in o
flushing-begin o queue = at (next o queue) where
  at : (t : Option Ticket) → flushing_in (option_map_or (begun o queue) t o) ≡ flushing_in o
  at None = refl
  at (Some t) = refl

pub marked-begin : (o : Open) (t : Timeouts) (queue : ℕ) → AreMarked o t → AreMarked (begin o queue) t
marked-begin o t queue marked = at (next o queue) where
  at : (b : Option Ticket) → AreMarked (option_map_or (begun o queue) b o) t
  at None = marked
  at (Some b) = marked-alike o (begun o queue b) t marked refl refl

module _ (o : Open) (item : ℕ) where
  abbrev m : ItemMarks
  m = marks_of o item

  -- the marks in the word of an item that is armed now
  marks-on : marks_in (bit_or (flags o item) 8) ≡ record { cancelling = m.cancelling; delayed = true; flushing = m.flushing }
  marks-on = ap marks_in (delayed-on (is_running o item) m.cancelling (is_queued o item) m.delayed m.flushing)
      ∙ marks-in (is_running o item) m.cancelling (is_queued o item) true m.flushing

  -- or isn't any more
  marks-off : marks_in (bit_and (flags o item) (2 ^ 8 - 1 - 8)) ≡ record { cancelling = m.cancelling; delayed = false; flushing = m.flushing }
  marks-off = ap marks_in (delayed-off (is_running o item) m.cancelling (is_queued o item) m.delayed m.flushing)
      ∙ marks-in (is_running o item) m.cancelling (is_queued o item) false m.flushing

  -- or is being cancelled, or isn't any more
  marks-cancelled : marks_in (bit_or (flags o item) 2) ≡ record { cancelling = true; delayed = m.delayed; flushing = m.flushing }
  marks-cancelled = ap marks_in (cancelling-on (is_running o item) m.cancelling (is_queued o item) m.delayed m.flushing)
      ∙ marks-in (is_running o item) true (is_queued o item) m.delayed m.flushing

  marks-over : marks_in (bit_and (flags o item) (2 ^ 8 - 1 - 2)) ≡ record { cancelling = false; delayed = m.delayed; flushing = m.flushing }
  marks-over = ap marks_in (cancelling-off (is_running o item) m.cancelling (is_queued o item) m.delayed m.flushing)
      ∙ marks-in (is_running o item) false (is_queued o item) m.delayed m.flushing

  -- or is being flushed, or isn't any more
  marks-flushed : (b : Bool) (n : ℕ) → n ≡ (if b then bit_or (flags o item) 16 else bit_and (flags o item) (2 ^ 8 - 1 - 16)) →
      marks_in n ≡ record { cancelling = m.cancelling; delayed = m.delayed; flushing = b }
  marks-flushed true n is =
      ap marks_in (is ∙ flushing-on (is_running o item) m.cancelling (is_queued o item) m.delayed m.flushing)
      ∙ marks-in (is_running o item) m.cancelling (is_queued o item) m.delayed true
  marks-flushed false n is =
      ap marks_in (is ∙ flushing-off (is_running o item) m.cancelling (is_queued o item) m.delayed m.flushing)
      ∙ marks-in (is_running o item) m.cancelling (is_queued o item) m.delayed false

-- an item is armed
pub armed-plain : (o : Open) (item n : ℕ) → n ≡ bit_or (flags o item) 8 → plain (mark o item n) ≡ plain o
armed-plain o item n is = plain-mark o item n (ap plain_marks (ap marks_in is ∙ marks-on o item))

pub armed-flushing : (o : Open) (item n : ℕ) → n ≡ bit_or (flags o item) 8 → flushing_in (mark o item n) ≡ flushing_in o
armed-flushing o item n is = flushing-mark o item n (ap (λ (m : ItemMarks). m.flushing) (ap marks_in is ∙ marks-on o item))

pub armed-marked : (o : Open) (t : Timeouts) (item queue deadline n : ℕ) → AreMarked o t → item < o.items →
    n ≡ bit_or (flags o item) 8 → AreMarked (mark o item n) (arm t item queue deadline)
armed-marked o t item queue deadline n marked within is =
    marked-set o t (arm t item queue deadline) item n marked within refl
    (ap (λ (m : ItemMarks). m.delayed) (ap marks_in is ∙ marks-on o item) ∙ sym here) (λ (j : ℕ) differ. other j differ) where
      here : is_armed (arm t item queue deadline) item ≡ true
      here = list_any-put_by (is_of item) (λ (a : Timeout). a.deadline) (record { item = item; queue = queue; deadline = deadline }) t.live
          ∙ ap (λ b. b || list_any (is_of item) t.live) (eq-eqb item item refl)

      other : (j : ℕ) → j ≢ item → is_armed (arm t item queue deadline) j ≡ is_armed t j
      other j differ =
          list_any-put_by (is_of j) (λ (a : Timeout). a.deadline) (record { item = item; queue = queue; deadline = deadline }) t.live
          ∙ ap (λ b. b || list_any (is_of j) t.live) (ne_eqb item j (λ same. differ (sym same)))

-- an item is disarmed
pub disarmed-plain : (o : Open) (item n : ℕ) → n ≡ bit_and (flags o item) (2 ^ 8 - 1 - 8) → plain (mark o item n) ≡ plain o
disarmed-plain o item n is = plain-mark o item n (ap plain_marks (ap marks_in is ∙ marks-off o item))

pub disarmed-flushing : (o : Open) (item n : ℕ) → n ≡ bit_and (flags o item) (2 ^ 8 - 1 - 8) →
    flushing_in (mark o item n) ≡ flushing_in o
disarmed-flushing o item n is = flushing-mark o item n (ap (λ (m : ItemMarks). m.flushing) (ap marks_in is ∙ marks-off o item))

pub disarmed-marked : (o : Open) (t : Timeouts) (item n : ℕ) → AreMarked o t → item < o.items →
    n ≡ bit_and (flags o item) (2 ^ 8 - 1 - 8) → AreMarked (mark o item n) (disarm t item)
disarmed-marked o t item n marked within is =
    marked-set o t (disarm t item) item n marked within refl
    (ap (λ (m : ItemMarks). m.delayed) (ap marks_in is ∙ marks-off o item) ∙ sym (disarmed-free t item))
    (λ (j : ℕ) differ. any-filter_same (is_of j) (λ (a : Timeout). not (is_of item a)) true
    (λ (a : Timeout) its. ap not (ne_eqb a.item item (λ same. differ (sym (eqb-true a.item j its) ∙ same)))) t.live)

-- none of an item that isn't armed
apart : (item : ℕ) (ts : List Timeout) → list_any (is_of item) ts ≡ false → All (λ (a : Timeout). not (is_of item a) ≡ true) ts
apart item [] none = All-nil (λ (a : Timeout). not (is_of item a) ≡ true)
apart item (t ∷ ts) none =
    let parts = or_parts (is_of item t) (list_any (is_of item) ts) none in
    All-cons (λ (a : Timeout). not (is_of item a) ≡ true) t ts (ap not parts.0) (apart item ts parts.1)

-- an item that isn't armed is disarmed as it is
pub disarmed-none : (t : Timeouts) (item : ℕ) → is_armed t item ≡ false → t ≡ disarm t item
disarmed-none t item none =
    ap (λ (ts : List Timeout). record t { live = ts })
    (sym (filter_all (λ (a : Timeout). not (is_of item a)) t.live (apart item t.live none)))

-- what isn't among the timeouts isn't found there
pub find_absent : (item : ℕ) (ts : List Timeout) → list_any (is_of item) ts ≡ false → find (is_of item) ts ≡ None
find_absent item [] none = refl
find_absent item (t ∷ ts) none =
    let parts = or_parts (is_of item t) (list_any (is_of item) ts) none in
    ap (λ b. cond b (Some t) (find (is_of item) ts)) parts.0 ∙ find_absent item ts parts.1

-- what is due first stands in front
due-front : (now : ℕ) (first : Timeout) (ts : List Timeout) → due_first now ts ≡ Some first →
    (rest : List Timeout) × (ts ≡ first ∷ rest) × (due_rest now ts ≡ rest)
due-front now first [] due = absurd (cc)
due-front now first (a ∷ ts) due = at (is_due now a) due where
  at : (b : Bool) → cond b (Some a) None ≡ Some first →
      (rest : List Timeout) × (a ∷ ts ≡ first ∷ rest) × (cond b ts (a ∷ ts) ≡ rest)
  at true due = (ts, ap (λ (a : Timeout). a ∷ ts) (cc), refl)
  at false due = absurd (cc)

-- and is an item
pub due-within : (o : Open) (t : Timeouts) (now : ℕ) (first : Timeout) → AreMarked o t → IsOrdered t →
    due_first now t.live ≡ Some first → first.item < o.items
due-within o t now first marked ordered due =
    let front = due-front now first t.live due in
    let armed = marked.armed in
    let below = All-head (λ (a : Timeout). a.item < t.items) first front.0
    (subst (All (λ (a : Timeout). a.item < t.items)) front.1 ordered.within) in
    omega arith

-- what expires is armed no longer
pub due-marked : (o : Open) (t : Timeouts) (now : ℕ) (first : Timeout) (n : ℕ) → AreMarked o t → IsOrdered t →
    due_first now t.live ≡ Some first → n ≡ bit_and (flags o first.item) (2 ^ 8 - 1 - 8) →
    AreMarked (mark o first.item n) (drop_due t now)
due-marked o t now first n marked ordered due is =
    let front = due-front now first t.live due in
    let differ = subst Differ front.1 ordered.differ in
    marked-set o t (drop_due t now) first.item n marked (due-within o t now first marked ordered due) refl
    (ap (λ (m : ItemMarks). m.delayed) (ap marks_in is ∙ marks-off o first.item)
    ∙ sym (ap (list_any (is_of first.item)) front.2 ∙ differ.0))
    (λ (j : ℕ) apart. ap (list_any (is_of j)) front.2
    ∙ ap (λ b. b || list_any (is_of j) front.0) (sym (ne_eqb first.item j (λ same. apart (sym same))))
    ∙ ap (list_any (is_of j)) (sym front.1))

pub no-pair : (r : Option Timeout) → option_map spec.pair_of r ≡ None → r ≡ None
no-pair None none = refl
no-pair (Some t) none = absurd (cc)

-- where nothing is due, all stays
pub due-none : (t : Timeouts) (now : ℕ) → due_first now t.live ≡ None → drop_due t now ≡ t
due-none t now none = ap (λ (ts : List Timeout). record t { live = ts }) (by t.live none) where
  by : (ts : List Timeout) → due_first now ts ≡ None → due_rest now ts ≡ ts
  by [] none = refl
  by (a ∷ ts) none = at (is_due now a) none where
    at : (b : Bool) → cond b (Some a) None ≡ None → cond b ts (a ∷ ts) ≡ a ∷ ts
    at true none = absurd (cc)
    at false none = refl

-- a pair that was found is a run's
pub run-found : (r : Option Ticket) (p : ℕ × ℕ) → option_map tickets.pair_of r ≡ Some p →
    r ≡ Some (record { item = p.0; number = p.1 })
run-found None p is = absurd (cc)
run-found (Some t) p is =
    let one : tickets.pair_of t ≡ p = (cc) in
    ap (λ (p : ℕ × ℕ). Some (record { item = p.0; number = p.1 })) one

pub due-found : (r : Option Timeout) (p : ℕ × ℕ) → option_map spec.pair_of r ≡ Some p →
    (t : Timeout) × (r ≡ Some t) × (t.item ≡ p.0)
due-found None p is = absurd (cc)
due-found (Some t) p is = let one : spec.pair_of t ≡ p = (cc) in (t, refl, ap (λ (p : ℕ × ℕ). p.0) one)

-- what runs nothing ends as it is
pub end-none : (o : Open) (queue : ℕ) → run o queue ≡ None → end o queue ≡ o
end-none o queue none =
    ap (λ (rs : List (Option Ticket)). record o { runs = rs })
    (ap (set o.runs queue) (sym none) ∙ set-get_or o.runs queue None)

-- a run is over
pub over-plain : (o : Open) (queue item n : ℕ) → n ≡ bit_and (flags (end o queue) item) (2 ^ 8 - 1 - 2) →
    plain (mark (end o queue) item n) ≡ mark (end (plain o) queue) item 0
over-plain o queue item n is =
    plain-marked (end o queue) item n 0 (ap plain_marks (ap marks_in is ∙ marks-over (end o queue) item))

pub over-marked : (o : Open) (t : Timeouts) (queue item n : ℕ) → AreMarked o t → item < o.items →
    n ≡ bit_and (flags (end o queue) item) (2 ^ 8 - 1 - 2) → AreMarked (mark (end o queue) item n) t
over-marked o t queue item n marked within is =
    marked-set (end o queue) t t item n (marked-alike o (end o queue) t marked refl refl) within refl
    (ap (λ (m : ItemMarks). m.delayed) (ap marks_in is ∙ marks-over (end o queue) item) ∙ marked.delayed item within)
    (λ (j : ℕ) differ. refl)

pub over-flushing : (o : Open) (queue item n : ℕ) → n ≡ bit_and (flags (end o queue) item) (2 ^ 8 - 1 - 2) →
    flushing_in (mark (end o queue) item n) ≡ flushing_in o
over-flushing o queue item n is =
    flushing-mark (end o queue) item n (ap (λ (m : ItemMarks). m.flushing) (ap marks_in is ∙ marks-over (end o queue) item))

-- what is dropped and runs is marked as a cancel marks it
pub cancelled-plain : (o : Open) (item n : ℕ) → n ≡ bit_or (flags (drop_item o item) item) 2 →
    plain (mark (drop_item o item) item n) ≡ mark (drop_item (plain o) item) item 2
cancelled-plain o item n is =
    plain-marked (drop_item o item) item n 2 (ap plain_marks (ap marks_in is ∙ marks-cancelled (drop_item o item) item))

pub cancelled-marked : (o : Open) (t : Timeouts) (item n : ℕ) → AreMarked o t → item < o.items →
    n ≡ bit_or (flags (drop_item o item) item) 2 → AreMarked (mark (drop_item o item) item n) t
cancelled-marked o t item n marked within is =
    marked-set (drop_item o item) t t item n (marked-alike o (drop_item o item) t marked refl refl) within refl
    (ap (λ (m : ItemMarks). m.delayed) (ap marks_in is ∙ marks-cancelled (drop_item o item) item) ∙ marked.delayed item within)
    (λ (j : ℕ) differ. refl)

pub cancelled-flushing : (o : Open) (item n : ℕ) → n ≡ bit_or (flags (drop_item o item) item) 2 →
    flushing_in (mark (drop_item o item) item n) ≡ flushing_in o
cancelled-flushing o item n is =
    flushing-mark (drop_item o item) item n
    (ap (λ (m : ItemMarks). m.flushing) (ap marks_in is ∙ marks-cancelled (drop_item o item) item))

-- a cancel of an item whose timeout is gone already
pub cancelled-running : (o before : Open) (item n : ℕ) → plain o ≡ plain before → is_running o item ≡ true →
    n ≡ bit_or (flags (drop_item o item) item) 2 → plain (mark (drop_item o item) item n) ≡ cancelled (plain before) item
cancelled-running o before item n same runs is =
    cancelled-plain o item n is
    ∙ ap (λ b. if b then mark (drop_item (plain o) item) item 2 else drop_item (plain o) item) (sym runs)
    ∙ ap (λ (o : Open). cancelled o item) same

pub cancelled-idle : (o before : Open) (item : ℕ) → plain o ≡ plain before → is_running o item ≡ false →
    plain (drop_item o item) ≡ cancelled (plain before) item
cancelled-idle o before item same idle =
    ap (λ b. if b then mark (drop_item (plain o) item) item 2 else drop_item (plain o) item) (sym idle)
    ∙ ap (λ (o : Open). cancelled o item) same

-- an item is marked as being flushed, or not, and nothing else
module _ (o : Open) (item n : ℕ) (b : Bool)
    (is : n ≡ (if b then bit_or (flags o item) 16 else bit_and (flags o item) (2 ^ 8 - 1 - 16))) where
  pub flushed-plain : plain (mark o item n) ≡ plain o
  flushed-plain = plain-mark o item n (ap plain_marks (marks-flushed o item b n is))

  pub flushed-marked : (t : Timeouts) → AreMarked o t → item < o.items → AreMarked (mark o item n) t
  flushed-marked t marked within =
      marked-set o t t item n marked within refl
      (ap (λ (m : ItemMarks). m.delayed) (marks-flushed o item b n is) ∙ marked.delayed item within) (λ (j : ℕ) differ. refl)

  pub flushed-flushing : flushing_in (mark o item n) ≡ set (flushing_in o) item b
  flushed-flushing =
      map-set (λ (m : ItemMarks). m.flushing) o.marks item (marks_in n)
      ∙ ap (set (flushing_in o) item) (ap (λ (m : ItemMarks). m.flushing) (marks-flushed o item b n is))
