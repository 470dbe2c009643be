-- A caller's writes at signals: those of one signal, the one of a stamp, and those up to a stamp.
use Rattle.std.proofs.Common.{◌≡◌, ◌≢◌, ◌⊎◌, inl, inr, ℕ, zero, suc, ◌+◌, ◌-◌, ◌^◌, ◌<◌, ◌≤◌, Bool, true, false, cond, eqb, Some, List, [], ◌∷◌, ◌++◌, length, map, All, Contains, refl, sym, ap, subst, ◌∙◌, arith, append-nil}
use Rattle.std.specs.List.{filter, slice_get}
use Rattle.std.proofs.lemmas.Bool.{eqb-true, eq-eqb, ne_eqb}
use Rattle.std.proofs.lemmas.List.{length-append, length-map, map-append, append_assoc}
use Rattle.std.proofs.lemmas.List.Elements.{All-nil, All-cons, All-head, All-tail, All-push, All-weaker, All-contains, filter-append}
use Rattle.std.proofs.lemmas.Option.{same_Some, slice_get_within}
use native.Mathlib.Decide.{ℕ_discrete}
use Rattle.zk_signal.specs.Counts.{Rises}
use Rattle.zk_worker.proofs.Lists.{at-front, there-behind}
use Rattle.zk_worker.specs.Single.{OthersGrew}
use Rattle.zk_cells.specs.declared.notes.Note.{Note}
use Rattle.zk_poll.specs.Seen.{left_by}
use Rattle.zk_cells.specs.Joined.{left_at}
use Rattle.zk_cells.specs.Notes.{Write, unseen, stamp_of, notes_at, entries_of, writes_at, write_at, writes_to}

-- an element of a list stands at its place
pub contains-head : {A : Type 0} (x : A) (xs : List A) → Contains (x ∷ xs) x
contains-head x xs = (0, omega arith, refl)

pub contains-tail : {A : Type 0} (y : A) (xs : List A) (x : A) → Contains xs x → Contains (y ∷ xs) x
contains-tail y xs x there = (suc there.0, (let lt = there.1 in omega arith), there.2)

pub contains-cases : {A : Type 0} (y : A) (xs : List A) (x : A) → Contains (y ∷ xs) x → (y ≡ x) ⊎ Contains xs x
contains-cases y xs x (zero, lt, is) = inl is
contains-cases y xs x (suc i, lt, is) = inr (i, (omega arith), is)

pub contains-none : {A : Type 0} (x : A) → Contains [] x → ⊥
contains-none x there = let lt = there.1 in absurd (omega arith)

-- what stands in a mapped list comes from an element
pub contains-mapped : {A B : Type 0} (f : A → B) (xs : List A) (y : B) → Contains (map f xs) y → (x : A) × Contains xs x × (f x ≡ y)
contains-mapped f [] y there = absurd (contains-none y there)
contains-mapped {A = A} f (x ∷ xs) y there = by (contains-cases (f x) (map f xs) y there) (λ more. contains-mapped f xs y more)
  where
    by : (f x ≡ y) ⊎ Contains (map f xs) y → (Contains (map f xs) y → (z : A) × Contains xs z × (f z ≡ y)) → (z : A) × Contains (x ∷ xs) z × (f z ≡ y)
    by (inl is) later = (x, contains-head x xs, is)
    by (inr more) later = let rest = later more in (rest.0, contains-tail x xs rest.0 rest.1, rest.2)

pub contains-map : {A B : Type 0} (f : A → B) (xs : List A) (x : A) → Contains xs x → Contains (map f xs) (f x)
contains-map f [] x there = absurd (contains-none x there)
contains-map {A = A} f (y ∷ xs) x there = by (contains-cases y xs x there) (λ more. contains-map f xs x more)
  where
    by : (y ≡ x) ⊎ Contains xs x → (Contains xs x → Contains (map f xs) (f x)) → Contains (f y ∷ map f xs) (f x)
    by (inl is) later = subst (λ (z : A). Contains (f y ∷ map f xs) (f z)) is (contains-head (f y) (map f xs))
    by (inr more) later = contains-tail (f y) (map f xs) (f x) (later more)

-- what stands at a place is an element, and an element stands at some place
pub contains-at : {A : Type 0} (xs : List A) (p : ℕ) (x : A) → slice_get xs p ≡ Some x → Contains xs x
contains-at [] p x is = absurd (cc)
contains-at (y ∷ xs) zero x is = subst (Contains (y ∷ xs)) (same_Some y x is) (contains-head y xs)
contains-at (y ∷ xs) (suc p) x is = contains-tail y xs x (contains-at xs p x is)

pub place-there : {A : Type 0} (xs : List A) (x : A) → Contains xs x → (p : ℕ) × (slice_get xs p ≡ Some x)
place-there [] x there = absurd (contains-none x there)
place-there {A = A} (y ∷ xs) x there = by (contains-cases y xs x there) (λ more. place-there xs x more)
  where
    by : (y ≡ x) ⊎ Contains xs x → (Contains xs x → (p : ℕ) × (slice_get xs p ≡ Some x)) → (p : ℕ) × (slice_get (y ∷ xs) p ≡ Some x)
    by (inl is) later = (0, ap (λ (z : A). Some z) is)
    by (inr more) later = let rest = later more in (suc rest.0, rest.1)

-- what passes a test is what a filter keeps
pub contains-filter : {A : Type 0} (test : A → Bool) (xs : List A) (x : A) → Contains xs x → test x ≡ true → Contains (filter test xs) x
contains-filter test [] x there passes = absurd (contains-none x there)
contains-filter test (y ∷ xs) x there passes = by (test y) refl (contains-cases y xs x there) (λ more. contains-filter test xs x more passes)
  where
    by : (b : Bool) → test y ≡ b → (y ≡ x) ⊎ Contains xs x → (Contains xs x → Contains (filter test xs) x) → Contains (cond b (y ∷ filter test xs) (filter test xs)) x
    by true is (inl same) later = subst (Contains (y ∷ filter test xs)) same (contains-head y (filter test xs))
    by true is (inr more) later = contains-tail y (filter test xs) x (later more)
    by false is (inl same) later = let never : test y ≡ true = ap test same ∙ passes in absurd (cc)
    by false is (inr more) later = later more

pub contains-kept : {A : Type 0} (test : A → Bool) (xs : List A) (x : A) → Contains (filter test xs) x → Contains xs x × (test x ≡ true)
contains-kept test [] x there = absurd (contains-none x there)
contains-kept test (y ∷ xs) x there = by (test y) refl there (λ more. contains-kept test xs x more)
  where
    by : (b : Bool) → test y ≡ b → Contains (cond b (y ∷ filter test xs) (filter test xs)) x → (Contains (filter test xs) x → Contains xs x × (test x ≡ true)) → Contains (y ∷ xs) x × (test x ≡ true)
    by true is there later = one (contains-cases y (filter test xs) x there)
      where
        one : (y ≡ x) ⊎ Contains (filter test xs) x → Contains (y ∷ xs) x × (test x ≡ true)
        one (inl same) = (subst (Contains (y ∷ xs)) same (contains-head y xs), ap test (sym same) ∙ is)
        one (inr more) = let rest = later more in (contains-tail y xs x rest.0, rest.1)
    by false is there later = let rest = later there in (contains-tail y xs x rest.0, rest.1)

-- a filter keeps no more than there is
pub few-kept : {A : Type 0} (test : A → Bool) (xs : List A) → length (filter test xs) ≤ length xs
few-kept test [] = omega arith
few-kept test (x ∷ xs) = by (test x) (few-kept test xs)
  where
    by : (b : Bool) → length (filter test xs) ≤ length xs → length (cond b (x ∷ filter test xs) (filter test xs)) ≤ length (x ∷ xs)
    by true rest = omega arith
    by false rest = omega arith

-- so of one signal there are no more writes than notes
pub few-writes : (notes : List Note) (object : ℕ) → length (writes_at notes object) ≤ length notes
few-writes notes object =
    let few = few-kept (λ (n : Note). eqb n.signal object) notes in
    let long = length-map (notes_at notes object) (λ (n : Note). n.entry) in
    omega arith

-- one note more: at its signal, and at another
pub notes-append : (a b : List Note) (object : ℕ) → notes_at (a ++ b) object ≡ notes_at a object ++ notes_at b object
notes-append a b object = filter-append (λ (n : Note). eqb n.signal object) a b

pub writes-append : (a b : List Note) (object : ℕ) → writes_at (a ++ b) object ≡ writes_at a object ++ writes_at b object
writes-append a b object =
    ap entries_of (notes-append a b object) ∙ map-append (λ (n : Note). n.entry) (notes_at a object) (notes_at b object)

pub writes-here : (notes : List Note) (n : Note) (object : ℕ) → n.signal ≡ object → writes_at (notes ++ n ∷ []) object ≡ writes_at notes object ++ n.entry ∷ []
writes-here notes n object same =
    writes-append notes (n ∷ []) object
    ∙ ap (λ (b : Bool). writes_at notes object ++ entries_of (cond b (n ∷ []) [])) (eq-eqb n.signal object same)

pub writes-else : (notes : List Note) (n : Note) (object : ℕ) → n.signal ≢ object → writes_at (notes ++ n ∷ []) object ≡ writes_at notes object
writes-else notes n object differ =
    writes-append notes (n ∷ []) object
    ∙ ap (λ (b : Bool). writes_at notes object ++ entries_of (cond b (n ∷ []) [])) (ne_eqb n.signal object differ)
    ∙ append-nil (writes_at notes object)

-- what they left
pub left-append : (a b : List Note) (object : ℕ) → left_at (a ++ b) object ≡ left_at a object ++ left_at b object
left-append a b object = ap (map left_by) (writes-append a b object) ∙ map-append left_by (writes_at a object) (writes_at b object)

-- a write of a signal is noted there
pub note-of : (notes : List Note) (object : ℕ) (e : Write) → Contains (writes_at notes object) e → (n : Note) × Contains notes n × (n.signal ≡ object) × (n.entry ≡ e)
note-of notes object e there =
    let at = contains-mapped (λ (n : Note). n.entry) (notes_at notes object) e there in
    let kept = contains-kept (λ (n : Note). eqb n.signal object) notes at.0 at.1 in
    (at.0, kept.0, eqb-true at.0.signal object kept.1, at.2)

pub write-of-note : (notes : List Note) (n : Note) → Contains notes n → Contains (writes_at notes n.signal) n.entry
write-of-note notes n there =
    contains-map (λ (m : Note). m.entry) (notes_at notes n.signal) n
    (contains-filter (λ (m : Note). eqb m.signal n.signal) notes n there (eq-eqb n.signal n.signal refl))

-- where steps rise and are below a number there are at most so many
rising-few : (ns : List ℕ) (low high : ℕ) → low ≤ high → Rises ns → All (λ n. low ≤ n) ns → All (λ n. n < high) ns → length ns + low ≤ high
rising-few [] low high le rise lows highs = omega arith
rising-few (n ∷ ns) low high le rise lows highs =
    let L : ℕ → Type 0 = λ m. low ≤ m in
    let H : ℕ → Type 0 = λ m. m < high in
    let first = All-head L n ns lows in
    let under = All-head H n ns highs in
    let P : ℕ → Type 0 = λ m. n < m in
    let Q : ℕ → Type 0 = λ m. n + 1 ≤ m in
    let up : (m : ℕ) → P m → Q m = λ m lt. omega arith in
    let rest = rising-few ns (n + 1) high (omega arith) rise.1 (All-weaker P Q up ns rise.0) (All-tail H n ns highs) in
    omega arith

pub few-rising : (ns : List ℕ) (high : ℕ) → Rises ns → All (λ n. n < high) ns → length ns ≤ high
few-rising ns high rise highs = let all = rising-few ns 0 high (omega arith) rise (anything ns) highs in omega arith
  where
    anything : (l : List ℕ) → All (λ n. 0 ≤ n) l
    anything [] = let P : ℕ → Type 0 = λ n. 0 ≤ n in All-nil P
    anything (x ∷ xs) = let P : ℕ → Type 0 = λ n. 0 ≤ n in All-cons P x xs (omega arith) (anything xs)

-- one number more, above all
pub rises-push : (ns : List ℕ) (n : ℕ) → Rises ns → All (λ m. m < n) ns → Rises (ns ++ n ∷ [])
rises-push [] n rise below = let P : ℕ → Type 0 = λ m. n < m in (All-nil P, tt)
rises-push (m ∷ ns) n rise below =
    let P : ℕ → Type 0 = λ k. m < k in
    let B : ℕ → Type 0 = λ k. k < n in
    (All-push P ns n rise.0 (All-head B m ns below), rises-push ns n rise.1 (All-tail B m ns below))

-- what stands at a stamp has it
pub stamp-write : (own : List Write) (stamp : ℕ) → stamp_of (write_at own stamp) ≡ stamp
stamp-write [] stamp = refl
stamp-write (e ∷ es) stamp = by (eqb (stamp_of e) stamp) refl (stamp-write es stamp)
  where
    by : (b : Bool) → eqb (stamp_of e) stamp ≡ b → stamp_of (write_at es stamp) ≡ stamp → stamp_of (cond b e (write_at es stamp)) ≡ stamp
    by true is rest = eqb-true (stamp_of e) stamp is
    by false is rest = rest

-- it is an own write, or one of nobody
pub own-or-unseen : (own : List Write) (stamp : ℕ) → Contains own (write_at own stamp) ⊎ (write_at own stamp ≡ unseen stamp)
own-or-unseen [] stamp = inr refl
own-or-unseen (e ∷ es) stamp = by (eqb (stamp_of e) stamp) (own-or-unseen es stamp)
  where
    by : (b : Bool) → Contains es (write_at es stamp) ⊎ (write_at es stamp ≡ unseen stamp) →
        Contains (e ∷ es) (cond b e (write_at es stamp)) ⊎ (cond b e (write_at es stamp) ≡ unseen stamp)
    by true rest = inl (contains-head e es)
    by false (inl there) = inl (contains-tail e es (write_at es stamp) there)
    by false (inr is) = inr is

-- above all own stamps it is one of nobody
pub none-above : (own : List Write) (top stamp : ℕ) → All (λ e. stamp_of e ≤ top) own → top < stamp → write_at own stamp ≡ unseen stamp
none-above [] top stamp below above = refl
none-above (e ∷ es) top stamp below above =
    let P : Write → Type 0 = λ e. stamp_of e ≤ top in
    let first = All-head P e es below in
    ap (λ (b : Bool). cond b e (write_at es stamp)) (ne_eqb (stamp_of e) stamp (λ same. omega arith))
    ∙ none-above es top stamp (All-tail P e es below) above

-- one own write more
pub write-more : (own : List Write) (e : Write) (stamp : ℕ) → stamp ≢ stamp_of e → write_at (own ++ e ∷ []) stamp ≡ write_at own stamp
write-more [] e stamp differ = ap (λ (b : Bool). cond b e (unseen stamp)) (ne_eqb (stamp_of e) stamp (λ same. differ (sym same)))
write-more (x ∷ own) e stamp differ = ap (λ (w : Write). cond (eqb (stamp_of x) stamp) x w) (write-more own e stamp differ)

pub write-new : (own : List Write) (e : Write) → All (λ x. stamp_of x < stamp_of e) own → write_at (own ++ e ∷ []) (stamp_of e) ≡ e
write-new [] e below = ap (λ (b : Bool). cond b e (unseen (stamp_of e))) (eq-eqb (stamp_of e) (stamp_of e) refl)
write-new (x ∷ own) e below =
    let P : Write → Type 0 = λ x. stamp_of x < stamp_of e in
    let first = All-head P x own below in
    ap (λ (b : Bool). cond b x (write_at (own ++ e ∷ []) (stamp_of e))) (ne_eqb (stamp_of x) (stamp_of e) (λ same. omega arith))
    ∙ write-new own e (All-tail P x own below)

-- an own write stands at its stamp
pub write-own : (own : List Write) (e : Write) → Rises (map stamp_of own) → Contains own e → write_at own (stamp_of e) ≡ e
write-own [] e rise there = absurd (contains-none e there)
write-own (x ∷ own) e rise there = by (contains-cases x own e there) (λ more. write-own own e rise.1 more)
  where
    by : (x ≡ e) ⊎ Contains own e → (Contains own e → write_at own (stamp_of e) ≡ e) → write_at (x ∷ own) (stamp_of e) ≡ e
    by (inl is) later =
        ap (λ (b : Bool). cond b x (write_at own (stamp_of e))) (eq-eqb (stamp_of x) (stamp_of e) (ap stamp_of is)) ∙ is
    by (inr more) later =
        let P : ℕ → Type 0 = λ m. stamp_of x < m in
        let above : stamp_of x < stamp_of e = All-contains P (map stamp_of own) (stamp_of e) rise.0 (contains-map stamp_of own e more) in
        ap (λ (b : Bool). cond b x (write_at own (stamp_of e))) (ne_eqb (stamp_of x) (stamp_of e) (λ same. omega arith)) ∙ later more

-- as many as the stamp says
pub long-to : (own : List Write) (top : ℕ) → length (writes_to own top) ≡ top
long-to own zero = refl
long-to own (suc n) =
    let rest = long-to own n in
    let more = length-append (writes_to own n) (write_at own (suc n) ∷ []) in
    omega arith

-- each stands at the place before its stamp
pub at-stamp : (own : List Write) (top p : ℕ) → p < top → slice_get (writes_to own top) p ≡ Some (write_at own (suc p))
at-stamp own zero p within = absurd (omega arith)
at-stamp own (suc n) p within = by (ℕ_discrete p n) (λ more. at-stamp own n p more)
  where
    long : length (writes_to own n) ≡ n
    long = long-to own n

    by : Dec (p ≡ n) → (p < n → slice_get (writes_to own n) p ≡ Some (write_at own (suc p))) →
        slice_get (writes_to own n ++ write_at own (suc n) ∷ []) p ≡ Some (write_at own (suc p))
    by (yes same) rest =
        ap (slice_get (writes_to own n ++ write_at own (suc n) ∷ [])) (same ∙ sym long)
        ∙ there-behind (writes_to own n) (write_at own (suc n))
        ∙ ap (λ (k : ℕ). Some (write_at own (suc k))) (sym same)
    by (no differ) rest =
        at-front (writes_to own n) (write_at own (suc n) ∷ []) p (omega (arith, long)) ∙ rest (omega arith)

-- what stands there has a place below the stamp
pub at-place : (own : List Write) (top p : ℕ) (e : Write) → slice_get (writes_to own top) p ≡ Some e → (p < top) × (write_at own (suc p) ≡ e)
at-place own zero p e is = absurd (cc)
at-place own (suc n) p e is = by (ℕ_discrete p n) (λ more. at-place own n p e more)
  where
    long : length (writes_to own n) ≡ n
    long = long-to own n

    within : p < suc n
    within = (let all = slice_get_within (writes_to own (suc n)) p e is in let l = long-to own (suc n) in omega arith)

    by : Dec (p ≡ n) → (slice_get (writes_to own n) p ≡ Some e → (p < n) × (write_at own (suc p) ≡ e)) → (p < suc n) × (write_at own (suc p) ≡ e)
    by (yes same) rest = (within, same_Some (write_at own (suc p)) e (sym (at-stamp own (suc n) p within) ∙ is))
    by (no differ) rest = (within, same_Some (write_at own (suc p)) e (sym (at-stamp own (suc n) p within) ∙ is))

-- one own write more, above the stamp
pub to-more : (own : List Write) (e : Write) (top : ℕ) → top < stamp_of e → writes_to (own ++ e ∷ []) top ≡ writes_to own top
to-more own e zero above = refl
to-more own e (suc n) above =
    ap (λ (h : List Write). h ++ write_at (own ++ e ∷ []) (suc n) ∷ []) (to-more own e n (omega arith))
    ∙ ap (λ (w : Write). writes_to own n ++ w ∷ []) (write-more own e (suc n) (λ same. omega arith))

-- and with it
pub to-new : (own : List Write) (e : Write) (before : ℕ) → stamp_of e ≡ suc before → All (λ x. stamp_of x ≤ before) own →
    writes_to (own ++ e ∷ []) (suc before) ≡ writes_to own before ++ e ∷ []
to-new own e before is below =
    let P : Write → Type 0 = λ x. stamp_of x ≤ before in
    let Q : Write → Type 0 = λ x. stamp_of x < stamp_of e in
    let lower : (x : Write) → P x → Q x = λ x le. omega (arith, is) in
    ap (λ (h : List Write). h ++ write_at (own ++ e ∷ []) (suc before) ∷ []) (to-more own e before (omega (arith, is)))
    ∙ ap (λ (w : Write). writes_to own before ++ w ∷ [])
    (ap (write_at (own ++ e ∷ [])) (sym is) ∙ write-new own e (All-weaker P Q lower own below))

-- up to a greater stamp than all own ones there come writes of nobody
pub others-to : (number : ℕ) (own : List Write) (top more : ℕ) → number < 2 ^ 32 → All (λ e. stamp_of e ≤ top) own → OthersGrew number (writes_to own top) (writes_to own (top + more))
others-to number own top zero few below = let same : top + zero ≡ top = omega arith in record {
  more = [];
  longer = ap (writes_to own) same ∙ sym (append-nil (writes_to own top));
  others = (let P : Write → Type 0 = λ e. e.who.number ≢ number in All-nil P);
}
others-to number own top (suc more) few below =
    let P : Write → Type 0 = λ e. e.who.number ≢ number in
    let rest = others-to number own top more few below in
    let next : top + suc more ≡ suc (top + more) = omega arith in
    let one : write_at own (suc (top + more)) ≡ unseen (suc (top + more)) = none-above own top (suc (top + more)) below (omega arith) in
    let other : P (unseen (suc (top + more))) = λ same. omega arith in
    record {
      more = rest.more ++ unseen (suc (top + more)) ∷ [];
      longer = ap (writes_to own) next
          ∙ ap (λ (h : List Write). h ++ write_at own (suc (top + more)) ∷ []) rest.longer
          ∙ ap (λ (w : Write). (writes_to own top ++ rest.more) ++ w ∷ []) one
          ∙ append_assoc (writes_to own top) rest.more (unseen (suc (top + more)) ∷ []);
      others = All-push P rest.more (unseen (suc (top + more))) rest.others other;
    }

pub others-up : (number : ℕ) (own : List Write) (top high : ℕ) → number < 2 ^ 32 → All (λ e. stamp_of e ≤ top) own → top ≤ high → OthersGrew number (writes_to own top) (writes_to own high)
others-up number own top high few below le =
    let is : top + (high - top) ≡ high = omega arith in
    subst (λ (k : ℕ). OthersGrew number (writes_to own top) (writes_to own k)) is (others-to number own top (high - top) few below)
