-- How often a queue has drained stays below the number of entries, and the queues that a state begins with.
use Rattle.zk_base.specs.Limits.{most_entries}
use Rattle.std.proofs.Common.{◌≡◌, ℕ, zero, suc, ◌+◌, ◌^◌, ◌<◌, ◌≤◌, Bool, true, false, not, ◌&&◌, cond, List, [], ◌∷◌, ◌++◌, length, get_or, take, drop, All, refl, sym, ap, subst, ◌∙◌, arith}
use Rattle.std.proofs.Math.Seq.{take-append_seam}
use Rattle.std.proofs.lemmas.List.Elements.{All-nil, All-cons, All-head, All-tail}
use Rattle.zk_model_work.specs.declared.parts.Queue.{Queue}
use Rattle.zk_model_work.specs.declared.parts.Change.{Change}
use Rattle.zk_model_work.specs.declared.parts.Change.TheVariants as changes
use Rattle.zk_model_work.specs.Answers.{is_plugged}
use Rattle.zk_model_work.specs.State.{IsCounted, IsTimed, fresh_queue, fresh_queues}
use Rattle.zk_model_work.specs.Machine.{changed_queue, change, change_where, drain, stop, settle_one, settle_from}

pub length-settle_from : (idle : ℕ → Bool) (from : ℕ) (xs : List Queue) → length (settle_from idle from xs) ≡ length xs
length-settle_from idle from [] = refl
length-settle_from idle from (x ∷ xs) = ap suc (length-settle_from idle (from + 1) xs)

-- one draining more at most
drained-settle_one : (idle : ℕ → Bool) (number n : ℕ) (q : Queue) → q.drained ≤ n → (settle_one idle number q).drained ≤ n + 1
drained-settle_one idle number n q most = at (q.draining && idle number) where
  at : (b : Bool) → (cond b (record q { draining = false; drained = q.drained + 1 }) q).drained ≤ n + 1
  at true = omega arith
  at false = omega arith

drained-settle_from : (idle : ℕ → Bool) (from n : ℕ) (xs : List Queue) → All (λ (q : Queue). q.drained ≤ n) xs →
    All (λ (q : Queue). q.drained ≤ n + 1) (settle_from idle from xs)
drained-settle_from idle from n [] most = let P : Queue → Type 0 = λ q. q.drained ≤ n + 1 in All-nil P
drained-settle_from idle from n (x ∷ xs) most =
    let Q : Queue → Type 0 = λ q. q.drained ≤ n in
    let P : Queue → Type 0 = λ q. q.drained ≤ n + 1 in
    All-cons P (settle_one idle from x) (settle_from idle (from + 1) xs)
    (drained-settle_one idle from n x (All-head Q x xs most))
    (drained-settle_from idle (from + 1) n xs (All-tail Q x xs most))

-- what is written over the whole list stands there afterwards
whole : (len : ℕ) (old new : List Queue) → len ≡ length old → length new ≡ length old →
    take len (new ++ drop (length new) old) ≡ new
whole len old new same long = ap (λ n. take n (new ++ drop (length new) old)) (same ∙ sym long)
    ∙ take-append_seam new (drop (length new) old)

-- an entry that leaves the queues
pub IsCounted-more : (entries : ℕ) (qs : List Queue) → IsCounted entries qs → entries < most_entries → IsCounted (entries + 1) qs
IsCounted-more entries qs was few =
    let was_few = was.few in
    record {
      drained = λ k d within. let one = was.drained k d within in omega arith;
      entries_fit = omega arith;
      few = omega arith;
    }

-- an entry that settles them
pub IsCounted-settled : (entries : ℕ) (idle : ℕ → Bool) (qs : List Queue) → IsCounted entries qs → entries < most_entries →
    IsCounted (entries + 1) (settle_from idle 0 qs)
IsCounted-settled entries idle qs was few =
    let was_few = was.few in
    let long = length-settle_from idle 0 qs in
    record {
      drained = drained-settle_from idle 0 entries qs was.drained;
      entries_fit = omega arith;
      few = omega arith;
    }

-- and writes them in their places
pub IsCounted-settle : (entries len : ℕ) (idle : ℕ → Bool) (old new : List Queue) → IsCounted entries old →
    entries < most_entries → len ≡ length old → new ≡ settle_from idle 0 old →
    IsCounted (entries + 1) (take len (new ++ drop (length new) old))
IsCounted-settle entries len idle old new was few same said =
    let long : length new ≡ length old = ap length said ∙ length-settle_from idle 0 old in
    let P : List Queue → Type 0 = λ qs. IsCounted (entries + 1) qs in
    subst P (sym (whole len old new same long ∙ said)) (IsCounted-settled entries idle old was few)

pub length-change : (c : Change) (qs : List Queue) (n : ℕ) → length (change c qs n) ≡ length qs
length-change c [] n = refl
length-change c (q ∷ qs) zero = refl
length-change c (q ∷ qs) (suc n) = ap suc (length-change c qs n)

-- no change counts a draining
drained-changed : (c : Change) (q : Queue) → (changed_queue c q).drained ≡ q.drained
drained-changed changes.Start q = refl
drained-changed changes.Plug q = refl
drained-changed changes.Unplug q = refl
drained-changed changes.Stop q = refl
drained-changed changes.Drain q = refl

drained-change : (c : Change) (qs : List Queue) (number n : ℕ) → All (λ (q : Queue). q.drained ≤ n) qs →
    All (λ (q : Queue). q.drained ≤ n) (change c qs number)
drained-change c [] number n most = most
drained-change c (q ∷ qs) zero n most =
    let P : Queue → Type 0 = λ q. q.drained ≤ n in
    let here = All-head P q qs most in
    let same = drained-changed c q in
    All-cons P (changed_queue c q) qs (omega arith) (All-tail P q qs most)
drained-change c (q ∷ qs) (suc number) n most =
    let P : Queue → Type 0 = λ q. q.drained ≤ n in
    All-cons P q (change c qs number) (All-head P q qs most) (drained-change c qs number n (All-tail P q qs most))

-- a change of a queue
pub IsCounted-change : (c : Change) (entries number : ℕ) (qs : List Queue) → IsCounted entries qs →
    IsCounted entries (change c qs number)
IsCounted-change c entries number qs was =
    let was_few = was.few in
    let long = length-change c qs number in
    record { drained = drained-change c qs number entries was.drained; entries_fit = was.entries_fit; few = omega arith }

-- an entry that changes a queue
pub IsCounted-changed : (c : Change) (entries number : ℕ) (qs : List Queue) → IsCounted entries qs →
    entries < most_entries → IsCounted (entries + 1) (change c qs number)
IsCounted-changed c entries number qs was few =
    IsCounted-more entries (change c qs number) (IsCounted-change c entries number qs was) few

change-where-counted : (asked : Bool) (c : Change) (entries number : ℕ) (qs : List Queue) → IsCounted entries qs →
    IsCounted entries (change_where asked c qs number)
change-where-counted true c entries number qs was = IsCounted-change c entries number qs was
change-where-counted false c entries number qs was = was

pub length-change_where : (asked : Bool) (c : Change) (qs : List Queue) (n : ℕ) → length (change_where asked c qs n) ≡ length qs
length-change_where true c qs n = length-change c qs n
length-change_where false c qs n = refl

-- the start of a drain
pub length-drain : (idle plug : Bool) (qs : List Queue) (n : ℕ) → length (drain idle plug qs n) ≡ length qs
length-drain idle plug qs n = length-change_where (not idle) changes.Drain (change_where plug changes.Plug qs n) n
    ∙ length-change_where plug changes.Plug qs n

pub IsCounted-drain : (idle plug : Bool) (entries number : ℕ) (qs : List Queue) → IsCounted entries qs →
    IsCounted entries (drain idle plug qs number)
IsCounted-drain idle plug entries number qs was =
    change-where-counted (not idle) changes.Drain entries number (change_where plug changes.Plug qs number)
    (change-where-counted plug changes.Plug entries number qs was)

-- a stop
pub length-stop : (idle : Bool) (qs : List Queue) (n : ℕ) → length (stop idle qs n) ≡ length qs
length-stop idle qs n = length-change_where (is_plugged qs n && idle) changes.Stop qs n

pub IsCounted-stop : (idle : Bool) (entries number : ℕ) (qs : List Queue) → IsCounted entries qs →
    IsCounted entries (stop idle qs number)
IsCounted-stop idle entries number qs was = change-where-counted (is_plugged qs number && idle) changes.Stop entries number qs was

-- and writes it in its place
pub IsCounted-written : (entries len : ℕ) (old new : List Queue) → IsCounted entries new → entries < most_entries →
    len ≡ length old → length new ≡ length old →
    IsCounted (entries + 1) (take len (new ++ drop (length new) old))
IsCounted-written entries len old new now few same long =
    let P : List Queue → Type 0 = λ qs. IsCounted (entries + 1) qs in
    subst P (sym (whole len old new same long)) (IsCounted-more entries new now few)

-- one queue more
pub fresh_queues-more : (workers : List ℕ) (started : List Bool) (n w : ℕ) (on : Bool) → n < length workers →
    length workers ≡ length started →
    fresh_queues (take n workers) (take n started) ++ fresh_queue (get_or workers n w) (get_or started n on) ∷ []
    ≡ fresh_queues (take (n + 1) workers) (take (n + 1) started)
fresh_queues-more workers started n w on within same =
    let next : n + 1 ≡ suc n = omega arith in
    more workers started n within same ∙ ap (λ m. fresh_queues (take m workers) (take m started)) (sym next) where
      more : (ws : List ℕ) (ss : List Bool) (n : ℕ) → n < length ws → length ws ≡ length ss →
          fresh_queues (take n ws) (take n ss) ++ fresh_queue (get_or ws n w) (get_or ss n on) ∷ []
          ≡ fresh_queues (take (suc n) ws) (take (suc n) ss)
      more [] ss n within same = absurd (omega arith)
      more (x ∷ ws) [] n within same = absurd (omega arith)
      more (x ∷ ws) (s ∷ ss) zero within same = refl
      more (x ∷ ws) (s ∷ ss) (suc n) within same =
          ap (λ (qs : List Queue). fresh_queue x s ∷ qs) (more ws ss n (omega arith) (omega arith))

pub length-fresh_queues : (workers : List ℕ) (started : List Bool) → length workers ≡ length started →
    length (fresh_queues workers started) ≡ length workers
length-fresh_queues [] [] same = refl
length-fresh_queues [] (s ∷ ss) same = absurd (omega arith)
length-fresh_queues (w ∷ ws) [] same = absurd (omega arith)
length-fresh_queues (w ∷ ws) (s ∷ ss) same = ap suc (length-fresh_queues ws ss (omega arith))

pub drained-fresh_queues : (workers : List ℕ) (started : List Bool) →
    All (λ (q : Queue). q.drained ≤ 0) (fresh_queues workers started)
drained-fresh_queues [] started = let P : Queue → Type 0 = λ q. q.drained ≤ 0 in All-nil P
drained-fresh_queues (w ∷ ws) [] = let P : Queue → Type 0 = λ q. q.drained ≤ 0 in All-nil P
drained-fresh_queues (w ∷ ws) (s ∷ ss) = let P : Queue → Type 0 = λ q. q.drained ≤ 0 in
    All-cons P (fresh_queue w s) (fresh_queues ws ss) (omega arith) (drained-fresh_queues ws ss)

-- the queues of a state before its first entry
pub IsCounted-fresh : (workers : List ℕ) (started : List Bool) → length workers ≡ length started → length workers ≤ 8 →
    IsCounted 0 (fresh_queues workers started)
IsCounted-fresh workers started same few =
    let long = length-fresh_queues workers started same in
    record { drained = drained-fresh_queues workers started; entries_fit = omega arith; few = omega arith }

-- an entry more leaves the time as far behind
pub IsTimed-more : (time entries : ℕ) → IsTimed time entries → IsTimed time (entries + 1)
IsTimed-more time entries was = let least = was.bound in record { bound = omega arith }

-- and so do fewer than 2^32 ticks with it
pub IsTimed-ticks : (time entries ticks : ℕ) → IsTimed time entries → ticks < 2 ^ 32 → IsTimed (time + ticks) (entries + 1)
IsTimed-ticks time entries ticks was few = let least = was.bound in record { bound = omega arith }

pub IsTimed-fresh : IsTimed 0 0
IsTimed-fresh = record { bound = omega arith }
