-- A signal's writes in the order of their stamps, as a history that its machine lets stand.
use Rattle.std.proofs.Common.{◌≡◌, inl, inr, ℕ, suc, ◌+◌, ◌<◌, Bool, eqb, Option, Some, List, [], ◌∷◌, ◌++◌, length, map, get_or, take, drop, All, Contains, IsPermutation, refl, sym, ap, subst, ◌∙◌, arith}
use Rattle.std.specs.List.{slice_get}
use Rattle.std.specs.Option.{option_map}
use Rattle.std.proofs.lemmas.Bool.{eqb-true}
use Rattle.std.proofs.lemmas.List.{length-map, length-take-le, map-append, take-append-drop, take_more, drop_more}
use Rattle.std.proofs.lemmas.List.Elements.{All-nil, All-cons, All-map, All-weaker, All-contains, Contains-get_or, Contains-append_right}
use Rattle.std.proofs.lemmas.List.Sorted.{IsPermutation-sym, IsPermutation-map, Contains-permutation}
use Rattle.std.proofs.lemmas.Option.{slice_get-map, slice_get-get_or}
use Rattle.zk_base.specs.declared.ids.Who.{Who}
use Rattle.zk_base.specs.declared.seen.Seen.{Seen}
use Rattle.zk_base.specs.History.{Rises, IsAbove, entry, extended}
use Rattle.zk_base.specs.Legal.{state_after, IsLegal}
use Rattle.zk_base.specs.RecordedView.{RecordedView}
use Rattle.zk_model_wait.specs.Signal.{Signal, new_signal, signal_machine, written, written_by, value_at}
use Rattle.zk_model_wait.specs.declared.signal.SignalOp.{SignalOp}
use Rattle.zk_model_wait.specs.declared.signal.SignalReply.{SignalReply}
use Rattle.zk_model_wait.specs.declared.signal.SignalReply.TheVariants.{Stamp}
use Rattle.zk_poll.specs.Seen.{left_as, left_by, signal_start, signal_history}
use Rattle.zk_signal.specs.declared.pass.SigPass.{SigPass}
use Rattle.zk_signal.specs.Counts.{CountsFrom, EachOnceTo}
use Rattle.zk_signal.specs.Words as words
use Rattle.zk_signal.specs.Passes.{pass_writes, pass_looks}
use Rattle.zk_signal.proofs.Ordering.{counts-at, place-of}
use Rattle.zk_worker.specs.Looks.{writes_of}
use Rattle.zk_cells.specs.declared.notes.Note.{Note}
use Rattle.zk_cells.specs.Closed.{AreInStep, IsPlayed}
use Rattle.zk_cells.specs.Lasting.{IsLookAt}
use Rattle.zk_cells.specs.Notes.{Write, stamp_told, stamp_of, stamp_noted, notes_at, entries_of, writes_at}
use Rattle.zk_cells.proofs.Noted.{contains-head, contains-tail, contains-map, contains-mapped, contains-kept}
use Rattle.zk_cells.proofs.Shares.{written-stamp, writes-long}

-- what a write left has its stamp
left-stamp : (op : SignalOp) (reply : SignalReply) → (left_as op reply).stamp ≡ stamp_told reply
left-stamp op (Stamp stamp) = written-stamp stamp op

pub stamps-left : (ns : List Note) → map words.stamp_of (map left_by (entries_of ns)) ≡ map stamp_noted ns
stamps-left [] = refl
stamps-left (n ∷ ns) = λ i. left-stamp n.entry.op n.entry.reply i ∷ stamps-left ns i

pub stamps-noted : (ns : List Note) → map stamp_of (entries_of ns) ≡ map stamp_noted ns
stamps-noted [] = refl
stamps-noted (n ∷ ns) = λ i. stamp_noted n ∷ stamps-noted ns i

pub long-entries : (ns : List Note) → length (entries_of ns) ≡ length ns
long-entries ns = length-map ns (λ (n : Note). n.entry)

-- the stamps of a closed signal's notes are all, each once
pub each-noted : (stamps : List ℕ) (left : List Seen) (ns : List Note) (count : ℕ) → stamps ≡ map words.stamp_of left → left ≡ map left_by (entries_of ns) → EachOnceTo count stamps → length left ≡ count →
    EachOnceTo (length ns) (map stamp_noted ns)
each-noted stamps left ns count is same all many =
    let long : length left ≡ length ns = ap length same ∙ length-map (entries_of ns) left_by ∙ long-entries ns in
    let stamped : stamps ≡ map stamp_noted ns = is ∙ ap (map words.stamp_of) same ∙ stamps-left ns in
    subst (λ (c : ℕ). EachOnceTo c (map stamp_noted ns)) (sym many ∙ long) (subst (EachOnceTo count) stamped all)

-- numbers that count from one on are above it
pub counts-above : (ns : List ℕ) (k : ℕ) → CountsFrom k ns → All (λ n. k < n) ns
counts-above [] k counts = let P : ℕ → Type 0 = λ n. k < n in All-nil P
counts-above (n ∷ ns) k counts =
    let P : ℕ → Type 0 = λ m. k < m in
    let Q : ℕ → Type 0 = λ m. k + 1 < m in
    let up : (m : ℕ) → Q m → P m = λ m lt. omega arith in
    let first = counts.0 in
    All-cons P n ns (omega arith) (All-weaker Q P up ns (counts-above ns (k + 1) counts.1))

-- so are notes, each two of which are in step, and all at one signal
pub in-step-tail : (n : Note) (ns : List Note) → AreInStep (n ∷ ns) → AreInStep ns
in-step-tail n ns all a b at bt = all a b (contains-tail n ns a at) (contains-tail n ns b bt)

pub in-step-permuted : (ns ms : List Note) → IsPermutation ns ms → AreInStep ns → AreInStep ms
in-step-permuted ns ms moved all a b at bt =
    let back = IsPermutation-sym ns ms moved in
    all a b (Contains-permutation ms ns a back at) (Contains-permutation ms ns b back bt)

pub in-step-kept : (ns : List Note) (object : ℕ) → AreInStep ns → AreInStep (notes_at ns object)
in-step-kept ns object all a b at bt =
    let test : Note → Bool = λ n. eqb n.signal object in
    all a b (contains-kept test ns a at).0 (contains-kept test ns b bt).0

pub at-one : (ns ms : List Note) (object : ℕ) → IsPermutation (notes_at ns object) ms → (n : Note) → Contains ms n → n.signal ≡ object
at-one ns ms object moved n there =
    let test : Note → Bool = λ n. eqb n.signal object in
    let back = IsPermutation-sym (notes_at ns object) ms moved in
    eqb-true n.signal object (contains-kept test ns n (Contains-permutation ms (notes_at ns object) n back there)).1

-- their steps rise
pub rises-noted : (ns : List Note) (k object : ℕ) → CountsFrom k (map stamp_noted ns) → AreInStep ns → ((n : Note) → Contains ns n → n.signal ≡ object) → Rises (entries_of ns)
rises-noted [] k object counts steps one = tt
rises-noted (n ∷ ns) k object counts steps one =
    let P : Write → Type 0 = λ f. f.who.number ≡ n.entry.who.number → n.entry.step < f.step in
    let Q : Note → Type 0 = λ m. P m.entry in
    let above = counts-above (map stamp_noted ns) (k + 1) counts.1 in
    let A : ℕ → Type 0 = λ m. k + 1 < m in
    let first = counts.0 in
    let each : (m : Note) → Contains ns m → Q m = λ m there same.
    let up : k + 1 < stamp_noted m = All-contains A (map stamp_noted ns) (stamp_noted m) above (contains-map stamp_noted ns m there) in
    steps n m (contains-head n ns) (contains-tail n ns m there)
    (one n (contains-head n ns) ∙ sym (one m (contains-tail n ns m there))) (sym same) (omega arith) in (
      All-map P (λ (m : Note). m.entry) ns (λ i d within. each (get_or ns i d) (Contains-get_or ns i d within)),
      rises-noted ns (k + 1) object counts.1 (in-step-tail n ns steps) (λ m there. one m (contains-tail n ns m there)),
    )

-- the steps of a player before one of its entries are below that
pub rises-above : (front rest : List Write) (e : Write) → Rises (front ++ e ∷ rest) → IsAbove front e.who.number e.step
rises-above [] rest e rise = let P : Write → Type 0 = λ x. x.who.number ≡ e.who.number → x.step < e.step in All-nil P
rises-above (x ∷ front) rest e rise =
    let P : Write → Type 0 = λ x. x.who.number ≡ e.who.number → x.step < e.step in
    let Q : Write → Type 0 = λ f. f.who.number ≡ x.who.number → x.step < f.step in
    let later = All-contains Q (front ++ e ∷ rest) e rise.0 (Contains-append_right front (e ∷ rest) e (contains-head e rest)) in
    All-cons P x front (λ same. later (sym same)) (rises-above front rest e rise.1)

-- an entry is what its write gets, where that is its stamp
entry-of : (who : Who) (step : ℕ) (op : SignalOp) (reply : SignalReply) (n : ℕ) → stamp_told reply ≡ n → record { who = who; step = step; op = op; reply = reply } ≡ entry who step op (Stamp n)
entry-of who step op (Stamp stamp) n is = ap (λ (k : ℕ). entry who step op (Stamp k)) is

pub entry-told : (e : Write) (n : ℕ) → stamp_of e ≡ n → e ≡ entry e.who e.step e.op (Stamp n)
entry-told e n is = entry-of e.who e.step e.op e.reply n is

-- a look at a closed signal is one at its history
module _ (ns : List Note) (h : List Write) (moved : IsPermutation (entries_of ns) h) (order : CountsFrom 0 (map stamp_of h)) where
  -- what a write left is the value of its stamp
  value-left : (op : SignalOp) (reply : SignalReply) (i : ℕ) → stamp_told reply ≡ i + 1 → slice_get (writes_of h) i ≡ Some op → value_at (writes_of h) (left_as op reply).stamp ≡ left_as op reply
  value-left op (Stamp stamp) i is at =
      let next : stamp ≡ suc i = is ∙ omega arith in
      ap (value_at (writes_of h)) (written-stamp stamp op ∙ next)
      ∙ ap (written_by (suc i)) at
      ∙ ap (λ (k : ℕ). written k op) (sym next)

  pub look-played : (left : List Seen) (seen : Seen) → left ≡ map left_by (entries_of ns) → words.IsValueIn left seen → IsLookAt h seen
  look-played left seen same (inl clear) =
      let none : seen.stamp ≡ 0 = ap (λ (s : Seen). s.stamp) clear in
      (omega (arith, none), ap (value_at (writes_of h)) none ∙ sym clear)
  look-played left seen same (inr there) =
      let from = contains-mapped left_by (entries_of ns) seen (subst (λ (l : List Seen). Contains l seen) same there) in
      let e : Write = from.0 in
      let place = place-of stamp_of h e order (Contains-permutation (entries_of ns) h e moved from.1) in
      let i : ℕ = place.0 in
      let is : stamp_of e ≡ i + 1 = place.2 in
      let at : slice_get h i ≡ Some e = slice_get-get_or h i e place.1 ∙ ap (λ (x : Write). Some x) place.3 in
      let op-at : slice_get (writes_of h) i ≡ Some e.op = slice_get-map (λ (x : Write). x.op) h i ∙ ap (option_map (λ (x : Write). x.op)) at in
      let stamped : seen.stamp ≡ i + 1 = ap (λ (s : Seen). s.stamp) (sym from.2) ∙ left-stamp e.op e.reply ∙ is in
      let within = place.1 in
      (omega (arith, stamped, within), subst (λ (s : Seen). value_at (writes_of h) s.stamp ≡ s) from.2 (value-left e.op e.reply i is op-at))

  pub looks-played : (left found : List Seen) → left ≡ map left_by (entries_of ns) → All (words.IsValueIn left) found → All (IsLookAt h) found
  looks-played left found same all = All-weaker (words.IsValueIn left) (IsLookAt h) (λ seen is. look-played left seen same is) found all

-- a note among others
entries-split : (ns : List Note) (i : ℕ) (d : Note) → i < length ns → entries_of ns ≡ entries_of (take i ns) ++ (get_or ns i d).entry ∷ entries_of (drop (i + 1) ns)
entries-split ns i d within =
    ap entries_of (sym (take-append-drop i ns) ∙ ap (λ (l : List Note). take i ns ++ l) (drop_more ns i d within))
    ∙ map-append (λ (n : Note). n.entry) (take i ns) (get_or ns i d ∷ drop (i + 1) ns)

-- the steps before it are below its step
pub above-noted : (ns : List Note) (i : ℕ) (d : Note) (h : List Write) → i < length ns → Rises (entries_of ns) → h ≡ entries_of (take i ns) → IsAbove h (get_or ns i d).entry.who.number (get_or ns i d).entry.step
above-noted ns i d h within rise is =
    let e = (get_or ns i d).entry in
    subst (λ (l : List Write). IsAbove l e.who.number e.step) (sym is)
    (rises-above (entries_of (take i ns)) (entries_of (drop (i + 1) ns)) e (subst (Rises {O = SignalOp} {R = SignalReply}) (entries-split ns i d within) rise))

-- once it is played the history is that of one note more
pub played-more : (ns : List Note) (i : ℕ) (d : Note) (h h' : List Write) (start : Signal) (told : Option SignalReply) → i < length ns → CountsFrom 0 (map stamp_noted ns) → start ≡ new_signal → h ≡ entries_of (take i ns) →
    h' ≡ extended h (get_or ns i d).entry.who (get_or ns i d).entry.step (get_or ns i d).entry.op told → told ≡ Some (Stamp (length (state_after signal_machine start h).writes + 1)) → h' ≡ entries_of (take (i + 1) ns)
played-more ns i d h h' start told within counts new is grew answered =
    let n = get_or ns i d in
    let e = n.entry in
    let writes = length (state_after signal_machine start h).writes in
    let many = writes-long start h new in
    let long : length h ≡ i = ap length is ∙ long-entries (take i ns) ∙ length-take-le i ns (omega arith) in
    let next : 0 + i + 1 ≡ writes + 1 = omega (arith, many, long) in
    let stamp : stamp_of e ≡ writes + 1 = counts-at stamp_noted ns 0 i d counts within ∙ next in
    grew
    ∙ ap (extended h e.who e.step e.op) answered
    ∙ ap (λ (x : Write). h ++ x ∷ []) (sym (entry-told e (writes + 1) stamp))
    ∙ ap (λ (l : List Write). l ++ e ∷ []) is
    ∙ sym (map-append (λ (m : Note). m.entry) (take i ns) (n ∷ []))
    ∙ ap entries_of (sym (take_more ns i d within))

-- all notes of a closed signal, played in order
pub played-whole : (ns ms : List Note) (object : ℕ) → IsPermutation (notes_at ns object) ms → CountsFrom 0 (map stamp_noted ms) →
    IsPermutation (writes_at ns object) (entries_of ms) × CountsFrom 0 (map stamp_of (entries_of ms))
played-whole ns ms object moved counts =
    (IsPermutation-map (λ (n : Note). n.entry) (notes_at ns object) ms moved, subst (CountsFrom 0) (sym (stamps-noted ms)) counts)

-- a signal with the writes of a closed one, in order, is that one played
pub signal-played : (ns ms : List Note) (object : ℕ) (p : SigPass) (found : List Seen) (made : RecordedView Signal SignalOp SignalReply) → IsPermutation (notes_at ns object) ms → CountsFrom 0 (map stamp_noted ms) →
    signal_history made ≡ entries_of ms → signal_start made ≡ new_signal → IsLegal signal_machine new_signal (signal_history made) → pass_writes p ≡ map left_by (writes_at ns object) → pass_looks p ≡ found →
    All (words.IsValueIn (pass_writes p)) (pass_looks p) → IsPlayed (writes_at ns object) found made
signal-played ns ms object p found made moved counts is start legal writes looks values =
    let both = played-whole ns ms object moved counts in
    let whole : IsPermutation (writes_at ns object) (signal_history made) = subst (IsPermutation (writes_at ns object)) (sym is) both.0 in
    let order : CountsFrom 0 (map stamp_of (signal_history made)) = subst (λ (h : List Write). CountsFrom 0 (map stamp_of h)) (sym is) both.1 in
    record {
      whole = whole;
      order = order;
      start = start;
      legal = legal;
      looks = subst (All (IsLookAt (signal_history made))) looks (looks-played (notes_at ns object) (signal_history made) whole order (pass_writes p) (pass_looks p) writes values);
    }
