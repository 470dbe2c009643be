-- Lemmas on histories: one entry more, a front, and two parts.
use Rattle.std.proofs.Common.{◌≡◌, ℕ, ◌+◌, ◌-◌, ◌<◌, ◌≤◌, Bool, true, false, Some, List, [], ◌∷◌, ◌++◌, length, refl, sym, subst, ◌∙◌, min, append_assoc, append-nil, arith, add-zero}
use Rattle.std.proofs.lemmas.List.Elements.{All-nil, All-cons, All-head, All-tail, All-append}
use Rattle.zk_base.specs.declared.ids.Who.{Who}
use Rattle.zk_base.specs.declared.ids.Entry.{Entry}
use Rattle.zk_base.specs.History.{IsAbove, Rises}
use Rattle.zk_base.specs.Legal.{Machine, state_after, Replays, IsLegal}
use Rattle.zk_base.specs.Recording.{IsRecorded}
use Rattle.zk_base.proofs.Lists.{All-front}

Rises-snoc : {O R : Type 0} (h : List (Entry O R)) (e : Entry O R) → Rises h → IsAbove h e.who.number e.step → Rises (h ++ e ∷ [])
Rises-snoc {O} {R} [] e r a = let P : Entry O R → Type 0 = λ g. g.who.number ≡ e.who.number → e.step < g.step in (All-nil P, tt)
Rises-snoc {O} {R} (f ∷ fs) e r a =
    let P : Entry O R → Type 0 = λ g. g.who.number ≡ f.who.number → f.step < g.step in
    let Q : Entry O R → Type 0 = λ g. g.who.number ≡ e.who.number → g.step < e.step in (
      All-append P fs (e ∷ []) r.0 (All-cons P e [] (λ same. All-head Q f fs a (sym same)) (All-nil P)),
      Rises-snoc fs e r.1 (All-tail Q f fs a),
    )

Rises-front : {O R : Type 0} (h l : List (Entry O R)) → Rises (h ++ l) → Rises h
Rises-front [] l r = tt
Rises-front {O} {R} (e ∷ es) l r = let P : Entry O R → Type 0 = λ f. f.who.number ≡ e.who.number → e.step < f.step in
    (All-front P es l r.0, Rises-front es l r.1)

Replays-snoc : {S O R : Type 0} (m : Machine S O R) (s : S) (h : List (Entry O R)) (e : Entry O R) →
    Replays m s h → m.reply_of (state_after m s h) e.who e.op ≡ Some e.reply → Replays m s (h ++ e ∷ [])
Replays-snoc m s [] e r g = (g, tt)
Replays-snoc m s (f ∷ fs) e r g = (r.0, Replays-snoc m (m.next s f.who f.op) fs e r.1 g)

pub Replays-front : {S O R : Type 0} (m : Machine S O R) (s : S) (h l : List (Entry O R)) → Replays m s (h ++ l) → Replays m s h
Replays-front m s [] l r = tt
Replays-front m s (e ∷ es) l r = (r.0, Replays-front m (m.next s e.who e.op) es l r.1)

-- the empty history is legal
pub IsLegal-nil : {S O R : Type 0} (m : Machine S O R) (s : S) → IsLegal m s []
IsLegal-nil {S} {O} {R} m s = let P : Entry O R → Type 0 = λ f. m.in_range s f.op ≡ true in (tt, tt, All-nil P)

-- one entry more
pub IsLegal-snoc : {S O R : Type 0} (m : Machine S O R) (s : S) (h : List (Entry O R)) (e : Entry O R) →
    IsLegal m s h → m.reply_of (state_after m s h) e.who e.op ≡ Some e.reply → IsAbove h e.who.number e.step →
    m.in_range s e.op ≡ true → IsLegal m s (h ++ e ∷ [])
IsLegal-snoc {S} {O} {R} m s h e l g a i =
    let P : Entry O R → Type 0 = λ f. m.in_range s f.op ≡ true in
    (Replays-snoc m s h e l.0 g, Rises-snoc h e l.1 a, All-append P h (e ∷ []) l.2 (All-cons P e [] i (All-nil P)))

-- a front of a legal history is legal
pub IsLegal-front : {S O R : Type 0} (m : Machine S O R) (s : S) (h l : List (Entry O R)) → IsLegal m s (h ++ l) → IsLegal m s h
IsLegal-front {S} {O} {R} m s h l k =
    let P : Entry O R → Type 0 = λ f. m.in_range s f.op ≡ true in
    (Replays-front m s h l k.0, Rises-front h l k.1, All-front P h l k.2)

-- the state after both parts
pub state_after-append : {S O R : Type 0} (m : Machine S O R) (s : S) (front rest : List (Entry O R)) →
    state_after m s (front ++ rest) ≡ state_after m (state_after m s front) rest
state_after-append m s [] rest = refl
state_after-append m s (e ∷ es) rest = state_after-append m (m.next s e.who e.op) es rest

-- the second part replays from the state after the first
pub Replays-rest : {S O R : Type 0} (m : Machine S O R) (s : S) (front rest : List (Entry O R)) →
    Replays m s (front ++ rest) → Replays m (state_after m s front) rest
Replays-rest m s [] rest replays = replays
Replays-rest m s (e ∷ es) rest replays = Replays-rest m (m.next s e.who e.op) es rest replays.1

-- the state after one entry more
pub state_after-snoc : {S O R : Type 0} (m : Machine S O R) (s : S) (h : List (Entry O R)) (e : Entry O R) →
    state_after m s (h ++ e ∷ []) ≡ m.next (state_after m s h) e.who e.op
state_after-snoc m s h e = state_after-append m s h (e ∷ [])

-- what is in range in the first state is in range in every later one
pub in_range-after : {S O R : Type 0} (m : Machine S O R) →
    ((s : S) (who : Who) (op : O) → m.in_range (m.next s who op) ≡ m.in_range s) →
    (s : S) (h : List (Entry O R)) → m.in_range (state_after m s h) ≡ m.in_range s
in_range-after m ranges s [] = refl
in_range-after m ranges s (e ∷ es) = in_range-after m ranges (m.next s e.who e.op) es ∙ ranges s e.who e.op

-- a state that counts its entries has as many as the history
pub entries-after : {S O R : Type 0} (m : Machine S O R) (entries : S → ℕ) →
    ((s : S) (who : Who) (op : O) → entries (m.next s who op) ≡ entries s + 1) →
    (s : S) (h : List (Entry O R)) → entries (state_after m s h) ≡ entries s + length h
entries-after m entries counts s [] = sym (add-zero (entries s))
entries-after m entries counts s (e ∷ es) =
    let here = counts s e.who e.op in
    let rest = entries-after m entries counts (m.next s e.who e.op) es in
    omega arith

-- what each entry keeps, every history keeps
pub by_entries : {S O R : Type 0} (m : Machine S O R) (s : S) (P : List (Entry O R) → Type 0) →
    ((h : List (Entry O R)) (e : Entry O R) → Replays m s h → m.reply_of (state_after m s h) e.who e.op ≡ Some e.reply →
    P h → P (h ++ e ∷ [])) →
    (h es : List (Entry O R)) → Replays m s (h ++ es) → P h → P (h ++ es)
by_entries m s P step h [] replays is = subst P (sym (append-nil h)) is
by_entries m s P step h (e ∷ es) replays is =
    let reply = (Replays-rest m s h (e ∷ es) replays).0 in
    let here = step h e (Replays-front m s h (e ∷ es) replays) reply is in
    let same = append_assoc h (e ∷ []) es in
    subst P same (by_entries m s P step (h ++ e ∷ []) es (subst (Replays m s) (sym same) replays) here)

-- the room for a history with one entry more, where the operation closes or room for three was made
pub room-step : (closes : Bool) (owed owed' long capacity capacity' : ℕ) → long + owed ≤ capacity → capacity ≤ capacity' →
    (closes ≡ true → 1 + owed' ≤ owed) → (closes ≡ false → long + owed + 3 ≤ capacity') → owed' ≤ owed + 2 →
    (long + 1) + owed' ≤ capacity'
room-step true owed owed' long capacity capacity' fits grown gives made adds = let g = gives refl in omega arith
room-step false owed owed' long capacity capacity' fits grown gives made adds = let g = made refl in omega arith

-- an engine that has made a step, beside the history with its entry
pub IsRecorded-snoc : {S O R : Type 0} (m : Machine S O R) (owed entries : S → ℕ) (stands stands' : S →
    Type 0) (start : S) (past past' : List (Entry O R)) (long long' capacity capacity' : ℕ) (e : Entry O R) →
    IsRecorded m owed entries stands start past long capacity → past' ≡ past ++ e ∷ [] → long' ≡ long + 1 →
    m.reply_of (state_after m start past) e.who e.op ≡ Some e.reply → IsAbove past e.who.number e.step →
    m.in_range start e.op ≡ true →
    stands' (m.next (state_after m start past) e.who e.op) →
    long + 1 + owed (m.next (state_after m start past) e.who e.op) ≤ capacity' →
    IsRecorded m owed entries stands' start past' long' capacity'
IsRecorded-snoc {S} {O} {R} m owed entries stands stands' start past past' long long' capacity capacity' e was items len
    reply above range now fits =
    let whole = past ++ e ∷ [] in
    let after = state_after-snoc m start past e in
    let P : S → Type 0 = λ s. long + 1 + owed s ≤ capacity' in
    let made : IsRecorded m owed entries stands' start whole (long + 1) capacity' = record {
      stands_for = subst stands' (sym after) now;
      first = was.first;
      legal = IsLegal-snoc m start past e was.legal reply above range;
      room = subst P (sym after) fits;
    } in
    let Q : List (Entry O R) → Type 0 = λ h. IsRecorded m owed entries stands' start h (long + 1) capacity' in
    let L : ℕ → Type 0 = λ n. IsRecorded m owed entries stands' start past' n capacity' in
    subst L (sym len) (subst Q (sym items) made)

-- the room that is shown falls by at most three
pub room-falls : (shown long long' owed owed' capacity capacity' room room' : ℕ) →
    shown ≡ min (capacity - (long + owed)) room → long' ≡ long + 1 → capacity ≤ capacity' → owed' ≤ owed + 2 → room ≤ room' + 3 →
    shown ≤ min (capacity' - (long' + owed')) room' + 3
room-falls shown long long' owed owed' capacity capacity' room room' is len grown adds falls = omega arith
