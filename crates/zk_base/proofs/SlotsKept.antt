-- What is kept of waits stays true under each change.
use Rattle.std.proofs.Common.{◌≡◌, ◌≢◌, ℕ, zero, suc, ◌+◌, ◌-◌, ◌<◌, ◌≤◌, ◌⊎◌, inl, inr, Bool, true, false, not, ◌&&◌, ◌||◌, cond, eqb, Option, Some, None, is_some, option_map, List, [], ◌∷◌, ◌++◌, length, set, get_or, take, drop, map, filter, find, slice_get, All, refl, sym, ap, subst, ◌∙◌, arith}
use Rattle.std.specs.Option.{option_or, option_map_or}
use Rattle.std.specs.Cmp.{first_so}
use Rattle.std.proofs.lemmas.Option.{same_Some}
use Rattle.std.proofs.lemmas.Bool.{cases_eq, cases_lt, eqb-true, eq-eqb, ne_eqb, lt-ltb, le-ltb}
use Rattle.std.proofs.lemmas.List.{length-append, length-set, length-map}
use Rattle.std.proofs.lemmas.List.Elements.{All-nil, All-cons, All-head, All-tail, All-weaker, All-filter, All-map, All-push, All-set, All-get_or, filter-append}
use Rattle.std.proofs.lemmas.List.Kept.{AllPairs-filter}
use Rattle.std.specs.List.{list_any, remove}
use Rattle.zk_base.specs.declared.slots.Slot.{Slot}
use Rattle.zk_base.specs.declared.slots.Stage.{Stage}
use Rattle.zk_base.specs.declared.slots.Stage.TheVariants.{Waits, Decided, Ended}
use Rattle.zk_base.specs.declared.leaders.First.{First}
use Rattle.zk_base.specs.Order.{put_by, by_key}
use Rattle.zk_base.specs.Waits.{open_waits}
use Rattle.zk_base.specs.Slots.{Rises, place_of, goes_on_at, is_open_at, answer_at, is_waiting, is_open, has_answer, answer_for, IsRanked, over, decided_as, decided_with, decided_all, line, waits_in, waits_as, leads, is_of, first_of, led, moved_to, replaced, passed_on, IsClosedUp, IsKept}
use Rattle.zk_base.proofs.Firsts.{All-found}
use Rattle.zk_base.proofs.Order.{All-put_by, find-filter}
use Rattle.zk_base.proofs.SlotLists.{find-weaker, found-passes, found-alone}
use Rattle.zk_base.proofs.SlotWaits.{waiting-open, told-open, length-waiting, length-decided, none-waits, first-line}
use Rattle.zk_base.proofs.Leading.{first_of-led, first_of-replaced, leads-push, leads-kept, leads-next}
use Rattle.zk_base.proofs.Risen.{rest, above, Rises-push, Rises-cons, Rises-map, set-map, remove-filter, alone-at}

abbrev pub one : Bool → ℕ
one b = cond b 1 0

length-snoc : {X : Type 0} (p : X → Bool) (xs : List X) (x : X) → length (filter p (xs ++ x ∷ [])) ≡ length (filter p xs) + one
    (p x)
length-snoc {X} p xs x = ap length (filter-append p xs (x ∷ [])) ∙ length-append (filter p xs) (cond (p x) (x ∷ []) [])
    ∙ ap (λ n. length (filter p xs) + n) (by (p x)) where
      by : (b : Bool) → length (cond b (x ∷ []) []) ≡ one b
      by true = refl
      by false = refl

-- one is put in the place of another: as many pass, but for those two
pub length-filter-set : {X : Type 0} (p : X → Bool) (xs : List X) (i : ℕ) (d y : X) → i < length xs →
    length (filter p (set xs i y)) + one (p (get_or xs i d)) ≡ length (filter p xs) + one (p y)
length-filter-set p [] i d y within = absurd (omega arith)
length-filter-set {X} p (x ∷ xs) zero d y within = by (p x) (p y) where
  by : (a b : Bool) → length (cond b (y ∷ filter p xs) (filter p xs)) + one a ≡ length (cond a (x ∷ filter p xs)
      (filter p xs)) + one b
  by true true = refl
  by true false = omega arith
  by false true = omega arith
  by false false = refl
length-filter-set {X} p (x ∷ xs) (suc i) d y within = by (p x) (length-filter-set p xs i d y (omega arith)) where
  by : (a : Bool) → length (filter p (set xs i y)) + one (p (get_or xs i d)) ≡ length (filter p xs) + one (p y) →
      length (cond a (x ∷ filter p (set xs i y)) (filter p (set xs i y))) + one (p (get_or xs i d))
      ≡ length (cond a (x ∷ filter p xs) (filter p xs)) + one (p y)
  by true same = omega arith
  by false same = same

-- The firsts.

abbrev pub rank_of_first : First → ℕ
rank_of_first f = f.rank

Rises-put : (rank place : ℕ) (fs : List First) → Rises rank_of_first fs → list_any (is_of rank) fs ≡ false →
    Rises rank_of_first (put_by rank_of_first (record { rank = rank; place = place }) fs)
Rises-put rank place [] rises none = Rises-cons rank_of_first (record { rank = rank; place = place }) []
    (All-nil (λ (f : First). rank < f.rank)) rises
Rises-put rank place (f ∷ fs) rises none = by (cases_lt rank f.rank) (eqb f.rank rank) refl none
    (Rises-put rank place fs (rest rank_of_first f fs rises)) where
      new : First
      new = record { rank = rank; place = place }

      by : (rank < f.rank) ⊎ (f.rank ≤ rank) → (b : Bool) → eqb f.rank rank ≡ b → (b || list_any (is_of rank) fs) ≡ false →
          (list_any (is_of rank) fs ≡ false → Rises rank_of_first (put_by rank_of_first new fs)) →
          Rises rank_of_first (put_by rank_of_first new (f ∷ fs))
      by at true is none further = absurd (cc)
      by (inl below) false is none further =
          subst (Rises rank_of_first)
          (sym (ap (λ b. cond b (new ∷ f ∷ fs) (f ∷ put_by rank_of_first new fs)) (lt-ltb rank f.rank below)))
          (Rises-cons rank_of_first new (f ∷ fs) (All-cons (λ (g : First). rank < g.rank) f fs below
          (All-weaker (λ (g : First). f.rank < g.rank) (λ (g : First). rank < g.rank) (λ g h. omega arith) fs
          (above rank_of_first f fs rises))) rises)
      by (inr more) false is none further =
          subst (Rises rank_of_first)
          (sym (ap (λ b. cond b (new ∷ f ∷ fs) (f ∷ put_by rank_of_first new fs)) (le-ltb rank f.rank more)))
          (Rises-cons rank_of_first f (put_by rank_of_first new fs)
          (All-put_by (λ (g : First). f.rank < g.rank) rank_of_first new fs (strictly f.rank rank more is)
          (above rank_of_first f fs rises)) (further none)) where
            strictly : (m n : ℕ) → m ≤ n → eqb m n ≡ false → m < n
            strictly m n less differ = elim (cases_eq m n) [
              | inl same ↦ absurd (cc (eq-eqb m n same, differ))
              | inr other ↦ omega arith
            ]

Rises-led : (rank place : ℕ) (fs : List First) → Rises rank_of_first fs → Rises rank_of_first (led rank place fs)
Rises-led rank place fs rises = by (list_any (is_of rank) fs) refl where
  by : (b : Bool) → list_any (is_of rank) fs ≡ b →
      Rises rank_of_first (cond b fs (put_by rank_of_first (record { rank = rank; place = place }) fs))
  by true is = rises
  by false is = Rises-put rank place fs rises is

pub Rises-replaced : (rank : ℕ) (next : Option ℕ) (fs : List First) → Rises rank_of_first fs → Rises rank_of_first
    (replaced rank next fs)
Rises-replaced rank None fs rises = AllPairs-filter (λ (f g : First). f.rank < g.rank) (λ f. not (is_of rank f)) fs rises
Rises-replaced rank (Some place) fs rises =
    Rises-map rank_of_first (λ f. cond (is_of rank f) (moved_to place f) f) (λ f. by (is_of rank f) f) fs rises where
      by : (b : Bool) (f : First) → (cond b (moved_to place f) f).rank ≡ f.rank
      by true f = refl
      by false f = refl

pub Rises-passed : (rank place : ℕ) (next : Option ℕ) (fs : List First) → Rises rank_of_first fs →
    Rises rank_of_first (passed_on rank place next fs)
Rises-passed rank place next fs rises = by (option_map_or (λ first. eqb first place) (first_of rank fs) false) where
  by : (b : Bool) → Rises rank_of_first (cond b (replaced rank next fs) fs)
  by true = Rises-replaced rank next fs rises
  by false = rises

module _ {M A : Type 0} where
  -- how many waits there are
  pub open-is : {ss : List (Slot M A)} {fs : List First} {w e n d : ℕ} → IsKept ss fs w e n d →
      open_waits (waits_in ss) + e ≡ length ss
  open-is {ss} {fs} {w} {e} {n} {d} k =
      let one = length-waiting ss in let two = length-decided ss in let c = k.counted in let u = k.unended in omega arith

  -- one more
  pub kept-joined : {ss : List (Slot M A)} {fs : List First} {w e n d : ℕ} (s : Slot M A) → IsKept ss fs w e n d →
      n ≤ place_of s → s.stage ≡ Waits → IsRanked s → s.number ≡ 0 →
      IsKept (ss ++ s ∷ []) (led s.rank (place_of s) fs) (w + 1) e (place_of s + 1) d
  kept-joined {ss} {fs} {w} {e} {n} {d} s k up on ranked new =
      let waits : is_waiting s ≡ true = ap goes_on_at on in
      let told : has_answer s ≡ false = ap (λ st. is_some (answer_at st)) on in
      let more = length-snoc is_waiting ss s in
      let none = length-snoc has_answer ss s in
      let long = length-append ss (s ∷ []) in
      let first : one (is_waiting s) ≡ 1 = ap one waits in
      let second : one (has_answer s) ≡ 0 = ap one told in
      let counted = k.counted in
      let unended = k.unended in
      let few = k.few in
      record {
        rises = Rises-push place_of ss s k.rises (All-weaker (λ (t : Slot M A). place_of t < n)
            (λ (t : Slot M A). place_of t < place_of s)
            (λ t h. omega arith) ss k.below);
        below = All-push (λ (t : Slot M A). place_of t < place_of s + 1) ss s
            (All-weaker (λ (t : Slot M A). place_of t < n) (λ (t : Slot M A). place_of t < place_of s + 1)
            (λ t h. omega arith) ss k.below)
            (omega arith);
        ranked = All-push IsRanked ss s k.ranked ranked;
        numbered = All-push (λ (t : Slot M A). t.number ≤ d) ss s k.numbered (omega arith);
        leaders = λ r. first_of-led s.rank (place_of s) r fs
            ∙ ap (λ (o : Option ℕ). option_or o (cond (eqb s.rank r) (Some (place_of s)) None)) (k.leaders r)
            ∙ sym (leads-push r ss s waits);
        ordered = Rises-led s.rank (place_of s) fs k.ordered;
        counted = omega arith;
        unended = omega arith;
        few = omega arith;
      }

  -- One is put in the place of another that has its place and its rank.
  module _ (ss : List (Slot M A)) (i : ℕ) (d : Slot M A) (within : i < length ss) (new : Slot M A)
      (same : place_of new ≡ place_of (get_or ss i d)) where
    rises-set : Rises place_of ss → Rises place_of (set ss i new)
    rises-set rises =
        let place = place_of (get_or ss i d) in
        subst (Rises place_of) (sym (set-map place_of (λ (s : Slot M A). new) ss i d place rises within refl))
        (Rises-map place_of (λ s. cond (eqb (place_of s) place) new s) (λ s. by (eqb (place_of s) place) s refl) ss rises) where
          by : (b : Bool) (s : Slot M A) → eqb (place_of s) (place_of (get_or ss i d)) ≡ b → place_of (cond b new s) ≡ place_of s
          by true s is = same ∙ sym (eqb-true (place_of s) (place_of (get_or ss i d)) is)
          by false s is = refl

    -- a first that goes on no longer
    leaders-passed : (fs : List First) → Rises place_of ss → ((r : ℕ) → waits_as r new ≡ false) →
        is_waiting (get_or ss i d) ≡ true → ((r : ℕ) → first_of r fs ≡ leads r ss) → (r : ℕ) →
        first_of r (passed_on (get_or ss i d).rank (place_of (get_or ss i d)) (leads (get_or ss i d).rank (drop (i + 1) ss)) fs)
        ≡ leads r (set ss i new)
    leaders-passed fs rises off on leaders r = by (first_of rank fs) refl where
      s : Slot M A
      s = get_or ss i d

      rank : ℕ
      rank = (get_or ss i d).rank

      place : ℕ
      place = place_of (get_or ss i d)

      next : Option ℕ
      next = leads (get_or ss i d).rank (drop (i + 1) ss)

      -- of another rank it isn't the first
      other : (r : ℕ) → (rank ≡ r → ⊥) → leads r ss ≡ Some place → ⊥
      other r differ lead = at (find (waits_as r) ss) refl lead where
        at : (o : Option (Slot M A)) → find (waits_as r) ss ≡ o → option_map place_of o ≡ Some place → ⊥
        at None found is = absurd (cc)
        at (Some t) found is =
            let alone = alone-at place_of ss i d place rises within refl in
            let itself = found-alone (waits_as r) (λ s. eqb (place_of s) place) ss t (get_or ss i d) found
            (eq-eqb (place_of t) place (same_Some (place_of t) place is)) alone in
            differ (ap (λ (s : Slot M A). s.rank) (sym itself)
            ∙ eqb-true t.rank r (second (is_waiting t) (eqb t.rank r) (found-passes (waits_as r) ss t found))) where
              second : (a b : Bool) → (a && b) ≡ true → b ≡ true
              second true b is = is
              second false b is = absurd (cc)

      passes : (b : Bool) → eqb rank r ≡ b → leads rank ss ≡ Some place → cond b next (first_of r fs) ≡ leads r (set ss i new)
      passes true is lead =
          let to = eqb-true rank r is in
          subst (λ n. leads n (drop (i + 1) ss) ≡ leads r (set ss i new)) (sym to)
          (ap (λ n. leads r (drop n ss)) (plus i)
          ∙ sym (leads-next r new (off r) ss i d rises within (subst (λ n. leads n ss ≡ Some place) to lead))) where
            plus : (i : ℕ) → i + 1 ≡ suc i
            plus i = omega arith
      passes false is lead = leaders r
          ∙ sym (leads-kept r new (off r) ss i d within (other r (λ same. absurd (cc (eq-eqb rank r same, is)))))

      isnt : (leads rank ss ≡ Some place → ⊥) → first_of r fs ≡ leads r (set ss i new)
      isnt never = leaders r ∙ sym (leads-kept r new (off r) ss i d within (at (cases_eq rank r))) where
        at : (rank ≡ r) ⊎ (rank ≡ r → ⊥) → leads r ss ≡ Some place → ⊥
        at (inl same) is = never (subst (λ n. leads n ss ≡ Some place) (sym same) is)
        at (inr differ) is = other r differ is

      by : (o : Option ℕ) → first_of rank fs ≡ o →
          first_of r (cond (option_map_or (λ first. eqb first place) o false) (replaced rank next fs) fs) ≡ leads r (set ss i new)
      by None is = isnt (λ lead. absurd (cc (sym is ∙ leaders rank ∙ lead)))
      by (Some first) is = at (eqb first place) refl where
        at : (b : Bool) → eqb first place ≡ b → first_of r (cond b (replaced rank next fs) fs) ≡ leads r (set ss i new)
        at true here = first_of-replaced rank r next fs (ap is_some is)
            ∙ passes (eqb rank r) refl (sym (leaders rank) ∙ is ∙ ap (λ n. Some n) (eqb-true first place here))
        at false here = isnt (λ lead. absurd (cc (
          eq-eqb first place (same_Some first place
              (sym is ∙ leaders rank ∙ lead)),
          here,
        )))

    -- one that didn't go on
    leaders-set : (fs : List First) → Rises place_of ss → ((r : ℕ) → waits_as r new ≡ false) →
        is_waiting (get_or ss i d) ≡ false → ((r : ℕ) → first_of r fs ≡ leads r ss) → (r : ℕ) → first_of r fs ≡ leads r
        (set ss i new)
    leaders-set fs rises off on leaders r = leaders r ∙ sym (leads-kept r new (off r) ss i d within isnt) where
      place : ℕ
      place = place_of (get_or ss i d)

      isnt : leads r ss ≡ Some place → ⊥
      isnt lead = at (find (waits_as r) ss) refl lead where
        at : (o : Option (Slot M A)) → find (waits_as r) ss ≡ o → option_map place_of o ≡ Some place → ⊥
        at None found is = absurd (cc)
        at (Some t) found is =
            let alone = alone-at place_of ss i d place rises within refl in
            let itself = found-alone (waits_as r) (λ s. eqb (place_of s) place) ss t (get_or ss i d) found
            (eq-eqb (place_of t) place (same_Some (place_of t) place is)) alone in
            absurd (cc (
              ap is_waiting itself,
              on,
              first (is_waiting t) (eqb t.rank r) (found-passes
                  (waits_as r) ss t found),
            )) where
              first : (a b : Bool) → (a && b) ≡ true → a ≡ true
              first true b is = refl
              first false b is = absurd (cc)

  over-off : (s : Slot M A) (r : ℕ) → waits_as r (over s) ≡ false
  over-off s r = refl

  decided-off : (n : ℕ) (a : A) (s : Slot M A) (r : ℕ) → waits_as r (decided_as n a s) ≡ false
  decided-off n a s r = refl

  told-off : (s : Slot M A) → is_waiting s ≡ true → has_answer s ≡ false
  told-off s on = by s.stage on where
    by : (st : Stage A) → goes_on_at st ≡ true → is_some (answer_at st) ≡ false
    by Waits on = refl
    by (Decided a) on = absurd (cc)
    by Ended on = absurd (cc)

  module _ {ss : List (Slot M A)} {fs : List First} {w e n d : ℕ} (k : IsKept ss fs w e n d) (i : ℕ) (def : Slot M A)
      (within : i < length ss) where
    abbrev it : Slot M A
    it = get_or ss i def

    -- somebody waits
    pub some-waits : is_waiting it ≡ true → 0 < w
    some-waits on =
        let less = length-filter-set is_waiting ss i def (over it) within in
        let mine : one (is_waiting it) ≡ 1 = ap one on in
        let counted = k.counted in
        omega arith

    -- one that goes on does so no longer
    kept-changed : (new : Slot M A) (f c : ℕ) → is_waiting it ≡ true → place_of new ≡ place_of it → (IsRanked it → IsRanked new) →
        new.number ≤ c → d ≤ c → c + w ≤ n + 1 → is_waiting new ≡ false → ((r : ℕ) → waits_as r new ≡ false) →
        one (has_answer new) + f ≡ e + 1 →
        IsKept (set ss i new) (passed_on it.rank (place_of it) (leads it.rank (drop (i + 1) ss)) fs) (w - 1) f n c
    kept-changed new f c on same ranked fits later few over off told =
        let less = length-filter-set is_waiting ss i def new within in
        let more = length-filter-set has_answer ss i def new within in
        let long = length-set ss i new in
        let mine : one (is_waiting it) ≡ 1 = ap one on in
        let its : one (is_waiting new) ≡ 0 = ap one over in
        let untold : one (has_answer it) ≡ 0 = ap one (told-off it on) in
        let some = some-waits on in
        let counted = k.counted in
        let unended = k.unended in
        record {
          rises = rises-set ss i def within new same k.rises;
          below = All-set (λ (t : Slot M A). place_of t < n) ss i new
              (subst (λ m. m < n) (sym same) (All-get_or (λ (t : Slot M A). place_of t < n) ss i def within k.below)) k.below;
          ranked = All-set IsRanked ss i new (ranked (All-get_or IsRanked ss i def within k.ranked)) k.ranked;
          numbered = All-set (λ (t : Slot M A). t.number ≤ c) ss i new fits
              (All-weaker (λ (t : Slot M A). t.number ≤ d) (λ (t : Slot M A). t.number ≤ c) (λ t h. omega arith) ss k.numbered);
          leaders = leaders-passed ss i def within new same fs k.rises off on k.leaders;
          ordered = Rises-passed it.rank (place_of it) (leads it.rank (drop (i + 1) ss)) fs k.ordered;
          counted = omega arith;
          unended = omega arith;
          few = omega (arith, few, some);
        }

    -- one that goes on is decided, as the one of this number: that of a new decision, or of the last
    pub kept-decided : (c : ℕ) (answer : A) → d ≤ c → c ≤ d + 1 → is_waiting it ≡ true →
        IsKept (set ss i (decided_as c answer it)) (passed_on it.rank (place_of it) (leads it.rank (drop (i + 1) ss)) fs)
        (w - 1) e n c
    kept-decided c answer more less on =
        let few = k.few in
        kept-changed (decided_as c answer it) e c on refl (λ ranked. ranked) (omega arith) more (omega (arith, few, less)) refl
        (decided-off c answer it) (omega arith)

    -- one that goes on ends
    pub kept-quitted : is_waiting it ≡ true →
        IsKept (set ss i (over it)) (passed_on it.rank (place_of it) (leads it.rank (drop (i + 1) ss)) fs) (w - 1) (e + 1) n d
    kept-quitted on =
        let few = k.few in
        kept-changed (over it) (e + 1) d on refl (λ ranked. ranked)
        (All-get_or (λ (t : Slot M A). t.number ≤ d) ss i def within k.numbered)
        (omega arith) (omega (arith, few)) refl (over-off it) (omega arith)

    -- one that is decided ends
    pub kept-ended : is_waiting it ≡ false → has_answer it ≡ true → IsKept (set ss i (over it)) fs w (e + 1) n d
    kept-ended off told =
        let new = over it in
        let less = length-filter-set is_waiting ss i def new within in
        let more = length-filter-set has_answer ss i def new within in
        let long = length-set ss i new in
        let mine : one (is_waiting it) ≡ 0 = ap one off in
        let its : one (has_answer it) ≡ 1 = ap one told in
        let counted = k.counted in
        let unended = k.unended in
        record {
          rises = rises-set ss i def within new refl k.rises;
          below = All-set (λ (t : Slot M A). place_of t < n) ss i new
              (All-get_or (λ (t : Slot M A). place_of t < n) ss i def within k.below) k.below;
          ranked = All-set IsRanked ss i new (All-get_or IsRanked ss i def within k.ranked) k.ranked;
          numbered = All-set (λ (t : Slot M A). t.number ≤ d) ss i new
              (All-get_or (λ (t : Slot M A). t.number ≤ d) ss i def within k.numbered) k.numbered;
          leaders = leaders-set ss i def within new refl fs k.rises (over-off it) off k.leaders;
          ordered = k.ordered;
          counted = omega arith;
          unended = omega arith;
          few = k.few;
        }

  -- the ended ones are taken out, or not
  length-open : (ss : List (Slot M A)) →
      length (filter is_open ss) ≡ length (filter is_waiting ss) + length (filter has_answer ss)
  length-open [] = refl
  length-open (s ∷ ss) = by s.stage (length-open ss) where
    by : (st : Stage A) → length (filter is_open ss) ≡ length (filter is_waiting ss) + length (filter has_answer ss) →
        length (cond (is_open_at st) (s ∷ filter is_open ss) (filter is_open ss))
        ≡ length (cond (goes_on_at st) (s ∷ filter is_waiting ss) (filter is_waiting ss))
        + length (cond (is_some (answer_at st)) (s ∷ filter has_answer ss) (filter has_answer ss))
    by Waits same = omega arith
    by (Decided a) same = omega arith
    by Ended same = same

  pub kept-closed : {ss ts : List (Slot M A)} {fs : List First} {w e f n d : ℕ} → IsKept ss fs w e n d → IsClosedUp ss e ts f →
      IsKept ts fs w f n d
  kept-closed {ss} {ts} {fs} {w} {e} {f} {n} {d} k (inl same) =
      subst (λ (l : List (Slot M A)). IsKept l fs w f n d) (sym same.0) (subst (λ m. IsKept ss fs w m n d) (sym same.1) k)
  kept-closed {ss} {ts} {fs} {w} {e} {f} {n} {d} k (inr out) =
      subst (λ (l : List (Slot M A)). IsKept l fs w f n d) (sym out.0) (subst (λ m. IsKept (filter is_open ss) fs w m n d)
      (sym out.1)
      (let long = length-open ss in
      let waiting = ap length (waiting-open ss) in
      let told = ap length (told-open ss) in
      let counted = k.counted in
      record {
        rises = AllPairs-filter (λ (s t : Slot M A). place_of s < place_of t) is_open ss k.rises;
        below = All-filter is_open (λ (t : Slot M A). place_of t < n) ss k.below;
        ranked = All-filter is_open IsRanked ss k.ranked;
        numbered = All-filter is_open (λ (t : Slot M A). t.number ≤ d) ss k.numbered;
        leaders = λ r. k.leaders r ∙ ap (option_map place_of) (sym (find-weaker (waits_as r) is_open (goes r) ss));
        ordered = k.ordered;
        counted = waiting ∙ k.counted;
        unended = omega arith;
        few = k.few;
      })) where
        goes : (r : ℕ) (s : Slot M A) → waits_as r s ≡ true → is_open s ≡ true
        goes r s is = by s.stage is where
          by : (st : Stage A) → (goes_on_at st && eqb s.rank r) ≡ true → is_open_at st ≡ true
          by Waits is = refl
          by (Decided a) is = refl
          by Ended is = absurd (cc)

  -- it is decided, or not
  abbrev pub newly : ℕ → A → Bool → Slot M A → Slot M A
  newly n answer b s = decided_with n (cond b (Some answer) None) s

  -- all who wait are decided
  pub kept-all : {ss : List (Slot M A)} {fs : List First} {w e n d : ℕ} (answer : A) → IsKept ss fs w e n d → 0 < w →
      IsKept (map (decided_all (d + 1) answer) ss) [] 0 e n (d + 1)
  kept-all {ss} {fs} {w} {e} {n} {d} answer k some =
      let f = decided_all (d + 1) answer in
      let none = nobody ss in
      let told = all-told ss in
      let long = length-map ss f in
      let counted = k.counted in
      let unended = k.unended in
      let few = k.few in
      record {
        rises = Rises-map place_of f (λ s. by place_of (is_waiting s) s (λ s. refl)) ss k.rises;
        below = All-map (λ (t : Slot M A). place_of t < n) f ss (All-weaker (λ (t : Slot M A). place_of t < n)
            (λ (t : Slot M A). place_of (f t) < n) (λ t h. subst (λ m. m < n) (sym (by place_of (is_waiting t) t
            (λ s. refl))) h) ss k.below);
        ranked = All-map IsRanked f ss (All-weaker IsRanked (λ t. IsRanked (f t)) (λ t h. still (is_waiting t) t h) ss k.ranked);
        numbered = All-map (λ (t : Slot M A). t.number ≤ d + 1) f ss (All-weaker (λ (t : Slot M A). t.number ≤ d)
            (λ (t : Slot M A). (f t).number ≤ d + 1) (λ t h. newer (is_waiting t) t h) ss k.numbered);
        leaders = λ r. sym (unled r ss);
        ordered = λ i j d less within. absurd (omega arith);
        counted = ap length none;
        unended = omega arith;
        few = omega arith;
      } where
        by : {Y : Type 0} (g : Slot M A → Y) (b : Bool) (s : Slot M A) → ((s : Slot M A) → g (decided_as
            (d + 1) answer s) ≡ g s) →
            g (newly (d + 1) answer b s) ≡ g s
        by g true s same = same s
        by g false s same = refl

        still : (b : Bool) (s : Slot M A) → IsRanked s → IsRanked (newly (d + 1) answer b s)
        still true s ranked = ranked
        still false s ranked = ranked

        newer : (b : Bool) (s : Slot M A) → s.number ≤ d → (newly (d + 1) answer b s).number ≤ d + 1
        newer true s few = omega arith
        newer false s few = omega arith

        nobody : (ss : List (Slot M A)) → filter is_waiting (map (decided_all (d + 1) answer) ss) ≡ []
        nobody [] = refl
        nobody (s ∷ ss) = at (is_waiting s) refl (nobody ss) where
          after : List (Slot M A)
          after = filter is_waiting (map (decided_all (d + 1) answer) ss)

          at : (b : Bool) → is_waiting s ≡ b → after ≡ [] →
              cond (is_waiting (newly (d + 1) answer b s)) (newly (d + 1) answer b s ∷ after) after ≡ []
          at true on none = none
          at false on none = ap (λ b. cond b (s ∷ after) after) on ∙ none

        all-told : (ss : List (Slot M A)) → length (filter has_answer (map (decided_all (d + 1) answer) ss))
            ≡ length (filter is_waiting ss) + length (filter has_answer ss)
        all-told [] = refl
        all-told (s ∷ ss) = at (is_waiting s) refl (all-told ss) where
          after : List (Slot M A)
          after = filter has_answer (map (decided_all (d + 1) answer) ss)

          both : (c : Bool) → length after ≡ length (filter is_waiting ss) + length (filter has_answer ss) →
              length (cond c (s ∷ after) after) ≡ length (filter is_waiting ss) + length (cond c (s ∷ filter has_answer ss)
              (filter has_answer ss))
          both true same = omega arith
          both false same = same

          at : (b : Bool) → is_waiting s ≡ b → length after ≡ length (filter is_waiting ss) + length (filter has_answer ss) →
              length (cond (has_answer (newly (d + 1) answer b s)) (newly (d + 1) answer b s ∷ after) after)
              ≡ length (cond b (s ∷ filter is_waiting ss) (filter is_waiting ss)) + length (cond (has_answer s)
              (s ∷ filter has_answer ss) (filter has_answer ss))
          at true on same =
              let off = ap (λ c. length (cond c (s ∷ filter has_answer ss) (filter has_answer ss))) (told-off s on) in omega arith
          at false on same = both (has_answer s) same

        unled : (r : ℕ) (ss : List (Slot M A)) → leads r (map (decided_all (d + 1) answer) ss) ≡ None
        unled r [] = refl
        unled r (s ∷ ss) = at (is_waiting s) refl (unled r ss) where
          at : (b : Bool) → is_waiting s ≡ b → leads r (map (decided_all (d + 1) answer) ss) ≡ None →
              option_map place_of (cond (waits_as r (newly (d + 1) answer b s)) (Some (newly (d + 1) answer b s))
              (find (waits_as r) (map (decided_all (d + 1) answer) ss))) ≡ None
          at true on none = none
          at false on none = ap (λ b. option_map place_of (cond (b && eqb s.rank r) (Some s)
              (find (waits_as r) (map (decided_all (d + 1) answer) ss)))) on ∙ none

  -- before the first
  pub kept-none : IsKept {M = M} {A = A} [] [] 0 0 0 0
  kept-none = record {
    rises = λ i j d less within. absurd (omega arith);
    below = All-nil (λ (t : Slot M A). place_of t < 0);
    ranked = All-nil IsRanked;
    numbered = All-nil (λ (t : Slot M A). t.number ≤ 0);
    leaders = λ r. refl;
    ordered = λ i j d less within. absurd (omega arith);
    counted = refl;
    unended = refl;
    few = omega arith;
  }

-- What passing on does to the list of firsts.

no-first : (rank : ℕ) (fs : List First) → All (λ (f : First). f.rank ≢ rank) fs → first_of rank fs ≡ None
no-first rank [] differ = refl
no-first rank (f ∷ fs) differ =
    ap (λ b. option_map (λ (f : First). f.place) (cond b (Some f) (find (is_of rank) fs)))
    (ne_eqb f.rank rank (All-head (λ (f : First). f.rank ≢ rank) f fs differ))
    ∙ no-first rank fs (All-tail (λ (f : First). f.rank ≢ rank) f fs differ)

pub first-at : (rank at : ℕ) (fs : List First) (d : First) → Rises rank_of_first fs → at < length fs →
    (get_or fs at d).rank ≡ rank → first_of rank fs ≡ Some (get_or fs at d).place
first-at rank at fs d rises within is = ap (option_map (λ (f : First). f.place))
    (find-filter (is_of rank) fs ∙ ap (λ (l : List First). slice_get l 0) (alone-at rank_of_first fs at d rank rises within is))

pub passed-none : (rank place : ℕ) (next : Option ℕ) (fs : List First) → All (λ (f : First). f.rank ≢ rank) fs →
    passed_on rank place next fs ≡ fs
passed-none rank place next fs differ =
    ap (λ (o : Option ℕ). cond (option_map_or (λ first. eqb first place) o false) (replaced rank next fs) fs)
    (no-first rank fs differ)

pub passed-other : (rank place at : ℕ) (next : Option ℕ) (fs : List First) (d : First) → Rises rank_of_first fs → at < length fs →
    (get_or fs at d).rank ≡ rank → (get_or fs at d).place ≢ place → passed_on rank place next fs ≡ fs
passed-other rank place at next fs d rises within is differ =
    ap (λ (o : Option ℕ). cond (option_map_or (λ first. eqb first place) o false) (replaced rank next fs) fs)
    (first-at rank at fs d rises within is)
    ∙ ap (λ b. cond b (replaced rank next fs) fs) (ne_eqb (get_or fs at d).place place differ)

passed-here : (rank place at : ℕ) (next : Option ℕ) (fs : List First) (d : First) → Rises rank_of_first fs → at < length fs →
    (get_or fs at d).rank ≡ rank → (get_or fs at d).place ≡ place → passed_on rank place next fs ≡ replaced rank next fs
passed-here rank place at next fs d rises within is same =
    ap (λ (o : Option ℕ). cond (option_map_or (λ first. eqb first place) o false) (replaced rank next fs) fs)
    (first-at rank at fs d rises within is)
    ∙ ap (λ b. cond b (replaced rank next fs) fs) (eq-eqb (get_or fs at d).place place same)

pub passed-set : (rank place at new : ℕ) (fs : List First) (d : First) → Rises rank_of_first fs → at < length fs →
    (get_or fs at d).rank ≡ rank → (get_or fs at d).place ≡ place →
    set fs at (record { rank = rank; place = new }) ≡ passed_on rank place (Some new) fs
passed-set rank place at new fs d rises within is same =
    ap (λ n. set fs at (record { rank = n; place = new })) (sym is)
    ∙ set-map rank_of_first (moved_to new) fs at d rank rises within is
    ∙ sym (passed-here rank place at (Some new) fs d rises within is same)

pub passed-remove : (rank place at : ℕ) (fs : List First) (d : First) → Rises rank_of_first fs → at < length fs →
    (get_or fs at d).rank ≡ rank → (get_or fs at d).place ≡ place → remove fs at ≡ passed_on rank place None fs
passed-remove rank place at fs d rises within is same =
    remove-filter rank_of_first fs at d rank rises within is
    ∙ sym (passed-here rank place at None fs d rises within is same)

-- Who is served first.

-- where one is found, one at least passes a weaker test
found-some : {X : Type 0} (p q : X → Bool) (xs : List X) → ((x : X) → p x ≡ true → q x ≡ true) → is_some (find p xs) ≡ true →
    0 < length (filter q xs)
found-some p q [] both some = absurd (cc (some))
found-some {X} p q (x ∷ xs) both some = by (p x) (q x) refl refl (found-some p q xs both) some where
  by : (a b : Bool) → p x ≡ a → q x ≡ b → (is_some (find p xs) ≡ true → 0 < length (filter q xs)) →
      is_some (cond a (Some x) (find p xs)) ≡ true → 0 < length (cond b (x ∷ filter q xs) (filter q xs))
  by a true is passes further some = omega arith
  by true false is isnt further some = absurd (cc (both x is, isnt))
  by false false is isnt further some = further some

-- what isn't empty has an element
pub some-items : {X : Type 0} (xs : List X) (n : ℕ) → length xs ≡ n → eqb n 0 ≡ false → 0 < length xs
some-items xs zero long isnt = absurd (cc)
some-items xs (suc n) long isnt = omega (arith, long)

pub take-front : {X : Type 0} (xs ys : List X) (n : ℕ) → length xs ≡ n → take n (xs ++ ys) ≡ xs
take-front [] ys zero long = refl
take-front [] ys (suc n) long = absurd (omega arith)
take-front (x ∷ xs) ys zero long = absurd (omega arith)
take-front {X} (x ∷ xs) ys (suc n) long = ap (λ (l : List X). x ∷ l) (take-front xs ys n (omega arith))

pub no-items : {X : Type 0} (xs : List X) → length xs ≡ 0 → xs ≡ []
no-items [] none = refl
no-items (x ∷ xs) none = absurd (omega arith)

lower-none : (q : ℕ) (fs : List First) (d : First) → Rises rank_of_first fs → q < (get_or fs 0 d).rank → first_of q fs ≡ None
lower-none q [] d rises less = refl
lower-none q (f ∷ fs) d rises less = no-first q (f ∷ fs)
    (All-cons (λ (g : First). g.rank ≢ q) f fs (λ same. absurd (omega arith))
    (All-weaker (λ (g : First). f.rank < g.rank) (λ (g : First). g.rank ≢ q) (λ g h same. absurd (omega arith)) fs
    (above rank_of_first f fs rises)))

module _ {M A : Type 0} {ss : List (Slot M A)} {fs : List First} {w e n d : ℕ} (k : IsKept ss fs w e n d) where
  -- nobody waits
  pub kept-empty : fs ≡ [] → line ss ≡ []
  kept-empty none = ap (by_key (λ (s : Slot M A). s.rank))
      (none-waits ss (λ r. sym (k.leaders r) ∙ ap (first_of r) none))

  lead-of : (f : First) → 0 < length fs → leads (get_or fs 0 f).rank ss ≡ Some (get_or fs 0 f).place
  lead-of f some = sym (k.leaders (get_or fs 0 f).rank) ∙ first-at (get_or fs 0 f).rank 0 fs f k.ordered some refl

  -- then somebody waits
  pub first-waits : 0 < length fs → 0 < w
  first-waits some = by fs refl where
    by : (gs : List First) → gs ≡ fs → 0 < w
    by [] same = absurd (omega (arith, ap length same))
    by (f ∷ gs) same =
        let rank = (get_or fs 0 f).rank in
        let counted = k.counted in
        let one = found-some (waits_as rank) is_waiting ss (λ s is. first_so (is_waiting s) (eqb s.rank rank) is)
        (led-some (find (waits_as rank) ss) (get_or fs 0 f).place (lead-of f some)) in
        omega arith where
          led-some : (o : Option (Slot M A)) (place : ℕ) → option_map place_of o ≡ Some place → is_some o ≡ true
          led-some None place is = absurd (cc (is))
          led-some (Some t) place is = refl

  -- the first of the lowest rank is there
  pub first-there : (f : First) → 0 < length fs → All (λ (s : Slot M A). place_of s ≢ (get_or fs 0 f).place) ss → ⊥
  first-there f some differ = at (find (waits_as (get_or fs 0 f).rank) ss) refl (lead-of f some) where
    at : (o : Option (Slot M A)) → find (waits_as (get_or fs 0 f).rank) ss ≡ o →
        option_map place_of o ≡ Some (get_or fs 0 f).place → ⊥
    at None found is = absurd (cc)
    at (Some t) found is = All-found (λ (s : Slot M A). place_of s ≢ (get_or fs 0 f).place) (waits_as
        (get_or fs 0 f).rank) ss t differ
        found (same_Some (place_of t) (get_or fs 0 f).place is)

  -- and is served first
  pub first-served : (f : First) (i : ℕ) (def : Slot M A) → 0 < length fs → i < length ss →
      place_of (get_or ss i def) ≡ (get_or fs 0 f).place →
      (is_waiting (get_or ss i def) ≡ true) × ((get_or ss i def).rank ≡ (get_or fs 0 f).rank)
      × (ls : List (Slot M A)) × (line ss ≡ get_or ss i def ∷ ls)
  first-served f i def some within at =
      first-line ss (get_or ss i def) (get_or fs 0 f).rank (get_or fs 0 f).place
      (alone-at place_of ss i def (get_or fs 0 f).place k.rises within at) (lead-of f some)
      (λ q less. sym (k.leaders q) ∙ lower-none q fs f k.ordered less)

-- what is decided for a player is decided, and goes on no longer
pub answered : {M A : Type 0} (player : ℕ) (s : Slot M A) (a : A) → answer_for player s ≡ Some a →
    (is_waiting s ≡ false) × (has_answer s ≡ true)
answered {M} {A} player s a is = by (eqb s.waiter.who.number player) s.stage is where
  by : (b : Bool) (st : Stage A) → cond b (answer_at st) None ≡ Some a → (goes_on_at st ≡ false) × (is_some (answer_at st) ≡ true)
  by true Waits is = absurd (cc)
  by true (Decided x) is = (refl, refl)
  by true Ended is = absurd (cc)
  by false st is = absurd (cc)
