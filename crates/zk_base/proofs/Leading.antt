-- The first of each rank: what a list of waits has as the first of a rank, and what is kept of that.
use Rattle.std.proofs.Common.{◌≡◌, ℕ, zero, suc, ◌<◌, Bool, true, false, not, ◌&&◌, ◌||◌, cond, eqb, ltb, Option, Some, None, is_some, option_map, List, [], ◌∷◌, ◌++◌, length, set, get_or, drop, map, filter, find, refl, sym, ap, subst, ◌∙◌, arith}
use Rattle.std.specs.List.{list_any}
use Rattle.std.specs.Option.{option_or}
use Rattle.std.proofs.lemmas.Option.{same_Some}
use Rattle.std.proofs.lemmas.Bool.{eqb-true, eq-eqb}
use Rattle.zk_base.specs.declared.slots.Slot.{Slot}
use Rattle.zk_base.specs.declared.leaders.First.{First}
use Rattle.zk_base.specs.Order.{put_by}
use Rattle.zk_base.specs.Slots.{Rises, place_of, is_waiting, waits_as, leads, is_of, first_of, led, moved_to, replaced}
use Rattle.zk_base.proofs.Risen.{rest, front}

same-rank : (a b : ℕ) → eqb a b ≡ true → eqb b a ≡ true
same-rank a b is = eq-eqb b a (sym (eqb-true a b is))

-- where one is of this rank, it has a first
pub any-first : (rank : ℕ) (fs : List First) → list_any (is_of rank) fs ≡ is_some (first_of rank fs)
any-first rank [] = refl
any-first rank (f ∷ fs) = by (is_of rank f) (any-first rank fs) where
  by : (b : Bool) → list_any (is_of rank) fs ≡ is_some (first_of rank fs) →
      (b || list_any (is_of rank) fs) ≡ is_some (option_map (λ (f : First). f.place) (cond b (Some f) (find (is_of rank) fs)))
  by true same = refl
  by false same = same

-- One more.

find-put : (rank place r : ℕ) (fs : List First) → find (is_of rank) fs ≡ None →
    first_of r (put_by (λ f. f.rank) (record { rank = rank; place = place }) fs) ≡ cond (eqb rank r) (Some place) (first_of r fs)
find-put rank place r [] none = by (eqb rank r) where
  by : (b : Bool) → option_map (λ (f : First). f.place) (cond b (Some (record { rank = rank; place = place })) None)
      ≡ cond b (Some place) None
  by true = refl
  by false = refl
find-put rank place r (f ∷ fs) none = by (ltb rank f.rank) (eqb f.rank rank) refl none (find-put rank place r fs) where
  new : First
  new = record { rank = rank; place = place }

  val : Option First → Option ℕ
  val o = option_map (λ (f : First). f.place) o

  put : (b : Bool) → val (cond b (Some new) (find (is_of r) (f ∷ fs))) ≡ cond b (Some place) (first_of r (f ∷ fs))
  put true = refl
  put false = refl

  later : (b c : Bool) → eqb f.rank r ≡ b → eqb rank r ≡ c → eqb f.rank rank ≡ false →
      val (find (is_of r) (put_by (λ f. f.rank) new fs)) ≡ cond c (Some place) (first_of r fs) →
      val (cond b (Some f) (find (is_of r) (put_by (λ f. f.rank) new fs)))
      ≡ cond c (Some place) (val (cond b (Some f) (find (is_of r) fs)))
  later true true fr nr differ same = absurd (cc (eq-eqb f.rank rank (eqb-true f.rank r fr ∙ sym (eqb-true rank r nr)), differ))
  later true false fr nr differ same = refl
  later false c fr nr differ same = same

  by : (b c : Bool) → eqb f.rank rank ≡ c → cond c (Some f) (find (is_of rank) fs) ≡ None →
      (find (is_of rank) fs ≡ None →
      first_of r (put_by (λ f. f.rank) new fs) ≡ cond (eqb rank r) (Some place) (first_of r fs)) →
      val (find (is_of r) (cond b (new ∷ f ∷ fs) (f ∷ put_by (λ f. f.rank) new fs)))
      ≡ cond (eqb rank r) (Some place) (first_of r (f ∷ fs))
  by b true is none further = absurd (cc)
  by true false is none further = put (eqb rank r)
  by false false is none further = later (eqb f.rank r) (eqb rank r) refl refl is (further none)

none-of : {X : Type 0} (o : Option X) (f : X → ℕ) → is_some (option_map f o) ≡ false → o ≡ None
none-of None f is = refl
none-of (Some x) f is = absurd (cc)

-- one more is the first of its rank, where there is none
pub first_of-led : (rank place r : ℕ) (fs : List First) →
    first_of r (led rank place fs) ≡ option_or (first_of r fs) (cond (eqb rank r) (Some place) None)
first_of-led rank place r fs = by (list_any (is_of rank) fs) refl where
  there : (o : Option ℕ) (b : Bool) → (b ≡ true → is_some o ≡ true) → o ≡ option_or o (cond b (Some place) None)
  there None true some = absurd (cc (some refl))
  there None false some = refl
  there (Some n) b some = refl

  new : (o : Option ℕ) (b : Bool) → (b ≡ true → is_some o ≡ false) → cond b (Some place) o ≡ option_or o (cond b
      (Some place) None)
  new None true none = refl
  new None false none = refl
  new (Some n) true none = absurd (cc (none refl))
  new (Some n) false none = refl

  by : (b : Bool) → list_any (is_of rank) fs ≡ b →
      first_of r (cond b fs (put_by (λ f. f.rank) (record { rank = rank; place = place }) fs))
      ≡ option_or (first_of r fs) (cond (eqb rank r) (Some place) None)
  by true is = there (first_of r fs) (eqb rank r)
      (λ same. subst (λ n. is_some (first_of n fs) ≡ true) (eqb-true rank r same) (sym (any-first rank fs) ∙ is))
  by false is = find-put rank place r fs (none-of (find (is_of rank) fs) (λ (f : First). f.place) (sym (any-first rank fs) ∙ is))
      ∙ new (first_of r fs) (eqb rank r)
      (λ same. subst (λ n. is_some (first_of n fs) ≡ false) (eqb-true rank r same) (sym (any-first rank fs) ∙ is))

-- The first of a rank goes.

find-moved : (rank place r : ℕ) (fs : List First) →
    first_of r (map (λ f. cond (is_of rank f) (moved_to place f) f) fs)
    ≡ cond (eqb rank r) (option_map (λ _. place) (first_of r fs)) (first_of r fs)
find-moved rank place r [] = by (eqb rank r) where
  by : (b : Bool) → None ≡ cond b (option_map (λ (_ : ℕ). place) None) None
  by true = refl
  by false = refl
find-moved rank place r (f ∷ fs) = by (eqb f.rank rank) (eqb f.rank r) (eqb rank r) refl refl refl
    (find-moved rank place r fs) where
      after : List First
      after = map (λ f. cond (is_of rank f) (moved_to place f) f) fs

      val : Option First → Option ℕ
      val o = option_map (λ (f : First). f.place) o

      by : (a b c : Bool) → eqb f.rank rank ≡ a → eqb f.rank r ≡ b → eqb rank r ≡ c →
          val (find (is_of r) after) ≡ cond c (option_map (λ _. place) (first_of r fs)) (first_of r fs) →
          val (find (is_of r) (cond a (moved_to place f) f ∷ after))
          ≡ cond c (option_map (λ _. place) (val (cond b (Some f) (find (is_of r) fs)))) (val (cond b (Some f) (find (is_of r) fs)))
      by true true true fa fb fc same = ap (λ b. val (cond b (Some (moved_to place f)) (find (is_of r) after))) fb
      by true true false fa fb fc same = absurd (cc (eq-eqb rank r (sym (eqb-true f.rank rank fa) ∙ eqb-true f.rank r fb), fc))
      by true false c fa fb fc same = ap (λ b. val (cond b (Some (moved_to place f)) (find (is_of r) after))) fb ∙ same
      by false true true fa fb fc same = absurd (cc (eq-eqb f.rank rank (eqb-true f.rank r fb ∙ sym (eqb-true rank r fc)), fa))
      by false true false fa fb fc same = ap (λ b. val (cond b (Some f) (find (is_of r) after))) fb
      by false false c fa fb fc same = ap (λ b. val (cond b (Some f) (find (is_of r) after))) fb ∙ same

find-gone : (rank r : ℕ) (fs : List First) →
    first_of r (filter (λ f. not (is_of rank f)) fs) ≡ cond (eqb rank r) None (first_of r fs)
find-gone rank r [] = by (eqb rank r) where
  by : (b : Bool) → None ≡ cond b None (option_map (λ (f : First). f.place) None)
  by true = refl
  by false = refl
find-gone rank r (f ∷ fs) = by (eqb f.rank rank) (eqb f.rank r) (eqb rank r) refl refl refl (find-gone rank r fs) where
  after : List First
  after = filter (λ f. not (is_of rank f)) fs

  val : Option First → Option ℕ
  val o = option_map (λ (f : First). f.place) o

  by : (a b c : Bool) → eqb f.rank rank ≡ a → eqb f.rank r ≡ b → eqb rank r ≡ c →
      val (find (is_of r) after) ≡ cond c None (first_of r fs) →
      val (find (is_of r) (cond (not a) (f ∷ after) after)) ≡ cond c None (val (cond b (Some f) (find (is_of r) fs)))
  by true true true fa fb fc same = same
  by true true false fa fb fc same = absurd (cc (eq-eqb rank r (sym (eqb-true f.rank rank fa) ∙ eqb-true f.rank r fb), fc))
  by true false c fa fb fc same = same
  by false true true fa fb fc same = absurd (cc (eq-eqb f.rank rank (eqb-true f.rank r fb ∙ sym (eqb-true rank r fc)), fa))
  by false true false fa fb fc same = ap (λ b. val (cond b (Some f) (find (is_of r) after))) fb
  by false false c fa fb fc same = ap (λ b. val (cond b (Some f) (find (is_of r) after))) fb ∙ same

-- the next of its rank is the first of it, and of each other rank the first stays
pub first_of-replaced : (rank r : ℕ) (next : Option ℕ) (fs : List First) → is_some (first_of rank fs) ≡ true →
    first_of r (replaced rank next fs) ≡ cond (eqb rank r) next (first_of r fs)
first_of-replaced rank r None fs some = find-gone rank r fs
first_of-replaced rank r (Some place) fs some = find-moved rank place r fs ∙ by (eqb rank r) refl where
  at : (o : Option ℕ) → is_some o ≡ true → option_map (λ (_ : ℕ). place) o ≡ Some place
  at None some = absurd (cc)
  at (Some n) some = refl

  by : (b : Bool) → eqb rank r ≡ b →
      cond b (option_map (λ (_ : ℕ). place) (first_of r fs)) (first_of r fs) ≡ cond b (Some place) (first_of r fs)
  by true same = at (first_of r fs) (subst (λ n. is_some (first_of n fs) ≡ true) (eqb-true rank r same) some)
  by false same = refl

module _ {M A : Type 0} where
  abbrev val : Option (Slot M A) → Option ℕ
  val o = option_map place_of o

  -- one more at the end
  pub leads-push : (r : ℕ) (ss : List (Slot M A)) (s : Slot M A) → is_waiting s ≡ true →
      leads r (ss ++ s ∷ []) ≡ option_or (leads r ss) (cond (eqb s.rank r) (Some (place_of s)) None)
  leads-push r [] s on = ap (λ b. val (cond (b && eqb s.rank r) (Some s) None)) on ∙ by (eqb s.rank r) where
    by : (b : Bool) → val (cond b (Some s) None) ≡ cond b (Some (place_of s)) None
    by true = refl
    by false = refl
  leads-push r (t ∷ ss) s on = by (waits_as r t) (leads-push r ss s on) where
    by : (b : Bool) → leads r (ss ++ s ∷ []) ≡ option_or (leads r ss) (cond (eqb s.rank r) (Some (place_of s)) None) →
        val (cond b (Some t) (find (waits_as r) (ss ++ s ∷ [])))
        ≡ option_or (val (cond b (Some t) (find (waits_as r) ss))) (cond (eqb s.rank r) (Some (place_of s)) None)
    by true same = refl
    by false same = same

  -- One goes on no longer.
  module _ (r : ℕ) (new : Slot M A) (off : waits_as r new ≡ false) where
    -- it isn't the first of the rank
    pub leads-kept : (ss : List (Slot M A)) (i : ℕ) (d : Slot M A) → i < length ss →
        (leads r ss ≡ Some (place_of (get_or ss i d)) → ⊥) → leads r (set ss i new) ≡ leads r ss
    leads-kept [] i d within isnt = absurd (omega arith)
    leads-kept (t ∷ ss) zero d within isnt = ap (λ b. val (cond b (Some new) (find (waits_as r) ss))) off ∙ by
        (waits_as r t) isnt where
          by : (b : Bool) → (val (cond b (Some t) (find (waits_as r) ss)) ≡ Some (place_of t) → ⊥) →
              leads r ss ≡ val (cond b (Some t) (find (waits_as r) ss))
          by true isnt = absurd (isnt refl)
          by false isnt = refl
    leads-kept (t ∷ ss) (suc i) d within isnt = by (waits_as r t) isnt (leads-kept ss i d (omega arith)) where
      by : (b : Bool) → (val (cond b (Some t) (find (waits_as r) ss)) ≡ Some (place_of (get_or ss i d)) → ⊥) →
          ((leads r ss ≡ Some (place_of (get_or ss i d)) → ⊥) → leads r (set ss i new) ≡ leads r ss) →
          val (cond b (Some t) (find (waits_as r) (set ss i new))) ≡ val (cond b (Some t) (find (waits_as r) ss))
      by true isnt further = refl
      by false isnt further = further isnt

    -- it is: the next one behind it is the first now
    pub leads-next : (ss : List (Slot M A)) (i : ℕ) (d : Slot M A) → Rises place_of ss → i < length ss →
        leads r ss ≡ Some (place_of (get_or ss i d)) → leads r (set ss i new) ≡ leads r (drop (suc i) ss)
    leads-next [] i d rises within is = absurd (omega arith)
    leads-next (t ∷ ss) zero d rises within is = ap (λ b. val (cond b (Some new) (find (waits_as r) ss))) off
    leads-next (t ∷ ss) (suc i) d rises within is =
        by (waits_as r t) is (leads-next ss i d (rest place_of t ss rises) (omega arith)) where
          by : (b : Bool) → val (cond b (Some t) (find (waits_as r) ss)) ≡ Some (place_of (get_or ss i d)) →
              (leads r ss ≡ Some (place_of (get_or ss i d)) → leads r (set ss i new) ≡ leads r (drop (suc i) ss)) →
              val (cond b (Some t) (find (waits_as r) (set ss i new))) ≡ leads r (drop (suc i) ss)
          by true is further = absurd (front place_of t ss i d (place_of (get_or ss i d)) rises (omega arith) refl
              (same_Some (place_of t) (place_of (get_or ss i d)) is))
          by false is further = further is
