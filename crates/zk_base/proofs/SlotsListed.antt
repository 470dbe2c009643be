-- A list of waits stays one under each change.
use Rattle.std.proofs.Common.{◌≡◌, ℕ, ◌+◌, ◌-◌, min, ◌<◌, ◌≤◌, inl, inr, Bool, true, false, not, cond, eqb, is_some, List, [], ◌∷◌, ◌++◌, length, set, get_or, drop, map, filter, All, refl, sym, ap, subst, arith}
use Rattle.std.proofs.lemmas.Bool.{eqb-true}
use Rattle.std.proofs.lemmas.List.{length-append, length-set, length-map}
use Rattle.std.proofs.lemmas.List.Elements.{All-nil, All-cons, All-weaker, All-filter, All-map, All-push, All-set}
use Rattle.zk_base.specs.declared.slots.Slot.{Slot}
use Rattle.zk_base.specs.declared.slots.Stage.TheVariants.{Waits}
use Rattle.zk_base.specs.declared.leaders.First.{First}
use Rattle.zk_base.specs.declared.span.Span.{Span}
use Rattle.zk_base.specs.Slots.{place_of, answer_at, is_waiting, is_open, has_answer, IsRanked, over, decided_as, decided_all, leads, led, passed_on, IsClosedUp, IsKept, IsIn, IsToldIn, IsWaitList, StaysWaitList}
use Rattle.zk_base.proofs.SlotsKept.{kept-none, kept-joined, kept-decided, kept-closed, newly, kept-all, some-waits}

module _ {M A : Type 0} where
  -- before the first
  pub list-none : (told : Span) → IsWaitList {M = M} {A = A} [] [] 0 0 0 0 told
  list-none told = record { kept = kept-none; half = omega arith; within = All-nil (IsToldIn told) }

  untold : (told : Span) (ss : List (Slot M A)) → length (filter has_answer ss) ≡ 0 → All (IsToldIn told) ss
  untold told [] none = All-nil (IsToldIn told)
  untold told (s ∷ ss) none = by (has_answer s) refl (untold told ss) none where
    by : (b : Bool) → has_answer s ≡ b → (length (filter has_answer ss) ≡ 0 → All (IsToldIn told) ss) →
        length (cond b (s ∷ filter has_answer ss) (filter has_answer ss)) ≡ 0 → All (IsToldIn told) (s ∷ ss)
    by true is further none = absurd (omega arith)
    by false is further none = All-cons (IsToldIn told) s ss (λ has. absurd (cc (is, has))) (further none)

  module _ {ss : List (Slot M A)} {fs : List First} {w e n d : ℕ} {told : Span} (l : IsWaitList ss fs w e n d told) where
    -- one more
    pub list-joined : (s : Slot M A) → n ≤ place_of s → s.stage ≡ Waits → IsRanked s → s.number ≡ 0 →
        IsWaitList (ss ++ s ∷ []) (led s.rank (place_of s) fs) (w + 1) e (place_of s + 1) d told
    list-joined s up on ranked new =
        let untold : has_answer s ≡ false = ap (λ st. is_some (answer_at st)) on in
        let long = length-append ss (s ∷ []) in
        let half = l.half in
        record {
          kept = kept-joined s l.kept up on ranked new;
          half = omega arith;
          within = All-push (IsToldIn told) ss s l.within (λ is. absurd (cc (untold, is)));
        }

    -- one that goes on is decided, as the one of this number: that of a new decision, or of the last
    pub list-decided : (c : ℕ) (answer : A) → d ≤ c → c ≤ d + 1 → (i : ℕ) (def : Slot M A) → i < length ss →
        is_waiting (get_or ss i def) ≡ true → (wider : Span) →
        IsIn wider (place_of (get_or ss i def)) → ((place : ℕ) → IsIn told place → IsIn wider place) →
        IsWaitList (set ss i (decided_as c answer (get_or ss i def)))
        (passed_on (get_or ss i def).rank (place_of (get_or ss i def)) (leads (get_or ss i def).rank (drop (i + 1) ss)) fs)
        (w - 1) e n c wider
    list-decided c answer more few i def less on wider here wide =
        let new = decided_as c answer (get_or ss i def) in
        let long = length-set ss i new in
        let half = l.half in
        record {
          kept = kept-decided l.kept i def less c answer more few on;
          half = omega arith;
          within = All-set (IsToldIn wider) ss i new (λ is. here)
              (All-weaker (IsToldIn told) (IsToldIn wider) (λ s h is. wide (place_of s) (h is)) ss l.within);
        }

    -- all who wait are decided
    pub list-all : (answer : A) → 0 < w → (all : Span) → ((place : ℕ) → place < n → IsIn all place) →
        IsWaitList (map (decided_all (d + 1) answer) ss) [] 0 e n (d + 1) all
    list-all answer some all wide =
        let f = decided_all (d + 1) answer in
        let long = length-map ss f in
        let half = l.half in
        record {
          kept = kept-all answer l.kept some;
          half = omega arith;
          within = All-map (IsToldIn all) f ss (All-weaker (λ (s : Slot M A). place_of s < n) (λ s. IsToldIn all (f s))
              (λ s h is. by (is_waiting s) s h) ss l.kept.below);
        } where
          by : (b : Bool) (s : Slot M A) → place_of s < n → IsIn all (place_of (newly (d + 1) answer b s))
          by true s h = wide (place_of s) h
          by false s h = wide (place_of s) h

    -- one has ended, and those that have are taken out, or not
    pub list-ended : (i : ℕ) (it : Slot M A) {ts : List (Slot M A)} {gs : List First} {v f : ℕ} →
        IsKept (set ss i (over it)) gs v (e + 1) n d →
        IsClosedUp (set ss i (over it)) (e + 1) ts f → f + f ≤ length ts →
        IsWaitList ts gs v f n d told
    list-ended i it {ts} {gs} {v} {f} kept closed half = record {
      kept = kept-closed kept closed;
      half = half;
      within = by closed;
    } where
      set-within : All (IsToldIn told) (set ss i (over it))
      set-within = All-set (IsToldIn told) ss i (over it) (λ is. absurd (cc (is))) l.within

      by : IsClosedUp (set ss i (over it)) (e + 1) ts f → All (IsToldIn told) ts
      by (inl same) = subst (All (IsToldIn told)) (sym same.0) set-within
      by (inr out) = subst (All (IsToldIn told)) (sym out.0) (All-filter is_open (IsToldIn told) (set ss i (over it)) set-within)

    -- where none is decided, they may stand anywhere
    pub list-told : (left : Span) (many : ℕ) → length ss ≡ many → (not (eqb many (w + e)) ≡ true → left ≡ told) →
        IsWaitList ss fs w e n d left
    list-told left many long same = by (eqb many (w + e)) refl same where
      by : (b : Bool) → eqb many (w + e) ≡ b → (not b ≡ true → left ≡ told) → IsWaitList ss fs w e n d left
      by true is same =
          let as_many = eqb-true many (w + e) is in
          let unended = l.kept.unended in
          record { kept = l.kept; half = l.half; within = untold left ss (omega arith) }
      by false is same = subst (IsWaitList ss fs w e n d) (sym (same refl)) l

  -- none is decided yet
  pub stays-none : (number : ℕ) (ss : List (Slot M A)) (fs : List First) (told : Span) → StaysWaitList number ss fs told ss fs told 0
  stays-none number ss fs told = record {
    at_once = λ w e n d is l.
        let as_many : w ≡ w - 0 = omega arith in
        let as_before : d ≡ d + min 0 1 = omega arith in (
          omega arith,
          subst (λ v. IsWaitList ss fs v e n (d + min 0 1) told) as_many
              (subst (λ c. IsWaitList ss fs w e n c told) as_before l),
        );
  }

  -- one more of those that are decided at once
  pub stays-more : {number : ℕ} {ss ts : List (Slot M A)} {fs gs : List First} {told later : Span} {k : ℕ} →
      StaysWaitList number ss fs told ts gs later k → (answer : A) (i : ℕ) (def : Slot M A) → i < length ts →
      is_waiting (get_or ts i def) ≡ true → (wider : Span) → IsIn wider (place_of (get_or ts i def)) →
      ((place : ℕ) → IsIn later place → IsIn wider place) →
      StaysWaitList number ss fs told (set ts i (decided_as number answer (get_or ts i def)))
      (passed_on (get_or ts i def).rank (place_of (get_or ts i def)) (leads (get_or ts i def).rank (drop (i + 1) ts)) gs)
      wider (k + 1)
  stays-more {number} {ss} {ts} {fs} {gs} {told} {later} {k} stays answer i def less on wider here wide = record {
    at_once = λ w e n d is l.
        let before = stays.at_once w e n d is l in
        let it = get_or ts i def in
        let now = set ts i (decided_as number answer it) in
        let led = passed_on it.rank (place_of it) (leads it.rank (drop (i + 1) ts)) gs in
        let some = some-waits before.1.kept i def less on in
        let one_less : w - k - 1 ≡ w - (k + 1) = omega arith in
        let one_decision : number ≡ d + min (k + 1) 1 = omega (arith, is) in (
          omega (arith, some),
          subst (λ v. IsWaitList now led v e n (d + min (k + 1) 1) wider) one_less
              (subst (λ c. IsWaitList now led (w - k - 1) e n c wider) one_decision
              (list-decided before.1 number answer (omega (arith, is)) (omega (arith, is)) i def less on wider here wide)),
        );
  }
