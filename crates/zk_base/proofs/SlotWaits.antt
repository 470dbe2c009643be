-- What a list of kept waits says of who waits and of what is decided, and how that changes.
use Rattle.std.proofs.Common.{◌≡◌, ℕ, suc, ◌<◌, ◌≤◌, ◌⊎◌, inl, inr, ℤ, Bool, true, false, not, ◌&&◌, ◌||◌, cond, eqb, ltb, Option, Some, None, is_some, option_map, List, [], ◌∷◌, ◌++◌, length, map, filter, filter_map, find, slice_get, get_or, drop, All, refl, sym, ap, subst, ◌∙◌, arith}
use Rattle.std.specs.Prelude.{int_lt}
use Rattle.std.specs.Cmp.{first_so, second_so}
use Rattle.std.specs.List.{list_any, cons_option}
use Rattle.std.proofs.lemmas.Int.{ints}
use Rattle.std.proofs.lemmas.Option.{same_Some}
use Rattle.std.proofs.lemmas.Bool.Decides.{nat_tests}
use Rattle.std.proofs.lemmas.Bool.{cases_lt, cases_eq, eqb-true, eq-eqb, ne_eqb, lt-ltb, le-ltb}
use Rattle.std.proofs.lemmas.List.{append-nil, length-map}
use Rattle.std.proofs.lemmas.List.Elements.{All-nil, All-cons, All-head, All-tail, All-weaker, All-filter, filter-append, filter_passes, filter_map-append}
use Rattle.zk_base.specs.declared.waits.Waiter.{Waiter}
use Rattle.zk_base.specs.declared.waits.Decision.{Decision}
use Rattle.zk_base.specs.declared.slots.Slot.{Slot}
use Rattle.zk_base.specs.declared.slots.Stage.{Stage}
use Rattle.zk_base.specs.declared.slots.Stage.TheVariants.{Waits, Decided, Ended}
use Rattle.zk_base.specs.Lists.{put_before, without_first}
use Rattle.zk_base.specs.Order.{put_by, put_all_by, by_key, Ascends}
use Rattle.zk_base.specs.Waits.{Waits as AllWaits, is_served_after, is_waiter, is_decision, decide, decision_of, goes_on, joined, left, ended, says, is_left, decided_by, decisions_by, all_decided, each_decided, first_decided}
use Rattle.zk_base.specs.Slots.{IsPriority, rank_of, place_of, goes_on_at, is_open_at, answer_at, is_waiting, is_open, has_answer, decision_in, answer_for, IsRanked, over, decided_as, decided_with, decided_where, decided_all, answer_by, line, told, waits_in, waits_as, leads, IsClosedUp}
use Rattle.zk_base.proofs.Order.{Ascends-put_by, by_key-snoc, All-by_key, length-by_key, map-by_key, filter-by_key, by_key-ascending, find-filter, filter_none}
use Rattle.zk_base.proofs.WaitTests.{decisions-alike}
use Rattle.zk_base.proofs.SlotLists.{all-of-filter, filters-swap, filter-weaker, filter-not, found-passes, found-alone, ascending-parts, Ascends-same, find-through, without-through, without-absent, map-some}

-- priorities and their ranks
pub ranks : (a b : ℤ) → IsPriority a → IsPriority b → ltb (rank_of a) (rank_of b) ≡ int_lt a b
ranks a b low less = grind (arith, ints, nat_tests)

Ascends-put_all : {X : Type 0} (key : X → ℕ) (sorted xs : List X) → Ascends key sorted → Ascends key (put_all_by key sorted xs)
Ascends-put_all key sorted [] up = up
Ascends-put_all key sorted (x ∷ xs) up = Ascends-put_all key (put_by key x sorted) xs (Ascends-put_by key x sorted up)

Ascends-by_key : {X : Type 0} (key : X → ℕ) (xs : List X) → Ascends key (by_key key xs)
Ascends-by_key key xs = Ascends-put_all key [] xs tt

any-find : {X : Type 0} (p : X → Bool) (xs : List X) → list_any p xs ≡ is_some (find p xs)
any-find p [] = refl
any-find p (x ∷ xs) = by (p x) (any-find p xs) where
  by : (b : Bool) → list_any p xs ≡ is_some (find p xs) → (b || list_any p xs) ≡ is_some (cond b (Some x) (find p xs))
  by true same = refl
  by false same = same

module _ {M A : Type 0} where
  abbrev rank : Slot M A → ℕ
  rank s = s.rank

  abbrev number : Slot M A → ℕ
  number s = s.number

  abbrev waiter : Slot M A → Waiter M
  waiter s = s.waiter

  same-waits : (v w : List (Waiter M)) (d e : List (Decision A)) → v ≡ w → d ≡ e →
      ◌≡◌ {A = AllWaits M A} (record { waiting = v; decided = d }) (record { waiting = w; decided = e })
  same-waits v w d e one two = λ i. record { waiting = one i; decided = two i }

  -- One more.

  put-served : (s : Slot M A) (ts : List (Slot M A)) → IsRanked s → All IsRanked ts →
      map waiter (put_by rank s ts) ≡ put_before (is_served_after s.waiter) s.waiter (map waiter ts)
  put-served s [] ranked all = refl
  put-served s (t ∷ ts) ranked all =
      let here = All-head IsRanked t ts all in
      ap (λ b. map waiter (cond b (s ∷ t ∷ ts) (t ∷ put_by rank s ts)))
      (ap (λ n. ltb n t.rank) ranked.0 ∙ ap (ltb (rank_of s.waiter.who.prio)) here.0
      ∙ ranks s.waiter.who.prio t.waiter.who.prio ranked.1 here.1)
      ∙ by (int_lt s.waiter.who.prio t.waiter.who.prio) (put-served s ts ranked (All-tail IsRanked t ts all)) where
        by : (b : Bool) → map waiter (put_by rank s ts) ≡ put_before (is_served_after s.waiter) s.waiter (map waiter ts) →
            map waiter (cond b (s ∷ t ∷ ts) (t ∷ put_by rank s ts))
            ≡ cond b (s.waiter ∷ t.waiter ∷ map waiter ts)
            (t.waiter ∷ put_before (is_served_after s.waiter) s.waiter (map waiter ts))
        by true same = refl
        by false same = ap (λ (l : List (Waiter M)). t.waiter ∷ l) same

  pub waits-joined : (ss : List (Slot M A)) (s : Slot M A) → s.stage ≡ Waits → IsRanked s → All IsRanked ss →
      waits_in (ss ++ s ∷ []) ≡ joined (waits_in ss) s.waiter
  waits-joined ss s on ranked all = same-waits _ _ _ _
      (ap (λ (l : List (Slot M A)). map waiter (by_key rank l))
      (filter-append is_waiting ss (s ∷ []) ∙ ap (λ st. filter is_waiting ss ++ cond (goes_on_at st) (s ∷ []) []) on)
      ∙ ap (map waiter) (by_key-snoc rank (filter is_waiting ss) s)
      ∙ put-served s (line ss) ranked (All-by_key IsRanked rank (filter is_waiting ss) (All-filter is_waiting IsRanked ss all)))
      (ap (λ (l : List (Slot M A)). filter_map decision_in (by_key number (by_key rank l)))
      (filter-append has_answer ss (s ∷ []) ∙ ap (λ st. filter has_answer ss ++ cond (is_some (answer_at st)) (s ∷ []) []) on
      ∙ append-nil (filter has_answer ss)))

  -- What is at a place.

  abbrev here : ℕ → Slot M A → Bool
  here place s = eqb (place_of s) place

  abbrev away : ℕ → Slot M A → Bool
  away place s = not (eqb (place_of s) place)

  line-filter : (p : Slot M A → Bool) (ss : List (Slot M A)) → filter p (line ss) ≡ by_key rank (filter p (filter is_waiting ss))
  line-filter p ss = filter-by_key p rank (filter is_waiting ss)

  told-filter : (p : Slot M A → Bool) (ss : List (Slot M A)) →
      filter p (told ss) ≡ by_key number (by_key rank (filter p (filter has_answer ss)))
  told-filter p ss = filter-by_key p number (by_key rank (filter has_answer ss))
      ∙ ap (by_key number) (filter-by_key p rank (filter has_answer ss))

  line-here : (p : Slot M A → Bool) (ss : List (Slot M A)) → filter p (line ss) ≡ line (filter p ss)
  line-here p ss = line-filter p ss ∙ ap (by_key rank) (filters-swap p is_waiting ss)

  told-here : (p : Slot M A → Bool) (ss : List (Slot M A)) → filter p (told ss) ≡ told (filter p ss)
  told-here p ss = told-filter p ss ∙ ap (λ (l : List (Slot M A)). by_key number (by_key rank l)) (filters-swap p has_answer ss)

  only-decision : (player place : ℕ) (s : Slot M A) (d : Decision A) → decision_in s ≡ Some d →
      is_decision player place d ≡ true → here place s ≡ true
  only-decision player place s d is mine = by (answer_at s.stage) is where
    by : (o : Option A) → option_map (λ answer. decide answer s.waiter) o ≡ Some d → here place s ≡ true
    by None is = absurd (cc)
    by (Some a) is = first_so (eqb s.waiter.place place) (eqb s.waiter.who.number player)
        (ap (is_decision player place) (same_Some (decide a s.waiter) d is) ∙ mine)

  only-waiter : (player place : ℕ) (s : Slot M A) (w : Waiter M) → Some s.waiter ≡ Some w →
      is_waiter player place w ≡ true → here place s ≡ true
  only-waiter player place s w is mine = first_so (eqb s.waiter.place place) (eqb s.waiter.who.number player)
      (ap (is_waiter player place) (same_Some s.waiter w is) ∙ mine)

  find-decision : (player place : ℕ) (ss : List (Slot M A)) →
      find (is_decision player place) (filter_map decision_in (told ss))
      ≡ find (is_decision player place) (filter_map decision_in (told (filter (here place) ss)))
  find-decision player place ss =
      find-through decision_in (is_decision player place) (here place) (only-decision player place) (told ss)
      ∙ ap (λ (l : List (Slot M A)). find (is_decision player place) (filter_map decision_in l)) (told-here (here place) ss)

  find-waiter : (player place : ℕ) (ss : List (Slot M A)) →
      find (is_waiter player place) (map waiter (line ss))
      ≡ find (is_waiter player place) (map waiter (line (filter (here place) ss)))
  find-waiter player place ss =
      ap (find (is_waiter player place)) (map-some waiter (line ss))
      ∙ find-through (λ s. Some s.waiter) (is_waiter player place) (here place) (only-waiter player place) (line ss)
      ∙ ap (λ (l : List (Slot M A)). find (is_waiter player place) (filter_map (λ s. Some s.waiter) l)) (line-here
      (here place) ss)
      ∙ sym (ap (find (is_waiter player place)) (map-some waiter (line (filter (here place) ss))))

  -- One is changed so that it no longer counts.

  filter-off : (p : Slot M A → Bool) (f : Slot M A → Slot M A) → ((s : Slot M A) → p (f s) ≡ false) → (place : ℕ)
      (ss : List (Slot M A)) → filter p (map (λ s. cond (eqb (place_of s) place) (f s) s) ss) ≡ filter (away place) (filter p ss)
  filter-off p f off place [] = refl
  filter-off p f off place (s ∷ ss) = by (eqb (place_of s) place) (p s) refl refl (filter-off p f off place ss) where
    after : List (Slot M A)
    after = filter p (map (λ s. cond (eqb (place_of s) place) (f s) s) ss)

    kept : List (Slot M A)
    kept = filter (away place) (filter p ss)

    by : (b c : Bool) → eqb (place_of s) place ≡ b → p s ≡ c → after ≡ kept →
        cond (p (cond b (f s) s)) (cond b (f s) s ∷ after) after
        ≡ filter (away place) (cond c (s ∷ filter p ss) (filter p ss))
    by true true at is same = ap (λ b. cond b (f s ∷ after) after) (off s) ∙ same
        ∙ ap (λ b. cond (not b) (s ∷ kept) kept) (sym at)
    by true false at is same = ap (λ b. cond b (f s ∷ after) after) (off s) ∙ same
    by false true at is same = ap (λ b. cond b (s ∷ after) after) is ∙ ap (λ (l : List (Slot M A)). s ∷ l) same
        ∙ ap (λ b. cond (not b) (s ∷ kept) kept) (sym at)
    by false false at is same = ap (λ b. cond b (s ∷ after) after) is ∙ same

  line-over : (place : ℕ) (ss : List (Slot M A)) →
      line (map (λ t. cond (eqb (place_of t) place) (over t) t) ss) ≡ filter (away place) (line ss)
  line-over place ss = ap (by_key rank) (filter-off is_waiting over (λ s. refl) place ss) ∙ sym (line-filter (away place) ss)

  told-over : (place : ℕ) (ss : List (Slot M A)) →
      told (map (λ t. cond (eqb (place_of t) place) (over t) t) ss) ≡ filter (away place) (told ss)
  told-over place ss = ap (λ (l : List (Slot M A)). by_key number (by_key rank l)) (filter-off has_answer over
      (λ s. refl) place ss)
      ∙ sym (told-filter (away place) ss)

  -- none of the place is decided
  pub decision-untold : (player place : ℕ) (ss : List (Slot M A)) → All (λ s. has_answer s ≡ false) (filter (here place) ss) →
      decision_of (waits_in ss) player place ≡ None
  decision-untold player place ss untold = ap (option_map (λ (d : Decision A). d.answer)) (find-decision player place ss
      ∙ ap (λ (l : List (Slot M A)). find (is_decision player place) (filter_map decision_in (by_key number (by_key rank l))))
      (filter_none has_answer (filter (here place) ss) untold))

  -- none is of the place
  module _ (player place : ℕ) (ss : List (Slot M A)) (none : filter (here place) ss ≡ []) where
    pub decision-nowhere : decision_of (waits_in ss) player place ≡ None
    decision-nowhere = ap (option_map (λ (d : Decision A). d.answer)) (find-decision player place ss
        ∙ ap (λ (l : List (Slot M A)). find (is_decision player place) (filter_map decision_in (told l))) none)

    pub goes_on-nowhere : goes_on (waits_in ss) player place ≡ false
    goes_on-nowhere = any-find (is_waiter player place) (map waiter (line ss))
        ∙ ap is_some (find-waiter player place ss
        ∙ ap (λ (l : List (Slot M A)). find (is_waiter player place) (map waiter (line l))) none)

  -- one is
  module _ (player place : ℕ) (ss : List (Slot M A)) (s : Slot M A) (alone : filter (here place) ss ≡ s ∷ [])
      (at : place_of s ≡ place) where
    found-here : find (is_decision player place) (filter_map decision_in (told ss))
        ≡ cond (eqb s.waiter.who.number player) (decision_in s) None
    found-here = find-decision player place ss
        ∙ ap (λ (l : List (Slot M A)). find (is_decision player place) (filter_map decision_in (told l))) alone
        ∙ ap (find (is_decision player place)) (one (is_some (answer_at s.stage)))
        ∙ by (answer_at s.stage) where
          one : (b : Bool) → filter_map decision_in (by_key number (by_key rank (cond b (s ∷ []) [])))
              ≡ cond b (cons_option (decision_in s) []) []
          one true = refl
          one false = refl

          never : (b : Bool) → ◌≡◌ {A = Option (Decision A)} None (cond b None None)
          never true = refl
          never false = refl

          by : (o : Option A) → find (is_decision player place)
              (cond (is_some o) (cons_option (option_map (λ answer. decide answer s.waiter) o) []) [])
              ≡ cond (eqb s.waiter.who.number player) (option_map (λ answer. decide answer s.waiter) o) None
          by None = never (eqb s.waiter.who.number player)
          by (Some a) = ap (λ b. cond (b && eqb s.waiter.who.number player) (Some (decide a s.waiter)) None)
              (eq-eqb s.waiter.place place at)

    pub decision-at : decision_of (waits_in ss) player place ≡ answer_for player s
    decision-at = ap (option_map (λ (d : Decision A). d.answer)) found-here
        ∙ by (eqb s.waiter.who.number player) (answer_at s.stage) where
          by : (b : Bool) (o : Option A) →
              option_map (λ (d : Decision A). d.answer) (cond b (option_map (λ answer. decide answer s.waiter) o) None)
              ≡ cond b o None
          by true None = refl
          by true (Some a) = refl
          by false o = refl

    pub goes_on-at : goes_on (waits_in ss) player place ≡ (is_waiting s && eqb s.waiter.who.number player)
    goes_on-at = any-find (is_waiter player place) (map waiter (line ss))
        ∙ ap is_some (find-waiter player place ss
        ∙ ap (λ (l : List (Slot M A)). find (is_waiter player place) (map waiter (line l))) alone)
        ∙ by (is_waiting s) where
          there : (c : Bool) → is_some (cond c (Some s.waiter) None) ≡ c
          there true = refl
          there false = refl

          by : (a : Bool) → is_some (find (is_waiter player place) (map waiter (by_key rank (cond a (s ∷ []) []))))
              ≡ (a && eqb s.waiter.who.number player)
          by true = ap (λ b. is_some (cond (b && eqb s.waiter.who.number player) (Some s.waiter) None))
              (eq-eqb s.waiter.place place at) ∙ there (eqb s.waiter.who.number player)
          by false = refl

    -- its decision ends
    pub waits-ended : (a : A) → answer_for player s ≡ Some a →
        ended (waits_in ss) player place ≡ waits_in (map (λ t. cond (eqb (place_of t) place) (over t) t) ss)
    waits-ended a is = same-waits _ _ _ _ (ap (map waiter) (sym (line-over place ss ∙ same-line)))
        (without-through decision_in (is_decision player place) (here place) (only-decision player place) (told ss)
        (omega (arith, short))
        (ap is_some found-here ∙ there (eqb s.waiter.who.number player) (answer_at s.stage) is)
        ∙ ap (filter_map decision_in) (sym (told-over place ss))) where
          there : (b : Bool) (o : Option A) → cond b o None ≡ Some a →
              is_some (cond b (option_map (λ answer. decide answer s.waiter) o) None) ≡ true
          there true None is = absurd (cc)
          there true (Some x) is = refl
          there false o is = absurd (cc)

          short : length (filter (here place) (told ss)) ≤ 1
          short = subst (λ n. n ≤ 1) (sym (ap length (told-here (here place) ss ∙ ap told alone)))
              (few (has_answer s)) where
                few : (b : Bool) → length (by_key number (by_key rank (cond b (s ∷ []) []))) ≤ 1
                few true = omega arith
                few false = omega arith

          off : (st : Stage A) → cond (eqb s.waiter.who.number player) (answer_at st) None ≡ Some a → goes_on_at st ≡ false
          off Waits is = absurd (never (eqb s.waiter.who.number player) is) where
            never : (b : Bool) → cond b None None ≡ Some a → ⊥
            never true is = absurd (cc)
            never false is = absurd (cc)
          off (Decided x) is = refl
          off Ended is = refl

          same-line : filter (away place) (line ss) ≡ line ss
          same-line = filter-not (here place) (line ss) (line-here (here place) ss ∙ ap line alone
              ∙ ap (λ b. by_key rank (cond b (s ∷ []) [])) (off s.stage is))

    -- it goes on no longer
    pub waits-left : is_waiting s ≡ true → eqb s.waiter.who.number player ≡ true →
        left (waits_in ss) player place ≡ waits_in (map (λ t. cond (eqb (place_of t) place) (over t) t) ss)
    waits-left on mine = same-waits _ _ _ _
        (ap (without_first (is_waiter player place)) (map-some waiter (line ss))
        ∙ without-through (λ t. Some t.waiter) (is_waiter player place) (here place) (only-waiter player place) (line ss)
        (omega (arith, short))
        (sym (ap (λ l. is_some (find (is_waiter player place) l)) (map-some waiter (line ss)))
        ∙ sym (any-find (is_waiter player place) (map waiter (line ss))) ∙ goes_on-at
        ∙ ap (λ b. b && eqb s.waiter.who.number player) on ∙ mine)
        ∙ sym (map-some waiter (filter (away place) (line ss))) ∙ ap (map waiter) (sym (line-over place ss)))
        (ap (filter_map decision_in) (sym (told-over place ss ∙ same-told))) where
          short : length (filter (here place) (line ss)) ≤ 1
          short = subst (λ n. n ≤ 1) (sym (ap length (line-here (here place) ss ∙ ap line alone)))
              (few (is_waiting s)) where
                few : (b : Bool) → length (by_key rank (cond b (s ∷ []) [])) ≤ 1
                few true = omega arith
                few false = omega arith

          off : (st : Stage A) → goes_on_at st ≡ true → is_some (answer_at st) ≡ false
          off Waits is = refl
          off (Decided x) is = absurd (cc)
          off Ended is = absurd (cc)

          same-told : filter (away place) (told ss) ≡ told ss
          same-told = filter-not (here place) (told ss) (told-here (here place) ss ∙ ap told alone
              ∙ ap (λ b. by_key number (by_key rank (cond b (s ∷ []) []))) (off s.stage on))

  -- The ended ones are taken out.

  open-waiting : (s : Slot M A) → is_waiting s ≡ true → is_open s ≡ true
  open-waiting s on = by s.stage on where
    by : (st : Stage A) → goes_on_at st ≡ true → is_open_at st ≡ true
    by Waits on = refl
    by (Decided a) on = refl
    by Ended on = absurd (cc)

  open-told : (s : Slot M A) → has_answer s ≡ true → is_open s ≡ true
  open-told s on = by s.stage on where
    by : (st : Stage A) → is_some (answer_at st) ≡ true → is_open_at st ≡ true
    by Waits on = absurd (cc)
    by (Decided a) on = refl
    by Ended on = absurd (cc)

  pub waiting-open : (ss : List (Slot M A)) → filter is_waiting (filter is_open ss) ≡ filter is_waiting ss
  waiting-open ss = filter-weaker is_waiting is_open open-waiting ss

  pub told-open : (ss : List (Slot M A)) → filter has_answer (filter is_open ss) ≡ filter has_answer ss
  told-open ss = filter-weaker has_answer is_open open-told ss

  pub waits-open : (ss : List (Slot M A)) → waits_in (filter is_open ss) ≡ waits_in ss
  waits-open ss = same-waits _ _ _ _ (ap (λ (l : List (Slot M A)). map waiter (by_key rank l)) (waiting-open ss))
      (ap (λ (l : List (Slot M A)). filter_map decision_in (by_key number (by_key rank l))) (told-open ss))

  -- Some who wait are decided.

  module _ (mark : Slot M A → Option A) (n : ℕ) where
    abbrev marked : Slot M A → Slot M A
    marked s = decided_with n (mark s) s

    abbrev hit : Slot M A → Bool
    hit s = is_some (mark s)

    abbrev stays : Slot M A → Bool
    stays s = not (is_some (mark s))

    -- it is one who waits
    abbrev WhereWaiting : Slot M A → Type 0
    WhereWaiting s = is_some (mark s) ≡ true → is_waiting s ≡ true

    abbrev older : Slot M A → Bool
    older s = ltb s.number n

    abbrev newer : Slot M A → Bool
    newer s = not (ltb s.number n)

    still : (ss : List (Slot M A)) → All WhereWaiting ss →
        filter is_waiting (map marked ss) ≡ filter stays (filter is_waiting ss)
    still [] all = refl
    still (s ∷ ss) all = by (mark s) (is_waiting s) refl refl (All-head WhereWaiting s ss all)
        (still ss (All-tail WhereWaiting s ss all)) where
          after : List (Slot M A)
          after = filter is_waiting (map marked ss)

          kept : List (Slot M A)
          kept = filter stays (filter is_waiting ss)

          by : (o : Option A) (c : Bool) → mark s ≡ o → is_waiting s ≡ c → WhereWaiting s → after ≡ kept →
              cond (is_waiting (decided_with n o s)) (decided_with n o s ∷ after) after
              ≡ filter stays (cond c (s ∷ filter is_waiting ss) (filter is_waiting ss))
          by (Some a) true given ws waits same = same ∙ ap (λ o. cond (not (is_some o)) (s ∷ kept) kept) (sym given)
          by (Some a) false given ws waits same = absurd (cc (waits (ap is_some given), ws))
          by None true given ws waits same = ap (λ b. cond b (s ∷ after) after) ws ∙ ap (λ (l : List (Slot M A)). s ∷ l) same
              ∙ ap (λ o. cond (not (is_some o)) (s ∷ kept) kept) (sym given)
          by None false given ws waits same = ap (λ b. cond b (s ∷ after) after) ws ∙ same

    same-n : ltb n n ≡ false
    same-n = le-ltb n n (omega arith)

    waits-told : (s : Slot M A) → is_waiting s ≡ true → has_answer s ≡ false
    waits-told s on = by s.stage on where
      by : (st : Stage A) → goes_on_at st ≡ true → is_some (answer_at st) ≡ false
      by Waits on = refl
      by (Decided a) on = absurd (cc)
      by Ended on = absurd (cc)

    told-older : (ss : List (Slot M A)) → All WhereWaiting ss → All (λ (s : Slot M A). s.number < n) ss →
        filter older (filter has_answer (map marked ss)) ≡ filter has_answer ss
    told-older [] all old = refl
    told-older (s ∷ ss) all old = by (mark s) (has_answer s) refl refl
        (All-head WhereWaiting s ss all) (All-head (λ (s : Slot M A). s.number < n) s ss old)
        (told-older ss (All-tail WhereWaiting s ss all)
        (All-tail (λ (s : Slot M A). s.number < n) s ss old)) where
          after : List (Slot M A)
          after = filter has_answer (map marked ss)

          by : (o : Option A) (c : Bool) → mark s ≡ o → has_answer s ≡ c → WhereWaiting s → s.number < n →
              filter older after ≡ filter has_answer ss →
              filter older (cond (has_answer (decided_with n o s)) (decided_with n o s ∷ after) after)
              ≡ cond c (s ∷ filter has_answer ss) (filter has_answer ss)
          by (Some a) true given hs waits less same = absurd (cc (waits-told s (waits (ap is_some given)), hs))
          by (Some a) false given hs waits less same =
              ap (λ b. cond b (decided_as n a s ∷ filter older after) (filter older after)) same-n ∙ same
          by None true given hs waits less same =
              ap (λ b. filter older (cond b (s ∷ after) after)) hs
              ∙ ap (λ b. cond b (s ∷ filter older after) (filter older after)) (lt-ltb s.number n less)
              ∙ ap (λ (l : List (Slot M A)). s ∷ l) same
          by None false given hs waits less same = ap (λ b. filter older (cond b (s ∷ after) after)) hs ∙ same

    told-newer : (ss : List (Slot M A)) → All WhereWaiting ss → All (λ (s : Slot M A). s.number < n) ss →
        filter newer (filter has_answer (map marked ss)) ≡ map marked (filter hit (filter is_waiting ss))
    told-newer [] all old = refl
    told-newer (s ∷ ss) all old = by (mark s) (is_waiting s) refl refl
        (All-head WhereWaiting s ss all) (All-head (λ (s : Slot M A). s.number < n) s ss old)
        (told-newer ss (All-tail WhereWaiting s ss all)
        (All-tail (λ (s : Slot M A). s.number < n) s ss old)) where
          after : List (Slot M A)
          after = filter has_answer (map marked ss)

          hits : List (Slot M A)
          hits = filter hit (filter is_waiting ss)

          rest_of : (b : Bool) → has_answer s ≡ b → s.number < n → filter newer (cond b (s ∷ after) after) ≡ filter newer after
          rest_of true hs less = ap (λ b. cond (not b) (s ∷ filter newer after) (filter newer after)) (lt-ltb s.number n less)
          rest_of false hs less = refl

          by : (o : Option A) (c : Bool) → mark s ≡ o → is_waiting s ≡ c → WhereWaiting s → s.number < n →
              filter newer after ≡ map marked hits →
              filter newer (cond (has_answer (decided_with n o s)) (decided_with n o s ∷ after) after)
              ≡ map marked (filter hit (cond c (s ∷ filter is_waiting ss) (filter is_waiting ss)))
          by (Some a) true given ws waits less same =
              ap (λ b. cond (not b) (decided_as n a s ∷ filter newer after) (filter newer after)) same-n
              ∙ ap (λ (l : List (Slot M A)). decided_as n a s ∷ l) same
              ∙ ap (λ o. decided_with n o s ∷ map marked hits) (sym given)
              ∙ ap (λ o. map marked (cond (is_some o) (s ∷ hits) hits)) (sym given)
          by (Some a) false given ws waits less same = absurd (cc (waits (ap is_some given), ws))
          by None true given ws waits less same = rest_of (has_answer s) refl less ∙ same
              ∙ ap (λ o. map marked (cond (is_some o) (s ∷ hits) hits)) (sym given)
          by None false given ws waits less same = rest_of (has_answer s) refl less ∙ same

    all-new : (ss : List (Slot M A)) → All (λ (s : Slot M A). s.number ≡ n) (map marked (filter hit ss))
    all-new [] = All-nil (λ (s : Slot M A). s.number ≡ n)
    all-new (s ∷ ss) = by (mark s) refl (all-new ss) where
      by : (o : Option A) → mark s ≡ o → All (λ (s : Slot M A). s.number ≡ n) (map marked (filter hit ss)) →
          All (λ (s : Slot M A). s.number ≡ n) (map marked (cond (is_some o) (s ∷ filter hit ss) (filter hit ss)))
      by None given rest = rest
      by (Some a) given rest = All-cons (λ (s : Slot M A). s.number ≡ n) (marked s) (map marked (filter hit ss))
          (ap (λ o. (decided_with n o s).number) given) rest

    keeps-rank : (s : Slot M A) → rank (marked s) ≡ rank s
    keeps-rank s = by (mark s) where
      by : (o : Option A) → rank (decided_with n o s) ≡ rank s
      by None = refl
      by (Some a) = refl

    told-marked : (ss : List (Slot M A)) → All WhereWaiting ss → All (λ (s : Slot M A). s.number < n) ss →
        told (map marked ss) ≡ told ss ++ map marked (filter hit (line ss))
    told-marked ss all old =
        let hits = filter hit (filter is_waiting ss) in
        let l = told (map marked ss) in
        let low : filter older l ≡ told ss = told-filter older (map marked ss)
        ∙ ap (λ (l : List (Slot M A)). by_key number (by_key rank l)) (told-older ss all old) in
        let ranked : ◌≡◌ {A = Slot M A → ℕ} (λ s. rank (marked s)) (λ s. rank s) = λ i s. keeps-rank s i in
        let served : by_key rank (map marked hits) ≡ map marked (filter hit (line ss)) = sym (map-by_key marked rank hits)
        ∙ ap (λ (key : Slot M A → ℕ). map marked (by_key key hits)) ranked
        ∙ ap (map marked) (sym (line-filter hit ss)) in
        let high : filter newer l ≡ map marked (filter hit (line ss)) = told-filter newer (map marked ss)
        ∙ ap (λ (l : List (Slot M A)). by_key number (by_key rank l)) (told-newer ss all old)
        ∙ ap (by_key number) served
        ∙ by_key-ascending number (map marked (filter hit (line ss)))
        (Ascends-same number n (map marked (filter hit (line ss))) (all-new (line ss))) in
        ascending-parts number n l (Ascends-by_key number (by_key rank (filter has_answer (map marked ss))))
        ∙ ap (λ (v : List (Slot M A)). v ++ filter newer l) low ∙ ap (λ (v : List (Slot M A)). told ss ++ v) high

    pub waits-marked : (ss : List (Slot M A)) → All WhereWaiting ss → All (λ (s : Slot M A). s.number < n) ss →
        waits_in (map marked ss) ≡ record {
          waiting = map waiter (filter stays (line ss));
          decided = filter_map decision_in (told ss) ++ filter_map decision_in (map marked (filter hit (line ss)));
        }
    waits-marked ss all old = same-waits _ _ _ _
        (ap (λ (l : List (Slot M A)). map waiter (by_key rank l)) (still ss all) ∙ ap (map waiter) (sym (line-filter stays ss)))
        (ap (filter_map decision_in) (told-marked ss all old)
        ∙ filter_map-append decision_in (told ss) (map marked (filter hit (line ss))))

  line-waits : (ss : List (Slot M A)) → All (λ s. is_waiting s ≡ true) (line ss)
  line-waits ss = All-by_key (λ s. is_waiting s ≡ true) rank (filter is_waiting ss) (filter_passes is_waiting ss)

  -- those are decided for whom a test has an answer
  module _ (test : M → Option A) (n : ℕ) where
    -- the test is asked of those who wait alone
    answers-waiting : (s : Slot M A) → is_some (answer_by test s) ≡ true → is_waiting s ≡ true
    answers-waiting s is = by (is_waiting s) is where
      by : (b : Bool) → is_some (cond b (says test s.waiter) None) ≡ true → b ≡ true
      by true is = refl
      by false is = absurd (cc (is))

    asked : (s : Slot M A) → is_waiting s ≡ true → answer_by test s ≡ says test s.waiter
    asked s on = ap (λ b. cond b (says test s.waiter) None) on

    left-tested : (ls : List (Slot M A)) → All (λ s. is_waiting s ≡ true) ls →
        map waiter (filter (λ s. not (is_some (answer_by test s))) ls) ≡ filter (is_left test) (map waiter ls)
    left-tested [] all = refl
    left-tested (s ∷ ls) all =
        ap (λ o. map waiter (cond (not (is_some o)) (s ∷ left_by) left_by)) (asked s (All-head (λ s. is_waiting s ≡ true) s ls all))
        ∙ by (is_left test s.waiter) (left-tested ls (All-tail (λ s. is_waiting s ≡ true) s ls all)) where
          left_by : List (Slot M A)
          left_by = filter (λ s. not (is_some (answer_by test s))) ls

          by : (b : Bool) → map waiter left_by ≡ filter (is_left test) (map waiter ls) →
              map waiter (cond b (s ∷ left_by) left_by)
              ≡ cond b (s.waiter ∷ filter (is_left test) (map waiter ls)) (filter (is_left test) (map waiter ls))
          by true same = ap (λ (l : List (Waiter M)). s.waiter ∷ l) same
          by false same = same

    decisions-tested : (ls : List (Slot M A)) → All (λ s. is_waiting s ≡ true) ls →
        filter_map decision_in (map (decided_where n test) (filter (λ s. is_some (answer_by test s)) ls))
        ≡ decisions_by test (map waiter ls)
    decisions-tested [] all = refl
    decisions-tested (s ∷ ls) all =
        by (says test s.waiter) (asked s (All-head (λ s. is_waiting s ≡ true) s ls all))
        (decisions-tested ls (All-tail (λ s. is_waiting s ≡ true) s ls all)) where
          hits : List (Slot M A)
          hits = filter (λ s. is_some (answer_by test s)) ls

          now : List (Decision A)
          now = filter_map decision_in (map (decided_where n test) hits)

          by : (o : Option A) → answer_by test s ≡ o → now ≡ decisions_by test (map waiter ls) →
              filter_map decision_in (map (decided_where n test) (cond (is_some (answer_by test s)) (s ∷ hits) hits))
              ≡ decided_by o s.waiter ++ decisions_by test (map waiter ls)
          by None is same =
              ap (λ o. filter_map decision_in (map (decided_where n test) (cond (is_some o) (s ∷ hits) hits))) is ∙ same
          by (Some a) is same =
              ap (λ o. filter_map decision_in (map (decided_where n test) (cond (is_some o) (s ∷ hits) hits))) is
              ∙ ap (λ o. cons_option (decision_in (decided_with n o s)) now) is
              ∙ ap (λ (l : List (Decision A)). decide a s.waiter ∷ l) same

    pub waits-tested : (ss : List (Slot M A)) → All (λ (s : Slot M A). s.number < n) ss →
        waits_in (map (decided_where n test) ss) ≡ each_decided test (waits_in ss)
    waits-tested ss old = waits-marked (answer_by test) n ss (λ k d within. answers-waiting (get_or ss k d)) old
        ∙ same-waits _ _ _ _ (left-tested (line ss) (line-waits ss))
        (ap (λ (l : List (Decision A)). filter_map decision_in (told ss) ++ l) (decisions-tested (line ss) (line-waits ss)))

  -- all are decided
  pub waits-all : (n : ℕ) (answer : A) (ss : List (Slot M A)) → All (λ (s : Slot M A). s.number < n) ss →
      waits_in (map (decided_all n answer) ss) ≡ all_decided answer (waits_in ss)
  waits-all n answer ss old = waits-tested (λ _. Some answer) n ss old
      ∙ same-waits _ _ _ _
      (filter_none (λ (_ : Waiter M). false) (map waiter (line ss)) (λ k d within. refl))
      (ap (λ (l : List (Decision A)). filter_map decision_in (told ss) ++ l) (decisions-alike answer (map waiter (line ss))))

  -- the first is decided
  pub waits-first : (n : ℕ) (answer : A) (place : ℕ) (ss ls : List (Slot M A)) (s : Slot M A) →
      All (λ (s : Slot M A). s.number < n) ss → filter (here place) ss ≡ s ∷ [] → is_waiting s ≡ true → line ss ≡ s ∷ ls →
      waits_in (map (λ t. cond (eqb (place_of t) place) (decided_as n answer t) t) ss) ≡ first_decided answer (waits_in ss)
  waits-first n answer place ss ls s old alone on first =
      ap (λ (f : Slot M A → Slot M A). waits_in (map f ss)) marks
      ∙ waits-marked mark n ss (subst (λ (p : Slot M A → Bool). All (λ t. p t ≡ true → is_waiting t ≡ true) ss) (sym hits)
      (all-of-filter (here place) is_waiting ss (subst (All (λ t. is_waiting t ≡ true))
      (sym alone) (All-cons (λ t. is_waiting t ≡ true) s [] on (All-nil (λ t. is_waiting t ≡ true)))))) old
      ∙ same-waits _ _ _ _
      (ap (λ (p : Slot M A → Bool). map waiter (filter (λ t. not (p t)) (line ss))) hits
      ∙ ap (λ (l : List (Slot M A)). map waiter (filter (away place) l)) first
      ∙ ap (map waiter) without)
      (ap (λ (l : List (Decision A)). filter_map decision_in (told ss) ++ l)
      (ap (λ (p : Slot M A → Bool). filter_map decision_in (map (marked mark n) (filter p (line ss)))) hits
      ∙ ap (λ (l : List (Slot M A)). filter_map decision_in (map (marked mark n) l)) mine
      ∙ ap (λ b. filter_map decision_in (decided_with n (cond b (Some answer) None) s ∷ [])) at))
      ∙ sym (ap (λ (l : List (Slot M A)). first_decided answer (record {
        waiting = map waiter l;
        decided = filter_map
            decision_in (told ss);
      })) first) where
        mark : Slot M A → Option A
        mark t = cond (here place t) (Some answer) None

        as_marked : (b : Bool) (t : Slot M A) → cond b (decided_as n answer t) t ≡ decided_with n (cond b (Some answer) None) t
        as_marked true t = refl
        as_marked false t = refl

        marks : ◌≡◌ {A = Slot M A → Slot M A} (λ t. cond (here place t) (decided_as n answer t) t) (marked mark n)
        marks = λ i t. as_marked (here place t) t i

        some : (b : Bool) → is_some (cond b (Some answer) None) ≡ b
        some true = refl
        some false = refl

        hits : ◌≡◌ {A = Slot M A → Bool} (λ t. is_some (mark t)) (here place)
        hits = λ i t. some (here place t) i

        mine : filter (here place) (line ss) ≡ s ∷ []
        mine = line-here (here place) ss ∙ ap line alone ∙ ap (λ b. by_key rank (cond b (s ∷ []) [])) on

        split : cond (here place s) (s ∷ filter (here place) ls) (filter (here place) ls) ≡ s ∷ []
        split = sym (ap (filter (here place)) first) ∙ mine

        at : here place s ≡ true
        at = All-head (λ t. here place t ≡ true) s [] (subst (All (λ t. here place t ≡ true)) alone (filter_passes
            (here place) ss))

        rest_away : filter (here place) ls ≡ []
        rest_away = ap (λ (l : List (Slot M A)). drop 1 l)
            (sym (ap (λ b. cond b (s ∷ filter (here place) ls) (filter (here place) ls)) at) ∙ split)

        without : filter (away place) (s ∷ ls) ≡ ls
        without = ap (λ b. cond (not b) (s ∷ filter (away place) ls) (filter (away place) ls)) at
            ∙ filter-not (here place) ls rest_away

  -- Nobody waits where no rank has a first.

  pub none-waits : (ss : List (Slot M A)) → ((r : ℕ) → leads r ss ≡ None) → filter is_waiting ss ≡ []
  none-waits [] none = refl
  none-waits (s ∷ ss) none = by (is_waiting s) refl (none s.rank) (none-waits ss) where
    later : (r : ℕ) (b : Bool) → option_map place_of (cond b (Some s) (find (waits_as r) ss)) ≡ None → leads r ss ≡ None
    later r true is = absurd (cc)
    later r false is = is

    by : (b : Bool) → is_waiting s ≡ b → leads s.rank (s ∷ ss) ≡ None →
        (((r : ℕ) → leads r ss ≡ None) → filter is_waiting ss ≡ []) →
        cond b (s ∷ filter is_waiting ss) (filter is_waiting ss) ≡ []
    by true on is further = absurd (cc (sym (ap (λ b. option_map place_of (cond b (Some s) (find (waits_as s.rank) ss)))
        (ap (λ b. b && eqb s.rank s.rank) on ∙ eq-eqb s.rank s.rank refl)) ∙ is))
    by false on is further = further (λ r. later r (waits_as r s) (none r))

  -- The first of the lowest rank is served first.

  not-below : (r : ℕ) (ss : List (Slot M A)) → ((q : ℕ) → q < r → leads q ss ≡ None) →
      filter (λ s. ltb s.rank (suc r)) (filter is_waiting ss) ≡ filter (waits_as r) ss
  not-below r [] none = refl
  not-below r (s ∷ ss) none = by (is_waiting s) refl (cases_eq s.rank r) (not-below r ss) where
    upto : Slot M A → Bool
    upto s = ltb s.rank (suc r)

    later : (q : ℕ) (b : Bool) → option_map place_of (cond b (Some s) (find (waits_as q) ss)) ≡ None → leads q ss ≡ None
    later q true is = absurd (cc)
    later q false is = is

    here-none : is_waiting s ≡ true → s.rank < r → ⊥
    here-none on less = absurd (cc (sym (ap (λ b. option_map place_of (cond b (Some s) (find (waits_as s.rank) ss)))
        (ap (λ b. b && eqb s.rank s.rank) on ∙ eq-eqb s.rank s.rank refl)) ∙ none s.rank less))

    by : (b : Bool) → is_waiting s ≡ b → (s.rank ≡ r) ⊎ (s.rank ≡ r → ⊥) →
        (((q : ℕ) → q < r → leads q ss ≡ None) → filter upto (filter is_waiting ss) ≡ filter (waits_as r) ss) →
        filter upto (cond b (s ∷ filter is_waiting ss) (filter is_waiting ss))
        ≡ cond (b && eqb s.rank r) (s ∷ filter (waits_as r) ss) (filter (waits_as r) ss)
    by false on same further = further (λ q less. later q (waits_as q s) (none q less))
    by true on (inl same) further =
        ap (λ b. cond b (s ∷ filter upto (filter is_waiting ss)) (filter upto (filter is_waiting ss)))
        (lt-ltb s.rank (suc r) (omega arith))
        ∙ ap (λ (l : List (Slot M A)). s ∷ l) (further (λ q less. later q (waits_as q s) (none q less)))
        ∙ ap (λ b. cond b (s ∷ filter (waits_as r) ss) (filter (waits_as r) ss)) (sym (eq-eqb s.rank r same))
    by true on (inr differ) further =
        at (cases_lt s.rank r)
        ∙ further (λ q less. later q (waits_as q s) (none q less))
        ∙ ap (λ b. cond b (s ∷ filter (waits_as r) ss) (filter (waits_as r) ss)) (sym (ne_eqb s.rank r differ)) where
          at : (s.rank < r) ⊎ (r ≤ s.rank) →
              cond (upto s) (s ∷ filter upto (filter is_waiting ss)) (filter upto (filter is_waiting ss))
              ≡ filter upto (filter is_waiting ss)
          at (inl less) = absurd (here-none on less)
          at (inr more) = ap (λ b. cond b (s ∷ filter upto (filter is_waiting ss)) (filter upto (filter is_waiting ss)))
              (le-ltb s.rank (suc r) (strictly s.rank r more differ)) where
                strictly : (m n : ℕ) → n ≤ m → (m ≡ n → ⊥) → suc n ≤ m
                strictly m n more differ = elim (cases_eq m n) [
                  | inl same ↦ absurd (differ same)
                  | inr other ↦ omega arith
                ]

  lead-found : (o : Option (Slot M A)) (place : ℕ) → option_map place_of o ≡ Some place →
      (t : Slot M A) × (o ≡ Some t) × (place_of t ≡ place)
  lead-found None place is = absurd (cc)
  lead-found (Some t) place is = (t, refl, same_Some (place_of t) place is)

  headed : (l : List (Slot M A)) (s : Slot M A) → slice_get l 0 ≡ Some s → l ≡ s ∷ drop 1 l
  headed [] s is = absurd (cc)
  headed (t ∷ l) s is = ap (λ (t : Slot M A). t ∷ l) (same_Some t s is)

  -- it is the one of the place that the rank has as its first
  pub first-line : (ss : List (Slot M A)) (s : Slot M A) (r place : ℕ) → filter (here place) ss ≡ s ∷ [] →
      leads r ss ≡ Some place → ((q : ℕ) → q < r → leads q ss ≡ None) →
      (is_waiting s ≡ true) × (s.rank ≡ r) × (ls : List (Slot M A)) × (line ss ≡ s ∷ ls)
  first-line ss s r place alone lead none =
      let found = lead-found (find (waits_as r) ss) place lead in
      let same : found.0 ≡ s = found-alone (waits_as r) (here place) ss found.0 s found.1
      (eq-eqb (place_of found.0) place found.2) alone in
      let is : find (waits_as r) ss ≡ Some s = found.1 ∙ ap (λ (t : Slot M A). Some t) same in
      let passes = found-passes (waits_as r) ss s is in
      let of_rank = filter (waits_as r) ss in
      let ks = drop 1 of_rank in
      let upto : Slot M A → Bool = λ s. ltb s.rank (suc r) in
      let high = filter (λ s. not (ltb s.rank (suc r))) (line ss) in
      let each : All (λ (s : Slot M A). s.rank ≡ r) of_rank = All-weaker (λ s. waits_as r s ≡ true) (λ (s : Slot M A). s.rank ≡ r)
      (λ s h. eqb-true s.rank r (second_so (is_waiting s) (eqb s.rank r) h)) of_rank (filter_passes (waits_as r) ss) in
      let low : filter upto (line ss) ≡ of_rank = line-filter upto ss ∙ ap (by_key rank) (not-below r ss none)
      ∙ by_key-ascending rank of_rank (Ascends-same rank r of_rank each) in
      let head : of_rank ≡ s ∷ ks = headed of_rank s (sym (find-filter (waits_as r) ss) ∙ is) in (
        first_so (is_waiting s) (eqb s.rank r) passes,
        eqb-true s.rank r (second_so (is_waiting s) (eqb s.rank r) passes),
        ks ++ high,
        ascending-parts rank (suc r) (line ss) (Ascends-by_key rank (filter is_waiting ss))
            ∙ ap (λ (l : List (Slot M A)). l ++ high) (low ∙ head),
      )

  -- how many there are
  length-told : (ss : List (Slot M A)) → All (λ s. has_answer s ≡ true) ss → length (filter_map decision_in ss) ≡ length ss
  length-told [] all = refl
  length-told (s ∷ ss) all = by (answer_at s.stage) (All-head (λ s. has_answer s ≡ true) s ss all)
      (length-told ss (All-tail (λ s. has_answer s ≡ true) s ss all)) where
        by : (o : Option A) → is_some o ≡ true → length (filter_map decision_in ss) ≡ length ss →
            length (cons_option (option_map (λ answer. decide answer s.waiter) o) (filter_map decision_in ss)) ≡ suc (length ss)
        by None some same = absurd (cc)
        by (Some a) some same = ap suc same

  pub length-waiting : (ss : List (Slot M A)) → length (waits_in ss).waiting ≡ length (filter is_waiting ss)
  length-waiting ss = length-map (line ss) waiter ∙ length-by_key rank (filter is_waiting ss)

  pub length-decided : (ss : List (Slot M A)) → length (waits_in ss).decided ≡ length (filter has_answer ss)
  length-decided ss =
      length-told (told ss) (All-by_key (λ s. has_answer s ≡ true) number (by_key rank (filter has_answer ss))
      (All-by_key (λ s. has_answer s ≡ true) rank (filter has_answer ss) (filter_passes has_answer ss)))
      ∙ length-by_key number (by_key rank (filter has_answer ss)) ∙ length-by_key rank (filter has_answer ss)

  -- where nobody waits, nobody is decided
  pub waits-empty : (ss : List (Slot M A)) (answer : A) → line ss ≡ [] → waits_in ss ≡ first_decided answer (waits_in ss)
  waits-empty ss answer none =
      let decided = filter_map decision_in (told ss) in
      let of : List (Slot M A) → AllWaits M A = λ l. record { waiting = map waiter l; decided = decided } in
      ap of none ∙ sym (ap (λ (l : List (Slot M A)). first_decided answer (of l)) none)

  -- what isn't decided for this player doesn't end
  pub ended-none : (player place : ℕ) (ss : List (Slot M A)) → decision_of (waits_in ss) player place ≡ None →
      waits_in ss ≡ ended (waits_in ss) player place
  ended-none player place ss none = same-waits _ _ _ _ refl
      (sym (without-absent (is_decision player place) (filter_map decision_in (told ss))
      (at (find (is_decision player place) (filter_map decision_in (told ss))) none))) where
        at : (o : Option (Decision A)) → option_map (λ (d : Decision A). d.answer) o ≡ None → o ≡ None
        at None is = refl
        at (Some d) is = absurd (cc)

  -- who doesn't wait doesn't leave
  pub left-none : (player place : ℕ) (ss : List (Slot M A)) → goes_on (waits_in ss) player place ≡ false →
      waits_in ss ≡ left (waits_in ss) player place
  left-none player place ss none = same-waits _ _ _ _
      (sym (without-absent (is_waiter player place) (map waiter (line ss))
      (at (find (is_waiter player place) (map waiter (line ss)))
      (sym (any-find (is_waiter player place) (map waiter (line ss))) ∙ none)))) refl where
        at : (o : Option (Waiter M)) → is_some o ≡ false → o ≡ None
        at None is = refl
        at (Some w) is = absurd (cc)

  pub waits-closed : {ss ts : List (Slot M A)} {e f : ℕ} → IsClosedUp ss e ts f → waits_in ts ≡ waits_in ss
  waits-closed {ss} (inl same) = ap waits_in same.0
  waits-closed {ss} (inr out) = ap waits_in out.0 ∙ waits-open ss
