-- Players of lists, and histories that go on from one another.
use Rattle.std.proofs.Common.{◌≡◌, ◌⊎◌, inl, inr, ⊎_elim, ℕ, ◌<◌, ◌≤◌, max, Bool, true, false, ◌||◌, cond, ltb, List, [], ◌∷◌, ◌++◌, length, drop, get_or, All, refl, sym, ap, subst, ◌∙◌, arith, eqb}
use Rattle.std.proofs.lemmas.Bool.{cases_lt, lt-ltb, le-ltb, eqb-true, or_cases, or_left}
use Rattle.std.proofs.lemmas.List.{append-nil, append_assoc}
use Rattle.std.proofs.lemmas.List.Elements.{All-nil, All-cons, All-head, All-tail, All-append, All-weaker, filter-append}
use Rattle.zk_base.proofs.Lists.{All-front, All-back}
use Rattle.zk_base.specs.declared.ids.Who.{Who}
use Rattle.zk_base.specs.declared.ids.Entry.{Entry}
use Rattle.zk_turn.specs.Players.{has, is_by, own, GoesOn, longer}

-- none of two lists has the number where neither has it
neither_has : (b c : Bool) → b ≡ false → c ≡ false → (b || c) ≡ false
neither_has true c first second = absurd (cc)
neither_has false c first second = second

pub has-append : (ws us : List Who) (number : ℕ) → has (ws ++ us) number ≡ (has ws number || has us number)
has-append [] us number = refl
has-append (w ∷ ws) us number = ap (λ b. eqb w.number number || b) (has-append ws us number)
    ∙ turned (eqb w.number number) (has ws number) (has us number) where
      turned : (a b c : Bool) → (a || (b || c)) ≡ ((a || b) || c)
      turned true b c = refl
      turned false b c = refl

-- a list of one has what that one's number is
pub has-one : (w : Who) (number : ℕ) → has (w ∷ []) number ≡ true → w.number ≡ number
has-one w number is = ⊎_elim (λ same. eqb-true w.number number same) (λ none. absurd (cc))
    (or_cases (eqb w.number number) false is)

-- who has a number in it isn't empty
pub has-some : (ws : List Who) (number : ℕ) → has ws number ≡ true → 0 < length ws
has-some [] number is = absurd (cc)
has-some (w ∷ ws) number is = omega arith

-- the first of a list is in it
pub has-first : (w : Who) (ws : List Who) (number : ℕ) → has (w ∷ []) number ≡ true → has (w ∷ ws) number ≡ true
has-first w ws number is = ⊎_elim (λ same. or_left (eqb w.number number) (has ws number) same) (λ none. absurd (cc))
    (or_cases (eqb w.number number) false is)

-- where the first differs from the others, none of the others has its number
pub first-apart : (w : Who) (ws : List Who) (number : ℕ) → has ws w.number ≡ false → has ws number ≡ true →
    has (w ∷ []) number ≡ true → ⊥
first-apart w ws number none theirs mine =
    let wrong = subst (λ n. has ws n ≡ true) (sym (has-one w number mine)) theirs in absurd (cc)

-- the longer of two lists is one of the two, and as long as the longer
pub longer-either : {A : Type 0} (P : List A → Type 0) (xs ys : List A) → P xs → P ys → P (longer xs ys)
longer-either P xs ys first second = of (ltb (length xs) (length ys)) where
  of : (b : Bool) → P (cond b ys xs)
  of true = second
  of false = first

pub length-longer : {A : Type 0} (xs ys : List A) → max (length xs) (length ys) ≡ length (longer xs ys)
length-longer xs ys = ⊎_elim
    (λ below. let is = ap (λ b. length (cond b ys xs)) (lt-ltb (length xs) (length ys) below) in omega arith)
    (λ above. let is = ap (λ b. length (cond b ys xs)) (le-ltb (length xs) (length ys) above) in omega arith)
    (cases_lt (length xs) (length ys))

-- a longer front of one list goes on from a shorter one
record Between {A : Type 0} (short long behind_short behind_long : List A) : Type 0 where
  more : List A
  long_is : long ≡ short ++ more
  behind_is : behind_short ≡ more ++ behind_long

fronts : {A : Type 0} (short long c d : List A) → short ++ c ≡ long ++ d → length short ≤ length long → Between short long c d
fronts [] long c d same fits = record { more = long; long_is = refl; behind_is = same }
fronts (x ∷ short) [] c d same fits = absurd (omega arith)
fronts (x ∷ short) (y ∷ long) c d same fits =
    let heads = ap (λ l. get_or l 0 x) same in
    let rest = fronts short long c d (ap (λ l. drop 1 l) same) (omega arith) in
    record { more = rest.more; long_is = (λ k. sym heads k ∷ rest.long_is k); behind_is = rest.behind_is }

module _ {O R : Type 0} where
  pub GoesOn-same : (ws : List Who) (h : List (Entry O R)) → GoesOn ws h h
  GoesOn-same ws h = let P : Entry O R → Type 0 = λ e. is_by ws e ≡ false in
      record { later = []; longer = sym (append-nil h); others = All-nil P }

  -- an entry of another more
  pub GoesOn-push : (ws : List Who) (seen h : List (Entry O R)) (e : Entry O R) → GoesOn ws seen h → is_by ws e ≡ false →
      GoesOn ws seen (h ++ e ∷ [])
  GoesOn-push ws seen h e goes other =
      let P : Entry O R → Type 0 = λ e. is_by ws e ≡ false in
      record {
        later = goes.later ++ e ∷ [];
        longer = ap (λ l. l ++ e ∷ []) goes.longer ∙ append_assoc seen goes.later (e ∷ []);
        others = All-append P goes.later (e ∷ []) goes.others (All-cons P e [] other (All-nil P));
      }

  -- fewer players
  pub GoesOn-fewer : (ws us : List Who) (seen h : List (Entry O R)) →
      ((e : Entry O R) → is_by ws e ≡ false → is_by us e ≡ false) → GoesOn ws seen h → GoesOn us seen h
  GoesOn-fewer ws us seen h fewer goes =
      let P : Entry O R → Type 0 = λ e. is_by ws e ≡ false in
      let Q : Entry O R → Type 0 = λ e. is_by us e ≡ false in
      record { later = goes.later; longer = goes.longer; others = All-weaker P Q fewer goes.later goes.others }

  -- no players
  pub GoesOn-nobody : (h : List (Entry O R)) → GoesOn [] [] h
  GoesOn-nobody h = record { later = h; longer = refl; others = none h } where
    none : (l : List (Entry O R)) → All (λ e. is_by [] e ≡ false) l
    none [] = let P : Entry O R → Type 0 = λ e. is_by [] e ≡ false in All-nil P
    none (e ∷ es) = let P : Entry O R → Type 0 = λ e. is_by [] e ≡ false in All-cons P e es refl (none es)

  own-none : (ws : List Who) (l : List (Entry O R)) → All (λ e. is_by ws e ≡ false) l → own ws l ≡ []
  own-none ws [] none = refl
  own-none ws (e ∷ es) none =
      let P : Entry O R → Type 0 = λ e. is_by ws e ≡ false in
      ap (λ b. cond b (e ∷ own ws es) (own ws es)) (All-head P e es none) ∙ own-none ws es (All-tail P e es none)

  pub own-all : (ws : List Who) (l : List (Entry O R)) → All (λ e. is_by ws e ≡ true) l → own ws l ≡ l
  own-all ws [] all = refl
  own-all ws (e ∷ es) all =
      let P : Entry O R → Type 0 = λ e. is_by ws e ≡ true in
      ap (λ b. cond b (e ∷ own ws es) (own ws es)) (All-head P e es all) ∙ ap (λ l. e ∷ l) (own-all ws es (All-tail P e es all))

  -- of the players a history that goes on has what was seen
  pub own-GoesOn : (ws : List Who) (seen h : List (Entry O R)) → GoesOn ws seen h → own ws h ≡ own ws seen
  own-GoesOn ws seen h goes =
      ap (own ws) goes.longer ∙ filter-append (is_by ws) seen goes.later
      ∙ ap (λ l. own ws seen ++ l) (own-none ws goes.later goes.others) ∙ append-nil (own ws seen)

  -- a history whose entries are all of the players is what they have seen of it
  pub GoesOn-all : (ws : List Who) (seen h : List (Entry O R)) → GoesOn ws seen h → All (λ e. is_by ws e ≡ true) h → h ≡ seen
  GoesOn-all ws seen h goes all =
      let P : Entry O R → Type 0 = λ e. is_by ws e ≡ true in
      goes.longer ∙ ap (λ l. seen ++ l)
      (none goes.later (All-back P seen goes.later (subst (All P) goes.longer all)) goes.others) ∙ append-nil seen
    where
      none : (l : List (Entry O R)) → All (λ e. is_by ws e ≡ true) l → All (λ e. is_by ws e ≡ false) l → l ≡ []
      none [] mine others = refl
      none (e ∷ es) mine others =
          let P : Entry O R → Type 0 = λ e. is_by ws e ≡ true in
          let Q : Entry O R → Type 0 = λ e. is_by ws e ≡ false in
          let yes = All-head P e es mine in
          let no = All-head Q e es others in absurd (cc)

  neither : (ws us : List Who) (l : List (Entry O R)) → All (λ e. is_by ws e ≡ false) l →
      All (λ e. is_by us e ≡ false) l → All (λ e. is_by (ws ++ us) e ≡ false) l
  neither ws us [] first second = let P : Entry O R → Type 0 = λ e. is_by (ws ++ us) e ≡ false in All-nil P
  neither ws us (e ∷ es) first second =
      let P : Entry O R → Type 0 = λ e. is_by ws e ≡ false in
      let Q : Entry O R → Type 0 = λ e. is_by us e ≡ false in
      let B : Entry O R → Type 0 = λ e. is_by (ws ++ us) e ≡ false in
      All-cons B e es (has-append ws us e.who.number
      ∙ neither_has (is_by ws e) (is_by us e) (All-head P e es first) (All-head Q e es second))
      (neither ws us es (All-tail P e es first) (All-tail Q e es second))

  -- what two have seen goes on to the longer of both, and that to the whole history
  pub record BothGoOn (ws us : List Who) (xs ys history seen : List (Entry O R)) : Type 0 where
    pub whole : GoesOn (ws ++ us) seen history
    pub first : GoesOn ws xs seen
    pub second : GoesOn us ys seen

  pub GoesOn-longer : (ws us : List Who) (xs ys history : List (Entry O R)) → GoesOn ws xs history →
      GoesOn us ys history → BothGoOn ws us xs ys history (longer xs ys)
  GoesOn-longer ws us xs ys history first second = by_length (cases_lt (length xs) (length ys)) where
    P : Entry O R → Type 0
    P = λ e. is_by ws e ≡ false

    Q : Entry O R → Type 0
    Q = λ e. is_by us e ≡ false

    by_length : (length xs < length ys) ⊎ (length ys ≤ length xs) → BothGoOn ws us xs ys history (longer xs ys)
    by_length (inl below) =
        let f = fronts xs ys first.later second.later (sym first.longer ∙ second.longer) (omega arith) in
        let others = subst (All P) f.behind_is first.others in
        subst (BothGoOn ws us xs ys history) (sym (ap (λ b. cond b ys xs) (lt-ltb (length xs) (length ys) below))) record {
          whole = record {
            later = second.later;
            longer = second.longer;
            others = neither ws us second.later (All-back P f.more second.later others) second.others;
          };
          first = record { later = f.more; longer = f.long_is; others = All-front P f.more second.later others };
          second = GoesOn-same us ys;
        }
    by_length (inr above) =
        let f = fronts ys xs second.later first.later (sym second.longer ∙ first.longer) above in
        let others = subst (All Q) f.behind_is second.others in
        subst (BothGoOn ws us xs ys history) (sym (ap (λ b. cond b ys xs) (le-ltb (length xs) (length ys) above))) record {
          whole = record {
            later = first.later;
            longer = first.longer;
            others = neither ws us first.later first.others (All-back Q f.more first.later others);
          };
          first = GoesOn-same ws xs;
          second = record { later = f.more; longer = f.long_is; others = All-front Q f.more first.later others };
        }
