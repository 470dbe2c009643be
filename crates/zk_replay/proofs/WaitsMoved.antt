-- What isn't possible of a wait isn't behind a move of the waits by another player that decides none.
use Rattle.std.proofs.Common.{◌≡◌, ◌≢◌, ◌⊎◌, inl, inr, ℕ, Bool, true, false, cond, ◌&&◌, ◌||◌, eqb, Option, Some, None, option_map, List, [], ◌∷◌, refl, sym, ap, ◌∙◌}
use Rattle.std.specs.List.{find, list_any}
use Rattle.std.proofs.lemmas.Bool.{ne_eqb}
use Rattle.zk_base.specs.declared.ids.Who.{Who}
use Rattle.zk_base.specs.declared.waits.Waiter.{Waiter}
use Rattle.zk_base.specs.declared.waits.Decision.{Decision}
use Rattle.zk_base.specs.Lists.{put_before, without_first}
use Rattle.zk_base.specs.Waits.{Waits, is_served_after, is_waiter, is_decision, decision_of, goes_on, joined, ended, quitted, given_up, quit_answer}

module _ {A : Type 0} (p q : A → Bool) where
  -- what isn't found isn't found without one of the others
  pub lost-without : (xs : List A) → find p xs ≡ None → find p (without_first q xs) ≡ None
  lost-without [] lost = refl
  lost-without (x ∷ xs) lost = by (lost-without xs) (p x) (q x) refl refl where
    by : (find p xs ≡ None → find p (without_first q xs) ≡ None) → (here out : Bool) → p x ≡ here → q x ≡ out →
        find p (cond (q x) xs (x ∷ without_first q xs)) ≡ None
    by rest true out is gone = absurd (let no : Some x ≡ None = sym (ap (λ b. cond b (Some x) (find p xs)) is) ∙ lost in cc)
    by rest false true is gone =
        ap (λ b. find p (cond b xs (x ∷ without_first q xs))) gone
        ∙ sym (ap (λ b. cond b (Some x) (find p xs)) is) ∙ lost
    by rest false false is gone =
        ap (λ b. find p (cond b xs (x ∷ without_first q xs))) gone
        ∙ ap (λ b. cond b (Some x) (find p (without_first q xs))) is
        ∙ rest (sym (ap (λ b. cond b (Some x) (find p xs)) is) ∙ lost)

  -- where none passes, none of those left does
  pub none-without : (xs : List A) → list_any p xs ≡ false → list_any p (without_first q xs) ≡ false
  none-without [] none = refl
  none-without (x ∷ xs) none = by (none-without xs) (p x) (q x) refl refl where
    by : (list_any p xs ≡ false → list_any p (without_first q xs) ≡ false) → (here out : Bool) → p x ≡ here → q x ≡ out →
        list_any p (cond (q x) xs (x ∷ without_first q xs)) ≡ false
    by rest true out is gone = absurd (let no : true ≡ false = sym (ap (λ b. b || list_any p xs) is) ∙ none in cc)
    by rest false true is gone =
        ap (λ b. list_any p (cond b xs (x ∷ without_first q xs))) gone
        ∙ sym (ap (λ b. b || list_any p xs) is) ∙ none
    by rest false false is gone =
        ap (λ b. list_any p (cond b xs (x ∷ without_first q xs))) gone
        ∙ ap (λ b. b || list_any p (without_first q xs)) is
        ∙ rest (sym (ap (λ b. b || list_any p xs) is) ∙ none)

  -- and none does with one more that doesn't
  pub none-put : (x : A) (xs : List A) → p x ≡ false → list_any p xs ≡ false → list_any p (put_before q x xs) ≡ false
  none-put x [] isnt none = ap (λ b. b || false) isnt
  none-put x (y ∷ ys) isnt none = by (none-put x ys isnt) (p y) (q y) refl refl where
    by : (list_any p ys ≡ false → list_any p (put_before q x ys) ≡ false) → (here out : Bool) → p y ≡ here → q y ≡ out →
        list_any p (cond (q y) (x ∷ y ∷ ys) (y ∷ put_before q x ys)) ≡ false
    by rest true out is gone = absurd (let no : true ≡ false = sym (ap (λ b. b || list_any p ys) is) ∙ none in cc)
    by rest false true is gone =
        ap (λ b. list_any p (cond b (x ∷ y ∷ ys) (y ∷ put_before q x ys))) gone
        ∙ ap (λ b. b || (p y || list_any p ys)) isnt ∙ none
    by rest false false is gone =
        ap (λ b. list_any p (cond b (x ∷ y ∷ ys) (y ∷ put_before q x ys))) gone
        ∙ ap (λ b. b || list_any p (put_before q x ys)) is
        ∙ rest (sym (ap (λ b. b || list_any p ys) is) ∙ none)

-- where a wait can't be given up it isn't decided, and doesn't go on
not-given : {A : Type 0} (gives_up : A) (waits : Bool) (decided : Option A) → given_up gives_up waits decided ≡ None →
    (waits ≡ false) × (decided ≡ None)
not-given gives_up waits (Some answer) none = absurd (cc)
not-given gives_up true None none = absurd (cc)
not-given gives_up false None none = (refl, refl)

module _ {M A : Type 0} (ws : Waits M A) (by : Who) where
  -- the waits stay, or this player joins them, ends one of its or gives one of its up
  abbrev pub IsMoved : Waits M A → Type 0
  IsMoved new =
      (new ≡ ws) ⊎ ((w : Waiter M) × (w.who ≡ by) × (new ≡ joined ws w)) ⊎ ((place : ℕ) × (new ≡ ended ws by.number place))
      ⊎ ((place : ℕ) × (new ≡ quitted ws by.number place))

  module _ (who : Who) (apart : by.number ≢ who.number) where
    -- a wait of that player isn't the other's
    not-waiter : (place : ℕ) (w : Waiter M) → w.who ≡ by → is_waiter who.number place w ≡ false
    not-waiter place w of =
        ap (λ (x : Who). eqb w.place place && eqb x.number who.number) of
        ∙ ap (λ b. eqb w.place place && b) (ne_eqb by.number who.number apart) ∙ and-false (eqb w.place place)
      where
        and-false : (b : Bool) → (b && false) ≡ false
        and-false true = refl
        and-false false = refl

    undecided : (new : Waits M A) (place : ℕ) → IsMoved new → find (is_decision who.number place) ws.decided ≡ None →
        find (is_decision who.number place) new.decided ≡ None
    undecided new place (inl same) none = ap (λ (x : Waits M A). find (is_decision who.number place) x.decided) same ∙ none
    undecided new place (inr (inl (w, of, is))) none = ap (λ (x : Waits M A). find (is_decision who.number place) x.decided) is ∙ none
    undecided new place (inr (inr (inl (k, is)))) none =
        ap (λ (x : Waits M A). find (is_decision who.number place) x.decided) is
        ∙ lost-without (is_decision who.number place) (is_decision by.number k) ws.decided none
    undecided new place (inr (inr (inr (k, is)))) none =
        ap (λ (x : Waits M A). find (is_decision who.number place) x.decided) is
        ∙ lost-without (is_decision who.number place) (is_decision by.number k) ws.decided none

    unwaiting : (new : Waits M A) (place : ℕ) → IsMoved new → goes_on ws who.number place ≡ false → goes_on new who.number place ≡ false
    unwaiting new place (inl same) none = ap (λ (x : Waits M A). goes_on x who.number place) same ∙ none
    unwaiting new place (inr (inl (w, of, is))) none =
        ap (λ (x : Waits M A). goes_on x who.number place) is
        ∙ none-put (is_waiter who.number place) (is_served_after w) w ws.waiting (not-waiter place w of) none
    unwaiting new place (inr (inr (inl (k, is)))) none = ap (λ (x : Waits M A). goes_on x who.number place) is ∙ none
    unwaiting new place (inr (inr (inr (k, is)))) none =
        ap (λ (x : Waits M A). goes_on x who.number place) is
        ∙ none-without (is_waiter who.number place) (is_waiter by.number k) ws.waiting none

    some-not : (o : Option (Decision A)) → option_map (λ (d : Decision A). d.answer) o ≡ None → o ≡ None
    some-not None none = refl
    some-not (Some d) none = absurd (cc)

    -- a wait that isn't decided isn't then
    pub end-still : (new : Waits M A) (place : ℕ) → IsMoved new → decision_of ws who.number place ≡ None → decision_of new who.number place ≡ None
    end-still new place moved none =
        ap (option_map (λ (d : Decision A). d.answer)) (undecided new place moved (some-not (find (is_decision who.number place) ws.decided) none))

    -- and one that can't be given up can't then
    pub quit-still : (gives_up : A) (new : Waits M A) (place : ℕ) → IsMoved new → quit_answer gives_up ws who.number place ≡ None →
        quit_answer gives_up new who.number place ≡ None
    quit-still gives_up new place moved none =
        let both = not-given gives_up (goes_on ws who.number place) (decision_of ws who.number place) none in
        ap (λ b. given_up gives_up b (decision_of new who.number place)) (unwaiting new place moved both.0)
        ∙ ap (given_up gives_up false) (end-still new place moved both.1)
