-- Calls that players have made, each after the other, and the histories that they led to.
use Rattle.std.proofs.Common.{◌≡◌, ℕ, suc, ◌+◌, ◌≤◌, Bool, true, false, ◌||◌, Option, Some, None, Result, Ok, Err, is_err, List, [], ◌∷◌, ◌++◌, length, append-nil, append_assoc, All, refl, sym, ap, subst, ◌∙◌, arith}
use Rattle.std.specs.Result.{IfOk, IsOk}
use Rattle.std.proofs.lemmas.List.Elements.{All-nil, All-append, All-weaker}
use Rattle.zk_base.specs.declared.ids.Who.{Who}
use Rattle.zk_base.specs.declared.ids.Entry.{Entry}
use Rattle.zk_base.specs.declared.errors.NoMemory.{NoMemory}
use Rattle.zk_base.specs.Legal.{Machine}
use Rattle.zk_turn.specs.declared.pass.Pass.{Pass}
use Rattle.zk_turn.specs.Calls.{HasCalled, IsEntered, IsImpossible}
use Rattle.zk_turn.specs.Passes.{pass_holds}
use Rattle.zk_turn.specs.Players.{is_by, GoesOn}
use Rattle.zk_uses.specs.Callers.{AreMade, HadTurns, AreAnswered, HaveCalled, in_turn}

made-most : {A E : Type 0} (times made : ℕ) (r : Result A E) → AreMade times made r → made ≤ times
made-most times made (Ok done) all = omega arith
made-most times made (Err e) some = some

-- what was made of all that are put together
pub made-with : {A E B F : Type 0} (times made : ℕ) (r : Result A E) (r' : Result B F) → IfOk r' (λ done. IsOk r) → AreMade times made r → AreMade times made r'
made-with times made (Ok done) (Ok all) both is = is
made-with times made (Err e) (Ok all) both is = absurd (cc)
made-with times made r (Err e) both is = made-most times made r is

pub made-first : {A E B F C G : Type 0} (r : Result A E) (r' : Result B F) (r'' : Result C G) → IfOk r'' (λ done. IsOk r × IsOk r') → IfOk r'' (λ done. IsOk r)
made-first r r' (Ok all) both = both.0
made-first r r' (Err e) both = tt

pub made-second : {A E B F C G : Type 0} (r : Result A E) (r' : Result B F) (r'' : Result C G) → IfOk r'' (λ done. IsOk r × IsOk r') → IfOk r'' (λ done. IsOk r')
made-second r r' (Ok all) both = both.1
made-second r r' (Err e) both = tt

-- the turns of all that are put together
pub turns-with : {S O R T A E : Type 0} (n k : ℕ) (r r' r'' : Result A E) (p p' p'' : Pass S O R T) → IfOk r'' (λ done. IsOk r × IsOk r') → pass_holds p'' ≡ pass_holds p + pass_holds p' →
    HadTurns n r p → HadTurns k r' p' → HadTurns (n + k) r'' p''
turns-with n k (Ok a) (Ok b) (Ok c) p p' p'' both sum one other = omega arith
turns-with n k (Ok a) (Err e) (Ok c) p p' p'' both sum one other = let bad = both.1 in absurd (cc)
turns-with n k (Err e) r' (Ok c) p p' p'' both sum one other = let bad = both.0 in absurd (cc)
turns-with n k r r' (Err e) p p' p'' both sum one other = tt

-- entries of none of two players are of neither
of-first : (a b : Bool) → (a || (b || false)) ≡ false → (a || false) ≡ false
of-first true b is = absurd (cc)
of-first false b is = refl

of-second : (a b : Bool) → (a || (b || false)) ≡ false → (b || false) ≡ false
of-second true b is = absurd (cc)
of-second false b is = is

module _ {O R : Type 0} where
  -- nothing came, or more came later
  pub goes-none : (players : List Who) (h : List (Entry O R)) → GoesOn players h h
  goes-none players h =
      let P : Entry O R → Type 0 = λ e. is_by players e ≡ false in
      record { later = []; longer = sym (append-nil h); others = All-nil P }

  pub goes-further : (players : List Who) (h h' h'' : List (Entry O R)) → GoesOn players h h' → GoesOn players h' h'' → GoesOn players h h''
  goes-further players h h' h'' one other =
      let P : Entry O R → Type 0 = λ e. is_by players e ≡ false in
      record {
        later = one.later ++ other.later;
        longer = other.longer ∙ ap (λ (l : List (Entry O R)). l ++ other.later) one.longer ∙ append_assoc h one.later other.later;
        others = All-append P one.later other.later one.others other.others;
      }

  pub goes-first : (a b : Who) (h h' : List (Entry O R)) → GoesOn (a ∷ b ∷ []) h h' → GoesOn (a ∷ []) h h'
  goes-first a b h h' goes =
      let P : Entry O R → Type 0 = λ e. is_by (a ∷ b ∷ []) e ≡ false in
      let Q : Entry O R → Type 0 = λ e. is_by (a ∷ []) e ≡ false in
      record { later = goes.later; longer = goes.longer; others = All-weaker P Q (λ e others. of-first _ _ others) goes.later goes.others }

  pub goes-second : (a b : Who) (h h' : List (Entry O R)) → GoesOn (a ∷ b ∷ []) h h' → GoesOn (b ∷ []) h h'
  goes-second a b h h' goes =
      let P : Entry O R → Type 0 = λ e. is_by (a ∷ b ∷ []) e ≡ false in
      let Q : Entry O R → Type 0 = λ e. is_by (b ∷ []) e ≡ false in
      record { later = goes.later; longer = goes.longer; others = All-weaker P Q (λ e others. of-second _ _ others) goes.later goes.others }

module _ {T O R : Type 0} (m : Machine T O R) (start : T) (who : Who) (op_at : ℕ → O) where
  -- so many calls had answers, and led to this history
  pub record HaveLed (count : ℕ) (history : List (Entry O R)) : Type 0 where
    pub answers : List (Option (R × ℕ))
    pub many : length answers ≡ count
    pub answered : AreAnswered m start who op_at answers history

  pub led-none : (h : List (Entry O R)) → h ≡ [] → HaveLed 0 h
  led-none h is = record { answers = []; many = refl; answered = is }

  -- and one more
  pub led-on : (count : ℕ) (w : Who) (op : O) (answer : Result (Option (R × ℕ)) NoMemory) (old new : List (Entry O R)) → w ≡ who → op ≡ op_at count → is_err answer ≡ false →
      HaveLed count old → HasCalled m start w count op old new answer → HaveLed (count + 1) new
  led-on count w op (Ok (Some made)) old new is asked fine led called =
      let one = subst (λ (w : Who). IsEntered m start w count op made.0 made.1 old new) is called in
      let two = subst (λ (op : O). IsEntered m start who count op made.0 made.1 old new) asked one in
      let same = subst (λ (n : ℕ). IsEntered m start who n (op_at n) made.0 made.1 old new) (sym led.many) two in
      let many = led.many in
      record { answers = Some made ∷ led.answers; many = omega arith; answered = (old, led.answered, same) }
  led-on count w op (Ok None) old new is asked fine led called =
      let one = subst (λ (w : Who). IsImpossible m start w count op old new) is called in
      let two = subst (λ (op : O). IsImpossible m start who count op old new) asked one in
      let same = subst (λ (n : ℕ). IsImpossible m start who n (op_at n) old new) (sym led.many) two in
      let many = led.many in
      record { answers = None ∷ led.answers; many = omega arith; answered = (old, led.answered, same) }
  led-on count w op (Err e) old new is asked fine led called = absurd (cc)

  -- all of them were made
  pub called-all : {A E : Type 0} (times : ℕ) (result : Result A E) (h : List (Entry O R)) → HaveLed times h → AreMade times times result → HaveCalled m start who op_at times result h
  called-all times result h led all = record {
    answers = led.answers;
    seen = h;
    answered = led.answered;
    since = goes-none (who ∷ []) h;
    made = subst (λ (n : ℕ). AreMade times n result) (sym led.many) all;
  }

  -- the next one wanted memory
  pub called-some : {A E : Type 0} (times count : ℕ) (w : Who) (op : O) (answer : Result (Option (R × ℕ)) NoMemory) (result : Result A E) (old new : List (Entry O R)) → w ≡ who → is_err answer ≡ true →
      HaveLed count old → HasCalled m start w count op old new answer → AreMade times count result → HaveCalled m start who op_at times result new
  called-some times count w op (Ok made) result old new is wants led called some = absurd (cc)
  called-some times count w op (Err e) result old new is wants led called some = record {
    answers = led.answers;
    seen = old;
    answered = led.answered;
    since = subst (λ (w : Who). GoesOn (w ∷ []) old new) is called;
    made = subst (λ (n : ℕ). AreMade times n result) (sym led.many) some;
  }

  -- more came by others, and calls of others are told with them
  pub called-on : {A E B F : Type 0} (times : ℕ) (r : Result A E) (r' : Result B F) (h h' : List (Entry O R)) → IfOk r' (λ done. IsOk r) → GoesOn (who ∷ []) h h' →
      HaveCalled m start who op_at times r h → HaveCalled m start who op_at times r' h'
  called-on times r r' h h' both goes called = record {
    answers = called.answers;
    seen = called.seen;
    answered = called.answered;
    since = goes-further (who ∷ []) called.seen h h' called.since goes;
    made = made-with times (length called.answers) r r' both called.made;
  }

-- two calls in turn: after two of them comes the first again
pub in_turn-again : {O : Type 0} (ops : O × O) (n : ℕ) → in_turn ops (n + 2) ≡ in_turn ops n
in_turn-again ops n = let more : n + 2 ≡ suc (suc n) = omega arith in ap (in_turn ops) more ∙ again ops n
  where
    again : {O : Type 0} (ops : O × O) (n : ℕ) → in_turn ops (suc (suc n)) ≡ in_turn ops n
    again ops n = refl
