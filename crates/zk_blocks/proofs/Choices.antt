-- What a word says is read exactly: one of some things that differ in their text, or what else it may be.
use Rattle.std.proofs.Common.{◌≡◌, ◌≢◌, Bool, false, Decides, Option, Some, List, [], ◌∷◌, map, refl, sym, ap, subst, inl, inr, ◌∙◌}
use Rattle.std.proofs.lemmas.Bool.{cases_Bool, cond-true, cond-false}
use Rattle.std.proofs.lemmas.Option.{same_Some, none-some}
use Rattle.zk_blocks.specs.Apart.{IsNone, AreApart}
use Rattle.zk_blocks.specs.Choices.{one_of, nothing_else, IsIn, FitsOneOf}
use Rattle.zk_blocks.specs.Exact.{IsExact}

module _ {W R : Type 0} {same : W → W → Bool} {text : R → W} {else_of : W → Option R} {FitsElse : R → Type 0}
    (decides : (a b : W) → Decides (same a b) (a ≡ b)) (others : IsExact text FitsElse else_of) where
  other_is : (word : W) (r : R) → word ≢ text r → same word (text r) ≡ false
  other_is word r differ = elim (cases_Bool (same word (text r))) [
    | inl it ↦ absurd (differ ((decides word (text r)).0 it))
    | inr other ↦ other
  ]

  pass : (r : R) (rs : List R) (word : W) → word ≢ text r → one_of same text else_of (r ∷ rs) word ≡ one_of same text else_of rs word
  pass r rs word differ = cond-false (same word (text r)) (Some r) (one_of same text else_of rs word) (other_is word r differ)

  not_later : (x : R) (rs : List R) (word : W) → IsNone word (map text rs) → IsIn x rs → word ≢ text x
  not_later x [] word none found is = found
  not_later x (r ∷ rs) word none (inl it) is = none.0 (is ∙ ap text it)
  not_later x (r ∷ rs) word none (inr more) is = not_later x rs word none.1 more is

  -- one that is written out is read again
  pub written : (rs : List R) → AreApart (map text rs) → (x : R) → IsIn x rs → one_of same text else_of rs (text x) ≡ Some x
  written [] apart x found = absurd found
  written (r ∷ rs) apart x (inl it) =
      subst (λ y. one_of same text else_of (r ∷ rs) (text y) ≡ Some y) (sym it)
      (cond-true (same (text r) (text r)) (Some r) (one_of same text else_of rs (text r)) ((decides (text r) (text r)).1 refl))
  written (r ∷ rs) apart x (inr more) = pass r rs (text x) (λ is. not_later x rs (text r) apart.0 more (sym is)) ∙ written rs apart.1 x more

  -- another is read again, where its text is no such one's
  pub else_again : (rs : List R) (x : R) → FitsElse x → IsNone (text x) (map text rs) → one_of same text else_of rs (text x) ≡ Some x
  else_again [] x fits none = others.again x fits
  else_again (r ∷ rs) x fits none = pass r rs (text x) none.0 ∙ else_again rs x fits none.1

  -- and what is read is either
  pub either : (rs : List R) (word : W) (x : R) → one_of same text else_of rs word ≡ Some x → (word ≡ text x) × FitsOneOf rs FitsElse x
  either [] word x is = let there = others.spelled word x is in (there.0, inr there.1)
  either (r ∷ rs) word x is = elim (cases_Bool (same word (text r))) [
    | inl it ↦ let found = same_Some r x (sym (cond-true (same word (text r)) (Some r) (one_of same text else_of rs word) it) ∙ is) in
        ((decides word (text r)).0 it ∙ ap text found, inl (inl (sym found)))
    | inr other ↦ let there = either rs word x (sym (cond-false (same word (text r)) (Some r) (one_of same text else_of rs word) other) ∙ is) in
        (there.0, wider there.1)
  ] where
    wider : FitsOneOf rs FitsElse x → FitsOneOf (r ∷ rs) FitsElse x
    wider (inl found) = inl (inr found)
    wider (inr fits) = inr fits

  -- so all is read exactly, where no other has the text of one that is written out
  pub chosen : (rs : List R) → AreApart (map text rs) → ((x : R) → FitsElse x → IsNone (text x) (map text rs)) →
      IsExact text (FitsOneOf rs FitsElse) (one_of same text else_of rs)
  chosen rs apart none = record { again = again; spelled = either rs } where
    again : (x : R) → FitsOneOf rs FitsElse x → one_of same text else_of rs (text x) ≡ Some x
    again x (inl found) = written rs apart x found
    again x (inr fits) = else_again rs x fits (none x fits)

-- nothing else is read exactly
pub nothing_else_exact : {W R : Type 0} (text : R → W) → IsExact text (λ r. ⊥) nothing_else
nothing_else_exact text = record { again = λ r fits. absurd fits; spelled = λ word r is. absurd (none-some r is) }

-- one of some things that differ in their text is read exactly
pub listed : {W R : Type 0} {same : W → W → Bool} {text : R → W} → ((a b : W) → Decides (same a b) (a ≡ b)) → (rs : List R) → AreApart (map text rs) →
    IsExact text (λ r. IsIn r rs) (one_of same text nothing_else rs)
listed {W = W} {R = R} {same = same} {text = text} decides rs apart = record {
  again = λ x found. written {FitsElse = λ r. ⊥} decides (nothing_else_exact text) rs apart x found;
  spelled = λ word x is. let there = either {FitsElse = λ r. ⊥} decides (nothing_else_exact text) rs word x is in (there.0, by x there.1);
} where
  by : (x : R) → FitsOneOf rs (λ r. ⊥) x → IsIn x rs
  by x (inl found) = found
  by x (inr fits) = absurd fits
