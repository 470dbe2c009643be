-- That words differ, where that is computed.
use Rattle.std.proofs.Common.{◌≡◌, Bool, true, false, Decides, true≢false, List, [], ◌∷◌, sym, inl, inr, ◌∙◌}
use Rattle.std.specs.List.{AllByRecursion, IsDistinct}
use Rattle.std.proofs.lemmas.Bool.{cases_Bool, cond-true, cond-false}
use Rattle.zk_blocks.specs.Apart.{IsNone, AreApart, is_none_of, all_apart}

module _ {W : Type 0} {same : W → W → Bool} (decides : (a b : W) → Decides (same a b) (a ≡ b)) where
  -- none of some is this, where that is computed
  pub none_is : (word : W) (words : List W) → is_none_of same word words ≡ true → IsNone word words
  none_is word [] is = tt
  none_is word (other ∷ words) is = elim (cases_Bool (same word other)) [
    | inl it ↦ absurd (true≢false (sym is ∙ cond-true (same word other) false (is_none_of same word words) it))
    | inr not_it ↦ (
      λ it. true≢false (sym ((decides word other).1 it) ∙ not_it),
      none_is word words (sym (cond-false (same word other) false (is_none_of same word words) not_it) ∙ is),
    )
  ]

  -- no two are the same, where that is computed
  pub differ : (words : List W) → all_apart same words ≡ true → AreApart words
  differ [] is = tt
  differ (word ∷ words) is = elim (cases_Bool (is_none_of same word words)) [
    | inl none ↦ (none_is word words none, differ words (sym (cond-true (is_none_of same word words) (all_apart same words) false none) ∙ is))
    | inr some ↦ absurd (true≢false (sym is ∙ cond-false (is_none_of same word words) (all_apart same words) false some))
  ]

  -- words of which no two pass a test that decides it differ
  pub distinct_apart : (words : List W) → IsDistinct same words → AreApart words
  unfolding IsDistinct
  distinct_apart [] is = tt
  distinct_apart (word ∷ words) is = (others words is.0, distinct_apart words is.1) where
    others : (words : List W) → AllByRecursion (λ other. same word other ≡ false) words → IsNone word words
    others [] is = tt
    others (other ∷ words) is = ((λ it. true≢false (sym ((decides word other).1 it) ∙ is.0)), others words is.1)
