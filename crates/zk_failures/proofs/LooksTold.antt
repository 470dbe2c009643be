-- The first line that isn't held, line by line.
use Rattle.std.proofs.Common.{◌≡◌, ◌⊎◌, ℕ, ◌+◌, ◌<◌, ◌≤◌, Bool, true, false, eqb, Option, Some, None, List, length, get_or, refl, sym, subst, ap, ◌∙◌, inl, inr, arith}
use Rattle.std.specs.List.{slice_get}
use Rattle.std.specs.Option.{option_eq}
use Rattle.std.proofs.lemmas.Bool.{cases_lt, true≢false, false≢true, eqb-true, eq-eqb}
use Rattle.std.proofs.lemmas.Option.{same_Some, slice_get-get_or, slice_get_within}
use Rattle.zk_trace.specs.declared.stood.Stood.{Stood}
use Rattle.zk_failures.specs.LooksHeld.{Writes, IsHeld, AreHeld, IsFirstUnheld}

module _ (signals : Writes) (orders : List (List Bool)) (missed : Option ℕ) (rows : List Stood) (place : ℕ)
    (held : (earlier : ℕ) (other : Stood) → earlier < place → slice_get rows earlier ≡ Some other → IsHeld signals orders missed earlier other) where
  -- one more
  pub held-more : (none : Stood) → place < length rows → IsHeld signals orders missed place (get_or rows place none) →
      (earlier : ℕ) (other : Stood) → earlier < place + 1 → slice_get rows earlier ≡ Some other → IsHeld signals orders missed earlier other
  held-more none within here earlier other below there = by (cases_lt earlier place) where
    by : ((earlier < place) ⊎ (place ≤ earlier)) → IsHeld signals orders missed earlier other
    by (inl lower) = held earlier other lower there
    by (inr above) =
        let same : place ≡ earlier = omega arith in
        let one : get_or rows place none ≡ other =
        same_Some (get_or rows place none) other (sym (slice_get-get_or rows place none within) ∙ ap (slice_get rows) same ∙ there) in
        subst (λ (n : ℕ). IsHeld signals orders missed n other) same (subst (IsHeld signals orders missed place) one here)

  -- all of them
  pub held-all : length rows ≤ place → AreHeld signals orders missed rows
  held-all past = λ earlier other there. held earlier other (let within = slice_get_within rows earlier other there in omega arith) there

  -- or the first that isn't
  pub held-not : (none : Stood) → place < length rows → (IsHeld signals orders missed place (get_or rows place none) → ⊥) → IsFirstUnheld signals orders missed rows place
  held-not none within unheld = record {
    line = get_or rows place none;
    there = slice_get-get_or rows place none within;
    unheld = unheld;
    none_before = held;
  }

-- Whether an option is some number, as derived equality tests it.

pub some-told : (o : Option ℕ) (n : ℕ) (told : Bool) → told ≡ option_eq eqb o (Some n) → told ≡ true → o ≡ Some n
some-told None n told is is_true = absurd (false≢true (sym is ∙ is_true))
some-told (Some m) n told is is_true = ap Some (eqb-true m n (sym is ∙ is_true))

pub some-not : (o : Option ℕ) (n : ℕ) (told : Bool) → told ≡ option_eq eqb o (Some n) → told ≡ false → o ≡ Some n → ⊥
some-not o n told is isnt same = true≢false (sym (is ∙ ap (λ (p : Option ℕ). option_eq eqb p (Some n)) same ∙ eq-eqb n n refl) ∙ isnt)

-- what is told of these lines, by what they are
pub moved : (P : Writes → List (List Bool) → Option ℕ → List Stood → Type 0) (signals its_signals : Writes) (orders its_orders : List (List Bool)) (missed its_missed : Option ℕ) (rows its_rows : List Stood) →
    signals ≡ its_signals → orders ≡ its_orders → missed ≡ its_missed → rows ≡ its_rows → P signals orders missed rows → P its_signals its_orders its_missed its_rows
moved P signals its_signals orders its_orders missed its_missed rows its_rows a b c d is =
    subst (λ (x : Writes). P x its_orders its_missed its_rows) a
    (subst (λ (x : List (List Bool)). P signals x its_missed its_rows) b (subst (λ (x : Option ℕ). P signals orders x its_rows) c (subst (P signals orders missed) d is)))
