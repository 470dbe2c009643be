-- What a keeper's hand holds after each of its calls.
use Rattle.std.proofs.Common.{rules, Option, Some, None, MatchOption, IfSome, IfNone, ◌≡◌, ℕ, ◌+◌, ◌-◌, ◌<◌, ◌≤◌, ◌==◌, true, [], ◌∷◌, ◌++◌, length, map, get_or, set, All, vec_capacity, sym, ap, subst, ◌∙◌, arith}
use Rattle.std.proofs.Common.{Vec, Global}
use Rattle.std.proofs.lemmas.List.{map-append}
use Rattle.std.proofs.lemmas.List.{length-append}
use Rattle.std.proofs.lemmas.List.{length-set, length-take-le}
use Rattle.std.proofs.lemmas.List.Elements.{All-push, All-head, All-tail}
use Rattle.std.proofs.lemmas.List.Sorted.{IsPermutation-swap_remove, All-permutation}
use Rattle.std.proofs.lemmas.List.Sums.{sum_by-swap_remove}
use Rattle.std.specs.List.{sum_by, swap_remove}
use Rattle.zk_base.proofs.Firsts.{one_if}
use Rattle.zk_pool.specs.declared.hand.Hand.{Hand}
use Rattle.zk_pool.specs.declared.keeper.Keeper.{Keeper}
use Rattle.zk_pool.specs.declared.pool.Pool.{Pool}
use Rattle.zk_pool.specs.Counts.{tally, without}
use Rattle.zk_pool.specs.Hands.{IsHandOf, hand_held, pool_home, pool_numbers}
use Rattle.zk_pool.specs.Keepers.{Keeps, Carries}
use Rattle.zk_pool.specs.Rule.{Suits}
use Rattle.zk_pool.proofs.Gathering.{All-last}
use Rattle.zk_pool.proofs.Counts.{equal, tally-append, tally-map, tally-push, tally-without, length-without}

-- a number is equal to itself
equal-same : (m : ℕ) → equal m m ≡ 1
equal-same m = let same : (m == m) ≡ true = search rules in ap one_if same

module _ {T H : Type 0} (number : T → ℕ) (home : T → H) (kept : T → Type 0) (p : Pool T H) (k : Keeper T H) where
  abbrev pub Suit : T → Type 0
  Suit = Suits number home kept (pool_home home p)

  -- one number more was taken
  pub carried : (h : Hand T H) (x : T) → Keeps number home kept p k → IsHandOf number home p h →
      hand_held h ≡ hand_held k.hand ++ number x ∷ [] → length (hand_held k.hand) < length (pool_numbers number p) →
      Carries number home kept p (record { hand = h; aside = k.aside }) (number x)
  carried h x keeps own held few = record {
    own = own;
    held = λ n. ap (tally n) held ∙ tally-append n (hand_held k.hand) (number x ∷ []) ∙ ap (λ m. m + tally n (number x ∷ [])) (keeps.held n)
        ∙ sym (tally-append n (map number k.aside.items) (number x ∷ []));
    count = ap length held ∙ length-append (hand_held k.hand) (number x ∷ []) ∙ ap (λ m. m + 1) keeps.count;
    suits = keeps.suits;
    room = keeps.room;
    few = subst (λ m. m < length (pool_numbers number p)) keeps.count few;
  }

  -- its hand holds that number
  pub holds-one : (m : ℕ) → Carries number home kept p k m → 0 < tally m (hand_held k.hand)
  holds-one m carries =
      let same = carries.held m ∙ tally-push m m (map number k.aside.items) in
      let one = equal-same m in
      omega arith

  -- that number was given back
  pub given : (h : Hand T H) (m : ℕ) → Carries number home kept p k m → IsHandOf number home p h →
      hand_held h ≡ without m (hand_held k.hand) → Keeps number home kept p (record { hand = h; aside = k.aside })
  given h m carries own less =
      let some_one = holds-one m carries in
      let few = carries.few in
      record {
        own = own;
        held = λ n. ap (tally n) less
            ∙ (let left = tally-without m (hand_held k.hand) some_one n in
            let all = carries.held n ∙ tally-push n m (map number k.aside.items) in
            omega arith);
        count = ap length less
            ∙ (let left = length-without m (hand_held k.hand) some_one in let all = carries.count in omega arith);
        suits = carries.suits;
        room = carries.room;
        few = omega arith;
      }

  -- its item is kept
  pub kept-too : (aside : Vec T Global) (x : T) → Carries number home kept p k (number x) → Suit x →
      aside.items ≡ k.aside.items ++ x ∷ [] → vec_capacity k.aside ≤ vec_capacity aside →
      Keeps number home kept p (record { hand = k.hand; aside = aside })
  kept-too aside x carries suit more wider =
      let long = ap length more ∙ length-append k.aside.items (x ∷ []) in
      let count = carries.count in
      let room = carries.room in
      let few = carries.few in
      record {
        own = carries.own;
        held = λ n. carries.held n ∙ sym (ap (tally n) (ap (map number) more ∙ map-append number k.aside.items (x ∷ [])));
        count = omega arith;
        suits = subst (All Suit) (sym more) (All-push Suit k.aside.items x carries.suits suit);
        room = omega arith;
        few = omega arith;
      }

  -- an item that was kept is taken out
  pub let-go : (aside : Vec T Global) (x : T) → Keeps number home kept p k → k.aside.items ≡ aside.items ++ x ∷ [] →
      vec_capacity aside ≡ vec_capacity k.aside → Carries number home kept p (record { hand = k.hand; aside = aside }) (number x)
  let-go aside x keeps less same =
      let long = ap length less ∙ length-append aside.items (x ∷ []) in
      let count = keeps.count in
      let room = keeps.room in
      let few = keeps.few in
      record {
        own = keeps.own;
        held = λ n. keeps.held n ∙ ap (tally n) (ap (map number) less ∙ map-append number aside.items (x ∷ []));
        count = omega arith;
        suits = (All-last Suit k.aside.items aside.items x less keeps.suits).0;
        room = omega arith;
        few = omega arith;
      }

  -- an item that was kept at some place is taken up again
  pub recalled : (aside : Vec T Global) (at : ℕ) (x : T) → Keeps number home kept p k → at < length k.aside.items → x ≡ get_or k.aside.items at x →
      aside.items ≡ swap_remove k.aside.items at x → vec_capacity aside ≡ vec_capacity k.aside →
      Carries number home kept p (record { hand = k.hand; aside = aside }) (number x) × Suit x
  recalled aside at x keeps within is less same =
      let olds = k.aside.items in
      let both = All-permutation Suit olds (x ∷ swap_remove olds at x) (IsPermutation-swap_remove olds at x within is) keeps.suits in
      let set_long = length-set olds at (get_or olds (length olds - 1) x) in
      let long : length aside.items + 1 ≡ length olds =
      omega (arith, ap length less ∙ length-take-le (length olds - 1) (set olds at (get_or olds (length olds - 1) x)) (omega (arith, set_long, within)), within) in
      let count = keeps.count in
      let room = keeps.room in
      let few = keeps.few in (
        record {
          own = keeps.own;
          held = λ n.
              let sum = sum_by-swap_remove (λ y. equal n (number y)) olds at x within in
              let last : equal n (number x) ≡ equal n (number (get_or olds at x)) = ap (λ y. equal n (number y)) is in
              keeps.held n ∙ tally-map number n olds
              ∙ (let new = tally-push n (number x) (map number aside.items) in
              let were = tally-map number n aside.items ∙ ap (sum_by (λ y. equal n (number y))) less in
              omega arith);
          count = omega arith;
          suits = subst (All Suit) (sym less) (All-tail Suit x (swap_remove olds at x) both);
          room = omega arith;
          few = omega arith;
        },
        All-head Suit x (swap_remove olds at x) both,
      )

  -- a take that found nothing
  pub took-none : (h : Hand T H) (taken : Option T) → Keeps number home kept p k → IsHandOf number home p h →
      MatchOption taken (hand_held h ≡ hand_held k.hand) (λ x. hand_held h ≡ hand_held k.hand ++ number x ∷ []) →
      IfNone taken (Keeps number home kept p (record { hand = h; aside = k.aside }))
  took-none h None keeps own held = record {
    own = own;
    held = λ n. ap (tally n) held ∙ keeps.held n;
    count = ap length held ∙ keeps.count;
    suits = keeps.suits;
    room = keeps.room;
    few = keeps.few;
  }
  took-none h (Some x) keeps own held = tt

  -- a take that found an item
  pub took-one : (h : Hand T H) (taken : Option T) → Keeps number home kept p k → IsHandOf number home p h →
      MatchOption taken (hand_held h ≡ hand_held k.hand) (λ x. hand_held h ≡ hand_held k.hand ++ number x ∷ []) →
      IfSome taken (λ x. length (hand_held k.hand) < length (pool_numbers number p)) →
      IfSome taken (λ x. Carries number home kept p (record { hand = h; aside = k.aside }) (number x))
  took-one h None keeps own held few = tt
  took-one h (Some x) keeps own held few = carried h x keeps own held few
