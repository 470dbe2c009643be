-- Each atomic step of a seat keeps the rule.
use Rattle.std.proofs.Common.{◌≡◌, ◌⊎◌, inl, inr, ℕ, ◌+◌, ◌*◌, ◌%◌, ◌^◌, ◌<◌, ◌≤◌, max, List, [], ◌∷◌, length, map, set, get_or, refl, sym, ap, subst, ◌∙◌, arith, le_trans}
use Rattle.std.proofs.Math.Nat.{mod-eq_of_lt, max-eq_left, max-eq_right, max-le, le-max_left, le-max_right}
use Rattle.std.proofs.lemmas.Bool.{cases_lt}
use Rattle.std.proofs.lemmas.List.{length-set, get_or-set_same, get_or-set_other, length-append, map-append}
use Rattle.std.proofs.lemmas.List.Elements.{All-nil, All-cons, All-append, All-weaker}
use mathlib.Core.Option.{none}
use Rattle.atomic_table.specs.Table.{Me, keeps, Allows, step}
use Rattle.zk_signal.specs.declared.views.View.{View}
use Rattle.zk_signal.specs.Counts.{tally, once, greatest}
use Rattle.zk_signal.specs.Limits.{most_writes}
use Rattle.zk_signal.specs.Rule.{write_count, IsValue, SignalStands}
use Rattle.zk_signal.specs.Steps.{Draws, Settles, Looks}
use Rattle.zk_signal.specs.Views.{drawing, settled, looked}
use Rattle.zk_signal.specs.Words.{stamp_in, seen_in, IsTidy}
use Rattle.zk_signal.proofs.Counts.{equal-self, tally-append, once-more, greatest-append}
use Rattle.zk_signal.proofs.Moving.{few_drawn, value_drawn, moved, still_value}
use Rattle.zk_signal.proofs.Seats.{sum-one, at-set_there}
use Rattle.zk_signal.proofs.Wording.{stamp_in-le, top-looked}

pub draws : (count slots id : ℕ) (m : Me ℕ View) → m.0.drawn ≡ [] →
    length m.0.writes + 1 ≤ most_writes * length m.0.players →
    Allows (SignalStands count) slots id m 1 (λ n. (n + 1) % 2 ^ 64) (Draws (step slots 1 1 0 none) m)
draws count slots id m idle spare s r homes at bound =
    let v = m.0 in
    let c : ℕ = get_or s.words 1 0 in
    let w = drawing v (c + 1) in
    let stands = r.each id v at in
    let few = few_drawn count s r in
    let two = r.words in
    let words = set s.words 1 ((c + 1) % 2 ^ 64) in
    let word : get_or words 0 0 ≡ get_or s.words 0 0 = get_or-set_other s.words 1 0 ((c + 1) % 2 ^ 64) 0 (λ e. omega arith) in
    let counter : get_or words 1 0 ≡ c + 1 = get_or-set_same s.words 1 ((c + 1) % 2 ^ 64) 0 (omega arith) ∙ mod-eq_of_lt (omega arith) in
    let none_drawn = ap (λ (l : List ℕ). length l) idle in
    let rule = moved count s r id v w words at refl
    (let long = length-set s.words 1 ((c + 1) % 2 ^ 64) in omega arith)
    (omega arith)
    (λ n.
    let more = once-more c n in
    let is = ap (λ (k : ℕ). once k n) counter in
    let none_before = ap (λ (l : List ℕ). tally n l) idle in
    omega arith)
    (λ n. omega arith)
    (let same = ap stamp_in word in omega arith)
    (subst (IsValue (set s.views id w)) (sym word)
    (still_value s.views id v w (get_or s.words 0 0) at (omega arith) r.value))
    (subst (λ n. IsTidy (seen_in n)) (sym word) r.tidy)
    (record {
      room = omega arith;
      newest = let newest = stands.newest in let same = ap stamp_in word in omega arith;
      looks = All-weaker (IsValue s.views) (IsValue (set s.views id w))
          (λ n is. still_value s.views id v w n at (omega arith) is) v.looks stands.looks;
    }) in
    let after = few_drawn count record { words = words; homes = s.homes; views = set s.views id w } rule in
    let newest = stands.newest in
    let value = value_drawn count s r (get_or s.words 0 0) r.value in
    (w, keeps, tt, rule, record { now = refl; above = omega arith; few = omega arith })

pub settles : (count slots id : ℕ) (m : Me ℕ View) (k : ℕ) → m.0.drawn ≡ stamp_in k ∷ [] → IsTidy (seen_in k) →
    Allows (SignalStands count) slots id m 0 (λ n. max n k) (Settles (step slots 0 k 0 none) m)
settles count slots id m k drawn tidy s r homes at bound =
    let v = m.0 in
    let n : ℕ = get_or s.words 0 0 in
    let w = settled v k in
    let stands = r.each id v at in
    let two = r.words in
    let words = set s.words 0 (max n k) in
    let word : get_or words 0 0 ≡ max n k = get_or-set_same s.words 0 (max n k) 0 (omega arith) in
    let counter : get_or words 1 0 ≡ get_or s.words 1 0 = get_or-set_other s.words 0 1 (max n k) 0 (λ e. omega arith) in
    let one_drawn = ap (λ (l : List ℕ). length l) drawn in
    let longer = length-append v.writes (k ∷ []) in
    let up : stamp_in n ≤ stamp_in (get_or words 0 0) =
    let le = stamp_in-le n (max n k) (le-max_left n k) in let same = ap stamp_in word in omega arith in
    let mine : stamp_in k ≤ stamp_in (get_or words 0 0) =
    let le = stamp_in-le k (max n k) (le-max_right n k) in let same = ap stamp_in word in omega arith in
    let room = stands.room in (
      w,
      keeps,
      tt,
      moved count s r id v w words at refl
          (let long = length-set s.words 0 (max n k) in omega arith)
          (omega arith)
          (λ x.
          let is = ap (λ (c : ℕ). once c x) counter in
          let before = ap (λ (l : List ℕ). tally x l) drawn in
          let more = ap (tally x) (map-append stamp_in v.writes (k ∷ [])) ∙ tally-append x (map stamp_in v.writes) (stamp_in k ∷ []) in
          omega arith)
          kept
          up
          (subst (IsValue (set s.views id w)) (sym word) (value_so (cases_lt n k)))
          (subst (λ x. IsTidy (seen_in x)) (sym word) (tidy_so (cases_lt n k)))
          (record {
            room = omega arith;
            newest = max-le (subst (λ x. x ≤ stamp_in (get_or words 0 0))
                (sym (ap greatest (map-append stamp_in v.writes (k ∷ [])) ∙ greatest-append (map stamp_in v.writes) (stamp_in k ∷ [])))
                (max-le (le_trans (le_trans (le-max_left (greatest (map stamp_in v.writes)) (greatest (map stamp_in v.looks))) stands.newest) up)
                (max-le mine (omega arith))))
                (le_trans (le_trans (le-max_right (greatest (map stamp_in v.writes)) (greatest (map stamp_in v.looks))) stands.newest) up);
            looks = All-weaker (IsValue s.views) (IsValue (set s.views id w))
                (λ x is. still_value s.views id v w x at (kept x) is) v.looks stands.looks;
          }),
      refl,
    )
  where
    kept : (x : ℕ) → write_count x m.0 ≤ write_count x (settled m.0 k)
    kept x = let more = tally-append x m.0.writes (k ∷ []) in omega arith

    value_so : (get_or s.words 0 0 < k) ⊎ (k ≤ get_or s.words 0 0) → IsValue (set s.views id (settled m.0 k)) (max (get_or s.words 0 0) k)
    value_so (inl lt) =
        let one = sum-one (write_count k) (set s.views id (settled m.0 k)) id (settled m.0 k) (at-set_there s.views id m.0 (settled m.0 k) at) in
        let more = tally-append k m.0.writes (k ∷ []) in
        let once = equal-self k in
        subst (IsValue (set s.views id (settled m.0 k))) (sym (max-eq_right (let le : get_or s.words 0 0 ≤ k = omega arith in le))) (inr (omega arith))
    value_so (inr le) =
        subst (IsValue (set s.views id (settled m.0 k))) (sym (max-eq_left le))
        (still_value s.views id m.0 (settled m.0 k) (get_or s.words 0 0) at (kept (get_or s.words 0 0)) r.value)

    tidy_so : (get_or s.words 0 0 < k) ⊎ (k ≤ get_or s.words 0 0) → IsTidy (seen_in (max (get_or s.words 0 0) k))
    tidy_so (inl lt) = subst (λ x. IsTidy (seen_in x)) (sym (max-eq_right (let le : get_or s.words 0 0 ≤ k = omega arith in le))) tidy
    tidy_so (inr le) = subst (λ x. IsTidy (seen_in x)) (sym (max-eq_left le)) r.tidy

pub looks : (count slots id : ℕ) (m : Me ℕ View) →
    Allows (SignalStands count) slots id m 0 (λ n. n) (Looks (step slots 0 0 0 none) m)
looks count slots id m s r homes at bound =
    let v = m.0 in
    let n : ℕ = get_or s.words 0 0 in
    let w = looked v n in
    let stands = r.each id v at in
    let two = r.words in
    let words = set s.words 0 n in
    let word : get_or words 0 0 ≡ n = get_or-set_same s.words 0 n 0 (omega arith) in
    let counter : get_or words 1 0 ≡ get_or s.words 1 0 = get_or-set_other s.words 0 1 n 0 (λ e. omega arith) in
    let P = IsValue (set s.views id w) in
    let value = still_value s.views id v w n at (omega arith) r.value in
    let drawn = value_drawn count s r n r.value in
    let few = few_drawn count s r in (
      w,
      keeps,
      tt,
      moved count s r id v w words at refl
          (let long = length-set s.words 0 n in omega arith)
          (omega arith)
          (λ x. let is = ap (λ (c : ℕ). once c x) counter in omega arith)
          (λ x. omega arith)
          (let same = ap stamp_in word in omega arith)
          (subst P (sym word) value)
          (subst (λ x. IsTidy (seen_in x)) (sym word) r.tidy)
          (record {
            room = stands.room;
            newest = let top = top-looked v n stands.newest in let same = ap stamp_in word in omega arith;
            looks = All-append P v.looks (n ∷ [])
                (All-weaker (IsValue s.views) P (λ x is. still_value s.views id v w x at (omega arith) is) v.looks stands.looks)
                (All-cons P n [] value (All-nil P));
          }),
      record { now = refl; not_older = stands.newest; few = omega arith; tidy = r.tidy },
    )
