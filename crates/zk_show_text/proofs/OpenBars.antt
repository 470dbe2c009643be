-- The bars that go through a row, as rows go on.
use Rattle.std.proofs.Common.{◌≡◌, ℕ, ◌+◌, ◌-◌, ◌<◌, ◌≤◌, ◌&&◌, nat_le, zero, suc, Bool, true, false, cond, Option, Some, None, List, [], ◌∷◌, ◌++◌, map, length, take, drop, get_or, slice_get, refl, sym, ◌∙◌, ap, subst, arith, length-drop}
use Rattle.std.specs.List.{All, AllByRecursion, AllPairs, filter}
use Rattle.std.proofs.lemmas.List.{append-nil, get_or-map, get_or-drop, length-map, take-append-drop, take_more}
use Rattle.std.proofs.lemmas.List.Elements.{filter-append, All-push, recursion_from_All}
use Rattle.std.proofs.lemmas.Option.{slice_get-get_or}
use Rattle.std.proofs.lemmas.Bool.{le-leb, lt-leb, lt-ltb, leb-true, ltb-true, false≢true}
use Rattle.zk_show_chart.specs.declared.chart.Bar.{Bar}
use Rattle.zk_show_chart.specs.declared.chart.BarKind.{BarKind}
use Rattle.zk_show_chart.specs.declared.chart.BarKind.TheVariants as kinds
use Rattle.zk_show_chart.specs.Bars.{start, AreInOrder}
use Rattle.zk_show_text.specs.Marks.{reaches, is_open, open_at}
use Rattle.zk_show_text.specs.Opened.{AreOpened, IsBelow}

-- where no element passes, none is left
filter_no : {X : Type 0} (p : X → Bool) (xs : List X) → AllByRecursion (λ x. p x ≡ false) xs → filter p xs ≡ []
filter_no p [] none = refl
filter_no p (x ∷ xs) none = ap (λ b. cond b (x ∷ filter p xs) (filter p xs)) none.0 ∙ filter_no p xs none.1

twice_one : {X : Type 0} (p q : X → Bool) (x : X) (xs : List X) (passes asks : Bool) → p x ≡ passes → q x ≡ asks → (q x ≡ true → p x ≡ true)
    → filter q (filter p xs) ≡ filter q xs → filter q (cond passes (x ∷ filter p xs) (filter p xs)) ≡ cond asks (x ∷ filter q xs) (filter q xs)
twice_one p q x xs true true isp isq each more = ap (λ c. cond c (x ∷ filter q (filter p xs)) (filter q (filter p xs))) isq ∙ ap (λ ys. x ∷ ys) more
twice_one p q x xs true false isp isq each more = ap (λ c. cond c (x ∷ filter q (filter p xs)) (filter q (filter p xs))) isq ∙ more
twice_one p q x xs false true isp isq each more = absurd (false≢true (sym isp ∙ each isq))
twice_one p q x xs false false isp isq each more = more

-- what passes the second test passes the first, so that one asks for nothing more
filter_twice : {X : Type 0} (p q : X → Bool) (xs : List X) → AllByRecursion (λ x. q x ≡ true → p x ≡ true) xs → filter q (filter p xs) ≡ filter q xs
filter_twice p q [] each = refl
filter_twice p q (x ∷ xs) each = twice_one p q x xs (p x) (q x) refl refl each.0 (filter_twice p q xs each.1)

-- a bar that begins below a row doesn't go through it
not_yet : (row : ℕ) (bar : Bar) → row < bar.first → is_open row bar ≡ false
not_yet row bar below = ap (λ b. b && reaches row bar.kind bar.last) (lt-leb bar.first row below)

-- bars further on begin further below
later : (row : ℕ) (bars : List Bar) (next k : ℕ) (d : Bar) → AreInOrder (map start bars) → next + k < length bars
    → row < (get_or bars next d).first → row < (get_or bars (next + k) d).first
later row bars next zero d order within here =
    let same : next ≡ next + 0 = omega arith in
    subst (λ (n : ℕ). row < (get_or bars n d).first) same here
later row bars next (suc k) d order within here =
    let size : length (map start bars) ≡ length bars = length-map bars start in
    let rises : (get_or (map start bars) next (start d)).1 < (get_or (map start bars) (next + suc k) (start d)).1 =
    order next (next + suc k) (start d) (omega arith) (omega arith) in
    let a : (get_or (map start bars) next (start d)).1 ≡ (get_or bars next d).first =
    ap (λ s. s.1) (get_or-map start bars next d (start d) (omega arith)) in
    let b : (get_or (map start bars) (next + suc k) (start d)).1 ≡ (get_or bars (next + suc k) d).first =
    ap (λ s. s.1) (get_or-map start bars (next + suc k) d (start d) (omega arith)) in
    omega arith

-- the bars from one on begin below a row, where that one does
all_below : (row : ℕ) (bars : List Bar) (next : ℕ) → AreInOrder (map start bars) → next ≤ length bars → IsBelow row bars next → All (λ b. row < b.first) (drop next bars)
all_below row bars next order within below = λ k d behind.
    let size : length (drop next bars) ≡ length bars - next = length-drop next bars in
    let here : row < (get_or bars next d).first = below (get_or bars next d) (slice_get-get_or bars next d (omega arith)) in
    subst (λ (b : Bar). row < b.first) (sym (get_or-drop next bars k d)) (later row bars next k d order (omega arith) here)

-- the bars that go through a row are those that are opened by it, where the next begins below
pub all_opened : (row : ℕ) (bars : List Bar) (next : ℕ) (those : List Bar) → AreInOrder (map start bars) → AreOpened row bars next those → IsBelow row bars next → those ≡ open_at row bars
all_opened row bars next those order opened below =
    let none : filter (is_open row) (drop next bars) ≡ [] =
    filter_no (is_open row) (drop next bars) (recursion_from_All (λ b. is_open row b ≡ false) (drop next bars)
    (λ k d behind. not_yet row (get_or (drop next bars) k d) (all_below row bars next order opened.within below k d behind))) in
    opened.these ∙ sym (append-nil (filter (is_open row) (take next bars)))
    ∙ ap (λ ys. filter (is_open row) (take next bars) ++ ys) (sym none)
    ∙ sym (filter-append (is_open row) (take next bars) (drop next bars))
    ∙ ap (filter (is_open row)) (take-append-drop next bars)

right : (a b : Bool) → (a && b) ≡ true → b ≡ true
right true b is = is
right false b is = absurd (false≢true is)

both : (a b : Bool) → a ≡ true → b ≡ true → (a && b) ≡ true
both a b isa isb = ap (λ x. x && b) isa ∙ isb

-- what doesn't end above the next row doesn't end above this one
reaches_less : (row : ℕ) (kind : BarKind) (last : Option ℕ) → reaches (row + 1) kind last ≡ true → reaches row kind last ≡ true
reaches_less row kind None is = refl
reaches_less row kinds.Run (Some last) is = let within : row + 1 ≤ last = leb-true (row + 1) last is in le-leb row last (omega arith)
reaches_less row kinds.Wait (Some last) is = let within : row + 1 ≤ last = leb-true (row + 1) last is in le-leb row last (omega arith)
reaches_less row kinds.Script (Some last) is = let within : row + 1 < last = ltb-true (row + 1) last is in lt-ltb row last (omega arith)

-- what goes through the next row, of bars that begin by this one, goes through this one
still_open : (row : ℕ) (bar : Bar) → bar.first ≤ row → is_open (row + 1) bar ≡ true → is_open row bar ≡ true
still_open row bar begun is =
    both (nat_le bar.first row) (reaches row bar.kind bar.last) (le-leb bar.first row begun)
    (reaches_less row bar.kind bar.last (right (nat_le bar.first (row + 1)) (reaches (row + 1) bar.kind bar.last) is))

-- a row further
pub opened_below : (row : ℕ) (bars : List Bar) (next : ℕ) (those : List Bar) → AreOpened row bars next those → AreOpened (row + 1) bars next (filter (is_open (row + 1)) those)
opened_below row bars next those opened = record {
  within = opened.within;
  begun = λ k d behind. let is = opened.begun k d behind in omega arith;
  these =
      ap (filter (is_open (row + 1))) opened.these
      ∙ filter_twice (is_open row) (is_open (row + 1)) (take next bars)
      (recursion_from_All (λ b. is_open (row + 1) b ≡ true → is_open row b ≡ true) (take next bars)
      (λ k d behind. still_open row (get_or (take next bars) k d) (opened.begun k d behind)));
}

-- one bar further
pub opened_more : (row : ℕ) (bars : List Bar) (next : ℕ) (those : List Bar) (d : Bar) → AreOpened row bars next those → next < length bars → (get_or bars next d).first ≤ row
    → AreOpened row bars (next + 1) (those ++ filter (is_open row) (get_or bars next d ∷ []))
opened_more row bars next those d opened within begun =
    let bar : Bar = get_or bars next d in
    let more : take (next + 1) bars ≡ take next bars ++ bar ∷ [] = take_more bars next d within in
    record {
      within = omega arith;
      begun = subst (λ (bs : List Bar). All (λ b. b.first ≤ row) bs) (sym more) (All-push (λ b. b.first ≤ row) (take next bars) bar opened.begun begun);
      these =
          ap (λ bs. bs ++ filter (is_open row) (bar ∷ [])) opened.these
          ∙ sym (filter-append (is_open row) (take next bars) (bar ∷ []))
          ∙ ap (filter (is_open row)) (sym more);
    }
