-- What a step does to the bars: which begin, and that each stays one of its player's rows.
use Rattle.std.proofs.Common.{◌≡◌, ℕ, ◌+◌, ◌<◌, nat_lt, ◌&&◌, Bool, true, false, List, [], ◌∷◌, ◌++◌, map, Option, Some, None, length, drop, get_or, set, slice_get, cond, suc, append_assoc, refl, sym, ◌∙◌, ap, subst, arith}
use Rattle.std.specs.List.{All, filter}
use Rattle.std.proofs.lemmas.List.{append-nil, map-append}
use Rattle.std.proofs.lemmas.List.Elements.{All-map, All-push, All-set, filter-append}
use Rattle.std.proofs.lemmas.List.Quantifiers.{all_pairs_push}
use Rattle.std.proofs.lemmas.Option.{slice_get-get_or}
use Rattle.std.proofs.Math.Seq.{map-set_same, drop-cons}
use Rattle.zk_trace.specs.declared.stood.Stood.{Stood}
use Rattle.zk_trace.specs.declared.trace.Trace.{Trace}
use Rattle.zk_show_chart.specs.declared.chart.Bar.{Bar}
use Rattle.zk_show_chart.specs.declared.chart.BarKind.{BarKind}
use Rattle.zk_show_chart.specs.declared.chart.BarKind.TheVariants.{Run, Script, Wait}
use Rattle.zk_show_chart.specs.Bars.{IsAbove, start, runs_of, begins_run, starts_in, AreInOrder, Ends, Steps}
use Rattle.zk_show_chart.specs.Marks.{is_run, begins_at, begun_rows}

-- what begins above a row begins above the next
pub above_next : (players : List ℕ) (row : ℕ) (bars : List Bar) → All (IsAbove players row) bars → All (IsAbove players (row + 1)) bars
above_next players row bars all = λ i d within. let is = all i d within in record { is = is.is; above = omega arith }

-- bars end, and none begins
pub ends_step : (player row : ℕ) (old new : List Bar) → Ends player row old new → Steps player row false old new
ends_step player row old new ends = record {
  begun = None;
  run = refl;
  starts = ends.starts ∙ sym (append-nil (map start old));
  each = λ players here all. above_next players row new (ends.each players here all);
}

-- nothing begins or ends
pub no_end : (player row : ℕ) (bars : List Bar) → Ends player row bars bars
no_end player row bars = record { starts = refl; each = λ players here all. all }

pub no_step : (player row : ℕ) (bars : List Bar) → Steps player row false bars bars
no_step player row bars = ends_step player row bars bars (no_end player row bars)

-- bars end, and then the rest of the step
pub ends_then : (player row : ℕ) (runs : Bool) (old mid new : List Bar) → Ends player row old mid → Steps player row runs mid new → Steps player row runs old new
ends_then player row runs old mid new ends steps = record {
  begun = steps.begun;
  run = steps.run;
  starts = steps.starts ∙ ap (λ ss. ss ++ starts_in row steps.begun) ends.starts;
  each = λ players here all. steps.each players here (ends.each players here all);
}

-- a bar begins
pub one_step : (player row depth : ℕ) (kind : BarKind) (old : List Bar) → let bar : Bar = record { player = player; kind = kind; depth = depth; first = row; last = None } in Steps player row (is_run kind) old (old ++ bar ∷ [])
one_step player row depth kind old =
    let bar : Bar = record { player = player; kind = kind; depth = depth; first = row; last = None } in
    record {
      begun = Some kind;
      run = refl;
      starts = map-append start old (bar ∷ []);
      each = λ players here all.
          All-push (IsAbove players (row + 1)) old bar (above_next players row old all)
          (record { is = record { first = here; below = tt; last = tt }; above = omega arith });
    }

-- the bar at a place, whatever stands for none
same_at : (bars : List Bar) (place : ℕ) (bar seen : Bar) → place < length bars → bar ≡ get_or bars place bar → seen ≡ get_or bars place seen → bar ≡ seen
same_at bars place bar seen within is sees =
    let a : slice_get bars place ≡ Some bar = slice_get-get_or bars place bar within ∙ ap Some (sym is) in
    let b : slice_get bars place ≡ Some seen = slice_get-get_or bars place seen within ∙ ap Some (sym sees) in
    cc

-- a bar of the player ends
pub one_end : (player row place : ℕ) (old : List Bar) (bar seen : Bar) → place < length old → bar ≡ get_or old place bar
    → seen ≡ get_or old place seen → seen.player ≡ player → Ends player row old (set old place (record bar { last = Some row }))
one_end player row place old bar seen within is sees mine =
    let same : bar ≡ seen = same_at old place bar seen within is sees in
    let own : bar.player ≡ player = ap (λ b. b.player) same ∙ mine in
    record {
      starts = map-set_same start old place (record bar { last = Some row }) bar (ap start is);
      each = λ players here all.
          let held : IsAbove players row bar = subst (λ (b : Bar). IsAbove players row b) (sym is) (all place bar within) in
          All-set (IsAbove players row) old place (record bar { last = Some row })
          (record {
            is = record { first = held.is.first; below = held.above; last = here ∙ ap Some (sym own) };
            above = held.above;
          }) all;
    }

-- the runs among what begins in a row
started : (row : ℕ) (begun : Option BarKind) → runs_of (starts_in row begun) ≡ cond (begins_run begun) (row ∷ []) []
started row None = refl
started row (Some Run) = refl
started row (Some Script) = refl
started row (Some Wait) = refl

runs-append : (xs ys : List (BarKind × ℕ)) → runs_of (xs ++ ys) ≡ runs_of xs ++ runs_of ys
runs-append xs ys = ap (map (λ s. s.1)) (filter-append (λ s. is_run s.0) xs ys) ∙ map-append (λ s. s.1) (filter (λ s. is_run s.0) xs) (filter (λ s. is_run s.0) ys)

-- the runs behind a step
pub runs_behind : (player row : ℕ) (runs : Bool) (old new : List Bar) → Steps player row runs old new
    → runs_of (map start new) ≡ runs_of (map start old) ++ cond runs (row ∷ []) []
runs_behind player row runs old new steps =
    ap runs_of steps.starts ∙ runs-append (map start old) (starts_in row steps.begun)
    ∙ ap (λ rs. runs_of (map start old) ++ rs) (started row steps.begun ∙ ap (λ b. cond b (row ∷ []) []) steps.run)

-- what begins in a row stands behind what begins above it
pub order_behind : (players : List ℕ) (player row : ℕ) (runs : Bool) (old new : List Bar) → Steps player row runs old new
    → All (IsAbove players row) old → AreInOrder (map start old) → AreInOrder (map start new)
order_behind players player row runs old new steps above order =
    subst (λ (ss : List (BarKind × ℕ)). AreInOrder ss) (sym steps.starts) (with_start steps.begun)
  where
    below : All (λ (s : BarKind × ℕ). s.1 < row) (map start old)
    below = All-map (λ (s : BarKind × ℕ). s.1 < row) start old (λ i d within. (above i d within).above)

    with_start : (begun : Option BarKind) → AreInOrder (map start old ++ starts_in row begun)
    with_start None = subst (λ (ss : List (BarKind × ℕ)). AreInOrder ss) (sym (append-nil (map start old))) order
    with_start (Some kind) = all_pairs_push (λ a b. a.1 < b.1) (map start old) (kind, row) order below

-- the rows in which runs begin, from a row on
pub begun_from : (t : Trace) (players row : ℕ) (s : Stood) (rest : List Stood)
    → begun_rows t players row (s ∷ rest) ≡ cond (nat_lt s.player players && begins_at t s.spot) (row ∷ []) [] ++ begun_rows t players (row + 1) rest
begun_from t players row s rest = by_test (nat_lt s.player players && begins_at t s.spot)
  where
    by_test : (b : Bool) → cond b (row ∷ begun_rows t players (row + 1) rest) (begun_rows t players (row + 1) rest) ≡ cond b (row ∷ []) [] ++ begun_rows t players (row + 1) rest
    by_test true = refl
    by_test false = refl

-- the runs so far and those that are left, a row further
pub runs_on : (t : Trace) (count lanes row : ℕ) (drawn : List Stood) (d : Stood) (old new : List Bar)
    → lanes ≡ count → row < length drawn
    → Steps (get_or drawn row d).player row (nat_lt (get_or drawn row d).player lanes && begins_at t (get_or drawn row d).spot) old new
    → runs_of (map start old) ++ begun_rows t count row (drop row drawn) ≡ begun_rows t count 0 drawn
    → runs_of (map start new) ++ begun_rows t count (row + 1) (drop (row + 1) drawn) ≡ begun_rows t count 0 drawn
runs_on t count lanes row drawn d old new all within steps before =
    let s : Stood = get_or drawn row d in
    let rest : List Stood = drop (row + 1) drawn in
    let begins : ℕ → Bool = λ n. nat_lt s.player n && begins_at t s.spot in
    let here : List ℕ = cond (begins count) (row ∷ []) [] in
    let next : suc row ≡ row + 1 = omega arith in
    let left : drop row drawn ≡ s ∷ rest = drop-cons drawn row d within ∙ ap (λ n. s ∷ drop n drawn) next in
    let runs : runs_of (map start new) ≡ runs_of (map start old) ++ here =
    runs_behind s.player row (begins lanes) old new steps ∙ ap (λ n. runs_of (map start old) ++ cond (begins n) (row ∷ []) []) all in
    ap (λ rs. rs ++ begun_rows t count (row + 1) rest) runs
    ∙ append_assoc (runs_of (map start old)) here (begun_rows t count (row + 1) rest)
    ∙ ap (λ rs. runs_of (map start old) ++ rs) (sym (ap (begun_rows t count row) left ∙ begun_from t count row s rest))
    ∙ before
