-- Lines that are put in slots by their steps: where no slot is free, they stand there by step.
use Rattle.std.proofs.Common.{◌≡◌, ◌⊎◌, ℕ, ◌+◌, ◌-◌, ◌<◌, ◌≤◌, zero, suc, cond, eq-eqb, Option, Some, None, List, [], ◌∷◌, ◌++◌, length, get_or, take, map, replicate, slice_set, slice_get, arith, refl, sym, ap, inl, inr, ◌∙◌}
use Rattle.std.specs.List.{filter, range_with_len}
use Rattle.std.specs.Option.{IfSome}
use Rattle.std.proofs.lemmas.Bool.{cases_eq, cases_lt, ne_eqb}
use Rattle.std.proofs.lemmas.List.{append-nil, length-map, length-set, map-append, take_more}
use Rattle.std.proofs.lemmas.List.Elements.{filter-append}
use Rattle.zk_base.specs.Order.{by_key, Ascends}
use Rattle.zk_worker.specs.declared.steps.Spot.{Spot}
use Rattle.zk_trace.specs.declared.stood.Stood.{Stood}
use Rattle.zk_trace.specs.Slots.{held, at_step, at_player, has_step, stand_at, Puts, HoldAll}
use Rattle.zk_trace.specs.Stood.{is_of, sorted_spots, steps_of}
use Rattle.zk_trace.proofs.Stable.{of_key, with-key, other-key, none-below, of_key-by_key, ascends-by_key}

-- One slot is taken.

hit-step : (slots : List (Option Spot)) (step : ℕ) (spot : Spot) → slice_get slots step ≡ Some None →
    at_step (slice_set slots step (Some spot)) step ≡ at_step slots step ++ spot ∷ []
hit-step [] step spot free = absurd (cc)
hit-step (x ∷ xs) zero spot free = sym (ap (λ (o : Option (Option Spot)). held o ++ spot ∷ []) free)
hit-step (x ∷ xs) (suc step) spot free = hit-step xs step spot free

miss-step : (slots : List (Option Spot)) (step other : ℕ) (slot : Option Spot) → (step ≡ other → ⊥) →
    at_step (slice_set slots step slot) other ≡ at_step slots other
miss-step [] step other slot apart = refl
miss-step (x ∷ xs) zero zero slot apart = absurd (apart refl)
miss-step (x ∷ xs) zero (suc other) slot apart = refl
miss-step (x ∷ xs) (suc step) zero slot apart = refl
miss-step (x ∷ xs) (suc step) (suc other) slot apart = miss-step xs step other slot (λ same. apart (ap suc same))

at-old : (lists : List (List (Option Spot))) (player step : ℕ) (old : List (Option Spot)) → player < length lists → old ≡ get_or lists player old →
    at_player lists player step ≡ at_step old step
at-old [] player step old there is = absurd (omega arith)
at-old (l ∷ ls) zero step old there is = ap (λ x. at_step x step) (sym is)
at-old (l ∷ ls) (suc player) step old there is = at-old ls player step old (omega arith) is

at-new : (lists : List (List (Option Spot))) (player step : ℕ) (new : List (Option Spot)) → player < length lists →
    at_player (slice_set lists player new) player step ≡ at_step new step
at-new [] player step new there = absurd (omega arith)
at-new (l ∷ ls) zero step new there = refl
at-new (l ∷ ls) (suc player) step new there = at-new ls player step new (omega arith)

at-other : (lists : List (List (Option Spot))) (player other step : ℕ) (new : List (Option Spot)) → (player ≡ other → ⊥) →
    at_player (slice_set lists player new) other step ≡ at_player lists other step
at-other [] player other step new apart = refl
at-other (l ∷ ls) zero zero step new apart = absurd (apart refl)
at-other (l ∷ ls) zero (suc other) step new apart = refl
at-other (l ∷ ls) (suc player) zero step new apart = refl
at-other (l ∷ ls) (suc player) (suc other) step new apart = at-other ls player other step new (λ same. apart (ap suc same))

-- Where one line stands.

one-here : (line : Stood) (player step : ℕ) → line.player ≡ player → step ≡ line.step → stand_at (line ∷ []) player step ≡ line.spot ∷ []
one-here line player step same_player same_step =
    ap (λ b. map (λ (l : Stood). l.spot) (filter (has_step step) (cond b (line ∷ []) []))) (eq-eqb line.player player same_player)
    ∙ ap (λ b. map (λ (l : Stood). l.spot) (cond b (line ∷ []) [])) (eq-eqb step line.step same_step)

one-elsewhere : (line : Stood) (player step : ℕ) → (line.player ≡ player → ⊥) → stand_at (line ∷ []) player step ≡ []
one-elsewhere line player step apart =
    ap (λ b. map (λ (l : Stood). l.spot) (filter (has_step step) (cond b (line ∷ []) []))) (ne_eqb line.player player apart)

one-at_other : (line : Stood) (player step : ℕ) → line.player ≡ player → (step ≡ line.step → ⊥) → stand_at (line ∷ []) player step ≡ []
one-at_other line player step same_player apart =
    ap (λ b. map (λ (l : Stood). l.spot) (filter (has_step step) (cond b (line ∷ []) []))) (eq-eqb line.player player same_player)
    ∙ ap (λ b. map (λ (l : Stood). l.spot) (cond b (line ∷ []) [])) (ne_eqb step line.step apart)

nothing-more : (a b more : List Spot) → a ≡ b → more ≡ [] → a ≡ b ++ more
nothing-more a b more same none = grind (arith, append-nil {A = Spot})

module _ (lists : List (List (Option Spot))) (line : Stood) (old new : List (Option Spot)) (there : line.player < length lists)
    (is : old ≡ get_or lists line.player old) (free : slice_get old line.step ≡ Some None) (taken : new ≡ slice_set old line.step (Some line.spot)) where
  put-each : (player step : ℕ) → at_player (slice_set lists line.player new) player step ≡ at_player lists player step ++ stand_at (line ∷ []) player step
  put-each player step = by (cases_eq line.player player) (cases_eq step line.step) where
    by : ((line.player ≡ player) ⊎ (line.player ≡ player → ⊥)) → ((step ≡ line.step) ⊎ (step ≡ line.step → ⊥)) →
        at_player (slice_set lists line.player new) player step ≡ at_player lists player step ++ stand_at (line ∷ []) player step
    by (inr apart) at =
        nothing-more _ _ (stand_at (line ∷ []) player step) (at-other lists line.player player step new apart) (one-elsewhere line player step apart)
    by (inl same) (inr apart) =
        let slots : at_step new step ≡ at_step old step =
        ap (λ n. at_step n step) taken ∙ miss-step old line.step step (Some line.spot) (λ e. apart (sym e)) in
        nothing-more _ _ (stand_at (line ∷ []) player step)
        (ap (λ p. at_player (slice_set lists line.player new) p step) (sym same) ∙ at-new lists line.player step new there ∙ slots
        ∙ sym (at-old lists line.player step old there is) ∙ ap (λ p. at_player lists p step) same)
        (one-at_other line player step same apart)
    by (inl same) (inl at) =
        let slots : at_step new step ≡ at_step old step ++ line.spot ∷ [] =
        ap (λ n. at_step n step) taken ∙ ap (λ k. at_step (slice_set old line.step (Some line.spot)) k) at
        ∙ hit-step old line.step line.spot free ∙ ap (λ k. at_step old k ++ line.spot ∷ []) (sym at) in
        let before : at_step old step ≡ at_player lists player step =
        sym (at-old lists line.player step old there is) ∙ ap (λ p. at_player lists p step) same in
        ap (λ p. at_player (slice_set lists line.player new) p step) (sym same) ∙ at-new lists line.player step new there ∙ slots
        ∙ ap (λ l. l ++ line.spot ∷ []) before ∙ ap (λ l. at_player lists player step ++ l) (sym (one-here line player step same at))

  pub put-puts : Puts line lists (slice_set lists line.player new)
  put-puts = record { long = length-set lists line.player new; each = put-each }

-- Lines that are put one after another.

stand-append : (xs ys : List Stood) (player step : ℕ) → stand_at (xs ++ ys) player step ≡ stand_at xs player step ++ stand_at ys player step
stand-append xs ys player step =
    ap (λ l. map (λ (s : Stood). s.spot) (filter (has_step step) l)) (filter-append (is_of player) xs ys)
    ∙ ap (map (λ (s : Stood). s.spot)) (filter-append (has_step step) (filter (is_of player) xs) (filter (is_of player) ys))
    ∙ map-append (λ (s : Stood). s.spot) (filter (has_step step) (filter (is_of player) xs)) (filter (has_step step) (filter (is_of player) ys))

pub hold-more : (lines : List Stood) (place players : ℕ) (line : Stood) (old new : List (List (Option Spot))) → place < length lines → line ≡ get_or lines place line →
    HoldAll (take place lines) players old → Puts line old new → HoldAll (take (place + 1) lines) players new
hold-more lines place players line old new within is hold puts = record {
  long = puts.long ∙ hold.long;
  each = λ player step.
      puts.each player step ∙ ap (λ l. l ++ stand_at (line ∷ []) player step) (hold.each player step)
      ∙ sym (stand-append (take place lines) (line ∷ []) player step)
      ∙ ap (λ l. stand_at l player step) (sym (take_more lines place line within ∙ ap (λ x. take place lines ++ x ∷ []) (sym is)));
}

none-held : (count step : ℕ) → at_step (replicate count None) step ≡ []
none-held zero step = refl
none-held (suc count) zero = refl
none-held (suc count) (suc step) = none-held count step

pub none-at : (counts : List ℕ) (player step : ℕ) → at_player (map (λ count. replicate count None) counts) player step ≡ []
none-at [] player step = refl
none-at (count ∷ counts) zero step = none-held count step
none-at (count ∷ counts) (suc player) step = none-at counts player step

-- The slots of a player are taken.

no-spots : (lines : List Stood) → [] ≡ map (λ (line : Stood). line.spot) lines → lines ≡ []
no-spots [] none = refl
no-spots (line ∷ lines) none = absurd (cc)

-- lines by step, from a number on, each of which stands once
spots-same : (from : ℕ) (zs : List Spot) (ys : List Stood) → Ascends (λ (line : Stood). line.step) ys → ((k : ℕ) → k < from → of_key (λ (line : Stood). line.step) k ys ≡ []) →
    ((k : ℕ) → at_step (map Some zs) k ≡ map (λ (line : Stood). line.spot) (of_key (λ (line : Stood). line.step) (from + k) ys)) →
    zs ≡ map (λ (line : Stood). line.spot) ys
spots-same from [] [] up low each = refl
spots-same from [] (y ∷ ys) up low each = by (cases_lt y.step from) where
  by : ((y.step < from) ⊎ (from ≤ y.step)) → [] ≡ map (λ (line : Stood). line.spot) (y ∷ ys)
  by (inl lower) = absurd (cc (low y.step lower, with-key (λ (line : Stood). line.step) y.step y ys refl))
  by (inr above) =
      let here : [] ≡ map (λ (line : Stood). line.spot) (of_key (λ (line : Stood). line.step) y.step (y ∷ ys)) =
      each (y.step - from) ∙ ap (λ n. map (λ (line : Stood). line.spot) (of_key (λ (line : Stood). line.step) n (y ∷ ys))) (omega arith) in
      absurd (cc (no-spots _ here, with-key (λ (line : Stood). line.step) y.step y ys refl))
spots-same from (z ∷ zs) [] up low each = absurd (cc (each zero))
spots-same from (z ∷ zs) (y ∷ ys) up low each =
    let here : z ∷ [] ≡ map (λ (line : Stood). line.spot) (of_key (λ (line : Stood). line.step) from (y ∷ ys)) =
    each zero ∙ ap (λ n. map (λ (line : Stood). line.spot) (of_key (λ (line : Stood). line.step) n (y ∷ ys))) (omega arith) in
    let same : from ≡ y.step = by (cases_lt y.step from) (cases_lt from y.step) here in
    let heads : z ∷ [] ≡ y.spot ∷ map (λ (line : Stood). line.spot) (of_key (λ (line : Stood). line.step) from ys) =
    here ∙ ap (map (λ (line : Stood). line.spot)) (with-key (λ (line : Stood). line.step) from y ys same) in
    let first : z ≡ y.spot = cc in
    let tails : [] ≡ map (λ (line : Stood). line.spot) (of_key (λ (line : Stood). line.step) from ys) = cc in
    let none : of_key (λ (line : Stood). line.step) from ys ≡ [] = no-spots _ tails in
    ap (λ x. x ∷ zs) first
    ∙ ap (λ l. y.spot ∷ l) (spots-same (from + 1) zs ys up.1
    (λ k below. lower k (cases_eq k from) below same none)
    (λ k. each (suc k)
    ∙ ap (map (λ (line : Stood). line.spot)) (other-key (λ (line : Stood). line.step) (from + suc k) y ys (λ e. omega arith))
    ∙ ap (λ n. map (λ (line : Stood). line.spot) (of_key (λ (line : Stood). line.step) n ys)) (omega arith)))
  where
    by : ((y.step < from) ⊎ (from ≤ y.step)) → ((from < y.step) ⊎ (y.step ≤ from)) →
        z ∷ [] ≡ map (λ (line : Stood). line.spot) (of_key (λ (line : Stood). line.step) from (y ∷ ys)) → from ≡ y.step
    by (inl less) more here = absurd (cc (low y.step less, with-key (λ (line : Stood). line.step) y.step y ys refl))
    by (inr least) (inl more) here =
        absurd (cc (here ∙ ap (map (λ (line : Stood). line.spot)) (none-below (λ (line : Stood). line.step) from y ys up more)))
    by (inr least) (inr most) here = omega arith

    lower : (k : ℕ) → ((k ≡ from) ⊎ (k ≡ from → ⊥)) → k < from + 1 → from ≡ y.step → of_key (λ (line : Stood). line.step) from ys ≡ [] →
        of_key (λ (line : Stood). line.step) k ys ≡ []
    lower k (inl at) below same none = ap (λ n. of_key (λ (line : Stood). line.step) n ys) at ∙ none
    lower k (inr apart) below same none =
        sym (other-key (λ (line : Stood). line.step) k y ys (λ e. omega arith)) ∙ low k (omega arith)

-- the spots in the slots of a player are those of its lines by step
spots-sorted : (zs : List Spot) (lines : List Stood) →
    ((k : ℕ) → at_step (map Some zs) k ≡ map (λ (line : Stood). line.spot) (of_key (λ (line : Stood). line.step) k lines)) → zs ≡ sorted_spots lines
spots-sorted zs lines each =
    spots-same 0 zs (by_key (λ (line : Stood). line.step) lines) (ascends-by_key (λ (line : Stood). line.step) lines) (λ k below. absurd (omega arith))
    (λ k. each k ∙ ap (map (λ (line : Stood). line.spot))
    (sym (of_key-by_key (λ (line : Stood). line.step) k lines) ∙ ap (λ n. of_key (λ (line : Stood). line.step) n (by_key (λ (line : Stood). line.step) lines)) (omega arith)))

spots-each : (lines : List Stood) (from : ℕ) (steps : List (List Spot)) →
    ((player step : ℕ) → at_player (map (λ spots. map Some spots) steps) player step ≡ stand_at lines (from + player) step) →
    steps ≡ map (steps_of lines) (range_with_len from (length steps))
spots-each lines from [] each = refl
spots-each lines from (spots ∷ steps) each =
    ap (λ x. x ∷ steps) (spots-sorted spots (filter (is_of from) lines) (λ k. each zero k ∙ ap (λ n. stand_at lines n k) (omega arith)))
    ∙ ap (λ l. steps_of lines from ∷ l)
    (spots-each lines (from + 1) steps (λ player step. each (suc player) step ∙ ap (λ n. stand_at lines n step) (omega arith)))

-- where no slot is free, each player's steps stand there as its lines by step
pub all-placed : (lines : List Stood) (players : ℕ) (slots : List (List (Option Spot))) (steps : List (List Spot)) → HoldAll lines players slots →
    slots ≡ map (λ spots. map Some spots) steps → steps ≡ map (steps_of lines) (range_with_len 0 players)
all-placed lines players slots steps hold all =
    spots-each lines 0 steps (λ player step. ap (λ l. at_player l player step) (sym all) ∙ hold.each player step ∙ ap (λ n. stand_at lines n step) (omega arith))
    ∙ ap (λ n. map (steps_of lines) (range_with_len 0 n)) (sym (length-map steps (λ spots. map Some spots)) ∙ ap length (sym all) ∙ hold.long)

-- a fact of what may be missing
pub some-weaker : {T : Type 0} (o : Option T) (P Q : T → Type 0) → ((x : T) → P x → Q x) → IfSome o P → IfSome o Q
some-weaker None P Q more known = known
some-weaker (Some x) P Q more known = more x known
