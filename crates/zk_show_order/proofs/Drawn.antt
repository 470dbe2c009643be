-- Lines that are drawn: before the first, and with one more.
use Rattle.std.proofs.Common.{◌≡◌, inl, inr, ℕ, ◌+◌, ◌<◌, ◌≤◌, Bool, true, false, not, ◌&&◌, cond, eqb, List, [], ◌∷◌, ◌++◌, length, take, drop, max, replicate, All, Contains, get_or, refl, sym, ap, subst, ◌∙◌, arith}
use Rattle.std.proofs.Math.ListN.{set}
use Rattle.std.specs.List.{concat, range_with_len, count_by}
use Rattle.std.specs.List.Sorted.{IsPermutation}
use Rattle.std.proofs.lemmas.Bool.{cases_Bool, cases_eq, eq-eqb, ne_eqb}
use Rattle.std.proofs.lemmas.List.{append_assoc, length-append, length-map, length-set, get_or-set_same, get_or-set_other, take-append-le, take_at, take_all, get_or_append_left, get_or_push, get_or-replicate, get_or_default, length_push, length-replicate, map_push}
use Rattle.std.proofs.lemmas.List.Elements.{All-map, All-more, All-weaker, All-contains, All-get_or, Contains-get_or, Contains-append_left, Contains-append_right, Contains-push_cases}
use Rattle.std.proofs.lemmas.List.FromFn.{length-range_with_len, get_or-range_with_len}
use Rattle.std.proofs.lemmas.List.Sorted.{IsPermutation-trans, IsPermutation-sym, IsPermutation-append_right, length_permutation, Contains-permutation}
use Rattle.std.proofs.lemmas.List.Sums.{sum_by_push, count_by-le-length}
use Rattle.zk_worker.specs.declared.steps.Spot.{Spot}
use Rattle.zk_worker.specs.Shown.{is_look}
use Rattle.zk_trace.specs.declared.stood.Stood.{Stood}
use Rattle.zk_show_order.specs.Services.{service_of, fits_below, is_entry_of}
use Rattle.zk_show_order.specs.Order.{line_at, lines_at, Follows, AllFollow}
use Rattle.zk_show_order.specs.Lanes.{IsLane, AreLanes}
use Rattle.zk_show_order.specs.Drawing.{AreAmong, DrawnBelow, AreDrawn, IsHeld}
use Rattle.zk_show_order.proofs.Containing.{contains-here, contains-there, contains-cases, contains-none, contains-joined, joined-contains}
use Rattle.zk_show_order.proofs.Joining.{joined-taken}

-- the places of a range are within it
pub within-range : (n place : ℕ) → Contains (range_with_len 0 n) place → place < n
within-range n place (k, within, is) =
    let long = length-range_with_len 0 n in
    let there = get_or-range_with_len 0 n k place (omega arith) in
    omega arith

pub range-within : (n place : ℕ) → place < n → Contains (range_with_len 0 n) place
range-within n place within =
    let long = length-range_with_len 0 n in
    let there = get_or-range_with_len 0 n place place within in
    (place, omega arith, omega arith)

module _ (lines : List Stood) where
  -- each line of a lane is of its player
  pub lane-player : (player : ℕ) (lane : List ℕ) (place : ℕ) → IsLane lines player lane → Contains lane place →
      (line_at lines place).player ≡ player
  lane-player player [] place is there = absurd (contains-none place there)
  lane-player player (p ∷ ps) place is there = elim (contains-cases p ps place there) [
    | inl same ↦ ap (λ (p : ℕ). (line_at lines p).player) (sym same) ∙ is.0
    | inr more ↦ lane-player player ps place is.2 more
  ]

-- counts with one entry more
abbrev pub counted : List ℕ → Spot → List ℕ
counted entries spot =
    cond (is_look spot) entries (set entries (service_of spot) (get_or entries (service_of spot) 0 + 1))

length-counted : (entries : List ℕ) (spot : Spot) → length (counted entries spot) ≡ length entries
length-counted entries spot = elim (cases_Bool (is_look spot)) [
  | inl look ↦ ap (λ (b : Bool). length (cond b entries (set entries (service_of spot) (get_or entries (service_of spot) 0 + 1)))) look
  | inr entry ↦
      ap (λ (b : Bool). length (cond b entries (set entries (service_of spot) (get_or entries (service_of spot) 0 + 1)))) entry
      ∙ length-set entries (service_of spot) (get_or entries (service_of spot) 0 + 1)
]

-- a count that is one more
set-count : (entries : List ℕ) (own service : ℕ) → service < length entries →
    get_or (set entries own (get_or entries own 0 + 1)) service 0 ≡ get_or entries service 0 + cond (eqb own service) 1 0
set-count entries own service within =
    let next = get_or entries own 0 + 1 in
    let none : (n : ℕ) → n ≡ n + 0 = λ (n : ℕ). omega arith in
    elim (cases_eq own service) [
      | inl same ↦
          subst (λ (s : ℕ). get_or (set entries own next) s 0 ≡ get_or entries s 0 + cond (eqb own s) 1 0) same
          (get_or-set_same entries own next 0 (omega arith)
          ∙ ap (λ (b : Bool). get_or entries own 0 + cond b 1 0) (sym (eq-eqb own own refl)))
      | inr other ↦
          get_or-set_other entries own service next 0 (λ same. other (sym same))
          ∙ none (get_or entries service 0)
          ∙ ap (λ (b : Bool). get_or entries service 0 + cond b 1 0) (sym (ne_eqb own service other))
    ]

-- what is counted of a line
counted-one : (entries : List ℕ) (line : Stood) (service : ℕ) → service < length entries →
    get_or (counted entries line.spot) service 0 ≡ get_or entries service 0 + cond (is_entry_of service line) 1 0
counted-one entries line service within = by (is_look line.spot)
  where
    by : (look : Bool) →
        get_or (cond look entries (set entries (service_of line.spot) (get_or entries (service_of line.spot) 0 + 1))) service 0
        ≡ get_or entries service 0 + cond (not look && eqb (service_of line.spot) service) 1 0
    by true = omega arith
    by false = set-count entries (service_of line.spot) service within

module _ (lines : List Stood) (lanes : List (List ℕ)) (entries order : List ℕ) (drawn : AreDrawn lines lanes entries order) where
  -- each line that is left is one of the lines
  pub left-within : (place : ℕ) → Contains (concat lanes) place → place < length lines
  left-within place there =
      within-range (length lines) place
      (Contains-permutation (order ++ concat lanes) (range_with_len 0 (length lines)) place
      (IsPermutation-sym (range_with_len 0 (length lines)) (order ++ concat lanes) drawn.each)
      (Contains-append_right order (concat lanes) place there))

  -- and so is each that is drawn
  pub drawn-within : (place : ℕ) → Contains order place → place < length lines
  drawn-within place there =
      within-range (length lines) place
      (Contains-permutation (order ++ concat lanes) (range_with_len 0 (length lines)) place
      (IsPermutation-sym (range_with_len 0 (length lines)) (order ++ concat lanes) drawn.each)
      (Contains-append_left order (concat lanes) place there))

  -- how many are drawn
  pub drawn-length : length order + length (concat lanes) ≡ length lines
  drawn-length =
      sym (length-append order (concat lanes))
      ∙ length_permutation (range_with_len 0 (length lines)) (order ++ concat lanes) drawn.each
      ∙ length-range_with_len 0 (length lines)

  -- each line's service has a count
  pub service-within : (place : ℕ) → place < length lines → service_of (line_at lines place).spot < length entries
  service-within place within =
      All-get_or (λ (line : Stood). service_of line.spot < length entries) lines place (line_at [] place) within drawn.counted

  -- which isn't above the number of lines that are drawn
  pub count-short : (service : ℕ) → service < length entries → get_or entries service 0 ≤ length order
  count-short service within =
      let count = drawn.counts service within in
      let short = count_by-le-length (is_entry_of service) (lines_at lines order) in
      let long = length-map order (line_at lines) in
      omega arith

  -- The next line of a lane.
  module _ (player place : ℕ) (more : List ℕ) (within : player < length lanes) (is : get_or lanes player [] ≡ place ∷ more) where
    abbrev line : Stood
    line = line_at lines place

    lane : IsLane lines player (place ∷ more)
    lane = subst (IsLane lines player) is (drawn.own player [] within)

    pub next-left : Contains (concat lanes) place
    next-left =
        joined-contains lanes player place within
        (subst (λ (l : List ℕ). Contains l place) (sym is) (contains-here place more))

    -- what is left without it was left with it
    still-left : (other : ℕ) → Contains (concat (set lanes player more)) other → Contains (concat lanes) other
    still-left other there =
        Contains-permutation (place ∷ concat (set lanes player more)) (concat lanes) other
        (IsPermutation-sym (concat lanes) (place ∷ concat (set lanes player more)) (joined-taken lanes player place more within is))
        (contains-there place (concat (set lanes player more)) other there)

    next-each : IsPermutation (range_with_len 0 (length lines)) ((order ++ place ∷ []) ++ concat (set lanes player more))
    next-each =
        subst (λ (l : List ℕ). IsPermutation (range_with_len 0 (length lines)) l)
        (sym (append_assoc order (place ∷ []) (concat (set lanes player more))))
        (IsPermutation-trans (range_with_len 0 (length lines)) (order ++ concat lanes)
        (order ++ place ∷ concat (set lanes player more)) drawn.each
        (IsPermutation-append_right order (concat lanes) (place ∷ concat (set lanes player more))
        (joined-taken lanes player place more within is)))

    next-own : (other : ℕ) (d : List ℕ) → other < length (set lanes player more) →
        IsLane lines other (get_or (set lanes player more) other d)
    next-own other d there = elim (cases_eq other player) [
      | inl same ↦
          subst (λ (p : ℕ). IsLane lines p (get_or (set lanes player more) p d)) (sym same)
          (subst (IsLane lines player) (sym (get_or-set_same lanes player more d within)) lane.2)
      | inr differs ↦
          subst (IsLane lines other) (sym (get_or-set_other lanes player other more d differs))
          (drawn.own other d (let long = length-set lanes player more in omega arith))
    ]

    -- a line of its player that is left is of a higher step
    next-below : (left : ℕ) → Contains (concat (set lanes player more)) left → line.player ≡ (line_at lines left).player →
        line.step < (line_at lines left).step
    next-below left there same = in_lane (contains-joined (set lanes player more) left there)
      where
        in_lane : (k : ℕ) × (k < length (set lanes player more)) × Contains (get_or (set lanes player more) k []) left →
            line.step < (line_at lines left).step
        in_lane (k, inside, there) =
            let its = lane-player lines k (get_or (set lanes player more) k []) left (next-own k [] inside) there in
            let own : k ≡ player = sym its ∙ sym same ∙ lane.0 in
            All-contains (λ (other : ℕ). line.step < (line_at lines other).step) more left lane.1
            (subst (λ (l : List ℕ). Contains l left) (get_or-set_same lanes player more [] within)
            (subst (λ (p : ℕ). Contains (get_or (set lanes player more) p []) left) own there))

    next-drawn_below : DrawnBelow lines (order ++ place ∷ []) (set lanes player more)
    next-drawn_below first left there after same = elim (Contains-push_cases order place first there) [
      | inl before ↦ drawn.below first left before (still-left left after) same
      | inr is ↦
          subst (λ (p : ℕ). (line_at lines p).step < (line_at lines left).step) is
          (next-below left after (ap (λ (p : ℕ). (line_at lines p).player) is ∙ same))
    ]

    module _ (fits : fits_below line.spot (get_or entries (service_of line.spot) 0) ≡ true) where
      next-follows : Follows (lines_at lines order) line
      next-follows = record {
        steps =
            All-map (λ (other : Stood). other.player ≡ line.player → other.step < line.step) (line_at lines) order
            (λ k d inside same. drawn.below (get_or order k d) place (Contains-get_or order k d inside) next-left same);
        history =
            subst (λ (n : ℕ). fits_below line.spot n ≡ true)
            (drawn.counts (service_of line.spot) (service-within place (left-within place next-left))) fits;
      }

      next-follow : AllFollow lines (order ++ place ∷ [])
      next-follow k inside = elim (cases_eq k (length order)) [
        | inl last ↦
            subst (λ (f : List ℕ). Follows (lines_at lines f) (line_at lines (get_or (order ++ place ∷ []) k 0)))
            (sym (take_at order (place ∷ []) k (sym last)))
            (subst (λ (p : ℕ). Follows (lines_at lines order) (line_at lines p))
            (sym (get_or_push order place 0 k (sym last))) next-follows)
        | inr before ↦
            let long = length_push order place in
            let inner : k < length order = omega arith in
            subst (λ (f : List ℕ). Follows (lines_at lines f) (line_at lines (get_or (order ++ place ∷ []) k 0)))
            (sym (take-append-le k order (place ∷ []) (omega arith)))
            (subst (λ (p : ℕ). Follows (lines_at lines (take k order)) (line_at lines p))
            (sym (get_or_append_left order (place ∷ []) 0 k inner)) (drawn.follow k inner))
      ]

      next-counts : (service : ℕ) → service < length (counted entries line.spot) →
          get_or (counted entries line.spot) service 0 ≡ count_by (is_entry_of service) (lines_at lines (order ++ place ∷ []))
      next-counts service inside =
          let here : service < length entries = let long = length-counted entries line.spot in omega arith in
          counted-one entries line service here
          ∙ ap (λ (n : ℕ). n + cond (is_entry_of service line) 1 0) (drawn.counts service here)
          ∙ sym (sum_by_push (λ (l : Stood). cond (is_entry_of service l) 1 0) (lines_at lines order) line)
          ∙ sym (ap (count_by (is_entry_of service)) (map_push (line_at lines) order place))

      -- with one line more
      pub drawn-next : AreDrawn lines (set lanes player more) (counted entries line.spot) (order ++ place ∷ [])
      drawn-next = record {
        each = next-each;
        own = next-own;
        below = next-drawn_below;
        follow = next-follow;
        counts = next-counts;
        counted =
            subst (λ (n : ℕ). All (λ (l : Stood). service_of l.spot < n) lines) (sym (length-counted entries line.spot)) drawn.counted;
      }

-- before the first
pub drawn-none : (lines : List Stood) (lanes : List (List ℕ)) (services : ℕ) → AreLanes lines lanes → AreAmong lines services →
    AreDrawn lines lanes (replicate services 0) []
drawn-none lines lanes services made have = record {
  each = made.each;
  own = made.own;
  below = λ first left there. absurd (contains-none first there);
  follow = λ k inside. absurd (omega arith);
  counts = λ service inside. get_or-replicate services service 0 0 (subst (λ (n : ℕ). service < n) (length-replicate services 0) inside);
  counted = subst (AreAmong lines) (sym (length-replicate services 0)) have;
}

-- In the words of the code.

-- what holds of each line up to the highest number holds up to the next one's
pub among-more : (f : Stood → ℕ) (lines : List Stood) (k count next : ℕ) (d : Stood) → k < length lines →
    All (λ line. f line < count) (take k lines) → next ≡ max (f (get_or lines k d) + 1) count → All (λ line. f line < next) (take (k + 1) lines)
among-more f lines k count next d within all is =
    All-more (λ (line : Stood). f line < next) lines k d within
    (All-weaker (λ (line : Stood). f line < count) (λ (line : Stood). f line < next) (λ line below. omega arith) (take k lines) all)
    (omega arith)

pub among-all : (f : Stood → ℕ) (lines : List Stood) (k count : ℕ) → length lines ≤ k → All (λ line. f line < count) (take k lines) →
    All (λ line. f line < count) lines
among-all f lines k count past all =
    subst (λ (l : List Stood). All (λ (line : Stood). f line < count) l) (take_all k lines past) all

-- what is next in a lane
pub next-is : (lanes : List (List ℕ)) (player place : ℕ) (lane more : List ℕ) → player < length lanes →
    lane ≡ get_or lanes player lane → lane ≡ place ∷ more → get_or lanes player [] ≡ place ∷ more
next-is lanes player place lane more within at is = get_or_default lanes player [] lane within ∙ sym at ∙ is

module _ (lines : List Stood) (lanes : List (List ℕ)) (entries order : List ℕ) (drawn : AreDrawn lines lanes entries order)
    (player place : ℕ) (lane more : List ℕ) (within : player < length lanes) (at : lane ≡ get_or lanes player lane) (is : lane ≡ place ∷ more) where
  pub next-within : place < length lines
  next-within =
      left-within lines lanes entries order drawn place
      (next-left lines lanes entries order drawn player place more within (next-is lanes player place lane more within at is))

  pub next-service : service_of (line_at lines place).spot < length entries
  next-service = service-within lines lanes entries order drawn place next-within

  -- where it can't stand here
  pub next-held : (count : ℕ) → count ≡ get_or entries (service_of (line_at lines place).spot) count →
      fits_below (line_at lines place).spot count ≡ false → IsHeld lines lanes entries player
  next-held count read held other rest there =
      let same : place ∷ more ≡ other ∷ rest = sym (next-is lanes player place lane more within at is) ∙ there in
      let first : place ≡ other = cc in
      let spot = (line_at lines place).spot in
      subst (λ (p : ℕ). fits_below (line_at lines p).spot (get_or entries (service_of (line_at lines p).spot) 0) ≡ false) first
      (subst (λ (n : ℕ). fits_below spot n ≡ false)
      (read ∙ get_or_default entries (service_of spot) count 0 next-service) held)

  -- and where it is drawn
  pub next-drawn : (count : ℕ) (again rest entries_new order_new : List ℕ) → count ≡ get_or entries (service_of (line_at lines place).spot) count →
      fits_below (line_at lines place).spot count ≡ true → again ≡ get_or lanes player again → rest ≡ drop 1 again →
      entries_new ≡ counted entries (line_at lines place).spot → order_new ≡ order ++ place ∷ [] →
      AreDrawn lines (set lanes player rest) entries_new order_new
  next-drawn count again rest entries_new order_new read fits read_again passes counts adds =
      let spot = (line_at lines place).spot in
      let here = next-is lanes player place lane more within at is in
      let left : rest ≡ more = passes ∙ ap (drop 1) (read_again ∙ get_or_default lanes player again [] within ∙ here) in
      subst (λ (l : List ℕ). AreDrawn lines (set lanes player l) entries_new order_new) (sym left)
      (subst (λ (l : List ℕ). AreDrawn lines (set lanes player more) l order_new) (sym counts)
      (subst (λ (l : List ℕ). AreDrawn lines (set lanes player more) (counted entries spot) l) (sym adds)
      (drawn-next lines lanes entries order drawn player place more within here
      (subst (λ (n : ℕ). fits_below spot n ≡ true) (read ∙ get_or_default entries (service_of spot) count 0 next-service) fits))))
