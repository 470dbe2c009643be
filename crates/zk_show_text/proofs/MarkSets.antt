-- How a bar changes the marks of the lanes.
use Rattle.std.proofs.Common.{◌≡◌, ℕ, ◌+◌, ◌-◌, ◌==◌, ◌&&◌, ◌||◌, ◌<◌, ◌≤◌, ◌⊎◌, inl, inr, ◌≢◌, zero, suc, Bool, true, false, cond, List, [], ◌∷◌, ◌++◌, length, take, replicate, set, get_or, refl, sym, ◌∙◌, ap, arith}
use Rattle.std.specs.List.{list_any}
use Rattle.std.proofs.lemmas.List.Folds.{list_any-append}
use Rattle.std.proofs.Math.Seq.{take-nil}
use Rattle.std.proofs.lemmas.Bool.{eq-eqb, eqb-true, ne_eqb, false≢true}
use Rattle.zk_show_chart.specs.declared.chart.Bar.{Bar}
use Rattle.zk_show_chart.specs.declared.chart.BarKind.{BarKind}
use Rattle.zk_show_chart.specs.declared.chart.BarKind.TheVariants.{Run, Script, Wait}
use Rattle.zk_show_text.specs.Marks.{is_wait, mark_of, marked, marks_from}

pub no_marks : (lane lanes : ℕ) → marks_from [] lane lanes ≡ replicate lanes 32
no_marks lane zero = refl
no_marks lane (suc lanes) = ap (λ ms. 32 ∷ ms) (no_marks (lane + 1) lanes)

pub length-marks : (bars : List Bar) (lane lanes : ℕ) → length (marks_from bars lane lanes) ≡ lanes
length-marks bars lane zero = refl
length-marks bars lane (suc lanes) = ap suc (length-marks bars (lane + 1) lanes)

-- a mark by whether a wait and whether any bar was found
abbrev mark_by : Bool → Bool → ℕ
mark_by waits some = cond waits 58 (cond some 124 32)

or-false : (b : Bool) → (b || false) ≡ b
or-false true = refl
or-false false = refl

found_here : (kind : BarKind) (waits some : Bool) → mark_by (waits || (true && is_wait kind)) (some || true) ≡ marked kind (mark_by waits some)
found_here Wait true some = refl
found_here Wait false some = refl
found_here Run true some = refl
found_here Run false true = refl
found_here Run false false = refl
found_here Script true some = refl
found_here Script false true = refl
found_here Script false false = refl

found_there : (here waits some : Bool) → mark_by (waits || (false && here)) (some || false) ≡ mark_by waits some
found_there here true some = refl
found_there here false true = refl
found_there here false false = refl

-- whether one of a lane is found among one more
any_more : (p : Bar → Bool) (bars : List Bar) (bar : Bar) → list_any p (bars ++ bar ∷ []) ≡ (list_any p bars || p bar)
any_more p bars bar = list_any-append p bars (bar ∷ []) ∙ ap (λ b. list_any p bars || b) (or-false (p bar))

mark_more : (bars : List Bar) (bar : Bar) (lane : ℕ) (here : Bool) → (bar.player == lane) ≡ here
    → mark_of (bars ++ bar ∷ []) lane
    ≡ mark_by (list_any (λ b. b.player == lane && is_wait b.kind) bars || (here && is_wait bar.kind)) (list_any (λ b. b.player == lane) bars || here)
mark_more bars bar lane here is =
    let waits : Bar → Bool = λ b. b.player == lane && is_wait b.kind in
    let some : Bar → Bool = λ b. b.player == lane in
    ap (λ w. mark_by w (list_any some (bars ++ bar ∷ []))) (any_more waits bars bar ∙ ap (λ b. list_any waits bars || (b && is_wait bar.kind)) is)
    ∙ ap (λ s. mark_by (list_any waits bars || (here && is_wait bar.kind)) s) (any_more some bars bar ∙ ap (λ b. list_any some bars || b) is)

-- a bar marks its own lane
mark_here : (bars : List Bar) (bar : Bar) (lane : ℕ) → (bar.player == lane) ≡ true → mark_of (bars ++ bar ∷ []) lane ≡ marked bar.kind (mark_of bars lane)
mark_here bars bar lane own =
    mark_more bars bar lane true own
    ∙ found_here bar.kind (list_any (λ b. b.player == lane && is_wait b.kind) bars) (list_any (λ b. b.player == lane) bars)

-- and no other
mark_there : (bars : List Bar) (bar : Bar) (lane : ℕ) → (bar.player == lane) ≡ false → mark_of (bars ++ bar ∷ []) lane ≡ mark_of bars lane
mark_there bars bar lane other =
    mark_more bars bar lane false other
    ∙ found_there (is_wait bar.kind) (list_any (λ b. b.player == lane && is_wait b.kind) bars) (list_any (λ b. b.player == lane) bars)

-- the lanes from one on, with a bar of none of them
marks_there : (bars : List Bar) (bar : Bar) (lane lanes : ℕ) → (bar.player < lane) ⊎ (lane + lanes ≤ bar.player)
    → marks_from (bars ++ bar ∷ []) lane lanes ≡ marks_from bars lane lanes
marks_there bars bar lane zero away = refl
marks_there bars bar lane (suc lanes) away =
    let other : (bar.player == lane) ≡ false =
    ne_eqb bar.player lane (λ same. elim away [ inl below ↦ absurd (omega arith) | inr above ↦ absurd (omega arith) ]) in
    let more : (bar.player < lane + 1) ⊎ ((lane + 1) + lanes ≤ bar.player) =
    elim away [ inl below ↦ inl (omega arith) | inr above ↦ inr (omega arith) ] in
    ap (λ m. m ∷ marks_from (bars ++ bar ∷ []) (lane + 1) lanes) (mark_there bars bar lane other)
    ∙ ap (λ ms. mark_of bars lane ∷ ms) (marks_there bars bar (lane + 1) lanes more)

-- a bar of none of the lanes
pub marks_beyond : (bars : List Bar) (bar : Bar) (lanes : ℕ) → lanes ≤ bar.player → marks_from (bars ++ bar ∷ []) 0 lanes ≡ marks_from bars 0 lanes
marks_beyond bars bar lanes beyond = marks_there bars bar 0 lanes (inr (omega arith))

-- the first lane of some, and the others, with a bar of one of them
marks_by : (bars : List Bar) (bar : Bar) (lane lanes : ℕ) (here : Bool) → (bar.player == lane) ≡ here → lane ≤ bar.player
    → (lane + 1 ≤ bar.player → marks_from (bars ++ bar ∷ []) (lane + 1) lanes
    ≡ set (marks_from bars (lane + 1) lanes) (bar.player - (lane + 1)) (marked bar.kind (mark_of bars bar.player)))
    → marks_from (bars ++ bar ∷ []) lane (suc lanes) ≡ set (marks_from bars lane (suc lanes)) (bar.player - lane) (marked bar.kind (mark_of bars bar.player))
marks_by bars bar lane lanes true is from more =
    let new = marked bar.kind (mark_of bars bar.player) in
    let same : bar.player ≡ lane = eqb-true bar.player lane is in
    let first : bar.player - lane ≡ 0 = omega arith in
    let below : bar.player < lane + 1 = omega arith in
    ap (λ m. m ∷ marks_from (bars ++ bar ∷ []) (lane + 1) lanes) (mark_here bars bar lane is ∙ ap (λ l. marked bar.kind (mark_of bars l)) (sym same))
    ∙ ap (λ ms. new ∷ ms) (marks_there bars bar (lane + 1) lanes (inl below))
    ∙ ap (λ n. set (marks_from bars lane (suc lanes)) n new) (sym first)
marks_by bars bar lane lanes false is from more =
    let new = marked bar.kind (mark_of bars bar.player) in
    let other : bar.player ≢ lane = λ same. false≢true (sym is ∙ eq-eqb bar.player lane same) in
    let later : bar.player - lane ≡ suc (bar.player - (lane + 1)) = omega arith in
    ap (λ m. m ∷ marks_from (bars ++ bar ∷ []) (lane + 1) lanes) (mark_there bars bar lane is)
    ∙ ap (λ ms. mark_of bars lane ∷ ms) (more (omega arith))
    ∙ ap (λ n. set (marks_from bars lane (suc lanes)) n new) (sym later)

-- the lanes from one on, with a bar of one of them
marks_here : (bars : List Bar) (bar : Bar) (lane lanes : ℕ) → lane ≤ bar.player → bar.player < lane + lanes
    → marks_from (bars ++ bar ∷ []) lane lanes ≡ set (marks_from bars lane lanes) (bar.player - lane) (marked bar.kind (mark_of bars bar.player))
marks_here bars bar lane zero from below = absurd (omega arith)
marks_here bars bar lane (suc lanes) from below =
    marks_by bars bar lane lanes (bar.player == lane) refl from (λ further. marks_here bars bar (lane + 1) lanes further (omega arith))

-- the mark of a lane, by its place
mark_at : (bars : List Bar) (lane lanes i d : ℕ) → i < lanes → get_or (marks_from bars lane lanes) i d ≡ mark_of bars (lane + i)
mark_at bars lane zero i d within = absurd (omega arith)
mark_at bars lane (suc lanes) zero d within = let first : lane ≡ lane + 0 = omega arith in ap (mark_of bars) first
mark_at bars lane (suc lanes) (suc i) d within =
    let later : (lane + 1) + i ≡ lane + suc i = omega arith in
    mark_at bars (lane + 1) lanes i d (omega arith) ∙ ap (mark_of bars) later

-- a bar of one of the lanes
pub marks_within : (bars : List Bar) (bar : Bar) (lanes d : ℕ) → bar.player < lanes
    → marks_from (bars ++ bar ∷ []) 0 lanes ≡ set (marks_from bars 0 lanes) bar.player (marked bar.kind (get_or (marks_from bars 0 lanes) bar.player d))
marks_within bars bar lanes d within =
    let place : bar.player - 0 ≡ bar.player = omega arith in
    let same : 0 + bar.player ≡ bar.player = omega arith in
    marks_here bars bar 0 lanes (omega arith) (omega arith)
    ∙ ap (λ n. set (marks_from bars 0 lanes) n (marked bar.kind (mark_of bars bar.player))) place
    ∙ ap (λ m. set (marks_from bars 0 lanes) bar.player (marked bar.kind m)) (sym (mark_at bars 0 lanes bar.player d within ∙ ap (mark_of bars) same))

-- blanks for so many lanes, in place of what is cleared
pub blank_marks : (lanes size : ℕ) (cleared : List ℕ) → cleared ≡ [] → size ≡ 0 → take lanes cleared ++ replicate (lanes - size) 32 ≡ marks_from [] 0 lanes
blank_marks lanes size cleared none empty =
    let all : lanes - size ≡ lanes = omega arith in
    ap (λ (ms : List ℕ). take lanes ms ++ replicate (lanes - size) 32) none
    ∙ ap (λ (ms : List ℕ). ms ++ replicate (lanes - size) 32) (take-nil lanes)
    ∙ ap (λ n. replicate n 32) all ∙ sym (no_marks 0 lanes)
