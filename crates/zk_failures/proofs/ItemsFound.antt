-- What looks at items find: the flags at each front, and the first look that missed them.
use Rattle.std.proofs.Common.{◌≡◌, ◌⊎◌, ℕ, zero, suc, ◌+◌, ◌-◌, ◌<◌, ◌≤◌, min, Bool, true, false, not, ◌&&◌, cond, eqb, leb, nat_lt, Option, Some, None, List, [], ◌∷◌, ◌++◌, append_assoc, length, length-append, length-take, map, take, drop, drop-cons, get_or, All, refl, sym, ap, subst, ◌∙◌, inl, inr, arith}
use Rattle.std.specs.List.{Contains, filter, slice_get}
use Rattle.std.specs.Option.{MatchOption, option_map, option_map_or, option_and_then}
use Rattle.std.proofs.Math.Seq.{take-add}
use Rattle.std.proofs.lemmas.Bool.{cases_lt, false≢true, not-true, and_parts, and_from, eq-eqb, eqb-true, le-leb, leb-true}
use Rattle.std.proofs.lemmas.List.{take-append-drop, take_more, take_min, drop_more, get_or_at, get_or_append_left, get_or_default}
use Rattle.std.proofs.lemmas.List.Elements.{All-nil, All-cons, All-head, All-append, All-weaker}
use Rattle.std.proofs.lemmas.Option.{same_Some, none-some, slice_get-map, slice_get-get_or}
use Rattle.zk_base.specs.declared.ids.Entry.{Entry}
use Rattle.zk_base.specs.History.{Rises, IsAbove, extended}
use Rattle.zk_base.specs.Legal.{Machine, state_after, IsLegal}
use Rattle.zk_base.specs.Order.{Ascends}
use Rattle.zk_base.proofs.Histories.{IsLegal-front, Replays-rest, in_range-after}
use Rattle.zk_base.proofs.Lists.{All-at, All-back}
use Rattle.zk_line.specs.Objects.{is_item}
use Rattle.zk_line.proofs.Options.{one_part}
use Rattle.zk_model_work.specs.declared.ops.WorkOp.{WorkOp}
use Rattle.zk_model_work.specs.declared.ops.WorkOp.TheVariants as ops
use Rattle.zk_model_work.specs.declared.ops.WorkReply.{WorkReply}
use Rattle.zk_model_work.specs.Machine.{work_machine, flags_of}
use Rattle.zk_model_work.specs.State.{State}
use Rattle.zk_scenario.specs.Content.{Content}
use Rattle.zk_work.proofs.Owed.{ranges}
use Rattle.zk_work.specs.Words.{work_word}
use Rattle.zk_worker.specs.declared.steps.Step.TheVariants as steps
use Rattle.zk_worker.specs.Machines.{work_start_of, items_of, machines_of}
use Rattle.zk_worker.specs.Right.{IsRight}
use Rattle.zk_worker.proofs.Ranges.{takes-declared}
use Rattle.zk_trace.specs.declared.looks.ItemLook.{ItemLook}
use Rattle.zk_trace.specs.declared.trace.Trace.{Trace}
use Rattle.zk_trace.specs.Fields.{IsOf}
use Rattle.zk_trace.specs.Shown.{trace_shown}
use Rattle.zk_trace.specs.Stood.{item_look_stood}
use Rattle.zk_failures.specs.declared.item_looks.Fronted.{Fronted}
use Rattle.zk_failures.specs.LookOrder.{lower_of}
use Rattle.zk_failures.specs.ItemLooks.{fronts_from, by_front, finds_now, finds, IsReached, missed_places, IsFirstMissed}
use Rattle.zk_failures.proofs.PlacedLists.{IsIn, in-first, in-rest, from-filter, in-filter, from-by_key, in-by_key, in-map}

-- The service plays on.

-- what stands before an entry is of lower steps of its player
above-before : {O R : Type 0} (h rest : List (Entry O R)) (e : Entry O R) → Rises (h ++ e ∷ rest) → IsAbove h e.who.number e.step
above-before [] rest e rises = λ k d within. absurd (omega arith)
above-before {O = O} {R = R} (x ∷ xs) rest e rises =
    let P : Entry O R → Type 0 = λ f. f.who.number ≡ x.who.number → x.step < f.step in
    let here = All-head P e rest (All-back P xs (e ∷ rest) rises.0) in
    let more = above-before xs rest e rises.1 in
    λ k d within. by k d within here more
  where
    by : (k : ℕ) (d : Entry O R) → k < length (x ∷ xs) → (e.who.number ≡ x.who.number → x.step < e.step) → IsAbove xs e.who.number e.step →
        (get_or (x ∷ xs) k d).who.number ≡ e.who.number → (get_or (x ∷ xs) k d).step < e.step
    by zero d within here more same = here (sym same)
    by (suc k) d within here more same = more k d (omega arith) same

module _ {S O R : Type 0} (m : Machine S O R) (start : S) (h rest : List (Entry O R)) (e : Entry O R) (legal : IsLegal m start (h ++ e ∷ rest)) where
  pub plays-above : IsAbove h e.who.number e.step
  plays-above = above-before h rest e legal.1

  pub plays-range : m.in_range start e.op ≡ true
  plays-range =
      let P : Entry O R → Type 0 = λ f. m.in_range start f.op ≡ true in
      All-head P e rest (All-back P h (e ∷ rest) legal.2)

  -- an entry that is known to stand is added
  pub plays-one : (new : List (Entry O R)) (reply : Option R) → reply ≡ m.reply_of (state_after m start h) e.who e.op → new ≡ extended h e.who e.step e.op reply → new ≡ h ++ e ∷ []
  plays-one new reply told made =
      let stands = (Replays-rest m start h (e ∷ rest) legal.0).0 in
      made ∙ ap (extended h e.who e.step e.op) (told ∙ stands)

-- a history and what is still to come
whole-cut : {A : Type 0} (h xs : List A) (i : ℕ) (x : A) → i < length xs → x ≡ get_or xs i x → (h ++ take i xs) ++ x ∷ drop (suc i) xs ≡ h ++ xs
whole-cut {A} h xs i x within is =
    append_assoc h (take i xs) (x ∷ drop (suc i) xs)
    ∙ ap (λ (l : List A). h ++ l)
    (ap (λ (l : List A). take i xs ++ l) (ap (λ (y : A). y ∷ drop (suc i) xs) is ∙ sym (drop-cons xs i x within)) ∙ take-append-drop i xs)

module _ {S O R : Type 0} (m : Machine S O R) (start : S) (h es : List (Entry O R)) (i : ℕ) (e : Entry O R) (within : i < length es) (is : e ≡ get_or es i e)
    (legal : IsLegal m start (h ++ es)) (now : List (Entry O R)) (come : now ≡ h ++ take i es) where
  coming : IsLegal m start ((h ++ take i es) ++ e ∷ drop (suc i) es)
  coming = subst (IsLegal m start) (sym (whole-cut h es i e within is)) legal

  pub play-above : IsAbove now e.who.number e.step
  play-above = subst (λ (l : List (Entry O R)). IsAbove l e.who.number e.step) (sym come) (plays-above m start (h ++ take i es) (drop (suc i) es) e coming)

  pub play-range : m.in_range start e.op ≡ true
  play-range = plays-range m start (h ++ take i es) (drop (suc i) es) e coming

  pub play-short : (most : ℕ) → length (h ++ es) < most → length now < most
  play-short most short =
      let long = ap length come in
      let front = length-append h (take i es) in
      let all = length-append h es in
      let taken = length-take i es in
      omega arith

  pub play-one : (new : List (Entry O R)) (reply : Option R) → reply ≡ m.reply_of (state_after m start now) e.who e.op → new ≡ extended now e.who e.step e.op reply → new ≡ h ++ take (i + 1) es
  play-one new reply told made =
      let at : List (Entry O R) → Type 0 = λ l. reply ≡ m.reply_of (state_after m start l) e.who e.op in
      plays-one m start (h ++ take i es) (drop (suc i) es) e coming new reply (subst at come told) (made ∙ ap (λ (l : List (Entry O R)). extended l e.who e.step e.op reply) come)
      ∙ append_assoc h (take i es) (e ∷ []) ∙ ap (λ (l : List (Entry O R)). h ++ l) (ap (λ (y : Entry O R). take i es ++ y ∷ []) is ∙ sym (take_more es i e within))

-- where it has come to a front it comes to a later one
pub piece-taken : {A : Type 0} (h xs : List A) (at : ℕ) → h ≡ take (length h) xs → length h ≤ at → h ++ take (at - length h) (drop (length h) xs) ≡ take at xs
piece-taken {A} h xs at is low =
    let front = length h in
    let sum : front + (at - front) ≡ at = omega arith in
    ap (λ (l : List A). l ++ take (at - front) (drop front xs)) is ∙ sym (take-add front (at - front) xs) ∙ ap (λ n. take n xs) sum

-- so where it plays up to a look's front, or the end of the entries
pub front-come : {A : Type 0} (h xs : List A) (at front end : ℕ) → h ≡ take (length h) xs → length h ≤ at → front ≡ length h → end ≡ min at (length xs) →
    h ++ take (end - front) (drop front xs) ≡ take at xs
front-come {A} h xs at front end is low from to =
    let short : length h ≤ length xs = let long = ap length is in let taken = length-take (length h) xs in omega arith in
    ap (λ (n : ℕ). h ++ take (end - n) (drop n xs)) from ∙ piece-taken h xs end is (omega arith) ∙ ap (λ (n : ℕ). take n xs) to ∙ take_min at xs

-- it is a front then
pub reached-at : (h entries : List (Entry WorkOp WorkReply)) (at : ℕ) → h ≡ take at entries → IsReached h entries
reached-at h entries at is =
    let long : length h ≡ min at (length entries) = ap length is ∙ length-take at entries in
    is ∙ sym (ap (λ (n : ℕ). take n entries) long ∙ take_min at entries)

-- and no longer than what the looks behind say
ascends-at : {A : Type 0} (key : A → ℕ) (xs : List A) (i k : ℕ) (d e : A) → Ascends key xs → i < k → k < length xs → key (get_or xs i d) ≤ key (get_or xs k e)
ascends-at key [] i k d e up low within = absurd (omega arith)
ascends-at key (x ∷ xs) i zero d e up low within = absurd (omega arith)
ascends-at key (x ∷ xs) zero (suc k) d e up low within = up.0 k e (omega arith)
ascends-at key (x ∷ xs) (suc i) (suc k) d e up low within = ascends-at key xs i k d e up.1 (omega arith) (omega arith)

pub still-ahead : (h entries : List (Entry WorkOp WorkReply)) (fronts : List Fronted) (i k : ℕ) (none d : Fronted) → Ascends (λ (one : Fronted). one.look.at) fronts →
    h ≡ take (get_or fronts i none).look.at entries → i + 1 ≤ k → k < length fronts → length h ≤ (get_or fronts k d).look.at
still-ahead h entries fronts i k none d sorted is low within =
    let later = ascends-at (λ (one : Fronted). one.look.at) fronts i k none d sorted (omega arith) within in
    let long = ap length is in
    let taken = length-take (get_or fronts i none).look.at entries in
    omega arith

module _ (start : State) (items : List (Option ℕ)) (h : List (Entry WorkOp WorkReply)) (fronts : List Fronted) (i : ℕ) (none : Fronted) (within : i < length fronts) where
  abbrev pub rest : List ℕ
  rest = missed_places start items h (drop (i + 1) fronts)

  next : (found : Bool) → found ≡ finds start items h (get_or fronts i none).look →
      missed_places start items h (drop i fronts) ≡ map (λ (f : Fronted). f.place) (cond (not found) (get_or fronts i none ∷ filter (λ (f : Fronted). not (finds start items h f.look)) (drop (i + 1) fronts)) (filter (λ (f : Fronted). not (finds start items h f.look)) (drop (i + 1) fronts)))
  next found is =
      let others : List Fronted = filter (λ (f : Fronted). not (finds start items h f.look)) (drop (i + 1) fronts) in
      ap (missed_places start items h) (drop_more fronts i none within)
      ∙ ap (λ (b : Bool). map (λ (f : Fronted). f.place) (cond (not b) (get_or fronts i none ∷ others) others)) (sym is)

  -- one more missed what was there
  pub missed-more : (missed new all : List ℕ) (found : Bool) → found ≡ finds start items h (get_or fronts i none).look → found ≡ false → new ≡ missed ++ (get_or fronts i none).place ∷ [] →
      missed ++ missed_places start items h (drop i fronts) ≡ all → new ++ rest ≡ all
  missed-more missed new all found is isnt made before =
      ap (λ (l : List ℕ). l ++ rest) made ∙ append_assoc missed ((get_or fronts i none).place ∷ []) rest
      ∙ ap (λ (l : List ℕ). missed ++ l) (sym (next false (sym isnt ∙ is))) ∙ before

  -- or found it
  pub found-more : (missed all : List ℕ) (found : Bool) → found ≡ finds start items h (get_or fronts i none).look → found ≡ true →
      missed ++ missed_places start items h (drop i fronts) ≡ all → missed ++ rest ≡ all
  found-more missed all found is found_is before = ap (λ (l : List ℕ). missed ++ l) (sym (next true (sym found_is ∙ is))) ∙ before

pub legal-taken : {S O R : Type 0} (m : Machine S O R) (start : S) (xs : List (Entry O R)) (at : ℕ) → IsLegal m start xs → IsLegal m start (take at xs)
legal-taken m start xs at legal = IsLegal-front m start (take at xs) (drop at xs) (subst (IsLegal m start) (sym (take-append-drop at xs)) legal)

-- what was found
pub found-at : (start : State) (items : List (Option ℕ)) (xs h : List (Entry WorkOp WorkReply)) (look : ItemLook) (within now found : Bool) → within ≡ leb look.at (length xs) → h ≡ take look.at xs →
    now ≡ finds_now start items h look → found ≡ (within && now) → found ≡ finds start items xs look
found-at start items xs h look within now found is_within is_taken is_now is =
    is ∙ ap (λ b. b && now) is_within ∙ ap (λ b. leb look.at (length xs) && b) (is_now ∙ ap (λ l. finds_now start items l look) is_taken)

-- Looks with their places.

in-fronts : (from : ℕ) (looks : List ItemLook) (k : ℕ) (look : ItemLook) → slice_get looks k ≡ Some look → IsIn (fronts_from from looks) (record { place = from + k; look = look })
in-fronts from [] k look there = absurd (none-some look there)
in-fronts from (x ∷ looks) zero look there =
    let here : from ≡ from + zero = omega arith in
    let first : Fronted = record { place = from; look = x } in
    subst (λ n. IsIn (first ∷ fronts_from (from + 1) looks) (record { place = n; look = look })) here
    (subst (λ l. IsIn (first ∷ fronts_from (from + 1) looks) (record { place = from; look = l })) (same_Some x look there) (in-first first (fronts_from (from + 1) looks)))
in-fronts from (x ∷ looks) (suc k) look there =
    let next : (from + 1) + k ≡ from + suc k = omega arith in
    in-rest (record { place = from; look = x }) (record { place = from + suc k; look = look }) (fronts_from (from + 1) looks)
    (subst (λ n. IsIn (fronts_from (from + 1) looks) (record { place = n; look = look })) next (in-fronts (from + 1) looks k look there))

fronts-at : (from : ℕ) (looks : List ItemLook) (place : ℕ) (one : Fronted) → slice_get (fronts_from from looks) place ≡ Some one →
    (one.place ≡ from + place) × (slice_get looks place ≡ Some one.look)
fronts-at from [] place one there = absurd (none-some one there)
fronts-at from (x ∷ looks) zero one there =
    let first : Fronted = record { place = from; look = x } in
    let same : first ≡ one = same_Some first one there in
    let begin : from ≡ from + zero = omega arith in
    (sym (ap (λ (f : Fronted). f.place) same) ∙ begin, ap (λ (f : Fronted). Some f.look) same)
fronts-at from (x ∷ looks) (suc place) one there =
    let rest = fronts-at (from + 1) looks place one there in
    let next : (from + 1) + place ≡ from + suc place = omega arith in
    (rest.0 ∙ next, rest.1)

-- The first one that missed.

module _ (start : State) (items : List (Option ℕ)) (h : List (Entry WorkOp WorkReply)) (looks : List ItemLook) where
  abbrev pub found : ItemLook → Bool
  found look = finds start items h look

  abbrev pub places : List ℕ
  places = missed_places start items h (by_front looks)

  -- one that missed is among the places
  in-places : (k : ℕ) (look : ItemLook) → slice_get looks k ≡ Some look → found look ≡ false → IsIn places k
  in-places k look there miss =
      let one : Fronted = record { place = 0 + k; look = look } in
      let same : 0 + k ≡ k = omega arith in
      subst (IsIn places) same
      (in-map (λ (f : Fronted). f.place) (filter (λ (f : Fronted). not (finds start items h f.look)) (by_front looks)) one
      (in-filter (λ (f : Fronted). not (finds start items h f.look)) (by_front looks) one
      (in-by_key (λ (f : Fronted). f.look.at) (fronts_from 0 looks) one (in-fronts 0 looks k look there))
      (ap not miss)))

  -- and each place is of one that did
  from-places : (place : ℕ) → IsIn places place → (look : ItemLook) × (slice_get looks place ≡ Some look) × (found look ≡ false)
  from-places place is =
      let kept = filter (λ (f : Fronted). not (finds start items h f.look)) (by_front looks) in
      let one = one_part (λ (f : Fronted). f.place) (slice_get kept is.0) place (sym (slice_get-map (λ (f : Fronted). f.place) kept is.0) ∙ is.1) in
      let parts = from-filter (λ (f : Fronted). not (finds start items h f.look)) (by_front looks) one.0 (is.0, one.1) in
      let row = from-by_key (λ (f : Fronted). f.look.at) (fronts_from 0 looks) one.0 parts.0 in
      let at = fronts-at 0 looks row.0 one.0 row.1 in
      let begin : 0 + row.0 ≡ row.0 = omega arith in
      let same : row.0 ≡ place = sym (at.0 ∙ begin) ∙ one.2 in
      (one.0.look, ap (slice_get looks) (sym same) ∙ at.1, not-true (finds start items h one.0.look) parts.1)

  -- where there is none each found what was there
  pub none-missed : places ≡ [] → All (λ look. found look ≡ true) looks
  none-missed none = λ k d within. by k d within (found (get_or looks k d)) refl where
    by : (k : ℕ) (d : ItemLook) → k < length looks → (b : Bool) → found (get_or looks k d) ≡ b → found (get_or looks k d) ≡ true
    by k d within true is = is
    by k d within false is =
        let place = in-places k (get_or looks k d) (slice_get-get_or looks k d within) is in
        absurd (none-some k (ap (λ (l : List ℕ). slice_get l place.0) (sym none) ∙ place.1))

  -- and else the lowest is that of the first
  pub lowest-missed : (place : ℕ) → Contains places place → All (λ other. place ≤ other) places → IsFirstMissed found looks place
  lowest-missed place contains low =
      let is : IsIn places place = (contains.0, slice_get-get_or places contains.0 place contains.1 ∙ ap (λ (n : ℕ). Some n) contains.2) in
      let first = from-places place is in
      record {
        look = first.0;
        there = first.1;
        missed = first.2;
        none_before = λ earlier other below there. by earlier other below there (found other) refl;
      }
    where
      by : (earlier : ℕ) (other : ItemLook) → earlier < place → slice_get looks earlier ≡ Some other → (b : Bool) → found other ≡ b → found other ≡ true
      by earlier other below there true is = is
      by earlier other below there false is =
          let its = in-places earlier other there is in
          let least : place ≤ earlier = All-at (λ (other : ℕ). place ≤ other) places its.0 earlier low its.1 in
          absurd (omega arith)

-- So the lowest place says which is the first.
pub first-told : (start : State) (items : List (Option ℕ)) (h : List (Entry WorkOp WorkReply)) (looks : List ItemLook) (places : List ℕ) (first : Option ℕ) →
    places ≡ missed_places start items h (by_front looks) →
    MatchOption first (places ≡ []) (λ low. Contains places low × All (λ place. low ≤ place) places) →
    MatchOption first (All (λ look. finds start items h look ≡ true) looks) (λ place. IsFirstMissed (finds start items h) looks place)
first-told start items h looks all None is none = none-missed start items h looks (sym is ∙ none)
first-told start items h looks all (Some place) is low =
    lowest-missed start items h looks place (subst (λ (l : List ℕ). Contains l place) is low.0) (subst (All (λ (other : ℕ). place ≤ other)) is low.1)

-- What is found is what is right.

-- the word of an item that there is has its flags
word-flags : (start : State) (h : List (Entry WorkOp WorkReply)) (item : ℕ) → nat_lt item start.items ≡ true → work_word (state_after work_machine start h) item ≡ flags_of (state_after work_machine start h) item
word-flags start h item within =
    let still : nat_lt item (state_after work_machine start h).items ≡ nat_lt item start.items =
    ap (λ (f : WorkOp → Bool). f (ops.Remaining item)) (in_range-after work_machine ranges start h) in
    ap (λ (b : Bool). cond b (flags_of (state_after work_machine start h) item) 0) (still ∙ within)

module _ (state : State) (flags : ℕ) where
  -- a word that was found is that of the flags
  flags-told : (o : Option ℕ) → ((item : ℕ) → o ≡ Some item → work_word state item ≡ flags_of state item) →
      option_map_or (λ item. eqb (work_word state item) flags) o false ≡ true → option_map (flags_of state) o ≡ Some flags
  flags-told None words is = absurd (false≢true is)
  flags-told (Some item) words is = ap (λ (n : ℕ). Some n) (sym (words item refl) ∙ eqb-true (work_word state item) flags is)

  told-flags : (o : Option ℕ) → ((item : ℕ) → o ≡ Some item → work_word state item ≡ flags_of state item) →
      option_map (flags_of state) o ≡ Some flags → option_map_or (λ item. eqb (work_word state item) flags) o false ≡ true
  told-flags None words is = absurd (none-some flags is)
  told-flags (Some item) words is = eq-eqb (work_word state item) flags (words item refl ∙ same_Some (flags_of state item) flags is)

module _ (s : Content) (t : Trace) (look : ItemLook) (item : IsOf is_item s.decls look.item) where
  -- the number of an item that is declared is one of so many
  words : (n : ℕ) → option_and_then (λ (item : Option ℕ). item) (slice_get (items_of s.decls) look.item) ≡ Some n →
      work_word (state_after work_machine (work_start_of s) (take look.at t.work)) n ≡ flags_of (state_after work_machine (work_start_of s) (take look.at t.work)) n
  words n is = word-flags (work_start_of s) (take look.at t.work) n
      (sym (ap (λ (o : Option ℕ). option_map_or (λ item. nat_lt item (work_start_of s).items) o false) is) ∙ takes-declared s (steps.LookItem look.item) item)

  pub finds-right : finds (work_start_of s) (items_of s.decls) t.work look ≡ true → IsRight (machines_of s) (trace_shown t) (item_look_stood look).spot
  finds-right is =
      let parts = and_parts (leb look.at (length t.work)) (finds_now (work_start_of s) (items_of s.decls) (take look.at t.work) look) is in (
        leb-true look.at (length t.work) parts.0,
        flags-told (state_after work_machine (work_start_of s) (take look.at t.work)) look.flags
            (option_and_then (λ (item : Option ℕ). item) (slice_get (items_of s.decls) look.item)) words parts.1,
      )

  pub right-finds : IsRight (machines_of s) (trace_shown t) (item_look_stood look).spot → finds (work_start_of s) (items_of s.decls) t.work look ≡ true
  right-finds right =
      and_from (leb look.at (length t.work)) (finds_now (work_start_of s) (items_of s.decls) (take look.at t.work) look)
      (le-leb look.at (length t.work) right.0)
      (told-flags (state_after work_machine (work_start_of s) (take look.at t.work)) look.flags
      (option_and_then (λ (item : Option ℕ). item) (slice_get (items_of s.decls) look.item)) words right.1)

-- The lowest of some places.

pub lowest-more : (xs : List ℕ) (x new : ℕ) (lowest : Option ℕ) → MatchOption lowest (xs ≡ []) (λ low. Contains xs low × All (λ place. low ≤ place) xs) →
    Some new ≡ lower_of (Some x) lowest → Contains (xs ++ x ∷ []) new × All (λ place. new ≤ place) (xs ++ x ∷ [])
lowest-more xs x new None none lower =
    let is : new ≡ x = same_Some new x lower in
    subst (λ (l : List ℕ). Contains (l ++ x ∷ []) new × All (λ place. new ≤ place) (l ++ x ∷ [])) (sym none)
    ((0, omega arith, sym is), All-cons (λ place. new ≤ place) x [] (omega arith) (All-nil (λ (place : ℕ). new ≤ place)))
lowest-more xs x new (Some low) is lower =
    let least : new ≡ min x low = same_Some new (min x low) lower in (
      among (cases_lt x low) least,
      All-append (λ place. new ≤ place) xs (x ∷ []) (All-weaker (λ place. low ≤ place) (λ place. new ≤ place) (λ place h. omega arith) xs is.1)
          (All-cons (λ place. new ≤ place) x [] (omega arith) (All-nil (λ (place : ℕ). new ≤ place))),
    ) where
      among : ((x < low) ⊎ (low ≤ x)) → new ≡ min x low → Contains (xs ++ x ∷ []) new
      among (inl less) least = (length xs, (let long = length-append xs (x ∷ []) in omega arith), get_or_at xs x [] new (length xs) refl ∙ (let same : x ≡ new = omega arith in same))
      among (inr more) least =
          let at = is.0 in
          let long = length-append xs (x ∷ []) in
          let within = at.1 in
          let same : new ≡ low = omega arith in
          (at.0, omega arith, get_or_append_left xs (x ∷ []) new at.0 at.1 ∙ get_or_default xs at.0 new low at.1 ∙ at.2 ∙ sym same)
