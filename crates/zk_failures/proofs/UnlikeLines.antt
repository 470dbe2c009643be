-- The first line of a trace that its service doesn't answer so, by those of the histories.
use Rattle.std.proofs.Common.{◌≡◌, inl, inr, ℕ, zero, suc, ◌+◌, ◌<◌, Option, Some, None, List, [], ◌∷◌, ◌++◌, length, map, append_assoc, append-nil, length-append, refl, sym, ap, subst, ◌∙◌, arith}
use Rattle.std.specs.List.{slice_get, AllByRecursion, AllZip}
use Rattle.std.proofs.lemmas.List.{length-map}
use Rattle.std.proofs.lemmas.Option.{same_Some, slice_get_within}
use Rattle.zk_base.specs.declared.ids.Entry.{Entry}
use Rattle.zk_base.specs.declared.seen.Seen.{Seen}
use Rattle.zk_base.specs.Legal.{Machine, Replays}
use Rattle.zk_worker.specs.declared.steps.Spot.{Spot}
use Rattle.zk_worker.specs.declared.steps.Spot.TheVariants as spots
use Rattle.zk_trace.specs.declared.looks.ItemLook.{ItemLook}
use Rattle.zk_trace.specs.declared.looks.SignalLook.{SignalLook}
use Rattle.zk_trace.specs.declared.stood.Family.{Family}
use Rattle.zk_trace.specs.declared.stood.Family.TheVariants as families
use Rattle.zk_trace.specs.declared.stood.Home.{Home}
use Rattle.zk_trace.specs.declared.stood.Home.TheVariants as homes
use Rattle.zk_trace.specs.declared.stood.Stood.{Stood}
use Rattle.zk_trace.specs.Stood.{spot_at, spot_in, entries_stood, histories_stood, item_look_stood, signal_look_stood, signals_stood}
use Rattle.zk_trace.specs.Text.{looks_at}
use Rattle.zk_failures.specs.Answering.{StandsAt, FirstAmong, IsFoundAt, line_count}
use Rattle.zk_failures.specs.First.{IsFirst}
use Rattle.zk_failures.specs.HistoryFailure.{IsUnlike, IsUnlikeAt}
use Rattle.zk_failures.proofs.Answered.{unlike-none}
use Rattle.zk_failures.proofs.PlacedFew.{entries-long}

module _ (Unlike : Spot → Type 0) where
  -- none of these lines is so
  abbrev pub NoneUnlike : List Stood → Type 0
  NoneUnlike lines = AllByRecursion (λ line. Unlike line.spot → ⊥) lines

  pub none-append : (xs ys : List Stood) → NoneUnlike xs → NoneUnlike ys → NoneUnlike (xs ++ ys)
  none-append [] ys first second = second
  none-append (x ∷ xs) ys first second = (first.0, none-append xs ys first.1 second)

  -- the first is the first also where others follow
  pub found-front : (xs ys : List Stood) (place : ℕ) → IsFoundAt Unlike xs place → IsFoundAt Unlike (xs ++ ys) place
  found-front xs ys place is = record {
    front = is.front;
    line = is.line;
    rest = is.rest ++ ys;
    whole = ap (λ (l : List Stood). l ++ ys) is.whole ∙ append_assoc is.front (is.line ∷ is.rest) ys;
    there = is.there;
    none_before = is.none_before;
    unlike = is.unlike;
  }

  -- and where others are before it that aren't so
  pub found-behind : (xs ys : List Stood) (place : ℕ) → NoneUnlike xs → IsFoundAt Unlike ys place → IsFoundAt Unlike (xs ++ ys) (length xs + place)
  found-behind xs ys place none is = record {
    front = xs ++ is.front;
    line = is.line;
    rest = is.rest;
    whole = ap (λ (l : List Stood). xs ++ l) is.whole ∙ sym (append_assoc xs is.front (is.line ∷ is.rest));
    there = length-append xs is.front ∙ ap (λ (n : ℕ). length xs + n) is.there;
    none_before = none-append xs is.front none is.none_before;
    unlike = is.unlike;
  }

  -- it is one of the lines
  pub found-within : (lines : List Stood) (place : ℕ) → IsFoundAt Unlike lines place → place < length lines
  found-within lines place is =
      let long = ap (λ (l : List Stood). length l) is.whole ∙ length-append is.front (is.line ∷ is.rest) in omega (arith, long, is.there)

  at-seam : (front : List Stood) (line : Stood) (rest : List Stood) → slice_get (front ++ line ∷ rest) (length front) ≡ Some line
  at-seam [] line rest = refl
  at-seam (x ∷ front) line rest = at-seam front line rest

  none-at : (front more : List Stood) (place : ℕ) (line : Stood) → NoneUnlike front → place < length front → slice_get (front ++ more) place ≡ Some line → Unlike line.spot → ⊥
  none-at [] more place line none less there = absurd (omega arith)
  none-at (x ∷ front) more zero line none less there = subst (λ (l : Stood). Unlike l.spot → ⊥) (same_Some x line there) none.0
  none-at (x ∷ front) more (suc place) line none less there = none-at front more place line none.1 (omega arith) there

  -- its place is the first of which it holds
  pub found-there : (lines : List Stood) (place : ℕ) (is : IsFoundAt Unlike lines place) → slice_get lines place ≡ Some is.line
  found-there lines place is =
      ap (λ (l : List Stood). slice_get l place) is.whole ∙ ap (λ (n : ℕ). slice_get (is.front ++ is.line ∷ is.rest) n) (sym is.there) ∙ at-seam is.front is.line is.rest

  pub found-first : (lines : List Stood) (place : ℕ) (is : IsFoundAt Unlike lines place) (earlier : ℕ) (line : Stood) → earlier < place →
      slice_get lines earlier ≡ Some line → Unlike line.spot → ⊥
  found-first lines place is earlier line less there =
      none-at is.front (is.line ∷ is.rest) earlier line is.none_before (omega (arith, is.there)) (ap (λ (l : List Stood). slice_get l earlier) (sym is.whole) ∙ there)

  -- looks aren't so
  module _ (look : (object : ℕ) (seen : Seen) → Unlike (spots.LookSignal object seen) → ⊥) where
    looks-none : (object : ℕ) (looks : List SignalLook) → NoneUnlike (map (signal_look_stood object) looks)
    looks-none object [] = tt
    looks-none object (x ∷ looks) = (look object x.seen, looks-none object looks)

  pub item_looks-none : ((item flags at : ℕ) → Unlike (spots.LookItem item flags at) → ⊥) → (looks : List ItemLook) → NoneUnlike (map item_look_stood looks)
  item_looks-none look [] = tt
  item_looks-none look (x ∷ looks) = (look x.item x.flags x.at, item_looks-none look looks)

  module _ {O R : Type 0} (home : Home) where
    entries-none : (place : ℕ) (es : List (Entry O R)) → ((k : ℕ) → k < length es → Unlike (spot_at home (place + k)) → ⊥) → NoneUnlike (entries_stood home place es)
    entries-none place [] none = tt
    entries-none place (e ∷ es) none = (
      λ unlike. none 0 (omega arith) (subst (λ (n : ℕ). Unlike (spot_at home n)) (omega arith) unlike),
      entries-none (place + 1) es (λ k less unlike. none (suc k) (omega arith) (subst (λ (n : ℕ). Unlike (spot_at home n)) (omega arith) unlike)),
    )

    entries-found : (place : ℕ) (es : List (Entry O R)) (k : ℕ) → k < length es → ((j : ℕ) → j < k → Unlike (spot_at home (place + j)) → ⊥) →
        Unlike (spot_at home (place + k)) → IsFoundAt Unlike (entries_stood home place es) k
    entries-found place [] k less none unlike = absurd (omega arith)
    entries-found place (e ∷ es) zero less none unlike = record {
      front = [];
      line = record { player = e.who.number; step = e.step; spot = spot_at home place };
      rest = entries_stood home (place + 1) es;
      whole = refl;
      there = refl;
      none_before = tt;
      unlike = subst (λ (n : ℕ). Unlike (spot_at home n)) (omega arith) unlike;
    }
    entries-found place (e ∷ es) (suc k) less none unlike =
        let more = entries-found (place + 1) es k (omega arith)
        (λ j below unlike. none (suc j) (omega arith) (subst (λ (n : ℕ). Unlike (spot_at home n)) (omega arith) unlike))
        (subst (λ (n : ℕ). Unlike (spot_at home n)) (omega arith) unlike) in
        let line : Stood = record { player = e.who.number; step = e.step; spot = spot_at home place } in
        record {
          front = line ∷ more.front;
          line = more.line;
          rest = more.rest;
          whole = ap (λ (l : List Stood). line ∷ l) more.whole;
          there = ap suc more.there;
          none_before = (λ unlike. none 0 (omega arith) (subst (λ (n : ℕ). Unlike (spot_at home n)) (omega arith) unlike), more.none_before);
          unlike = more.unlike;
        }

  -- A history whose lines are so just where its entries are unlike what the machine answers.
  module _ {S O R : Type 0} (m : Machine S O R) (home : Home) (s : S) (h : List (Entry O R)) (there : (k : ℕ) → Unlike (spot_at home k) → IsUnlike m s h k)
      (back : (k : ℕ) → IsUnlike m s h k → Unlike (spot_at home k)) where
    pub history-none : Replays m s h → NoneUnlike (entries_stood home 0 h)
    history-none stands = entries-none home 0 h (λ k less unlike. unlike-none m s h k stands (there k (subst (λ (n : ℕ). Unlike (spot_at home n)) (omega arith) unlike)))

    pub history-found : (place : ℕ) → IsFirst (IsUnlike m s h) place → IsFoundAt Unlike (entries_stood home 0 h) place
    history-found place first =
        entries-found home 0 h place (slice_get_within h place first.fails.e first.fails.there)
        (λ j less unlike. first.none_before j less (there j (subst (λ (n : ℕ). Unlike (spot_at home n)) (omega arith) unlike)))
        (subst (λ (n : ℕ). Unlike (spot_at home n)) (omega arith) (back place first.fails))

-- the lines of the objects of a kind, from the one of a number on: of each the entries, and then the looks at it
abbrev pub objects_stood : {O R : Type 0} → Family → List (List SignalLook) → ℕ → List (List (Entry O R)) → List Stood
objects_stood family looks object [] = []
objects_stood family looks object (h ∷ hs) =
    entries_stood (homes.Object family object) 0 h ++ map (signal_look_stood object) (looks_at looks object) ++ objects_stood family looks (object + 1) hs

pub signals-objects : {O R : Type 0} (looks : List (List SignalLook)) (object : ℕ) (hs : List (List (Entry O R))) →
    objects_stood families.Signal looks object hs ≡ signals_stood looks object hs
signals-objects looks object [] = refl
signals-objects looks object (h ∷ hs) =
    ap (λ (l : List Stood). entries_stood (homes.Object families.Signal object) 0 h ++ map (signal_look_stood object) (looks_at looks object) ++ l)
    (signals-objects looks (object + 1) hs)

pub histories-objects : {O R : Type 0} (family : Family) (object : ℕ) (hs : List (List (Entry O R))) →
    objects_stood family [] object hs ≡ histories_stood family object hs
histories-objects family object [] = refl
histories-objects family object (h ∷ hs) =
    let entries = entries_stood (homes.Object family object) 0 h in
    ap (λ (l : List Stood). l ++ objects_stood family [] (object + 1) hs) (append-nil entries) ∙ ap (λ (l : List Stood). entries ++ l) (histories-objects family (object + 1) hs)

-- as many as are counted
pub length-objects : {O R : Type 0} (family : Family) (looks : List (List SignalLook)) (object : ℕ) (hs : List (List (Entry O R))) →
    length (objects_stood family looks object hs) ≡ line_count looks object hs
length-objects family looks object [] = refl
length-objects family looks object (h ∷ hs) =
    let entries = entries_stood (homes.Object family object) 0 h in
    let seen = map (signal_look_stood object) (looks_at looks object) in
    let more = objects_stood family looks (object + 1) hs in
    let all = length-append (entries ++ seen) more in
    let front = length-append entries seen in
    let long = entries-long (homes.Object family object) 0 h in
    let looked = length-map (looks_at looks object) (signal_look_stood object) in
    let rest = length-objects family looks (object + 1) hs in
    omega arith

module _ (Unlike : Spot → Type 0) {S O R : Type 0} (m : Machine S O R) (family : Family) (looks : List (List SignalLook))
    (look : (object : ℕ) (seen : Seen) → Unlike (spots.LookSignal object seen) → ⊥) where
  -- lines are so just where the entries of objects are unlike what the machine answers
  pub record Means (object : ℕ) (starts : List (Option S)) (hs : List (List (Entry O R))) : Type 0 where
    pub there : (k place : ℕ) → Unlike (spot_in family (object + k) place) → IsUnlikeAt (record { machine = m; starts = starts }) hs k place
    pub back : (k place : ℕ) → IsUnlikeAt (record { machine = m; starts = starts }) hs k place → Unlike (spot_in family (object + k) place)

  means-next : (object : ℕ) (start : Option S) (starts : List (Option S)) (h : List (Entry O R)) (hs : List (List (Entry O R))) →
      Means object (start ∷ starts) (h ∷ hs) → Means (object + 1) starts hs
  means-next object start starts h hs means = record {
    there = λ k place unlike.
        let is = means.there (suc k) place (subst (λ (n : ℕ). Unlike (spot_in family n place)) (omega arith) unlike) in
        record { start = is.start; h = is.h; starts = is.starts; stands = is.stands; entry = is.entry };
    back = λ k place is.
        subst (λ (n : ℕ). Unlike (spot_in family n place)) (omega arith)
        (means.back (suc k) place (record { start = is.start; h = is.h; starts = is.starts; stands = is.stands; entry = is.entry }));
  }

  there-first : (object : ℕ) (s : S) (starts : List (Option S)) (h : List (Entry O R)) (hs : List (List (Entry O R))) → Means object (Some s ∷ starts) (h ∷ hs) →
      (place : ℕ) → Unlike (spot_in family object place) → IsUnlike m s h place
  there-first object s starts h hs means place unlike =
      let is = means.there 0 place (subst (λ (n : ℕ). Unlike (spot_in family n place)) (omega arith) unlike) in
      let start : s ≡ is.start = same_Some s is.start (same_Some (Some s) (Some is.start) is.starts) in
      subst (λ (x : S). IsUnlike m x h place) (sym start)
      (subst (λ (l : List (Entry O R)). IsUnlike m is.start l place) (sym (same_Some h is.h is.stands)) is.entry)

  back-first : (object : ℕ) (s : S) (starts : List (Option S)) (h : List (Entry O R)) (hs : List (List (Entry O R))) → Means object (Some s ∷ starts) (h ∷ hs) →
      (place : ℕ) → IsUnlike m s h place → Unlike (spot_in family object place)
  back-first object s starts h hs means place unlike =
      subst (λ (n : ℕ). Unlike (spot_in family n place)) (omega arith)
      (means.back 0 place (record { start = s; h = h; starts = refl; stands = refl; entry = unlike }))

  first-none : (object : ℕ) (start : Option S) (starts : List (Option S)) (h : List (Entry O R)) (hs : List (List (Entry O R))) → Means object (start ∷ starts) (h ∷ hs) →
      StandsAt m start h → NoneUnlike Unlike (entries_stood (homes.Object family object) 0 h)
  first-none object None starts h hs means stands = subst (λ (l : List (Entry O R)). NoneUnlike Unlike (entries_stood (homes.Object family object) 0 l)) (sym stands) tt
  first-none object (Some s) starts h hs means stands =
      history-none Unlike m (homes.Object family object) s h (there-first object s starts h hs means) (back-first object s starts h hs means) stands

  -- none of the lines is so where all histories stand
  pub objects-none : (object : ℕ) (starts : List (Option S)) (hs : List (List (Entry O R))) → Means object starts hs → AllZip (StandsAt m) starts hs →
      NoneUnlike Unlike (objects_stood family looks object hs)
  objects-none object [] [] means stand = tt
  objects-none object [] (h ∷ hs) means stand = absurd stand
  objects-none object (start ∷ starts) [] means stand = absurd stand
  objects-none object (start ∷ starts) (h ∷ hs) means stand =
      let seen = map (signal_look_stood object) (looks_at looks object) in
      let more = objects_stood family looks (object + 1) hs in
      let entries = entries_stood (homes.Object family object) 0 h in
      none-append Unlike (entries ++ seen) more
      (none-append Unlike entries seen (first-none object start starts h hs means stand.0) (looks-none Unlike look object (looks_at looks object)))
      (objects-none (object + 1) starts hs (means-next object start starts h hs means) stand.1)

  -- and else the first is that of the first entry that its machine doesn't answer so
  pub objects-found : (object : ℕ) (starts : List (Option S)) (hs : List (List (Entry O R))) (row : ℕ) → Means object starts hs → FirstAmong m looks object starts hs (Some row) →
      IsFoundAt Unlike (objects_stood family looks object hs) row
  objects-found object [] hs row means found = absurd found
  objects-found object (start ∷ starts) [] row means found = absurd found
  objects-found object (None ∷ starts) (h ∷ hs) row means (inl found) = absurd found
  objects-found object (Some s ∷ starts) (h ∷ hs) row means (inl found) =
      let entries = entries_stood (homes.Object family object) 0 h in
      let seen = map (signal_look_stood object) (looks_at looks object) in
      found-front Unlike (entries ++ seen) (objects_stood family looks (object + 1) hs) row
      (found-front Unlike entries seen row
      (history-found Unlike m (homes.Object family object) s h (there-first object s starts h hs means) (back-first object s starts h hs means) row found))
  objects-found object (start ∷ starts) (h ∷ hs) row means (inr further) =
      let entries = entries_stood (homes.Object family object) 0 h in
      let seen = map (signal_look_stood object) (looks_at looks object) in
      let more = objects_stood family looks (object + 1) hs in
      let is = objects-found (object + 1) starts hs further.1 (means-next object start starts h hs means) further.3 in
      let long = entries-long (homes.Object family object) 0 h in
      let looked = length-map (looks_at looks object) (signal_look_stood object) in
      let front = length-append entries seen in
      subst (λ (n : ℕ). IsFoundAt Unlike (entries ++ seen ++ more) n) (omega (arith, further.2))
      (found-behind Unlike (entries ++ seen) more further.1
      (none-append Unlike entries seen (first-none object start starts h hs means further.0) (looks-none Unlike look object (looks_at looks object))) is)
