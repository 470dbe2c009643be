-- The objects of a kind, played one after another.
use Rattle.std.proofs.Common.{◌≡◌, inl, inr, ℕ, zero, suc, ◌+◌, ◌<◌, ◌≤◌, Option, Some, None, List, [], ◌∷◌, ◌++◌, length, map, take, drop, set, All, refl, sym, ap, subst, ◌∙◌, arith}
use Rattle.std.specs.List.{slice_get, AllZip}
use Rattle.std.specs.Option.{option_map}
use Rattle.std.proofs.lemmas.List.Elements.{All-head, All-tail}
use Rattle.std.proofs.lemmas.List.{length-map, drop_all}
use Rattle.std.proofs.lemmas.Slice.Zip.{AllZip-long}
use Rattle.std.proofs.lemmas.Option.{same_Some, slice_get_within}
use Rattle.zk_base.specs.declared.ids.Entry.{Entry}
use Rattle.zk_base.specs.Legal.{Machine}
use Rattle.zk_services.specs.Objects.{starts_of, history_of, histories_of}
use Rattle.zk_trace.specs.declared.looks.SignalLook.{SignalLook}
use Rattle.zk_trace.specs.Text.{looks_at}
use Rattle.zk_failures.specs.Answering.{FirstUnlikeAt, StandsAt, FirstAmong, line_count}

-- no history of any
abbrev pub none_of : {E : Type 0} → List (List E) → List (List E)
none_of hs = map (λ h. []) hs

module _ {A B : Type 0} (R : A → B → Type 0) where
  -- what relates two lists relates what is at a place of one with what is at that of the other
  pub zip-at : (xs : List A) (ys : List B) (k : ℕ) (x : A) (y : B) → AllZip R xs ys → slice_get xs k ≡ Some x → slice_get ys k ≡ Some y → R x y
  zip-at [] ys k x y zip one other = absurd (cc)
  zip-at (a ∷ xs) [] k x y zip one other = absurd zip
  zip-at (a ∷ xs) (b ∷ ys) zero x y zip one other =
      subst (λ (u : A). R u y) (same_Some a x one) (subst (R a) (same_Some b y other) zip.0)
  zip-at (a ∷ xs) (b ∷ ys) (suc k) x y zip one other = zip-at xs ys k x y zip.1 one other

-- what is at a place of a list, and what is behind it
pub cut-there : {A : Type 0} (xs : List A) (k : ℕ) (x : A) → slice_get xs k ≡ Some x → drop k xs ≡ x ∷ drop (k + 1) xs
cut-there [] k x there = absurd (cc)
cut-there (y ∷ xs) zero x there = let same : 0 + 1 ≡ suc 0 = omega arith in ap (λ (z : _). z ∷ xs) (same_Some y x there) ∙ ap (λ (n : ℕ). x ∷ drop n (y ∷ xs)) (sym same)
cut-there (y ∷ xs) (suc k) x there = let same : suc k + 1 ≡ suc (k + 1) = omega arith in cut-there xs k x there ∙ ap (λ (n : ℕ). x ∷ drop n (y ∷ xs)) (sym same)

module _ {E : Type 0} where
  -- where no object has a history at first
  pub none-first : (now hs : List (List E)) → length now ≡ length hs → All (λ h. h ≡ []) now → now ≡ take 0 hs ++ none_of (drop 0 hs)
  none-first [] [] same none = refl
  none-first [] (h ∷ hs) same none = absurd (omega arith)
  none-first (n ∷ now) [] same none = absurd (omega arith)
  none-first (n ∷ now) (h ∷ hs) same none =
      let P : List E → Type 0 = λ l. l ≡ [] in
      ap (λ (l : List E). l ∷ now) (All-head P n now none) ∙ ap (λ (l : List (List E)). [] ∷ l) (none-first now hs (omega arith) (All-tail P n now none))

  -- the next has none yet
  pub none-there : (hs : List (List E)) (k : ℕ) (h : List E) → k < length hs → slice_get (take k hs ++ none_of (drop k hs)) k ≡ Some h → h ≡ []
  none-there [] k h within there = absurd (omega arith)
  none-there (x ∷ hs) zero h within there = sym (same_Some [] h there)
  none-there (x ∷ hs) (suc k) h within there = none-there hs k h (omega arith) there

  -- and then has its own
  pub none-next : (hs : List (List E)) (k : ℕ) (h : List E) → slice_get hs k ≡ Some h → set (take k hs ++ none_of (drop k hs)) k h ≡ take (k + 1) hs ++ none_of (drop (k + 1) hs)
  none-next [] k h there = absurd (cc)
  none-next (x ∷ hs) zero h there =
      let same : 0 + 1 ≡ suc 0 = omega arith in
      ap (λ (l : List E). l ∷ none_of hs) (sym (same_Some x h there)) ∙ ap (λ (n : ℕ). take n (x ∷ hs) ++ none_of (drop n (x ∷ hs))) (sym same)
  none-next (x ∷ hs) (suc k) h there =
      let same : suc k + 1 ≡ suc (k + 1) = omega arith in
      ap (λ (l : List (List E)). x ∷ l) (none-next hs k h there) ∙ ap (λ (n : ℕ). take n (x ∷ hs) ++ none_of (drop n (x ∷ hs))) (sym same)

  -- at the end all have
  pub none-last : (hs : List (List E)) (k : ℕ) → length hs ≤ k → take k hs ++ none_of (drop k hs) ≡ hs
  none-last [] zero past = refl
  none-last [] (suc k) past = refl
  none-last (h ∷ hs) zero past = absurd (omega arith)
  none-last (h ∷ hs) (suc k) past = ap (λ (l : List (List E)). h ∷ l) (none-last hs k (omega arith))

-- the history of an object that was written
pub histories-set : {V E : Type 0} (history : V → List E) (objects : List (Option V)) (k : ℕ) (slot : Option V) →
    histories_of history (set objects k slot) ≡ set (histories_of history objects) k (history_of history slot)
histories-set history [] k slot = refl
histories-set history (o ∷ os) zero slot = refl
histories-set history (o ∷ os) (suc k) slot = ap (λ (l : List (List _)). history_of history o ∷ l) (histories-set history os k slot)

-- there are as many objects as histories
pub objects-long : {V S E : Type 0} (R : Option S → List E → Type 0) (start : V → S) (objects : List (Option V)) (starts : List (Option S)) (hs : List (List E)) →
    starts_of start objects ≡ starts → AllZip R starts hs → length objects ≡ length hs
objects-long R start objects starts hs same zip = sym (length-map objects (option_map start)) ∙ ap (λ (l : List (Option _)). length l) same ∙ sym (AllZip-long R starts hs zip)

module _ {S O R : Type 0} (m : Machine S O R) (looks : List (List SignalLook)) where
  -- the first is one of them
  pub first-within : (start : Option S) (h : List (Entry O R)) (place : ℕ) → FirstUnlikeAt m start h (Some place) → place < length h
  first-within None h place found = absurd found
  first-within (Some s) h place found = slice_get_within h place found.fails.e found.fails.there

  pub among-within : (object : ℕ) (starts : List (Option S)) (hs : List (List (Entry O R))) (row : ℕ) → FirstAmong m looks object starts hs (Some row) → row < line_count looks object hs
  among-within object [] hs row found = absurd found
  among-within object (s ∷ ss) [] row found = absurd found
  among-within object (s ∷ ss) (h ∷ hs) row (inl here) = let less = first-within s h row here in omega arith
  among-within object (s ∷ ss) (h ∷ hs) row (inr further) = let less = among-within (object + 1) ss hs further.1 further.3 in omega (arith, further.2)

  -- what is found at an object, and behind one that stands
  pub found-here : (object : ℕ) (starts : List (Option S)) (hs : List (List (Entry O R))) (k : ℕ) (start : Option S) (h : List (Entry O R)) (row : ℕ) →
      slice_get starts k ≡ Some start → slice_get hs k ≡ Some h → FirstUnlikeAt m start h (Some row) → FirstAmong m looks object (drop k starts) (drop k hs) (Some row)
  found-here object starts hs k start h row first there found =
      subst (λ (l : List (Option S)). FirstAmong m looks object l (drop k hs) (Some row)) (sym (cut-there starts k start first))
      (subst (λ (l : List (List (Entry O R))). FirstAmong m looks object (start ∷ drop (k + 1) starts) l (Some row)) (sym (cut-there hs k h there)) (inl found))

  stands-on : (object : ℕ) (start : Option S) (starts : List (Option S)) (h : List (Entry O R)) (hs : List (List (Entry O R))) (row : Option ℕ) → StandsAt m start h →
      FirstAmong m looks (object + 1) starts hs row → FirstAmong m looks object (start ∷ starts) (h ∷ hs) (option_map (λ n. length h + length (looks_at looks object) + n) row)
  stands-on object start starts h hs None stands found = (stands, found)
  stands-on object start starts h hs (Some row) stands found = inr (stands, row, refl, found)

  pub found-behind : (object : ℕ) (starts : List (Option S)) (hs : List (List (Entry O R))) (k : ℕ) (start : Option S) (h : List (Entry O R)) (row : Option ℕ) →
      slice_get starts k ≡ Some start → slice_get hs k ≡ Some h → StandsAt m start h → FirstAmong m looks (object + 1) (drop (k + 1) starts) (drop (k + 1) hs) row →
      FirstAmong m looks object (drop k starts) (drop k hs) (option_map (λ n. length h + length (looks_at looks object) + n) row)
  found-behind object starts hs k start h row first there stands found =
      let place = option_map (λ n. length h + length (looks_at looks object) + n) row in
      subst (λ (l : List (Option S)). FirstAmong m looks object l (drop k hs) place) (sym (cut-there starts k start first))
      (subst (λ (l : List (List (Entry O R))). FirstAmong m looks object (start ∷ drop (k + 1) starts) l place) (sym (cut-there hs k h there))
      (stands-on object start (drop (k + 1) starts) h (drop (k + 1) hs) row stands found))

  -- the end
  pub found-none : (object : ℕ) (starts : List (Option S)) (hs : List (List (Entry O R))) (k : ℕ) → length starts ≤ k → length hs ≤ k → FirstAmong m looks object (drop k starts) (drop k hs) None
  found-none object starts hs k past over =
      subst (λ (l : List (Option S)). AllZip (StandsAt m) l (drop k hs)) (sym (drop_all k starts past))
      (subst (λ (l : List (List (Entry O R))). AllZip (StandsAt m) [] l) (sym (drop_all k hs over)) tt)

  -- two counts of lines passed, one behind the other
  pub passed-both : (a b c : ℕ) (row : Option ℕ) → c ≡ a + b → option_map (λ n. c + n) row ≡ option_map (λ n. a + n) (option_map (λ n. b + n) row)
  passed-both a b c None is = refl
  passed-both a b c (Some n) is = ap (λ (x : ℕ). Some x) (omega arith)

  pub passed-none : (row : Option ℕ) → option_map (λ n. 0 + n) row ≡ row
  passed-none None = refl
  passed-none (Some n) = ap (λ (x : ℕ). Some x) (omega arith)
