-- Where a line of a block stands among the lines of all; and that a place has one line.
use Rattle.std.proofs.Common.{◌≡◌, ℕ, zero, suc, ◌+◌, Bool, true, Some, List, [], ◌∷◌, ◌++◌, map, flat_map, slice_get, length, length-append, append_assoc, arith, refl, sym, ap, subst, ◌∙◌}
use Rattle.std.proofs.lemmas.Bool.{cond-true}
use Rattle.std.proofs.lemmas.List.{map-append, length-map}
use Rattle.std.proofs.lemmas.Option.{none-some, same_Some}
use Rattle.zk_blocks.specs.Each.{each_lines}
use Rattle.zk_blocks.specs.Sections.{headed_lines, titled_lines, two_lines}
use Rattle.zk_blocks.specs.Numbers.{lines_of_first, StandsAt}

module _ {L : Type 0} where
  -- what is at a place stands there
  pub stands_get : (lines : List L) (place : ℕ) (line : L) → slice_get lines place ≡ Some line → StandsAt lines place line
  stands_get [] place line is = absurd (none-some line is)
  stands_get (l ∷ lines) zero line is = record { before = []; more = lines; whole = ap (λ x. x ∷ lines) (same_Some l line is); at = refl }
  stands_get (l ∷ lines) (suc place) line is =
      let there = stands_get lines place line is in
      record { before = l ∷ there.before; more = there.more; whole = ap (λ ls. l ∷ ls) there.whole; at = ap suc there.at }

  get_behind : (before more : List L) (line : L) → slice_get (before ++ line ∷ more) (length before) ≡ Some line
  get_behind [] more line = refl
  get_behind (b ∷ before) more line = get_behind before more line

  -- and what stands there is there
  pub get_stands : (lines : List L) (place : ℕ) (line : L) → StandsAt lines place line → slice_get lines place ≡ Some line
  get_stands lines place line stands =
      ap (λ n. slice_get lines n) (sym stands.at) ∙ ap (λ ls. slice_get ls (length stands.before)) stands.whole ∙ get_behind stands.before stands.more line

  -- a place has one line
  pub one_place : (lines : List L) (place : ℕ) (a b : L) → StandsAt lines place a → StandsAt lines place b → a ≡ b
  one_place lines place a b here there = same_Some a b (sym (get_stands lines place a here) ∙ get_stands lines place b there)

  -- a line also stands where others follow
  pub followed : (lines more : List L) (place : ℕ) (line : L) → StandsAt lines place line → StandsAt (lines ++ more) place line
  followed lines more place line stands = record {
    before = stands.before;
    more = stands.more ++ more;
    whole = ap (λ ls. ls ++ more) stands.whole ∙ append_assoc stands.before (line ∷ stands.more) more;
    at = stands.at;
  }

  -- and behind others, so much farther on
  pub behind : (others lines : List L) (place : ℕ) (line : L) → StandsAt lines place line → StandsAt (others ++ lines) (length others + place) line
  behind others lines place line stands = record {
    before = others ++ stands.before;
    more = stands.more;
    whole = ap (λ ls. others ++ ls) stands.whole ∙ sym (append_assoc others stands.before (line ∷ stands.more));
    at = omega (arith, stands.at, length-append others stands.before);
  }

  module _ {X : Type 0} where
    -- how many lines the first blocks have is how long they are
    pub lines_of_first-length : (lines_of : X → List L) (xs : List X) → lines_of_first lines_of xs ≡ length (flat_map lines_of xs)
    lines_of_first-length lines_of [] = refl
    lines_of_first-length lines_of (x ∷ xs) = omega (arith, lines_of_first-length lines_of xs, length-append (lines_of x) (flat_map lines_of xs))

    -- a line of the block behind the first ones stands that many lines farther on
    pub line_there : (lines_of : X → List L) (front : List X) (x : X) (more : List X) (place : ℕ) (line : L) → StandsAt (lines_of x) place line →
        StandsAt (flat_map lines_of (front ++ x ∷ more)) (lines_of_first lines_of front + place) line
    line_there lines_of [] x more place line stands =
        let there = followed (lines_of x) (flat_map lines_of more) place line stands in
        record { before = there.before; more = there.more; whole = there.whole; at = omega (arith, there.at) }
    line_there lines_of (f ∷ front) x more place line stands =
        let there = behind (lines_of f) (flat_map lines_of (front ++ x ∷ more)) (lines_of_first lines_of front + place) line (line_there lines_of front x more place line stands) in
        record { before = there.before; more = there.more; whole = there.whole; at = omega (arith, there.at) }

    -- a row stands in its place
    pub row_there : (text : X → L) (xs : List X) (place : ℕ) (x : X) → StandsAt xs place x → StandsAt (map text xs) place (text x)
    row_there text xs place x stands = record {
      before = map text stands.before;
      more = map text stands.more;
      whole = ap (map text) stands.whole ∙ map-append text stands.before (x ∷ stands.more);
      at = length-map stands.before text ∙ stands.at;
    }

    -- what stands behind a head is one line farther on
    pub headed_there : (head : X → L) (stands : X → Bool) (lines_of : X → List L) (x : X) (place : ℕ) (line : L) → stands x ≡ true →
        StandsAt (lines_of x) place line → StandsAt (headed_lines head stands lines_of x) (1 + place) line
    headed_there head stands lines_of x place line is there =
        subst (λ ls. StandsAt ls (1 + place) line) (sym (cond-true (stands x) (head x ∷ lines_of x) [] is)) (behind (head x ∷ []) (lines_of x) place line there)

    -- a row under a title stands one line farther on
    pub titled_there : {S : Type 0} (title : S → ℕ → L) (text : X → L) (s : S) (xs : List X) (place : ℕ) (x : X) → StandsAt xs place x →
        StandsAt (titled_lines title text (s, xs)) (1 + place) (text x)
    titled_there title text s xs place x there = behind (title s (length xs) ∷ []) (map text xs) place (text x) (row_there text xs place x there)

  module _ {E K : Type 0} (first : E → L) (second : K → L) where
    -- of rows of two kinds a first one stands in its place
    pub first_there : (es : List E) (ks : List K) (place : ℕ) (e : E) → StandsAt es place e → StandsAt (two_lines first second (es, ks)) place (first e)
    first_there es ks place e there = followed (map first es) (map second ks) place (first e) (row_there first es place e there)

    -- and a second one behind all first ones
    pub second_there : (es : List E) (ks : List K) (place : ℕ) (k : K) → StandsAt ks place k → StandsAt (two_lines first second (es, ks)) (length es + place) (second k)
    second_there es ks place k there =
        subst (λ n. StandsAt (two_lines first second (es, ks)) (n + place) (second k)) (length-map es first)
        (behind (map first es) (map second ks) place (second k) (row_there second ks place k there))

  module _ {D A : Type 0} (lines_of : D → A → List L) where
    -- the lines of things for each of some are those of the first ones, and then those of the others
    pub each_lines-append : (ds more : List D) (each others : List A) → length ds ≡ length each →
        each_lines lines_of (ds ++ more) (each ++ others) ≡ each_lines lines_of ds each ++ each_lines lines_of more others
    each_lines-append [] more [] others same = refl
    each_lines-append [] more (a ∷ each) others same = absurd (omega (arith, same))
    each_lines-append (d ∷ ds) more [] others same = absurd (omega (arith, same))
    each_lines-append (d ∷ ds) more (a ∷ each) others same =
        ap (λ ls. lines_of d a ++ ls) (each_lines-append ds more each others (omega (arith, same)))
        ∙ sym (append_assoc (lines_of d a) (each_lines lines_of ds each) (each_lines lines_of more others))

    -- a line of the thing behind the first ones stands as many lines farther on as these have
    pub each_there : (ds : List D) (d : D) (more : List D) (each : List A) (a : A) (others : List A) (place : ℕ) (line : L) → length ds ≡ length each →
        StandsAt (lines_of d a) place line →
        StandsAt (each_lines lines_of (ds ++ d ∷ more) (each ++ a ∷ others)) (length (each_lines lines_of ds each) + place) line
    each_there ds d more each a others place line same stands =
        let there = behind (each_lines lines_of ds each) (lines_of d a ++ each_lines lines_of more others) place line
        (followed (lines_of d a) (each_lines lines_of more others) place line stands) in
        record { before = there.before; more = there.more; whole = each_lines-append ds (d ∷ more) each (a ∷ others) same ∙ there.whole; at = there.at }
