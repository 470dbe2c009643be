-- A text is of one scenario and one trace part.
use Rattle.std.proofs.Common.{◌≡◌, ◌⊎◌, inl, inr, ℕ, ◌+◌, Bool, true, false, cond, nat_lt, Ok, Err, List, [], ◌∷◌, ◌++◌, codes, drop, length, length-append, append_assoc, append-nil, arith, refl, sym, ap, subst, ◌∙◌}
use Rattle.std.specs.Prelude.{Result}
use Rattle.std.specs.Str.{bytes_eq}
use Rattle.std.specs.List.{AllByRecursion}
use Rattle.std.proofs.Math.Seq.{drop-append_seam}
use Rattle.std.proofs.lemmas.Bool.{false≢true}
use Rattle.std.proofs.lemmas.Slice.Eq.{bytes_eq-Decides}
use Rattle.zk_blocks.specs.Cut.{cut_of, fed_lines, AreUnfed, IsUnfed}
use Rattle.zk_blocks.proofs.Cut.{cut_front, cut_spelled, cut_pieces, cut_unfed}
use Rattle.zk_words.specs.Bytes.{line_feed}
use Rattle.zk_scenario.specs.Content.{Content}
use Rattle.zk_scenario.specs.declared.limits.TheConstants.{LONGEST_SCENARIO}
use Rattle.zk_scenario.specs.declared.refused.ScenarioRefused.{ScenarioRefused}
use Rattle.zk_scenario.specs.declared.refused.ScenarioRefused.TheVariants.{At}
use Rattle.zk_scenario.specs.declared.refused.Why.{Why}
use Rattle.zk_scenario.specs.declared.refused.Why.TheVariants as why
use Rattle.zk_scenario.specs.Grammar.{scenario_of, pieces_of, read_pieces, read_lines, read_line, at_end, behind, behind_header}
use Rattle.zk_scenario.specs.Reading.{Reading, start}
use Rattle.zk_scenario.specs.Spelling.{text_of}
use Rattle.zk_trace.specs.declared.format.Format.{Format}
use Rattle.zk_trace.specs.declared.format.Format.TheVariants.{One, Two}
use Rattle.zk_trace.specs.declared.trace.Trace.{Trace}
use Rattle.zk_trace.specs.Feeds.{lines_in}
use Rattle.zk_trace.specs.Parting.{IsOther, AreParts, BeginsTrace}
use Rattle.zk_trace.specs.Text.{line, first_row, service_sections, player_sections, trace_text}
use Rattle.zk_trace.specs.Words.{ending_word}

-- A text has one front and one trace part.

-- what stands before the first of something in two lists is the same
one-front : (f g : Format) (xs ys more others : List (List ℕ)) → AllByRecursion IsOther xs → AllByRecursion IsOther ys →
    xs ++ first_row f ∷ more ≡ ys ++ first_row g ∷ others → xs ≡ ys
one-front f g [] [] more others all every same = refl
one-front f g [] (y ∷ ys) more others all every same = absurd (every.0 f (sym (let first : first_row f ≡ y = cc in first)))
one-front f g (x ∷ xs) [] more others all every same = absurd (all.0 g (let first : x ≡ first_row g = cc in first))
one-front f g (x ∷ xs) (y ∷ ys) more others all every same =
    let first : x ≡ y = cc in
    let rest : xs ++ first_row f ∷ more ≡ ys ++ first_row g ∷ others = cc in
    ap (λ z. z ∷ xs) first ∙ ap (λ zs. y ∷ zs) (one-front f g xs ys more others all.1 every.1 rest)

never-there : (f : Format) (xs more : List (List ℕ)) → AllByRecursion IsOther (xs ++ first_row f ∷ more) → ⊥
never-there f [] more all = all.0 f refl
never-there f (x ∷ xs) more all = never-there f xs more all.1

row-unfed : (f : Format) → IsUnfed line_feed (first_row f)
row-unfed One = (refl, (refl, (refl, (refl, tt))))
row-unfed Two = (refl, (refl, (refl, (refl, tt))))

-- the first line of a trace part, and the lines behind it
first-line : (f : Format) (more : List ℕ) → lines_in (first_row f ++ line_feed ∷ more) ≡ first_row f ∷ lines_in more
first-line One more = ap (λ c. c.0) (cut_front line_feed (first_row One ∷ []) more (row-unfed One, tt))
first-line Two more = ap (λ c. c.0) (cut_front line_feed (first_row Two ∷ []) more (row-unfed Two, tt))

-- the lines of a text with a trace part
lines-with : (front trace : List ℕ) → (begins : BeginsTrace front trace) → (more : List (List ℕ)) × (lines_in (front ++ trace) ≡ lines_in front ++ first_row begins.format ∷ more)
lines-with front trace begins = (lines_in begins.more, whole) where
  spelled : front ≡ fed_lines line_feed (lines_in front)
  spelled = cut_spelled line_feed front ∙ ap (λ p. fed_lines line_feed (lines_in front) ++ p) begins.fed ∙ append-nil (fed_lines line_feed (lines_in front))

  unfed : AreUnfed line_feed (lines_in front)
  unfed = (cut_unfed line_feed front).0

  whole : lines_in (front ++ trace) ≡ lines_in front ++ first_row begins.format ∷ lines_in begins.more
  whole =
      ap (λ f. lines_in (f ++ trace)) spelled
      ∙ ap (λ c. c.0) (cut_front line_feed (lines_in front) trace unfed)
      ∙ ap (λ t. lines_in front ++ lines_in t) begins.head
      ∙ ap (λ l. lines_in front ++ l) (first-line begins.format begins.more)

front-is : (front : List ℕ) → (cut_of line_feed front).1 ≡ [] → front ≡ fed_lines line_feed (lines_in front)
front-is front fed = cut_spelled line_feed front ∙ ap (λ p. fed_lines line_feed (lines_in front) ++ p) fed ∙ append-nil (fed_lines line_feed (lines_in front))

trace-same : (front f trace t : List ℕ) → front ++ trace ≡ f ++ t → front ≡ f → trace ≡ t
trace-same front f trace t same is =
    sym (drop-append_seam front trace) ∙ ap (drop (length front)) (same ∙ ap (λ l. l ++ t) (sym is)) ∙ drop-append_seam front t

pub one-parting : (text front trace f t : List ℕ) → AreParts text front trace → AreParts text f t → (front ≡ f) × (trace ≡ t)
one-parting text front trace f t parts others = by parts.begins others.begins where
  same : front ++ trace ≡ f ++ t
  same = sym parts.whole ∙ others.whole

  all-none : (a b : List ℕ) → a ++ b ≡ text → b ≡ [] → a ≡ text
  all-none a b is none = sym (append-nil a) ∙ ap (λ l. a ++ l) (sym none) ∙ is

  never : (a b c d : List ℕ) → AreParts text a b → b ≡ [] → AreParts text c d → BeginsTrace c d → ⊥
  never a b c d one none other begins =
      let there = lines-with c d begins in
      never-there begins.format (lines_in c) there.0
      (subst (AllByRecursion IsOther) (ap lines_in (all-none a b (sym one.whole) none ∙ other.whole) ∙ there.1) one.before)

  by : (trace ≡ []) ⊎ BeginsTrace front trace → (t ≡ []) ⊎ BeginsTrace f t → (front ≡ f) × (trace ≡ t)
  by (inl none) (inl nothing) =
      let fronts : front ≡ f = all-none front trace (sym parts.whole) none ∙ sym (all-none f t (sym others.whole) nothing) in
      (fronts, none ∙ sym nothing)
  by (inl none) (inr begins) = absurd (never front trace f t parts none others begins)
  by (inr begins) (inl none) = absurd (never f t front trace others none parts begins)
  by (inr begins) (inr starts) =
      let one = lines-with front trace begins in
      let other = lines-with f t starts in
      let lines = one-front begins.format starts.format (lines_in front) (lines_in f) one.0 other.0 parts.before others.before (sym one.1 ∙ ap lines_in same ∙ other.1) in
      let fronts = front-is front begins.fed ∙ ap (fed_lines line_feed) lines ∙ sym (front-is f starts.fed) in
      (fronts, trace-same front f trace t same fronts)

-- No line of a scenario is the first of a trace part, and its text ends with a feed.

-- what was read behind a line that was taken
behind-ok : (n : ℕ) (read : Result Reading Why) (next : Reading → Result Content ScenarioRefused) (s : Content) → behind n read next ≡ Ok s → (r : Reading) × (read ≡ Ok r) × (next r ≡ Ok s)
behind-ok n (Ok r) next s is = (r, refl, is)
behind-ok n (Err reason) next s is = absurd (cc)

at_end-ok : (n : ℕ) (r : Reading) (piece : List ℕ) (s : Content) → at_end n r piece ≡ Ok s → piece ≡ []
at_end-ok n r [] s is = refl
at_end-ok n r (b ∷ bs) s is = absurd (cc)

row-refused : (f : Format) (r r' : Reading) → read_line r (first_row f) ≡ Ok r' → ⊥
row-refused One r r' is = absurd (cc)
row-refused Two r r' is = absurd (cc)

-- the pieces of a text that is read to its end are lines of which none is that, and nothing behind them
read-other : (n : ℕ) (r : Reading) (piece : List ℕ) (more : List (List ℕ)) (s : Content) → read_lines n r piece more ≡ Ok s → (lines : List (List ℕ)) (last : List ℕ) →
    lines ++ last ∷ [] ≡ piece ∷ more → AllByRecursion IsOther lines × (last ≡ [])
read-other n r piece [] s is [] last same = (tt, (let first : last ≡ piece = cc in first) ∙ at_end-ok n r piece s is)
read-other n r piece [] s is (l ∷ lines) last same =
    absurd (let long : lines ++ last ∷ [] ≡ [] = cc in let sized = ap length long in omega (arith, sized, length-append lines (last ∷ [])))
read-other n r piece (next ∷ more) s is [] last same = absurd (let short : [] ≡ next ∷ more = cc in let sized = ap length short in omega (arith, sized))
read-other n r piece (next ∷ more) s is (l ∷ lines) last same =
    let taken = behind-ok n (read_line r piece) (λ q. read_lines (n + 1) q next more) s is in
    let head : l ≡ piece = cc in
    let tail : lines ++ last ∷ [] ≡ next ∷ more = cc in
    let rest = read-other (n + 1) taken.0 next more s taken.2 lines last tail in
    ((λ f row. row-refused f r taken.0 (ap (read_line r) (sym row ∙ head) ∙ taken.1), rest.0), rest.1)

-- the header isn't that either
header-other : (f : Format) → first_row f ≡ codes "zk 1" → ⊥
header-other One is = false≢true ((bytes_eq-Decides (first_row One) (codes "zk 1")).1 is)
header-other Two is = false≢true ((bytes_eq-Decides (first_row Two) (codes "zk 1")).1 is)

pieces-other : (pieces : List (List ℕ)) (s : Content) → read_pieces pieces ≡ Ok s → (lines : List (List ℕ)) (last : List ℕ) → lines ++ last ∷ [] ≡ pieces →
    AllByRecursion IsOther lines × (last ≡ [])
pieces-other [] s is lines last same = absurd (cc)
pieces-other (first ∷ more) s is lines last same = by (bytes_eq first (codes "zk 1")) refl more is lines same where
  by : (b : Bool) → bytes_eq first (codes "zk 1") ≡ b → (more : List (List ℕ)) → cond b (behind_header more) (Err (At 1 why.Header)) ≡ Ok s → (lines : List (List ℕ)) →
      lines ++ last ∷ [] ≡ first ∷ more → AllByRecursion IsOther lines × (last ≡ [])
  by false other more is lines same = absurd (cc)
  by true same-first [] is lines same = absurd (cc)
  by true same-first (piece ∷ more) is [] same = absurd (let short : [] ≡ piece ∷ more = cc in let sized = ap length short in omega (arith, sized))
  by true same-first (piece ∷ more) is (l ∷ lines) same =
      let head : l ≡ first = cc in
      let tail : lines ++ last ∷ [] ≡ piece ∷ more = cc in
      let rest = read-other 2 start piece more s is lines last tail in
      ((λ f row. header-other f (sym row ∙ head ∙ (bytes_eq-Decides first (codes "zk 1")).0 same-first), rest.0), rest.1)

text-other : (text : List ℕ) (s : Content) → scenario_of text ≡ Ok s → AllByRecursion IsOther (lines_in text) × ((cut_of line_feed text).1 ≡ [])
text-other text s is = by (nat_lt LONGEST_SCENARIO (length text)) is where
  by : (b : Bool) → cond b (Err (At 0 why.Length)) (read_pieces (pieces_of text)) ≡ Ok s → AllByRecursion IsOther (lines_in text) × ((cut_of line_feed text).1 ≡ [])
  by true is = absurd (cc)
  by false is = pieces-other (pieces_of text) s is (lines_in text) (cut_of line_feed text).1 (sym (cut_pieces line_feed text))

-- the text of a scenario and of a trace has these as its parts
pub run-parts : (f : Format) (s : Content) (t : Trace) → scenario_of (text_of s) ≡ Ok s → AreParts (text_of s ++ trace_text f s t) (text_of s) (trace_text f s t)
run-parts f s t is =
    let other = text-other (text_of s) s is in
    record {
      whole = refl;
      before = other.0;
      begins = inr (record {
        fed = other.1;
        format = f;
        more = line (ending_word t.ending ∷ []) ++ service_sections f s t ++ player_sections f s.decls 0 t.logs;
        head = head;
      });
    } where
      head : trace_text f s t ≡ first_row f ++ line_feed ∷ (line (ending_word t.ending ∷ []) ++ service_sections f s t ++ player_sections f s.decls 0 t.logs)
      head =
          append_assoc (first_row f ++ codes "\n" ++ line (ending_word t.ending ∷ [])) (service_sections f s t) (player_sections f s.decls 0 t.logs)
          ∙ append_assoc (first_row f ++ codes "\n") (line (ending_word t.ending ∷ [])) (service_sections f s t ++ player_sections f s.decls 0 t.logs)
          ∙ append_assoc (first_row f) (codes "\n") (line (ending_word t.ending ∷ []) ++ (service_sections f s t ++ player_sections f s.decls 0 t.logs))
          ∙ ap (λ l. first_row f ++ line_feed ∷ l) (sym (append_assoc (line (ending_word t.ending ∷ [])) (service_sections f s t) (player_sections f s.decls 0 t.logs)))
