-- The lines of the steps in a text, read one after another.
use Rattle.std.proofs.Common.{◌≡◌, ℕ, ◌+◌, ◌<◌, suc, false, cond, Some, List, [], ◌∷◌, ◌++◌, map, length, drop, get_or, append_assoc, drop-cons, sym, ap, subst, ◌∙◌, arith}
use Rattle.std.proofs.lemmas.List.{map-append}
use Rattle.zk_trace.specs.declared.stood.Stood.{Stood}
use Rattle.zk_show_order.specs.Services.{service_of}
use Rattle.zk_show_chart.specs.declared.lines.Line.{Line}
use Rattle.zk_show_chart.specs.declared.lines.Rest.{Rest}
use Rattle.zk_show_chart.specs.Lines.{Place, before_feed, behind_feed, behind_lines, is_its, next_place, places_behind, said_at, line_said, lines_said}
use Rattle.zk_show_chart.specs.Passing.{IsBehind, Passes}

-- a line more is passed
pub passed : (text : List ℕ) (first count : ℕ) (p : Place) (old new : Rest) → IsBehind text first count p old → Passes old new
    → IsBehind text first (count + 1) p new
passed text first count p old new is passes =
    let next : suc count ≡ count + 1 = omega arith in
    record {
      number = omega (arith, is.number, passes.number);
      text = passes.text ∙ ap behind_feed is.text ∙ ap (λ n. behind_lines n text) next;
      head = passes.head ∙ is.head;
      service = passes.service ∙ is.service;
    }

-- the head of a section is passed
pub entered : (text : List ℕ) (first service : ℕ) (p : Place) (old mid new : Rest) → is_its p.service service ≡ false
    → IsBehind text first (p.line + 1) p old → Passes old mid → new.number ≡ mid.number → new.text.now ≡ mid.text.now
    → new.head.now ≡ before_feed old.text.now → new.service ≡ Some service
    → let q = next_place p service in IsBehind text first q.line q new
entered text first service p old mid new other is passes number rest head own =
    let begun : Place = record { line = p.line + 2; head = p.line + 1; service = Some service } in
    let there : next_place p service ≡ begun = ap (λ b. cond b (record p { line = p.line + 1 }) begun) other in
    let next : suc (p.line + 1) ≡ p.line + 2 = omega arith in
    subst (λ (q : Place). IsBehind text first q.line q new) (sym there)
    (record {
      number = omega (arith, is.number, passes.number, number);
      text = rest ∙ passes.text ∙ ap behind_feed is.text ∙ ap (λ n. behind_lines n text) next;
      head = head ∙ ap before_feed is.text;
      service = own;
    })

-- so many steps' lines are read: what is said of them, and of those of the rest, is what is said of all
pub record AreRead (text : List ℕ) (first : ℕ) (steps : List Stood) (count : ℕ) (read : List Line) (rest : Rest) : Type 0 where
  pub place : Place
  pub behind : IsBehind text first (place.line + 1) place rest
  pub lines : map line_said read ++ map (said_at text first) (places_behind place (drop count steps)) ≡ lines_said text first steps

-- one more is
pub read_on : (text : List ℕ) (first : ℕ) (steps : List Stood) (count : ℕ) (read : List Line) (old new : Rest) (d : Stood) (line : Line)
    (are : AreRead text first steps count read old) → count < length steps
    → let q = next_place are.place (service_of (get_or steps count d).spot) in
    IsBehind text first (q.line + 1) q new → line_said line ≡ said_at text first q
    → AreRead text first steps (count + 1) (read ++ line ∷ []) new
read_on text first steps count read old new d line are within is said =
    let step : Stood = get_or steps count d in
    let q : Place = next_place are.place (service_of step.spot) in
    let more : List Stood = drop (count + 1) steps in
    let rest = map (said_at text first) (places_behind q more) in
    let next : suc count ≡ count + 1 = omega arith in
    let left : drop count steps ≡ step ∷ more = drop-cons steps count d within ∙ ap (λ n. step ∷ drop n steps) next in
    record {
      place = q;
      behind = is;
      lines =
          ap (λ ls. ls ++ rest) (map-append line_said read (line ∷ []))
          ∙ append_assoc (map line_said read) (line_said line ∷ []) rest
          ∙ ap (λ l. map line_said read ++ l ∷ rest) said
          ∙ ap (λ ss. map line_said read ++ map (said_at text first) (places_behind are.place ss)) (sym left)
          ∙ are.lines;
    }
