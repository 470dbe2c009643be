-- The cells of one kind, and the passes of them, one of which is used.
use Rattle.std.proofs.Common.{◌≡◌, ◌≢◌, ℕ, zero, suc, ◌<◌, Bool, true, false, Some, None, Ok, Err, is_some, Option, Result, List, [], ◌∷◌, ◌++◌, length, set, get_or, refl, sym, ap, subst, ◌∙◌, arith}
use Rattle.std.specs.List.{slice_get}
use Rattle.std.specs.Option.{option_map}
use Rattle.std.specs.Result.{OnErr}
use Rattle.std.proofs.lemmas.List.{set-set}
use Rattle.std.proofs.lemmas.Option.{slice_get_read}
use Rattle.zk_base.specs.declared.ids.Who.{Who}
use Rattle.zk_base.specs.declared.ids.Entry.{Entry}
use Rattle.zk_base.specs.declared.errors.NoMemory.{NoMemory}
use Rattle.zk_base.specs.Legal.{Machine, state_after}
use Rattle.zk_base.specs.History.{entry}
use Rattle.zk_turn.specs.declared.pass.Pass.{Pass}
use Rattle.zk_turn.specs.declared.cell.Cell.{Cell}
use Rattle.zk_turn.specs.Passes.{given_to}
use Rattle.zk_worker.specs.declared.steps.StepReply.{StepReply}
use Rattle.zk_worker.specs.Single.{answer_in, OthersGrew}
use Rattle.zk_worker.specs.Families.{closes_at, with_entry, start_of, answer_at, takes_at, EachGrew}
use Rattle.zk_worker.proofs.Between.{grew-none, grew-none_each}
use Rattle.zk_visit.specs.Seats.{Visited, seen_at, holds_at}
use Rattle.zk_cells.specs.Rows.{family, seen_all, holds_in, IsSeat, AreSeats, takes_in, VisitedAt}

module _ {S O R T : Type 0} (m : Machine T O R) (start : S → T) where
  -- an object that takes an operation has a cell
  pub taken-there : (cells : List (Option (Cell S O R T))) (object : ℕ) (op : O) → takes_at (family m start cells) object op ≡ true → object < length cells
  taken-there [] object op is = absurd (cc)
  taken-there (c ∷ cs) zero op is = omega arith
  taken-there (c ∷ cs) (suc object) op is = let more = taken-there cs object op is in omega arith

  pub taken-one : (cells : List (Option (Cell S O R T))) (object : ℕ) (c d : Option (Cell S O R T)) (op : O) → takes_at (family m start cells) object op ≡ true →
      c ≡ get_or cells object d → takes_in m start c op ≡ true
  taken-one [] object c d op is found = absurd (cc)
  taken-one (None ∷ cs) zero c d op is found = absurd (cc)
  taken-one (Some x ∷ cs) zero c d op is found = subst (λ (o : Option (Cell S O R T)). takes_in m start o op ≡ true) (sym found) is
  taken-one (x ∷ cs) (suc object) c d op is found = taken-one cs object c d op is found

  pub some-there : (cells : List (Option (Cell S O R T))) (object : ℕ) → is_some (start_of (family m start cells) object) ≡ true → object < length cells
  some-there [] object is = absurd (cc)
  some-there (c ∷ cs) zero is = omega arith
  some-there (c ∷ cs) (suc object) is = let more = some-there cs object is in omega arith

  pub some-one : (cells : List (Option (Cell S O R T))) (object : ℕ) (c d : Option (Cell S O R T)) → is_some (start_of (family m start cells) object) ≡ true →
      c ≡ get_or cells object d → is_some c ≡ true
  some-one [] object c d is found = absurd (cc)
  some-one (None ∷ cs) zero c d is found = absurd (cc)
  some-one (Some x ∷ cs) zero c d is found = ap is_some found
  some-one (x ∷ cs) (suc object) c d is found = some-one cs object c d is found

  pub cell-of : (c : Option (Cell S O R T)) (op : O) → takes_in m start c op ≡ true → (k : Cell S O R T) × (c ≡ Some k)
  cell-of None op is = absurd (cc)
  cell-of (Some k) op is = (k, refl)

module _ {A : Type 0} where
  pub there : (xs : List A) (i : ℕ) (x d : A) → i < length xs → x ≡ get_or xs i d → slice_get xs i ≡ Some x
  there xs i x d within is = slice_get_read xs (length xs) i x refl within (is ∙ default xs i d x within)
    where
      default : (xs : List A) (i : ℕ) (d e : A) → i < length xs → get_or xs i d ≡ get_or xs i e
      default [] i d e within = absurd (omega arith)
      default (x ∷ xs) zero d e within = refl
      default (x ∷ xs) (suc i) d e within = default xs i d e (omega arith)

module _ {S O R T : Type 0} (legal : T → List (Entry O R) → Type 0) (start : S → T) (who : Who) where
  pub as_many : (cs : List (Option (Cell S O R T))) (ps : List (Option (Pass S O R T))) → AreSeats legal start who cs ps → length cs ≡ length ps
  as_many [] [] all = refl
  as_many [] (p ∷ ps) all = absurd all
  as_many (c ∷ cs) [] all = absurd all
  as_many (c ∷ cs) (p ∷ ps) all = let rest = as_many cs ps all.1 in omega arith

  pub seat-there : (cs : List (Option (Cell S O R T))) (ps : List (Option (Pass S O R T))) (i : ℕ) (d : Option (Cell S O R T)) (e : Option (Pass S O R T)) → AreSeats legal start who cs ps → i < length cs →
      IsSeat legal start who (get_or cs i d) (get_or ps i e)
  seat-there [] ps i d e all within = absurd (omega arith)
  seat-there (c ∷ cs) [] i d e all within = absurd all
  seat-there (c ∷ cs) (p ∷ ps) zero d e all within = all.0
  seat-there (c ∷ cs) (p ∷ ps) (suc i) d e all within = seat-there cs ps i d e all.1 (omega arith)

  pub seats-set : (cs : List (Option (Cell S O R T))) (ps : List (Option (Pass S O R T))) (i : ℕ) (d : Option (Cell S O R T)) (p' : Option (Pass S O R T)) → AreSeats legal start who cs ps → i < length cs →
      IsSeat legal start who (get_or cs i d) p' → AreSeats legal start who cs (set ps i p')
  seats-set [] ps i d p' all within one = absurd (omega arith)
  seats-set (c ∷ cs) [] i d p' all within one = absurd all
  seats-set (c ∷ cs) (p ∷ ps) zero d p' all within one = (one, all.1)
  seats-set (c ∷ cs) (p ∷ ps) (suc i) d p' all within one = (all.0, seats-set cs ps i d p' all.1 (omega arith) one)

module _ {S O R T : Type 0} where
  -- what is seen at a number
  pub seen-there : (ps : List (Option (Pass S O R T))) (i : ℕ) (e : Option (Pass S O R T)) → i < length ps → slice_get (seen_all ps) i ≡ Some (seen_at (get_or ps i e))
  seen-there [] i e within = absurd (omega arith)
  seen-there (p ∷ ps) zero e within = refl
  seen-there (p ∷ ps) (suc i) e within = seen-there ps i e (omega arith)

  pub holds-there : (ps : List (Option (Pass S O R T))) (i : ℕ) (e : Option (Pass S O R T)) → i < length ps → holds_in ps i ≡ holds_at (get_or ps i e)
  holds-there [] i e within = absurd (omega arith)
  holds-there (p ∷ ps) zero e within = refl
  holds-there (p ∷ ps) (suc i) e within = holds-there ps i e (omega arith)

  pub holds-new : (ps : List (Option (Pass S O R T))) (i : ℕ) (p' : Option (Pass S O R T)) → i < length ps → holds_in (set ps i p') i ≡ holds_at p'
  holds-new [] i p' within = absurd (omega arith)
  holds-new (p ∷ ps) zero p' within = refl
  holds-new (p ∷ ps) (suc i) p' within = holds-new ps i p' (omega arith)

  pub holds-still : (ps : List (Option (Pass S O R T))) (i j : ℕ) (p' : Option (Pass S O R T)) → j ≢ i → holds_in (set ps i p') j ≡ holds_in ps j
  holds-still [] i j p' else = refl
  holds-still (p ∷ ps) zero zero p' else = absurd (else refl)
  holds-still (p ∷ ps) zero (suc j) p' else = refl
  holds-still (p ∷ ps) (suc i) zero p' else = refl
  holds-still (p ∷ ps) (suc i) (suc j) p' else = holds-still ps i j p' (λ e. else (ap suc e))

module _ {S O R T : Type 0} where
  pub seen-set : (ps : List (Option (Pass S O R T))) (i : ℕ) (p' : Option (Pass S O R T)) → seen_all (set ps i p') ≡ set (seen_all ps) i (seen_at p')
  seen-set [] i p' = refl
  seen-set (p ∷ ps) zero p' = refl
  seen-set (p ∷ ps) (suc i) p' = ap (λ (hs : List (List (Entry O R))). seen_at p ∷ hs) (seen-set ps i p')

  -- whatever one of them has seen, what the others have stays
  pub seen-others : (ps : List (Option (Pass S O R T))) (i : ℕ) (p' : Option (Pass S O R T)) → set (seen_all (set ps i p')) i [] ≡ set (seen_all ps) i []
  seen-others ps i p' = ap (λ (hs : List (List (Entry O R))). set hs i []) (seen-set ps i p') ∙ set-set (seen_all ps) i (seen_at p') []

  pub seen-long : (ps : List (Option (Pass S O R T))) → length (seen_all ps) ≡ length ps
  seen-long [] = refl
  seen-long (p ∷ ps) = ap suc (seen-long ps)

module _ {O R : Type 0} where
  pub set-there : (hs : List (List (Entry O R))) (i : ℕ) (h : List (Entry O R)) → i < length hs → slice_get (set hs i h) i ≡ Some h
  set-there [] i h within = absurd (omega arith)
  set-there (g ∷ gs) zero h within = refl
  set-there (g ∷ gs) (suc i) h within = set-there gs i h (omega arith)

  with-set : (hs : List (List (Entry O R))) (i : ℕ) (h : List (Entry O R)) (e : Entry O R) → set hs i (h ++ e ∷ []) ≡ with_entry (set hs i h) i e
  with-set [] i h e = refl
  with-set (g ∷ gs) zero h e = refl
  with-set (g ∷ gs) (suc i) h e = ap (λ (hs : List (List (Entry O R))). g ∷ hs) (with-set gs i h e)

module _ {S O R T : Type 0} (who : Who) where
  -- the histories, with another one at a number, which others' entries came to
  pub grew-at : (ps : List (Option (Pass S O R T))) (i : ℕ) (old : Option (Pass S O R T)) (h : List (Entry O R)) → slice_get ps i ≡ Some old → OthersGrew who.number (seen_at old) h →
      EachGrew who.number (seen_all ps) (set (seen_all ps) i h)
  grew-at [] i old h there grew = absurd (cc)
  grew-at (p ∷ ps) zero old h there grew =
      let same : p ≡ old = cc in
      (subst (λ (o : Option (Pass S O R T)). OthersGrew who.number (seen_at o) h) (sym same) grew, grew-none_each who.number (seen_all ps))
  grew-at (p ∷ ps) (suc i) old h there grew = (grew-none who.number (seen_at p), grew-at ps i old h there grew)

module _ {S O R T : Type 0} (m : Machine T O R) (start : S → T) (who : Who) (step : ℕ) (op : O) where
  -- what the machine answers there
  answer-at : (cs : List (Option (Cell S O R T))) (hs : List (List (Entry O R))) (i : ℕ) (c : Cell S O R T) (h : List (Entry O R)) (tell : ℕ → R → ℕ → StepReply) → slice_get cs i ≡ Some (Some c) → slice_get hs i ≡ Some h →
      answer_at (family m start cs) hs tell who i op ≡ answer_in m (start (given_to c)) h (tell i) who op
  answer-at cs hs i c h tell there found = from cs hs i there found (tell i)
    where
      from : (cs : List (Option (Cell S O R T))) (hs : List (List (Entry O R))) (i : ℕ) → slice_get cs i ≡ Some (Some c) → slice_get hs i ≡ Some h → (f : R → ℕ → StepReply) →
          answer_at (family m start cs) hs (λ object. f) who i op ≡ answer_in m (start (given_to c)) h f who op
      from [] hs i there found f = absurd (cc)
      from (x ∷ xs) [] i there found f = absurd (cc)
      from (x ∷ xs) (g ∷ gs) zero there found f =
          let one : x ≡ Some c = cc in
          let two : g ≡ h = cc in
          ap (λ (o : Option (Cell S O R T)). answer_at (family m start (o ∷ xs)) (g ∷ gs) (λ object. f) who zero op) one
          ∙ ap (λ (k : List (Entry O R)). answer_in m (start (given_to c)) k f who op) two
      from (x ∷ xs) (g ∷ gs) (suc i) there found f = from xs gs i there found f

  -- an attempt at a cell is one at the object of its number
  pub visited-among : (cs : List (Option (Cell S O R T))) (ps : List (Option (Pass S O R T))) (i : ℕ) (c : Cell S O R T) (old new : Option (Pass S O R T)) (result : Result (Option (R × ℕ)) NoMemory) →
      slice_get cs i ≡ Some (Some c) → slice_get ps i ≡ Some old → i < length ps → Visited m (start (given_to c)) who step op (seen_at old) (seen_at new) result →
      VisitedAt (family m start cs) who step i op (seen_all ps) (seen_all (set ps i new)) result
  visited-among cs ps i c old new (Ok (Some made)) there found within visited = record {
    found = set (seen_all ps) i visited.found;
    since = grew-at who ps i old visited.found found visited.since;
    replied = λ tell. answer-at cs (set (seen_all ps) i visited.found) i c visited.found tell there (set-there (seen_all ps) i visited.found (let l = seen-long ps in omega arith))
        ∙ ap (option_map (λ reply. tell i reply (length visited.found))) visited.replied
        ∙ ap (λ (n : ℕ). Some (tell i made.0 n)) (sym visited.at_place);
    entered = seen-set ps i new ∙ ap (set (seen_all ps) i) visited.entered ∙ with-set (seen_all ps) i visited.found (entry who step op made.0);
  }
  visited-among cs ps i c old new (Ok None) there found within visited = (
    subst (EachGrew who.number (seen_all ps)) (sym (seen-set ps i new)) (grew-at who ps i old (seen_at new) found visited.0),
    λ tell. ap (λ (hs : List (List (Entry O R))). answer_at (family m start cs) hs tell who i op) (seen-set ps i new)
        ∙ answer-at cs (set (seen_all ps) i (seen_at new)) i c (seen_at new) tell there (set-there (seen_all ps) i (seen_at new) (let l = seen-long ps in omega arith))
        ∙ ap (option_map (λ reply. tell i reply (length (seen_at new)))) visited.1,
  )
  visited-among cs ps i c old new (Err e) there found within visited =
      subst (EachGrew who.number (seen_all ps)) (sym (seen-set ps i new)) (grew-at who ps i old (seen_at new) found visited)

module _ {S O R T : Type 0} (closes : T → Who → O → Bool) (m : Machine T O R) (start : S → T) (who : Who) (op : O) where
  -- whether an operation gives an owed entry there
  closes-there : (cs : List (Option (Cell S O R T))) (hs : List (List (Entry O R))) (i : ℕ) (c : Cell S O R T) (h : List (Entry O R)) → slice_get cs i ≡ Some (Some c) → slice_get hs i ≡ Some h →
      closes_at closes (family m start cs) hs who i op ≡ closes (state_after m (start (given_to c)) h) who op
  closes-there [] hs i c h there found = absurd (cc)
  closes-there (x ∷ xs) [] i c h there found = absurd (cc)
  closes-there (x ∷ xs) (g ∷ gs) zero c h there found =
      let one : x ≡ Some c = cc in
      let two : g ≡ h = cc in
      ap (λ (o : Option (Cell S O R T)). closes_at closes (family m start (o ∷ xs)) (g ∷ gs) who zero op) one
      ∙ ap (λ (k : List (Entry O R)). closes (state_after m (start (given_to c)) k) who op) two
  closes-there (x ∷ xs) (g ∷ gs) (suc i) c h there found = closes-there xs gs i c h there found

  -- want of memory at a cell is one at the object of its number
  pub memory-among : (cs : List (Option (Cell S O R T))) (ps : List (Option (Pass S O R T))) (i : ℕ) (c : Cell S O R T) (new : Option (Pass S O R T)) (result : Result (Option (R × ℕ)) NoMemory) →
      slice_get cs i ≡ Some (Some c) → i < length ps → OnErr result (closes (state_after m (start (given_to c)) (seen_at new)) who op ≡ false) →
      OnErr result (closes_at closes (family m start cs) (seen_all (set ps i new)) who i op ≡ false)
  memory-among cs ps i c new (Ok made) there within none = tt
  memory-among cs ps i c new (Err e) there within none =
      ap (λ (hs : List (List (Entry O R))). closes_at closes (family m start cs) hs who i op) (seen-set ps i new)
      ∙ closes-there cs (set (seen_all ps) i (seen_at new)) i c (seen_at new) there (set-there (seen_all ps) i (seen_at new) (let l = seen-long ps in omega arith))
      ∙ none
