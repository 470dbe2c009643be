-- Where a player starts.
use Rattle.std.proofs.Common.{◌≡◌, ℕ, zero, suc, ◌<◌, ◌≤◌, ◌∙◌, Option, Some, None, arith, length, List, [], ◌∷◌, refl, ap, subst}
use Rattle.std.specs.Option.{option_and_then, option_map}
use Rattle.std.specs.List.{slice_get}
use Rattle.std.proofs.lemmas.Option.{option_and_then_some}
use Rattle.zk_worker.proofs.DeclaredObjects.{players-below}
use Rattle.zk_base.specs.declared.ids.Who.{Who}
use Rattle.zk_line.specs.declared.types.Decl.{Decl}
use Rattle.zk_scenario.specs.Content.{Content}
use Rattle.zk_scenario.specs.Players.{players}
use Rattle.zk_worker.specs.declared.steps.Spot.{Spot}
use Rattle.zk_worker.specs.declared.answers.Answered.{Answered}
use Rattle.zk_worker.specs.declared.checks.Mode.{Mode}
use Rattle.zk_worker.specs.declared.frames.Frame.{Frame}
use Rattle.zk_worker.specs.Places.{PlayerPlace}
use Rattle.zk_worker.specs.Protocol.{starting, start_at}

-- equal parts make equal places
pub At-same : (w w' : Who) (r r' : ℕ) (m m' : Mode) (n : ℕ) (f f' : List Frame) (a a' : List Answered) (p p' : List Spot) → w ≡ w' → r ≡ r' → m ≡ m' → f ≡ f' → a ≡ a' → p ≡ p' →
    ◌≡◌ {A = PlayerPlace} (record { who = w; most = r; mode = m; passed = n; frames = f; answers = a; spots = p }) (record { who = w'; most = r'; mode = m'; passed = n; frames = f'; answers = a'; spots = p' })
At-same w w' r r' m m' n f f' a a' p p' ew er em ef ea ep =
    let P : PlayerPlace → Type 0 = λ x. ◌≡◌ {A = PlayerPlace} (record { who = w; most = r; mode = m; passed = n; frames = f; answers = a; spots = p }) x in
    subst (λ (x : List Spot). P (record { who = w'; most = r'; mode = m'; passed = n; frames = f'; answers = a'; spots = x })) ep
    (subst (λ (x : List Answered). P (record { who = w'; most = r'; mode = m'; passed = n; frames = f'; answers = x; spots = p })) ea
    (subst (λ (x : List Frame). P (record { who = w'; most = r'; mode = m'; passed = n; frames = x; answers = a; spots = p })) ef
    (subst (λ (x : Mode). P (record { who = w'; most = r'; mode = x; passed = n; frames = f; answers = a; spots = p })) em
    (subst (λ (x : ℕ). P (record { who = w'; most = x; mode = m; passed = n; frames = f; answers = a; spots = p })) er
    (subst (λ (x : Who). P (record { who = x; most = r; mode = m; passed = n; frames = f; answers = a; spots = p })) ew refl)))))

-- a declared object that is a player's is where this player starts
pub start_at-found : (s : Content) (number object : ℕ) (decl : Decl) → slice_get (players s.decls) number ≡ Some object → slice_get s.decls object ≡ Some decl →
    start_at s number ≡ Some (starting s number object decl)
start_at-found s number object decl found declared =
    let inner : ℕ → Option PlayerPlace = λ o. option_map (starting s number o) (slice_get s.decls o) in
    ap (option_and_then inner) found ∙ ap (option_map (starting s number object)) declared

slice_get_some : {A : Type 0} (xs : List A) (k : ℕ) → k < length xs → slice_get xs k ≡ None → length xs ≤ k
slice_get_some [] k below none = omega arith
slice_get_some (x ∷ xs) zero below none = absurd (cc)
slice_get_some (x ∷ xs) (suc k) below none = let more = slice_get_some xs k (omega arith) none in omega arith

starting-some : (s : Content) (number object : ℕ) → slice_get (players s.decls) number ≡ Some object → object < length s.decls →
    (at : PlayerPlace) × (start_at s number ≡ Some at)
starting-some s number object found below = by_decl (slice_get s.decls object) refl
  where
    by_decl : (decl : Option Decl) → slice_get s.decls object ≡ decl → (at : PlayerPlace) × (start_at s number ≡ Some at)
    by_decl None is = absurd (omega (arith, slice_get_some s.decls object below is))
    by_decl (Some decl) is = (starting s number object decl, start_at-found s number object decl found is)

-- each player starts somewhere
pub start_at-some : (s : Content) (number : ℕ) → number < length (players s.decls) → (at : PlayerPlace) × (start_at s number ≡ Some at)
start_at-some s number below = by_object (slice_get (players s.decls) number) refl
  where
    by_object : (object : Option ℕ) → slice_get (players s.decls) number ≡ object → (at : PlayerPlace) × (start_at s number ≡ Some at)
    by_object None is = absurd (omega (arith, slice_get_some (players s.decls) number below is))
    by_object (Some object) is = starting-some s number object is (players-below s.decls number object is)

-- a player that starts has its number, and nothing behind it
pub record IsFresh (number : ℕ) (at : PlayerPlace) : Type 0 where
  pub number_is : at.who.number ≡ number
  pub none_made : at.spots ≡ []

pub start_at-fresh : (s : Content) (number : ℕ) (at : PlayerPlace) → start_at s number ≡ Some at → IsFresh number at
start_at-fresh s number at is =
    let inner : ℕ → Option PlayerPlace = λ object. option_map (starting s number object) (slice_get s.decls object) in
    option_and_then_some inner (slice_get (players s.decls) number) at is (λ object found made. by_decl object (slice_get s.decls object) made)
  where
    by_decl : (object : ℕ) (decl : Option Decl) → option_map (starting s number object) decl ≡ Some at → IsFresh number at
    by_decl object None made = absurd (cc)
    by_decl object (Some decl) made =
        let same : starting s number object decl ≡ at = cc in
        subst (λ (a : PlayerPlace). IsFresh number a) same (record { number_is = refl; none_made = refl })
