-- What each wait is for stays there, whatever becomes of the admissions.
use Rattle.std.proofs.Common.{◌≡◌, ℕ, ◌⊎◌, inl, inr, ◌≢◌, Bool, true, false, not, ◌&&◌, cond, eqb, Option, Some, None, List, [], ◌∷◌, ◌++◌, map, get_or, slice_get, All, refl, sym, ap, subst, ◌∙◌}
use Rattle.std.specs.Cmp.{second_so}
use Rattle.std.specs.Option.{option_map_or, option_or}
use Rattle.std.proofs.lemmas.Bool.{false≢true}
use Rattle.std.proofs.lemmas.Bool.Decides.{eqb_tells}
use Rattle.zk_model_work.specs.declared.parts.Life.{Life}
use Rattle.zk_model_work.specs.declared.parts.Life.TheVariants.{Waiting, Running, Ended, Dropped}
use Rattle.zk_model_work.specs.declared.parts.Admission.{Admission}
use Rattle.zk_model_work.specs.declared.parts.Awaited.{Awaited}
use Rattle.zk_model_work.specs.declared.parts.Awaited.TheVariants.{Cancel, Flush, Drain}
use Rattle.zk_model_work.specs.declared.parts.Wait.{Wait}
use Rattle.zk_model_work.specs.Questions.{is_waiting, is_running, is_open, waits_as, runs_as, runs_on, waiting, running, passes_at}
use Rattle.zk_model_work.specs.Machine.{with_life, set_life, drop_one, end_one}
use Rattle.zk_model_work.proofs.Lives.{set_life-at}
use Rattle.zk_work.specs.EngineState.{is_begun, is_there}
use Rattle.zk_work.proofs.Cancelling.{still-push, still-map, passes-set_life}
use Rattle.zk_work.proofs.Numbers.{IsAt, is_at}

-- what holds of the waits
abbrev pub AllThere : List Admission → List Wait → Type 0
AllThere xs ws = All (λ (w : Wait). is_there xs w.awaited w.answered ≡ true) ws

-- what has begun stays begun, and what is over stays over
pub record Later (xs ys : List Admission) : Type 0 where
  pub begun : (n : ℕ) → passes_at (λ a. is_begun a.life) xs n ≡ true → passes_at (λ a. is_begun a.life) ys n ≡ true
  pub over : (answered : Bool) (n : ℕ) → passes_at (λ a. not (answered && is_open a.life)) xs n ≡ true →
      passes_at (λ a. not (answered && is_open a.life)) ys n ≡ true

pub there-later : (xs ys : List Admission) (ws : List Wait) → Later xs ys → AllThere xs ws → AllThere ys ws
there-later xs ys ws later all k d within = by (get_or ws k d).awaited (get_or ws k d).answered (all k d within) where
  by : (awaited : Awaited) (answered : Bool) → is_there xs awaited answered ≡ true → is_there ys awaited answered ≡ true
  by (Cancel n) answered is = later.begun n is
  by (Flush n) answered is = later.over answered n is
  by (Drain queue count) answered is = refl

over-not : (answered : Bool) → not (answered && false) ≡ true
over-not true = refl
over-not false = refl

-- a change of lives by which none opens that is over, and none that has begun is as if it hadn't
pub Later-map : (f : Admission → Admission) (xs : List Admission) →
    ((a : Admission) → is_begun a.life ≡ true → is_begun (f a).life ≡ true) →
    ((answered : Bool) (a : Admission) → not (answered && is_open a.life) ≡ true →
    not (answered && is_open (f a).life) ≡ true) → Later xs (map f xs)
Later-map f xs begun over = record {
  begun = λ n is. still-map (λ (a : Admission). is_begun a.life) f xs n begun is;
  over = λ answered n is. still-map (λ (a : Admission). not (answered && is_open a.life)) f xs n (over answered) is;
}

begun-waits : (life : Life) → is_waiting life ≡ true → is_begun life ≡ true → ⊥
begun-waits Waiting waits begun = false≢true begun
begun-waits Running waits begun = false≢true waits
begun-waits Ended waits begun = false≢true waits
begun-waits Dropped waits begun = false≢true waits

-- a drop
pub Later-drop : (item : ℕ) (xs : List Admission) → Later xs (map (drop_one item) xs)
Later-drop item xs = Later-map (drop_one item) xs (λ a is. begun a (waits_as item a) refl is)
    (λ answered a is. over answered a (waits_as item a) is) where
      begun : (a : Admission) (b : Bool) → waits_as item a ≡ b → is_begun a.life ≡ true →
          is_begun (cond b (with_life Dropped a) a).life ≡ true
      begun a true waits is = absurd (begun-waits a.life (second_so (eqb a.item item) (is_waiting a.life) waits) is)
      begun a false waits is = is

      over : (answered : Bool) (a : Admission) (b : Bool) → not (answered && is_open a.life) ≡ true →
          not (answered && is_open (cond b (with_life Dropped a) a).life) ≡ true
      over answered a true is = over-not answered
      over answered a false is = is

-- an end
pub Later-end : (queue : ℕ) (xs : List Admission) → Later xs (map (end_one queue) xs)
Later-end queue xs = Later-map (end_one queue) xs (λ a is. begun a (runs_on queue a) is)
    (λ answered a is. over answered a (runs_on queue a) is) where
      begun : (a : Admission) (b : Bool) → is_begun a.life ≡ true → is_begun (cond b (with_life Ended a) a).life ≡ true
      begun a true is = refl
      begun a false is = is

      over : (answered : Bool) (a : Admission) (b : Bool) → not (answered && is_open a.life) ≡ true →
          not (answered && is_open (cond b (with_life Ended a) a).life) ≡ true
      over answered a true is = over-not answered
      over answered a false is = is

-- a submission
pub Later-push : (xs : List Admission) (a : Admission) → Later xs (xs ++ a ∷ [])
Later-push xs a = record {
  begun = λ n is. still-push (λ (a : Admission). is_begun a.life) xs a n is;
  over = λ answered n is. still-push (λ (a : Admission). not (answered && is_open a.life)) xs a n is;
}

-- a begin
pub Later-begin : (xs : List Admission) (n : ℕ) (a : Admission) → slice_get xs n ≡ Some a → is_waiting a.life ≡ true →
    Later xs (set_life xs n Running)
Later-begin xs n a at waits = record {
  begun = λ m is. by (λ (b : Admission). is_begun b.life) m (λ before. refl) (eqb_tells n m) is;
  over = λ answered m is. by (λ (b : Admission). not (answered && is_open b.life)) m (opens answered a.life waits)
      (eqb_tells n m) is;
} where
  opens : (answered : Bool) (life : Life) → is_waiting life ≡ true → not (answered && is_open life) ≡ true →
      not (answered && true) ≡ true
  opens answered Waiting waits is = is
  opens answered Running waits is = absurd (cc)
  opens answered Ended waits is = absurd (cc)
  opens answered Dropped waits is = absurd (cc)

  by : (p : Admission → Bool) (m : ℕ) → (p a ≡ true → p (with_life Running a) ≡ true) →
      ((eqb n m ≡ true) × (n ≡ m)) ⊎ ((eqb n m ≡ false) × (n ≢ m)) → passes_at p xs m ≡ true →
      passes_at p (set_life xs n Running) m ≡ true
  by p m still (inl same) is =
      let before : p a ≡ true =
      sym (ap (λ (o : Option Admission). option_map_or p o false) at) ∙ ap (passes_at p xs) same.1 ∙ is in
      subst (λ (j : ℕ). passes_at p (set_life xs n Running) j ≡ true) same.1
      (ap (λ (o : Option Admission). option_map_or p o false) (set_life-at xs n Running a at) ∙ still before)
  by p m still (inr differ) is = passes-set_life p xs n m differ.1 ∙ is

-- what a cancel and a flush find is there
pub found-begun : (xs : List Admission) (item n : ℕ) → running xs item ≡ Some n → passes_at (λ a. is_begun a.life) xs n ≡ true
found-begun xs item n is =
    let at = is_at (runs_as item) xs n is in
    ap (λ (o : Option Admission). option_map_or (λ (a : Admission). is_begun a.life) o false) at.there
    ∙ begun at.admission.life (second_so (eqb at.admission.item item) (is_running at.admission.life) at.passes) where
      begun : (life : Life) → is_running life ≡ true → is_begun life ≡ true
      begun Waiting runs = absurd (cc)
      begun Running runs = refl
      begun Ended runs = absurd (cc)
      begun Dropped runs = absurd (cc)

made : (p : Admission → Bool) (xs : List Admission) (n : ℕ) → IsAt p xs n →
    passes_at (λ a. not (false && is_open a.life)) xs n ≡ true
made p xs n at = ap (λ (o : Option Admission). option_map_or (λ (a : Admission). not (false && is_open a.life)) o false) at.there

pub found-made : (xs : List Admission) (item n : ℕ) → option_or (waiting xs item) (running xs item) ≡ Some n →
    passes_at (λ a. not (false && is_open a.life)) xs n ≡ true
found-made xs item n is = by (waiting xs item) refl is where
  by : (o : Option ℕ) → waiting xs item ≡ o → option_or o (running xs item) ≡ Some n →
      passes_at (λ a. not (false && is_open a.life)) xs n ≡ true
  by None none some = made (runs_as item) xs n (is_at (runs_as item) xs n some)
  by (Some m) some is = made (waits_as item) xs n (is_at (waits_as item) xs n (some ∙ is))
