-- A call that is under way: its beginning, and what a step makes of it.
use Rattle.std.proofs.Common.{◌≡◌, ◌⊎◌, inl, inr, ℕ, Bool, true, false, cond, ◌==◌, not, ◌&&◌, nat_le, Option, Some, None, List, [], ◌∷◌, ◌++◌, length, All, refl, sym, ap, subst, ◌∙◌, nat_lt, ◌||◌, ◌-◌, arith}
use Rattle.std.specs.Option.{option_map}
use Rattle.std.proofs.lemmas.List.{length_push}
use Rattle.zk_line.proofs.Lists.{slice_get-push}
use Rattle.zk_worker.specs.declared.answers.Answered.{Answered}
use Rattle.std.specs.List.{slice_get}
use Rattle.std.proofs.lemmas.List.Elements.{All-nil, All-cons, All-weaker}
use Rattle.zk_line.specs.declared.types.Call.{Call}
use Rattle.zk_scenario.specs.Content.{Content}
use Rattle.zk_worker.specs.declared.answers.Answer.{Answer}
use Rattle.zk_worker.specs.declared.frames.Frame.{Frame}
use Rattle.zk_worker.specs.declared.frames.Role.{Role}
use Rattle.zk_worker.specs.declared.frames.Role.TheVariants.{Script}
use Rattle.zk_worker.specs.declared.frames.Stage.{Stage}
use Rattle.zk_worker.specs.declared.frames.Stage.TheVariants.{Start}
use Rattle.zk_worker.specs.declared.playing.Stepped.TheVariants.{Did, NotYet, Spent}
use Rattle.zk_worker.specs.Follows.{is_dead, is_through, is_spent_at}
use Rattle.zk_worker.specs.Machines.{machines_of}
use Rattle.zk_worker.specs.Places.{PlayerPlace}
use Rattle.zk_worker.specs.Playing.{HasStepped, HasWaited, HasStopped}
use Rattle.zk_worker.specs.Shown.{OnlyOthersCame}
use Rattle.zk_kernel.specs.Calling.{Moment, IsCalled, IsLeft, IsSpent, is_answered, is_checking}
use Rattle.zk_cells.specs.Kernels.{Shared}
use Rattle.zk_worker.specs.Next.{role_call, top_call, next_call}
use Rattle.zk_kernel.specs.Within.{IsCallOf, IsCheckedOrSame, IsUnderWay, answer_since}
use Rattle.zk_kernel.proofs.Within.{Stays, Ends, none-came, within-steps}

-- a player that makes a call next stands at its beginning
record Begins (s : Content) (call : Call) (frames : List Frame) : Type 0 where
  frame : Frame
  below : List Frame
  began : frames ≡ frame ∷ below
  is : IsCallOf s frame call

begins-top : (s : Content) (call : Call) (frames : List Frame) → top_call s frames ≡ Some call → Begins s call frames
begins-top s call [] next = absurd (cc)
begins-top s call (frame ∷ below) next = by frame.role frame.stage refl next where
  by : (role : Role) (stage : Stage) → frame.role ≡ role → role_call s role frame.next stage ≡ Some call → Begins s call (frame ∷ below)
  by (Script owner) Start script next = record { frame = frame; below = below; began = refl; is = record { owner = owner; script = script; there = next } }
  by role stage script next = absurd (cc)

begins : (s : Content) (call : Call) (at : PlayerPlace) → next_call s at ≡ Some call → Begins s call at.frames
begins s call at next = by (at.passed == 0) next where
  by : (b : Bool) → cond b (top_call s at.frames) None ≡ Some call → Begins s call at.frames
  by true next = begins-top s call at.frames next
  by false next = absurd (cc)

-- where a call begins it is under way
pub begun : (k : Shared) (call : Call) (now : Moment) → next_call k.scenario now.place ≡ Some call → is_dead now.place.mode ≡ false → IsUnderWay k call now now
begun k call now next lives =
    let start = begins k.scenario call now.place next in
    record {
      frame = start.frame;
      below = start.below;
      began = start.began;
      is = start.is;
      within = record { inner = []; stage = start.frame.stage; stands = start.began; lives = lives; fresh = λ behind. refl };
      earlier = [];
      came = refl;
      only = λ behind. All-nil (IsCheckedOrSame k.scenario now.place);
    }

-- as long as it is, some script is open
pub still-open : (k : Shared) (call : Call) (old now : Moment) → IsUnderWay k call old now → is_through now.place.frames ≡ false
still-open k call old now way = by way.within.inner way.within.stands where
  by : (inner : List Frame) → now.place.frames ≡ inner ++ record way.frame { stage = way.within.stage } ∷ way.below → is_through now.place.frames ≡ false
  by [] stands = ap is_through stands
  by (first ∷ inner) stands = ap is_through stands

-- a step that was made goes on with the call, or answers it
pub stepped : (k : Shared) (call : Call) (old now next : Moment) → IsUnderWay k call old now →
    HasStepped false (machines_of k.scenario) k.scenario now.place next.place now.shown next.shown now.counts next.counts →
    IsUnderWay k call old next × (is_answered (length old.place.frames) now.place next.place ≡ false)
    ⊎ (answer : Answer) × IsCalled k call old next answer × (is_answered (length old.place.frames) now.place next.place ≡ true)
stepped k call old now next way did = by (subst (λ (at : PlayerPlace). Stays k.scenario way.frame way.below way.within.stage now.place at ⊎ Ends k.scenario way.frame way.below call way.within.stage now.place at) (sym did.next)
    (within-steps k.scenario way.frame call way.below now.place way.within did.step did.reply way.is (did.first.index, did.first.is_there)))
  where
    P : Moment → Type 0
    P m = is_checking k.scenario m.place ≡ true

    -- where a check comes next, it came at each moment at which the player stood here
    settle : P now → All (IsCheckedOrSame k.scenario now.place) way.earlier → All P way.earlier
    settle checks all = All-weaker (IsCheckedOrSame k.scenario now.place) P by_place way.earlier all where
      by_place : (m : Moment) → IsCheckedOrSame k.scenario now.place m → P m
      by_place m (inl is) = is
      by_place m (inr same) = subst (λ (at : PlayerPlace). is_checking k.scenario at ≡ true) (sym same) checks

    depth : length (way.frame ∷ way.below) ≡ length old.place.frames
    depth = sym (ap (λ (f : List Frame). length f) way.began)

    by : Stays k.scenario way.frame way.below way.within.stage now.place next.place ⊎ Ends k.scenario way.frame way.below call way.within.stage now.place next.place →
        IsUnderWay k call old next × (is_answered (length old.place.frames) now.place next.place ≡ false)
        ⊎ (answer : Answer) × IsCalled k call old next answer × (is_answered (length old.place.frames) now.place next.place ≡ true)
    by (inl stays) =
        let none = subst (λ (d : ℕ). is_answered d now.place next.place ≡ false) depth stays.none in
        inl (
          record {
            frame = way.frame;
            below = way.below;
            began = way.began;
            is = way.is;
            within = stays.within;
            earlier = now ∷ way.earlier;
            came = ((Did, did), none, way.came);
            only = λ start.
                let at = stays.checking start in
                All-weaker P (IsCheckedOrSame k.scenario next.place) (λ m checks. inl checks) (now ∷ way.earlier) (All-cons P now way.earlier at.1 (settle at.1 (way.only at.0)));
          },
          none,
        )
    by (inr ends) =
        let told = subst (λ (d : ℕ). is_answered d now.place next.place ≡ true) depth ends.told in
        inr (
          ends.answer,
          record {
            before = now;
            earlier = way.earlier;
            came = way.came;
            last = (Did, did);
            answers = told;
            word = ends.word;
            added = ends.added;
            own = λ few. ends.own (subst (λ (d : ℕ). nat_le (length now.place.frames) d ≡ true) (sym depth) few);
            dead = ends.dead;
            checks = λ oops few.
                let at = ends.checks oops (subst (λ (d : ℕ). nat_le (length now.place.frames) d ≡ true) (sym depth) few) in
                All-cons P now way.earlier at.1 (settle at.1 (way.only at.0));
          },
          told,
        )

-- attempts in vain leave it as it is
pub waited : (k : Shared) (call : Call) (old now next : Moment) → IsUnderWay k call old now →
    HasWaited false (machines_of k.scenario) k.scenario now.place next.place now.shown next.shown now.counts next.counts → IsUnderWay k call old next
waited k call old now next way did = record {
  frame = way.frame;
  below = way.below;
  began = way.began;
  is = way.is;
  within = record {
    inner = way.within.inner;
    stage = way.within.stage;
    stands = ap (λ (at : PlayerPlace). at.frames) did.unchanged ∙ way.within.stands;
    lives = ap (λ (at : PlayerPlace). is_dead at.mode) did.unchanged ∙ way.within.lives;
    fresh = way.within.fresh;
  };
  earlier = now ∷ way.earlier;
  came = ((NotYet, did), none-came (length old.place.frames) now.place next.place (ap (λ (at : PlayerPlace). at.answers) did.unchanged), way.came);
  only = λ start. All-cons (IsCheckedOrSame k.scenario next.place) now way.earlier (inr (sym did.unchanged))
      (subst (λ (at : PlayerPlace). All (IsCheckedOrSame k.scenario at) way.earlier) (sym did.unchanged) (way.only start));
}

-- a player that has made all its steps leaves it
pub spent : (k : Shared) (call : Call) (old now next : Moment) → IsUnderWay k call old now →
    HasStopped now.place next.place now.shown next.shown (is_spent_at k.scenario now.place) → IsSpent k old next
spent k call old now next way did = record {
  earlier = now ∷ way.earlier;
  came = ((Spent, did), none-came (length old.place.frames) now.place next.place (ap (λ (at : PlayerPlace). at.answers) did.unchanged), way.came);
  spent = ap (is_spent_at k.scenario) did.unchanged ∙ did.because;
}

-- so does one whose step found no memory
pub left : (k : Shared) (call : Call) (old now next : Moment) → IsUnderWay k call old now → next.place ≡ now.place →
    OnlyOthersCame false now.place.who.number now.shown next.shown → IsLeft k old next
left k call old now next way same others = record { before = now; earlier = way.earlier; came = way.came; place = same; others = others }

-- what a step gives
abbrev pub GoesOrAnswers : Shared → Call → Moment → Moment → Option Answer → Type 0
GoesOrAnswers k call old next None = IsUnderWay k call old next
GoesOrAnswers k call old next (Some answer) = IsCalled k call old next answer

last-of : (at : List Answered) (one : Answered) → option_map (λ a. a.answer) (slice_get (at ++ one ∷ []) (length (at ++ one ∷ []) - 1)) ≡ Some one.answer
last-of at one =
    let here : length (at ++ one ∷ []) - 1 ≡ length at = omega (arith, length_push at one) in
    ap (λ (n : ℕ). option_map (λ a. a.answer) (slice_get (at ++ one ∷ []) n)) here ∙ ap (λ (o : Option Answered). option_map (λ a. a.answer) o) (slice_get-push at one)

-- a step that was made, and what is told of its answer
pub answers-or-not : (k : Shared) (call : Call) (old now next : Moment) (depth before : ℕ) (own : Bool) → IsUnderWay k call old now →
    HasStepped false (machines_of k.scenario) k.scenario now.place next.place now.shown next.shown now.counts next.counts → depth ≡ length old.place.frames →
    before ≡ length now.place.answers → own ≡ nat_le (length now.place.frames) depth → GoesOrAnswers k call old next (answer_since next.place before own)
answers-or-not k call old now next depth before own way did deep many is_own = by (stepped k call old now next way did) where
  same : (nat_lt before (length next.place.answers) && (own || is_dead next.place.mode)) ≡ is_answered (length old.place.frames) now.place next.place
  same = ap (λ (n : ℕ). nat_lt n (length next.place.answers) && (own || is_dead next.place.mode)) many
      ∙ ap (λ (b : Bool). nat_lt (length now.place.answers) (length next.place.answers) && (b || is_dead next.place.mode)) is_own
      ∙ ap (λ (d : ℕ). is_answered d now.place next.place) deep

  told : (b : Bool) → is_answered (length old.place.frames) now.place next.place ≡ b →
      answer_since next.place before own ≡ cond b (option_map (λ a. a.answer) (slice_get next.place.answers (length next.place.answers - 1))) None
  told b is = ap (λ (c : Bool). cond c (option_map (λ a. a.answer) (slice_get next.place.answers (length next.place.answers - 1))) None) (same ∙ is)

  by : (IsUnderWay k call old next × (is_answered (length old.place.frames) now.place next.place ≡ false)
      ⊎ (answer : Answer) × IsCalled k call old next answer × (is_answered (length old.place.frames) now.place next.place ≡ true)) →
      GoesOrAnswers k call old next (answer_since next.place before own)
  by (inl goes) = subst (GoesOrAnswers k call old next) (sym (told false goes.1)) goes.0
  by (inr ends) =
      let one : Answered = record { step = length ends.1.before.place.spots; word = ends.1.word; answer = ends.0 } in
      let last = ap (λ (l : List Answered). option_map (λ a. a.answer) (slice_get l (length l - 1))) ends.1.added in
      subst (GoesOrAnswers k call old next) (sym (told true ends.2 ∙ last ∙ last-of ends.1.before.place.answers one)) ends.1

-- a caller that lives is neither stopped nor dead
pub lives-both : (stopped dead : Bool) → (not stopped && not dead) ≡ true → (stopped ≡ false) × (dead ≡ false)
lives-both true dead lives = absurd (cc)
lives-both false true lives = absurd (cc)
lives-both false false lives = (refl, refl)
