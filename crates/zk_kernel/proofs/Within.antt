-- A player within a call: the call's script stands at it still, below the scripts that it entered.
use Rattle.std.proofs.Common.{◌≡◌, ◌⊎◌, inl, inr, ℕ, ◌+◌, Bool, true, false, cond, ◌&&◌, ◌||◌, nat_lt, nat_le, Option, Some, None, is_some, List, [], ◌∷◌, ◌++◌, length, refl, sym, ap, subst, ◌∙◌, arith}
use Rattle.std.specs.Option.{option_map, option_and_then}
use Rattle.std.specs.List.{slice_get}
use Rattle.std.proofs.lemmas.Bool.{le-ltb, lt-ltb, lt-leb, le-leb}
use Rattle.std.proofs.lemmas.List.{length_push, length-append}
use Rattle.std.proofs.lemmas.Option.{slice_get_within}
use Rattle.zk_line.specs.declared.needs.Needed.{Needed}
use Rattle.zk_line.specs.declared.types.Call.{Call}
use Rattle.zk_line.specs.Calls.{word_of}
use Rattle.zk_line.specs.Needs.{needs_of}
use Rattle.zk_model_bus.specs.declared.table.OopsWhy.{OopsWhy}
use Rattle.zk_model_bus.specs.declared.table.TableOp.TheVariants as table_ops
use Rattle.zk_scenario.specs.Content.{Content}
use Rattle.zk_scenario.specs.Players.{calls_of}
use Rattle.zk_words.specs.declared.word.Word.{Word}
use Rattle.zk_worker.specs.declared.answers.Answer.{Answer}
use Rattle.zk_worker.specs.declared.answers.Answer.TheVariants.{Oops}
use Rattle.zk_worker.specs.declared.answers.Answered.{Answered}
use Rattle.zk_worker.specs.declared.checks.Check.{Check}
use Rattle.zk_worker.specs.declared.checks.Mode.{Mode}
use Rattle.zk_worker.specs.declared.frames.Frame.{Frame}
use Rattle.zk_worker.specs.declared.frames.Progress.{Progress}
use Rattle.zk_worker.specs.declared.frames.Progress.TheVariants.{Goes, Answers, Enters}
use Rattle.zk_worker.specs.declared.frames.Role.{Role}
use Rattle.zk_worker.specs.declared.frames.Role.TheVariants.{Script}
use Rattle.zk_worker.specs.declared.frames.Stage.{Stage}
use Rattle.zk_worker.specs.declared.frames.Stage.TheVariants.{Start}
use Rattle.zk_worker.specs.declared.frames.TheConstants.{MOST_FRAMES}
use Rattle.zk_worker.specs.declared.steps.Spot.{Spot}
use Rattle.zk_worker.specs.declared.steps.Step.{Step}
use Rattle.zk_worker.specs.declared.steps.Step.TheVariants as steps
use Rattle.zk_worker.specs.declared.steps.StepReply.{StepReply}
use Rattle.zk_worker.specs.Calls.{plan_of}
use Rattle.zk_worker.specs.Checks.{check_of, call_check, role_check, top_check, mode_after, oops_in, is_oops}
use Rattle.zk_worker.specs.Follows.{is_dead}
use Rattle.zk_worker.specs.Places.{PlayerPlace}
use Rattle.zk_worker.specs.Protocol.{IsAhead, after, checked, moved, call_progress, role_progress, frames_progress, is_over, settled, entered, first_frame, frames_after, answers_after, spot_of}
use Rattle.zk_worker.specs.Ranges.{is_start}
use Rattle.zk_worker.proofs.CheckedSteps.{check_at, turn, check-of-top, check-starts}
use Rattle.zk_kernel.specs.Calling.{is_answered, is_checking}
use Rattle.zk_kernel.specs.Within.{IsCallOf, IsWithin}
use Rattle.zk_kernel.proofs.Progresses.{GoesOn, plan-on}

-- it is within the call after a step too, which hasn't answered it; where the call is at its beginning still, the step was a check
pub record Stays (s : Content) (frame : Frame) (below : List Frame) (stage : Stage) (at at' : PlayerPlace) : Type 0 where
  pub within : IsWithin frame below at'
  pub none : is_answered (length (frame ∷ below)) at at' ≡ false
  pub checking : is_start within.stage ≡ true → (is_start stage ≡ true) × (is_checking s at ≡ true)

-- a step has answered the call
pub record Ends (s : Content) (frame : Frame) (below : List Frame) (call : Call) (stage : Stage) (at at' : PlayerPlace) : Type 0 where
  pub told : is_answered (length (frame ∷ below)) at at' ≡ true
  pub word : Word
  pub answer : Answer
  pub added : at'.answers ≡ at.answers ++ record { step = length at.spots; word = word; answer = answer } ∷ []
  pub own : nat_le (length at.frames) (length (frame ∷ below)) ≡ true → word ≡ word_of call
  pub dead : is_dead at'.mode ≡ is_oops answer
  pub checks : is_oops answer ≡ true → nat_le (length at.frames) (length (frame ∷ below)) ≡ true → (is_start stage ≡ true) × (is_checking s at ≡ true)

and-false : (b c : Bool) → c ≡ false → (b && c) ≡ false
and-false true c is = is
and-false false c is = refl

or-false : (b c : Bool) → b ≡ false → c ≡ false → (b || c) ≡ false
or-false true c is or = is
or-false false c is or = or

or-true : (b : Bool) → (b || true) ≡ true
or-true true = refl
or-true false = refl

-- a script that stands at a call isn't over
still-open : (s : Content) (frame : Frame) (call : Call) → IsCallOf s frame call → is_over s frame.role frame.next ≡ false
still-open s frame call is =
    ap (λ (r : Role). is_over s r frame.next) is.script
    ∙ lt-leb (length (calls_of s.scripts is.owner)) frame.next (slice_get_within (calls_of s.scripts is.owner) frame.next call is.there)

-- these frames end with the call's and what is below it
record Ending (frame : Frame) (below frames : List Frame) (stage : Stage) : Type 0 where
  kept : List Frame
  are : frames ≡ kept ++ record frame { stage = stage } ∷ below

-- what is over above the call is left, and the call isn't
settled-ending : (s : Content) (frame : Frame) (call : Call) (below : List Frame) (stage : Stage) → IsCallOf s frame call → (inner : List Frame) →
    Ending frame below (settled s (inner ++ record frame { stage = stage } ∷ below)) stage
settled-ending s frame call below stage is [] =
    let here = record frame { stage = stage } in
    record { kept = []; are = ap (λ (b : Bool). cond b (settled s below) (here ∷ below)) (still-open s frame call is) }
settled-ending s frame call below stage is (first ∷ inner) = by (is_over s first.role first.next) (settled-ending s frame call below stage is inner) where
  by : (b : Bool) → Ending frame below (settled s (inner ++ record frame { stage = stage } ∷ below)) stage →
      Ending frame below (cond b (settled s (inner ++ record frame { stage = stage } ∷ below)) (first ∷ inner ++ record frame { stage = stage } ∷ below)) stage
  by true rest = rest
  by false rest = record { kept = first ∷ inner; are = refl }

entered-ending : (frame : Frame) (below : List Frame) (stage : Stage) (owner : ℕ) (inner : List Frame) →
    Ending frame below (entered (inner ++ record frame { stage = stage } ∷ below) owner) stage
entered-ending frame below stage owner inner = by (nat_lt (length (inner ++ record frame { stage = stage } ∷ below)) MOST_FRAMES) where
  by : (b : Bool) → Ending frame below (cond b (first_frame (Script owner) ∷ inner ++ record frame { stage = stage } ∷ below) (inner ++ record frame { stage = stage } ∷ below)) stage
  by true = record { kept = first_frame (Script owner) ∷ inner; are = refl }
  by false = record { kept = inner; are = refl }

enters-ending : (s : Content) (frame : Frame) (call : Call) (below : List Frame) (stage : Stage) (owner : ℕ) → IsCallOf s frame call → (inner : List Frame) →
    Ending frame below (settled s (entered (inner ++ record frame { stage = stage } ∷ below) owner)) stage
enters-ending s frame call below stage owner is inner =
    let more = entered-ending frame below stage owner inner in
    subst (λ (f : List Frame). Ending frame below (settled s f) stage) (sym more.are) (settled-ending s frame call below stage is more.kept)

-- a step of a script that the call entered leaves the call where it is
inner-ending : (s : Content) (frame : Frame) (call : Call) (below : List Frame) (stage : Stage) → IsCallOf s frame call → (first : Frame) (inner : List Frame) (progress : Progress) →
    Ending frame below (frames_after s (first ∷ inner ++ record frame { stage = stage } ∷ below) progress) stage
inner-ending s frame call below stage is first inner (Goes next) = record { kept = record first { stage = next } ∷ inner; are = refl }
inner-ending s frame call below stage is first inner (Answers word answer) =
    settled-ending s frame call below stage is (record first { next = first.next + 1; stage = Start } ∷ inner)
inner-ending s frame call below stage is first inner (Enters owner next) =
    enters-ending s frame call below stage owner is (record first { stage = next } ∷ inner)

-- a step of the call itself is the call's
own-progress : (s : Content) (frame : Frame) (call : Call) (below : List Frame) (stage : Stage) (made : Step) (reply : StepReply) → IsCallOf s frame call →
    GoesOn (word_of call) (frames_progress s (record frame { stage = stage } ∷ below) made reply)
own-progress s frame call below stage made reply is =
    let on = plan-on (word_of call) (plan_of s.decls call) stage made reply in
    let at_call = subst (λ (c : Option Call). GoesOn (word_of call) (call_progress s.decls c stage made reply)) (sym is.there) on in
    subst (λ (r : Role). GoesOn (word_of call) (role_progress s r frame.next stage made reply)) (sym is.script) at_call

lives-on : (mode : Mode) (made : Step) → is_dead mode ≡ false → is_dead (mode_after mode made) ≡ false
lives-on mode (steps.Table table_ops.EnterUser) lives = refl
lives-on mode made lives = lives

-- no answer came
pub none-came : (depth : ℕ) (old new : PlayerPlace) → new.answers ≡ old.answers → is_answered depth old new ≡ false
none-came depth old new same =
    let none = ap (λ (a : List Answered). nat_lt (length old.answers) (length a)) same ∙ le-ltb (length old.answers) (length old.answers) (omega arith) in
    ap (λ (b : Bool). b && (nat_le (length old.frames) depth || is_dead new.mode)) none

one-came : (old : List Answered) (answered : Answered) → nat_lt (length old) (length (old ++ answered ∷ [])) ≡ true
one-came old answered = lt-ltb (length old) (length (old ++ answered ∷ [])) (omega (arith, length_push old answered))

-- more is open than at the beginning of the call
deeper : (frame : Frame) (below : List Frame) (stage : Stage) (first : Frame) (inner : List Frame) → nat_le (length (first ∷ inner ++ record frame { stage = stage } ∷ below)) (length (frame ∷ below)) ≡ false
deeper frame below stage first inner =
    lt-leb (length (first ∷ inner ++ record frame { stage = stage } ∷ below)) (length (frame ∷ below)) (omega (arith, length-append inner (record frame { stage = stage } ∷ below)))

-- what the check of a call asks is told under the word of the call
check-word : (s : Content) (passed : ℕ) (frame : Frame) (call : Call) (stage : Stage) (check : Check) → IsCallOf s frame call → role_check s passed frame.role frame.next stage ≡ Some check →
    (check.word ≡ word_of call) × (stage ≡ Start)
check-word s passed frame call stage check is comes =
    (by_stage stage start (subst (λ (r : Role). role_check s passed r frame.next stage ≡ Some check) is.script comes), start)
  where
    start : stage ≡ Start
    start = check-starts s passed frame.role frame.next stage check comes

    by_need : (needed : Option Needed) → option_map (check_of call) needed ≡ Some check → check.word ≡ word_of call
    by_need None is = absurd (cc)
    by_need (Some needed) is =
        let same : check_of call needed ≡ check = cc in
        ap (λ (c : Check). c.word) (sym same)

    by_stage : (stage : Stage) → stage ≡ Start → role_check s passed (Script is.owner) frame.next stage ≡ Some check → check.word ≡ word_of call
    by_stage Start same comes =
        by_need (slice_get (needs_of call) passed) (ap (λ (c : Option Call). option_and_then (call_check passed) c) (sym is.there) ∙ comes)
    by_stage stage same comes = absurd (cc)

-- a step that was a check
check-steps : (s : Content) (frame : Frame) (call : Call) (below : List Frame) (at : PlayerPlace) (w : IsWithin frame below at) (check : Check) (why : Option OopsWhy) (spot : Spot) → IsCallOf s frame call →
    check_at s at ≡ Some check → Stays s frame below w.stage at (checked at check.word why spot) ⊎ Ends s frame below call w.stage at (checked at check.word why spot)
check-steps s frame call below at w check None spot is comes = inl (record {
  within = record { inner = w.inner; stage = w.stage; stands = w.stands; lives = w.lives; fresh = w.fresh };
  none = none-came (length (frame ∷ below)) at (checked at check.word None spot) refl;
  checking = λ start. (start, ap (λ (c : Option Check). is_some c) comes);
})
check-steps s frame call below at w check (Some why) spot is comes = inr (record {
  told = ap (λ (b : Bool). b && (nat_le (length at.frames) (length (frame ∷ below)) || true)) (one-came at.answers (record { step = length at.spots; word = check.word; answer = Oops why }))
      ∙ or-true (nat_le (length at.frames) (length (frame ∷ below)));
  word = check.word;
  answer = Oops why;
  added = refl;
  own = λ few. (by w.inner w.stands few).0;
  dead = refl;
  checks = λ oops few. (ap is_start (by w.inner w.stands few).1, ap (λ (c : Option Check). is_some c) comes);
}) where
  by : (inner : List Frame) → at.frames ≡ inner ++ record frame { stage = w.stage } ∷ below → nat_le (length at.frames) (length (frame ∷ below)) ≡ true → (check.word ≡ word_of call) × (w.stage ≡ Start)
  by [] stands few = check-word s at.passed frame call w.stage check is
      (ap (λ (f : List Frame). top_check s at.passed f) (sym stands) ∙ check-of-top s at.mode at.passed at.frames check comes)
  by (first ∷ inner) stands few = absurd (
      let more = ap (λ (f : List Frame). nat_le (length f) (length (frame ∷ below))) stands ∙ deeper frame below w.stage first inner in
      let never = sym more ∙ few in cc)

-- a step that was none, where a script is open that the call entered
inner-steps : (s : Content) (frame : Frame) (call : Call) (below : List Frame) (at : PlayerPlace) (w : IsWithin frame below at) (made : Step) (progress : Progress) (spot : Spot) (first : Frame) (inner : List Frame) → IsCallOf s frame call →
    w.inner ≡ first ∷ inner → Stays s frame below w.stage at (moved s at made progress spot)
inner-steps s frame call below at w made progress spot first inner is same =
    let stands = w.stands ∙ ap (λ (i : List Frame). i ++ record frame { stage = w.stage } ∷ below) same in
    let more = inner-ending s frame call below w.stage is first inner progress in
    let lives = lives-on at.mode made w.lives in
    let behind : is_start w.stage ≡ false = no-start (is_start w.stage) w.fresh in
    record {
      within = record {
        inner = more.kept;
        stage = w.stage;
        stands = ap (λ (f : List Frame). frames_after s f progress) stands ∙ more.are;
        lives = lives;
        fresh = λ start. absurd (let never = sym behind ∙ start in cc);
      };
      none = and-false (nat_lt (length at.answers) (length (answers_after at.answers (length at.spots) progress))) (nat_le (length at.frames) (length (frame ∷ below)) || is_dead (mode_after at.mode made))
          (or-false (nat_le (length at.frames) (length (frame ∷ below))) (is_dead (mode_after at.mode made))
          (ap (λ (f : List Frame). nat_le (length f) (length (frame ∷ below))) stands ∙ deeper frame below w.stage first inner) lives);
      checking = λ start. absurd (let never = sym behind ∙ start in cc);
    }
  where
    no-start : (b : Bool) → (b ≡ true → w.inner ≡ []) → b ≡ false
    no-start true fresh = absurd (let never = sym same ∙ fresh refl in cc)
    no-start false fresh = refl

-- a step that was none, of the call itself
own-steps : (s : Content) (frame : Frame) (call : Call) (below : List Frame) (at : PlayerPlace) (w : IsWithin frame below at) (made : Step) (progress : Progress) (spot : Spot) → IsCallOf s frame call →
    at.frames ≡ record frame { stage = w.stage } ∷ below → GoesOn (word_of call) progress →
    Stays s frame below w.stage at (moved s at made progress spot) ⊎ Ends s frame below call w.stage at (moved s at made progress spot)
own-steps s frame call below at w made (Goes stage) spot is stands on = inl (record {
  within = record {
    inner = [];
    stage = stage;
    stands = ap (λ (f : List Frame). frames_after s f (Goes stage)) stands;
    lives = lives-on at.mode made w.lives;
    fresh = λ start. refl;
  };
  none = none-came (length (frame ∷ below)) at (moved s at made (Goes stage) spot) refl;
  checking = λ start. absurd (let never = sym on ∙ start in cc);
})
own-steps s frame call below at w made (Enters owner stage) spot is stands on =
    let more = enters-ending s frame call below stage owner is [] in
    inl (record {
      within = record {
        inner = more.kept;
        stage = stage;
        stands = ap (λ (f : List Frame). frames_after s f (Enters owner stage)) stands ∙ more.are;
        lives = lives-on at.mode made w.lives;
        fresh = λ start. absurd (let never = sym on ∙ start in cc);
      };
      none = none-came (length (frame ∷ below)) at (moved s at made (Enters owner stage) spot) refl;
      checking = λ start. absurd (let never = sym on ∙ start in cc);
    })
own-steps s frame call below at w made (Answers word answer) spot is stands on = inr (record {
  told = ap (λ (b : Bool). b && (nat_le (length at.frames) (length (frame ∷ below)) || is_dead (mode_after at.mode made))) (one-came at.answers (record { step = length at.spots; word = word; answer = answer }))
      ∙ ap (λ (b : Bool). b || is_dead (mode_after at.mode made)) (le-leb (length at.frames) (length (frame ∷ below)) (let same = ap (λ (f : List Frame). length f) stands in omega (arith, same)));
  word = word;
  answer = answer;
  added = refl;
  own = λ few. on.0;
  dead = lives-on at.mode made w.lives ∙ sym on.1;
  checks = λ oops few. absurd (let never = sym on.1 ∙ oops in cc);
})

-- a player within a call is within it after its next step, or the step has answered it
pub within-steps : (s : Content) (frame : Frame) (call : Call) (below : List Frame) (at : PlayerPlace) (w : IsWithin frame below at) (step : Step) (reply : StepReply) → IsCallOf s frame call →
    IsAhead s at step → Stays s frame below w.stage at (after s at step reply) ⊎ Ends s frame below call w.stage at (after s at step reply)
within-steps s frame call below at w step reply is ahead =
    turn (λ (next : PlayerPlace). Stays s frame below w.stage at next ⊎ Ends s frame below call w.stage at next) s at step reply ahead
    (λ check. check-steps s frame call below at w check.check (oops_in reply) (spot_of step reply) is check.comes)
    (λ own. by w.inner refl)
  where
    progress : Progress
    progress = frames_progress s at.frames step reply

    by : (inner : List Frame) → w.inner ≡ inner → Stays s frame below w.stage at (moved s at step progress (spot_of step reply)) ⊎ Ends s frame below call w.stage at (moved s at step progress (spot_of step reply))
    by [] same =
        let stands = w.stands ∙ ap (λ (i : List Frame). i ++ record frame { stage = w.stage } ∷ below) same in
        own-steps s frame call below at w step progress (spot_of step reply) is stands
        (subst (λ (f : List Frame). GoesOn (word_of call) (frames_progress s f step reply)) (sym stands) (own-progress s frame call below w.stage step reply is))
    by (first ∷ inner) same = inl (inner-steps s frame call below at w step progress (spot_of step reply) first inner is same)
