-- Each step of a player adds one answer at most, that of its call.
use Rattle.std.proofs.Common.{◌≡◌, inl, inr, ℕ, ◌+◌, Option, Some, None, List, [], ◌∷◌, ◌++◌, length, refl, sym, ap, subst, ◌∙◌}
use Rattle.std.specs.List.{slice_get}
use Rattle.std.specs.Option.{option_map}
use Rattle.std.proofs.lemmas.List.{length_push}
use Rattle.std.proofs.lemmas.Option.{option_and_then_some}
use Rattle.zk_line.specs.Calls.{word_of}
use Rattle.zk_line.specs.Needs.{needs_of}
use Rattle.zk_model_bus.specs.declared.table.OopsWhy.{OopsWhy}
use Rattle.zk_scenario.specs.Content.{Content}
use Rattle.zk_scenario.specs.Players.{players, calls_of}
use Rattle.zk_words.specs.declared.word.Word.{Word}
use Rattle.zk_worker.specs.declared.answers.Answer.{Answer}
use Rattle.zk_worker.specs.declared.answers.Answer.TheVariants.{Oops}
use Rattle.zk_worker.specs.declared.answers.Answered.{Answered}
use Rattle.zk_worker.specs.declared.checks.Check.{Check}
use Rattle.zk_worker.specs.declared.frames.Frame.{Frame}
use Rattle.zk_worker.specs.declared.frames.Progress.{Progress}
use Rattle.zk_worker.specs.declared.frames.Progress.TheVariants.{Goes, Answers, Enters}
use Rattle.zk_worker.specs.declared.frames.Role.{Role}
use Rattle.zk_worker.specs.declared.frames.Role.TheVariants.{Script, Worker}
use Rattle.zk_worker.specs.declared.frames.Stage.{Stage}
use Rattle.zk_worker.specs.declared.frames.Stage.TheVariants.{Start}
use Rattle.zk_worker.specs.declared.steps.Spot.{Spot}
use Rattle.zk_worker.specs.declared.steps.Step.{Step}
use Rattle.zk_worker.specs.declared.steps.StepReply.{StepReply}
use Rattle.zk_player_laws.specs.AnswerLaws.{IsAnswerOf, AnswersOnce, AreAnsweredOnce, EachIsAnsweredOnce}
use Rattle.zk_worker.specs.Checks.{check_of, call_check, role_check, top_check, oops_in}
use Rattle.zk_worker.specs.Follows.{StepMade, IsPlayed}
use Rattle.zk_worker.specs.Places.{PlayerPlace}
use Rattle.zk_worker.specs.Protocol.{IsAhead, after, answers_after, checked, frames_attempts, frames_progress, moved, role_attempts, role_progress, spot_of, starting, start_at}
use Rattle.zk_player_laws.proofs.CallsPlayed.{OfCall, script-call, worker-answers}
use Rattle.zk_worker.proofs.CheckedSteps.{IsCheck, IsOwn, turn, check-of-top, after-spots}
use Rattle.zk_worker.proofs.ShownSteps.{made-of}
use Rattle.zk_worker.proofs.Starts.{start_at-fresh}

module _ (s : Content) (front : List StepMade) (at : PlayerPlace) (step : Step) (reply : StepReply) (many : length at.spots ≡ length front) where
  -- the answer of this step, in a call of this word
  abbrev told : Word → Answer → Answered
  told word answer = record { step = length at.spots; word = word; answer = answer }

  -- a check that fails answers its call
  call-of-check : (frames : List Frame) (check : Check) (answer : Answer) → top_check s at.passed frames ≡ Some check → IsAnswerOf s front frames (told check.word answer)
  call-of-check [] check answer is = absurd (cc)
  call-of-check (frame ∷ below) check answer is = by frame.role frame.stage refl refl is where
    by : (role : Role) (stage : Stage) → frame.role ≡ role → frame.stage ≡ stage → role_check s at.passed role frame.next stage ≡ Some check → IsAnswerOf s front (frame ∷ below) (told check.word answer)
    by (Script owner) Start role stage is =
        option_and_then_some (call_check at.passed) (slice_get (calls_of s.scripts owner) frame.next) check is (λ call there comes. record {
          owner = owner;
          next = frame.next;
          stage = Start;
          below = below;
          stood = ap (λ (r : Role). record { role = r; next = frame.next; stage = frame.stage } ∷ below) role
              ∙ ap (λ (t : Stage). record { role = Script owner; next = frame.next; stage = t } ∷ below) stage;
          call = call;
          is_call = there;
          is_step = many;
          is_word = ap (λ (c : Check). c.word) (sym (made-of (check_of call) (slice_get (needs_of call) at.passed) check comes).2);
        })
    by role stage is_role is_stage is = absurd (cc)

  -- so does another step
  call-of-own : (frames : List Frame) (index : ℕ) (word : Word) (answer : Answer) → slice_get (frames_attempts s frames) index ≡ Some step → frames_progress s frames step reply ≡ Answers word answer →
      IsAnswerOf s front frames (told word answer)
  call-of-own [] index word answer ahead comes = absurd (cc)
  call-of-own (frame ∷ below) index word answer ahead comes = by frame.role refl ahead comes where
    by : (role : Role) → frame.role ≡ role → slice_get (role_attempts s role frame.next frame.stage) index ≡ Some step → role_progress s role frame.next frame.stage step reply ≡ Answers word answer →
        IsAnswerOf s front (frame ∷ below) (told word answer)
    by (Worker queue) role ahead comes = absurd (worker-answers s.decls frame.stage reply word answer comes)
    by (Script owner) role ahead comes =
        let so = script-call s frame.stage (step, reply) index (slice_get (calls_of s.scripts owner) frame.next) ahead in
        record {
          owner = owner;
          next = frame.next;
          stage = frame.stage;
          below = below;
          stood = ap (λ (r : Role). record { role = r; next = frame.next; stage = frame.stage } ∷ below) role;
          call = so.0;
          is_call = so.1;
          is_step = many;
          is_word = subst (λ (p : Progress). OfCall (word_of so.0) p) comes so.2;
        }

  abbrev Once : PlayerPlace → Type 0
  Once now = AnswersOnce s front at.frames at.answers now.answers

  checked-once : (is : IsCheck s at step) (why : Option OopsWhy) → Once (checked at is.check.word why (spot_of step reply))
  checked-once is None = inl refl
  checked-once is (Some why) = inr (told is.check.word (Oops why), refl, call-of-check at.frames is.check (Oops why) (check-of-top s at.mode at.passed at.frames is.check is.comes))

  own-once : IsOwn s at step → Once (moved s at step (frames_progress s at.frames step reply) (spot_of step reply))
  own-once is = by (frames_progress s at.frames step reply) refl where
    by : (p : Progress) → frames_progress s at.frames step reply ≡ p → AnswersOnce s front at.frames at.answers (answers_after at.answers (length at.spots) p)
    by (Goes stage) comes = inl refl
    by (Enters owner stage) comes = inl refl
    by (Answers word answer) comes = inr (told word answer, refl, call-of-own at.frames is.index word answer is.ahead comes)

  step-once : IsAhead s at step → Once (after s at step reply)
  step-once ahead = turn Once s at step reply ahead (λ is. checked-once is (oops_in reply)) own-once

played-once : (s : Content) (made front : List StepMade) (at end : PlayerPlace) → length at.spots ≡ length front → IsPlayed s at made end → AreAnsweredOnce s front at made
played-once s [] front at end many led = tt
played-once s (m ∷ more) front at end many led =
    let longer : length (after s at m.0 m.1).spots ≡ length (front ++ m ∷ []) =
    ap (λ (l : List Spot). length l) (after-spots s at m.0 m.1).1 ∙ length_push at.spots (spot_of m.0 m.1) ∙ ap (λ (n : ℕ). n + 1) many ∙ sym (length_push front m) in
    (step-once s front at m.0 m.1 many led.0, played-once s more (front ++ m ∷ []) (after s at m.0 m.1) end longer led.1)

-- a player starts without answers
starts-unanswered : (s : Content) (number : ℕ) (at : PlayerPlace) → start_at s number ≡ Some at → at.answers ≡ []
starts-unanswered s number at is =
    let inner : ℕ → Option PlayerPlace = λ object. option_map (starting s number object) (slice_get s.decls object) in
    option_and_then_some inner (slice_get (players s.decls) number) at is (λ object found made.
    let decl = made-of (starting s number object) (slice_get s.decls object) at made in
    ap (λ (a : PlayerPlace). a.answers) (sym decl.2))

pub each_is_answered_once : EachIsAnsweredOnce
each_is_answered_once s number shown at is = (
  starts-unanswered s number is.start is.starts,
  played-once s is.made [] is.start at (ap (λ (l : List Spot). length l) (start_at-fresh s number is.start is.starts).none_made) is.played,
)
