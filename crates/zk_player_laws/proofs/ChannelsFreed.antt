-- A step that frees a channel ends a call that uses it.
use Rattle.std.proofs.Common.{◌≡◌, ℕ, true, false, ◌||◌, Option, Some, None, is_some, List, [], ◌∷◌, length, refl, sym, ap, subst, ◌∙◌, arith}
use Rattle.std.specs.List.{slice_get}
use Rattle.std.proofs.lemmas.List.Elements.{Contains-append_left, Contains-append_right}
use Rattle.zk_base.specs.declared.ids.Who.{Who}
use Rattle.zk_base.proofs.Lists.{slice_get-one}
use Rattle.zk_line.specs.Calls.{word_of}
use Rattle.zk_line.specs.declared.types.Call.{Call}
use Rattle.zk_line.specs.declared.types.Call.TheVariants as calls
use Rattle.zk_line.specs.declared.types.Decl.{Decl}
use Rattle.zk_line.specs.Objects.{number_of}
use Rattle.zk_model_bus.specs.declared.channel.ChanOp.TheVariants as ops
use Rattle.zk_model_work.specs.declared.ops.WorkOp.TheVariants as work_ops
use Rattle.zk_scenario.specs.Content.{Content}
use Rattle.zk_scenario.specs.Players.{calls_of}
use Rattle.zk_words.specs.declared.timeout.Timeout.{Timeout}
use Rattle.zk_words.specs.declared.word.Word.{Word}
use Rattle.zk_worker.specs.declared.answers.Answer.{Answer}
use Rattle.zk_worker.specs.declared.answers.Answer.TheVariants as answers
use Rattle.zk_worker.specs.declared.answers.Answered.{Answered}
use Rattle.zk_worker.specs.declared.frames.Frame.{Frame}
use Rattle.zk_worker.specs.declared.frames.Plan.{Plan}
use Rattle.zk_worker.specs.declared.frames.Plan.TheVariants as plans
use Rattle.zk_worker.specs.declared.frames.Progress.{Progress}
use Rattle.zk_worker.specs.declared.frames.Progress.TheVariants.{Goes, Answers, Enters}
use Rattle.zk_worker.specs.declared.frames.Role.{Role}
use Rattle.zk_worker.specs.declared.frames.Role.TheVariants.{Script, Worker}
use Rattle.zk_worker.specs.declared.frames.Stage.{Stage}
use Rattle.zk_worker.specs.declared.frames.Stage.TheVariants as stages
use Rattle.zk_worker.specs.declared.frames.Using.{Using}
use Rattle.zk_worker.specs.declared.frames.Using.TheVariants.{Publish, Notify, Read}
use Rattle.zk_worker.specs.declared.steps.Step.{Step}
use Rattle.zk_worker.specs.declared.steps.Step.TheVariants as steps
use Rattle.zk_worker.specs.declared.steps.StepReply.{StepReply}
use Rattle.zk_worker.specs.Calls.{plan_of, plan_attempts, plan_progress}
use Rattle.zk_worker.specs.Follows.{StepMade, IsPlayed}
use Rattle.zk_worker.specs.Places.{PlayerPlace}
use Rattle.zk_worker.specs.Protocol.{call_attempts, call_progress, role_attempts, role_progress, frames_attempts, frames_progress, answers_after, worker_attempts, after}
use Rattle.zk_worker.specs.Publishes.{asks_for, use_step, visits_answer, visit_progress, channel_attempts, channel_progress}
use Rattle.zk_player_laws.specs.StackLaws.{ChanHistories, IsReplied}
use Rattle.zk_player_laws.specs.VisitLaws.{used_chan, is_free, is_publish, is_read, IsAnswered}
use Rattle.zk_model_bus.specs.declared.table.OopsWhy.{OopsWhy}
use Rattle.zk_worker.specs.declared.answers.Answer.TheVariants.{Oops}
use Rattle.zk_worker.specs.declared.checks.Check.{Check}
use Rattle.zk_worker.specs.declared.steps.Spot.{Spot}
use Rattle.zk_worker.specs.Checks.{oops_in}
use Rattle.zk_worker.specs.Protocol.{after_by, checked, spot_of}
use Rattle.zk_worker.proofs.CheckedSteps.{check_at}
use Rattle.zk_player_laws.proofs.OtherCalls.{is_channel, uses-none, wait-calm, call-calm}
use Rattle.zk_player_laws.proofs.OwnEntries.{told-by}

-- a step that uses no channel frees none
calm-frees : (step : Step) (reply : StepReply) → is_some (used_chan step) ≡ false → is_free (step, reply) ≡ false
calm-frees (steps.Chan chan ops.Free) reply calm = absurd (cc)
calm-frees step reply calm = refl

use-frees : (chan : ℕ) (u : Using) (reply : StepReply) → is_free (use_step chan u, reply) ≡ false
use-frees chan (Publish message) reply = refl
use-frees chan Notify reply = refl
use-frees chan Read reply = refl

-- a call of this word is answered
abbrev pub AnswersSo : Word → Progress → Type 0
AnswersSo word progress = (answer : Answer) × (progress ≡ Answers word answer)

-- no step but this one is made, and it frees no channel
frees-not : {A : Type 0} (only step : Step) (k : ℕ) (reply : StepReply) → is_free (only, reply) ≡ false → slice_get (only ∷ []) k ≡ Some step → is_free (step, reply) ≡ true → A
frees-not only step k reply isnt there is =
    let one = subst (λ (x : Step). is_free (x, reply) ≡ false) (slice_get-one only step k there) isnt in absurd (cc)

module _ (s : Content) (chans : ChanHistories) (who : Who) (word : Word) where
  channel-frees : (chan : ℕ) (u : Using) (timeout : Timeout) (stage : Stage) (k : ℕ) (step : Step) (reply : StepReply) → slice_get (channel_attempts chan u timeout stage) k ≡ Some step →
      is_free (step, reply) ≡ true → IsReplied s chans who step reply → AnswersSo word (channel_progress word stage reply)
  channel-frees chan u timeout stages.Holds k step reply there is replied = frees-not (use_step chan u) step k reply (use-frees chan u reply) there is
  channel-frees chan u timeout (stages.Visits [] full) k step reply there is replied =
      told-by s chans who chan ops.Free (λ (x : StepReply). AnswersSo word (visit_progress word [] full x)) (λ r place had. (visits_answer full, refl)) reply
      (subst (λ (x : Step). IsReplied s chans who x reply) (sym (slice_get-one (steps.Chan chan ops.Free) step k there)) replied)
  channel-frees chan u timeout (stages.Visits (observer ∷ left) full) k step reply there is replied = frees-not _ step k reply refl there is
  channel-frees chan u timeout (stages.Reads message) k step reply there is replied = (answers.Bytes message, refl)
  channel-frees chan u timeout stage k step reply there is replied =
      let isnt = calm-frees step reply (uses-none step (wait-calm (asks_for chan u) timeout stage k step there)) in absurd (cc)

-- the words of calls that use a channel
pub channel-word : (decls : List Decl) (call : Call) → is_channel (plan_of decls call) ≡ true → (is_publish (word_of call) || is_read (word_of call)) ≡ true
channel-word decls (calls.Publish channel message timeout) is = refl
channel-word decls (calls.Notify channel timeout) is = refl
channel-word decls (calls.Read channel timeout) is = refl
channel-word decls call is = absurd (cc)

-- such a call is answered
abbrev pub Ends : Progress → Type 0
Ends progress = (word : Word) × (answer : Answer) × (progress ≡ Answers word answer) × ((is_publish word || is_read word) ≡ true)

module _ (s : Content) (chans : ChanHistories) (who : Who) (step : Step) (reply : StepReply) (is : is_free (step, reply) ≡ true) (replied : IsReplied s chans who step reply) where
  plan-frees : (call : Call) (plan : Plan) → plan_of s.decls call ≡ plan → (stage : Stage) (k : ℕ) → slice_get (plan_attempts (plan_of s.decls call) stage) k ≡ Some step →
      Ends (plan_progress (word_of call) (plan_of s.decls call) stage step reply)
  plan-frees call (plans.Channel chan u timeout) so stage k there =
      let word = channel-word s.decls call (ap is_channel so) in
      subst (λ (p : Plan). Ends (plan_progress (word_of call) p stage step reply)) (sym so)
      (let ends = channel-frees s chans who (word_of call) chan u timeout stage k step reply (sym (ap (λ (p : Plan). slice_get (plan_attempts p stage) k) so) ∙ there) is replied in
      (word_of call, ends.0, ends.1, word))
  plan-frees call plan so stage k there =
      let isnt = calm-frees step reply (uses-none step (call-calm s.decls call stage k step (ap is_channel so) there)) in absurd (cc)

  call-frees : (call : Option Call) (stage : Stage) (k : ℕ) → slice_get (call_attempts s.decls call stage) k ≡ Some step → Ends (call_progress s.decls call stage step reply)
  call-frees None stage k there = absurd (cc)
  call-frees (Some call) stage k there = plan-frees call (plan_of s.decls call) refl stage k there

  worker-frees : {A : Type 0} (queue : ℕ) (stage : Stage) (k : ℕ) → slice_get (worker_attempts queue stage) k ≡ Some step → A
  worker-frees queue stages.Start k there = frees-not (steps.Work (work_ops.Begin queue)) step k reply refl there is
  worker-frees queue stages.Runs k there = frees-not (steps.Work (work_ops.End queue)) step k reply refl there is
  worker-frees queue stage k there = absurd (cc)

  role-frees : (role : Role) (next : ℕ) (stage : Stage) (k : ℕ) → slice_get (role_attempts s role next stage) k ≡ Some step → Ends (role_progress s role next stage step reply)
  role-frees (Script owner) next stage k there = call-frees (slice_get (calls_of s.scripts owner) next) stage k there
  role-frees (Worker queue) next stage k there = worker-frees (number_of s.decls queue) stage k there

  frames-free : (frames : List Frame) (k : ℕ) → slice_get (frames_attempts s frames) k ≡ Some step → Ends (frames_progress s frames step reply)
  frames-free [] k there = absurd (cc)
  frames-free (frame ∷ below) k there = role-frees frame.role frame.next frame.stage k there

  -- where a step frees a channel such a call is answered
  pub free-answers : (frames : List Frame) (k : ℕ) (answers : List Answered) (number : ℕ) → slice_get (frames_attempts s frames) k ≡ Some step →
      IsAnswered (answers_after answers number (frames_progress s frames step reply)) number
  free-answers frames k answers number there =
      let ends = frames-free frames k there in
      let new : Answered = record { step = number; word = ends.0; answer = ends.1 } in
      subst (λ (p : Progress). IsAnswered (answers_after answers number p) number) (sym ends.2) (record {
        answered = new;
        is_there = Contains-append_right answers (new ∷ []) new (0, omega arith, refl);
        is_step = refl;
        is_word = ends.3;
      })

-- What is answered stays answered.

after-still : (answers : List Answered) (number : ℕ) (progress : Progress) (n : ℕ) → IsAnswered answers n → IsAnswered (answers_after answers number progress) n
after-still answers number (Answers word answer) n was = record {
  answered = was.answered;
  is_there = Contains-append_left answers (record { step = number; word = word; answer = answer } ∷ []) was.answered was.is_there;
  is_step = was.is_step;
  is_word = was.is_word;
}
after-still answers number (Goes stage) n was = was
after-still answers number (Enters owner stage) n was = was

answered-more : (s : Content) (at : PlayerPlace) (step : Step) (reply : StepReply) (n : ℕ) → IsAnswered at.answers n → IsAnswered (after s at step reply).answers n
answered-more s at step reply n was = by (check_at s at) where
  by_why : (word : Word) (why : Option OopsWhy) (spot : Spot) → IsAnswered (checked at word why spot).answers n
  by_why word None spot = was
  by_why word (Some why) spot = after-still at.answers (length at.spots) (Answers word (Oops why)) n was

  by : (check : Option Check) → IsAnswered (after_by s at step reply check).answers n
  by (Some check) = by_why check.word (oops_in reply) (spot_of step reply)
  by None = after-still at.answers (length at.spots) (frames_progress s at.frames step reply) n was

pub answered-still : (s : Content) (at end : PlayerPlace) (made : List StepMade) (n : ℕ) → IsPlayed s at made end → IsAnswered at.answers n → IsAnswered end.answers n
answered-still s at end [] n plays was = subst (λ (x : PlayerPlace). IsAnswered x.answers n) plays was
answered-still s at end (made ∷ more) n plays was =
    answered-still s (after s at made.0 made.1) end more n plays.1 (answered-more s at made.0 made.1 n was)
