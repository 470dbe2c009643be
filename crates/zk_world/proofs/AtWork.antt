-- The worker of a queue works at it where it starts, as others play, and after each step of its own.
use Rattle.std.proofs.Common.{◌≡◌, ◌≢◌, ℕ, ◌+◌, Bool, true, false, cond, Some, List, [], ◌∷◌, ◌++◌, length, All, eq-eqb, refl, sym, ap, subst, ◌∙◌}
use Rattle.std.proofs.lemmas.Bool.{ne_eqb}
use Rattle.std.proofs.lemmas.List.Elements.{All-head, All-tail}
use Rattle.zk_base.specs.declared.ids.Who.{Who}
use Rattle.zk_base.specs.declared.ids.Entry.{Entry}
use Rattle.zk_base.specs.History.{entry}
use Rattle.zk_base.specs.Legal.{state_after}
use Rattle.zk_line.specs.Objects.{places, is_thread}
use Rattle.zk_model_work.specs.declared.ops.WorkOp.{WorkOp}
use Rattle.zk_model_work.specs.declared.ops.WorkReply.{WorkReply}
use Rattle.zk_model_work.specs.State.{State}
use Rattle.zk_model_work.specs.Machine.{work_machine, work_reply}
use Rattle.zk_scenario.specs.Content.{Content}
use Rattle.zk_scenario.specs.Valid.{IsValid}
use Rattle.zk_worker.specs.declared.steps.Step.{Step}
use Rattle.zk_worker.specs.declared.steps.Step.TheVariants as steps
use Rattle.zk_worker.specs.declared.steps.StepReply.{StepReply}
use Rattle.zk_worker.specs.declared.steps.StepReply.TheVariants as step_replies
use Rattle.zk_worker.specs.Attempt.{reply_in}
use Rattle.zk_worker.specs.Machines.{machines_of, work_start_of}
use Rattle.zk_worker.specs.Places.{PlayerPlace}
use Rattle.zk_worker.specs.Protocol.{IsAhead, frames_progress, start_at, after}
use Rattle.zk_worker.specs.Ranges.{IsFit}
use Rattle.zk_worker.specs.Shown.{Shown, nothing_shown, shown_after, OnlyOthersCame}
use Rattle.zk_worker.specs.Single.{OthersGrew}
use Rattle.zk_worker.proofs.CheckedSteps.{after-spots}
use Rattle.zk_worker.proofs.Replied.{replied-fits}
use Rattle.zk_worker.proofs.ShownSteps.{made-of}
use Rattle.zk_worker.proofs.StageFits.{ProgressFits, frames_progress-fits}
use Rattle.zk_worker.proofs.Starts.{start_at-fresh}
use Rattle.zk_world.specs.Tending.{begun_by, begun_after, begun_from, has_begun, Works, IsAtWork}
use Rattle.zk_world.proofs.Tending.{IsElsewhere, tends-own, tends-elsewhere, works-on, start-tends}

module _ (number : ℕ) where
  begun-append : (before : Bool) (h more : List (Entry WorkOp WorkReply)) → begun_from number before (h ++ more) ≡ begun_from number (begun_from number before h) more
  begun-append before [] more = refl
  begun-append before (e ∷ h) more = begun-append (begun_after number before e) h more

  -- with one entry more
  pub begun-snoc : (h : List (Entry WorkOp WorkReply)) (e : Entry WorkOp WorkReply) → has_begun number (h ++ e ∷ []) ≡ begun_after number (has_begun number h) e
  begun-snoc h e = begun-append false h (e ∷ [])

  -- an entry of the player itself
  pub begun-own : (before : Bool) (e : Entry WorkOp WorkReply) → e.who.number ≡ number → begun_after number before e ≡ begun_by e.op before
  begun-own before e mine = ap (λ b. cond b (begun_by e.op before) before) (eq-eqb e.who.number number mine)

  -- another's entry leaves it as it was
  pub begun-other : (before : Bool) (e : Entry WorkOp WorkReply) → e.who.number ≢ number → begun_after number before e ≡ before
  begun-other before e other = ap (λ b. cond b (begun_by e.op before) before) (ne_eqb e.who.number number other)

  begun-others : (before : Bool) (h : List (Entry WorkOp WorkReply)) → All (λ e. e.who.number ≢ number) h → begun_from number before h ≡ before
  begun-others before [] others = refl
  begun-others before (e ∷ h) others =
      let Other : Entry WorkOp WorkReply → Type 0 = λ e. e.who.number ≢ number in
      begun-others (begun_after number before e) h (All-tail Other e h others) ∙ begun-other before e (All-head Other e h others)

  begun-grew : (old new : List (Entry WorkOp WorkReply)) → OthersGrew number old new → has_begun number new ≡ has_begun number old
  begun-grew old new grew =
      ap (has_begun number) grew.longer ∙ begun-append false old grew.more ∙ begun-others (has_begun number old) grew.more grew.others

  -- and so do all that come from others
  begun-between : (alone : Bool) (old new : Shown) → OnlyOthersCame alone number old new → has_begun number new.work ≡ has_begun number old.work
  begun-between true old new came = ap (λ (x : Shown). has_begun number x.work) came
  begun-between false old new came = begun-grew old.work new.work came.work

-- a step at another service leaves the work service as it is
work-stays : (shown : Shown) (who : Who) (number : ℕ) (step : Step) (reply : StepReply) → IsElsewhere step → (shown_after shown who number step reply).work ≡ shown.work
work-stays shown who number (steps.Work op) reply elsewhere = absurd elsewhere
work-stays shown who number (steps.Clock op) (step_replies.Clock reply place) elsewhere = refl
work-stays shown who number (steps.Table op) (step_replies.Table reply place) elsewhere = refl
work-stays shown who number (steps.Sem object op) (step_replies.Sem at reply place) elsewhere = refl
work-stays shown who number (steps.Msgq object op) (step_replies.Msgq at reply place) elsewhere = refl
work-stays shown who number (steps.Signal object op) (step_replies.Signal at reply place) elsewhere = refl
work-stays shown who number (steps.Chan object op) (step_replies.Chan at reply place) elsewhere = refl
work-stays shown who number (steps.Obs object op) (step_replies.Obs at reply place) elsewhere = refl
work-stays shown who number (steps.LookItem object) (step_replies.Flags flags at) elsewhere = refl
work-stays shown who number step reply elsewhere = refl

-- a step of another player leaves it as it was
begun-after_other : (number : ℕ) (shown : Shown) (who : Who) (count : ℕ) (step : Step) (reply : StepReply) → who.number ≢ number →
    has_begun number (shown_after shown who count step reply).work ≡ has_begun number shown.work
begun-after_other number shown who count (steps.Work op) (step_replies.Work reply place) other =
    let e = entry who count op reply in begun-snoc number shown.work e ∙ begun-other number (has_begun number shown.work) e other
begun-after_other number shown who count (steps.Work op) reply other = refl
begun-after_other number shown who count step reply other = ap (has_begun number) (work-stays shown who count step reply tt)

-- it works where it starts, as long as nothing is shown
pub at-work-first : (s : Content) (number : ℕ) (shown : Shown) (at : PlayerPlace) → shown ≡ nothing_shown s.decls → start_at s number ≡ Some at → IsAtWork s shown at
at-work-first s number shown at nothing is queue within mine =
    let same : number ≡ length (places is_thread s.decls) + queue = sym (start_at-fresh s number at is).number_is ∙ mine in
    subst (λ (b : Bool). Works s.decls queue at b) (sym (ap (λ (x : Shown). has_begun at.who.number x.work) nothing))
    (start-tends s queue at (ap (start_at s) (sym same) ∙ is))

-- it does so still as others' entries come
pub at-work-still : (alone : Bool) (s : Content) (at : PlayerPlace) (old new : Shown) → OnlyOthersCame alone at.who.number old new → IsAtWork s old at → IsAtWork s new at
at-work-still alone s at old new came works queue within mine =
    subst (λ (b : Bool). Works s.decls queue at b) (sym (begun-between at.who.number alone old new came)) (works queue within mine)

-- and after a step of another
pub at-work-beside : (s : Content) (at : PlayerPlace) (shown : Shown) (who : Who) (count : ℕ) (step : Step) (reply : StepReply) → who.number ≢ at.who.number →
    IsAtWork s shown at → IsAtWork s (shown_after shown who count step reply) at
at-work-beside s at shown who count step reply other works queue within mine =
    subst (λ (b : Bool). Works s.decls queue at b) (sym (begun-after_other at.who.number shown who count step reply other)) (works queue within mine)

module _ (s : Content) (shown : Shown) (at : PlayerPlace) (valid : IsValid s) (fit : IsFit s at) (queue : ℕ) (works : Works s.decls queue at (has_begun at.who.number shown.work)) where
  -- its worker works at the queue after this step
  abbrev WorksAfter : Step → StepReply → Type 0
  WorksAfter step reply = Works s.decls queue (after s at step reply) (has_begun at.who.number (shown_after shown at.who (length at.spots) step reply).work)

  fits : (step : Step) (reply : StepReply) → reply_in (machines_of s) shown at.who step ≡ Some reply → ProgressFits s.decls (frames_progress s at.frames step reply)
  fits step reply answered = frames_progress-fits s at.frames step reply fit.frames (replied-fits s (machines_of s) shown at.who step reply valid refl answered)

  after-elsewhere : (step : Step) (reply : StepReply) → IsElsewhere step → IsAhead s at step → reply_in (machines_of s) shown at.who step ≡ Some reply → WorksAfter step reply
  after-elsewhere step reply elsewhere ahead answered =
      let begun = has_begun at.who.number shown.work in
      subst (λ (h : List (Entry WorkOp WorkReply)). Works s.decls queue (after s at step reply) (has_begun at.who.number h)) (sym (work-stays shown at.who (length at.spots) step reply elsewhere))
      (works-on s queue at step reply begun begun valid works
      (λ k own. tends-elsewhere s queue at.frames begun step reply k valid elsewhere works.tends own (fits step reply answered)) ahead)

  after-work : (op : WorkOp) (reply : StepReply) → IsAhead s at (steps.Work op) → reply_in (machines_of s) shown at.who (steps.Work op) ≡ Some reply → WorksAfter (steps.Work op) reply
  after-work op reply ahead answered =
      let begun = has_begun at.who.number shown.work in
      let place = length shown.work in
      let st : State = state_after work_machine (work_start_of s) shown.work in
      let from = made-of (λ (r : WorkReply). step_replies.Work r place) (work_reply st at.who op) reply answered in
      let told = fits (steps.Work op) (step_replies.Work from.0 place) (answered ∙ ap (λ (r : StepReply). Some r) (sym from.2)) in
      let e = entry at.who (length at.spots) op from.0 in
      let next = works-on s queue at (steps.Work op) (step_replies.Work from.0 place) begun (begun_by op begun) valid works
      (λ k own. tends-own s st at.who queue at.frames op from.0 place k begun valid works.tends own from.1 told) ahead in
      subst (WorksAfter (steps.Work op)) from.2
      (subst (λ (b : Bool). Works s.decls queue (after s at (steps.Work op) (step_replies.Work from.0 place)) b)
      (sym (begun-snoc at.who.number shown.work e ∙ begun-own at.who.number begun e refl)) next)

  works-after : (step : Step) (reply : StepReply) → IsAhead s at step → reply_in (machines_of s) shown at.who step ≡ Some reply → WorksAfter step reply
  works-after (steps.Work op) reply ahead answered = after-work op reply ahead answered
  works-after step reply ahead answered = after-elsewhere step reply tt ahead answered

-- and after each step of its own
pub at-work-made : (s : Content) (shown : Shown) (at : PlayerPlace) (step : Step) (reply : StepReply) → IsValid s → IsFit s at → IsAhead s at step → reply_in (machines_of s) shown at.who step ≡ Some reply →
    IsAtWork s shown at → IsAtWork s (shown_after shown at.who (length at.spots) step reply) (after s at step reply)
at-work-made s shown at step reply valid fit ahead answered works queue within mine =
    let number = ap (λ (w : Who). w.number) (after-spots s at step reply).0 in
    subst (λ (n : ℕ). Works s.decls queue (after s at step reply) (has_begun n (shown_after shown at.who (length at.spots) step reply).work)) (sym number)
    (works-after s shown at valid fit queue (works queue within (sym number ∙ mine)) step reply ahead answered)
