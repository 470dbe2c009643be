-- What the open scripts and runs are once a reply is done to the innermost one, by how that goes on.
use Rattle.std.proofs.Common.{◌≡◌, ◌+◌, ℕ, List, ◌∷◌, sym, ap, ◌∙◌}
use Rattle.zk_scenario.specs.Content.{Content}
use Rattle.zk_worker.specs.declared.answers.Answered.{Answered}
use Rattle.zk_worker.specs.declared.frames.Frame.{Frame}
use Rattle.zk_worker.specs.declared.frames.Moved.{Moved}
use Rattle.zk_worker.specs.declared.frames.Moved.TheVariants as moves
use Rattle.zk_worker.specs.declared.frames.Progress.{Progress}
use Rattle.zk_worker.specs.declared.frames.Progress.TheVariants.{Goes, Answers, Enters}
use Rattle.zk_worker.specs.declared.frames.Stage.{Stage}
use Rattle.zk_worker.specs.declared.steps.Step.{Step}
use Rattle.zk_worker.specs.declared.steps.StepReply.{StepReply}
use Rattle.zk_worker.specs.Moves.{stage_by, moved_by, IsDone}
use Rattle.zk_worker.specs.Protocol.{settled, entered, frames_after, frames_progress, answers_after, role_progress}

-- the frame has its new stage
staged : (frame frame' : Frame) (stage : Stage) → frame' ≡ record frame { stage = frame'.stage } → frame'.stage ≡ stage → record frame { stage = stage } ≡ frame'
staged frame frame' stage kept is = ap (λ (x : Stage). record frame { stage = x }) (sym is) ∙ sym kept

module _ (s : Content) (frame frame' : Frame) (below : List Frame) where
  pub frames-goes : (progress : Progress) → moves.Goes ≡ moved_by progress → frame' ≡ record frame { stage = frame'.stage } → frame'.stage ≡ stage_by progress →
      frames_after s (frame ∷ below) progress ≡ frame' ∷ below
  frames-goes (Goes stage) goes kept is = ap (λ (f : Frame). f ∷ below) (staged frame frame' stage kept is)
  frames-goes (Answers word answer) goes kept is = absurd (cc)
  frames-goes (Enters owner stage) goes kept is = absurd (cc)

  pub frames-answers : (progress : Progress) → moves.Answers ≡ moved_by progress → frame' ≡ record frame { stage = frame'.stage } → frame'.stage ≡ stage_by progress →
      frames_after s (frame ∷ below) progress ≡ settled s (record frame' { next = frame'.next + 1 } ∷ below)
  frames-answers (Goes stage) goes kept is = absurd (cc)
  frames-answers (Answers word answer) goes kept is = ap (λ (f : Frame). settled s (record f { next = f.next + 1 } ∷ below)) (staged frame frame' _ kept is)
  frames-answers (Enters owner stage) goes kept is = absurd (cc)

  pub frames-enters : (progress : Progress) (owner : ℕ) → moves.Enters owner ≡ moved_by progress → frame' ≡ record frame { stage = frame'.stage } → frame'.stage ≡ stage_by progress →
      frames_after s (frame ∷ below) progress ≡ settled s (entered (frame' ∷ below) owner)
  frames-enters (Goes stage) owner goes kept is = absurd (cc)
  frames-enters (Answers word answer) owner goes kept is = absurd (cc)
  frames-enters (Enters object stage) owner goes kept is =
      let same : object ≡ owner = cc in
      ap (λ (o : ℕ). settled s (entered (record frame { stage = stage } ∷ below) o)) same
      ∙ ap (λ (f : Frame). settled s (entered (f ∷ below) owner)) (staged frame frame' stage kept is)

-- a reply that lets a call go on at a stage, once it has that stage
pub goes-done : (number : ℕ) (progress : Progress) (stage : Stage) (answers : List Answered) → progress ≡ Goes stage → IsDone number progress moves.Goes stage answers answers
goes-done number progress stage answers goes = record {
  moved = ap moved_by (sym goes);
  stage = ap stage_by (sym goes);
  answers = ap (answers_after answers number) (sym goes);
}

-- what a reply did to the innermost open script or run, it did to all that are open
module _ (s : Content) (frames : List Frame) (frame frame' : Frame) (below : List Frame) (made : Step) (reply : StepReply) (number : ℕ) (told : Moved) (old new : List Answered) where
  abbrev Stands : Type 0
  Stands = IsDone number (role_progress s frame.role frame.next frame.stage made reply) told frame'.stage old new

  on-top : frames ≡ frame ∷ below →
      frames_after s frames (frames_progress s frames made reply) ≡ frames_after s (frame ∷ below) (role_progress s frame.role frame.next frame.stage made reply)
  on-top top = ap (λ (all : List Frame). frames_after s all (frames_progress s all made reply)) top

  pub stack-answers : frames ≡ frame ∷ below → Stands → new ≡ answers_after old number (frames_progress s frames made reply)
  stack-answers top done = done.answers ∙ ap (λ (all : List Frame). answers_after old number (frames_progress s all made reply)) (sym top)

  pub stack-goes : frames ≡ frame ∷ below → Stands → frame' ≡ record frame { stage = frame'.stage } → told ≡ moves.Goes →
      frame' ∷ below ≡ frames_after s frames (frames_progress s frames made reply)
  stack-goes top done kept is =
      sym (on-top top ∙ frames-goes s frame frame' below (role_progress s frame.role frame.next frame.stage made reply) (sym is ∙ done.moved) kept done.stage)

  pub stack-answered : frames ≡ frame ∷ below → Stands → frame' ≡ record frame { stage = frame'.stage } → told ≡ moves.Answers →
      settled s (record frame' { next = frame'.next + 1 } ∷ below) ≡ frames_after s frames (frames_progress s frames made reply)
  stack-answered top done kept is =
      sym (on-top top ∙ frames-answers s frame frame' below (role_progress s frame.role frame.next frame.stage made reply) (sym is ∙ done.moved) kept done.stage)

  pub stack-enters : (owner : ℕ) → frames ≡ frame ∷ below → Stands → frame' ≡ record frame { stage = frame'.stage } → told ≡ moves.Enters owner →
      settled s (entered (frame' ∷ below) owner) ≡ frames_after s frames (frames_progress s frames made reply)
  stack-enters owner top done kept is =
      sym (on-top top ∙ frames-enters s frame frame' below (role_progress s frame.role frame.next frame.stage made reply) owner (sym is ∙ done.moved) kept done.stage)
