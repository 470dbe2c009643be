-- The answers of a log that follows its scenario are of their calls, where what is shown is in form.
use Rattle.std.proofs.Common.{◌≡◌, inl, inr, ℕ, zero, suc, ◌+◌, ◌<◌, Bool, true, false, Option, Some, None, List, [], ◌∷◌, length, All, refl, sym, ap, subst, ◌∙◌}
use Rattle.std.specs.List.{AllByRecursion, AllZip, slice_get}
use Rattle.std.specs.Option.{option_map}
use Rattle.std.proofs.lemmas.List.Elements.{All-nil, All-cons, All-head, All-tail, All-push}
use Rattle.std.proofs.lemmas.Option.{same_Some, none-some, option_and_then_some}
use Rattle.zk_base.specs.declared.ids.Entry.{Entry}
use Rattle.zk_blocks.specs.Blocks.{FitsGiven}
use Rattle.zk_blocks.specs.Each.{EachFits}
use Rattle.zk_line.specs.declared.types.Call.{Call}
use Rattle.zk_line.specs.declared.types.Decl.{Decl}
use Rattle.zk_line.specs.Objects.{places, is_item, is_sem, is_msgq, is_signal, is_chan, is_observer}
use Rattle.zk_scenario.specs.Content.{Content}
use Rattle.zk_scenario.specs.Players.{players, calls_of}
use Rattle.zk_model_bus.specs.declared.table.OopsWhy.{OopsWhy}
use Rattle.zk_model_work.specs.declared.ops.WorkReply.TheVariants as work_replies
use Rattle.zk_words.specs.declared.word.Word.{Word}
use Rattle.zk_worker.specs.declared.answers.Answered.{Answered}
use Rattle.zk_worker.specs.declared.frames.Frame.{Frame}
use Rattle.zk_worker.specs.declared.frames.Progress.{Progress}
use Rattle.zk_worker.specs.declared.frames.Progress.TheVariants.{Goes, Answers, Enters}
use Rattle.zk_worker.specs.declared.frames.Role.{Role}
use Rattle.zk_worker.specs.declared.frames.Role.TheVariants.{Script, Worker}
use Rattle.zk_worker.specs.declared.frames.Stage.{Stage}
use Rattle.zk_worker.specs.declared.frames.Stage.TheVariants.{Start}
use Rattle.zk_worker.specs.declared.steps.Spot.{Spot}
use Rattle.zk_worker.specs.declared.steps.Spot.TheVariants as spots
use Rattle.zk_worker.specs.declared.steps.Step.{Step}
use Rattle.zk_worker.specs.declared.steps.Step.TheVariants as steps
use Rattle.zk_worker.specs.declared.steps.StepReply.{StepReply}
use Rattle.zk_worker.specs.declared.steps.StepReply.TheVariants as step_replies
use Rattle.zk_worker.specs.Calls.{plan_of, plan_progress}
use Rattle.zk_worker.specs.Checks.{oops_in}
use Rattle.zk_worker.specs.Families.{entry_at}
use Rattle.zk_worker.specs.Follows.{StepMade, IsPlayed, Stands, IsFollowing}
use Rattle.zk_worker.specs.Places.{PlayerPlace}
use Rattle.zk_worker.specs.Protocol.{call_attempts, role_attempts, frames_attempts, run_progress, worker_progress, call_progress, role_progress, first_frame, entered, frames_progress, frames_after, answers_after, spot_of, checked, after, role_at, starting, start_at}
use Rattle.zk_worker.specs.Shown.{Shown}
use Rattle.zk_worker.proofs.CheckedSteps.{turn}
use Rattle.zk_worker.proofs.Limits.{settled-all, entered-all}
use Rattle.zk_worker.proofs.Lists.{known-there}
use Rattle.zk_line.specs.Calls.{word_of}
use Rattle.zk_trace.specs.EntryRead.{FitsEntry}
use Rattle.zk_trace.specs.LookRead.{can_be_seen}
use Rattle.zk_trace.specs.Work as work
use Rattle.zk_trace.specs.WorkRead as work_read
use Rattle.zk_trace.specs.Clock as clock
use Rattle.zk_trace.specs.ClockRead as clock_read
use Rattle.zk_trace.specs.Table as table
use Rattle.zk_trace.specs.TableRead as table_read
use Rattle.zk_trace.proofs.CallAnswers.{call-suits}
use Rattle.zk_trace.proofs.HistoriesFit.{SemsFit, MsgqsFit, SignalsFit, ChansFit, ObserversFit}
use Rattle.zk_trace.proofs.Suited.{Told, Suits, StageSuits, ProgressSuits}

-- What a player has open and has answered.

-- how far a call or a run has come suits it
abbrev pub RoleSuits : Content → Role → ℕ → Stage → Type 0
RoleSuits s (Script owner) next stage = (call : Call) → slice_get (calls_of s.scripts owner) next ≡ Some call → StageSuits s.decls stage (plan_of s.decls call)
RoleSuits s (Worker queue) next stage = Unit {0}

abbrev FrameSuits : Content → Frame → Type 0
FrameSuits s frame = RoleSuits s frame.role frame.next frame.stage

-- an answer suits its word
abbrev pub AnswerSuits : Content → Answered → Type 0
AnswerSuits s a = Suits s.decls a.word a.answer

record Holds (s : Content) (at : PlayerPlace) : Type 0 where
  frames : All (FrameSuits s) at.frames
  answers : All (AnswerSuits s) at.answers

-- so does what a step does
abbrev RoleGoes : Content → Role → ℕ → Progress → Type 0
RoleGoes s role next (Goes stage) = RoleSuits s role next stage
RoleGoes s role next (Answers word answer) = Suits s.decls word answer
RoleGoes s role next (Enters owner stage) = RoleSuits s role next stage

begins : (s : Content) (role : Role) (next : ℕ) → RoleSuits s role next Start
begins s (Script owner) next = λ call there. tt
begins s (Worker queue) next = tt

worker-goes : (s : Content) (queue next : ℕ) (stage : Stage) (reply : StepReply) → RoleGoes s (Worker queue) next (worker_progress s.decls stage reply)
worker-goes s queue next Start (step_replies.Work (work_replies.Run item admission) place) = by (slice_get (places is_item s.decls) item) where
  by : (o : Option ℕ) → RoleGoes s (Worker queue) next (run_progress o)
  by None = tt
  by (Some owner) = tt
worker-goes s queue next stage reply = tt

role-goes : (s : Content) (role : Role) (next : ℕ) (stage : Stage) (k : ℕ) (made : Step) (reply : StepReply) → RoleSuits s role next stage → slice_get (role_attempts s role next stage) k ≡ Some made →
    Told s.decls made reply → RoleGoes s role next (role_progress s role next stage made reply)
role-goes s (Worker queue) next stage k made reply suits ahead told = worker-goes s queue next stage reply
role-goes s (Script owner) next stage k made reply suits ahead told = by (slice_get (calls_of s.scripts owner) next) refl ahead where
  goes : (call : Call) → slice_get (calls_of s.scripts owner) next ≡ Some call → (progress : Progress) → ProgressSuits s.decls (plan_of s.decls call) progress → RoleGoes s (Script owner) next progress
  goes call there (Goes later) suited = λ other is. subst (λ (c : Call). StageSuits s.decls later (plan_of s.decls c)) (same_Some call other (sym there ∙ is)) suited
  goes call there (Answers word answer) suited = suited
  goes call there (Enters script later) suited = λ other is. subst (λ (c : Call). StageSuits s.decls later (plan_of s.decls c)) (same_Some call other (sym there ∙ is)) suited

  by : (o : Option Call) → slice_get (calls_of s.scripts owner) next ≡ o → slice_get (call_attempts s.decls o stage) k ≡ Some made → RoleGoes s (Script owner) next (call_progress s.decls o stage made reply)
  by None there ahead = absurd (none-some made ahead)
  by (Some call) there ahead =
      goes call there (plan_progress (word_of call) (plan_of s.decls call) stage made reply) (call-suits s.decls call stage k made reply (suits call there) ahead told)

frames-suit : (s : Content) (frame : Frame) (below : List Frame) (progress : Progress) → RoleGoes s frame.role frame.next progress → All (FrameSuits s) below → All (FrameSuits s) (frames_after s (frame ∷ below) progress)
frames-suit s frame below (Goes stage) goes rest = All-cons (FrameSuits s) (record frame { stage = stage }) below goes rest
frames-suit s frame below (Answers word answer) goes rest =
    let next = record frame { next = frame.next + 1; stage = Start } in
    settled-all (FrameSuits s) s (next ∷ below) (All-cons (FrameSuits s) next below (begins s frame.role (frame.next + 1)) rest)
frames-suit s frame below (Enters owner stage) goes rest =
    let next = record frame { stage = stage } in
    settled-all (FrameSuits s) s (entered (next ∷ below) owner)
    (entered-all (FrameSuits s) (next ∷ below) owner (begins s (Script owner) 0) (All-cons (FrameSuits s) next below goes rest))

answers-suit : (s : Content) (role : Role) (next number : ℕ) (progress : Progress) (answers : List Answered) → RoleGoes s role next progress → All (AnswerSuits s) answers →
    All (AnswerSuits s) (answers_after answers number progress)
answers-suit s role next number (Goes stage) answers goes all = all
answers-suit s role next number (Answers word answer) answers goes all = All-push (AnswerSuits s) answers (record { step = number; word = word; answer = answer }) all goes
answers-suit s role next number (Enters owner stage) answers goes all = all

own-holds : (s : Content) (at : PlayerPlace) (frames : List Frame) (made : Step) (reply : StepReply) (k : ℕ) → All (FrameSuits s) frames → All (AnswerSuits s) at.answers →
    slice_get (frames_attempts s frames) k ≡ Some made → Told s.decls made reply →
    All (FrameSuits s) (frames_after s frames (frames_progress s frames made reply)) × All (AnswerSuits s) (answers_after at.answers (length at.spots) (frames_progress s frames made reply))
own-holds s at [] made reply k suit all ahead told = absurd (none-some made ahead)
own-holds s at (frame ∷ below) made reply k suit all ahead told =
    let progress = role_progress s frame.role frame.next frame.stage made reply in
    let goes = role-goes s frame.role frame.next frame.stage k made reply (All-head (FrameSuits s) frame below suit) ahead told in (
      frames-suit s frame below progress goes (All-tail (FrameSuits s) frame below suit),
      answers-suit s frame.role frame.next (length at.spots) progress at.answers goes all,
    )

checked-holds : (s : Content) (at : PlayerPlace) (word : Word) (why : Option OopsWhy) (spot : Spot) → Holds s at → Holds s (checked at word why spot)
checked-holds s at word None spot held = record { frames = held.frames; answers = held.answers }
checked-holds s at word (Some why) spot held = record {
  frames = All-nil (FrameSuits s);
  answers = All-push (AnswerSuits s) at.answers _ held.answers (λ sized. inr (inl tt));
}

-- each step of a player keeps it
played-holds : (s : Content) (at end : PlayerPlace) (made : List StepMade) → Holds s at → AllByRecursion (λ m. Told s.decls m.0 m.1) made → IsPlayed s at made end → Holds s end
played-holds s at end [] held told played = subst (Holds s) played held
played-holds s at end (m ∷ more) held told played =
    played-holds s (after s at m.0 m.1) end more
    (turn (Holds s) s at m.0 m.1 played.0
    (λ is. checked-holds s at is.check.word (oops_in m.1) (spot_of m.0 m.1) held)
    (λ is. let both = own-holds s at at.frames m.0 m.1 is.index held.frames held.answers is.ahead told.0 in record { frames = both.0; answers = both.1 }))
    told.1 played.1

starting-holds : (s : Content) (number object : ℕ) (decl : Decl) → Holds s (starting s number object decl)
starting-holds s number object decl =
    let first = first_frame (role_at decl object) in
    record {
      frames = settled-all (FrameSuits s) s (first ∷ []) (All-cons (FrameSuits s) first [] (begins s (role_at decl object) 0) (All-nil (FrameSuits s)));
      answers = All-nil (AnswerSuits s);
    }

start-holds : (s : Content) (number : ℕ) (at : PlayerPlace) → start_at s number ≡ Some at → Holds s at
start-holds s number at is =
    option_and_then_some {P = Holds s at} (λ object. option_map (starting s number object) (slice_get s.decls object)) (slice_get (players s.decls) number) at is
    (λ object there more. by object (slice_get s.decls object) more)
  where
    by : (object : ℕ) (o : Option Decl) → option_map (starting s number object) o ≡ Some at → Holds s at
    by object None is = absurd (none-some at is)
    by object (Some d) is = subst (Holds s) (same_Some (starting s number object d) at is) (starting-holds s number object d)

-- What is shown.

-- the entries that are shown are in form
pub record ShownFits (decls : List Decl) (shown : Shown) : Type 0 where
  pub work : AllByRecursion (FitsEntry decls (work_read.FitsOp decls) (λ op r. work_read.AnswersTo decls (work.said_of op).0 r)) shown.work
  pub clock : AllByRecursion (FitsEntry decls (clock_read.FitsOp decls) (λ op r. clock_read.AnswersTo decls (clock.said_of op).0 r)) shown.clock
  pub table : AllByRecursion (FitsEntry decls (table_read.FitsOp decls) (λ op r. table_read.AnswersTo decls (table.said_of op).0 r)) shown.table
  pub sems : SemsFit decls decls shown.sems
  pub msgqs : MsgqsFit decls decls shown.msgqs
  pub signals : SignalsFit decls decls shown.signals
  pub chans : ChansFit decls decls shown.chans
  pub observers : ObserversFit decls decls shown.observers

-- the looks of a log are so
abbrev pub LookHolds : Spot → Type 0
LookHolds (spots.LookItem object flags at) = flags < 32
LookHolds (spots.LookSignal object seen) = can_be_seen seen ≡ true
LookHolds spot = Unit {0}

at-each : {A : Type 0} (P : A → Type 0) (xs : List A) (k : ℕ) (x : A) → AllByRecursion P xs → slice_get xs k ≡ Some x → P x
at-each P [] k x all there = absurd (none-some x there)
at-each P (y ∷ ys) zero x all there = subst P (same_Some y x there) all.0
at-each P (y ∷ ys) (suc k) x all there = at-each P ys k x all.1 there

at-object : {O R : Type 0} (of_kind : Decl → Bool) (P : Entry O R → Type 0) (ds : List Decl) (hs : List (List (Entry O R))) (object place : ℕ) (e : Entry O R) →
    EachFits (λ d. FitsGiven (of_kind d) [] (AllByRecursion P)) ds hs → entry_at hs object place ≡ Some e → P e
at-object of_kind P [] [] object place e fit there = absurd (none-some e there)
at-object of_kind P [] (h ∷ hs) object place e fit there = absurd fit
at-object of_kind P (d ∷ ds) [] object place e fit there = absurd fit
at-object {O} {R} of_kind P (d ∷ ds) (h ∷ hs) zero place e fit there = by (of_kind d) fit.0 where
  by : (b : Bool) → FitsGiven b [] (AllByRecursion P) h → P e
  by true fits = at-each P h place e fits there
  by false none = absurd (none-some e (ap (λ (l : List (Entry O R)). slice_get l place) (sym none) ∙ there))
at-object of_kind P (d ∷ ds) (h ∷ hs) (suc object) place e fit there = at-object of_kind P ds hs object place e fit.1 there

made-there : {A B : Type 0} (f : A → B) (o : Option A) (b : B) → option_map f o ≡ Some b → (a : A) × (o ≡ Some a) × (f a ≡ b)
made-there f None b is = absurd (none-some b is)
made-there f (Some a) b is = (a, refl, same_Some (f a) b is)

-- what stands at a spot is told
told-there : (decls : List Decl) (shown : Shown) (spot : Spot) (made : StepMade) → ShownFits decls shown → LookHolds spot → Stands shown spot made → Told decls made.0 made.1
told-there decls shown (spots.Work place) made fits look stands =
    let found = known-there (λ e. (steps.Work e.op, step_replies.Work e.reply place)) shown.work place made stands in
    subst (λ (m : StepMade). Told decls m.0 m.1) found.2 (at-each _ shown.work place found.0 fits.work found.1).reply
told-there decls shown (spots.Clock place) made fits look stands =
    let found = known-there (λ e. (steps.Clock e.op, step_replies.Clock e.reply place)) shown.clock place made stands in
    subst (λ (m : StepMade). Told decls m.0 m.1) found.2 (at-each _ shown.clock place found.0 fits.clock found.1).reply
told-there decls shown (spots.Table place) made fits look stands =
    let found = known-there (λ e. (steps.Table e.op, step_replies.Table e.reply place)) shown.table place made stands in
    subst (λ (m : StepMade). Told decls m.0 m.1) found.2 (at-each _ shown.table place found.0 fits.table found.1).reply
told-there decls shown (spots.Sem object place) made fits look stands =
    let found = made-there (λ e. (steps.Sem object e.op, step_replies.Sem object e.reply place)) (entry_at shown.sems object place) made stands in
    subst (λ (m : StepMade). Told decls m.0 m.1) found.2 (at-object is_sem _ decls shown.sems object place found.0 fits.sems found.1).reply
told-there decls shown (spots.Msgq object place) made fits look stands =
    let found = made-there (λ e. (steps.Msgq object e.op, step_replies.Msgq object e.reply place)) (entry_at shown.msgqs object place) made stands in
    subst (λ (m : StepMade). Told decls m.0 m.1) found.2 (at-object is_msgq _ decls shown.msgqs object place found.0 fits.msgqs found.1).reply
told-there decls shown (spots.Signal object place) made fits look stands =
    let found = made-there (λ e. (steps.Signal object e.op, step_replies.Signal object e.reply place)) (entry_at shown.signals object place) made stands in
    subst (λ (m : StepMade). Told decls m.0 m.1) found.2 (at-object is_signal _ decls shown.signals object place found.0 fits.signals found.1).reply
told-there decls shown (spots.Chan object place) made fits look stands =
    let found = made-there (λ e. (steps.Chan object e.op, step_replies.Chan object e.reply place)) (entry_at shown.chans object place) made stands in
    subst (λ (m : StepMade). Told decls m.0 m.1) found.2 (at-object is_chan _ decls shown.chans object place found.0 fits.chans found.1).reply
told-there decls shown (spots.Obs object place) made fits look stands =
    let found = made-there (λ e. (steps.Obs object e.op, step_replies.Obs object e.reply place)) (entry_at shown.observers object place) made stands in
    subst (λ (m : StepMade). Told decls m.0 m.1) found.2 (at-object is_observer _ decls shown.observers object place found.0 fits.observers found.1).reply
told-there decls shown (spots.LookItem object flags at) made fits look stands = subst (λ (m : StepMade). Told decls m.0 m.1) (sym stands) look
told-there decls shown (spots.LookSignal object seen) made fits look stands = subst (λ (m : StepMade). Told decls m.0 m.1) (sym stands.1) look

all-told : (decls : List Decl) (shown : Shown) (log : List Spot) (made : List StepMade) → ShownFits decls shown → All LookHolds log → AllZip (Stands shown) log made → AllByRecursion (λ m. Told decls m.0 m.1) made
all-told decls shown [] [] fits looks stands = tt
all-told decls shown [] (m ∷ ms) fits looks stands = absurd stands
all-told decls shown (spot ∷ log) [] fits looks stands = absurd stands
all-told decls shown (spot ∷ log) (m ∷ ms) fits looks stands = (
  told-there decls shown spot m fits (All-head LookHolds spot log looks) stands.0,
  all-told decls shown log ms fits (All-tail LookHolds spot log looks) stands.1,
)

-- the answers of a player that follows its scenario suit their words
pub answers-hold : (s : Content) (number : ℕ) (shown : Shown) (at : PlayerPlace) → ShownFits s.decls shown → All LookHolds at.spots → IsFollowing s number shown at → All (AnswerSuits s) at.answers
answers-hold s number shown at fits looks following =
    (played-holds s following.start at following.made (start-holds s number following.start following.starts)
    (all-told s.decls shown at.spots following.made fits looks following.stands) following.played).answers
