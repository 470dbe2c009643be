-- A user's call makes its checks before all else, and a check that fails is its player's last step.
use Rattle.std.proofs.Common.{◌≡◌, ◌⊎◌, inl, inr, ℕ, zero, suc, ◌+◌, Bool, true, false, cond, ◌&&◌, ◌||◌, nat_lt, Option, Some, None, is_some, List, [], ◌∷◌, ◌++◌, take, length, length-append, append-nil, append_assoc, refl, sym, ap, subst, ◌∙◌, arith}
use Rattle.std.specs.List.{slice_get, list_any, AllZip}
use Rattle.std.specs.Option.{option_map, option_map_or, option_and_then}
use Rattle.std.proofs.lemmas.List.Folds.{list_any-append}
use Rattle.std.proofs.lemmas.Option.{option_and_then_some, slice_get-map, same_Some}
use Rattle.zk_base.proofs.Lists.{cond_nil-at}
use Rattle.zk_line.specs.Calls.{word_of}
use Rattle.zk_line.specs.Needs.{needs_of}
use Rattle.zk_line.specs.Objects.{is_at, is_user}
use Rattle.zk_line.specs.declared.needs.Needed.{Needed}
use Rattle.zk_line.specs.declared.types.Call.{Call}
use Rattle.zk_line.specs.declared.types.Decl.{Decl}
use Rattle.zk_model_bus.specs.declared.table.OopsWhy.{OopsWhy}
use Rattle.zk_scenario.specs.Content.{Content}
use Rattle.zk_scenario.specs.Players.{players, calls_of}
use Rattle.zk_words.specs.declared.word.Word.{Word}
use Rattle.zk_worker.specs.declared.answers.Answer.TheVariants.{Oops}
use Rattle.zk_worker.specs.declared.answers.Answered.{Answered}
use Rattle.zk_worker.specs.declared.checks.Check.{Check}
use Rattle.zk_worker.specs.declared.checks.Mode.{Mode}
use Rattle.zk_worker.specs.declared.checks.Mode.TheVariants.{Supervisor, User, Dead}
use Rattle.zk_worker.specs.declared.frames.TheConstants.{MOST_FRAMES}
use Rattle.zk_worker.specs.declared.frames.Frame.{Frame}
use Rattle.zk_worker.specs.declared.frames.Progress.{Progress}
use Rattle.zk_worker.specs.declared.frames.Progress.TheVariants.{Goes, Answers, Enters}
use Rattle.zk_worker.specs.declared.frames.Role.{Role}
use Rattle.zk_worker.specs.declared.frames.Role.TheVariants.{Script, Worker}
use Rattle.zk_worker.specs.declared.frames.Stage.{Stage}
use Rattle.zk_worker.specs.declared.frames.Stage.TheVariants.{Start}
use Rattle.zk_scenario.specs.Steps.{steps_of}
use Rattle.zk_line.specs.declared.types.Decl.TheVariants as decls_of
use Rattle.zk_model_bus.specs.declared.table.TableOp.TheVariants as table_ops
use Rattle.zk_worker.specs.declared.steps.Spot.{Spot}
use Rattle.zk_worker.specs.declared.steps.Step.{Step}
use Rattle.zk_worker.specs.declared.steps.Step.TheVariants as steps
use Rattle.zk_player_laws.specs.CheckLaws.{checks_of, Passes, ChecksArePassed, is_check, fails, enters_user, starts_as_user, is_user_behind, IsLed, ends_in_check, BeginsUnchecked}
use Rattle.zk_player_laws.specs.CheckLaws.{IsNextCheck, IsBehindChecks, IsCheckedIn, IsChecked, AreChecked, tells_oops, has_oops, EndedByOops, EachUserIsChecked}
use Rattle.zk_worker.specs.Checks.{check_of, call_check, role_check, top_check, next_check, check_step, oops_in, is_oops, mode_after, start_mode}
use Rattle.zk_worker.specs.Follows.{StepMade, IsPlayed, is_dead}
use Rattle.zk_worker.specs.Places.{PlayerPlace}
use Rattle.zk_worker.specs.Protocol.{IsAhead, checks_first, after, after_by, checked, moved, call_attempts, frames_attempts, frames_progress, frames_after, answers_after, is_over, settled, entered, first_frame, role_at, spot_of, starting, start_at}
use Rattle.zk_worker.specs.Ranges.{is_start}
use Rattle.zk_worker.proofs.CheckedSteps.{IsCheck, IsOwn, one-or-other, check_at, check-of-top, check-starts}
use Rattle.zk_worker.proofs.CheckedSteps.{after-spots}
use Rattle.zk_worker.proofs.Following.{played-more}
use Rattle.zk_worker.proofs.FreeCalls.{all-taken, none-left}
use Rattle.zk_player_laws.proofs.OwnSteps.{own-no-check, AnswersNoOops, own-no-oops}

-- What holds of a player between its steps.

-- a script that has made another step than a check in its next call has made all checks of that
abbrev pub FrameChecked : Content → ℕ → List StepMade → Frame → List Frame → Type 0
FrameChecked s number made frame below =
    is_start frame.stage ≡ false → (owner : ℕ) → frame.role ≡ Script owner → IsBehindChecks s number made owner frame.next below

abbrev pub FramesChecked : Content → ℕ → List StepMade → List Frame → Type 0
FramesChecked s number made [] = Unit {0}
FramesChecked s number made (frame ∷ below) = FrameChecked s number made frame below × FramesChecked s number made below

-- the innermost script's next call has made so many of its checks, and nothing else
pub record AtChecks (s : Content) (number : ℕ) (made : List StepMade) (now : PlayerPlace) (owner next : ℕ) (below : List Frame) : Type 0 where
  pub before : List StepMade
  pub since : List StepMade
  pub whole : made ≡ before ++ since
  pub at : PlayerPlace
  pub led : IsLed s number before at
  pub stood : at.frames ≡ record { role = Script owner; next = next; stage = Start } ∷ below
  pub fresh : at.passed ≡ 0
  pub unchecked : ends_in_check before ≡ false
  pub same_mode : is_user_behind s number before ≡ is_user_behind s number made
  pub count : length since ≡ now.passed
  pub passed : (call : Call) → slice_get (calls_of s.scripts owner) next ≡ Some call → ChecksArePassed since (take now.passed (checks_of call))

abbrev pub TopChecks : Content → ℕ → List StepMade → PlayerPlace → List Frame → Type 0
TopChecks s number made now [] = Unit {0}
TopChecks s number made now (frame ∷ below) =
    is_start frame.stage ≡ true → (owner : ℕ) → frame.role ≡ Script owner → AtChecks s number made now owner frame.next below

-- the mode of a player that is a user, or isn't
abbrev pub mode_of : Bool → Mode
mode_of true = User
mode_of false = Supervisor

pub record Holds (s : Content) (number : ℕ) (made : List StepMade) (at : PlayerPlace) : Type 0 where
  pub led : IsLed s number made at
  pub mode : at.mode ≡ mode_of (is_user_behind s number made)
  pub passing : list_any fails made ≡ false
  pub untold : list_any tells_oops at.answers ≡ false
  pub frames : FramesChecked s number made at.frames
  pub top : TopChecks s number made at at.frames

-- Lists.

zip-next : {A B : Type 0} (P : A → B → Type 0) (xs : List A) (x : A) (ys : List B) (y : B) (n : ℕ) → length xs ≡ n → AllZip P xs (take n ys) → slice_get ys n ≡ Some y → P x y →
    AllZip P (xs ++ x ∷ []) (take (n + 1) ys)
zip-next P [] x [] y n long all there holds = absurd (cc)
zip-next P [] x (z ∷ ys) y zero long all there holds = (let one : suc 0 ≡ 0 + 1 = omega arith in
    subst (λ (k : ℕ). AllZip P (x ∷ []) (take k (z ∷ ys))) one (subst (λ (w : _). P x w) (sym (same_Some z y there)) holds, tt))
zip-next P [] x (z ∷ ys) y (suc n) long all there holds = absurd (omega (arith, long))
zip-next P (w ∷ xs) x ys y zero long all there holds = absurd (omega (arith, long))
zip-next P (w ∷ xs) x [] y (suc n) long all there holds = absurd (cc)
zip-next P (w ∷ xs) x (z ∷ ys) y (suc n) long all there holds =
    let more : suc (n + 1) ≡ suc n + 1 = omega arith in
    subst (λ (k : ℕ). AllZip P (w ∷ (xs ++ x ∷ [])) (take k (z ∷ ys))) more (all.0, zip-next P xs x ys y n (omega (arith, long)) all.1 there holds)

-- More steps.

behind-more : (s : Content) (number : ℕ) (made : List StepMade) (m : StepMade) (owner next : ℕ) (below : List Frame) → IsBehindChecks s number made owner next below →
    IsBehindChecks s number (made ++ m ∷ []) owner next below
behind-more s number made m owner next below was = record {
  before = was.before;
  since = was.since ++ m ∷ [];
  whole = ap (λ (l : List StepMade). l ++ m ∷ []) was.whole ∙ append_assoc was.before was.since (m ∷ []);
  call = was.call;
  begins = was.begins;
  checked = λ user. let old = was.checked user in (old.0, old.1 ++ m ∷ [], ap (λ (l : List StepMade). l ++ m ∷ []) old.2 ∙ append_assoc old.0 old.1 (m ∷ []), old.3);
}

frames-longer : (s : Content) (number : ℕ) (made : List StepMade) (m : StepMade) (frames : List Frame) → FramesChecked s number made frames → FramesChecked s number (made ++ m ∷ []) frames
frames-longer s number made m [] was = tt
frames-longer s number made m (frame ∷ below) was =
    (λ begun owner role. behind-more s number made m owner frame.next below (was.0 begun owner role), frames-longer s number made m below was.1)

-- where a call begins whose checks are to be made
unchecked-call : (s : Content) (number : ℕ) (made : List StepMade) (now : PlayerPlace) (owner next : ℕ) (below : List Frame) (call : Call) → slice_get (calls_of s.scripts owner) next ≡ Some call →
    (was : AtChecks s number made now owner next below) → BeginsUnchecked s number was.before owner next call below
unchecked-call s number made now owner next below call there was = record {
  begins = record { at = was.at; led = was.led; is_call = there; stood = was.stood };
  fresh = was.fresh;
  unchecked = was.unchecked;
}

-- the last step is the one that was added
ends-last : (made : List StepMade) (m : StepMade) → ends_in_check (made ++ m ∷ []) ≡ is_check m.0
ends-last [] m = refl
ends-last (a ∷ []) m = refl
ends-last (a ∷ b ∷ made) m = ends-last (b ∷ made) m

-- a call that makes another step has made all its checks, if its caller was a user
behind-now : (s : Content) (number : ℕ) (made : List StepMade) (at : PlayerPlace) (owner next : ℕ) (below : List Frame) (call : Call) → slice_get (calls_of s.scripts owner) next ≡ Some call →
    AtChecks s number made at owner next below → (is_user_behind s number made ≡ true → call_check at.passed call ≡ None) → IsBehindChecks s number made owner next below
behind-now s number made at owner next below call there was unchecked = record {
  before = was.before;
  since = was.since;
  whole = was.whole;
  call = call;
  begins = unchecked-call s number made at owner next below call there was;
  checked = λ user.
      let left = none-left call (needs_of call) at.passed (unchecked (sym was.same_mode ∙ user)) in
      let all = all-taken (checks_of call) at.passed (slice_get-map (check_of call) (needs_of call) at.passed ∙ ap (option_map (check_of call)) left) in
      (was.since, [], sym (append-nil was.since), subst (ChecksArePassed was.since) all (was.passed call there));
}

-- where a call begins
top-fresh : (s : Content) (number : ℕ) (made : List StepMade) (now : PlayerPlace) (frames : List Frame) → IsLed s number made now → now.passed ≡ 0 → ends_in_check made ≡ false → now.frames ≡ frames →
    TopChecks s number made now frames
top-fresh s number made now [] led none apart same = tt
top-fresh s number made now (frame ∷ below) led none apart same = λ begins owner role. record {
  before = made;
  since = [];
  whole = sym (append-nil made);
  at = now;
  led = led;
  stood = same ∙ ap (λ (r : Role). record { role = r; next = frame.next; stage = frame.stage } ∷ below) role ∙ ap (λ (t : Stage). record { role = Script owner; next = frame.next; stage = t } ∷ below) (is-start frame.stage begins);
  fresh = none;
  unchecked = apart;
  same_mode = refl;
  count = sym none;
  passed = λ call there. subst (λ (k : ℕ). ChecksArePassed [] (take k (checks_of call))) (sym none) tt;
}
  where
    is-start : (stage : Stage) → is_start stage ≡ true → stage ≡ Start
    is-start Start is = refl
    is-start stage is = absurd (cc)

settled-checked : (s : Content) (number : ℕ) (made : List StepMade) (frames : List Frame) → FramesChecked s number made frames → FramesChecked s number made (settled s frames)
settled-checked s number made [] was = tt
settled-checked s number made (frame ∷ below) was = by (is_over s frame.role frame.next) (settled-checked s number made below was.1) where
  by : (b : Bool) → FramesChecked s number made (settled s below) → FramesChecked s number made (cond b (settled s below) (frame ∷ below))
  by true rest = rest
  by false rest = was

-- the open scripts after another step than a check
frames-checked : (s : Content) (number : ℕ) (made : List StepMade) (frame : Frame) (below : List Frame) (progress : Progress) →
    ((owner : ℕ) → frame.role ≡ Script owner → IsBehindChecks s number made owner frame.next below) → FramesChecked s number made below →
    FramesChecked s number made (frames_after s (frame ∷ below) progress)
frames-checked s number made frame below (Goes stage) behind more = (λ begun owner role. behind owner role, more)
frames-checked s number made frame below (Answers word answer) behind more =
    settled-checked s number made (record frame { next = frame.next + 1; stage = Start } ∷ below) (λ begun owner role. absurd (cc), more)
frames-checked s number made frame below (Enters object stage) behind more =
    settled-checked s number made (entered (record frame { stage = stage } ∷ below) object) (by (nat_lt (length (record frame { stage = stage } ∷ below)) MOST_FRAMES))
  where
    by : (b : Bool) → FramesChecked s number made (cond b (first_frame (Script object) ∷ record frame { stage = stage } ∷ below) (record frame { stage = stage } ∷ below))
    by true = (λ begun owner role. absurd (cc), ((λ begun owner role. behind owner role), more))
    by false = ((λ begun owner role. behind owner role), more)

-- A step.

-- where no check comes next, none is left of the call that does
unchecked-of : (s : Content) (mode : Mode) (passed owner next : ℕ) (below : List Frame) (call : Call) → slice_get (calls_of s.scripts owner) next ≡ Some call →
    next_check s mode passed (record { role = Script owner; next = next; stage = Start } ∷ below) ≡ None → mode ≡ User → call_check passed call ≡ None
unchecked-of s User passed owner next below call there none user = ap (option_and_then (call_check passed)) (sym there) ∙ none
unchecked-of s mode passed owner next below call there none user = absurd (cc)

-- what makes another step than a check is behind all checks of its call
behind-top : (s : Content) (number : ℕ) (made : List StepMade) (at : PlayerPlace) (frame : Frame) (below : List Frame) (k : ℕ) (step : Step) → (is_user_behind s number made ≡ true → at.mode ≡ User) → next_check s at.mode at.passed (frame ∷ below) ≡ None →
    slice_get (frames_attempts s (frame ∷ below)) k ≡ Some step → FrameChecked s number made frame below → (is_start frame.stage ≡ true → (owner : ℕ) → frame.role ≡ Script owner → AtChecks s number made at owner frame.next below) →
    (owner : ℕ) → frame.role ≡ Script owner → IsBehindChecks s number made owner frame.next below
behind-top s number made at frame below k step users none ahead checked top owner role = by frame.stage refl where
  here : (stage : Stage) → frame.stage ≡ stage → frame ≡ record { role = Script owner; next = frame.next; stage = stage }
  here stage same = ap (λ (r : Role). record { role = r; next = frame.next; stage = frame.stage }) role ∙ ap (λ (t : Stage). record { role = Script owner; next = frame.next; stage = t }) same

  by : (stage : Stage) → frame.stage ≡ stage → IsBehindChecks s number made owner frame.next below
  by Start same =
      let there : slice_get (frames_attempts s (record { role = Script owner; next = frame.next; stage = Start } ∷ below)) k ≡ Some step =
      ap (λ (f : Frame). slice_get (frames_attempts s (f ∷ below)) k) (sym (here Start same)) ∙ ahead in
      of_call (slice_get (calls_of s.scripts owner) frame.next) refl there
    where
      of_call : (o : Option Call) → slice_get (calls_of s.scripts owner) frame.next ≡ o → slice_get (frames_attempts s (record { role = Script owner; next = frame.next; stage = Start } ∷ below)) k ≡ Some step →
          IsBehindChecks s number made owner frame.next below
      of_call None is there = absurd (let nothing = ap (λ (c : Option Call). slice_get (call_attempts s.decls c Start) k) (sym is) ∙ there in cc)
      of_call (Some call) is there =
          behind-now s number made at owner frame.next below call is (top (ap is_start same) owner role)
          (λ user. unchecked-of s at.mode at.passed owner frame.next below call is
          (ap (λ (f : Frame). next_check s at.mode at.passed (f ∷ below)) (sym (here Start same)) ∙ none) (users user))
  by stage same = checked (ap is_start same) owner role

-- what is behind its checks stays so, with the step
behind-step : (s : Content) (number : ℕ) (made : List StepMade) (m : StepMade) (frame : Frame) (below : List Frame) → ((owner : ℕ) → frame.role ≡ Script owner → IsBehindChecks s number made owner frame.next below) →
    (owner : ℕ) → frame.role ≡ Script owner → IsBehindChecks s number (made ++ m ∷ []) owner frame.next below
behind-step s number made m frame below behind owner role = behind-more s number made m owner frame.next below (behind owner role)

-- a step more, whatever its player is
user-more : (s : Content) (number : ℕ) (made : List StepMade) (m : StepMade) → is_user_behind s number (made ++ m ∷ []) ≡ (is_user_behind s number made || enters_user m.0)
user-more s number made m =
    ap (λ (b : Bool). starts_as_user s number || b) (list_any-append (λ (x : StepMade). enters_user x.0) made (m ∷ []))
    ∙ by (starts_as_user s number) (list_any (λ (x : StepMade). enters_user x.0) made) (enters_user m.0)
  where
    by : (a b c : Bool) → (a || (b || (c || false))) ≡ ((a || b) || c)
    by true b c = refl
    by false true c = refl
    by false false true = refl
    by false false false = refl

-- a check changes nothing of what its player is
check-enters : (check : Check) (step : Step) → check_step check ≡ step → enters_user step ≡ false
check-enters check step is = ap enters_user (sym is)

user-kept : (s : Content) (number : ℕ) (made : List StepMade) (m : StepMade) → enters_user m.0 ≡ false → is_user_behind s number (made ++ m ∷ []) ≡ is_user_behind s number made
user-kept s number made m stays = user-more s number made m ∙ ap (λ (b : Bool). is_user_behind s number made || b) stays ∙ by (is_user_behind s number made) where
  by : (b : Bool) → (b || false) ≡ b
  by true = refl
  by false = refl

-- another step makes a user of its player if it is that call's
mode-more : (user : Bool) (step : Step) → mode_after (mode_of user) step ≡ mode_of (user || enters_user step)
mode-more true (steps.Table table_ops.EnterUser) = refl
mode-more false (steps.Table table_ops.EnterUser) = refl
mode-more true step = refl
mode-more false step = refl

pub mode-user : (user : Bool) (mode : Mode) → mode ≡ mode_of user → mode ≡ User → user ≡ true
mode-user true mode is user = refl
mode-user false mode is user = absurd (cc)

user-mode : (user : Bool) → user ≡ true → mode_of user ≡ User
user-mode true is = refl
user-mode false is = absurd (cc)

-- two that are not
both : (a b : Bool) → a ≡ false → b ≡ false → (a || (b || false)) ≡ false
both true b none passes = absurd (cc)
both false true none passes = absurd (cc)
both false false none passes = refl

-- a step more of which none fails
fails-more : (made : List StepMade) (m : StepMade) → list_any fails made ≡ false → fails m ≡ false → list_any fails (made ++ m ∷ []) ≡ false
fails-more made m none passes = list_any-append fails made (m ∷ []) ∙ both (list_any fails made) (fails m) none passes

-- an answer more that is no oops
untold-more : (answers : List Answered) (number : ℕ) (progress : Progress) → list_any tells_oops answers ≡ false → AnswersNoOops progress → list_any tells_oops (answers_after answers number progress) ≡ false
untold-more answers number (Goes stage) none is = none
untold-more answers number (Enters owner stage) none is = none
untold-more answers number (Answers word answer) none is =
    list_any-append tells_oops answers (record { step = number; word = word; answer = answer } ∷ []) ∙ both (list_any tells_oops answers) (is_oops answer) none is

led-more : (s : Content) (number : ℕ) (made : List StepMade) (at : PlayerPlace) (m : StepMade) → IsLed s number made at → IsAhead s at m.0 → IsLed s number (made ++ m ∷ []) (after s at m.0 m.1)
led-more s number made at m led ahead = (led.0, led.1, played-more s led.0 made at m led.2 ahead)

-- a check that comes next is the next one of a user's call
pub next-checked : (s : Content) (number : ℕ) (made : List StepMade) (at : PlayerPlace) (frame : Frame) (below : List Frame) (check : Check) (m : StepMade) → is_user_behind s number made ≡ true →
    role_check s at.passed frame.role frame.next frame.stage ≡ Some check → check_step check ≡ m.0 → TopChecks s number made at (frame ∷ below) →
    (owner : ℕ) → frame.role ≡ Script owner → (is : IsNextCheck s number made owner frame.next below m) × (word_of is.call ≡ check.word)
next-checked s number made at frame below check m user comes makes top owner role = by frame.stage refl where
  of_call : (call : Call) → slice_get (calls_of s.scripts owner) frame.next ≡ Some call → slice_get (checks_of call) at.passed ≡ Some check → word_of call ≡ check.word →
      AtChecks s number made at owner frame.next below → (is : IsNextCheck s number made owner frame.next below m) × (word_of is.call ≡ check.word)
  of_call call there is word was = (
    record {
      before = was.before;
      checks = was.since;
      whole = was.whole;
      call = call;
      begins = unchecked-call s number made at owner frame.next below call there was;
      user = was.same_mode ∙ user;
      passed = subst (λ (k : ℕ). ChecksArePassed was.since (take k (checks_of call))) (sym was.count) (was.passed call there);
      check = check;
      comes = ap (slice_get (checks_of call)) was.count ∙ is;
      makes = sym makes;
    },
    word,
  )

  by_need : (call : Call) → slice_get (calls_of s.scripts owner) frame.next ≡ Some call → (o : Option Needed) → slice_get (needs_of call) at.passed ≡ o → option_map (check_of call) o ≡ Some check →
      AtChecks s number made at owner frame.next below → (is : IsNextCheck s number made owner frame.next below m) × (word_of is.call ≡ check.word)
  by_need call there None at_passed is was = absurd (cc)
  by_need call there (Some n) at_passed is was =
      of_call call there (slice_get-map (check_of call) (needs_of call) at.passed ∙ ap (option_map (check_of call)) at_passed ∙ is)
      (ap (λ (c : Check). c.word) (same_Some (check_of call n) check is)) was

  by : (stage : Stage) → frame.stage ≡ stage → (is : IsNextCheck s number made owner frame.next below m) × (word_of is.call ≡ check.word)
  by Start same =
      let here : role_check s at.passed (Script owner) frame.next Start ≡ Some check =
      ap (λ (r : Role). role_check s at.passed r frame.next Start) (sym role) ∙ ap (λ (t : Stage). role_check s at.passed frame.role frame.next t) (sym same) ∙ comes in
      option_and_then_some {P = (is : IsNextCheck s number made owner frame.next below m) × (word_of is.call ≡ check.word)} (call_check at.passed) (slice_get (calls_of s.scripts owner) frame.next) check here
      (λ call there is. by_need call there (slice_get (needs_of call) at.passed) refl is (top (ap is_start same) owner role))
  by stage same = absurd (let starts = check-starts s at.passed frame.role frame.next frame.stage check comes in cc)

-- only a script is checked
pub check-script : (s : Content) (passed : ℕ) (role : Role) (next : ℕ) (stage : Stage) (check : Check) → role_check s passed role next stage ≡ Some check → (owner : ℕ) × (role ≡ Script owner)
check-script s passed (Script owner) next stage check is = (owner, refl)
check-script s passed (Worker queue) next stage check is = absurd (cc)

-- a check is one
checks-itself : (check : Check) (step : Step) → check_step check ≡ step → is_check step ≡ true
checks-itself check step is = ap is_check (sym is)

-- so the step is checked
check-checked : (s : Content) (number : ℕ) (made : List StepMade) (at : PlayerPlace) (frames : List Frame) (check : Check) (m : StepMade) → is_user_behind s number made ≡ true → top_check s at.passed frames ≡ Some check →
    check_step check ≡ m.0 → TopChecks s number made at frames → IsChecked s number made frames m
check-checked s number made at [] check m user comes makes top = absurd (cc)
check-checked s number made at (frame ∷ below) check m user comes makes top =
    by frame.role comes (λ owner role. (next-checked s number made at frame below check m user comes makes top owner role).0)
  where
    by : (role : Role) → role_check s at.passed role frame.next frame.stage ≡ Some check → ((owner : ℕ) → role ≡ Script owner → IsNextCheck s number made owner frame.next below m) →
        IsCheckedIn s number made role frame.next below m
    by (Worker queue) comes next = absurd (cc)
    by (Script owner) comes next = (λ is. next owner refl, λ isnt. absurd (let is = checks-itself check m.0 makes in cc))

module _ (s : Content) (number : ℕ) (made : List StepMade) (m : StepMade) where
  abbrev longer : List StepMade
  longer = made ++ m ∷ []

  -- another step
  own-frames : (at : PlayerPlace) (frames : List Frame) (k : ℕ) → (is_user_behind s number made ≡ true → at.mode ≡ User) → next_check s at.mode at.passed frames ≡ None → slice_get (frames_attempts s frames) k ≡ Some m.0 →
      FramesChecked s number made frames → TopChecks s number made at frames → FramesChecked s number longer (frames_after s frames (frames_progress s frames m.0 m.1)) × IsChecked s number made frames m
  own-frames at [] k users none ahead was top = absurd (cc)
  own-frames at (frame ∷ below) k users none ahead was top =
      let behind = behind-top s number made at frame below k m.0 users none ahead was.0 top in (
        frames-checked s number longer frame below (frames_progress s (frame ∷ below) m.0 m.1) (behind-step s number made m frame below behind) (frames-longer s number made m below was.1),
        by frame.role behind,
      )
    where
      by : (role : Role) → ((owner : ℕ) → role ≡ Script owner → IsBehindChecks s number made owner frame.next below) → IsCheckedIn s number made role frame.next below m
      by (Worker queue) behind = own-no-check s (frame ∷ below) k m.0 ahead
      by (Script owner) behind = (λ is. absurd (let isnt = own-no-check s (frame ∷ below) k m.0 ahead in cc), λ isnt. behind owner refl)

  pub own-holds : (at : PlayerPlace) → Holds s number made at → IsAhead s at m.0 → (is : IsOwn s at m.0) → IsChecked s number made at.frames m × Holds s number longer (after s at m.0 m.1)
  own-holds at was ahead is =
      let progress = frames_progress s at.frames m.0 m.1 in
      let next = moved s at m.0 progress (spot_of m.0 m.1) in
      let same : after s at m.0 m.1 ≡ next = ap (after_by s at m.0 m.1) is.none in
      let led : IsLed s number longer next = subst (IsLed s number longer) same (led-more s number made at m was.led ahead) in
      let frames = own-frames at at.frames is.index (λ user. was.mode ∙ user-mode (is_user_behind s number made) user) is.none is.ahead was.frames was.top in (
        frames.1,
        subst (Holds s number longer) (sym same) (record {
          led = led;
          mode = ap (λ (mode : Mode). mode_after mode m.0) was.mode ∙ mode-more (is_user_behind s number made) m.0 ∙ ap mode_of (sym (user-more s number made m));
          passing = fails-more made m was.passing (passes (is_check m.0) (own-no-check s at.frames is.index m.0 is.ahead));
          untold = untold-more at.answers (length at.spots) progress was.untold (own-no-oops s at.frames m.0 m.1);
          frames = frames.0;
          top = top-fresh s number longer next next.frames led refl (ends-last made m ∙ own-no-check s at.frames is.index m.0 is.ahead) refl;
        }),
      )
    where
      passes : (check : Bool) → check ≡ false → (check && is_some (oops_in m.1)) ≡ false
      passes true is = absurd (cc)
      passes false is = refl

  -- a check that is passed
  top-passed : (at : PlayerPlace) (frames : List Frame) (check : Check) → top_check s at.passed frames ≡ Some check → check_step check ≡ m.0 → oops_in m.1 ≡ None → TopChecks s number made at frames →
      (now : PlayerPlace) → now.passed ≡ at.passed + 1 → TopChecks s number longer now frames
  top-passed at [] check is step none top now passed = tt
  top-passed at (frame ∷ below) check is step none top now passed = λ begins owner role.
      let was = top begins owner role in record {
        before = was.before;
        since = was.since ++ m ∷ [];
        whole = ap (λ (l : List StepMade). l ++ m ∷ []) was.whole ∙ append_assoc was.before was.since (m ∷ []);
        at = was.at;
        led = was.led;
        stood = was.stood;
        fresh = was.fresh;
        unchecked = was.unchecked;
        same_mode = was.same_mode ∙ sym (user-kept s number made m (check-enters check m.0 step));
        count = length-append was.since (m ∷ []) ∙ ap (λ (k : ℕ). k + 1) was.count ∙ sym passed;
        passed = λ call there. subst (λ (k : ℕ). ChecksArePassed (was.since ++ m ∷ []) (take k (checks_of call))) (sym passed)
            (zip-next Passes was.since m (checks_of call) check at.passed was.count (was.passed call there) (comes frame.role frame.stage is owner role call there) (sym step, none));
      }
    where
      comes : (role : Role) (stage : Stage) → role_check s at.passed role frame.next stage ≡ Some check → (owner : ℕ) → role ≡ Script owner → (call : Call) → slice_get (calls_of s.scripts owner) frame.next ≡ Some call →
          slice_get (checks_of call) at.passed ≡ Some check
      comes (Script own) Start is owner same call there =
          slice_get-map (check_of call) (needs_of call) at.passed
          ∙ (ap (option_and_then (call_check at.passed)) (sym there) ∙ ap (λ (r : Role). role_check s at.passed r frame.next Start) (sym same) ∙ is)
      comes role stage is owner same call there = absurd (cc)

  pub passed-holds : (at : PlayerPlace) → Holds s number made at → IsAhead s at m.0 → (is : IsCheck s at m.0) → oops_in m.1 ≡ None → Holds s number longer (after s at m.0 m.1)
  passed-holds at was ahead is none =
      let next = checked at is.check.word None (spot_of m.0 m.1) in
      let same : after s at m.0 m.1 ≡ next = ap (after_by s at m.0 m.1) is.comes ∙ ap (λ (w : Option OopsWhy). checked at is.check.word w (spot_of m.0 m.1)) none in
      subst (Holds s number longer) (sym same) (record {
        led = subst (IsLed s number longer) same (led-more s number made at m was.led ahead);
        mode = was.mode ∙ ap mode_of (sym (user-kept s number made m (check-enters is.check m.0 is.is_step)));
        passing = fails-more made m was.passing (passes (is_check m.0) (oops_in m.1) none);
        untold = was.untold;
        frames = frames-longer s number made m at.frames was.frames;
        top = top-passed at at.frames is.check (check-of-top s at.mode at.passed at.frames is.check is.comes) is.is_step none was.top next refl;
      })
    where
      passes : (check : Bool) (why : Option OopsWhy) → why ≡ None → (check && is_some why) ≡ false
      passes true None none = refl
      passes true (Some why) none = absurd (cc)
      passes false why none = refl

  -- a check that fails ends its player
  ended-by : (at : PlayerPlace) (frames : List Frame) (check : Check) (why : OopsWhy) → is_user_behind s number made ≡ true → top_check s at.passed frames ≡ Some check → check_step check ≡ m.0 → oops_in m.1 ≡ Some why →
      length at.spots ≡ length made → list_any fails made ≡ false → list_any tells_oops at.answers ≡ false → TopChecks s number made at frames →
      EndedByOops s number longer (checked at check.word (Some why) (spot_of m.0 m.1))
  ended-by at [] check why user is step failed long passing untold top = absurd (cc)
  ended-by at (frame ∷ below) check why user is step failed long passing untold top =
      let script = check-script s at.passed frame.role frame.next frame.stage check is in
      let checks = next-checked s number made at frame below check m user is step top script.0 script.1 in record {
        front = made;
        last = m;
        whole = refl;
        owner = script.0;
        next = frame.next;
        below = below;
        checks = checks.0;
        why = why;
        failed = failed;
        first = passing;
        earlier = at.answers;
        told = untold;
        answered = ap (λ (k : ℕ). at.answers ++ record { step = k; word = check.word; answer = Oops why } ∷ []) long
            ∙ ap (λ (w : Word). at.answers ++ record { step = length made; word = w; answer = Oops why } ∷ []) (sym checks.1);
        dead = refl;
        over = refl;
      }

-- only a user's calls are checked
pub checks-user : (s : Content) (mode : Mode) (passed : ℕ) (frames : List Frame) (check : Check) → next_check s mode passed frames ≡ Some check → mode ≡ User
checks-user s User passed frames check is = refl
checks-user s mode passed frames check is = absurd (cc)

-- who has ended makes no step
pub no-more : (s : Content) (at end : PlayerPlace) (more : List StepMade) → at.frames ≡ [] → at.mode ≡ Dead → IsPlayed s at more end → (more ≡ []) × (end ≡ at)
no-more s at end [] none dead led = (refl, sym led)
no-more s at end (m ∷ more) none dead led =
    absurd (let there = (cond_nil-at (nat_lt (length at.spots) (steps_of s)) (checks_first (check_at s at) (frames_attempts s at.frames)) led.0.0 m.0 led.0.1).1 in
    let no_check : check_at s at ≡ None = ap (λ (mode : Mode). next_check s mode at.passed at.frames) dead in
    let nothing : slice_get {X = Step} [] led.0.0 ≡ Some m.0 =
    ap (λ (l : List Frame). slice_get (frames_attempts s l) led.0.0) (sym none) ∙ ap (λ (c : Option Check). slice_get (checks_first c (frames_attempts s at.frames)) led.0.0) (sym no_check) ∙ there in
    cc)

-- All steps.

-- nothing says so of a player that none has ended
unended : (s : Content) (number : ℕ) (made : List StepMade) (at : PlayerPlace) → Holds s number made at → has_oops made at ≡ false
unended s number made at holds =
    by (list_any fails made) (list_any tells_oops at.answers) holds.passing holds.untold (ap is_dead holds.mode ∙ alive (is_user_behind s number made))
  where
    alive : (user : Bool) → is_dead (mode_of user) ≡ false
    alive true = refl
    alive false = refl

    by : (a b : Bool) → a ≡ false → b ≡ false → {c : Bool} → c ≡ false → (a || (b || c)) ≡ false
    by true b first second third = absurd (cc)
    by false true first second third = absurd (cc)
    by false false first second third = third

module _ (s : Content) (number : ℕ) (at end : PlayerPlace) (front : List StepMade) (m : StepMade) (more : List StepMade) (long : length at.spots ≡ length front) (holds : Holds s number front at) (ahead : IsAhead s at m.0)
    (led : IsPlayed s (after s at m.0 m.1) more end) where
  Both : Type 0
  Both = AreChecked s number front at (m ∷ more) × (has_oops (front ++ m ∷ more) end ≡ true → EndedByOops s number (front ++ m ∷ more) end)

  Rest : Type 0
  Rest = AreChecked s number (front ++ m ∷ []) (after s at m.0 m.1) more × (has_oops ((front ++ m ∷ []) ++ more) end ≡ true → EndedByOops s number ((front ++ m ∷ []) ++ more) end)

  with-rest : IsChecked s number front at.frames m → Rest → Both
  unfolding Both Rest
  with-rest here rest =
      ((here, rest.0), subst (λ (l : List StepMade). has_oops l end ≡ true → EndedByOops s number l end) (append_assoc front (m ∷ []) more) rest.1)

  by_check : (Holds s number (front ++ m ∷ []) (after s at m.0 m.1) → Rest) → (is : IsCheck s at m.0) → (why : Option OopsWhy) → oops_in m.1 ≡ why → Both
  unfolding Both
  by_check further is why is_why =
      let user = mode-user (is_user_behind s number front) at.mode holds.mode (checks-user s at.mode at.passed at.frames is.check is.comes) in
      let comes = check-of-top s at.mode at.passed at.frames is.check is.comes in
      by_why user comes (check-checked s number front at at.frames is.check m user comes is.is_step holds.top) why is_why
    where
      by_why : is_user_behind s number front ≡ true → top_check s at.passed at.frames ≡ Some is.check → IsChecked s number front at.frames m → (why : Option OopsWhy) → oops_in m.1 ≡ why → Both
      by_why user comes here None none = with-rest here (further (passed-holds s number front m at holds ahead is none))
      by_why user comes here (Some why) failed =
          let next = checked at is.check.word (Some why) (spot_of m.0 m.1) in
          let same : after s at m.0 m.1 ≡ next = ap (after_by s at m.0 m.1) is.comes ∙ ap (λ (w : Option OopsWhy). checked at is.check.word w (spot_of m.0 m.1)) failed in
          let over = no-more s (after s at m.0 m.1) end more (ap (λ (a : PlayerPlace). a.frames) same) (ap (λ (a : PlayerPlace). a.mode) same) led in
          let ended = ended-by s number front m at at.frames is.check why user comes is.is_step failed long holds.passing holds.untold holds.top in (
            (here, subst (λ (l : List StepMade). AreChecked s number (front ++ m ∷ []) (after s at m.0 m.1) l) (sym over.0) tt),
            λ told. subst (λ (l : List StepMade). EndedByOops s number (front ++ m ∷ l) end) (sym over.0)
                (subst (λ (a : PlayerPlace). EndedByOops s number (front ++ m ∷ []) a) (sym (over.1 ∙ same)) ended),
          )

  step-checked : (Holds s number (front ++ m ∷ []) (after s at m.0 m.1) → Rest) → Both
  step-checked further = by (one-or-other s at m.0 ahead) where
    by : IsCheck s at m.0 ⊎ IsOwn s at m.0 → Both
    by (inl is) = by_check further is (oops_in m.1) refl
    by (inr is) = let own = own-holds s number front m at holds ahead is in with-rest own.0 (further own.1)

played-checked : (s : Content) (number : ℕ) (at end : PlayerPlace) (front made : List StepMade) → length at.spots ≡ length front → Holds s number front at → IsPlayed s at made end →
    AreChecked s number front at made × (has_oops (front ++ made) end ≡ true → EndedByOops s number (front ++ made) end)
unfolding Both Rest
played-checked s number at end front [] long holds led =
    (tt, λ told. absurd (let none = ap (λ (l : List StepMade). has_oops l end) (append-nil front) ∙ ap (has_oops front) (sym led) ∙ unended s number front at holds in cc))
played-checked s number at end front (m ∷ more) long holds led =
    let longer : length (after s at m.0 m.1).spots ≡ length (front ++ m ∷ []) =
    ap (λ (l : List Spot). length l) (after-spots s at m.0 m.1).1
    ∙ (let spots = length-append at.spots (spot_of m.0 m.1 ∷ []) in let all = length-append front (m ∷ []) in omega (arith, long, spots, all)) in
    step-checked s number at end front m more long holds led.0 led.1
    (λ next. played-checked s number (after s at m.0 m.1) end (front ++ m ∷ []) more longer next led.1)

-- A player from its start.

pub starts-holding : (s : Content) (number : ℕ) (at : PlayerPlace) → start_at s number ≡ Some at → Holds s number [] at × (at.spots ≡ [])
starts-holding s number at is =
    let inner : ℕ → Option PlayerPlace = λ object. option_map (starting s number object) (slice_get s.decls object) in
    option_and_then_some inner (slice_get (players s.decls) number) at is (λ object found made. by_decl object found (slice_get s.decls object) refl made)
  where
    declared : (decl : Decl) → start_mode decl ≡ mode_of (is_user decl)
    declared (decls_of.Thread name prio true) = refl
    declared (decls_of.Thread name prio false) = refl
    declared decl = refl

    as_declared : (object : ℕ) → slice_get (players s.decls) number ≡ Some object → (decl : Decl) → slice_get s.decls object ≡ Some decl → is_user_behind s number [] ≡ is_user decl
    as_declared object found decl there =
        ap (λ (o : Option ℕ). option_map_or (is_at is_user s.decls) o false || false) found ∙ ap (λ (d : Option Decl). option_map_or is_user d false || false) there ∙ by (is_user decl)
      where
        by : (b : Bool) → (b || false) ≡ b
        by true = refl
        by false = refl

    by_decl : (object : ℕ) → slice_get (players s.decls) number ≡ Some object → (decl : Option Decl) → slice_get s.decls object ≡ decl → option_map (starting s number object) decl ≡ Some at →
        Holds s number [] at × (at.spots ≡ [])
    by_decl object found None there made = absurd (cc)
    by_decl object found (Some decl) there made =
        let first : PlayerPlace = starting s number object decl in
        let same : first ≡ at = same_Some first at made in
        let led : IsLed s number [] first = (at, is, sym same) in
        subst (λ (a : PlayerPlace). Holds s number [] a × (a.spots ≡ [])) same (
          record {
            led = led;
            mode = declared decl ∙ ap mode_of (sym (as_declared object found decl there));
            passing = refl;
            untold = refl;
            frames = settled-checked s number [] (first_frame (role_at decl object) ∷ []) ((λ begun owner role. absurd (cc)), tt);
            top = top-fresh s number [] first first.frames led refl refl refl;
          },
          refl,
        )

-- each check is one that a user's call has to make, each other step of a user's call comes behind all its checks, and
-- a player that a check has ended was ended by its last step
pub each_user_is_checked : EachUserIsChecked
each_user_is_checked s number shown at is =
    let start = starts-holding s number is.start is.starts in
    played-checked s number is.start at [] is.made (ap (λ (l : List Spot). length l) start.1) start.0 is.played
