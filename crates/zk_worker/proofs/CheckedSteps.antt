-- A step of a player is the check that comes next, or where none does a step of its innermost open script or run.
use Rattle.std.proofs.Common.{◌≡◌, ◌⊎◌, inl, inr, ℕ, ◌≤◌, Option, Some, None, List, [], ◌∷◌, ◌++◌, length, nat_lt, refl, sym, ap, subst, ◌∙◌}
use Rattle.std.specs.List.{slice_get}
use Rattle.zk_base.proofs.Lists.{slice_get-one, cond_nil-at}
use Rattle.zk_model_bus.specs.declared.table.OopsWhy.{OopsWhy}
use Rattle.zk_scenario.specs.Content.{Content}
use Rattle.zk_words.specs.declared.word.Word.{Word}
use Rattle.zk_worker.specs.declared.checks.Check.{Check}
use Rattle.zk_scenario.specs.Steps.{steps_of}
use Rattle.zk_worker.specs.declared.steps.Step.{Step}
use Rattle.zk_worker.specs.declared.steps.StepReply.{StepReply}
use Rattle.zk_worker.specs.declared.steps.Spot.{Spot}
use Rattle.zk_worker.specs.declared.checks.Mode.{Mode}
use Rattle.zk_worker.specs.declared.checks.Mode.TheVariants.{User}
use Rattle.zk_worker.specs.declared.frames.Frame.{Frame}
use Rattle.zk_worker.specs.declared.frames.Role.{Role}
use Rattle.zk_worker.specs.declared.frames.Role.TheVariants.{Script}
use Rattle.zk_worker.specs.declared.frames.Stage.{Stage}
use Rattle.zk_worker.specs.declared.frames.Stage.TheVariants.{Start}
use Rattle.zk_worker.specs.Checks.{role_check, top_check, next_check, check_step, oops_in}
use Rattle.zk_worker.specs.Places.{PlayerPlace}
use Rattle.zk_worker.specs.Protocol.{IsAhead, after, after_by, checks_first, checked, frames_attempts, frames_progress, moved, spot_of}

-- the check that comes next, at a place of a player
abbrev pub check_at : Content → PlayerPlace → Option Check
check_at s at = next_check s at.mode at.passed at.frames

-- the step is the check that comes next
pub record IsCheck (s : Content) (at : PlayerPlace) (step : Step) : Type 0 where
  pub check : Check
  pub comes : check_at s at ≡ Some check
  pub is_step : check_step check ≡ step

-- no check comes next, and the step is an attempt of the innermost open script or run
pub record IsOwn (s : Content) (at : PlayerPlace) (step : Step) : Type 0 where
  pub none : check_at s at ≡ None
  pub index : ℕ
  pub ahead : slice_get (frames_attempts s at.frames) index ≡ Some step

pub one-or-other : (s : Content) (at : PlayerPlace) (step : Step) → IsAhead s at step → IsCheck s at step ⊎ IsOwn s at step
one-or-other s at step ahead = by (check_at s at) refl where
  by : (check : Option Check) → check_at s at ≡ check → IsCheck s at step ⊎ IsOwn s at step
  by (Some check) is = inl (record {
    check = check;
    comes = is;
    is_step = slice_get-one (check_step check) step ahead.0 (ap (λ (c : Option Check). slice_get (checks_first c (frames_attempts s at.frames)) ahead.0) (sym is)
        ∙ (cond_nil-at (nat_lt (length at.spots) (steps_of s)) (checks_first (check_at s at) (frames_attempts s at.frames)) ahead.0 step ahead.1).1);
  })
  by None is = inr (record {
    none = is;
    index = ahead.0;
    ahead = ap (λ (c : Option Check). slice_get (checks_first c (frames_attempts s at.frames)) ahead.0) (sym is)
        ∙ (cond_nil-at (nat_lt (length at.spots) (steps_of s)) (checks_first (check_at s at) (frames_attempts s at.frames)) ahead.0 step ahead.1).1;
  })

-- what holds after a check, and after a step of the innermost open script or run, holds after each step
pub turn : (P : PlayerPlace → Type 0) (s : Content) (at : PlayerPlace) (step : Step) (reply : StepReply) → IsAhead s at step →
    ((is : IsCheck s at step) → P (checked at is.check.word (oops_in reply) (spot_of step reply))) →
    (IsOwn s at step → P (moved s at step (frames_progress s at.frames step reply) (spot_of step reply))) → P (after s at step reply)
turn P s at step reply ahead check own = by (one-or-other s at step ahead) where
  by : IsCheck s at step ⊎ IsOwn s at step → P (after s at step reply)
  by (inl is) = subst (λ (c : Option Check). P (after_by s at step reply c)) (sym is.comes) (check is)
  by (inr is) = subst (λ (c : Option Check). P (after_by s at step reply c)) (sym is.none) (own is)

-- a player stays who it is, and its step is recorded
pub after-spots : (s : Content) (at : PlayerPlace) (step : Step) (reply : StepReply) →
    ((after s at step reply).who ≡ at.who) × ((after s at step reply).spots ≡ at.spots ++ spot_of step reply ∷ [])
after-spots s at step reply = by (check_at s at) where
  by_why : (word : Word) (why : Option OopsWhy) (spot : Spot) → ((checked at word why spot).who ≡ at.who) × ((checked at word why spot).spots ≡ at.spots ++ spot ∷ [])
  by_why word None spot = (refl, refl)
  by_why word (Some why) spot = (refl, refl)

  by : (check : Option Check) → ((after_by s at step reply check).who ≡ at.who) × ((after_by s at step reply check).spots ≡ at.spots ++ spot_of step reply ∷ [])
  by (Some check) = by_why check.word (oops_in reply) (spot_of step reply)
  by None = (refl, refl)

-- and it keeps its room
pub after-most : (s : Content) (at : PlayerPlace) (step : Step) (reply : StepReply) → (after s at step reply).most ≡ at.most
after-most s at step reply = by (check_at s at) where
  by_why : (word : Word) (why : Option OopsWhy) (spot : Spot) → (checked at word why spot).most ≡ at.most
  by_why word None spot = refl
  by_why word (Some why) spot = refl

  by : (check : Option Check) → (after_by s at step reply check).most ≡ at.most
  by (Some check) = by_why check.word (oops_in reply) (spot_of step reply)
  by None = refl

-- only a user's call is at its checks, and it is the innermost
pub check-of-top : (s : Content) (mode : Mode) (passed : ℕ) (frames : List Frame) (check : Check) → next_check s mode passed frames ≡ Some check → top_check s passed frames ≡ Some check
check-of-top s User passed frames check is = is
check-of-top s mode passed frames check is = absurd (cc)

-- it has made no other step
pub check-starts : (s : Content) (passed : ℕ) (role : Role) (next : ℕ) (stage : Stage) (check : Check) → role_check s passed role next stage ≡ Some check → stage ≡ Start
check-starts s passed (Script owner) next Start check is = refl
check-starts s passed role next stage check is = absurd (cc)

-- a check is one attempt
pub checks_first-few : (most : ℕ) (check : Option Check) (own : List Step) → 1 ≤ most → length own ≤ most → length (checks_first check own) ≤ most
checks_first-few most (Some check) own one few = one
checks_first-few most None own one few = few
