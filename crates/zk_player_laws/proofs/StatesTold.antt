-- The log of a player tells the state of its last place.
use Rattle.std.proofs.Common.{◌≡◌, inl, inr, ℕ, ◌+◌, ◌<◌, ◌≤◌, ◌&&◌, ◌||◌, Bool, true, false, cond, is_some, List, [], ◌∷◌, ◌++◌, length, refl, ap, subst, ◌∙◌, arith}
use Rattle.std.specs.List.{list_any}
use Rattle.std.proofs.lemmas.Bool.{both_ways, leb-true, leb-false}
use Rattle.std.proofs.lemmas.List.{length_push}
use Rattle.std.proofs.lemmas.List.Folds.{list_any-append}
use Rattle.zk_scenario.specs.Content.{Content}
use Rattle.zk_worker.specs.declared.frames.Frame.{Frame}
use Rattle.zk_worker.specs.declared.frames.Role.{Role}
use Rattle.zk_worker.specs.declared.frames.Role.TheVariants.{Worker}
use Rattle.zk_worker.specs.declared.frames.Stage.{Stage}
use Rattle.zk_worker.specs.declared.frames.Stage.TheVariants.{Start}
use Rattle.zk_worker.specs.declared.log.PlayerState.TheVariants.{Spent, Oops, Done, Standing}
use Rattle.zk_worker.specs.declared.steps.Spot.{Spot}
use Rattle.zk_scenario.specs.Steps.{steps_of}
use Rattle.zk_player_laws.specs.CheckLaws.{is_check, fails, tells_oops, has_oops, EndedByOops}
use Rattle.zk_worker.specs.Checks.{oops_in}
use Rattle.zk_worker.specs.Follows.{StepMade, IsPlayed, is_between, is_done, is_dead, is_spent_at}
use Rattle.zk_worker.specs.Places.{PlayerPlace}
use Rattle.zk_worker.specs.Protocol.{after, spot_of}
use Rattle.zk_player_laws.specs.StateLaws.{IsAtRest, IsStateOf, EachStateTells, EachLogIsWhole}
use Rattle.zk_worker.proofs.CheckedSteps.{after-spots}
use Rattle.zk_worker.proofs.Limits.{ahead_left}
use Rattle.zk_worker.proofs.Starts.{start_at-fresh}
use Rattle.zk_player_laws.proofs.UsersChecked.{each_user_is_checked}

-- What is open.

rests : (frames : List Frame) → is_done frames ≡ true → IsAtRest frames
rests [] is = inl refl
rests (frame ∷ []) is = by frame.role frame.stage refl refl is where
  by : (role : Role) (stage : Stage) → frame.role ≡ role → frame.stage ≡ stage → is_between role stage ≡ true → IsAtRest (frame ∷ [])
  by (Worker queue) Start role stage is = inr (
    queue,
    frame.next,
    ap (λ (r : Role). record { role = r; next = frame.next; stage = frame.stage } ∷ []) role ∙ ap (λ (t : Stage). record { role = Worker queue; next = frame.next; stage = t } ∷ []) stage,
  )
  by role stage is_role is_stage is = absurd (cc)
rests (frame ∷ next ∷ below) is = absurd (cc)

rested : (frames : List Frame) → IsAtRest frames → is_done frames ≡ true
rested frames (inl none) = ap is_done none
rested frames (inr between) = ap is_done between.2

-- How many steps.

-- a player records as many steps as it makes, and no more than it may
counted : (s : Content) (made : List StepMade) (at end : PlayerPlace) → IsPlayed s at made end → length end.spots ≡ length at.spots + length made
counted s [] at end led = let same = ap (λ (a : PlayerPlace). length a.spots) led in omega (arith, same)
counted s (m ∷ more) at end led =
    let rest = counted s more (after s at m.0 m.1) end led.1 in
    let here = ap (λ (l : List Spot). length l) (after-spots s at m.0 m.1).1 ∙ length_push at.spots (spot_of m.0 m.1) in
    omega (arith, rest, here)

short : (s : Content) (made : List StepMade) (at end : PlayerPlace) → length at.spots ≤ steps_of s → IsPlayed s at made end → length end.spots ≤ steps_of s
short s [] at end few led = subst (λ (a : PlayerPlace). length a.spots ≤ steps_of s) led few
short s (m ∷ more) at end few led =
    let here = ap (λ (l : List Spot). length l) (after-spots s at m.0 m.1).1 ∙ length_push at.spots (spot_of m.0 m.1) in
    let below = ahead_left s at m.0 led.0 in
    short s more (after s at m.0 m.1) end (omega (arith, here, below)) led.1

-- Whether a check has failed.

module _ (s : Content) (number : ℕ) (made : List StepMade) (at : PlayerPlace) (ended : has_oops made at ≡ true → EndedByOops s number made at) where
  failed-last : (front : List StepMade) (last : StepMade) → is_check last.0 ≡ true → is_some (oops_in last.1) ≡ true → list_any fails (front ++ last ∷ []) ≡ true
  failed-last front last is why =
      list_any-append fails front (last ∷ []) ∙ ap (λ (b : Bool). list_any fails front || ((b && is_some (oops_in last.1)) || false)) is
      ∙ ap (λ (b : Bool). list_any fails front || (b || false)) why ∙ by (list_any fails front)
    where
      by : (b : Bool) → (b || true) ≡ true
      by true = refl
      by false = refl

  -- one has, where the player was ended by one
  dead-fails : is_dead at.mode ≡ true → list_any fails made ≡ true
  dead-fails dead =
      let by = ended (ap (λ (b : Bool). list_any fails made || (list_any tells_oops at.answers || b)) dead ∙ any (list_any fails made) (list_any tells_oops at.answers)) in
      ap (list_any fails) by.whole ∙ failed-last by.front by.last (ap is_check by.checks.makes) (ap is_some by.failed)
    where
      any : (a b : Bool) → (a || (b || true)) ≡ true
      any true b = refl
      any false true = refl
      any false false = refl

  -- and else none has
  alive-passes : is_dead at.mode ≡ false → list_any fails made ≡ false
  alive-passes alive = by (list_any fails made) refl where
    by : (b : Bool) → list_any fails made ≡ b → list_any fails made ≡ false
    by false none = none
    by true is =
        let end = ended (ap (λ (b : Bool). b || (list_any tells_oops at.answers || is_dead at.mode)) is) in
        absurd (both_ways (is_dead at.mode) alive (ap is_dead end.dead))

pub each_state_tells : EachStateTells
each_state_tells s number shown at is = by (is_spent_at s at) (is_dead at.mode) (is_done at.frames) refl refl refl
  where
    none : length is.start.spots ≡ 0
    none = ap (λ (l : List Spot). length l) (start_at-fresh s number is.start is.starts).none_made

    count : length at.spots ≡ length is.made
    count = let all = counted s is.made is.start at is.played in omega (arith, all, none)

    few : length at.spots ≤ steps_of s
    few = short s is.made is.start at (omega (arith, none)) is.played

    ended : has_oops is.made at ≡ true → EndedByOops s number is.made at
    ended = (each_user_is_checked s number shown at is).1

    left : is_spent_at s at ≡ false → length is.made < steps_of s
    left unspent = let many = leb-false (steps_of s) (length at.spots) unspent in omega (arith, count, many)

    all : is_spent_at s at ≡ true → length is.made ≡ steps_of s
    all spent = let many = leb-true (steps_of s) (length at.spots) spent in omega (arith, count, many, few)

    by : (spent dead done : Bool) → is_spent_at s at ≡ spent → is_dead at.mode ≡ dead → is_done at.frames ≡ done → IsStateOf s is.made at (cond spent Spent (cond dead Oops (cond done Done Standing)))
    by true dead done is_spent dies rest = all is_spent
    by false true done unspent dies rest = (left unspent, dead-fails s number is.made at ended dies)
    by false false true unspent lives rest = (left unspent, alive-passes s number is.made at ended lives, rests at.frames rest)
    by false false false unspent lives open_ =
        (left unspent, alive-passes s number is.made at ended lives, λ rest. both_ways (is_done at.frames) open_ (rested at.frames rest))

-- What is logged.

pub each_log_is_whole : EachLogIsWhole
each_log_is_whole s at = (refl, refl)
