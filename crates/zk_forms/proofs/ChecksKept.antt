-- The users of a lawful trace are checked before all else.
use Rattle.std.proofs.Common.{◌≡◌, Bool, true, false, cond, List, refl, ap, subst, ◌∙◌}
use Rattle.std.specs.List.{AllZip}
use Rattle.zk_scenario.specs.Content.{Content}
use Rattle.zk_worker.specs.declared.checks.Mode.{Mode}
use Rattle.zk_worker.specs.declared.checks.Mode.TheVariants.{Supervisor, User, Dead}
use Rattle.zk_worker.specs.declared.log.Log.{Log}
use Rattle.zk_worker.specs.declared.log.PlayerState.TheVariants.{Spent, Oops, Done, Standing}
use Rattle.zk_worker.specs.declared.steps.Spot.{Spot}
use Rattle.zk_worker.specs.Follows.{Stands, is_spent_at, is_dead, is_done, state_at}
use Rattle.zk_worker.specs.Places.{PlayerPlace}
use Rattle.zk_player_laws.proofs.UsersChecked.{each_user_is_checked}
use Rattle.zk_trace.specs.declared.trace.Trace.{Trace}
use Rattle.zk_trace.specs.Lawful.{IsLawful}
use Rattle.zk_trace.specs.Shown.{trace_shown}
use Rattle.zk_forms.specs.UserChecks.{EachChecksFirst}

-- who is told as ended by an oops is so
oops-dead : (s : Content) (at : PlayerPlace) → state_at s at ≡ Oops → at.mode ≡ Dead
oops-dead s at is = by (is_spent_at s at) at.mode (is_done at.frames) is where
  by_done : (done : Bool) → cond done Done Standing ≡ Oops → {A : Type 0} → A
  by_done true is = absurd (cc)
  by_done false is = absurd (cc)

  by : (spent : Bool) (mode : Mode) (done : Bool) → cond spent Spent (cond (is_dead mode) Oops (cond done Done Standing)) ≡ Oops → mode ≡ Dead
  by true mode done is = absurd (cc)
  by false Dead done is = refl
  by false Supervisor done is = by_done done is
  by false User done is = by_done done is

-- each log of a lawful trace has checked first
pub checks-kept : (s : Content) (t : Trace) → IsLawful s t → EachChecksFirst s t
checks-kept s t lawful number log is =
    let follows = lawful.log.follow number log is in
    let steps : follows.end.spots ≡ log.steps = ap (λ (l : Log). l.steps) follows.logged in
    let state : state_at s follows.end ≡ log.state = ap (λ (l : Log). l.state) follows.logged in
    let all = each_user_is_checked s number (trace_shown t) follows.end follows.led in
    record {
      start = follows.led.start;
      starts = follows.led.starts;
      made = follows.led.made;
      stands = subst (λ (x : List Spot). AllZip (Stands (trace_shown t)) x follows.led.made) steps follows.led.stands;
      end = follows.end;
      led = follows.led.played;
      logged = follows.logged;
      checked = all.0;
      told = λ oops. oops-dead s follows.end (state ∙ oops);
      ended = all.1;
    }
