-- Inner: no contract of a top call is made of this file.
use Rattle.std.specs.Prelude.{◌≡◌, ℕ, ◌+◌, ◌*◌, ◌-◌, ◌^◌, ◌<◌, ◌≤◌, ◌==◌, ◌&&◌, if◌then◌else◌, max, count_by, nat_eq, length, vec_len, vec_capacity}
use Rattle.std.specs.HashMap.{get, spare}
use Rattle.std.specs.Option.{unwrap_or}
use Rattle.zk_model_wait.specs.Clock.{Clock, IsTimely, is_alarm}
use Rattle.zk_time.specs.declared.alarms.Alarms.{Alarms}
use Rattle.zk_time.specs.declared.clock_engine.ClockEngine.{ClockEngine}

-- an alarm of this player and moment, as one number
abbrev pub key_of : ℕ → ℕ → ℕ
key_of player moment = player * 2 ^ 64 + moment

-- how often such an alarm is there
abbrev pub how_often : Alarms → ℕ → ℕ → ℕ
how_often a player moment =
    count_by (is_alarm player moment) a.few.items + unwrap_or (get nat_eq a.more (key_of player moment)) 0

-- how many alarms fit without memory, at least
abbrev pub alarms_room : Alarms → ℕ
alarms_room a = max (vec_capacity a.few - vec_len a.few) (spare a.more)

-- 1 for this player and moment, else 0
abbrev pub one_at : ℕ → ℕ → ℕ → ℕ → ℕ
one_at player moment p m = if player == p && moment == m then 1 else 0

-- one alarm more, of this player and moment
abbrev pub IsOneMore : ℕ → ℕ → Alarms → Alarms → Type 0
IsOneMore player moment before after = (p m : ℕ) → m < 2 ^ 64 →
    how_often after p m ≡ how_often before p m + one_at player moment p m

-- each alarm is there as often as before
abbrev pub AreSame : Alarms → Alarms → Type 0
AreSame before after = (p m : ℕ) → how_often after p m ≡ how_often before p m

-- the engine stands for a clock: of each alarm it knows how often it is there
pub record StandsFor (e : ClockEngine) (c : Clock) : Type 0 where
  pub time : e.time ≡ c.time
  pub entries : e.entries ≡ c.entries
  pub timely : IsTimely e.time e.entries
  pub fewer : e.alarms.count ≤ e.entries
  pub count : e.alarms.count ≡ length c.alarms
  pub often : (player moment : ℕ) → moment < 2 ^ 64 →
      how_often e.alarms player moment ≡ count_by (is_alarm player moment) c.alarms
