-- Inner: no contract of a top call is made of this file.
use Rattle.std.specs.Prelude.{◌≡◌, ℕ, ◌<◌, false, length, map, slice_index_or}
use Rattle.zk_model_trigger.specs.Arms.{is_among, waiting}
use Rattle.zk_model_trigger.specs.Machine.{Triggers, IsTimely}
use Rattle.zk_model_trigger.specs.Steady.{IsSteady}
use Rattle.zk_trigger.specs.declared.engine.TriggerEngine.{TriggerEngine}
use Rattle.zk_trigger.specs.Live.{kept, kept_fire}

-- the engine stands for a state: it keeps the arms that wait and the fires that aren't taken
pub record StandsFor (e : TriggerEngine) (s : Triggers) : Type 0 where
  pub now : e.now ≡ s.now
  pub entries : e.entries ≡ s.entries
  pub made : e.made ≡ length s.arms
  pub timely : IsTimely s.now s.entries (length s.arms)
  pub long : length e.ready ≡ 64
  pub ready : (event : ℕ) → event < 64 → slice_index_or e.ready event false ≡ is_among s.ready event
  pub waiting : e.live.waiting ≡ map kept (waiting s.arms)
  pub fires : e.live.fires ≡ map kept_fire s.fires
  pub steady : IsSteady s
