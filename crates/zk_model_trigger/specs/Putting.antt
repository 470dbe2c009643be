-- Inner: no contract of a top call is made of this file.
use Rattle.std.specs.Prelude.{List, [], ◌∷◌, ◌++◌}
use Rattle.zk_base.specs.Order.{put_by}
use Rattle.zk_model_trigger.specs.declared.parts.Arm.{Arm}
use Rattle.zk_model_trigger.specs.declared.parts.Occasion.{Occasion}
use Rattle.zk_model_trigger.specs.declared.parts.Occasion.TheVariants.{Posted, Reached}
use Rattle.zk_model_trigger.specs.Arms.{deadline_of}

-- one arm more, where it fires in order
abbrev pub put_in : Occasion → Arm → List Arm → List Arm
put_in (Posted event) a arms = arms ++ a ∷ []
put_in (Reached time) a arms = put_by deadline_of a arms
