-- Inner: no contract of a top call is made of this file.
use Rattle.std.specs.Prelude.{List}
use Rattle.zk_base.specs.declared.ids.Entry.{Entry}
use Rattle.zk_model_bus.specs.declared.table.TableOp.{TableOp}
use Rattle.zk_model_bus.specs.declared.table.TableReply.{TableReply}
use Rattle.zk_model_bus.specs.Table.{Table}
use Rattle.zk_objects.specs.declared.objects.Objects.{Objects}

-- the state that the service began in
abbrev pub objects_start : Objects → Table
objects_start s = s.inner.start

-- all that was done at it, oldest first
abbrev pub objects_history : Objects → List (Entry TableOp TableReply)
objects_history s = s.inner.history
