use Rattle.std.specs.Prelude.{ℕ, Bool, true, not, ◌&&◌, Some, None, List, map}
use Rattle.zk_line.specs.declared.types.Decl.{Decl}
use Rattle.zk_line.specs.Objects.{kind_of, is_raw, is_user, is_thread, is_at, is_met, number_of, places}
use Rattle.zk_base.specs.declared.kinds.Need.TheVariants as needs
use Rattle.zk_model_bus.specs.declared.table.TableOp.{TableOp}
use Rattle.zk_model_bus.specs.declared.table.TableOp.TheVariants as table_ops
use Rattle.zk_model_bus.specs.Table.{Setup}
use Rattle.zk_scenario.specs.Content.{Content}
use Rattle.zk_scenario.specs.Written.{allowed}

-- a thread, as the number of its object and whether it is a user
abbrev pub thread_of : List Decl → ℕ → ℕ × Bool
thread_of decls object = (object, is_at is_user decls object)

-- a permission, as the number of the thread among the players and that of the object
abbrev pub permission_of : List Decl → ℕ × ℕ → ℕ × ℕ
permission_of decls pair = (number_of decls pair.0, pair.1)

-- what a scenario declares of objects, threads and permissions
abbrev pub setup_of : Content → Setup
setup_of s = record {
  kinds = map kind_of s.decls;
  ready = map (λ decl. not (is_raw decl)) s.decls;
  threads = map (thread_of s.decls) (places is_thread s.decls);
  allowed = map (permission_of s.decls) (allowed s);
}

-- whether there is an object of this number
abbrev pub is_object : List Decl → ℕ → Bool
is_object decls object = is_at (is_met needs.Any) decls object

-- whether the objects that an operation of the table names are declared, and threads where it asks for such
abbrev pub names_declared : List Decl → TableOp → Bool
names_declared decls (table_ops.Check None need) = true
names_declared decls (table_ops.Check (Some object) need) = is_object decls object
names_declared decls (table_ops.Grant thread object) =
    is_at (is_met needs.Thread) decls thread && is_object decls object
names_declared decls (table_ops.Revoke thread object) =
    is_at (is_met needs.Thread) decls thread && is_object decls object
names_declared decls (table_ops.Release object) = is_object decls object
names_declared decls (table_ops.Public object) = is_object decls object
names_declared decls (table_ops.Init object) = is_object decls object
names_declared decls table_ops.EnterUser = true
