-- What an operation of the object table names is in range at its machine, where it is declared.
use Rattle.std.proofs.Common.{◌≡◌, ℕ, zero, suc, ◌<◌, true, false, nat_lt, ◌&&◌, Some, None, List, [], ◌∷◌, length, map, refl, ◌∙◌, arith}
use Rattle.std.proofs.lemmas.Bool.{and_parts, and_from, lt-ltb}
use Rattle.std.specs.List.{slice_get}
use Rattle.std.specs.Option.{option_map_or}
use Rattle.zk_line.specs.declared.types.Decl.{Decl}
use Rattle.zk_line.specs.Objects.{kind_of, is_at, is_met}
use Rattle.zk_base.specs.declared.kinds.Need.{Need}
use Rattle.zk_base.specs.declared.kinds.Need.TheVariants as needs
use Rattle.zk_model_bus.specs.declared.table.TableOp.{TableOp}
use Rattle.zk_model_bus.specs.declared.table.TableOp.TheVariants as table_ops
use Rattle.zk_base.specs.Kinds as base
use Rattle.zk_model_bus.specs.Table as tables
use Rattle.zk_scenario.specs.Content.{Content}
use Rattle.zk_worker.specs.TableSetup.{setup_of, is_object, names_declared}

-- the kinds of all objects say which of them meet a need
pub met-at : (need : Need) (decls : List Decl) (object : ℕ) →
    option_map_or (base.meets need) (slice_get (map kind_of decls) object) false ≡ is_at (is_met need) decls object
met-at need [] object = refl
met-at need (d ∷ ds) zero = refl
met-at need (d ∷ ds) (suc object) = met-at need ds object

-- and how many there are
below : (decls : List Decl) (object : ℕ) → is_object decls object ≡ true → object < length (map kind_of decls)
below [] object is = absurd (cc)
below (d ∷ ds) zero is = omega arith
below (d ∷ ds) (suc object) is = let more = below ds object is in omega arith

object-at : (decls : List Decl) (object : ℕ) → is_object decls object ≡ true → nat_lt object (length (map kind_of decls)) ≡ true
object-at decls object is = lt-ltb object (length (map kind_of decls)) (below decls object is)

thread-at : (decls : List Decl) (thread object : ℕ) → (is_at (is_met needs.Thread) decls thread && is_object decls object) ≡ true →
    (option_map_or (base.meets needs.Thread) (slice_get (map kind_of decls) thread) false && nat_lt object (length (map kind_of decls))) ≡ true
thread-at decls thread object both =
    let parts = and_parts (is_at (is_met needs.Thread) decls thread) (is_object decls object) both in
    and_from (option_map_or (base.meets needs.Thread) (slice_get (map kind_of decls) thread) false) (nat_lt object (length (map kind_of decls)))
    (met-at needs.Thread decls thread ∙ parts.0) (object-at decls object parts.1)

-- so it is of an operation
pub names-declared : (s : Content) (op : TableOp) → names_declared s.decls op ≡ true → tables.names_objects (setup_of s) op ≡ true
names-declared s (table_ops.Check None need) fits = refl
names-declared s (table_ops.Check (Some object) need) fits = object-at s.decls object fits
names-declared s (table_ops.Grant thread object) fits = thread-at s.decls thread object fits
names-declared s (table_ops.Revoke thread object) fits = thread-at s.decls thread object fits
names-declared s (table_ops.Release object) fits = object-at s.decls object fits
names-declared s (table_ops.Public object) fits = object-at s.decls object fits
names-declared s (table_ops.Init object) fits = object-at s.decls object fits
names-declared s table_ops.EnterUser fits = refl
