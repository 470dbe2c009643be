use Rattle.std.proofs.Common.{◌≡◌, ◌≤◌, ◌++◌, length, map, option_map, All, vec_len, vec_capacity}
use Rattle.std.specs.Vec.Iter.{into_iter_items}
use Rattle.zk_base.specs.Legal.{IsLegal}
use Rattle.zk_cells.specs.Dealt.{AllLeft}
use Rattle.zk_cells.specs.Kernels.{HasWhole}
use Rattle.zk_cells.specs.Rows.{starts_in}
use Rattle.zk_cells.proofs.opening.open_row.Given as goal

abbrev pub invariant-loop-service : goal.invariant-loop-service
invariant-loop-service g l = record {
  items : l.yielded ++ into_iter_items l.service-iterator ≡ l.fn.services.items;
  starts : starts_in g.S.Service.start l.cells.items ≡ map (option_map g.S.Service.start) l.yielded;
  whole : All (HasWhole (length l.whos)) l.cells.items;
  passes : AllLeft (IsLegal g.S.Service.machine) g.S.Service.start l.whos l.cells.items l.lists.items;
  made : (vec_len l.cells ≡ length l.yielded) × (vec_len l.lists ≡ length l.yielded);
  room : (length l.fn.services.items ≤ vec_capacity l.cells) × (length l.fn.services.items ≤ vec_capacity l.lists);
}
