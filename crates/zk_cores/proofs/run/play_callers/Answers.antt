use Rattle.std.proofs.Common.{◌≡◌, length, Option, List, map, All, ap, sym, subst, ◌∙◌, arith}
use Rattle.zk_pool.specs.Counts.{tally}
use Rattle.zk_pool.specs.Rule.{Suits}
use Rattle.zk_cells.specs.Kernels.{Shared}
use Rattle.zk_cores.specs.declared.seat.Seat.{Seat}
use Rattle.zk_cores.specs.Seats.{seat_number, seat_kernel, IsSeated}
use Rattle.zk_cores.proofs.Seated.{as-many, pool-home, one-home, all-seated, once-back}
use Rattle.zk_cores.proofs.run.play_callers.Goals as goal

pub new-requires-clause-items : goal.new-requires-clause-items
new-requires-clause-items g c =
    let long = as-many c.in_ok-seats.seats.items c.args.callers.items c.in_ok-seats.ensures.callers in
    let some = c.requires.some in
    omega arith

pub new-requires-clause-home : goal.new-requires-clause-home
new-requires-clause-home g c =
    let long = as-many c.in_ok-seats.seats.items c.args.callers.items c.in_ok-seats.ensures.callers in
    let some = c.requires.some in
    one-home c.args.kernel.now c.in_ok-seats.seats.items (omega arith) c.in_ok-seats.ensures.suits

pub new-requires-clause-kept : goal.new-requires-clause-kept
new-requires-clause-kept g c = all-seated c.args.kernel.now c.in_ok-seats.seats.items c.in_ok-seats.ensures.suits

pub play_cores-requires-clause-some : goal.play_cores-requires-clause-some
play_cores-requires-clause-some g c κs within =
    let core_list = c.in_ok-core_list.core_list in
    let many : length core_list.items ≡ c.args.cores = c.in_ok-core_list.ensures.count ∙ c.in_ok-pool.ensures.count in
    omega (arith, many, core_list.ok.0, c.requires.cores)

pub play_cores-requires-clause-home : goal.play_cores-requires-clause-home
play_cores-requires-clause-home g c κs within =
    let long = as-many c.in_ok-seats.seats.items c.args.callers.items c.in_ok-seats.ensures.callers in
    let some = c.requires.some in
    pool-home c.args.kernel.now c.in_ok-pool.pool c.in_ok-seats.seats.items c.in_ok-pool.ensures.pool.0 (omega arith) c.in_ok-seats.ensures.suits

pub close-seats-requires-clause-all : goal.close-seats-requires-clause-all
close-seats-requires-clause-all g c =
    c.in_ok-hands.ensures.count ∙ c.play_cores.ensures.count ∙ c.in_ok-core_list.ensures.count ∙ c.in_ok-pool.ensures.count ∙ sym c.in_ok-pool.ensures.pool.1

pub unseat_all-requires-clause-suits : goal.unseat_all-requires-clause-suits
unseat_all-requires-clause-suits g c =
    let given = c.in_ok-seats.seats.items in
    let long = as-many given c.args.callers.items c.in_ok-seats.ensures.callers in
    let some = c.requires.some in
    let home = pool-home c.args.kernel.now c.in_ok-pool.pool given c.in_ok-pool.ensures.pool.0 (omega arith) c.in_ok-seats.ensures.suits in
    subst (λ (home : Option Shared). All (Suits seat_number seat_kernel IsSeated home) c.close-seats.result.items) home c.close-seats.ensures.suits

pub unseat_all-requires-clause-once : goal.unseat_all-requires-clause-once
unseat_all-requires-clause-once g c =
    let given = c.in_ok-seats.seats.items in
    let items = c.in_ok-pool.ensures.pool.0 in
    once-back c.args.kernel.now c.args.callers.items given c.close-seats.result.items c.requires.all c.in_ok-seats.ensures.callers
    (c.close-seats.ensures.count ∙ ap (λ (l : List Seat). length l) items)
    (λ n. c.close-seats.ensures.once n ∙ ap (λ (l : List Seat). tally n (map seat_number l)) items)
