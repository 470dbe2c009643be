use Rattle.std.proofs.Common.{◌≡◌, map}
use Rattle.std.proofs.lemmas.Result.{IfOk-weaker}
use Rattle.zk_kernel.specs.Rests.{AreAllCallers}
use Rattle.zk_cores.specs.Seats.{seat_caller}
use Rattle.zk_cores.proofs.Seated.{all-unseated}
use Rattle.zk_cores.proofs.seating.unseat_all.Goals as goal

pub returns : goal.returns
returns c =
    let k = c.args.kernel.now in
    let seats = c.args.seats.items in
    record {
      all = IfOk-weaker c.callers_of.result (λ callers. callers.items ≡ map seat_caller seats) (λ callers. AreAllCallers k callers.items)
          (λ callers are. all-unseated k seats callers.items c.requires.suits c.requires.once c.requires.many are)
          c.callers_of.ensures;
    }
