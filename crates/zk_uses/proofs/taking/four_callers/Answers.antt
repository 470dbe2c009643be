use Rattle.std.proofs.Common.{[], ◌∷◌}
use Rattle.zk_uses.proofs.taking.four_callers.Goals as goal

pub last_caller-fourth-requires : goal.last_caller-fourth-requires
last_caller-fourth-requires g c = let p = c.args.players in (p.0 ∷ p.1 ∷ p.2 ∷ [], c.requires)

pub last_caller-third-requires : goal.last_caller-third-requires
last_caller-third-requires g c =
    let p = c.args.players in
    (p.0 ∷ p.1 ∷ [], c.last_caller-fourth.ensures.others (p.0 ∷ p.1 ∷ p.2 ∷ []) c.requires)

pub last_caller-second-requires : goal.last_caller-second-requires
last_caller-second-requires g c =
    let p = c.args.players in (
      p.0 ∷ [],
      c.last_caller-third.ensures.others (p.0 ∷ p.1 ∷ [])
          (c.last_caller-fourth.ensures.others (p.0 ∷ p.1 ∷ p.2 ∷ []) c.requires),
    )

pub last_caller-first-requires : goal.last_caller-first-requires
last_caller-first-requires g c =
    let p = c.args.players in (
      [],
      c.last_caller-second.ensures.others (p.0 ∷ [])
          (c.last_caller-third.ensures.others (p.0 ∷ p.1 ∷ [])
          (c.last_caller-fourth.ensures.others (p.0 ∷ p.1 ∷ p.2 ∷ []) c.requires)),
    )
