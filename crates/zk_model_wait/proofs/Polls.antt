-- A note notifies one.
use Rattle.std.proofs.Common.{List, [], ◌∷◌, refl, arith}
use Rattle.std.proofs.lemmas.List.{length-append}
use Rattle.zk_base.specs.declared.waits.Waiter.{Waiter}
use Rattle.zk_base.specs.declared.waits.Decision.{Decision}
use Rattle.zk_base.specs.Waits.{decide, decides_first}
use Rattle.zk_model_wait.specs.Polls.{NotesOne}

pub one-noted : {M R : Type 0} (answer : R) (waiting : List (Waiter M)) (ds : List (Decision R)) →
    NotesOne (record { waiting = waiting; decided = ds }) (decides_first answer waiting ds)
one-noted answer [] ds = record { some = λ some. absurd (omega arith); none = λ none. refl }
one-noted answer (w ∷ ws) ds = record { some = λ some. length-append ds (decide answer w ∷ []); none = λ none. absurd (cc) }
