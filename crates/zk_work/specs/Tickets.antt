-- Inner: no contract of a top call is made of this file.
use Rattle.std.specs.Prelude.{ℕ, ◌+◌, Bool, cond, List, [], ◌∷◌}
use Rattle.zk_model_work.specs.declared.parts.Admission.{Admission}
use Rattle.zk_queue.specs.declared.ticket.Ticket.{Ticket}

-- the tickets of the admissions that pass, the first of which has the number n, lowest first
abbrev pub tickets_from : ℕ → (Admission → Bool) → List Admission → List Ticket
tickets_from n passes [] = []
tickets_from n passes (a ∷ rest) =
    cond (passes a) (record { item = a.item; number = n } ∷ tickets_from (n + 1) passes rest)
    (tickets_from (n + 1) passes rest)

-- the tickets of the admissions that pass, lowest number first
abbrev pub tickets : (Admission → Bool) → List Admission → List Ticket
tickets passes admissions = tickets_from 0 passes admissions
