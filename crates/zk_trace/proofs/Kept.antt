-- What a machine keeps of its state holds along each history that it lets stand, and so what it answers.
use Rattle.std.proofs.Common.{◌≡◌, Some, List, [], ◌∷◌}
use Rattle.std.specs.List.{AllByRecursion}
use Rattle.zk_base.specs.declared.ids.Who.{Who}
use Rattle.zk_base.specs.declared.ids.Entry.{Entry}
use Rattle.zk_base.specs.Legal.{Machine, Replays}

module _ {S O R : Type 0} (m : Machine S O R) (Keeps : S → Type 0) (Fits : O → Type 0) (Answers : O → R → Type 0)
    (says : (s : S) (who : Who) (op : O) (r : R) → Keeps s → Fits op → m.reply_of s who op ≡ Some r → Answers op r)
    (keeps : (s : S) (who : Who) (op : O) → Keeps s → Fits op → Keeps (m.next s who op)) where
  pub answers-along : (s : S) (h : List (Entry O R)) → Keeps s → Replays m s h → AllByRecursion (λ e. Fits e.op) h → AllByRecursion (λ e. Answers e.op e.reply) h
  answers-along s [] kept replays fits = tt
  answers-along s (e ∷ es) kept replays fits = (
    says s e.who e.op e.reply kept fits.0 replays.0,
    answers-along (m.next s e.who e.op) es (keeps s e.who e.op kept fits.0) replays.1 fits.1,
  )

-- where nothing is asked of the operations
pub of-any : {O R : Type 0} (h : List (Entry O R)) → AllByRecursion (λ (e : Entry O R). Unit {0}) h
of-any [] = tt
of-any (e ∷ es) = (tt, of-any es)
