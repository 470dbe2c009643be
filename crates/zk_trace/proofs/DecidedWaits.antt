-- What holds of the answers by which waits are decided.
use Rattle.std.proofs.Common.{◌≡◌, ℕ, Bool, true, false, Option, Some, None, option_map, List, [], ◌∷◌, map, All, refl, subst}
use Rattle.std.specs.List.{find}
use Rattle.std.proofs.lemmas.List.Elements.{All-nil, All-cons, All-append}
use Rattle.std.proofs.lemmas.Option.{same_Some, none-some}
use Rattle.zk_base.specs.declared.waits.Waiter.{Waiter}
use Rattle.zk_base.specs.declared.waits.Decision.{Decision}
use Rattle.zk_base.specs.Waits.{Waits, is_decision, decide, decision_of, goes_on, ended, quitted, decides_first, first_decided, all_decided, given_up, quit_answer}
use Rattle.zk_base.proofs.Firsts.{All-found}
use Rattle.zk_base.proofs.WaitsHold.{All-without}

-- a decision has such an answer
abbrev Says : {A : Type 0} → (A → Type 0) → Decision A → Type 0
Says P d = P d.answer

-- no wait was decided at first
pub none-decided : {A : Type 0} (P : A → Type 0) → All (Says P) []
none-decided P = All-nil (Says P)

module _ {M A : Type 0} (P : A → Type 0) where
  -- each decided wait is decided by such an answer
  abbrev pub DecidedBy : Waits M A → Type 0
  DecidedBy ws = All (Says P) ws.decided

  first-says : (answer : A) (waiting : List (Waiter M)) (decided : List (Decision A)) → P answer → All (Says P) decided → All (Says P) (decides_first answer waiting decided).decided
  first-says answer [] decided says all = all
  first-says answer (w ∷ ws) decided says all = All-append (Says P) decided (decide answer w ∷ []) all (All-cons (Says P) (decide answer w) [] says (All-nil (Says P)))

  pub first_decided-by : (answer : A) (ws : Waits M A) → P answer → DecidedBy ws → DecidedBy (first_decided answer ws)
  first_decided-by answer ws says all = first-says answer ws.waiting ws.decided says all

  each-says : (answer : A) (waiting : List (Waiter M)) → P answer → All (Says P) (map (decide answer) waiting)
  each-says answer [] says = All-nil (Says P)
  each-says answer (w ∷ ws) says = All-cons (Says P) (decide answer w) (map (decide answer) ws) says (each-says answer ws says)

  pub all_decided-by : (answer : A) (ws : Waits M A) → P answer → DecidedBy ws → DecidedBy (all_decided answer ws)
  all_decided-by answer ws says all = All-append (Says P) ws.decided (map (decide answer) ws.waiting) all (each-says answer ws.waiting says)

  pub ended-by : (ws : Waits M A) (player place : ℕ) → DecidedBy ws → DecidedBy (ended ws player place)
  ended-by ws player place all = All-without (Says P) (is_decision player place) ws.decided all

  pub quitted-by : (ws : Waits M A) (player place : ℕ) → DecidedBy ws → DecidedBy (quitted ws player place)
  quitted-by ws player place all = All-without (Says P) (is_decision player place) ws.decided all

  -- and such is what its end answers
  pub decision-by : (ws : Waits M A) (player place : ℕ) (answer : A) → DecidedBy ws → decision_of ws player place ≡ Some answer → P answer
  decision-by ws player place answer all is = by (find (is_decision player place) ws.decided) refl is where
    by : (o : Option (Decision A)) → find (is_decision player place) ws.decided ≡ o → option_map (λ (d : Decision A). d.answer) o ≡ Some answer → P answer
    by None found is = absurd (none-some answer is)
    by (Some d) found is = subst P (same_Some d.answer answer is) (All-found (Says P) (is_decision player place) ws.decided d all found)

  -- given up, it answers what an end answers, or that it was given up
  pub quit-by : (Q : A → Type 0) → ((answer : A) → P answer → Q answer) → (gives_up : A) (ws : Waits M A) (player place : ℕ) (answer : A) → Q gives_up → DecidedBy ws →
      quit_answer gives_up ws player place ≡ Some answer → Q answer
  quit-by Q too gives_up ws player place answer says all is = by (goes_on ws player place) (decision_of ws player place) refl is where
    by : (waits : Bool) (o : Option A) → decision_of ws player place ≡ o → given_up gives_up waits o ≡ Some answer → Q answer
    by waits (Some other) decided is = subst Q (same_Some other answer is) (too other (decision-by ws player place other all decided))
    by true None decided is = subst Q (same_Some gives_up answer is) says
    by false None decided is = absurd (none-some answer is)
