-- How many waits haven't ended after each move.
use Rattle.std.proofs.Common.{◌≡◌, ℕ, suc, ◌+◌, ◌≤◌, Bool, true, false, cond, Option, Some, None, is_some, option_map, List, [], ◌∷◌, map, length, refl, ap, sym, ◌∙◌, arith}
use Rattle.std.specs.List.{find, list_any}
use Rattle.std.proofs.lemmas.List.{length-append, length-map}
use Rattle.zk_base.specs.declared.waits.Waiter.{Waiter}
use Rattle.zk_base.specs.declared.waits.Decision.{Decision}
use Rattle.zk_base.specs.Lists.{put_before}
use Rattle.zk_base.specs.Waits.{Waits, is_served_after, is_waiter, is_decision, decide, decision_of, goes_on, open_waits, joined, ended, quitted, decides_first, first_decided, all_decided, each_decided, decisions_by, given_up, quit_answer}
use Rattle.zk_base.proofs.Firsts.{any-find, length-without, length-less}
use Rattle.zk_base.proofs.WaitTests.{length-tested}

length-before-at : {A : Type 0} (x y : A) (ys rest : List A) (b : Bool) → length rest ≡ suc (length ys) →
    length (cond b (x ∷ y ∷ ys) (y ∷ rest)) ≡ suc (suc (length ys))
length-before-at x y ys rest true long = refl
length-before-at x y ys rest false long = ap suc long

-- one more is put in
pub length-put_before : {A : Type 0} (p : A → Bool) (x : A) (xs : List A) → length (put_before p x xs) ≡ suc (length xs)
length-put_before p x [] = refl
length-put_before p x (y ∷ ys) = length-before-at x y ys (put_before p x ys) (p y) (length-put_before p x ys)

is_some-map : {A B : Type 0} (f : A → B) (o : Option A) → is_some (option_map f o) ≡ is_some o
is_some-map f None = refl
is_some-map f (Some x) = refl

module _ {M A : Type 0} where
  pub open-joined : (ws : Waits M A) (w : Waiter M) → open_waits (joined ws w) ≡ open_waits ws + 1
  open-joined ws w = let one = length-put_before (is_served_after w) w ws.waiting in omega arith

  -- where its decision is there, one less is open
  decided-there : (ws : Waits M A) (player place : ℕ) → is_some (decision_of ws player place) ≡ true →
      list_any (is_decision player place) ws.decided ≡ true
  decided-there ws player place some =
      any-find (is_decision player place) ws.decided
      ∙ sym (is_some-map (λ (d : Decision A). d.answer) (find (is_decision player place) ws.decided)) ∙ some

  pub open-ended : (ws : Waits M A) (player place : ℕ) → is_some (decision_of ws player place) ≡ true →
      1 + open_waits (ended ws player place) ≤ open_waits ws
  open-ended ws player place some =
      let one = length-without (is_decision player place) ws.decided (decided-there ws player place some) in
      omega arith

  -- no more are open after an end, whatever was there
  pub open-ended-most : (ws : Waits M A) (player place : ℕ) → open_waits (ended ws player place) ≤ open_waits ws
  open-ended-most ws player place = let less = length-less (is_decision {A = A} player place) ws.decided in omega arith

  pub open-quitted-most : (ws : Waits M A) (player place : ℕ) → open_waits (quitted ws player place) ≤ open_waits ws
  open-quitted-most ws player place =
      let less = length-less (is_decision {A = A} player place) ws.decided in
      let fewer = length-less (is_waiter {M = M} player place) ws.waiting in
      omega arith

  quit-by : (ws : Waits M A) (player place : ℕ) (gives_up : A) (waits : Bool) (decided : Option A) →
      goes_on ws player place ≡ waits → decision_of ws player place ≡ decided →
      is_some (given_up gives_up waits decided) ≡ true → 1 + open_waits (quitted ws player place) ≤ open_waits ws
  quit-by ws player place gives_up waits (Some answer) goes is some =
      let one = length-without (is_decision player place) ws.decided (decided-there ws player place (ap is_some is)) in
      let less = length-less (is_waiter {M = M} player place) ws.waiting in
      omega arith
  quit-by ws player place gives_up true None goes is some =
      let one = length-without (is_waiter {M = M} player place) ws.waiting goes in
      let less = length-less (is_decision {A = A} player place) ws.decided in
      omega arith
  quit-by ws player place gives_up false None goes is some = absurd (cc)

  pub open-quitted : (ws : Waits M A) (player place : ℕ) (gives_up : A) →
      is_some (quit_answer gives_up ws player place) ≡ true → 1 + open_waits (quitted ws player place) ≤ open_waits ws
  open-quitted ws player place gives_up some =
      quit-by ws player place gives_up (goes_on ws player place) (decision_of ws player place) refl refl some

  open-first-at : (answer : A) (waiting : List (Waiter M)) (decided : List (Decision A)) →
      open_waits (decides_first answer waiting decided) ≡ length waiting + length decided
  open-first-at answer [] decided = refl
  open-first-at answer (w ∷ ws) decided = let more = length-append decided (decide answer w ∷ []) in omega arith

  -- a decision leaves as many open
  pub open-first : (answer : A) (ws : Waits M A) → open_waits (first_decided answer ws) ≡ open_waits ws
  open-first answer ws = open-first-at answer ws.waiting ws.decided

  pub open-all : (answer : A) (ws : Waits M A) → open_waits (all_decided answer ws) ≡ open_waits ws
  open-all answer ws =
      let more = length-append ws.decided (map (decide answer) ws.waiting) in
      let same = length-map ws.waiting (decide {M = M} answer) in
      omega arith

  pub open-each : (test : M → Option A) (ws : Waits M A) → open_waits (each_decided test ws) ≡ open_waits ws
  open-each test ws =
      let more = length-append ws.decided (decisions_by test ws.waiting) in
      let same = length-tested test ws.waiting in
      omega arith
