-- What an operation on one item leaves of the others: the admission by which each waits, and that by which it runs.
use Rattle.std.proofs.Common.{◌≡◌, ◌≢◌, ℕ, zero, suc, ◌<◌, Bool, true, false, cond, ltb, Option, Some, None, option_map, option_and_then, List, [], ◌∷◌, ◌++◌, length, set, get_or, find, refl, sym, ap, ◌∙◌, arith}
use Rattle.std.specs.List.{position, position_or_len}
use Rattle.std.specs.Option.{option_or}
use Rattle.std.proofs.lemmas.Bool.{false≢true, eq-eqb}
use Rattle.std.proofs.lemmas.List.{length-set, get_or-set_other}
use Rattle.std.proofs.lemmas.List.Folds.{position_or_len-set}
use Rattle.std.proofs.lemmas.List.Quantifiers.{position-Some}
use Rattle.std.proofs.lemmas.Option.{same_Some}
use Rattle.zk_queue.specs.declared.ticket.Ticket.{Ticket}
use Rattle.zk_queue.specs.Line.{is_of, number_in, number_among}
use Rattle.zk_queue.proofs.Flagged.{other-ticket, waits-push, waits-without}
use Rattle.zk_queue.specs.Open.{Open, run, is_run_of, running, waiting, admit, drop_item, begun, end}

-- an item that is admitted gets this number, where it had none
number-pushed : (j n : ℕ) (line : List Ticket) (t : Ticket) → number_in j line ≡ None → number_in j (line ++ t ∷ []) ≡ Some n →
    n ≡ t.number
number-pushed j n [] t none is = at (is_of j t) is where
  at : (b : Bool) → option_map (λ (t : Ticket). t.number) (cond b (Some t) None) ≡ Some n → n ≡ t.number
  at true is = sym (same_Some t.number n is)
  at false is = absurd (cc)
number-pushed j n (u ∷ line) t none is = at (is_of j u) (number-pushed j n line t) none is where
  at : (b : Bool) → (number_in j line ≡ None → number_in j (line ++ t ∷ []) ≡ Some n → n ≡ t.number) →
      option_map (λ (t : Ticket). t.number) (cond b (Some u) (find (is_of j) line)) ≡ None →
      option_map (λ (t : Ticket). t.number) (cond b (Some u) (find (is_of j) (line ++ t ∷ []))) ≡ Some n → n ≡ t.number
  at true rest none is = absurd (cc)
  at false rest none is = rest none is

or-none : (a b : Option ℕ) → option_or a b ≡ None → (a ≡ None) × (b ≡ None)
or-none None b none = (refl, none)
or-none (Some x) b none = absurd (cc)

among-pushed : (j n : ℕ) (lines : List (List Ticket)) (queue : ℕ) (t : Ticket) → number_among j lines ≡ None →
    number_among j (set lines queue (get_or lines queue [] ++ t ∷ [])) ≡ Some n → n ≡ t.number
among-pushed j n [] queue t none is = absurd (cc)
among-pushed j n (line ∷ lines) zero t none is =
    let parts = or-none (number_in j line) (number_among j lines) none in
    at (number_in j (line ++ t ∷ [])) refl (ap (option_or (number_in j (line ++ t ∷ []))) (sym parts.1) ∙ is) parts.0 where
      at : (o : Option ℕ) → number_in j (line ++ t ∷ []) ≡ o → option_or (number_in j (line ++ t ∷ [])) None ≡ Some n →
          number_in j line ≡ None → n ≡ t.number
      at None same found gone = absurd (cc)
      at (Some m) same found gone = number-pushed j n line t gone (same ∙ sym (ap (λ (o : Option ℕ). option_or o None) same) ∙ found)
among-pushed j n (line ∷ lines) (suc queue) t none is =
    let parts = or-none (number_in j line) (number_among j lines) none in
    among-pushed j n lines queue t parts.1
    (sym (ap (λ (o : Option ℕ). option_or o (number_among j (set lines queue (get_or lines queue [] ++ t ∷ [])))) parts.0) ∙ is)

-- a run that is set, where neither it nor what it replaces is the item's
run-set : (j : ℕ) (runs : List (Option Ticket)) (queue : ℕ) (r : Option Ticket) → is_run_of j r ≡ false →
    is_run_of j (get_or runs queue None) ≡ false → (o : Open) → o.runs ≡ runs →
    running (record o { runs = set runs queue r }) j ≡ running o j
run-set j runs queue r neither before o is = place ∙ by (position (is_run_of j) runs) refl ∙ sym (ap number_at is) where
  number_in_runs : List (Option Ticket) → ℕ → Option ℕ
  number_in_runs rs i = option_map (λ (t : Ticket). t.number) (get_or rs i None)

  number_at : List (Option Ticket) → Option ℕ
  number_at rs = option_and_then (number_in_runs rs) (position (is_run_of j) rs)

  place : number_at (set runs queue r) ≡ option_and_then (number_in_runs (set runs queue r)) (position (is_run_of j) runs)
  place = ap (option_and_then (number_in_runs (set runs queue r)))
      (ap (λ n. cond (ltb n (length (set runs queue r))) (Some n) None)
      (position_or_len-set (is_run_of j) runs queue r None (neither ∙ sym before))
      ∙ ap (λ m. cond (ltb (position_or_len (is_run_of j) runs) m) (Some (position_or_len (is_run_of j) runs)) None)
      (length-set runs queue r))

  by : (p : Option ℕ) → position (is_run_of j) runs ≡ p →
      option_and_then (number_in_runs (set runs queue r)) (position (is_run_of j) runs)
      ≡ option_and_then (number_in_runs runs) (position (is_run_of j) runs)
  by None at = ap (option_and_then (number_in_runs (set runs queue r))) at ∙ sym (ap (option_and_then (number_in_runs runs)) at)
  by (Some i) at =
      let passes = (position-Some (is_run_of j) runs i None at).1 in
      let apart : i ≢ queue = λ same. false≢true (sym before ∙ ap (λ q. is_run_of j (get_or runs q None)) (sym same) ∙ passes) in
      ap (option_and_then (number_in_runs (set runs queue r))) at
      ∙ ap (option_map (λ (t : Ticket). t.number)) (get_or-set_other runs queue i r None apart)
      ∙ sym (ap (option_and_then (number_in_runs runs)) at)

-- Of another item.
module _ (o : Open) (j : ℕ) where
  pub waiting-admit : (item queue number : ℕ) → j ≢ item → waiting (admit o item queue number) j ≡ waiting o j
  waiting-admit item queue number differ =
      let t : Ticket = record { item = item; number = number } in waits-push j o.lines queue t (other-ticket j t differ)

  pub waiting-drop : (item : ℕ) → j ≢ item → waiting (drop_item o item) j ≡ waiting o j
  waiting-drop item differ = waits-without j item o.lines differ

  pub running-begun : (queue : ℕ) (t : Ticket) → run o queue ≡ None → j ≢ t.item → running (begun o queue t) j ≡ running o j
  running-begun queue t idle differ = run-set j o.runs queue (Some t) (other-ticket j t differ) (ap (is_run_of j) idle) o refl

  pub running-end : (queue : ℕ) (t : Ticket) → run o queue ≡ Some t → j ≢ t.item → running (end o queue) j ≡ running o j
  running-end queue t runs differ = run-set j o.runs queue None refl (ap (is_run_of j) runs ∙ other-ticket j t differ) o refl

-- and of the item that is admitted
pub waiting-admitted : (o : Open) (item queue number n : ℕ) → waiting o item ≡ None →
    waiting (admit o item queue number) item ≡ Some n → n ≡ number
waiting-admitted o item queue number n none is =
    among-pushed item n o.lines queue (record { item = item; number = number }) none is

-- which waits by its number
number-now : (line : List Ticket) (t : Ticket) → number_in t.item line ≡ None → number_in t.item (line ++ t ∷ []) ≡ Some t.number
number-now [] t none = ap (λ b. option_map (λ (t : Ticket). t.number) (cond b (Some t) None)) (eq-eqb t.item t.item refl)
number-now (u ∷ line) t none = at (is_of t.item u) (number-now line t) none where
  at : (b : Bool) → (number_in t.item line ≡ None → number_in t.item (line ++ t ∷ []) ≡ Some t.number) →
      option_map (λ (t : Ticket). t.number) (cond b (Some u) (find (is_of t.item) line)) ≡ None →
      option_map (λ (t : Ticket). t.number) (cond b (Some u) (find (is_of t.item) (line ++ t ∷ []))) ≡ Some t.number
  at true rest none = absurd (cc)
  at false rest none = rest none

among-now : (lines : List (List Ticket)) (queue : ℕ) (t : Ticket) → number_among t.item lines ≡ None → queue < length lines →
    number_among t.item (set lines queue (get_or lines queue [] ++ t ∷ [])) ≡ Some t.number
among-now [] queue t none within = absurd (omega arith)
among-now (line ∷ lines) zero t none within =
    ap (λ (o : Option ℕ). option_or o (number_among t.item lines))
    (number-now line t (or-none (number_in t.item line) (number_among t.item lines) none).0)
among-now (line ∷ lines) (suc queue) t none within =
    let parts = or-none (number_in t.item line) (number_among t.item lines) none in
    ap (λ (o : Option ℕ). option_or o (number_among t.item (set lines queue (get_or lines queue [] ++ t ∷ [])))) parts.0
    ∙ among-now lines queue t parts.1 (omega arith)

pub waits-now : (o : Open) (item queue number : ℕ) → waiting o item ≡ None → queue < length o.lines →
    waiting (admit o item queue number) item ≡ Some number
waits-now o item queue number none within = among-now o.lines queue (record { item = item; number = number }) none within
