-- Who waits after a history, and what it fires, with one entry more.
use Rattle.std.proofs.Common.{◌≡◌, Bool, true, false, not, ◌&&◌, cond, Option, Some, None, List, [], ◌∷◌, ◌++◌, refl, sym, ap, ◌∙◌}
use Rattle.std.specs.List.{filter}
use Rattle.std.proofs.lemmas.List.{append-nil, append_assoc}
use Rattle.std.proofs.lemmas.List.Elements.{filter-append}
use Rattle.zk_model_trigger.specs.declared.parts.Arm.{Arm}
use Rattle.zk_model_trigger.specs.declared.parts.Fire.{Fire}
use Rattle.zk_model_trigger.specs.Histories.{TriggerEntry, TriggerHistory, cancels_item, has_cause, waits_on, if_waiting, made_by, waiting_from, fires_by, fires_from}

-- the arm waits on through one entry more
abbrev pub stays_by : TriggerHistory → TriggerEntry → Arm → Bool
stays_by h e a = not (cancels_item a.item e.op e.reply) && not (has_cause (h ++ e ∷ []) a)

and_four : (p q w s : Bool) → (p && (q && (w && s))) ≡ ((p && (q && w)) && s)
and_four true true w s = refl
and_four true false w s = refl
and_four false q w s = refl

waits_on-snoc : (a : Arm) (front since : TriggerHistory) (e : TriggerEntry) →
    waits_on a front (since ++ e ∷ []) ≡ (waits_on a front since && stays_by (front ++ since) e a)
waits_on-snoc a front [] e =
    ap (λ (h : TriggerHistory). not (has_cause front a) && stays_by h e a) (sym (append-nil front))
waits_on-snoc a front (x ∷ xs) e =
    let p = not (has_cause front a) in
    let q = not (cancels_item a.item x.op x.reply) in
    let w = waits_on a (front ++ x ∷ []) xs in
    ap (λ (b : Bool). p && (q && b)) (waits_on-snoc a (front ++ x ∷ []) xs e)
    ∙ and_four p q w (stays_by ((front ++ x ∷ []) ++ xs) e a)
    ∙ ap (λ (h : TriggerHistory). (p && (q && w)) && stays_by h e a) (append_assoc front (x ∷ []) xs)

if_waiting-snoc : (o : Option Arm) (front since : TriggerHistory) (e : TriggerEntry) →
    if_waiting o front (since ++ e ∷ []) ≡ filter (stays_by (front ++ since) e) (if_waiting o front since)
if_waiting-snoc None front since e = refl
if_waiting-snoc (Some a) front since e =
    ap (λ (b : Bool). cond b (a ∷ []) []) (waits_on-snoc a front since e) ∙ at (waits_on a front since) where
      at : (w : Bool) → cond (w && stays_by (front ++ since) e a) (a ∷ []) []
          ≡ filter (stays_by (front ++ since) e) (cond w (a ∷ []) [])
      at true = refl
      at false = refl

-- those go on that no entry gives up and that have no cause after it, and with them the one that it makes
pub waiting_from-snoc : (front h : TriggerHistory) (e : TriggerEntry) →
    waiting_from front (h ++ e ∷ [])
    ≡ filter (stays_by (front ++ h) e) (waiting_from front h)
    ++ if_waiting (made_by (front ++ h) e.op e.reply) ((front ++ h) ++ e ∷ []) []
waiting_from-snoc front [] e =
    append-nil (if_waiting (made_by front e.op e.reply) (front ++ e ∷ []) [])
    ∙ ap (λ (h : TriggerHistory). if_waiting (made_by h e.op e.reply) (h ++ e ∷ []) []) (sym (append-nil front))
waiting_from-snoc front (x ∷ xs) e =
    let more = front ++ x ∷ [] in
    let first = if_waiting (made_by front x.op x.reply) more xs in
    let rest = waiting_from more xs in
    let Own : TriggerHistory → List Arm = λ h. if_waiting (made_by h e.op e.reply) (h ++ e ∷ []) [] in
    ap (λ (l : List Arm). l ++ waiting_from more (xs ++ e ∷ [])) (if_waiting-snoc (made_by front x.op x.reply) more xs e)
    ∙ ap (λ (l : List Arm). filter (stays_by (more ++ xs) e) first ++ l) (waiting_from-snoc more xs e)
    ∙ sym (append_assoc (filter (stays_by (more ++ xs) e) first) (filter (stays_by (more ++ xs) e) rest) (Own (more ++ xs)))
    ∙ ap (λ (l : List Arm). l ++ Own (more ++ xs)) (sym (filter-append (stays_by (more ++ xs) e) first rest))
    ∙ ap (λ (h : TriggerHistory). filter (stays_by h e) (first ++ rest) ++ Own h) (append_assoc front (x ∷ []) xs)

pub fires_from-snoc : (front h : TriggerHistory) (e : TriggerEntry) →
    fires_from front (h ++ e ∷ []) ≡ fires_from front h ++ fires_by (front ++ h) e
fires_from-snoc front [] e =
    append-nil (fires_by front e) ∙ ap (λ (h : TriggerHistory). fires_by h e) (sym (append-nil front))
fires_from-snoc front (x ∷ xs) e =
    let more = front ++ x ∷ [] in
    ap (λ (l : List Fire). fires_by front x ++ l) (fires_from-snoc more xs e)
    ∙ sym (append_assoc (fires_by front x) (fires_from more xs) (fires_by (more ++ xs) e))
    ∙ ap (λ (h : TriggerHistory). (fires_by front x ++ fires_from more xs) ++ fires_by h e) (append_assoc front (x ∷ []) xs)
