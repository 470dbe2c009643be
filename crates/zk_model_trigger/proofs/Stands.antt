-- What an entry begins and a later one ends, with one entry more.
use Rattle.std.proofs.Common.{◌≡◌, Bool, true, false, not, ◌&&◌, ◌||◌, List, [], ◌∷◌, ◌++◌, refl, ap, ◌∙◌}
use Rattle.std.specs.List.{list_any}
use Rattle.std.proofs.lemmas.List.Folds.{list_any-append}
use Rattle.zk_model_trigger.specs.Histories.{stands}

one : (b c : Bool) → ((b && not false) || false) ≡ (b || (false && c))
one true c = refl
one false c = refl

mixed : (b a d c s : Bool) →
    ((b && not (a || (d || false))) || (c || (s && not d))) ≡ (c || (((b && not a) || s) && not d))
mixed false a d c s = refl
mixed true true d c s = refl
mixed true false true c true = refl
mixed true false true c false = refl
mixed true false false true s = refl
mixed true false false false s = refl

pub stands-snoc : {A : Type 0} (begins ends : A → Bool) (h : List A) (x : A) →
    stands begins ends (h ++ x ∷ []) ≡ (begins x || (stands begins ends h && not (ends x)))
stands-snoc begins ends [] x = one (begins x) (not (ends x))
stands-snoc begins ends (e ∷ es) x =
    ap (λ (t : Bool). (begins e && not t) || stands begins ends (es ++ x ∷ [])) (list_any-append ends es (x ∷ []))
    ∙ ap (λ (t : Bool). (begins e && not (list_any ends es || (ends x || false))) || t) (stands-snoc begins ends es x)
    ∙ mixed (begins e) (list_any ends es) (ends x) (begins x) (stands begins ends es)
