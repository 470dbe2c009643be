-- The first who waits is decided.
use Rattle.std.proofs.Common.{◌≡◌, ℕ, ◌+◌, ◌-◌, ◌<◌, ◌≤◌, List, [], ◌∷◌, length, set, get_or, drop, sym, ap, subst, ◌∙◌, arith}
use Rattle.std.proofs.lemmas.List.{length-set}
use Rattle.std.proofs.lemmas.List.Elements.{All-weaker}
use Rattle.zk_base.specs.declared.slots.Slot.{Slot}
use Rattle.zk_base.specs.declared.leaders.First.{First}
use Rattle.zk_base.specs.declared.span.Span.{Span}
use Rattle.zk_base.specs.Waits.{first_decided, open_waits}
use Rattle.zk_base.specs.Slots.{place_of, waits_in, decided_as, leads, passed_on, IsIn, IsWaitList}
use Rattle.zk_base.proofs.Risen.{set-map}
use Rattle.zk_base.proofs.SlotWaits.{waits-first}
use Rattle.zk_base.proofs.SlotsKept.{first-served, open-is}
use Rattle.zk_base.proofs.SlotsFound.{found-at, passed-at}
use Rattle.zk_base.proofs.SlotsListed.{list-decided}

-- what is left behind it
pub record IsServed {M A : Type 0} (before after : List (Slot M A)) (answer : A) (firsts : List First)
    (waiting ended next decisions : ℕ) (told : Span) : Type 0 where
  pub listed : IsWaitList after firsts waiting ended next decisions told
  pub holds : waits_in after ≡ first_decided answer (waits_in before)
  pub as_many : open_waits (waits_in after) ≡ open_waits (waits_in before)

-- what holds of any element holds where there is one
of-element : {X P : Type 0} (xs : List X) (k : ℕ) → k < length xs → ((d : X) → P) → P
of-element [] k within holds = absurd (omega arith)
of-element (x ∷ xs) k within holds = holds x

module _ {M A : Type 0} {ss : List (Slot M A)} {fs : List First} {w e n d : ℕ} {told : Span} (l : IsWaitList ss fs w e n d told)
    (answer : A) (f : First) (some : 0 < length fs) where
  pub when-served : {us : List (Slot M A)} → us ≡ ss → {k : ℕ} → k < length us →
      ((def : Slot M A) → place_of (get_or us k def) ≡ (get_or fs 0 f).place) →
      {vs ts : List (Slot M A)} → vs ≡ ss →
      ((def : Slot M A) → ts ≡ set vs k (decided_as (d + 1) answer (get_or vs k def))) → {gs : List First} →
      ((def : Slot M A) → gs
      ≡ passed_on (get_or vs k def).rank (place_of (get_or vs k def)) (leads (get_or vs k def).rank (drop (k + 1) vs)) fs) →
      (wider : Span) → IsIn wider (get_or fs 0 f).place → ((place : ℕ) → IsIn told place → IsIn wider place) →
      IsServed ss ts answer gs (w - 1) e n (d + 1) wider
  when-served {us} read {k} within at {vs} {ts} written decided {gs} passed wider here wide = of-element us k within (λ s.
      let found = found-at read l.kept.rises k s within (at s) in
      let served = first-served l.kept f k s some found.within found.at in
      let now = set ss k (decided_as (d + 1) answer (get_or ss k s)) in
      let slots : ts ≡ now = subst (λ (v : List (Slot M A)). ts ≡ set v k (decided_as (d + 1) answer (get_or v k s))) written
      (decided s) in
      let listed = list-decided l (d + 1) answer (omega arith) (omega arith) k s found.within served.0 wider
      (subst (IsIn wider) (sym found.at) here) wide in
      let before = open-is l.kept in
      let after = open-is listed.kept in
      let long = length-set ss k (decided_as (d + 1) answer (get_or ss k s)) in
      record {
        listed = subst (λ (v : List (Slot M A)). IsWaitList v gs (w - 1) e n (d + 1) wider) (sym slots)
            (subst (λ (h : List First). IsWaitList now h (w - 1) e n (d + 1) wider) (sym (passed-at written fs k s (passed s)))
            listed);
        holds = ap waits_in (slots ∙ set-map place_of (decided_as (d + 1) answer) ss k s (get_or fs 0 f).place l.kept.rises
            found.within found.at)
            ∙ waits-first (d + 1) answer (get_or fs 0 f).place ss served.2 (get_or ss k s)
            (All-weaker (λ (s : Slot M A). s.number ≤ d) (λ (s : Slot M A). s.number < d + 1) (λ s h. omega arith) ss
            l.kept.numbered) found.alone served.0 served.3;
        as_many = ap (λ (v : List (Slot M A)). open_waits (waits_in v)) slots ∙ omega (arith, before, after, long);
      })
