-- A wait that was found ends, decided or not.
use Rattle.std.proofs.Common.{◌≡◌, ℕ, ◌+◌, ◌-◌, ◌≤◌, eqb, Some, List, length, set, get_or, drop, true, sym, ap, subst, ◌∙◌, arith}
use Rattle.std.specs.Cmp.{first_so, second_so}
use Rattle.std.proofs.lemmas.List.{length-set}
use Rattle.zk_base.specs.declared.slots.Slot.{Slot}
use Rattle.zk_base.specs.declared.leaders.First.{First}
use Rattle.zk_base.specs.declared.span.Span.{Span}
use Rattle.zk_base.specs.Waits.{Waits as AllWaits, ended, left, open_waits}
use Rattle.zk_base.specs.Slots.{place_of, is_waiting, waits_in, answer_for, waits_for, over, leads, passed_on, IsClosedUp, IsKept, IsWaitList}
use Rattle.zk_base.proofs.Risen.{set-map}
use Rattle.zk_base.proofs.SlotWaits.{waits-ended, waits-left, waits-closed}
use Rattle.zk_base.proofs.SlotsKept.{answered, kept-ended, kept-quitted, open-is}
use Rattle.zk_base.proofs.SlotsFound.{IsFound}
use Rattle.zk_base.proofs.SlotsListed.{list-ended}

-- what is left behind it: a list of these waits, no longer than before
pub record IsLeft {M A : Type 0} (before after : List (Slot M A)) (firsts : List First) (waiting ended next decisions : ℕ)
    (told : Span)
    (waits : AllWaits M A) : Type 0 where
  pub listed : IsWaitList after firsts waiting ended next decisions told
  pub holds : waits_in after ≡ waits
  pub fewer : open_waits (waits_in after) ≤ open_waits (waits_in before)

module _ {M A : Type 0} {ss : List (Slot M A)} {fs : List First} {w e n d : ℕ} {told : Span} (l : IsWaitList ss fs w e n d told)
    (player : ℕ) {place k : ℕ} {def : Slot M A} (found : IsFound ss place k def) {t : Slot M A} (new : t ≡ over (get_or ss k def))
    {ts : List (Slot M A)} {f : ℕ} (close : IsClosedUp (set ss k t) (e + 1) ts f) (half : f + f ≤ length ts) where
  abbrev it : Slot M A
  it = get_or ss k def

  closed : IsClosedUp (set ss k (over it)) (e + 1) ts f
  closed = subst (λ t. IsClosedUp (set ss k t) (e + 1) ts f) new close

  is-left : {gs : List First} {v : ℕ} {waits : AllWaits M A} → IsKept (set ss k (over it)) gs v (e + 1) n d → v ≤ w →
      waits_in (set ss k (over it)) ≡ waits → IsLeft ss ts gs v f n d told waits
  is-left kept less same =
      let before = open-is l.kept in
      let now = open-is kept in
      let shut = ap open_waits (waits-closed closed) in
      let long = length-set ss k (over it) in
      record {
        listed = list-ended l k it kept closed half;
        holds = waits-closed closed ∙ same;
        fewer = omega (arith, before, now, shut, long);
      }

  -- one that is decided
  pub when-ended : (a : A) → answer_for player it ≡ Some a → IsLeft ss ts fs w f n d told (ended (waits_in ss) player place)
  when-ended a is =
      let told = answered player it a is in
      is-left (kept-ended l.kept k def found.within told.0 told.1) (omega arith)
      (ap waits_in (set-map place_of over ss k def place l.kept.rises found.within found.at)
      ∙ sym (waits-ended player place ss it found.alone found.at a is))

  -- one that goes on
  pub when-left : {gs : List First} → gs ≡ passed_on it.rank (place_of it) (leads it.rank (drop (k + 1) ss)) fs →
      waits_for player it ≡ true → IsLeft ss ts gs (w - 1) f n d told (left (waits_in ss) player place)
  when-left {gs} passed is =
      let on = first_so (is_waiting it) (eqb it.waiter.who.number player) is in
      let mine = second_so (is_waiting it) (eqb it.waiter.who.number player) is in
      is-left (subst (λ (l : List First). IsKept (set ss k (over it)) l (w - 1) (e + 1) n d) (sym passed)
      (kept-quitted l.kept k def found.within on)) (omega arith)
      (ap waits_in (set-map place_of over ss k def place l.kept.rises found.within found.at)
      ∙ sym (waits-left player place ss it found.alone found.at on mine))
