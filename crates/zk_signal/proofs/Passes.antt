-- What passes know after a call.
use Rattle.std.proofs.Common.{◌≡◌, ℕ, ◌+◌, ◌<◌, ◌≤◌, List, [], ◌∷◌, ◌++◌, map, All, sym, ap, subst, ◌∙◌, arith}
use Rattle.std.proofs.Math.Nat.{le-max_left}
use Rattle.std.proofs.lemmas.List.{map-append}
use Rattle.std.proofs.lemmas.List.Elements.{All-weaker}
use Rattle.std.proofs.lemmas.Simd.{map-map}
use Rattle.atomic_table.specs.Table.{Me}
use Rattle.zk_base.specs.declared.seen.Seen.{Seen}
use Rattle.zk_signal.specs.declared.pass.SigPass.{SigPass}
use Rattle.zk_signal.specs.declared.signal.SharedSignal.{SharedSignal}
use Rattle.zk_signal.specs.declared.views.View.{View}
use Rattle.zk_signal.specs.Counts.{Rises, greatest}
use Rattle.zk_signal.specs.Passes.{Wrote, Looked, IsNewPass, AreNewPasses, pass_writes, pass_stamps, pass_top}
use Rattle.zk_signal.specs.Views.{drawing, settled, looked, top_of}
use Rattle.zk_signal.specs.Words.{seen_in, stamp_in, stamp_of}
use Rattle.zk_signal.proofs.Counts.{none-above, Rises-push}
use Rattle.zk_signal.proofs.Wording.{top-settled, top-looked}

-- a write whose stamp is above all that the pass had written or read
pub has_written : (old new : SigPass) (stamp word : ℕ) (seen : Seen) →
    new.seat.me ≡ (settled (drawing old.seat.me.0 stamp) word, old.seat.me.1) → seen_in word ≡ seen →
    pass_top old < seen.stamp → new.room + 1 ≡ old.room → Wrote old new seen
has_written old new stamp word seen now says above room =
    let v = old.seat.me.0 in
    let at_stamp : stamp_in word ≡ seen.stamp = ap stamp_of says in
    let newer : top_of v ≤ stamp_in word = omega arith in
    record {
      writes = ap (λ (m : Me ℕ View). map seen_in m.0.writes) now ∙ map-append seen_in v.writes (word ∷ [])
          ∙ ap (λ (s : Seen). map seen_in v.writes ++ s ∷ []) says;
      top = ap (λ (m : Me ℕ View). top_of m.0) now ∙ top-settled (drawing v stamp) word newer ∙ at_stamp;
      room = room;
      players = ap (λ (m : Me ℕ View). m.0.players) now;
      looks = ap (λ (m : Me ℕ View). map seen_in m.0.looks) now;
    }

-- a look that isn't older than all that the pass had written or read
pub has_looked : (old new : SigPass) (word : ℕ) (seen : Seen) → new.seat.me ≡ (looked old.seat.me.0 word, old.seat.me.1) →
    seen ≡ seen_in word → pass_top old ≤ stamp_in word → new.room ≡ old.room → Looked old new seen
has_looked old new word seen now is newer room =
    let v = old.seat.me.0 in
    record {
      looks = ap (λ (m : Me ℕ View). map seen_in m.0.looks) now ∙ map-append seen_in v.looks (word ∷ [])
          ∙ ap (λ (s : Seen). map seen_in v.looks ++ s ∷ []) (sym is);
      top = ap (λ (m : Me ℕ View). top_of m.0) now ∙ top-looked v word newer ∙ ap stamp_of (sym is);
      room = room;
      players = ap (λ (m : Me ℕ View). m.0.players) now;
      writes = ap (λ (m : Me ℕ View). map seen_in m.0.writes) now;
    }

greatest-le-top : (p : SigPass) → greatest (pass_stamps p) ≤ pass_top p
greatest-le-top p =
    let writes = p.seat.me.0.writes in
    let stamps : pass_stamps p ≡ map stamp_in writes = map-map stamp_of seen_in writes in
    subst (λ (l : List ℕ). greatest l ≤ pass_top p) (sym stamps)
    (le-max_left (greatest (map stamp_in writes)) (greatest (map stamp_in p.seat.me.0.looks)))

-- none of the stamps of a pass is above its top
pub none-above-top : (p : SigPass) → All (λ n. n ≤ pass_top p) (pass_stamps p)
none-above-top p =
    let Below : ℕ → Type 0 = λ n. n ≤ greatest (pass_stamps p) in
    let Under : ℕ → Type 0 = λ n. n ≤ pass_top p in
    let le = greatest-le-top p in
    All-weaker Below Under (λ n below. omega arith) (pass_stamps p) (none-above (pass_stamps p))

-- the stamps of a pass rise on with that of a write
pub rises_on : (old new : SigPass) (seen : Seen) → Wrote old new seen → pass_top old < seen.stamp →
    Rises (pass_stamps old) → Rises (pass_stamps new)
rises_on old new seen wrote above up =
    let below = greatest-le-top old in
    subst Rises (sym (ap (map stamp_of) wrote.writes ∙ map-append stamp_of (pass_writes old) (seen ∷ [])))
    (Rises-push (pass_stamps old) seen.stamp up (omega arith))

-- one more
pub AreNewPasses-push : (s : SharedSignal) (players : List ℕ) (passes : List SigPass) (player : ℕ) (pass : SigPass) →
    AreNewPasses s players passes → IsNewPass s player pass → AreNewPasses s (players ++ player ∷ []) (passes ++ pass ∷ [])
AreNewPasses-push s [] [] player pass all one = (one, tt)
AreNewPasses-push s [] (p ∷ passes) player pass all one = absurd all
AreNewPasses-push s (q ∷ players) [] player pass all one = absurd all
AreNewPasses-push s (q ∷ players) (p ∷ passes) player pass all one =
    (all.0, AreNewPasses-push s players passes player pass all.1 one)
