-- Sentences that are put one behind the other.
use Rattle.std.proofs.Common.{ℕ, ◌+◌, ◌<◌, List, ◌∷◌, ◌++◌, length, get_or, drop, drop-cons, add-one, ap, sym, subst, ◌∙◌, append_assoc}
use Rattle.std.specs.Prelude.{Result, Ok, Err, OnOk, ◌≡◌}
use Rattle.std.specs.List.{concat}
use Rattle.zk_line.specs.declared.types.Decl.{Decl}
use Rattle.zk_trace.specs.declared.trace.Trace.{Trace}
use Rattle.zk_worker.specs.declared.log.PlayerState.{PlayerState}
use Rattle.zk_show_why.specs.declared.left.Left.{Left}
use Rattle.zk_show_why.specs.Leavings.{IsLeftText, TellsLefts}
use Rattle.zk_show_why.specs.Sentences.{Tells, TellsEach}

-- a sentence on a player, and then those on others
pub tells_next : (decls : List Decl) (t : Trace) (state : PlayerState) (player : ℕ) (players old mid end : List ℕ) →
    Tells decls t state player old mid → TellsEach decls t state players mid end →
    TellsEach decls t state (player ∷ players) old end
tells_next decls t state player players old mid end first further = record {
  texts = first.text ∷ further.texts;
  each = (first.sentence, further.each);
  behind = further.behind ∙ ap (λ (l : List ℕ). l ++ concat further.texts) first.behind
      ∙ append_assoc old first.text (concat further.texts);
}

-- a sentence on the player of this place, and then those on the players behind it
pub tells_at : (decls : List Decl) (t : Trace) (state : PlayerState) (players old mid end : List ℕ) (k : ℕ) → k < length players →
    Tells decls t state (get_or players k 0) old mid → TellsEach decls t state (drop (k + 1) players) mid end →
    TellsEach decls t state (drop k players) old end
tells_at decls t state players old mid end k within first further =
    subst (λ (ps : List ℕ). TellsEach decls t state ps old end) (sym (drop-cons players k 0 within ∙ ap (λ n. get_or players k 0 ∷ drop n players) (sym (add-one k))))
    (tells_next decls t state (get_or players k 0) (drop (k + 1) players) old mid end first further)

-- what is put behind words that were put stands with them behind what was there
pub put_next : {T E : Type 0} (r : Result T E) (old mid new front back : List ℕ) → mid ≡ old ++ front →
    OnOk r (new ≡ mid ++ back) → OnOk r (new ≡ old ++ (front ++ back))
put_next (Ok x) old mid new front back first further =
    further ∙ ap (λ (l : List ℕ). l ++ back) first ∙ append_assoc old front back
put_next (Err e) old mid new front back first further = further

-- the same where all went well
pub joined : (old mid new front back : List ℕ) → mid ≡ old ++ front → new ≡ mid ++ back → new ≡ old ++ (front ++ back)
joined old mid new front back first further =
    further ∙ ap (λ (l : List ℕ). l ++ back) first ∙ append_assoc old front back

-- a sentence on what came to nothing or is left, and then those on others
pub lefts_next : (decls : List Decl) (left : Left) (lefts : List Left) (old mid end text : List ℕ) → IsLeftText decls left text →
    mid ≡ old ++ text → TellsLefts decls lefts mid end → TellsLefts decls (left ∷ lefts) old end
lefts_next decls left lefts old mid end text is put further = record {
  texts = text ∷ further.texts;
  each = (is, further.each);
  behind = joined old mid end text (concat further.texts) put further.behind;
}

-- a sentence on the one of this place, and then those on the ones behind it
pub lefts_at : (decls : List Decl) (d : Left) (lefts : List Left) (old mid end text : List ℕ) (k : ℕ) → k < length lefts →
    IsLeftText decls (get_or lefts k d) text → mid ≡ old ++ text → TellsLefts decls (drop (k + 1) lefts) mid end →
    TellsLefts decls (drop k lefts) old end
lefts_at decls d lefts old mid end text k within is put further =
    subst (λ (ls : List Left). TellsLefts decls ls old end) (sym (drop-cons lefts k d within ∙ ap (λ n. get_or lefts k d ∷ drop n lefts) (sym (add-one k))))
    (lefts_next decls (get_or lefts k d) (drop (k + 1) lefts) old mid end text is put further)
