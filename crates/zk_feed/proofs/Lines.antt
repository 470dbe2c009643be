-- The lines of all subscribers.
use Rattle.std.proofs.Common.{◌≡◌, ℕ, ◌+◌, All, List, [], ◌∷◌, ◌++◌, length, map, Ok, Err, Result, Vec, Global, IfOk, refl, sym, ap, ◌∙◌, arith, append-nil, append_assoc}
use Rattle.zk_msgsub.specs.declared.note.Note.{Note}
use Rattle.std.proofs.lemmas.List.{length-append, length-map}
use Rattle.std.proofs.lemmas.List.Elements.{All-head, All-nil, All-push, All-tail}
use Rattle.zk_base.specs.declared.errors.NoMemory.{NoMemory}
use Rattle.zk_feed.specs.declared.size.FeedSize.{FeedSize}
use Rattle.zk_feed.specs.Feeding.{notes_in}
use Rattle.zk_feed.specs.Lasts.{backwards}
use Rattle.zk_feed.specs.Output.{IsFeedOutput, IsHeard, lines_from, sub_lines}

-- one subscriber more
pub lines-push : (k : ℕ) (heard : List (List Note)) (notes : List Note) →
    lines_from k (heard ++ notes ∷ []) ≡ lines_from k heard ++ sub_lines (k + length heard) notes
lines-push k [] notes = append-nil (sub_lines k notes) ∙ ap (λ (n : ℕ). sub_lines n notes) (omega arith)
lines-push k (first ∷ heard) notes =
    ap (λ l. sub_lines k first ++ l) (lines-push (k + 1) heard notes)
    ∙ sym (append_assoc (sub_lines k first) (lines_from (k + 1) heard) _)
    ∙ ap (λ (n : ℕ). (sub_lines k first ++ lines_from (k + 1) heard) ++ sub_lines n notes) (omega arith)

module _ {A : Type 0} where
  -- the last is the first of them backwards
  pub backwards-push : (xs : List A) (x : A) → backwards (xs ++ x ∷ []) ≡ x ∷ backwards xs
  backwards-push [] x = refl
  backwards-push (y ∷ xs) x = ap (λ l. l ++ y ∷ []) (backwards-push xs x)

  pub backwards-long : (xs : List A) → length (backwards xs) ≡ length xs
  backwards-long [] = refl
  backwards-long (x ∷ xs) =
      let long = length-append (backwards xs) (x ∷ []) in
      let rest = backwards-long xs in
      omega arith

  pub backwards-all : (P : A → Type 0) (xs : List A) → All P xs → All P (backwards xs)
  backwards-all P [] all = All-nil P
  backwards-all P (x ∷ xs) all = All-push P (backwards xs) x (backwards-all P xs (All-tail P x xs all)) (All-head P x xs all)

-- the last one is printed next
pub print-next : (printed before after : List (List Note)) (all : List (List Note)) (n : List Note) →
    printed ++ backwards before ≡ all → before ≡ after ++ n ∷ [] → (printed ++ n ∷ []) ++ backwards after ≡ all
print-next printed before after all n whole is =
    append_assoc printed (n ∷ []) (backwards after)
    ∙ ap (λ l. printed ++ l) (sym (backwards-push after n) ∙ ap backwards (sym is)) ∙ whole

-- the whole output, where there was memory
pub output-of : (size : FeedSize) (heard : List (Vec Note Global)) (r : Result (Vec ℕ Global) NoMemory) →
    IfOk r (λ o. o.items ≡ lines_from 0 (backwards (map notes_in heard))) → length heard ≡ size.subscribers →
    All (IsHeard size) (map notes_in heard) → IfOk r (λ o. IsFeedOutput size o.items)
output-of size heard (Ok o) text many each = record {
  heard = backwards (map notes_in heard);
  many = backwards-long (map notes_in heard) ∙ length-map heard notes_in ∙ many;
  each = backwards-all (IsHeard size) (map notes_in heard) each;
  text = text;
}
output-of size heard (Err e) text many each = text
