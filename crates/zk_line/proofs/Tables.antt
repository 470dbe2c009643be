-- The tables of the declarations, with one declaration more.
use Rattle.std.proofs.Common.{◌≡◌, ℕ, ◌+◌, ◌<◌, ◌≤◌, ◌^◌, Bool, true, false, cond, Option, None, Some, List, [], ◌∷◌, ◌++◌, length, take, slice_get, count_by, is_some, unwrap_or, refl, sym, ap, ◌∙◌, ⊎_elim, arith, length-append}
use Rattle.std.specs.Option.{option_map_or}
use Rattle.std.specs.Str.{bytes_eq}
use Rattle.std.specs.Cmp.Lexicographic.{bytes_decides}
use Rattle.std.proofs.lemmas.Bool.{cases_Bool, cases_order, cond-true, cond-false}
use Rattle.std.proofs.lemmas.List.{take-append-le}
use Rattle.std.proofs.lemmas.List.Recursion.{is_count_by}
use Rattle.std.proofs.lemmas.Option.{slice_get_past}
use Rattle.std.proofs.Math.Seq.{take-append_seam}
use Rattle.zk_line.specs.declared.kind_lists.Lists.{Lists}
use Rattle.zk_line.specs.declared.names.Names.{Names}
use Rattle.zk_line.specs.declared.types.Decl.{Decl}
use Rattle.zk_line.specs.ByName.{by_name}
use Rattle.zk_line.specs.Objects.{object_of, with_object, IsTabled, is_thread, is_queue, is_item, is_sem, is_msgq, is_signal, is_chan, is_observer, name_of, has_kind_of, places, places_from, number_of}
use Rattle.zk_line.proofs.Lists.{slice_get-append_left, slice_get-push, position-push}

-- the places of what passes, with one declaration more
places_from-push : (n : ℕ) (test : Decl → Bool) (ds : List Decl) (d : Decl) → places_from n test (ds ++ d ∷ []) ≡ with_object test d (n + length ds) (places_from n test ds)
places_from-push n test [] d = ap (λ k. cond (test d) (k ∷ []) []) (omega arith)
places_from-push n test (x ∷ ds) d =
    step (test x) (test d) (places_from (n + 1) test (ds ++ d ∷ [])) (places_from (n + 1) test ds) (n + 1 + length ds) (n + length (x ∷ ds)) (places_from-push (n + 1) test ds d) (omega arith) where
      step : (p q : Bool) (after before : List ℕ) (k j : ℕ) → after ≡ cond q (before ++ k ∷ []) before → k ≡ j → cond p (n ∷ after) after ≡ cond q (cond p (n ∷ before) before ++ j ∷ []) (cond p (n ∷ before) before)
      step true true after before k j e same = cc
      step true false after before k j e same = cc
      step false true after before k j e same = cc
      step false false after before k j e same = cc

pub places-push : (test : Decl → Bool) (ds : List Decl) (d : Decl) → places test (ds ++ d ∷ []) ≡ with_object test d (length ds) (places test ds)
places-push test ds d = places_from-push 0 test ds d ∙ ap (λ k. with_object test d k (places test ds)) (omega arith)

-- there are as many places as declarations that pass
length-places_from : (n m : ℕ) (test : Decl → Bool) (ds : List Decl) → length (places_from n test ds) ≡ length (places_from m test ds)
length-places_from n m test [] = refl
length-places_from n m test (d ∷ ds) = step (test d) (length-places_from (n + 1) (m + 1) test ds) where
  step : (b : Bool) → length (places_from (n + 1) test ds) ≡ length (places_from (m + 1) test ds) → length (cond b (n ∷ places_from (n + 1) test ds) (places_from (n + 1) test ds)) ≡ length (cond b (m ∷ places_from (m + 1) test ds) (places_from (m + 1) test ds))
  step true e = cc
  step false e = e

length-places-cons : (test : Decl → Bool) (d : Decl) (ds : List Decl) → length (places test (d ∷ ds)) ≡ cond (test d) (1 + length (places test ds)) (length (places test ds))
length-places-cons test d ds = step (test d) (length-places_from 1 0 test ds) where
  step : (b : Bool) → length (places_from 1 test ds) ≡ length (places test ds) → length (cond b (0 ∷ places_from 1 test ds) (places_from 1 test ds)) ≡ cond b (1 + length (places test ds)) (length (places test ds))
  step true e = omega arith
  step false e = e

pub length-places : (test : Decl → Bool) (ds : List Decl) → length (places test ds) ≡ count_by test ds
length-places test ds = is_count_by (λ xs. length (places test xs)) test refl (length-places-cons test) ds

-- the number of an object, with one declaration more
number_of-left : (ds : List Decl) (d : Decl) (object : ℕ) → object < length ds → number_of (ds ++ d ∷ []) object ≡ number_of ds object
number_of-left ds d object h =
    ap (λ o. option_map_or (λ x. count_by (has_kind_of x) (take object (ds ++ d ∷ []))) o 0) (slice_get-append_left ds (d ∷ []) object h)
    ∙ ap (λ l. option_map_or (λ x. count_by (has_kind_of x) l) (slice_get ds object) 0) (take-append-le object ds (d ∷ []) (omega arith))

number_of-new : (ds : List Decl) (d : Decl) → number_of (ds ++ d ∷ []) (length ds) ≡ count_by (has_kind_of d) ds
number_of-new ds d =
    ap (λ o. option_map_or (λ x. count_by (has_kind_of x) (take (length ds) (ds ++ d ∷ []))) o 0) (slice_get-push ds d)
    ∙ ap (count_by (has_kind_of d)) (take-append_seam ds (d ∷ []))

number_of-past : (ds : List Decl) (object : ℕ) → length ds ≤ object → number_of ds object ≡ 0
number_of-past ds object h = ap (λ o. option_map_or (λ x. count_by (has_kind_of x) (take object ds)) o 0) (slice_get_past ds object h)

numbers-push : (ds : List Decl) (d : Decl) (numbers : List ℕ) (n : ℕ) → length numbers ≡ length ds → ((object : ℕ) → unwrap_or (slice_get numbers object) 0 ≡ number_of ds object) → n ≡ count_by (has_kind_of d) ds
    → (object : ℕ) → unwrap_or (slice_get (numbers ++ n ∷ []) object) 0 ≡ number_of (ds ++ d ∷ []) object
numbers-push ds d numbers n long each e object =
    ⊎_elim
    (λ at. ap (λ k. unwrap_or (slice_get (numbers ++ n ∷ []) k) 0) (at ∙ sym long) ∙ ap (λ o. unwrap_or o 0) (slice_get-push numbers n) ∙ e ∙ sym (number_of-new ds d) ∙ ap (number_of (ds ++ d ∷ [])) (sym at))
    (⊎_elim
    (λ below. ap (λ o. unwrap_or o 0) (slice_get-append_left numbers (n ∷ []) object (omega arith)) ∙ each object ∙ sym (number_of-left ds d object below))
    (λ above. ap (λ o. unwrap_or o 0) (slice_get_past (numbers ++ n ∷ []) object (omega (arith, length-append numbers (n ∷ [])))) ∙ sym (number_of-past (ds ++ d ∷ []) object (omega (arith, length-append ds (d ∷ []))))))
    (cases_order object (length ds))

-- the object of a name, with one declaration more of a new name
object_of-push : (ds : List Decl) (d : Decl) (name : List ℕ) → object_of ds (name_of d) ≡ None → object_of (ds ++ d ∷ []) name ≡ cond (bytes_eq (name_of d) name) (Some (length ds)) (object_of ds name)
object_of-push ds d name fresh =
    position-push (λ x. bytes_eq (name_of x) name) ds d ∙ ⊎_elim
    (λ same. let none : object_of ds name ≡ None = ap (object_of ds) (sym ((bytes_decides (name_of d) name).0 same)) ∙ fresh in
    ap (λ o. cond (is_some o) o (cond (bytes_eq (name_of d) name) (Some (length ds)) None)) none ∙ ap (λ b. cond b (Some (length ds)) None) same ∙ sym (cond-true (bytes_eq (name_of d) name) (Some (length ds)) (object_of ds name) same))
    (λ other. ap (λ b. cond (is_some (object_of ds name)) (object_of ds name) (cond b (Some (length ds)) None)) other ∙ kept (object_of ds name) ∙ sym (cond-false (bytes_eq (name_of d) name) (Some (length ds)) (object_of ds name) other))
    (cases_Bool (bytes_eq (name_of d) name)) where
      kept : (o : Option ℕ) → cond (is_some o) o None ≡ o
      kept None = refl
      kept (Some k) = refl

-- a list of the objects that pass a test, with one declaration more
list-push : (test : Decl → Bool) (ds : List Decl) (d : Decl) (list after : List ℕ) → list ≡ places test ds → after ≡ with_object test d (length ds) list → after ≡ places test (ds ++ d ∷ [])
list-push test ds d list after is put = put ∙ ap (with_object test d (length ds)) is ∙ sym (places-push test ds d)

-- the lists with one object more, of this declaration
pub record AreGrown (d : Decl) (object : ℕ) (lists after : Lists) : Type 0 where
  pub threads : after.threads.items ≡ with_object is_thread d object lists.threads.items
  pub queues : after.queues.items ≡ with_object is_queue d object lists.queues.items
  pub items : after.items.items ≡ with_object is_item d object lists.items.items
  pub sems : after.sems.items ≡ with_object is_sem d object lists.sems.items
  pub msgqs : after.msgqs.items ≡ with_object is_msgq d object lists.msgqs.items
  pub signals : after.signals.items ≡ with_object is_signal d object lists.signals.items
  pub chans : after.chans.items ≡ with_object is_chan d object lists.chans.items
  pub observers : after.observers.items ≡ with_object is_observer d object lists.observers.items

-- the tables, with one declaration more of a new name
pub IsTabled-push : (ds : List Decl) (d : Decl) (lists more_lists : Lists) (numbers : List ℕ) (n : ℕ) (names after : Names) → IsTabled ds lists numbers names → length ds + 1 < 2 ^ 32 → object_of ds (name_of d) ≡ None
    → AreGrown d (length ds) lists more_lists → n ≡ count_by (has_kind_of d) ds → ((other : List ℕ) → by_name after other ≡ cond (bytes_eq (name_of d) other) (Some (length ds)) (by_name names other))
    → IsTabled (ds ++ d ∷ []) more_lists (numbers ++ n ∷ []) after
IsTabled-push ds d lists more_lists numbers n names after held few fresh more number put = record {
  few = omega (arith, length-append ds (d ∷ []));
  each_thread = list-push is_thread ds d lists.threads.items more_lists.threads.items held.each_thread more.threads;
  each_queue = list-push is_queue ds d lists.queues.items more_lists.queues.items held.each_queue more.queues;
  each_item = list-push is_item ds d lists.items.items more_lists.items.items held.each_item more.items;
  each_sem = list-push is_sem ds d lists.sems.items more_lists.sems.items held.each_sem more.sems;
  each_msgq = list-push is_msgq ds d lists.msgqs.items more_lists.msgqs.items held.each_msgq more.msgqs;
  each_signal = list-push is_signal ds d lists.signals.items more_lists.signals.items held.each_signal more.signals;
  each_chan = list-push is_chan ds d lists.chans.items more_lists.chans.items held.each_chan more.chans;
  each_observer = list-push is_observer ds d lists.observers.items more_lists.observers.items held.each_observer more.observers;
  long = length-append numbers (n ∷ []) ∙ ap (λ k. k + 1) held.long ∙ sym (length-append ds (d ∷ []));
  each_number = numbers-push ds d numbers n held.long held.each_number number;
  each_name = λ name. put name ∙ ap (λ o. cond (bytes_eq (name_of d) name) (Some (length ds)) o) (held.each_name name) ∙ sym (object_of-push ds d name fresh);
}
