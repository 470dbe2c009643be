-- What a valid scenario declares of objects, threads and permissions fits together.
use Rattle.std.proofs.Common.{◌≡◌, ℕ, zero, suc, ◌+◌, ◌<◌, Bool, true, false, cond, nat_lt, not, ◌&&◌, Option, Some, None, List, [], ◌∷◌, length, map, take, count_by, All, refl, sym, ap, subst, ◌∙◌, arith}
use Rattle.std.specs.List.{slice_get}
use Rattle.std.proofs.lemmas.Bool.{and_parts}
use Rattle.std.proofs.lemmas.Bool.Decides.{nat_tests}
use Rattle.std.proofs.lemmas.List.{length-map}
use Rattle.std.proofs.lemmas.List.Elements.{All-nil, All-cons, All-head, All-tail, All-append}
use Rattle.std.proofs.lemmas.List.Sums.{sum_by-take-le}
use Rattle.std.proofs.lemmas.Option.{slice_get-map, same_Some}
use Rattle.std.specs.Option.{option_map}
use Rattle.zk_line.proofs.Tables.{length-places}
use Rattle.zk_line.specs.declared.types.Decl.{Decl}
use Rattle.zk_line.specs.declared.types.Declared.{Declared}
use Rattle.zk_line.specs.declared.types.Declared.TheVariants.{Object, Allow}
use Rattle.zk_line.specs.Objects.{kind_of, is_at, is_thread, is_raw, places_from, places}
use Rattle.zk_base.specs.declared.kinds.Kind.{Kind}
use Rattle.zk_base.specs.declared.kinds.Kind.TheVariants as kinds
use Rattle.zk_base.specs.Kinds as base
use Rattle.zk_model_bus.specs.Table.{IsSetup}
use Rattle.zk_scenario.proofs.Valid.{number_of-thread}
use Rattle.zk_scenario.specs.Content.{Content}
use Rattle.zk_scenario.specs.Valid.{IsValid}
use Rattle.zk_scenario.specs.Written.{is_object, objects_in, is_allowed, permission_in, permissions, allowed, AreInOrder}
use Rattle.zk_worker.specs.TableSetup.{thread_of, permission_of, setup_of}

-- Objects of a kind, in declared order.

-- each of them passes the test
pub placed : (n : ℕ) (test : Decl → Bool) (ds : List Decl) (k object : ℕ) → slice_get (places_from n test ds) k ≡ Some object →
    (j : ℕ) × (object ≡ n + j) × (is_at test ds j ≡ true)
placed n test [] k object is = absurd (cc)
placed n test (d ∷ ds) k object is = by (test d) refl k (λ m o at. placed (n + 1) test ds m o at) is where
  Further : Type 0
  Further = (m o : ℕ) → slice_get (places_from (n + 1) test ds) m ≡ Some o → (j : ℕ) × (o ≡ (n + 1) + j) × (is_at test ds j ≡ true)

  by : (b : Bool) → test d ≡ b → (k : ℕ) → Further → slice_get (cond b (n ∷ places_from (n + 1) test ds) (places_from (n + 1) test ds)) k ≡ Some object →
      (j : ℕ) × (object ≡ n + j) × (is_at test (d ∷ ds) j ≡ true)
  by true passes zero more is = (0, sym (same_Some n object is) ∙ omega arith, passes)
  by true passes (suc k) more is = let at = more k object is in (suc at.0, at.1 ∙ omega arith, at.2)
  by false passes k more is = let at = more k object is in (suc at.0, at.1 ∙ omega arith, at.2)

-- each that passes is one of them
found : (n : ℕ) (test : Decl → Bool) (ds : List Decl) (j : ℕ) → is_at test ds j ≡ true → (k : ℕ) × (slice_get (places_from n test ds) k ≡ Some (n + j))
found n test [] j passes = absurd (cc)
found n test (d ∷ ds) zero passes = (0, ap (λ (b : Bool). slice_get (cond b (n ∷ places_from (n + 1) test ds) (places_from (n + 1) test ds)) 0) passes ∙ ap (λ (m : ℕ). Some m) (omega arith))
found n test (d ∷ ds) (suc j) passes = by (test d) (found (n + 1) test ds j passes) where
  by : (b : Bool) → (k : ℕ) × (slice_get (places_from (n + 1) test ds) k ≡ Some ((n + 1) + j)) →
      (k : ℕ) × (slice_get (cond b (n ∷ places_from (n + 1) test ds) (places_from (n + 1) test ds)) k ≡ Some (n + suc j))
  by true at = (suc at.0, at.1 ∙ ap (λ (m : ℕ). Some m) (omega arith))
  by false at = (at.0, at.1 ∙ ap (λ (m : ℕ). Some m) (omega arith))

-- and none stands twice
once : (n : ℕ) (test : Decl → Bool) (ds : List Decl) (p q object : ℕ) → slice_get (places_from n test ds) p ≡ Some object → slice_get (places_from n test ds) q ≡ Some object → p ≡ q
once n test [] p q object first second = absurd (cc)
once n test (d ∷ ds) p q object first second = by (test d) p q (λ a b one two. once (n + 1) test ds a b object one two) first second where
  later : (k : ℕ) → slice_get (places_from (n + 1) test ds) k ≡ Some n → {A : Type 0} → A
  later k is = let at = placed (n + 1) test ds k n is in absurd (let same = at.1 in omega (arith, same))

  by : (b : Bool) (p q : ℕ) → ((a b : ℕ) → slice_get (places_from (n + 1) test ds) a ≡ Some object → slice_get (places_from (n + 1) test ds) b ≡ Some object → a ≡ b) →
      slice_get (cond b (n ∷ places_from (n + 1) test ds) (places_from (n + 1) test ds)) p ≡ Some object →
      slice_get (cond b (n ∷ places_from (n + 1) test ds) (places_from (n + 1) test ds)) q ≡ Some object → p ≡ q
  by true zero zero more first second = refl
  by true zero (suc q) more first second = later q (second ∙ sym first)
  by true (suc p) zero more first second = later p (first ∙ sym second)
  by true (suc p) (suc q) more first second = ap (λ (k : ℕ). suc k) (more p q first second)
  by false p q more first second = more p q first second

-- A thread is an object of that kind.

thread-kind : (decls : List Decl) (object : ℕ) → is_at is_thread decls object ≡ true → slice_get (map kind_of decls) object ≡ Some kinds.Thread
thread-kind [] object is = absurd (cc)
thread-kind (d ∷ ds) zero is = by (kind_of d) is where
  by : (kind : Kind) → base.same_kind kind kinds.Thread ≡ true → Some kind ≡ Some kinds.Thread
  by kinds.Thread is = refl
  by kind is = absurd (cc)
thread-kind (d ∷ ds) (suc object) is = thread-kind ds object is

kind-thread : (decls : List Decl) (object : ℕ) → slice_get (map kind_of decls) object ≡ Some kinds.Thread → is_at is_thread decls object ≡ true
kind-thread [] object is = absurd (cc)
kind-thread (d ∷ ds) zero is = ap (λ (kind : Kind). base.same_kind kind kinds.Thread) (same_Some (kind_of d) kinds.Thread is)
kind-thread (d ∷ ds) (suc object) is = kind-thread ds object is

-- the thread of a place
thread-at : (decls : List Decl) (player : ℕ) (thread : ℕ × Bool) → slice_get (map (thread_of decls) (places is_thread decls)) player ≡ Some thread →
    (object : ℕ) × (slice_get (places is_thread decls) player ≡ Some object) × (thread_of decls object ≡ thread)
thread-at decls player thread is = by (slice_get (places is_thread decls) player) refl (sym (slice_get-map (thread_of decls) (places is_thread decls) player) ∙ is) where
  by : (o : Option ℕ) → slice_get (places is_thread decls) player ≡ o → option_map (thread_of decls) o ≡ Some thread →
      (object : ℕ) × (slice_get (places is_thread decls) player ≡ Some object) × (thread_of decls object ≡ thread)
  by None there told = absurd (cc)
  by (Some object) there told = (object, there, same_Some (thread_of decls object) thread told)

-- Permissions are of threads, on objects that there are.

taken-at : (test : Decl → Bool) (n : ℕ) (ds : List Decl) (object : ℕ) → is_at test (take n ds) object ≡ true → is_at test ds object ≡ true
taken-at test zero ds object is = absurd (cc)
taken-at test (suc n) [] object is = absurd (cc)
taken-at test (suc n) (d ∷ ds) zero is = is
taken-at test (suc n) (d ∷ ds) (suc object) is = taken-at test n ds object is

-- a permission is of a thread, on an object of these declarations
abbrev IsOfThread : List Decl → ℕ × ℕ → Type 0
IsOfThread decls pair = (is_at is_thread decls pair.0 ≡ true) × (pair.1 < length decls)

allows-thread : (s : Content) (n : ℕ) (line : Declared) → AreInOrder s.decls s.written → slice_get s.written n ≡ Some line → All (IsOfThread s.decls) (permission_in line)
allows-thread s n (Object object) order there = All-nil (IsOfThread s.decls)
allows-thread s n (Allow thread object) order there =
    let before = take n s.written in
    let first = and_parts (is_at is_thread (take (objects_in before) s.decls) thread && nat_lt object (objects_in before)) (not (is_allowed before thread object)) (order.each n (Allow thread object) there) in
    let both = and_parts (is_at is_thread (take (objects_in before) s.decls) thread) (nat_lt object (objects_in before)) first.0 in
    let few = sum_by-take-le (λ (line : Declared). cond (is_object line) 1 0) s.written n in
    let all = order.all in
    let below : object < objects_in before = grind (arith, nat_tests, both.1) in
    All-cons (IsOfThread s.decls) (thread, object) [] (taken-at is_thread (objects_in before) s.decls thread both.0, omega (arith, few, all, below)) (All-nil (IsOfThread s.decls))

all-permissions : (P : ℕ × ℕ → Type 0) (written : List Declared) → ((n : ℕ) (line : Declared) → slice_get written n ≡ Some line → All P (permission_in line)) → All P (permissions written)
all-permissions P [] each = All-nil P
all-permissions P (line ∷ more) each = All-append P (permission_in line) (permissions more) (each 0 line refl) (all-permissions P more (λ n other there. each (suc n) other there))

all-mapped : {A B : Type 0} (P : A → Type 0) (Q : B → Type 0) (f : A → B) (xs : List A) → ((x : A) → P x → Q (f x)) → All P xs → All Q (map f xs)
all-mapped P Q f [] each all = All-nil Q
all-mapped P Q f (x ∷ xs) each all = All-cons Q (f x) (map f xs) (each x (All-head P x xs all)) (all-mapped P Q f xs each (All-tail P x xs all))

-- all of it
pub setup_fits : (s : Content) → IsValid s → IsSetup (setup_of s)
setup_fits s valid = record {
  long = length-map s.decls (λ decl. not (is_raw decl)) ∙ sym (length-map s.decls kind_of);
  few = omega (arith, many, valid.players);
  threads = λ player thread there.
      let at = thread-at s.decls player thread there in
      let is = placed 0 is_thread s.decls player at.0 at.1 in
      subst (λ (o : ℕ). slice_get (map kind_of s.decls) o ≡ Some kinds.Thread) (sym (ap (λ (t : ℕ × Bool). t.0) (sym at.2) ∙ is.1 ∙ (let none : 0 + is.0 ≡ is.0 = omega arith in none)))
      (thread-kind s.decls is.0 is.2);
  once = λ p q a b first second same.
      let one = thread-at s.decls p a first in
      let two = thread-at s.decls q b second in
      let object : one.0 ≡ two.0 = ap (λ (t : ℕ × Bool). t.0) one.2 ∙ same ∙ sym (ap (λ (t : ℕ × Bool). t.0) two.2) in
      once 0 is_thread s.decls p q one.0 one.1 (two.1 ∙ ap (λ (o : ℕ). Some o) (sym object));
  each = λ object there.
      let at = found 0 is_thread s.decls object (kind-thread s.decls object there) in
      (at.0, thread_of s.decls object, slice_get-map (thread_of s.decls) (places is_thread s.decls) at.0 ∙ ap (option_map (thread_of s.decls)) (at.1 ∙ ap (λ (o : ℕ). Some o) (omega arith)), refl);
  allowed = all-mapped (IsOfThread s.decls) (λ a. (a.0 < length (setup_of s).threads) × (a.1 < length (setup_of s).kinds)) (permission_of s.decls) (allowed s)
      (λ pair of. (omega (arith, many, number_of-thread s.decls pair.0 of.0), omega (arith, of.1, length-map s.decls kind_of)))
      (all-permissions (IsOfThread s.decls) s.written (λ n line there. allows-thread s n line valid.in_order there));
}
  where
    many : length (setup_of s).threads ≡ count_by is_thread s.decls
    many = length-map (places is_thread s.decls) (thread_of s.decls) ∙ length-places is_thread s.decls
