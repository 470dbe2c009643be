-- The names of all sections differ, so that each has a head of its own.
use Rattle.std.proofs.Common.{◌≡◌, ◌≢◌, ℕ, ◌≤◌, ◌<◌, if◌then◌else◌, map, Bool, true, false, Some, List, [], ◌∷◌, zero, suc, slice_get, arith, refl, sym, ap, ◌∙◌}
use Rattle.std.specs.Prelude.{bytes_eq}
use Rattle.std.specs.List.{AllByRecursion}
use Rattle.std.proofs.lemmas.Bool.{false≢true, true≢false}
use Rattle.std.proofs.lemmas.Option.{same_Some}
use Rattle.zk_base.specs.Names.{is_name}
use Rattle.zk_blocks.specs.Apart.{IsNone, AreApart}
use Rattle.zk_blocks.specs.Families.{kind_names}
use Rattle.zk_line.specs.Objects.{AreNames, name_of, object_of, is_sem, is_msgq, is_signal, is_chan, is_observer}
use Rattle.zk_line.specs.declared.types.Decl.{Decl}
use Rattle.zk_line.specs.declared.types.Decl.TheVariants.{Sem, Msgq, Signal, Listener, Sub, Chan}
use Rattle.zk_trace.specs.Text.{work_name, clock_name, table_name}

-- the names of the sections in their order, from each family on
abbrev pub observer_names : List Decl → List (List ℕ)
observer_names decls = kind_names is_observer name_of [] decls

abbrev pub chan_names : List Decl → List (List ℕ)
chan_names decls = kind_names is_chan name_of (observer_names decls) decls

abbrev pub signal_names : List Decl → List (List ℕ)
signal_names decls = kind_names is_signal name_of (chan_names decls) decls

abbrev pub msgq_names : List Decl → List (List ℕ)
msgq_names decls = kind_names is_msgq name_of (signal_names decls) decls

abbrev pub sem_names : List Decl → List (List ℕ)
sem_names decls = kind_names is_sem name_of (msgq_names decls) decls

-- which family a declaration belongs to, as a number
abbrev family_number : Decl → ℕ
family_number (Sem name initial limit raw) = 1
family_number (Msgq name size capacity raw) = 2
family_number (Signal name raw) = 3
family_number (Chan name message valid observers) = 4
family_number (Listener name) = 5
family_number (Sub name capacity) = 5
family_number d = 0

-- a test that only declarations of one family pass
abbrev IsOfFamily : (Decl → Bool) → ℕ → Type 0
IsOfFamily test number = (d : Decl) → test d ≡ true → family_number d ≡ number

sems_are : IsOfFamily is_sem 1
sems_are (Sem name initial limit raw) is = refl
sems_are d is = absurd (false≢true is)

msgqs_are : IsOfFamily is_msgq 2
msgqs_are (Msgq name size capacity raw) is = refl
msgqs_are d is = absurd (false≢true is)

signals_are : IsOfFamily is_signal 3
signals_are (Signal name raw) is = refl
signals_are d is = absurd (false≢true is)

chans_are : IsOfFamily is_chan 4
chans_are (Chan name message valid observers) is = refl
chans_are d is = absurd (false≢true is)

observers_are : IsOfFamily is_observer 5
observers_are (Listener name) is = refl
observers_are (Sub name capacity) is = refl
observers_are d is = absurd (false≢true is)

-- what holds of the one at each place holds of all
pub all_at : {X : Type 0} (P : X → Type 0) (xs : List X) → ((place : ℕ) (x : X) → slice_get xs place ≡ Some x → P x) → AllByRecursion P xs
all_at P [] each = tt
all_at P (x ∷ xs) each = (each zero x refl, all_at P xs (λ place y there. each (suc place) y there))

-- a word is none of the names of those that pass a test, where it is the name of none that does
none_in : (word : List ℕ) (test : Decl → Bool) (names : List (List ℕ)) (ds : List Decl) → IsNone word names →
    AllByRecursion (λ d. test d ≡ true → word ≢ name_of d) ds → IsNone word (kind_names test name_of names ds)
none_in word test names [] none others = none
none_in word test names (d ∷ ds) none others = by (test d) refl (none_in word test names ds none others.1) where
  by : (b : Bool) → test d ≡ b → IsNone word (kind_names test name_of names ds) →
      IsNone word (if b then name_of d ∷ kind_names test name_of names ds else kind_names test name_of names ds)
  by true is rest = (others.0 is, rest)
  by false is rest = rest

-- the names of those that pass a test differ from each other and from later ones, where the names of all do, and each that passes differs from later ones
apart_in : (test : Decl → Bool) (names : List (List ℕ)) (ds : List Decl) → AreApart names → AreApart (map name_of ds) →
    AllByRecursion (λ d. test d ≡ true → IsNone (name_of d) names) ds → AreApart (kind_names test name_of names ds)
apart_in test names [] are all none = are
apart_in test names (d ∷ ds) are all none = by (test d) refl (apart_in test names ds are all.1 none.1) where
  others : (es : List Decl) → IsNone (name_of d) (map name_of es) → AllByRecursion (λ e. test e ≡ true → name_of d ≢ name_of e) es
  others [] none = tt
  others (e ∷ es) none = ((λ is. none.0), others es none.1)

  by : (b : Bool) → test d ≡ b → AreApart (kind_names test name_of names ds) →
      AreApart (if b then name_of d ∷ kind_names test name_of names ds else kind_names test name_of names ds)
  by true is rest = (none_in (name_of d) test names ds (none.0 is) (others ds all.0), rest)
  by false is rest = rest

-- names differ where two of the same name are one
apart_from : (ds : List Decl) → ((i j : ℕ) (d e : Decl) → slice_get ds i ≡ Some d → slice_get ds j ≡ Some e → name_of d ≡ name_of e → i ≡ j) → AreApart (map name_of ds)
apart_from [] one = tt
apart_from (d ∷ ds) one = (
  none ds (λ k e there is. let same = one zero (suc k) d e refl there is in absurd (omega arith)),
  apart_from ds (λ i j x y at_i at_j is. let same = one (suc i) (suc j) x y at_i at_j is in omega arith),
) where
  none : (es : List Decl) → ((k : ℕ) (e : Decl) → slice_get es k ≡ Some e → name_of d ≢ name_of e) → IsNone (name_of d) (map name_of es)
  none [] other = tt
  none (e ∷ es) other = (other zero e refl, none es (λ k x there. other (suc k) x there))

-- words that a test tells apart
differ : (word other : List ℕ) → bytes_eq word word ≡ true → bytes_eq other word ≡ false → word ≢ other
differ word other same not_same is = true≢false (sym same ∙ ap (λ l. bytes_eq l word) is ∙ not_same)

module _ (decls : List Decl) (are : AreNames decls) where
  -- two declarations of one name are one
  one_place : (i j : ℕ) (d e : Decl) → slice_get decls i ≡ Some d → slice_get decls j ≡ Some e → name_of d ≡ name_of e → i ≡ j
  one_place i j d e at_i at_j is = same_Some i j (sym (are.distinct i d at_i) ∙ ap (object_of decls) is ∙ are.distinct j e at_j)

  one_name : (i j : ℕ) (d e : Decl) → slice_get decls i ≡ Some d → slice_get decls j ≡ Some e → name_of d ≡ name_of e → d ≡ e
  one_name i j d e at_i at_j is = same_Some d e (sym at_i ∙ ap (slice_get decls) (one_place i j d e at_i at_j is) ∙ at_j)

  -- a word is the name of none of the families from one on
  abbrev IsNoName : List ℕ → ℕ → Type 0
  IsNoName word number = (place : ℕ) (d : Decl) → slice_get decls place ≡ Some d → number ≤ family_number d → word ≢ name_of d

  fewer_no : (word : List ℕ) (less more : ℕ) → less ≤ more → IsNoName word less → IsNoName word more
  fewer_no word less more le free place d there from = free place d there (omega arith)

  none_of : (word : List ℕ) (number : ℕ) (test : Decl → Bool) → IsOfFamily test number → IsNoName word number → (names : List (List ℕ)) → IsNone word names → IsNone word (kind_names test name_of names decls)
  none_of word number test family free names none =
      none_in word test names decls none (all_at (λ d. test d ≡ true → word ≢ name_of d) decls (λ place d there is. free place d there (let number_is = family d is in omega arith)))

  none_observer : (word : List ℕ) → IsNoName word 5 → IsNone word (observer_names decls)
  none_observer word free = none_of word 5 is_observer observers_are free [] tt

  none_chan : (word : List ℕ) → IsNoName word 4 → IsNone word (chan_names decls)
  none_chan word free = none_of word 4 is_chan chans_are free (observer_names decls) (none_observer word (fewer_no word 4 5 (omega arith) free))

  none_signal : (word : List ℕ) → IsNoName word 3 → IsNone word (signal_names decls)
  none_signal word free = none_of word 3 is_signal signals_are free (chan_names decls) (none_chan word (fewer_no word 3 4 (omega arith) free))

  none_msgq : (word : List ℕ) → IsNoName word 2 → IsNone word (msgq_names decls)
  none_msgq word free = none_of word 2 is_msgq msgqs_are free (signal_names decls) (none_signal word (fewer_no word 2 3 (omega arith) free))

  none_sem : (word : List ℕ) → IsNoName word 1 → IsNone word (sem_names decls)
  none_sem word free = none_of word 1 is_sem sems_are free (msgq_names decls) (none_msgq word (fewer_no word 1 2 (omega arith) free))

  -- the name of one family is none of those of the later ones
  later_no : (place : ℕ) (d : Decl) (number : ℕ) → slice_get decls place ≡ Some d → family_number d < number → IsNoName (name_of d) number
  later_no place d number there below other e is_e from same =
      let one = ap family_number (one_name place other d e there is_e same) in omega arith

  all_apart_names : AreApart (map name_of decls)
  all_apart_names = apart_from decls one_place

  family_apart : (number : ℕ) (test : Decl → Bool) → IsOfFamily test number → (names : List (List ℕ)) → AreApart names →
      ((word : List ℕ) → IsNoName word (suc number) → IsNone word names) → AreApart (kind_names test name_of names decls)
  family_apart number test family names apart none =
      apart_in test names decls apart all_apart_names
      (all_at (λ d. test d ≡ true → IsNone (name_of d) names) decls
      (λ place d there is. none (name_of d) (later_no place d (suc number) there (let number_is = family d is in omega arith))))

  sems_apart : AreApart (sem_names decls)
  sems_apart =
      family_apart 1 is_sem sems_are (msgq_names decls)
      (family_apart 2 is_msgq msgqs_are (signal_names decls)
      (family_apart 3 is_signal signals_are (chan_names decls)
      (family_apart 4 is_chan chans_are (observer_names decls)
      (family_apart 5 is_observer observers_are [] tt (λ word free. tt))
      none_observer) none_chan) none_signal) none_msgq

  -- no object is named as a service of which there is one
  reserved_no : (word : List ℕ) → is_name word ≡ false → IsNoName word 1
  reserved_no word no_name place d there from same = false≢true (sym no_name ∙ ap is_name same ∙ are.formed place d there)

  -- the names of all sections, in their order
  abbrev pub section_names : List (List ℕ)
  section_names = work_name ∷ clock_name ∷ table_name ∷ sem_names decls

  -- they differ
  pub sections_apart : AreApart section_names
  sections_apart = (
    (differ work_name clock_name refl refl, (differ work_name table_name refl refl, none_sem work_name (reserved_no work_name refl))),
    (
      (differ clock_name table_name refl refl, none_sem clock_name (reserved_no clock_name refl)),
      (none_sem table_name (reserved_no table_name refl), sems_apart),
    ),
  )
