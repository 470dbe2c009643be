-- The forms on cores: how many cores, and how large a feed.
use Rattle.std.proofs.Common.{◌≡◌, ℕ, ◌≤◌, Bool, true, false, cond, Option, Some, None, List, [], ◌∷◌, length, refl, sym, ap, subst, ◌∙◌}
use Rattle.std.specs.Prelude.{nat_le, nat_lt, ◌&&◌, ◌^◌, codes}
use Rattle.std.specs.Option.{option_map, option_and_then}
use Rattle.std.specs.Str.{bytes_eq}
use Rattle.std.proofs.lemmas.Bool.{leb-true}
use Rattle.std.proofs.lemmas.Option.{same_Some}
use Rattle.zk_words.specs.Numbers.{is_between, number_in, number_of}
use Rattle.zk_cores.specs.declared.run.TheConstants.{MOST_CORES}
use Rattle.zk_feed.specs.declared.size.FeedSize.{FeedSize}
use Rattle.zk_feed.specs.declared.size.TheConstants.{MOST_MESSAGES, MOST_PUBLISHERS, MOST_SUBSCRIBERS}
use Rattle.zk_feed.specs.Feeding.{IsInRange}
use Rattle.zk_forms.specs.declared.form.Form.{Form}
use Rattle.zk_forms.specs.declared.form.Form.TheVariants.{Run, Feed}
use Rattle.zk_forms.specs.Top.{cores_form_of, feed_size}

-- a number that was tested to be between two is so
pub between : (least most : ℕ) (word : List ℕ) (n : ℕ) → number_in least most word ≡ Some n → (least ≤ n) × (n ≤ most)
between least most word n is = by (number_of word) is
  where
    tested : (a b c : Bool) (m : ℕ) → cond ((a && b) && c) (Some m) None ≡ Some n → (a ≡ true) × (b ≡ true) × (m ≡ n)
    tested true true true m is = (refl, refl, same_Some m n is)
    tested true true false m is = absurd (cc)
    tested true false c m is = absurd (cc)
    tested false b c m is = absurd (cc)

    by : (o : Option ℕ) → option_and_then (λ m. cond (is_between least most m && nat_lt m (2 ^ 32)) (Some m) None) o ≡ Some n → (least ≤ n) × (n ≤ most)
    by None is = absurd (cc)
    by (Some m) is =
        let all = tested (nat_le least m) (nat_le m most) (nat_lt m (2 ^ 32)) m is in
        subst (λ (k : ℕ). (least ≤ k) × (k ≤ most)) all.2 (leb-true least m all.0, leb-true m most all.1)

-- a feed that three words ask for may be so large
sized : (p s n : Option ℕ) (size : FeedSize) → ((k : ℕ) → p ≡ Some k → (1 ≤ k) × (k ≤ MOST_PUBLISHERS)) →
    ((k : ℕ) → s ≡ Some k → (1 ≤ k) × (k ≤ MOST_SUBSCRIBERS)) → ((k : ℕ) → n ≡ Some k → (1 ≤ k) × (k ≤ MOST_MESSAGES)) →
    option_and_then (λ p. option_and_then (λ s. option_map (λ n. record { publishers = p; subscribers = s; messages = n }) n) s) p
    ≡ Some size → IsInRange size
sized None s n size ps ss ns is = absurd (cc)
sized (Some p) None n size ps ss ns is = absurd (cc)
sized (Some p) (Some s) None size ps ss ns is = absurd (cc)
sized (Some p) (Some s) (Some n) size ps ss ns is =
    subst IsInRange (same_Some (record { publishers = p; subscribers = s; messages = n }) size is) (record {
      some_publishers = (ps p refl).0;
      most_publishers = (ps p refl).1;
      some_subscribers = (ss s refl).0;
      most_subscribers = (ss s refl).1;
      some_messages = (ns n refl).0;
      most_messages = (ns n refl).1;
    })

pub feed-in-range : (words : List (List ℕ)) (size : FeedSize) → cores_form_of words ≡ Some (Feed size) → IsInRange size
feed-in-range [] size is = absurd (cc)
feed-in-range (word ∷ []) size is = absurd (cc)
feed-in-range (word ∷ number ∷ []) size is = by (bytes_eq word (codes "run")) (number_in 1 MOST_CORES number) is
  where
    by : (a : Bool) (o : Option ℕ) → cond a (option_map Run o) None ≡ Some (Feed size) → IsInRange size
    by true None is = absurd (cc)
    by true (Some n) is = absurd (cc)
    by false o is = absurd (cc)
feed-in-range (word ∷ p ∷ s ∷ []) size is = absurd (cc)
feed-in-range (word ∷ p ∷ s ∷ n ∷ []) size is = by (bytes_eq word (codes "feed")) (feed_size p s n) refl is
  where
    size_in : FeedSize → Form → FeedSize
    size_in other (Feed made) = made
    size_in other form = other

    of-feed : (a b : FeedSize) → Feed a ≡ Feed b → a ≡ b
    of-feed a b same = ap (size_in a) same

    by : (a : Bool) (o : Option FeedSize) → feed_size p s n ≡ o → cond a (option_map Feed o) None ≡ Some (Feed size) → IsInRange size
    by true None asked is = absurd (cc)
    by true (Some made) asked is =
        let same : made ≡ size = of-feed made size (same_Some (Feed made) (Feed size) is) in
        sized (number_in 1 MOST_PUBLISHERS p) (number_in 1 MOST_SUBSCRIBERS s) (number_in 1 MOST_MESSAGES n) size
        (between 1 MOST_PUBLISHERS p) (between 1 MOST_SUBSCRIBERS s) (between 1 MOST_MESSAGES n) (asked ∙ ap Some same)
    by false o asked is = absurd (cc)
feed-in-range (word ∷ p ∷ s ∷ n ∷ m ∷ words) size is = absurd (cc)

pub some-cores : (words : List (List ℕ)) (cores : ℕ) → cores_form_of words ≡ Some (Run cores) → 1 ≤ cores
some-cores [] cores is = absurd (cc)
some-cores (word ∷ []) cores is = absurd (cc)
some-cores (word ∷ number ∷ []) cores is = by (bytes_eq word (codes "run")) (number_in 1 MOST_CORES number) refl is
  where
    cores_in : Form → ℕ
    cores_in (Run n) = n
    cores_in form = 0

    by : (a : Bool) (o : Option ℕ) → number_in 1 MOST_CORES number ≡ o → cond a (option_map Run o) None ≡ Some (Run cores) → 1 ≤ cores
    by true None asked is = absurd (cc)
    by true (Some n) asked is =
        (between 1 MOST_CORES number cores (asked ∙ ap Some (ap cores_in (same_Some (Run n) (Run cores) is)))).0
    by false o asked is = absurd (cc)
some-cores (word ∷ p ∷ s ∷ []) cores is = absurd (cc)
some-cores (word ∷ p ∷ s ∷ n ∷ []) cores is = by (bytes_eq word (codes "feed")) (feed_size p s n) is
  where
    by : (a : Bool) (o : Option FeedSize) → cond a (option_map Feed o) None ≡ Some (Run cores) → 1 ≤ cores
    by true None is = absurd (cc)
    by true (Some size) is = absurd (cc)
    by false o is = absurd (cc)
some-cores (word ∷ p ∷ s ∷ n ∷ m ∷ words) cores is = absurd (cc)

-- words of other numbers ask for none
pub other-words : (words : List (List ℕ)) → (length words ≡ 2 → ⊥) → (length words ≡ 4 → ⊥) → None ≡ cores_form_of words
other-words [] two four = refl
other-words (a ∷ []) two four = refl
other-words (a ∷ b ∷ []) two four = absurd (two refl)
other-words (a ∷ b ∷ c ∷ []) two four = refl
other-words (a ∷ b ∷ c ∷ d ∷ []) two four = absurd (four refl)
other-words (a ∷ b ∷ c ∷ d ∷ e ∷ words) two four = refl

-- no other form is one on cores
pub only-cores : (words : List (List ℕ)) (form : Form) → cores_form_of words ≡ Some form → ((n : ℕ) → form ≡ Run n → ⊥) →
    ((size : FeedSize) → form ≡ Feed size → ⊥) → ⊥
only-cores [] form is run feed = absurd (cc)
only-cores (word ∷ []) form is run feed = absurd (cc)
only-cores (word ∷ number ∷ []) form is run feed = by (bytes_eq word (codes "run")) (number_in 1 MOST_CORES number) is
  where
    by : (a : Bool) (o : Option ℕ) → cond a (option_map Run o) None ≡ Some form → ⊥
    by true None is = absurd (cc)
    by true (Some n) is = run n (sym (same_Some (Run n) form is))
    by false o is = absurd (cc)
only-cores (word ∷ p ∷ s ∷ []) form is run feed = absurd (cc)
only-cores (word ∷ p ∷ s ∷ n ∷ []) form is run feed = by (bytes_eq word (codes "feed")) (feed_size p s n) is
  where
    by : (a : Bool) (o : Option FeedSize) → cond a (option_map Feed o) None ≡ Some form → ⊥
    by true None is = absurd (cc)
    by true (Some size) is = feed size (sym (same_Some (Feed size) form is))
    by false o is = absurd (cc)
only-cores (word ∷ p ∷ s ∷ n ∷ m ∷ words) form is run feed = absurd (cc)
