-- How long a call waits has one spelling.
use Rattle.std.proofs.Common.{◌≡◌, ℕ, Bool, true, false, cond, List, Option, Some, None, refl, sym, ap, ◌∙◌}
use Rattle.std.specs.Prelude.{option_map, codes}
use Rattle.std.specs.Str.{bytes_eq}
use Rattle.std.specs.Cmp.Lexicographic.{bytes_decides}
use Rattle.std.proofs.lemmas.Option.{same_Some}
use Rattle.zk_words.specs.declared.limits.TheConstants.{MOST_TICKS}
use Rattle.zk_words.specs.declared.timeout.Timeout.{Timeout}
use Rattle.zk_words.specs.declared.timeout.Timeout.TheVariants.{No, Forever, Ticks}
use Rattle.zk_words.specs.Numbers.{number_in}
use Rattle.zk_words.specs.Timeouts.{wait_of, wait_text, wait_fits}
use Rattle.zk_words.proofs.Numerals.{number_in_spelled}

-- the word is the text of the wait, whose ticks are in range
abbrev pub SpellsWait : List ℕ → Timeout → Type 0
SpellsWait word wait = (word ≡ wait_text wait) × (wait_fits wait ≡ true)

by_ticks : (word : List ℕ) (wait : Timeout) (n : Option ℕ) → number_in 1 MOST_TICKS word ≡ n → option_map Ticks n ≡ Some wait → SpellsWait word wait
by_ticks word wait None said given = absurd (cc)
by_ticks word wait (Some n) said given =
    let is = same_Some (Ticks n) wait given in
    let spelled = number_in_spelled 1 MOST_TICKS word n said in
    (spelled.0 ∙ ap wait_text is, ap wait_fits (sym is) ∙ spelled.1)

-- a word that says how long a call waits is the text of that
pub wait_spelled : (word : List ℕ) (wait : Timeout) → wait_of word ≡ Some wait → SpellsWait word wait
wait_spelled word wait said = by_first (bytes_eq word (codes "no")) refl said where
  by_second : (b : Bool) → bytes_eq word (codes "forever") ≡ b → cond b (Some Forever) (option_map Ticks (number_in 1 MOST_TICKS word)) ≡ Some wait → SpellsWait word wait
  by_second true same here =
      let is = same_Some Forever wait here in ((bytes_decides word (codes "forever")).0 same ∙ ap wait_text is, ap wait_fits (sym is))
  by_second false same here = by_ticks word wait (number_in 1 MOST_TICKS word) refl here

  by_first : (b : Bool) → bytes_eq word (codes "no") ≡ b → cond b (Some No) (cond (bytes_eq word (codes "forever")) (Some Forever) (option_map Ticks (number_in 1 MOST_TICKS word))) ≡ Some wait → SpellsWait word wait
  by_first true same here =
      let is = same_Some No wait here in ((bytes_decides word (codes "no")).0 same ∙ ap wait_text is, ap wait_fits (sym is))
  by_first false same here = by_second (bytes_eq word (codes "forever")) refl here
