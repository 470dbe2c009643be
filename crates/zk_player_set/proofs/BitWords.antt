-- The bits of a word, and the sets of players that words make.
use Rattle.std.proofs.Common.{◌≡◌, ◌≢◌, ℕ, ◌+◌, ◌*◌, ◌-◌, ◌/◌, ◌%◌, ◌^◌, ◌<◌, ◌≤◌, ◌⊎◌, inl, inr, Bool, true, false, not, eqb, ltb, cond, ◌&&◌, ◌||◌}
use Rattle.std.proofs.Common.{zero, suc, min, w64, List, length, get_or, set, bit_and, bit_or, refl, sym, ap, subst, ◌∙◌, arith}
use Rattle.std.specs.Int.{bit_at, trailing_ones}
use Rattle.std.proofs.Math.Bool.{or-false, or-true, and-false, and-true}
use Rattle.std.proofs.lemmas.Bool.Decides.{nat_tests}
use Rattle.std.proofs.lemmas.Bool.{eqb-true, eqb-false, ne_eqb, lt-ltb, cases_eq, cases_lt}
use Rattle.std.proofs.lemmas.List.{get_or-set_same, get_or-set_other}
use Rattle.std.proofs.lemmas.Nat.{and_or_self, and_or_apart, and_assoc, and-not, and_block, and_le_r, pow_apart, pow_pos}
use Rattle.std.proofs.lemmas.Nat.{pow_below, mod_below, shr-shr, shr_below}
use Rattle.std.proofs.lemmas.Nat.Bits.{and_pow, bit_at_and, bit_at_not, bit_at-lt, bit_at-trailing_ones, bit_at_above, bit_at_ones}
use Rattle.zk_base.specs.Limits.{most_players}
use Rattle.zk_player_set.specs.Players.{word_bits, has_bit, with_bit, without_bit, has_player}

tested : (x n : ℕ) → x ≡ 2 ^ n → not (eqb x 0) ≡ true
tested x n is = ap not (ne_eqb x 0 (λ none. let some = pow_pos n in omega arith))

own-bit : (n : ℕ) → bit_and (2 ^ n) (2 ^ n) ≡ 2 ^ n
own-bit n =
    let some = pow_pos n in
    let block = and_block n 1 1 0 0 some some in
    let same : 1 * 2 ^ n + 0 ≡ 2 ^ n = omega arith in
    ap (λ (x : ℕ). bit_and x x) (sym same) ∙ block ∙ same

with-own : (w n : ℕ) → has_bit (with_bit w n) n ≡ true
with-own w n = tested (bit_and (bit_or w (2 ^ n)) (2 ^ n)) n (and_or_self (2 ^ n) w)

with-other : (w n p : ℕ) → n ≢ p → has_bit (with_bit w n) p ≡ has_bit w p
with-other w n p apart = ap (λ (x : ℕ). not (eqb x 0)) (and_or_apart (2 ^ p) w (2 ^ n) (pow_apart n p apart))

without-so : (w n p : ℕ) → has_bit (without_bit w n) p ≡ not (eqb (bit_and w (bit_and (2 ^ word_bits - 1 - 2 ^ n) (2 ^ p))) 0)
without-so w n p = ap (λ (x : ℕ). not (eqb x 0)) (and_assoc (2 ^ p) w (2 ^ word_bits - 1 - 2 ^ n))

without-own : (w n : ℕ) → n < word_bits → has_bit (without_bit w n) n ≡ false
without-own w n small =
    let rest = bit_and (2 ^ word_bits - 1 - 2 ^ n) (2 ^ n) in
    let sum = and-not word_bits (2 ^ n) (2 ^ n) (pow_below n word_bits small) (pow_below n word_bits small) in
    let own = own-bit n in
    let none : rest ≡ 0 = omega (arith, sum, own) in
    let least = and_le_r w 0 in
    let zero : bit_and w 0 ≡ 0 = omega (arith, least) in
    without-so w n n ∙ ap (λ (x : ℕ). not (eqb (bit_and w x) 0)) none ∙ ap (λ (x : ℕ). not (eqb x 0)) zero

without-other : (w n p : ℕ) → n < word_bits → p < word_bits → n ≢ p → has_bit (without_bit w n) p ≡ has_bit w p
without-other w n p small below apart =
    let rest = bit_and (2 ^ word_bits - 1 - 2 ^ n) (2 ^ p) in
    let sum = and-not word_bits (2 ^ n) (2 ^ p) (pow_below n word_bits small) (pow_below p word_bits below) in
    let none = pow_apart n p apart in
    let all : rest ≡ 2 ^ p = omega (arith, sum, none) in
    without-so w n p ∙ ap (λ (x : ℕ). not (eqb (bit_and w x) 0)) all

-- the place of a player: its word, and its bit there, which no other player has
bit-small : (player : ℕ) → player % word_bits < word_bits
bit-small player = mod_below player word_bits (omega arith)

apart-bits : (player other : ℕ) → player ≢ other → player / word_bits ≡ other / word_bits → player % word_bits ≢ other % word_bits
apart-bits player other apart word bit = apart (omega arith)

-- words where the word of a player is made another: one that has its bit put so, and the other bits as they were
put-player : (words : List ℕ) (player other made : ℕ) (put : Bool) → player / word_bits < length words →
    has_bit made (player % word_bits) ≡ put →
    ((bit : ℕ) → bit < word_bits → player % word_bits ≢ bit →
    has_bit made bit ≡ has_bit (get_or words (player / word_bits) 0) bit) →
    has_player (set words (player / word_bits) made) other ≡ cond (eqb player other) put (has_player words other)
put-player words player other made put within own others = by (eqb player other) refl where
  here : has_player (set words (player / word_bits) made) player ≡ put
  here = ap (λ (w : ℕ). has_bit w (player % word_bits)) (get_or-set_same words (player / word_bits) made 0 within) ∙ own

  there : player ≢ other → (b : Bool) → eqb (player / word_bits) (other / word_bits) ≡ b →
      has_player (set words (player / word_bits) made) other ≡ has_player words other
  there apart true same =
      let word = eqb-true (player / word_bits) (other / word_bits) same in
      ap (λ (at : ℕ). has_bit (get_or (set words (player / word_bits) made) at 0) (other % word_bits)) (sym word)
      ∙ ap (λ (w : ℕ). has_bit w (other % word_bits)) (get_or-set_same words (player / word_bits) made 0 within)
      ∙ others (other % word_bits) (bit-small other) (apart-bits player other apart word)
      ∙ ap (λ (at : ℕ). has_bit (get_or words at 0) (other % word_bits)) word
  there apart false differ =
      ap (λ (w : ℕ). has_bit w (other % word_bits)) (get_or-set_other words (player / word_bits) (other / word_bits) made 0
      (λ same. eqb-false (player / word_bits) (other / word_bits) differ (sym same)))

  by : (b : Bool) → eqb player other ≡ b →
      has_player (set words (player / word_bits) made) other ≡ cond b put (has_player words other)
  by true same = ap (has_player (set words (player / word_bits) made)) (sym (eqb-true player other same)) ∙ here
  by false differ = there (eqb-false player other differ) (eqb (player / word_bits) (other / word_bits)) refl

-- the words with the bit of a player set, and without it
given-player : (words : List ℕ) (player other : ℕ) → player / word_bits < length words →
    has_player (set words (player / word_bits) (with_bit (get_or words (player / word_bits) 0) (player % word_bits))) other
    ≡ cond (eqb player other) true (has_player words other)
given-player words player other within =
    let word = get_or words (player / word_bits) 0 in
    let bit = player % word_bits in
    put-player words player other (with_bit word bit) true within (with-own word bit)
    (λ other_bit small apart. with-other word bit other_bit apart)

taken-player : (words : List ℕ) (player other : ℕ) → player / word_bits < length words →
    has_player (set words (player / word_bits) (without_bit (get_or words (player / word_bits) 0) (player % word_bits))) other
    ≡ cond (eqb player other) false (has_player words other)
taken-player words player other within =
    let word = get_or words (player / word_bits) 0 in
    let bit = player % word_bits in
    put-player words player other (without_bit word bit) false within (without-own word bit (bit-small player))
    (λ other_bit small apart. without-other word bit other_bit (bit-small player) small apart)

-- the set with one player more, and with one less
pub inserted : (words : List ℕ) (player other : ℕ) → player < most_players → player / word_bits < length words →
    (ltb other most_players && has_player (set words (player / word_bits)
    (with_bit (get_or words (player / word_bits) 0) (player % word_bits))) other)
    ≡ ((ltb other most_players && has_player words other) || (eqb player other && ltb player most_players))
inserted words player other small within =
    ap (λ (b : Bool). ltb other most_players && b) (given-player words player other within) ∙ by (eqb player other) refl where
      by : (b : Bool) → eqb player other ≡ b →
          (ltb other most_players && cond b true (has_player words other))
          ≡ ((ltb other most_players && has_player words other) || (b && ltb player most_players))
      by true same =
          let low : ltb player most_players ≡ true = lt-ltb player most_players small in
          and-true (ltb other most_players) ∙ ap (λ (k : ℕ). ltb k most_players) (sym (eqb-true player other same)) ∙ low
          ∙ sym (ap (λ (b : Bool). (ltb other most_players && has_player words other) || b) low
          ∙ or-true (ltb other most_players && has_player words other))
      by false differ = sym (or-false (ltb other most_players && has_player words other))

pub removed : (words : List ℕ) (player other : ℕ) → player / word_bits < length words →
    (ltb other most_players && has_player (set words (player / word_bits)
    (without_bit (get_or words (player / word_bits) 0) (player % word_bits))) other)
    ≡ ((ltb other most_players && has_player words other) && not (eqb player other))
removed words player other within =
    ap (λ (b : Bool). ltb other most_players && b) (taken-player words player other within) ∙ by (eqb player other) where
      by : (b : Bool) →
          (ltb other most_players && cond b false (has_player words other))
          ≡ ((ltb other most_players && has_player words other) && not b)
      by true = and-false (ltb other most_players) ∙ sym (and-false (ltb other most_players && has_player words other))
      by false = sym (and-true (ltb other most_players && has_player words other))

-- a bit of a word is set where it is 1
has-at : (word bit : ℕ) → has_bit word bit ≡ eqb (bit_at word bit) 1
has-at word bit = ap (λ (x : ℕ). not (eqb x 0)) (and_pow word bit) ∙ by (bit_at word bit) (bit_at-lt word bit) where
  by : (x : ℕ) → x < 2 → not (eqb (x * 2 ^ bit) 0) ≡ eqb x 1
  by zero small = let none : 0 * 2 ^ bit ≡ 0 = omega arith in ap (λ (n : ℕ). not (eqb n 0)) none
  by (suc zero) small = tested (1 * 2 ^ bit) bit (omega arith)
  by (suc (suc x)) small = absurd (omega arith)

-- the word without the bits of another
pub without-bits : (word other bit : ℕ) → other < 2 ^ word_bits → bit < word_bits →
    has_bit (bit_and word (2 ^ word_bits - 1 - other)) bit ≡ (has_bit word bit && not (has_bit other bit))
without-bits word other bit small below =
    has-at (bit_and word (2 ^ word_bits - 1 - other)) bit
    ∙ ap (λ (x : ℕ). eqb x 1) (bit_at_and word (2 ^ word_bits - 1 - other) bit
    ∙ ap (min (bit_at word bit)) (bit_at_not w64 other bit small below))
    ∙ by (bit_at word bit) (bit_at other bit) (bit_at-lt word bit) (bit_at-lt other bit)
    ∙ ap (λ (b : Bool). b && not (eqb (bit_at other bit) 1)) (sym (has-at word bit))
    ∙ ap (λ (b : Bool). has_bit word bit && not b) (sym (has-at other bit)) where
      by : (x y : ℕ) → x < 2 → y < 2 → eqb (min x (1 - y)) 1 ≡ (eqb x 1 && not (eqb y 1))
      by zero y one two = let low : min 0 (1 - y) ≡ 0 = omega arith in ap (λ (n : ℕ). eqb n 1) low
      by (suc zero) zero one two = refl
      by (suc zero) (suc zero) one two = refl
      by (suc zero) (suc (suc y)) one two = absurd (omega arith)
      by (suc (suc x)) y one two = absurd (omega arith)

-- a word is made another
pub word-set : (words : List ℕ) (at made player : ℕ) → at < length words →
    has_player (set words at made) player
    ≡ cond (eqb at (player / word_bits)) (has_bit made (player % word_bits)) (has_player words player)
word-set words at made player within = by (eqb at (player / word_bits)) refl where
  by : (b : Bool) → eqb at (player / word_bits) ≡ b →
      has_player (set words at made) player ≡ cond b (has_bit made (player % word_bits)) (has_player words player)
  by true same =
      ap (λ (i : ℕ). has_bit (get_or (set words at made) i 0) (player % word_bits)) (sym (eqb-true at (player / word_bits) same))
      ∙ ap (λ (w : ℕ). has_bit w (player % word_bits)) (get_or-set_same words at made 0 within)
  by false differ =
      ap (λ (w : ℕ). has_bit w (player % word_bits)) (get_or-set_other words at (player / word_bits) made 0
      (λ same. eqb-false at (player / word_bits) differ (sym same)))

-- the words of a set without the players of another, as far as they have come
pub record IsWithout (words others made : List ℕ) (at : ℕ) : Type 0 where
  pub done : (player : ℕ) → player / word_bits < at →
      has_player made player ≡ (has_player words player && not (has_player others player))
  pub rest : (player : ℕ) → at ≤ player / word_bits → has_player made player ≡ has_player words player

-- one word further
pub without-next : (words others made : List ℕ) (at word : ℕ) → at < length made → IsWithout words others made at →
    ((bit : ℕ) → bit < word_bits → has_bit word bit ≡ (has_bit (get_or made at 0) bit && not (has_bit (get_or others at 0) bit))) →
    IsWithout words others (set made at word) (at + 1)
without-next words others made at word within so_far taken = record {
  done = λ player below. word-set made at word player within ∙ here player below (eqb at (player / word_bits)) refl;
  rest = λ player above.
      word-set made at word player within
      ∙ ap (λ (b : Bool). cond b (has_bit word (player % word_bits)) (has_player made player))
      (ne_eqb at (player / word_bits) (λ same. absurd (omega (arith, same))))
      ∙ so_far.rest player (omega arith);
} where
  here : (player : ℕ) → player / word_bits < at + 1 → (b : Bool) → eqb at (player / word_bits) ≡ b →
      cond b (has_bit word (player % word_bits)) (has_player made player)
      ≡ (has_player words player && not (has_player others player))
  here player below true same =
      let is = eqb-true at (player / word_bits) same in
      let small = bit-small player in
      taken (player % word_bits) small
      ∙ ap (λ (i : ℕ). has_bit (get_or made i 0) (player % word_bits) && not (has_bit (get_or others i 0) (player % word_bits))) is
      ∙ ap (λ (b : Bool). b && not (has_player others player)) (so_far.rest player (omega (arith, is)))
  here player below false differ =
      let isnt = eqb-false at (player / word_bits) differ in
      so_far.done player (less isnt) where
        less : (at ≡ player / word_bits → ⊥) → player / word_bits < at
        less isnt = elim (cases_eq at (player / word_bits)) [
          | inl same ↦ absurd (isnt same)
          | inr other ↦ omega arith
        ]

-- all words
pub without-all : (words others made : List ℕ) (at player : ℕ) → most_players / word_bits ≤ at → IsWithout words others made at →
    (ltb player most_players && has_player made player)
    ≡ ((ltb player most_players && has_player words player) && not (ltb player most_players && has_player others player))
without-all words others made at player all so_far = by (ltb player most_players) refl where
  by : (b : Bool) → ltb player most_players ≡ b →
      (b && has_player made player) ≡ ((b && has_player words player) && not (b && has_player others player))
  by true is = let below : player < most_players = grind (arith, nat_tests) in so_far.done player (omega (arith, below, all))
  by false is = refl

-- the bits of a word from one on, moved down
moved-bit : (word bit i : ℕ) → has_bit (word / 2 ^ bit) i ≡ has_bit word (bit + i)
moved-bit word bit i =
    has-at (word / 2 ^ bit) i
    ∙ ap (λ (x : ℕ). eqb (x % 2) 1) (shr-shr word bit i)
    ∙ sym (has-at word (bit + i))

-- so many bits from one on are set, or none of them is, and the next one isn't so
pub record AreBits (so : Bool) (word bit count : ℕ) : Type 0 where
  pub within : bit + count ≤ word_bits
  pub all : (other : ℕ) → bit ≤ other → other < bit + count → has_bit word other ≡ so
  pub end : bit + count < word_bits → has_bit word (bit + count) ≡ not so

-- a bit of a word's upper part
bit-above : (word bit other : ℕ) → bit ≤ other → bit_at (word / 2 ^ bit) (other - bit) ≡ bit_at word other
bit-above word bit other low =
    let place : bit + (other - bit) ≡ other = omega arith in
    ap (λ (x : ℕ). x % 2) (shr-shr word bit (other - bit)) ∙ ap (bit_at word) place

is-set : (word bit : ℕ) → bit_at word bit ≡ 1 → has_bit word bit ≡ true
is-set word bit is = has-at word bit ∙ ap (λ (x : ℕ). eqb x 1) is

isnt-set : (word bit : ℕ) → bit_at word bit ≡ 0 → has_bit word bit ≡ false
isnt-set word bit isnt = has-at word bit ∙ ap (λ (x : ℕ). eqb x 1) isnt

-- all of them are
pub all-ones : (word bit : ℕ) → word < 2 ^ word_bits → bit < word_bits → word / 2 ^ bit ≡ 2 ^ word_bits - 1 → AreBits true word bit word_bits
all-ones word bit small below all = record {
  within = omega (arith, lowest bit refl);
  all = λ other low high.
      is-set word other (sym (bit-above word bit other low)
      ∙ ap (λ (x : ℕ). bit_at x (other - bit)) all ∙ bit_at_ones word_bits (other - bit) (omega (arith, lowest bit refl)));
  end = λ high. absurd (omega (arith, high));
}
  where
    lowest : (b : ℕ) → bit ≡ b → b ≡ 0
    lowest zero is = refl
    lowest (suc b) is =
        let split : word_bits - suc b + suc b ≡ word_bits = omega (arith, is, below) in
        let upper = shr_below word (word_bits - suc b) (suc b) (subst (λ (k : ℕ). word < 2 ^ k) (sym split) small) in
        let less = pow_below (word_bits - suc b) word_bits (omega arith) in
        absurd (omega (arith, upper, less, sym (ap (λ (k : ℕ). word / 2 ^ k) is) ∙ all))

-- they end at the first that isn't
pub some-ones : (word bit : ℕ) → word < 2 ^ word_bits → bit < word_bits → word / 2 ^ bit + 1 < 2 ^ word_bits →
    AreBits true word bit (trailing_ones w64 (word / 2 ^ bit))
some-ones word bit small below most = record {
  within = by (cases_lt word_bits (bit + count));
  all = λ other low high. is-set word other (sym (bit-above word bit other low) ∙ it.2 (other - bit) (omega arith));
  end = λ high.
      let back : bit + count - bit ≡ count = omega arith in
      isnt-set word (bit + count) (sym (bit-above word bit (bit + count) (omega arith)) ∙ ap (bit_at (word / 2 ^ bit)) back ∙ it.1);
}
  where
    count : ℕ
    count = trailing_ones w64 (word / 2 ^ bit)

    it : (count < word_bits) × (bit_at (word / 2 ^ bit) count ≡ 0) × ((i : ℕ) → i < count → bit_at (word / 2 ^ bit) i ≡ 1)
    it = bit_at-trailing_ones w64 (word / 2 ^ bit) most

    by : (word_bits < bit + count) ⊎ (bit + count ≤ word_bits) → bit + count ≤ word_bits
    by (inl beyond) =
        let one = it.2 (word_bits - bit) (omega arith) in
        let none = bit-above word bit word_bits (omega arith) ∙ bit_at_above word word_bits word_bits small (omega arith) in
        absurd (omega (arith, one, none))
    by (inr within) = within

-- what isn't so
pub not-true : (b : Bool) → not b ≡ true → b ≡ false
not-true true is = absurd (cc)
not-true false is = refl

pub not-false : (b : Bool) → not b ≡ false → b ≡ true
not-false true is = refl
not-false false is = absurd (cc)

-- the bits of a word whose bits are all turned over
pub turned-bit : (word bit : ℕ) → word < 2 ^ word_bits → bit < word_bits → has_bit (2 ^ word_bits - 1 - word) bit ≡ not (has_bit word bit)
turned-bit word bit small below =
    has-at (2 ^ word_bits - 1 - word) bit
    ∙ ap (λ (x : ℕ). eqb x 1) (bit_at_not w64 word bit small below)
    ∙ by (bit_at word bit) (bit_at-lt word bit)
    ∙ ap not (sym (has-at word bit)) where
      by : (x : ℕ) → x < 2 → eqb (1 - x) 1 ≡ not (eqb x 1)
      by zero two = refl
      by (suc zero) two = refl
      by (suc (suc x)) two = absurd (omega arith)

-- the players of a word, from one on, are there as its bits are
pub follow-all : (so : Bool) (words : List ℕ) (player count : ℕ) → player < most_players →
    AreBits so (get_or words (player / word_bits) 0) (player % word_bits) count →
    (other : ℕ) → player ≤ other → other < player + count → (ltb other most_players && has_player words other) ≡ so
follow-all so words player count small are other low high =
    let within = are.within in
    let place : other / word_bits ≡ player / word_bits = omega (arith, within) in
    let bit : other % word_bits ≡ player % word_bits + (other - player) = omega (arith, within) in
    let below : other < most_players = omega (arith, place) in
    let one = are.all (player % word_bits + (other - player)) (omega arith) (omega arith) in
    ap (λ (b : Bool). b && has_player words other) (lt-ltb other most_players below)
    ∙ ap (λ (at : ℕ). has_bit (get_or words at 0) (other % word_bits)) place
    ∙ ap (has_bit (get_or words (player / word_bits) 0)) bit ∙ one

-- and the one behind them in that word isn't
pub follow-end : (so : Bool) (words : List ℕ) (player count : ℕ) → player < most_players →
    AreBits so (get_or words (player / word_bits) 0) (player % word_bits) count →
    (player + count) / word_bits ≡ player / word_bits → (ltb (player + count) most_players && has_player words (player + count)) ≡ not so
follow-end so words player count small are place =
    let bit : (player + count) % word_bits ≡ player % word_bits + count = omega (arith, place) in
    let below : player + count < most_players = omega (arith, place) in
    ap (λ (b : Bool). b && has_player words (player + count)) (lt-ltb (player + count) most_players below)
    ∙ ap (λ (at : ℕ). has_bit (get_or words at 0) ((player + count) % word_bits)) place
    ∙ ap (has_bit (get_or words (player / word_bits) 0)) bit ∙ are.end (omega (arith, place))
