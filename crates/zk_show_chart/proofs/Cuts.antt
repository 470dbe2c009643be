-- A text that is cut at its first line feed, or at its first space.
use Rattle.std.proofs.Common.{◌≡◌, ℕ, ◌+◌, ◌-◌, ◌≤◌, ◌==◌, nat_lt, Bool, true, false, cond, Option, Some, None, is_some, List, [], length, take, drop, position, true≢false, take_all, refl, sym, ap, ◌∙◌, arith}
use Rattle.std.specs.List.{position_or_len}
use Rattle.std.specs.Option.{unwrap_or}
use Rattle.std.proofs.Math.ListN.{drop_of_length-le}
use Rattle.std.proofs.lemmas.Bool.{ltb-false}
use Rattle.std.proofs.lemmas.List.{length-drop}
use Rattle.zk_words.specs.Bytes.{line_feed, space}
use Rattle.zk_show_chart.specs.Lines.{before_feed, behind_feed, before_space}

cut_at : (text : List ℕ) (end at : ℕ) (within : Bool) → Some end ≡ cond within (Some at) None →
    (take end text ≡ take at text) × (take (length text - (end + 1)) (drop (end + 1) text) ≡ drop (at + 1) text)
cut_at text end at true is =
    let same : end ≡ at = ap (λ o. unwrap_or o 0) is in
    let rest : take (length text - (end + 1)) (drop (end + 1) text) ≡ drop (end + 1) text =
    take_all (length text - (end + 1)) (drop (end + 1) text) (omega (arith, length-drop (end + 1) text)) in
    (ap (λ n. take n text) same, rest ∙ ap (λ n. drop (n + 1) text) same)
cut_at text end at false is = absurd (true≢false (ap is_some is))

whole_at : (text : List ℕ) (at : ℕ) (within : Bool) → nat_lt at (length text) ≡ within →
    ◌≡◌ {A = Option ℕ} None (cond within (Some at) None) → (text ≡ take at text) × ([] ≡ drop (at + 1) text)
whole_at text at true _ is = absurd (true≢false (ap is_some (sym is)))
whole_at text at false without _ =
    let all : length text ≤ at = ltb-false at (length text) without in
    (sym (take_all at text all), sym (drop_of_length-le text (omega (arith, all))))

-- what stands before the first line feed and behind it, where there is one
pub cut_some : (text : List ℕ) (end : ℕ) → Some end ≡ position (λ b. b == line_feed) text →
    (take end text ≡ before_feed text) × (take (length text - (end + 1)) (drop (end + 1) text) ≡ behind_feed text)
unfolding before_feed behind_feed
cut_some text end is =
    let at = position_or_len (λ b. b == line_feed) text in
    cut_at text end at (nat_lt at (length text)) is

-- where there is none
pub cut_none : (text : List ℕ) → ◌≡◌ {A = Option ℕ} None (position (λ b. b == line_feed) text) →
    (text ≡ before_feed text) × ([] ≡ behind_feed text)
unfolding before_feed behind_feed
cut_none text is =
    let at = position_or_len (λ b. b == line_feed) text in
    whole_at text at (nat_lt at (length text)) refl is

-- the same of its first space
pub word_some : (text : List ℕ) (end : ℕ) → Some end ≡ position (λ b. b == space) text → take end text ≡ before_space text
word_some text end is =
    let at = position_or_len (λ b. b == space) text in
    (cut_at text end at (nat_lt at (length text)) is).0

pub word_none : (text : List ℕ) → ◌≡◌ {A = Option ℕ} None (position (λ b. b == space) text) → text ≡ before_space text
word_none text is =
    let at = position_or_len (λ b. b == space) text in
    (whole_at text at (nat_lt at (length text)) refl is).0
