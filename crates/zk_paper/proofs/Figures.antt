-- The decimal digits of numbers, by two at a time.
use Rattle.std.proofs.Common.{◌≡◌, ◌∙◌, ℕ, ◌+◌, ◌^◌, ◌/◌, ◌%◌, ◌<◌, ◌≤◌, List, [], ◌∷◌, ◌++◌, refl, sym, ap, arith}
use Rattle.std.proofs.lemmas.Fmt.{decimal_digit, decimal_step}
use Rattle.std.proofs.lemmas.List.{append_assoc}
use Rattle.std.specs.Fmt.{decimal}

-- a number below ten has one
pub one_figure : (n : ℕ) → n < 10 → decimal n ≡ (48 + n) ∷ []
one_figure n few = decimal_digit n few

-- a number has those of its tens, and that of its ones
pub last_figure : (n : ℕ) → 10 ≤ n → n < 2 ^ 64 → decimal n ≡ decimal (n / 10) ++ decimal (n % 10)
last_figure n ten wide =
    decimal_step n ten wide ∙
    ap (λ (last : List ℕ). decimal (n / 10) ++ last) (sym (decimal_digit (n % 10) (omega arith)))

-- a number has those of its hundreds, and then two
pub two_figures : (n : ℕ) → 100 ≤ n → n < 2 ^ 64 → decimal n ≡ decimal (n / 100) ++ (decimal (n % 100 / 10) ++ decimal (n % 100 % 10))
two_figures n many wide =
    let tens : n / 10 / 10 ≡ n / 100 = omega arith in
    let second : n / 10 % 10 ≡ n % 100 / 10 = omega arith in
    let first : n % 10 ≡ n % 100 % 10 = omega arith in
    last_figure n (omega arith) wide ∙
    ap (λ (front : List ℕ). front ++ decimal (n % 10)) (last_figure (n / 10) (omega arith) (omega arith)) ∙
    append_assoc (decimal (n / 10 / 10)) (decimal (n / 10 % 10)) (decimal (n % 10)) ∙
    ap (λ m. decimal m ++ (decimal (n / 10 % 10) ++ decimal (n % 10))) tens ∙
    ap (λ m. decimal (n / 100) ++ (decimal m ++ decimal (n % 10))) second ∙
    ap (λ m. decimal (n / 100) ++ (decimal (n % 100 / 10) ++ decimal m)) first

-- a number has those of its ten thousands, and then two and two
pub four_figures : (n : ℕ) → 10000 ≤ n → n < 2 ^ 64 → decimal n ≡
    decimal (n / 10000) ++ ((decimal (n / 100 % 100 / 10) ++ decimal (n / 100 % 100 % 10)) ++ (decimal (n % 100 / 10) ++ decimal (n % 100 % 10)))
four_figures n many wide =
    let thousands : n / 100 / 100 ≡ n / 10000 = omega arith in
    let upper : List ℕ = decimal (n / 100 % 100 / 10) ++ decimal (n / 100 % 100 % 10) in
    let lower : List ℕ = decimal (n % 100 / 10) ++ decimal (n % 100 % 10) in
    two_figures n (omega arith) wide ∙
    ap (λ (front : List ℕ). front ++ lower) (two_figures (n / 100) (omega arith) (omega arith)) ∙
    append_assoc (decimal (n / 100 / 100)) upper lower ∙
    ap (λ m. decimal m ++ (upper ++ lower)) thousands

-- what is put in parts, the last in two, is put whole
pub pair_after : (old first a b whole middle new : List ℕ) → middle ≡ old ++ first → new ≡ (middle ++ a) ++ b →
    whole ≡ first ++ (a ++ b) → new ≡ old ++ whole
pair_after old first a b whole middle new one two is =
    two ∙ append_assoc middle a b ∙ ap (λ (l : List ℕ). l ++ (a ++ b)) one ∙ append_assoc old first (a ++ b) ∙
    ap (λ (l : List ℕ). old ++ l) (sym is)

-- and so is what is put in one and then in two and two
pub pairs_after : (old first a b c d whole middle further new : List ℕ) → middle ≡ old ++ first → further ≡ (middle ++ a) ++ b →
    new ≡ (further ++ c) ++ d → whole ≡ first ++ ((a ++ b) ++ (c ++ d)) → new ≡ old ++ whole
pairs_after old first a b c d whole middle further new one two three is =
    pair_after old (first ++ (a ++ b)) c d whole further new (pair_after old first a b (first ++ (a ++ b)) middle further one two refl) three
    (is ∙ sym (append_assoc first (a ++ b) (c ++ d)))
