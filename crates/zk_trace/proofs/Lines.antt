-- A line is its first word, and the others each behind a space.
use Rattle.std.proofs.Common.{◌≡◌, ℕ, List, [], ◌∷◌, ◌++◌, codes, refl, sym, ap, ◌∙◌}
use Rattle.std.specs.List.{join_with_byte}
use Rattle.std.proofs.lemmas.List.{append-nil, append_assoc}
use Rattle.zk_words.specs.Bytes.{space}
use Rattle.zk_trace.specs.Parts.{each_behind}
use Rattle.zk_trace.specs.Text.{line}

pub each_behind-append : (c : ℕ) (xs ys : List (List ℕ)) → each_behind c (xs ++ ys) ≡ each_behind c xs ++ each_behind c ys
each_behind-append c [] ys = refl
each_behind-append c (x ∷ xs) ys =
    ap (λ (l : List ℕ). c ∷ x ++ l) (each_behind-append c xs ys)
    ∙ ap (λ (l : List ℕ). c ∷ l) (sym (append_assoc x (each_behind c xs) (each_behind c ys)))

pub join-first : (c : ℕ) (first : List ℕ) (words : List (List ℕ)) →
    join_with_byte c (first ∷ words) ≡ first ++ each_behind c words
join-first c first [] = sym (append-nil first)
join-first c first (word ∷ words) = ap (λ (l : List ℕ). first ++ (c ∷ l)) (join-first c word words)

regroup : (a b c d e f : List ℕ) → ((((a ++ b) ++ c) ++ d) ++ e) ++ f ≡ a ++ (b ++ (c ++ (d ++ (e ++ f))))
regroup a b c d e f = simp append_assoc

-- a line is put when its first word is, what stands behind it up to the sign, the sign, and what stands behind that
pub line-put : (old a b c d new first : List ℕ) (words more : List (List ℕ)) → a ≡ old ++ first →
    b ≡ a ++ each_behind space words → c ≡ b ++ codes " =" → d ≡ c ++ each_behind space more → new ≡ d ++ codes "\n" →
    new ≡ old ++ line (first ∷ words ++ codes "=" ∷ more)
line-put old a b c d new first words more put_first put_words put_sign put_more put_feed =
    let behind : List ℕ = each_behind space words in
    let answer : List ℕ = each_behind space more in
    put_feed
    ∙ ap (λ (l : List ℕ). l ++ codes "\n") (put_more ∙ ap (λ (l : List ℕ). l ++ answer)
    (put_sign ∙ ap (λ (l : List ℕ). l ++ codes " =") (put_words ∙ ap (λ (l : List ℕ). l ++ behind) put_first)))
    ∙ regroup old first behind (codes " =") answer (codes "\n")
    ∙ ap (λ (l : List ℕ). old ++ l)
    (sym (append_assoc first (behind ++ (codes " =" ++ answer)) (codes "\n")
    ∙ ap (λ (l : List ℕ). first ++ l) (append_assoc behind (codes " =" ++ answer) (codes "\n"))))
    ∙ ap (λ (l : List ℕ). old ++ (l ++ codes "\n"))
    (sym (join-first space first (words ++ codes "=" ∷ more)
    ∙ ap (λ (l : List ℕ). first ++ l) (each_behind-append space words (codes "=" ∷ more))))
