use Rattle.std.proofs.Common.{◌≡◌, ◌+◌, ◌*◌, ◌<◌, [], ◌∷◌, ◌++◌, ℕ, List, sym, ap, subst, ◌∙◌, arith}
use Rattle.zk_base.specs.Legal.{state_after}
use Rattle.zk_turn.specs.Words.{AreFirstWords}
use Rattle.zk_turn.proofs.Glances.{first_words-push, first_words-none}
use Rattle.zk_turn.proofs.opening.first_words.Goals as goal

pub loop-index-init : goal.loop-index-init
loop-index-init g c =
    let service = c.args.service.now in
    let items = c.in_ok-extend_from_slice.ensures.items ∙ ap (λ (l : List ℕ). l ++ 0 ∷ 0 ∷ 0 ∷ []) c.in_ok-words.ensures.items in
    subst (λ l. AreFirstWords 0 (g.S.Service.word (g.S.Service.start service)) l) (sym items)
    (first_words-none (g.S.Service.word (g.S.Service.start service)))

pub loop-index-preserved : goal.loop-index-preserved
loop-index-preserved g c =
    let service = c.args.service.now in
    let start = g.S.Service.start service in
    let index = c.loop-index.index in
    let words = c.loop-index.words.items in
    let value = g.S.Service.word start in
    let is = c.word.ensures.word ∙ ap (λ h. g.S.Service.word (state_after g.S.Service.machine start h) index) c.requires.empty in
    let below : index < g.S.Service.WORDS = subst (λ n. index < n) c.WORDS-index-end.ensures c.loop-index-test.true in
    subst (λ l. AreFirstWords (index + 1) value l) (sym c.in_ok-push.ensures.items)
    (first_words-push index value words (c.word.result * 65536) c.loop-index.invariant (ap (λ (n : ℕ). n * 65536) is)
    (subst (λ n. n < 65536) is (c.word.ensures.small below)))

pub returns : goal.returns
returns g c =
    let most = c.loop-index.auto.index-end in
    let least = c.loop-index-test.false in
    let same : c.loop-index.index ≡ c.WORDS-index-end.result = omega arith in
    subst (λ n. AreFirstWords n (g.S.Service.word (g.S.Service.start c.args.service.now)) c.loop-index.words.items)
    (same ∙ c.WORDS-index-end.ensures) c.loop-index.invariant
