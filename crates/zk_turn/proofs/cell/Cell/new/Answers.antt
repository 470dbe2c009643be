use Rattle.std.proofs.Common.{◌≤◌, Some, ◌∷◌, [], ◌++◌, length, List, sym, ap, subst, ◌∙◌, arith}
use Rattle.atomic_table.specs.Table.{opening}
use Rattle.zk_base.specs.declared.ids.Who.{Who}
use Rattle.zk_base.specs.Legal.{IsLegal}
use Rattle.zk_base.proofs.Histories.{IsLegal-nil}
use Rattle.zk_turn.specs.Steps.{Fits}
use Rattle.zk_turn.specs.Turn.{Turn}
use Rattle.zk_turn.specs.Views.{opened}
use Rattle.zk_turn.specs.Words.{AreFirstWords, word_after}
use Rattle.zk_turn.proofs.Dealing.{starts}
use Rattle.zk_turn.proofs.cell.Cell.new.Goals as goal

pub new-requires : goal.new-requires
new-requires g c =
    let machine = g.S.Service.machine in
    let legal = IsLegal machine in
    let fits = Fits g.S.Service.start g.S.Service.history in
    let word = word_after machine g.S.Service.word in
    let words = g.S.Service.WORDS in
    let origin = g.S.Service.start c.of.result.value in
    let ws = c.extend_from_slice.new.self.items in
    let copied = c.in_ok-extend_from_slice.ensures.items
    ∙ ap (λ (l : List Who). l ++ c.args.players.now) c.in_ok-copies.ensures.items in
    let long = ap (λ (l : List Who). length l) copied in
    let most = c.requires.few in
    let few : length ws ≤ 256 = omega arith in
    let slots_are = c.push_within.ensures.items ∙ ap (λ l. l ++ Some c.args.service ∷ []) c.in_ok-slots.ensures.items in
    let same = ap g.S.Service.start (sym c.of.ensures) in
    let first = subst (λ s. AreFirstWords words (g.S.Service.word s) c.in_ok-words.words.items) same c.in_ok-words.ensures in
    subst (λ w. Turn legal fits word words origin (length ws) (opening w c.push_within.new.items.items (opened origin words ws)))
    (sym c.deref.ensures.value)
    (subst (λ l. Turn legal fits word words origin (length ws) (opening c.in_ok-words.words.items l (opened origin words ws)))
    (sym slots_are)
    (starts legal fits word words c.args.service origin ws few (IsLegal-nil machine origin)
    (record { history = c.requires.empty; start = same }) c.in_ok-words.words.items first))
