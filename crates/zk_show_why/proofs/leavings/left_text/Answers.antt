use Rattle.std.proofs.Common.{◌≡◌, ℕ, List, ◌++◌, ap, subst, ◌∙◌}
use Rattle.zk_show_why.specs.Leavings.{left_back, left_front}
use Rattle.zk_show_why.proofs.Telling.{joined}
use Rattle.zk_show_why.proofs.leavings.left_text.Goals as goal

pub returns : goal.returns
returns c =
    let decls = c.args.run.now.scenario.now.decls in
    let left = c.args.left in
    let place = c.in_ok-place.place.items in
    let back = left_back left.made.step left.what in
    let named = c.put_front.new.out.items in
    let placed = c.put.new.out.items in
    let said = c.put_back.new.out.items in
    let first : named ≡ left_front decls left =
    c.in_ok-put_front.ensures ∙ ap (λ (l : List ℕ). l ++ left_front decls left) c.new-said.ensures.items in
    let second : placed ≡ named ++ place = c.in_ok-put.ensures.ok ∙ ap (λ (l : List ℕ). named ++ l) c.deref.ensures.value in
    let third : said ≡ placed ++ back =
    subst (λ (n : ℕ). said ≡ placed ++ left_back n left.what) c.from.ensures c.in_ok-put_back.ensures in
    record {
      place = place;
      says = joined named placed said place back second third ∙ ap (λ (l : List ℕ). l ++ (place ++ back)) first;
    }
