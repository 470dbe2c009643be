use Rattle.std.proofs.Common.{◌≡◌, ℕ, List, ◌++◌, drop, length, vec_len, ◌∙◌, ap, arith}
use Rattle.std.proofs.lemmas.List.{take_at}
use Rattle.std.proofs.lemmas.Result.{on_ok_weaker}
use Rattle.zk_show_text.specs.Layout.{words_place}
use Rattle.zk_show_text.specs.Line.{line, laid}
use Rattle.zk_show_text.specs.Rows.{background, row_words}
use Rattle.zk_show_text.proofs.RowLines.{length-background}
use Rattle.zk_show_text.proofs.rows.Sheet.put_row.Goals as goal

pub lay-requires : goal.lay-requires
lay-requires c =
    let l = c.args.layout.now in
    let bars = c.args.bars.now in
    let row = c.args.row.now in
    let back : c.put_background.new.line.items ≡ background l bars row =
    c.in_ok-put_background.ensures bars (c.deref.ensures.value ∙ c.in_ok-put_lane_marks.ensures) in
    let size : length c.deref_mut.result.now ≡ 120 = ap length (c.deref_mut.ensures.value ∙ back) ∙ length-background l bars row in
    omega (arith, c.words_place.ensures.within)

pub returns : goal.returns
returns c =
    let l = c.args.layout.now in
    let bars = c.args.bars.now in
    let row = c.args.row.now in
    let decls = c.args.scenario.now.decls in
    let back : c.put_background.new.line.items ≡ background l bars row =
    c.in_ok-put_background.ensures bars (c.deref.ensures.value ∙ c.in_ok-put_lane_marks.ensures) in
    let laid_out =
    c.deref-2.ensures.value
    ∙ take_at c.lay.new.line (drop (length c.lay.new.line) c.put_background.new.line.items) (vec_len c.put_background.new.line) (c.lay.auto.line ∙ c.deref_mut.ensures.len)
    ∙ c.in_ok-lay.ensures
    ∙ ap (λ (at : ℕ). laid at c.put_row_words.new.words.items c.deref_mut.result.now) c.words_place.ensures.place
    ∙ ap (λ (text : List ℕ). laid (words_place l row.player) text c.deref_mut.result.now) c.in_ok-put_row_words.ensures
    ∙ ap (λ (old : List ℕ). laid (words_place l row.player) (row_words decls l row) old) (c.deref_mut.ensures.value ∙ back) in
    on_ok_weaker c.put_line.result (λ done. done ∙ ap (λ (text : List ℕ). c.args.out.now.items ++ line text) laid_out) c.put_line.ensures
