-- Texts that are put one behind the other.
use Rattle.std.proofs.Common.{◌≡◌, ℕ, min, List, ◌++◌, length, codes, refl, ap, ◌∙◌}
use Rattle.std.specs.List.{flat_map}
use Rattle.std.proofs.lemmas.List.{append_assoc}
use Rattle.zk_base.specs.Fronts.{StaysInFront}
use Rattle.zk_base.proofs.Fronts.{front_put, front_then}
use Rattle.zk_show_chart.specs.declared.chart.Chart.{Chart}
use Rattle.zk_show_svg.specs.declared.plan.Plan.{Plan}
use Rattle.zk_show_svg.specs.Arrows.{arrow_mark}
use Rattle.zk_show_svg.specs.Bars.{bar_mark}
use Rattle.zk_show_svg.specs.Pictures.{AppendsPicture}
use Rattle.zk_show_svg.specs.Ticks.{tick_mark}
use Rattle.zk_show_svg.specs.Steps.{last_row, step_marks}

-- a text was put, and then one more
pub put_more : (old a b w x : List ℕ) → a ≡ old ++ w → b ≡ a ++ x → b ≡ old ++ (w ++ x)
put_more old a b w x first next = next ∙ ap (λ (l : List ℕ). l ++ x) first ∙ append_assoc old w x

-- what stood in front does so when a text more was put
pub front_more : (old a b x : List ℕ) → StaysInFront old a → b ≡ a ++ x → StaysInFront old b
front_more old a b x first next = front_then old a b first (front_put a x b next)

-- the parts of a picture, put one behind the other, are the picture
pub picture_put : (players : ℕ) (chart : Chart) (plan : Plan) → plan.lanes ≡ players →
    plan.rows ≡ min (length chart.rows.items) last_row → (old a b c t d e f g new : List ℕ) →
    StaysInFront old a → StaysInFront a b → c ≡ b ++ flat_map (bar_mark plan) chart.bars.items →
    t ≡ c ++ flat_map (tick_mark plan) chart.ticks.items →
    d ≡ t ++ flat_map (arrow_mark plan chart.rows.items) chart.arrows.items → StaysInFront d e →
    f ≡ e ++ step_marks plan 0 chart.rows.items → StaysInFront f g → new ≡ g ++ codes "</svg>\n" →
    AppendsPicture players chart old new
picture_put players chart plan lanes rows old a b c t d e f g new head ground bars ticks arrows names steps notes closing =
    let front : StaysInFront old b = front_then old a b head ground in
    let barred : c ≡ old ++ (front.more ++ flat_map (bar_mark plan) chart.bars.items) =
    put_more old b c _ _ front.behind bars in
    let timed : t ≡ old ++ (front.more ++ flat_map (bar_mark plan) chart.bars.items
    ++ flat_map (tick_mark plan) chart.ticks.items) = put_more old c t _ _ barred ticks in
    let pointed : d ≡ old ++ (front.more ++ flat_map (bar_mark plan) chart.bars.items
    ++ flat_map (tick_mark plan) chart.ticks.items
    ++ flat_map (arrow_mark plan chart.rows.items) chart.arrows.items) = put_more old t d _ _ timed arrows in
    let named : e ≡ old ++ (front.more ++ flat_map (bar_mark plan) chart.bars.items
    ++ flat_map (tick_mark plan) chart.ticks.items
    ++ flat_map (arrow_mark plan chart.rows.items) chart.arrows.items ++ names.more) =
    put_more old d e _ _ pointed names.behind in
    let stepped : f ≡ old ++ (front.more ++ flat_map (bar_mark plan) chart.bars.items
    ++ flat_map (tick_mark plan) chart.ticks.items
    ++ flat_map (arrow_mark plan chart.rows.items) chart.arrows.items ++ names.more ++ step_marks plan 0 chart.rows.items) =
    put_more old e f _ _ named steps in (
      _,
      record {
        plan = plan;
        lanes = lanes;
        rows = rows;
        head = front.more;
        names = names.more;
        notes = notes.more;
        text = refl;
      },
      put_more old g new _ _ (put_more old f g _ _ stepped notes.behind) closing,
    )
