use Rattle.std.proofs.Common.{◌≡◌, ℕ, ◌<◌, List, drop, length, get_or, refl, sym, ap, subst, ◌∙◌, arith}
use Rattle.std.proofs.lemmas.List.{take_at, length-set, length_push}
use Rattle.zk_show_order.specs.Order.{line_at}
use Rattle.zk_show_order.specs.Services.{service_of}
use Rattle.zk_show_order.proofs.Drawn.{counted, next-within, next-service, next-held, next-drawn}
use Rattle.zk_show_order.proofs.drawing.Drawing.draw_next.Goals as goal

pub offset_bounds-self-place : goal.offset_bounds-self-place
offset_bounds-self-place c =
    let d = c.args.self.now in
    let lane = c.index.result.now in
    let inside = next-within d.lines.now d.lanes.items d.entries.items d.order.items c.requires.standing c.args.player c.in-Some.place lane
    (drop 1 lane) c.requires.within c.index.ensures c.in-Some.ensures in
    omega arith

pub bounds-self-place : goal.bounds-self-place
bounds-self-place c =
    let d = c.args.self.now in
    let lane = c.index.result.now in
    next-within d.lines.now d.lanes.items d.entries.items d.order.items c.requires.standing c.args.player c.in-Some.place lane
    (drop 1 lane) c.requires.within c.index.ensures c.in-Some.ensures

pub index-requires-2 : goal.index-requires-2
index-requires-2 c =
    let d = c.args.self.now in
    let lane = c.index.result.now in
    let inside = next-service d.lines.now d.lanes.items d.entries.items d.order.items c.requires.standing c.args.player c.in-Some.place lane
    (drop 1 lane) c.requires.within c.index.ensures c.in-Some.ensures in
    let same = c.service_number.ensures.service in
    let long = d.entries.ok in
    omega arith

pub returns-then-not-fits_below-clause-held : goal.returns-then-not-fits_below-clause-held
returns-then-not-fits_below-clause-held c =
    let d = c.args.self.now in
    let lane = c.index.result.now in
    let count = c.index-2.result.now in
    next-held d.lines.now d.lanes.items d.entries.items d.order.items c.requires.standing c.args.player c.in-Some.place lane
    (drop 1 lane) c.requires.within c.index.ensures c.in-Some.ensures count
    (subst (λ (s : ℕ). count ≡ get_or d.entries.items s count) c.service_number.ensures.service c.index-2.ensures)
    (sym c.fits_below.ensures ∙ c.if-not-fits_below.true)

pub count-requires-clause-within : goal.count-requires-clause-within
count-requires-clause-within c =
    let d = c.args.self.now in
    let lane = c.index.result.now in
    subst (λ (l : List ℕ). service_of (line_at d.lines.now c.in-Some.place).spot < length l) (sym c.deref_mut.ensures.value)
    (next-service d.lines.now d.lanes.items d.entries.items d.order.items c.requires.standing c.args.player c.in-Some.place lane
    (drop 1 lane) c.requires.within c.index.ensures c.in-Some.ensures)

pub returns-clause-goes_on : goal.returns-clause-goes_on
returns-clause-goes_on c =
    let d = c.args.self.now in
    let lane = c.index.result.now in
    let count = c.index-2.result.now in
    let spot = (line_at d.lines.now c.in-Some.place).spot in
    let counts = c.count.new.entries in
    let long : length counts ≡ d.entries.len = let kept = c.count.auto.entries in let len = c.deref_mut.ensures.len in omega arith in
    let adds = c.in_ok-push.ensures.items in
    record {
      standing =
          next-drawn d.lines.now d.lanes.items d.entries.items d.order.items c.requires.standing c.args.player c.in-Some.place lane
          (drop 1 lane) c.requires.within c.index.ensures c.in-Some.ensures count c.index_mut.result.now c.pass.new.self _
          c.push.new.self.items
          (subst (λ (s : ℕ). count ≡ get_or d.entries.items s count) c.service_number.ensures.service c.index-2.ensures)
          (sym c.fits_below.ensures ∙ c.if-not-fits_below.false) c.index_mut.ensures.value c.pass.ensures
          (take_at counts (drop (length counts) d.entries.items) d.entries.len long ∙ c.count.ensures
          ∙ ap (λ (l : List ℕ). counted l spot) c.deref_mut.ensures.value)
          adds;
      lines = refl;
      lanes = length-set d.lanes.items c.args.player c.pass.new.self;
      more =
          let longer = ap length adds ∙ length_push d.order.items c.in-Some.place in
          omega arith;
    }
