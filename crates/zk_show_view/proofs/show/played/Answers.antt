use Rattle.std.proofs.Common.{◌≡◌, ℕ, List, ◌++◌, eqb, ap, ◌∙◌, arith}
use Rattle.std.proofs.lemmas.List.Sums.{count_by-le-length}
use Rattle.zk_words.specs.Bytes.{line_feed}
use Rattle.zk_trace.specs.declared.format.Format.TheVariants.{Two}
use Rattle.zk_trace.specs.Text.{trace_text}
use Rattle.zk_trace.proofs.Feeds.{lines-count}
use Rattle.zk_show_view.specs.Shown.{played}
use Rattle.zk_show_view.proofs.show.played.Goals as goal

pub returns : goal.returns
returns c =
    let s = c.args.scenario.now in
    let t = c.in_ok-trace.trace in
    let text : c.put_trace.new.out.items ≡ trace_text Two s t =
    c.in_ok-put_trace.ensures.text ∙ ap (λ (l : List ℕ). l ++ trace_text Two s t) c.new-printed.ensures.items in
    record {
      f = Two;
      s = s;
      t = t;
      run = played c.requires.short c.requires.read c.in_ok-trace.ensures.replay;
      shows = (
        c.in_ok-end.end.items,
        (c.in_ok-trace.ensures.lawful, c.in_ok-end.ensures),
        c.in_ok-output.ensures Two (c.deref.ensures.value ∙ text),
      );
    }
