-- What a pass learns from the rule.
use Rattle.std.proofs.Common.{◌≡◌, ℕ, ◌*◌, ◌<◌, true, All, List, [], ◌∷◌, ◌++◌, length, sym, ap, subst, ◌∙◌, arith}
use Rattle.std.proofs.lemmas.List.{length-append}
use Rattle.std.proofs.lemmas.List.Elements.{All-head, All-weaker}
use Rattle.crossbeam_queue.specs.Fifo.{Learns}
use Rattle.zk_msgsub.specs.declared.note.Note.{Note}
use Rattle.zk_msgsub.specs.declared.views.Pushed.{Pushed}
use Rattle.zk_msgsub.specs.declared.views.View.{View}
use Rattle.zk_msgsub.specs.Notes.{Message, part, numbered}
use Rattle.zk_msgsub.specs.Rule.{Owns, SubStands}
use Rattle.zk_msgsub.specs.Steps.{first_messages, HasFew, HasParts}
use Rattle.zk_msgsub.specs.Views.{pushed_by}
use Rattle.zk_msgsub.proofs.Counting.{length-numbered, total, total-one, total-all, total-fewer}

pub has_parts : (id : ℕ) (v : View) → v.takes ≡ true → Learns SubStands id v (HasParts v)
has_parts id v may items views r at =
    let stands = r.views_stand id v at in
    let mine = stands.taker_is may in
    let whole : v.taken ++ items ≡ r.taken ++ items = ap (λ l. l ++ items) mine.list in
    record {
      parts = All-weaker (Owns r.publishers r.each r.dealt r.sent r.port id v.publishers v.each)
          (λ l. part l.publisher (v.taken ++ items) ≡ numbered l.publisher l.messages)
          (λ l o. ap (part l.publisher) whole ∙ r.parts l.publisher ∙ ap (numbered l.publisher) o.list) v.lists stands.owns;
      known = subst (λ (n : ℕ). All (λ (x : Note). x.publisher < n) (v.taken ++ items)) (sym mine.of_publishers)
          (subst (All (λ (x : Note). x.publisher < r.publishers)) (sym whole) r.known);
    }

pub has_few : (id : ℕ) (v : View) (p : ℕ) → v.lists ≡ pushed_by p (first_messages v.lists) ∷ [] →
    length (first_messages v.lists) < v.each →
    Learns SubStands id v (HasFew v)
has_few id v p one some_room items views r at =
    let ms = first_messages v.lists in
    let Mine : Pushed → Type 0 = Owns r.publishers r.each r.dealt r.sent r.port id v.publishers v.each in
    let own : Mine (pushed_by p ms) = All-head Mine (pushed_by p ms) [] (subst (All Mine) one (r.views_stand id v at).owns) in
    let whole = r.taken ++ items in
    let long = length-append r.taken items in
    let of_publishers = own.of_publishers in
    let of_each = own.of_each in
    let made = own.made in
    let enough = r.enough in
    let count : (q : ℕ) → length (part q whole) ≡ length (r.sent q) = λ q. ap (λ (l : List Note). length l) (r.parts q)
    ∙ length-numbered q 0 (r.sent q) in
    let mine : length (part p whole) ≡ length ms = count p ∙ ap (λ (l : List Message). length l) own.list in
    let all = total-all r.publishers whole r.known in
    record {
      alone = λ single.
          let first : p ≡ 0 = omega arith in
          let one : r.publishers ≡ 1 = sym of_publishers ∙ single in
          let only : total 1 whole ≡ length whole = subst (λ (n : ℕ). total n whole ≡ length whole) one all in
          let single_part = total-one whole in
          let same = ap (λ (q : ℕ). length (part q whole)) first in
          omega arith;
      never =
          let fewer = total-fewer r.each whole (λ q. let few = r.few q in let is = count q in omega arith) p
          (omega arith) r.publishers (omega arith) in
          let product = ap (λ (n : ℕ). n * v.each) of_publishers ∙ ap (λ (n : ℕ). r.publishers * n) of_each in
          omega arith;
    }
