-- Pushes and takes keep the rule.
use Rattle.std.proofs.Common.{◌≡◌, ◌≢◌, ℕ, zero, suc, ◌<◌, ◌≤◌, ◌==◌, Bool, true, false, true≢false, cond, All, List, [], ◌∷◌, ◌++◌, length, refl, sym, ap, subst, ◌∙◌, arith}
use Rattle.std.proofs.lemmas.List.{append_assoc, length-append}
use Rattle.std.proofs.lemmas.List.Elements.{All-nil, All-cons, All-head, All-push, All-weaker}
use mathlib.Core.Option.{some, some-ne-none}
use lib.ListN.{get_elem?}
use Rattle.crossbeam_queue.specs.Fifo as fifo
use Rattle.zk_msgsub.specs.declared.note.Note.{Note}
use Rattle.zk_msgsub.specs.declared.views.Pushed.{Pushed}
use Rattle.zk_msgsub.specs.declared.views.View.{View}
use Rattle.zk_msgsub.specs.Notes.{Message, part}
use Rattle.zk_msgsub.specs.Rule.{Owns, ViewStands, SubStands}
use Rattle.zk_msgsub.specs.Steps.{first_messages, Pushes, Takes}
use Rattle.zk_msgsub.specs.Views.{pushed_by, listing, taking, spent, opened}
use Rattle.zk_msgsub.proofs.Counting.{cond-on, cond-off, part-pushed}
use Rattle.zk_msgsub.proofs.Places.{each-set}

-- a pass without a list that isn't the taker's
pub rests : (publishers each dealt : ℕ) (sent : ℕ → List Message) (port : ℕ → ℕ) (id taker : ℕ) (taken : List Note) →
    ViewStands publishers each dealt sent port id taker taken spent
rests publishers each dealt sent port id taker taken = record {
  owns = All-nil (Owns publishers each dealt sent port id 0 0);
  taker_is = λ takes. absurd (true≢false (sym takes));
}

-- an empty queue and its first pass
pub begins : SubStands [] (opened ∷ [])
begins = record {
  publishers = 0;
  each = 0;
  dealt = 0;
  taken = [];
  taker = 0;
  sent = λ p. [];
  port = λ p. 0;
  parts = λ p. refl;
  known = All-nil (λ (n : Note). n.publisher < 0);
  few = λ p. omega arith;
  unmade = λ p le. refl;
  enough = omega arith;
  views_stand = each-set F (opened ∷ []) 0 opened first (λ j u other there. none j u other there);
} where
  F : ℕ → View → Type 0
  F id v = ViewStands 0 0 0 (λ p. []) (λ p. 0) id 0 [] v

  first : F 0 opened
  first = record {
    owns = All-nil (Owns 0 0 0 (λ p. []) (λ p. 0) 0 0 0);
    taker_is = λ takes. record { here = refl; list = refl; made = refl; of_publishers = refl; of_each = refl };
  }

  none : (j : ℕ) (u : View) → j ≢ 0 → get_elem? (opened ∷ []) j ≡ some u → F j u
  none zero u other there = absurd (other refl)
  none (suc j) u other there = absurd (some-ne-none u (sym there))

-- a publisher's copy goes in, with the number of those before
pub pushes : (room id : ℕ) (v : View) (x : Note) → v.lists ≡ pushed_by x.publisher (first_messages v.lists) ∷ [] →
    x.number ≡ length (first_messages v.lists) → length (first_messages v.lists) < v.each →
    fifo.Pushes SubStands room id v x (Pushes v x)
pushes room id v x one number some_room items views short r at =
    let p = x.publisher in
    let ms = first_messages v.lists in
    let ms' = ms ++ x.message ∷ [] in
    let w = listing v (pushed_by p ms' ∷ []) in
    let stands = r.views_stand id v at in
    let Mine : Pushed → Type 0 = Owns r.publishers r.each r.dealt r.sent r.port id v.publishers v.each in
    let own : Mine (pushed_by p ms) = All-head Mine (pushed_by p ms) [] (subst (All Mine) one stands.owns) in
    let sent : ℕ → List Message = λ q. cond (q == p) ms' (r.sent q) in
    let Now : ℕ → View → Type 0 = λ j u. ViewStands r.publishers r.each r.dealt sent r.port j r.taker r.taken u in
    let whole : r.taken ++ (items ++ x ∷ []) ≡ (r.taken ++ items) ++ x ∷ [] = sym (append_assoc r.taken items (x ∷ [])) in
    let most = own.of_each in
    let within = own.made in
    let enough = r.enough in (
      w,
      record {
        publishers = r.publishers;
        each = r.each;
        dealt = r.dealt;
        taken = r.taken;
        taker = r.taker;
        sent = sent;
        port = r.port;
        parts = λ q. ap (part q) whole ∙ part-pushed q x (r.taken ++ items) ms (r.sent q) (r.parts q) (λ same. ap r.sent same
            ∙ own.list) number;
        known = subst (All (λ (n : Note). n.publisher < r.publishers)) (sym whole)
            (All-push (λ (n : Note). n.publisher < r.publishers) (r.taken ++ items) x r.known (omega arith));
        few = λ q. few q (q == p) refl;
        unmade = λ q le. cond-off q p ms' (r.sent q) (λ same. omega arith) ∙ r.unmade q le;
        enough = r.enough;
        views_stand = each-set Now views id w
            (record {
              owns = All-cons (Owns r.publishers r.each r.dealt sent r.port id v.publishers v.each) (pushed_by p ms') []
                  (record {
                    here = own.here;
                    list = cond-on p p ms' (r.sent p) refl;
                    made = own.made;
                    of_publishers = own.of_publishers;
                    of_each = own.of_each;
                  })
                  (All-nil (Owns r.publishers r.each r.dealt sent r.port id v.publishers v.each));
              taker_is = λ takes. let is = stands.taker_is takes in
                  record {
                    here = is.here;
                    list = is.list;
                    made = is.made;
                    of_publishers = is.of_publishers;
                    of_each = is.of_each;
                  };
            })
            (λ j u other there. let was = r.views_stand j u there in
            record {
              owns = All-weaker (Owns r.publishers r.each r.dealt r.sent r.port j u.publishers u.each)
                  (Owns r.publishers r.each r.dealt sent r.port j u.publishers u.each)
                  (λ l o. record {
                    here = o.here;
                    list = cond-off l.publisher p ms' (r.sent l.publisher) (λ same. other (sym o.here ∙ ap r.port same
                        ∙ own.here)) ∙ o.list;
                    made = o.made;
                    of_publishers = o.of_publishers;
                    of_each = o.of_each;
                  }) u.lists was.owns;
              taker_is = λ takes. let is = was.taker_is takes in
                  record {
                    here = is.here;
                    list = is.list;
                    made = is.made;
                    of_publishers = is.of_publishers;
                    of_each = is.of_each;
                  };
            });
      },
      refl,
    ) where
      few : (q : ℕ) (b : Bool) → (q == x.publisher) ≡ b → length (cond b (first_messages v.lists ++ x.message ∷ [])
          (r.sent q)) ≤ r.each
      few q true is =
          let Mine : Pushed → Type 0 = Owns r.publishers r.each r.dealt r.sent r.port id v.publishers v.each in
          let own : Mine (pushed_by x.publisher (first_messages v.lists)) = All-head Mine (pushed_by x.publisher
          (first_messages v.lists)) [] (subst (All Mine) one (r.views_stand id v at).owns) in
          let most = own.of_each in
          let long = length-append (first_messages v.lists) (x.message ∷ []) in
          omega arith
      few q false is = r.few q

-- the oldest note is taken
pub takes : (id : ℕ) (v : View) → v.takes ≡ true → fifo.Pops SubStands id v (Takes v)
takes id v may x items views r at =
    let w = taking v x in
    let stands = r.views_stand id v at in
    let mine = stands.taker_is may in
    let taken = r.taken ++ x ∷ [] in
    let Now : ℕ → View → Type 0 = λ j u. ViewStands r.publishers r.each r.dealt r.sent r.port j r.taker taken u in
    let whole : taken ++ items ≡ r.taken ++ x ∷ items = append_assoc r.taken (x ∷ []) items in (
      w,
      record {
        publishers = r.publishers;
        each = r.each;
        dealt = r.dealt;
        taken = taken;
        taker = r.taker;
        sent = r.sent;
        port = r.port;
        parts = λ q. ap (part q) whole ∙ r.parts q;
        known = subst (All (λ (n : Note). n.publisher < r.publishers)) (sym whole) r.known;
        few = r.few;
        unmade = r.unmade;
        enough = r.enough;
        views_stand = each-set Now views id w
            (record {
              owns = stands.owns;
              taker_is = λ _. record {
                here = mine.here;
                list = ap (λ l. l ++ x ∷ []) mine.list;
                made = mine.made;
                of_publishers = mine.of_publishers;
                of_each = mine.of_each;
              };
            })
            (λ j u other there. let was = r.views_stand j u there in
            record { owns = was.owns; taker_is = λ takes. absurd (other (sym (was.taker_is takes).here ∙ mine.here)) });
      },
      refl,
    )
