-- Passes that are made and joined keep the rule.
use Rattle.std.proofs.Common.{◌≡◌, ◌≢◌, ⊎_elim, ℕ, ◌+◌, ◌<◌, ◌≤◌, ◌==◌, true, true≢false, cond, List, [], ◌++◌, length, set, refl, sym, ◌∙◌, arith}
use Rattle.std.proofs.lemmas.List.Elements.{All-nil, All-cons, All-append, All-weaker}
use mathlib.Core.Option.{some}
use lib.ListN.{get_elem?}
use Rattle.crossbeam_queue.specs.Fifo.{Forks, Merges}
use Rattle.crossbeam_queue.proofs.Lists.{at_set}
use Rattle.zk_msgsub.specs.declared.note.Note.{Note}
use Rattle.zk_msgsub.specs.declared.views.Pushed.{Pushed}
use Rattle.zk_msgsub.specs.declared.views.View.{View}
use Rattle.zk_msgsub.specs.Notes.{Message}
use Rattle.zk_msgsub.specs.Rule.{Owns, ViewStands, SubStands}
use Rattle.zk_msgsub.specs.Views.{pushed_by, spent, dealt_from, dealt, found_full, found_nothing, joined}
use Rattle.zk_msgsub.proofs.Counting.{cond-on, cond-off}
use Rattle.zk_msgsub.proofs.Moving.{rests}
use Rattle.zk_msgsub.proofs.Places.{each-set, each-push}

-- a count of one's own changes
noted : (id : ℕ) (v w : View) →
    ((publishers each dealt : ℕ) (sent : ℕ → List Message) (port : ℕ → ℕ) (taker : ℕ) (taken : List Note) →
    ViewStands publishers each dealt sent port id taker taken v → ViewStands publishers each dealt sent port id taker taken w) →
    Forks SubStands id v w spent
noted id v w keeps items views r at =
    let Now : ℕ → View → Type 0 = λ j u. ViewStands r.publishers r.each r.dealt r.sent r.port j r.taker r.taken u in
    record {
      publishers = r.publishers;
      each = r.each;
      dealt = r.dealt;
      taken = r.taken;
      taker = r.taker;
      sent = r.sent;
      port = r.port;
      parts = r.parts;
      known = r.known;
      few = r.few;
      unmade = r.unmade;
      enough = r.enough;
      views_stand = each-push Now (set views id w) spent
          (each-set Now views id w (keeps r.publishers r.each r.dealt r.sent r.port r.taker r.taken (r.views_stand id v at))
          (λ j u other there. r.views_stand j u there))
          (rests r.publishers r.each r.dealt r.sent r.port (length (set views id w)) r.taker r.taken);
    }

pub finds_full : (id : ℕ) (v : View) → Forks SubStands id v (found_full v) spent
finds_full id v = noted id v (found_full v) (λ publishers each dealt sent port taker taken s. record {
  owns = s.owns;
  taker_is = λ takes. let is = s.taker_is takes in record {
    here = is.here;
    list = is.list;
    made = is.made;
    of_publishers = is.of_publishers;
    of_each = is.of_each;
  };
})

pub finds_nothing : (id : ℕ) (v : View) → Forks SubStands id v (found_nothing v) spent
finds_nothing id v = noted id v (found_nothing v) (λ publishers each dealt sent port taker taken s. record {
  owns = s.owns;
  taker_is = λ takes. let is = s.taker_is takes in record {
    here = is.here;
    list = is.list;
    made = is.made;
    of_publishers = is.of_publishers;
    of_each = is.of_each;
  };
})

-- before a seat is dealt, the taker's pass sets how many publishers there are, and how many pushes of each
pub grows : (id : ℕ) (v : View) (ps es : ℕ) → v.takes ≡ true → v.dealt ≡ 0 → v.publishers ≤ ps → v.each ≤ es →
    Forks SubStands id v (record v { publishers = ps; each = es }) spent
grows id v ps es may none more more' items views r at =
    let w : View = record v { publishers = ps; each = es } in
    let stands = r.views_stand id v at in
    let mine = stands.taker_is may in
    let of_publishers = mine.of_publishers in
    let of_each = mine.of_each in
    let undealt : r.dealt ≡ 0 = sym mine.made ∙ none in
    let Now : ℕ → View → Type 0 = λ j u. ViewStands ps es r.dealt r.sent r.port j r.taker r.taken u in
    record {
      publishers = ps;
      each = es;
      dealt = r.dealt;
      taken = r.taken;
      taker = r.taker;
      sent = r.sent;
      port = r.port;
      parts = r.parts;
      known = All-weaker (λ (n : Note). n.publisher < r.publishers) (λ (n : Note). n.publisher < ps) (λ n lt. omega arith)
          (r.taken ++ items) r.known;
      few = λ p. let few = r.few p in omega arith;
      unmade = r.unmade;
      enough = omega arith;
      views_stand = each-push Now (set views id w) spent
          (each-set Now views id w
          (record {
            owns = All-weaker (Owns r.publishers r.each r.dealt r.sent r.port id v.publishers v.each)
                (Owns ps es r.dealt r.sent r.port id ps es) (λ l o. let made = o.made in absurd (omega arith)) v.lists
                stands.owns;
            taker_is = λ _. record { here = mine.here; list = mine.list; made = mine.made; of_publishers = refl; of_each = refl };
          })
          (λ j u other there. let was = r.views_stand j u there in
          record {
            owns = All-weaker (Owns r.publishers r.each r.dealt r.sent r.port j u.publishers u.each)
                (Owns ps es r.dealt r.sent r.port j u.publishers u.each) (λ l o. let made = o.made in absurd (omega arith))
                u.lists was.owns;
            taker_is = λ takes. absurd (other (sym (was.taker_is takes).here ∙ mine.here));
          }))
          (rests ps es r.dealt r.sent r.port (length (set views id w)) r.taker r.taken);
    }

-- the next publisher's seat
pub deals : (id : ℕ) (v : View) → v.takes ≡ true → v.dealt < v.publishers → Forks SubStands id v (dealt_from v) (dealt v)
deals id v may more items views r at =
    let w = dealt_from v in
    let vs = set views id w in
    let stands = r.views_stand id v at in
    let mine = stands.taker_is may in
    let made = mine.made in
    let of_publishers = mine.of_publishers in
    let port : ℕ → ℕ = λ q. cond (q == v.dealt) (length vs) (r.port q) in
    let Now : ℕ → View → Type 0 = λ j u. ViewStands r.publishers r.each (v.dealt + 1) r.sent port j r.taker r.taken u in
    let later : (j a b : ℕ) (l : Pushed) → Owns r.publishers r.each r.dealt r.sent r.port j a b l →
    Owns r.publishers r.each (v.dealt + 1) r.sent port j a b l =
    λ j a b l o. let before = o.made in record {
      here = cond-off l.publisher v.dealt (length vs) (r.port l.publisher) (λ same. omega arith) ∙ o.here;
      list = o.list;
      made = omega arith;
      of_publishers = o.of_publishers;
      of_each = o.of_each;
    } in
    record {
      publishers = r.publishers;
      each = r.each;
      dealt = v.dealt + 1;
      taken = r.taken;
      taker = r.taker;
      sent = r.sent;
      port = port;
      parts = r.parts;
      known = r.known;
      few = r.few;
      unmade = λ p le. r.unmade p (omega arith);
      enough = omega arith;
      views_stand = each-push Now vs (dealt v)
          (each-set Now views id w
          (record {
            owns = All-weaker (Owns r.publishers r.each r.dealt r.sent r.port id v.publishers v.each)
                (Owns r.publishers r.each (v.dealt + 1) r.sent port id v.publishers v.each) (later id v.publishers v.each)
                v.lists stands.owns;
            taker_is = λ _. record {
              here = mine.here;
              list = mine.list;
              made = refl;
              of_publishers = mine.of_publishers;
              of_each = mine.of_each;
            };
          })
          (λ j u other there. let was = r.views_stand j u there in
          record {
            owns = All-weaker (Owns r.publishers r.each r.dealt r.sent r.port j u.publishers u.each)
                (Owns r.publishers r.each (v.dealt + 1) r.sent port j u.publishers u.each) (later j u.publishers u.each)
                u.lists was.owns;
            taker_is = λ takes. absurd (other (sym (was.taker_is takes).here ∙ mine.here));
          }))
          (record {
            owns = All-cons (Owns r.publishers r.each (v.dealt + 1) r.sent port (length vs) v.publishers v.each)
                (pushed_by v.dealt []) []
                (record {
                  here = cond-on v.dealt v.dealt (length vs) (r.port v.dealt) refl;
                  list = r.unmade v.dealt (omega arith);
                  made = omega arith;
                  of_publishers = mine.of_publishers;
                  of_each = mine.of_each;
                })
                (All-nil (Owns r.publishers r.each (v.dealt + 1) r.sent port (length vs) v.publishers v.each));
            taker_is = λ takes. absurd (true≢false (sym takes));
          });
    }

-- the taker's pass takes in another
pub merges : (id : ℕ) (v : View) (other : ℕ) (u : View) → v.takes ≡ true → Merges SubStands id v other u (joined v u) spent
merges id v other u may items views r at differ at' =
    let both = joined v u in
    let vs = set views id both in
    let stands = r.views_stand id v at in
    let mine = stands.taker_is may in
    let was : get_elem? views other ≡ some u = ⊎_elim (λ x. absurd (differ x.0)) (λ x. x.1) (at_set views id other both u at') in
    let theirs = r.views_stand other u was in
    let port : ℕ → ℕ = λ q. cond (r.port q == other) id (r.port q) in
    let Now : ℕ → View → Type 0 = λ j x. ViewStands r.publishers r.each r.dealt r.sent port j r.taker r.taken x in
    let NowElse : ℕ → View → Type 0 = λ j x. j ≢ other → Now j x in
    let stays : (j a b : ℕ) → j ≢ other → (l : Pushed) → Owns r.publishers r.each r.dealt r.sent r.port j a b l →
    Owns r.publishers r.each r.dealt r.sent port j a b l =
    λ j a b apart l o. record {
      here = cond-off (r.port l.publisher) other id (r.port l.publisher) (λ same. apart (sym o.here ∙ same)) ∙ o.here;
      list = o.list;
      made = o.made;
      of_publishers = o.of_publishers;
      of_each = o.of_each;
    } in
    let comes : (l : Pushed) → Owns r.publishers r.each r.dealt r.sent r.port other u.publishers u.each l →
    Owns r.publishers r.each r.dealt r.sent port id v.publishers v.each l =
    λ l o. record {
      here = cond-on (r.port l.publisher) other id (r.port l.publisher) o.here;
      list = o.list;
      made = o.made;
      of_publishers = mine.of_publishers;
      of_each = mine.of_each;
    } in
    let Mine : Pushed → Type 0 = Owns r.publishers r.each r.dealt r.sent port id v.publishers v.each in
    record {
      publishers = r.publishers;
      each = r.each;
      dealt = r.dealt;
      taken = r.taken;
      taker = r.taker;
      sent = r.sent;
      port = port;
      parts = r.parts;
      known = r.known;
      few = r.few;
      unmade = r.unmade;
      enough = r.enough;
      views_stand = each-set Now vs other spent (rests r.publishers r.each r.dealt r.sent port other r.taker r.taken)
          (λ j x apart there. each-set NowElse views id both
          (λ _. record {
            owns = All-append Mine v.lists u.lists
                (All-weaker (Owns r.publishers r.each r.dealt r.sent r.port id v.publishers v.each) Mine
                (stays id v.publishers v.each (λ same. differ (sym same))) v.lists stands.owns)
                (All-weaker (Owns r.publishers r.each r.dealt r.sent r.port other u.publishers u.each) Mine comes u.lists
                theirs.owns);
            taker_is = λ _. record {
              here = mine.here;
              list = mine.list;
              made = mine.made;
              of_publishers = mine.of_publishers;
              of_each = mine.of_each;
            };
          })
          (λ k y else there' apart'. let stood = r.views_stand k y there' in
          record {
            owns = All-weaker (Owns r.publishers r.each r.dealt r.sent r.port k y.publishers y.each)
                (Owns r.publishers r.each r.dealt r.sent port k y.publishers y.each) (stays k y.publishers y.each apart')
                y.lists stood.owns;
            taker_is = λ takes. absurd (else (sym (stood.taker_is takes).here ∙ mine.here));
          }) j x there apart);
    }
