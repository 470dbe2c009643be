-- Inner: no contract of a top call is made of this file.
-- The rule of a subscriber's queue: what holds of its notes and its passes at every moment.
use Rattle.std.specs.Prelude.{◌≡◌, ℕ, ◌<◌, ◌≤◌, All, List, [], ◌++◌, length, true}
use mathlib.Core.Option.{some}
use lib.ListN.{get_elem?}
use Rattle.zk_msgsub.specs.declared.note.Note.{Note}
use Rattle.zk_msgsub.specs.declared.views.Pushed.{Pushed}
use Rattle.zk_msgsub.specs.declared.views.View.{View}
use Rattle.zk_msgsub.specs.Notes.{Message, part, numbered}

-- so many publishers with so many messages at most each, of whom some have their seats; what each has pushed, and which pass
-- has its list; and the pass of this number
module _ (publishers each dealt : ℕ) (sent : ℕ → List Message) (port : ℕ → ℕ) (id : ℕ) where
  -- the pass, which knows so many publishers and messages of each, has this list, which is its publisher's
  pub record Owns (my_publishers my_each : ℕ) (l : Pushed) : Type 0 where
    pub here : port l.publisher ≡ id
    pub list : sent l.publisher ≡ l.messages
    pub made : l.publisher < dealt
    pub of_publishers : my_publishers ≡ publishers
    pub of_each : my_each ≡ each

  -- the pass is the taker's, and knows all that was taken
  pub record IsTaker (taker : ℕ) (taken : List Note) (v : View) : Type 0 where
    pub here : taker ≡ id
    pub list : v.taken ≡ taken
    pub made : v.dealt ≡ dealt
    pub of_publishers : v.publishers ≡ publishers
    pub of_each : v.each ≡ each

  -- what holds of the pass's view: it owns its lists, and is the taker's where it takes
  pub record ViewStands (taker : ℕ) (taken : List Note) (v : View) : Type 0 where
    pub owns : All (Owns v.publishers v.each) v.lists
    pub taker_is : v.takes ≡ true → IsTaker taker taken v

-- the rule: what was taken and then what the queue holds has of each publisher just its messages, numbered
pub record SubStands (items : List Note) (views : List View) : Type 0 where
  pub publishers : ℕ
  pub each : ℕ
  pub dealt : ℕ
  pub taken : List Note
  pub taker : ℕ
  pub sent : ℕ → List Message
  pub port : ℕ → ℕ
  pub parts : (p : ℕ) → part p (taken ++ items) ≡ numbered p (sent p)
  pub known : All (λ n. n.publisher < publishers) (taken ++ items)
  pub few : (p : ℕ) → length (sent p) ≤ each
  pub unmade : (p : ℕ) → dealt ≤ p → sent p ≡ []
  pub enough : dealt ≤ publishers
  pub views_stand : (id : ℕ) (v : View) → get_elem? views id ≡ some v →
      ViewStands publishers each dealt sent port id taker taken v
