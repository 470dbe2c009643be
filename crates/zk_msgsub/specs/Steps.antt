-- Inner: no contract of a top call is made of this file.
-- What each step of the queue tells the pass that makes it.
use Rattle.std.specs.Prelude.{◌≡◌, ◌*◌, ◌<◌, ◌≤◌, All, List, [], ◌∷◌, ◌++◌, length}
use Rattle.zk_msgsub.specs.declared.note.Note.{Note}
use Rattle.zk_msgsub.specs.declared.views.Pushed.{Pushed}
use Rattle.zk_msgsub.specs.declared.views.View.{View}
use Rattle.zk_msgsub.specs.Notes.{Message, part, numbered}
use Rattle.zk_msgsub.specs.Views.{pushed_by, listing, taking}

-- the messages of the first list
abbrev pub first_messages : List Pushed → List Message
first_messages [] = []
first_messages (l ∷ ls) = l.messages

-- a push: the message stands behind the others of its publisher
abbrev pub Pushes : View → Note → View → Type 0
Pushes v x w = w ≡ listing v (pushed_by x.publisher (first_messages v.lists ++ x.message ∷ []) ∷ [])

-- a take: the note stands behind the others that were taken
abbrev pub Takes : View → Note → View → Type 0
Takes v x w = w ≡ taking v x

-- what the queue of a seat with room holds: of one publisher its messages at most, and never as many as all may push
pub record HasFew (v : View) (items : List Note) : Type 0 where
  pub alone : v.publishers ≡ 1 → length items ≤ length (first_messages v.lists)
  pub never : length items < v.publishers * v.each

-- what was taken and then what the queue holds, of the publishers whose seats the taker has
pub record HasParts (v : View) (items : List Note) : Type 0 where
  pub parts : All (λ l. part l.publisher (v.taken ++ items) ≡ numbered l.publisher l.messages) v.lists
  pub known : All (λ n. n.publisher < v.publishers) (v.taken ++ items)
