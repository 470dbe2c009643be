use Rattle.std.specs.Prelude.{◌≡◌, ℕ, Some, List, ◌++◌, slice_get}
use Rattle.zk_base.specs.declared.ids.Entry.{Entry}
use Rattle.zk_worker.specs.Families.{Family, start_of}

-- it holds of each front of a history: at each moment of it, the last one too
abbrev pub AtEachMoment : {A : Type 0} → (List A → Type 0) → List A → Type 0
AtEachMoment {A} P h = (front rest : List A) → h ≡ front ++ rest → P front

-- it holds of each object of a kind, from the state that the object starts in, at each moment of its history
abbrev pub AtEachObject : {S O R : Type 0} → (S → List (Entry O R) → Type 0) → Family S O R →
    List (List (Entry O R)) → Type 0
AtEachObject {S} {O} {R} P family histories = (object : ℕ) (start : S) (h : List (Entry O R)) →
    start_of family object ≡ Some start → slice_get histories object ≡ Some h →
    AtEachMoment (P start) h
