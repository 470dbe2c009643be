-- A call and how it is written say each other, and so do a declaration and how it is written.
use Rattle.std.proofs.Common.{◌≡◌, ℕ, ◌<◌, Bool, true, false, cond, eqb, nat_le, ◌&&◌, arith, length, List, [], ◌∷◌, map, Option, Some, None, refl, sym, ap, ◌∙◌}
use Rattle.std.specs.Prelude.{ℤ, option_map, option_and_then, option_to_list}
use Rattle.std.proofs.lemmas.Bool.{eqb-true, cond-true, cond-false, lt-leb}
use Rattle.std.proofs.lemmas.List.{length-map}
use Rattle.std.proofs.Math.Bool.{and-false}
use Rattle.std.proofs.lemmas.Option.{cond_some, option_and_then_some, same_Some}
use Rattle.zk_base.specs.Limits.{most_few}
use Rattle.zk_base.specs.Fews as fews
use Rattle.zk_base.specs.declared.validator.Valid.{Valid}
use Rattle.zk_words.specs.declared.limits.TheConstants.{GREATEST_RESULT}
use Rattle.zk_words.specs.declared.slot.Choice.{Choice}
use Rattle.zk_words.specs.declared.slot.Choice.TheVariants.{Mode, State, Drain}
use Rattle.zk_base.specs.declared.kinds.Kind.{Kind}
use Rattle.zk_base.specs.declared.kinds.Kind.TheVariants as kind
use Rattle.zk_words.specs.declared.timeout.Timeout.{Timeout}
use Rattle.zk_words.specs.declared.word.Word.{Word}
use Rattle.zk_words.specs.declared.word.Word.TheVariants as word
use Rattle.zk_words.specs.Spelled.{same_choice}
use Rattle.zk_line.specs.declared.events.TheConstants.{MOST_EVENTS}
use Rattle.zk_line.specs.declared.types.Ref.{Ref}
use Rattle.zk_line.specs.declared.types.Ref.TheVariants.{Known}
use Rattle.zk_line.specs.declared.types.Arg.{Arg}
use Rattle.zk_line.specs.declared.types.Arg.TheVariants.{Name, Object, Number, Priority, Truth, Bytes, Wait, Event, Valid as ValidArg, Raw}
use Rattle.zk_line.specs.declared.events.Event.{Event as PollEvent}
use Rattle.zk_line.specs.declared.types.Call.{Call}
use Rattle.zk_line.specs.declared.types.Call.TheVariants as call
use Rattle.zk_line.specs.declared.types.Decl.{Decl}
use Rattle.zk_line.specs.declared.types.Decl.TheVariants as decl
use Rattle.zk_line.specs.Calls.{saying, call_of, said_of}
use Rattle.zk_line.specs.Decls.{decl_of, objects_said, raw_said, permission_of, permission_said, written, written_of}
use Rattle.zk_line.specs.Few.{is_few}
use Rattle.zk_line.specs.Fits.{has_few_events}
use Rattle.zk_line.proofs.Options.{one_part}
use Rattle.zk_line.specs.Shapes.{as_name, as_object, as_number, as_result, as_priority, as_truth, as_bytes, as_wait, as_event, as_known, all_objects, few_objects, objects_of, channel_parts, all_events, few_events, events_of, wait_events, both, all_three, all_four, raw_of, alone, one, two, three, one_raw, three_raw, one_or_two}

-- an argument is read from just the one that is written of it
abbrev pub IsPart : {A : Type 0} → (Arg → Option A) → (A → Arg) → Type 0
IsPart {A} f back = (a : Arg) (x : A) → f a ≡ Some x → a ≡ back x

-- a shape of arguments is read from just the arguments that are written of it
abbrev pub IsShape : {X : Type 0} → (List Arg → Option X) → (X → List Arg) → Type 0
IsShape {X} shape back = (args : List Arg) (x : X) → shape args ≡ Some x → args ≡ back x

same_choice_is : (c d : Choice) → same_choice c d ≡ true → d ≡ c
same_choice_is Mode Mode e = refl
same_choice_is State State e = refl
same_choice_is Drain Drain e = refl
same_choice_is c d e = absurd (cc)

name-is : IsPart as_name Name
name-is (Name n) x e = ap Name (same_Some n x e)
name-is a x e = absurd (cc)

object-is : IsPart as_object Object
object-is (Object o) x e = ap Object (same_Some o x e)
object-is a x e = absurd (cc)

number-is : IsPart as_number Number
number-is (Number n) x e = ap Number (same_Some n x e)
number-is a x e = absurd (cc)

result-is : IsPart as_result Number
result-is (Number n) x e = ap Number (cond_some (nat_le n GREATEST_RESULT) n x e).1
result-is a x e = absurd (cc)

priority-is : IsPart as_priority Priority
priority-is (Priority p) x e = ap Priority (same_Some p x e)
priority-is a x e = absurd (cc)

truth-is : (choice : Choice) → IsPart (as_truth choice) (Truth choice)
truth-is choice (Truth c t) x e = by_same (same_choice choice c) refl e where
  by_same : (b : Bool) → same_choice choice c ≡ b → cond b (Some t) None ≡ Some x → Truth c t ≡ Truth choice x
  by_same true same here = ap (λ d. Truth d t) (same_choice_is choice c same) ∙ ap (Truth choice) (same_Some t x here)
  by_same false same here = absurd (cc)
truth-is choice a x e = absurd (cc)

bytes-is : IsPart as_bytes Bytes
bytes-is (Bytes m) x e = ap Bytes (same_Some m x e)
bytes-is a x e = absurd (cc)

wait-is : IsPart as_wait Wait
wait-is (Wait t) x e = ap Wait (same_Some t x e)
wait-is a x e = absurd (cc)

event-is : IsPart as_event Event
event-is (Event e) x h = ap Event (same_Some e x h)
event-is a x h = absurd (cc)

all_events-is : IsShape all_events (map Event)
all_events-is [] events e = ap (map Event) (same_Some [] events e)
all_events-is (a ∷ args) events e =
    option_and_then_some _ (as_event a) events e
    (λ event is_event given.
    let rest = one_part (λ more. event ∷ more) (all_events args) events given in
    ap (λ b. b ∷ args) (event-is a event is_event) ∙ ap (λ xs. Event event ∷ xs) (all_events-is args rest.0 rest.1) ∙ ap (map Event) rest.2)

-- the events that are written are read again
pub all_events-map : (events : List PollEvent) → all_events (map Event events) ≡ Some events
all_events-map [] = refl
all_events-map (event ∷ events) = ap (option_map (λ more. event ∷ more)) (all_events-map events)

-- and they are those of a poll, where they are few
pub events_of-map : (events : List PollEvent) → is_few events ≡ true → events_of (map Event events) ≡ Some events
events_of-map events few = ap (option_and_then few_events) (all_events-map events) ∙ cond-true (is_few events) (Some events) None few

-- more arguments than a poll may have are no events of one
pub events_of-many : (args : List Arg) → MOST_EVENTS < length args → None ≡ events_of args
events_of-many args many = by_read (all_events args) refl where
  by_read : (read : Option (List PollEvent)) → all_events args ≡ read → None ≡ option_and_then few_events read
  by_read None same = refl
  by_read (Some events) same =
      let long = ap length (all_events-is args events same) ∙ length-map events Event in
      let past = lt-leb (length events) MOST_EVENTS (omega (arith, many, long)) in
      sym (cond-false (is_few events) (Some events) None (ap (λ b. nat_le 1 (length events) && b) past ∙ and-false (nat_le 1 (length events))))

wait_events-is : IsShape wait_events (λ x. Wait x.0 ∷ map Event x.1)
wait_events-is (Wait wait ∷ args) x e =
    let made = one_part (λ events. (wait, events)) (events_of args) x e in
    option_and_then_some few_events (all_events args) made.0 made.1
    (λ events are few.
    let same : events ≡ made.0 = (cond_some (is_few events) events made.0 few).1 in
    ap (λ xs. Wait wait ∷ xs) (all_events-is args events are) ∙ ap (λ es. Wait wait ∷ map Event es) same ∙ ap (λ p. Wait p.0 ∷ map Event p.1) made.2)
wait_events-is args x e = absurd (cc)

known-is : IsPart as_known (λ object. Object (Known object))
known-is (Object (Known object)) x e = ap (λ n. Object (Known n)) (same_Some object x e)
known-is a x e = absurd (cc)

all_objects-is : IsShape all_objects objects_said
all_objects-is [] objects e = ap objects_said (same_Some [] objects e)
all_objects-is (a ∷ args) objects e =
    option_and_then_some _ (as_known a) objects e
    (λ object is_object given.
    let rest = one_part (λ more. object ∷ more) (all_objects args) objects given in
    ap (λ b. b ∷ args) (known-is a object is_object) ∙ ap (λ xs. Object (Known object) ∷ xs) (all_objects-is args rest.0 rest.1) ∙ ap objects_said rest.2)

-- the objects that are written are read again
pub all_objects-said : (objects : List ℕ) → all_objects (objects_said objects) ≡ Some objects
all_objects-said [] = refl
all_objects-said (object ∷ objects) = ap (option_map (λ more. object ∷ more)) (all_objects-said objects)

-- and they are those of a channel, where they are few
pub objects_of-said : (objects : List ℕ) → fews.is_few objects ≡ true → objects_of (objects_said objects) ≡ Some objects
objects_of-said objects few = ap (option_and_then few_objects) (all_objects-said objects) ∙ cond-true (fews.is_few objects) (Some objects) None few

-- more arguments than a channel may have observers are none of one
pub objects_of-many : (args : List Arg) → most_few < length args → None ≡ objects_of args
objects_of-many args many = by_read (all_objects args) refl where
  by_read : (read : Option (List ℕ)) → all_objects args ≡ read → None ≡ option_and_then few_objects read
  by_read None same = refl
  by_read (Some objects) same =
      let long = ap length (all_objects-is args objects same) ∙ length-map objects (λ (object : ℕ). Object (Known object)) in
      sym (cond-false (fews.is_few objects) (Some objects) None (lt-leb (length objects) most_few (omega (arith, many, long))))

-- objects that are observers of a channel are written so, and are few
objects_of-is : (args : List Arg) (objects : List ℕ) → objects_of args ≡ Some objects → (args ≡ objects_said objects) × (fews.is_few objects ≡ true)
objects_of-is args objects e =
    option_and_then_some few_objects (all_objects args) objects e
    (λ all are few.
    let found = cond_some (fews.is_few all) all objects few in
    (all_objects-is args all are ∙ ap objects_said found.1, ap fews.is_few (sym found.1) ∙ found.0))

-- what is read of a channel, as it is written
abbrev pub ChannelParts : Type 0
ChannelParts = List ℕ × List ℕ × Valid × List ℕ

abbrev pub parts_said : ChannelParts → List Arg
parts_said p = Name p.0 ∷ Number (length p.1) ∷ Bytes p.1 ∷ ValidArg p.2 ∷ objects_said p.3

-- what stands behind a channel is read from just what is written of it, and its observers are few
channel_parts-are : (args : List Arg) (p : ChannelParts) → channel_parts args ≡ Some p → (args ≡ parts_said p) × (fews.is_few p.3 ≡ true)
channel_parts-are (Name name ∷ Number size ∷ Bytes message ∷ ValidArg valid ∷ args) p e = by_size (eqb size (length message)) refl e where
  by_size : (b : Bool) → eqb size (length message) ≡ b → cond b (option_map (λ observers. (name, message, valid, observers)) (objects_of args)) None ≡ Some p
      → (Name name ∷ Number size ∷ Bytes message ∷ ValidArg valid ∷ args ≡ parts_said p) × (fews.is_few p.3 ≡ true)
  by_size true same here =
      let made = one_part (λ (observers : List ℕ). (name, message, valid, observers)) (objects_of args) p here in
      let are = objects_of-is args made.0 made.1 in (
        ap (λ n. Name name ∷ Number n ∷ Bytes message ∷ ValidArg valid ∷ args) (eqb-true size (length message) same)
            ∙ ap (λ xs. Name name ∷ Number (length message) ∷ Bytes message ∷ ValidArg valid ∷ xs) are.0 ∙ ap parts_said made.2,
        ap (λ (q : ChannelParts). fews.is_few q.3) (sym made.2) ∙ are.1,
      )
  by_size false same here = absurd (cc)
channel_parts-are args p e = absurd (cc)

channel_parts-is : IsShape channel_parts parts_said
channel_parts-is args p e = (channel_parts-are args p e).0

both_is : {A B : Type 0} (a : Option A) (b : Option B) (p : A × B) → both a b ≡ Some p → (a ≡ Some p.0) × (b ≡ Some p.1)
both_is (Some a) (Some b) p e = let is = same_Some _ _ e in (ap (λ q. Some q.0) is, ap (λ q. Some q.1) is)
both_is a b p e = absurd (cc)

three_are : {A B C : Type 0} (a : Option A) (b : Option B) (c : Option C) (p : A × B × C) → all_three a b c ≡ Some p → (a ≡ Some p.0) × (b ≡ Some p.1) × (c ≡ Some p.2)
three_are (Some a) (Some b) (Some c) p e = let is = same_Some _ _ e in (ap (λ q. Some q.0) is, ap (λ q. Some q.1) is, ap (λ q. Some q.2) is)
three_are a b c p e = absurd (cc)

four_are : {A B C D : Type 0} (a : Option A) (b : Option B) (c : Option C) (d : Option D) (p : A × B × C × D) → all_four a b c d ≡ Some p → (a ≡ Some p.0) × (b ≡ Some p.1) × (c ≡ Some p.2) × (d ≡ Some p.3)
four_are (Some a) (Some b) (Some c) (Some d) p e = let is = same_Some _ _ e in (ap (λ q. Some q.0) is, ap (λ q. Some q.1) is, ap (λ q. Some q.2) is, ap (λ q. Some q.3) is)
four_are a b c d p e = absurd (cc)

raw-is : IsShape raw_of raw_said
raw-is [] x e = ap raw_said (same_Some false x e)
raw-is (Raw ∷ []) x e = ap raw_said (same_Some true x e)
raw-is args x e = absurd (cc)

one-is : {A : Type 0} (f : Arg → Option A) (p : A → Arg) → IsPart f p → IsShape (one f) (λ x. p x ∷ [])
one-is f p is (a ∷ []) x e = ap (λ b. b ∷ []) (is a x e)
one-is f p is args x e = absurd (cc)

two-is : {A B : Type 0} (f : Arg → Option A) (p : A → Arg) (g : Arg → Option B) (q : B → Arg) → IsPart f p → IsPart g q → IsShape (two f g) (λ x. p x.0 ∷ q x.1 ∷ [])
two-is f p g q is js (a ∷ b ∷ []) x e =
    let parts = both_is (f a) (g b) x e in ap (λ c. c ∷ b ∷ []) (is a x.0 parts.0) ∙ ap (λ c. p x.0 ∷ c ∷ []) (js b x.1 parts.1)
two-is f p g q is js args x e = absurd (cc)

three-is : {A B C : Type 0} (f : Arg → Option A) (p : A → Arg) (g : Arg → Option B) (q : B → Arg) (h : Arg → Option C) (r : C → Arg)
    → IsPart f p → IsPart g q → IsPart h r → IsShape (three f g h) (λ x. p x.0 ∷ q x.1 ∷ r x.2 ∷ [])
three-is f p g q h r is js ks (a ∷ b ∷ c ∷ []) x e =
    let parts = three_are (f a) (g b) (h c) x e in
    ap (λ d. d ∷ b ∷ c ∷ []) (is a x.0 parts.0) ∙ ap (λ d. p x.0 ∷ d ∷ c ∷ []) (js b x.1 parts.1) ∙ ap (λ d. p x.0 ∷ q x.1 ∷ d ∷ []) (ks c x.2 parts.2)
three-is f p g q h r is js ks args x e = absurd (cc)

one_or_two-is : {A B : Type 0} (f : Arg → Option A) (p : A → Arg) (g : Arg → Option B) (q : B → Arg) → IsPart f p → IsPart g q → IsShape (one_or_two f g) (λ x. p x.0 ∷ option_to_list (option_map q x.1))
one_or_two-is f p g q is js (a ∷ []) x e =
    let parts = both_is (f a) (Some None) x e in
    ap (λ c. c ∷ []) (is a x.0 parts.0) ∙ ap (λ o. p x.0 ∷ option_to_list (option_map q o)) (same_Some _ _ parts.1)
one_or_two-is {B = B} f p g q is js (a ∷ b ∷ []) x e = by_second (g b) refl (both_is (f a) (option_map Some (g b)) x e).1 where
  by_second : (o : Option B) → g b ≡ o → option_map Some o ≡ Some x.1 → a ∷ b ∷ [] ≡ p x.0 ∷ option_to_list (option_map q x.1)
  by_second None same here = absurd (cc)
  by_second (Some y) same here =
      ap (λ c. c ∷ b ∷ []) (is a x.0 (both_is (f a) (option_map Some (g b)) x e).0) ∙ ap (λ c. p x.0 ∷ c ∷ []) (js b y same)
      ∙ ap (λ o. p x.0 ∷ option_to_list (option_map q o)) (same_Some _ _ here)
one_or_two-is f p g q is js args x e = absurd (cc)

one_raw-is : {A : Type 0} (f : Arg → Option A) (p : A → Arg) → IsPart f p → IsShape (one_raw f) (λ x. p x.0 ∷ raw_said x.1)
one_raw-is f p is (a ∷ args) x e =
    let parts = both_is (f a) (raw_of args) x e in ap (λ c. c ∷ args) (is a x.0 parts.0) ∙ ap (λ cs. p x.0 ∷ cs) (raw-is args x.1 parts.1)
one_raw-is f p is [] x e = absurd (cc)

three_raw-is : {A B C : Type 0} (f : Arg → Option A) (p : A → Arg) (g : Arg → Option B) (q : B → Arg) (h : Arg → Option C) (r : C → Arg)
    → IsPart f p → IsPart g q → IsPart h r → IsShape (three_raw f g h) (λ x. p x.0 ∷ q x.1 ∷ r x.2 ∷ raw_said x.3)
three_raw-is f p g q h r is js ks (a ∷ b ∷ c ∷ args) x e =
    let parts = four_are (f a) (g b) (h c) (raw_of args) x e in
    ap (λ d. d ∷ b ∷ c ∷ args) (is a x.0 parts.0) ∙ ap (λ d. p x.0 ∷ d ∷ c ∷ args) (js b x.1 parts.1) ∙ ap (λ d. p x.0 ∷ q x.1 ∷ d ∷ args) (ks c x.2 parts.2)
    ∙ ap (λ ds. p x.0 ∷ q x.1 ∷ r x.2 ∷ ds) (raw-is args x.3 parts.3)
three_raw-is f p g q h r is js ks args x e = absurd (cc)

-- a permission is read from just what is written of it
pub permission-is : (args : List Arg) (x : ℕ × ℕ) → permission_of args ≡ Some x → args ≡ permission_said x.0 x.1
permission-is = two-is as_known (λ object. Object (Known object)) as_known (λ object. Object (Known object)) known-is known-is

-- what is made of arguments of a shape is written as they are
by_shape : {X C D : Type 0} (shape : List Arg → Option X) (back : X → List Arg) (make : X → C) (say : C → D) (tell : List Arg → D) → IsShape shape back → ((x : X) → say (make x) ≡ tell (back x))
    → (args : List Arg) (c : C) → option_map make (shape args) ≡ Some c → say c ≡ tell args
by_shape {X} shape back make say tell is says args c said = by_read (shape args) refl said where
  by_read : (read : Option X) → shape args ≡ read → option_map make read ≡ Some c → say c ≡ tell args
  by_read None same made = absurd (cc)
  by_read (Some x) same made = ap say (sym (same_Some (make x) c made)) ∙ says x ∙ ap tell (sym (is args x same))

-- the words of no argument
without : (w : Word) (what : Call) → said_of what ≡ saying w [] → (args : List Arg) (c : Call) → alone what args ≡ Some c → said_of c ≡ saying w args
without w what says [] c said = ap said_of (sym (same_Some what c said)) ∙ says
without w what says (a ∷ args) c said = absurd (cc)

-- the words of one object alone
one_object : (w : Word) (f : Ref → Call) → ((x : Ref) → said_of (f x) ≡ saying w (Object x ∷ [])) → (args : List Arg) (c : Call) → option_map f (one as_object args) ≡ Some c → said_of c ≡ saying w args
one_object w f says = by_shape (one as_object) _ f said_of (saying w) (one-is as_object Object object-is) says

-- the words of two objects
two_objects : (w : Word) (f : Ref × Ref → Call) → ((x : Ref × Ref) → said_of (f x) ≡ saying w (Object x.0 ∷ Object x.1 ∷ [])) → (args : List Arg) (c : Call) → option_map f (two as_object as_object args) ≡ Some c → said_of c ≡ saying w args
two_objects w f says = by_shape (two as_object as_object) _ f said_of (saying w) (two-is as_object Object as_object Object object-is object-is) says

-- the words of an item, a queue and a delay
delayed : (w : Word) (f : Ref × Ref × ℕ → Call) → ((x : Ref × Ref × ℕ) → said_of (f x) ≡ saying w (Object x.0 ∷ Object x.1 ∷ Number x.2 ∷ [])) → (args : List Arg) (c : Call)
    → option_map f (three as_object as_object as_number args) ≡ Some c → said_of c ≡ saying w args
delayed w f says = by_shape (three as_object as_object as_number) _ f said_of (saying w) (three-is as_object Object as_object Object as_number Number object-is object-is number-is) says

-- the words of an object and of how long is waited for it
waiting : (w : Word) (f : Ref × Timeout → Call) → ((x : Ref × Timeout) → said_of (f x) ≡ saying w (Object x.0 ∷ Wait x.1 ∷ [])) → (args : List Arg) (c : Call) → option_map f (two as_object as_wait args) ≡ Some c → said_of c ≡ saying w args
waiting w f says = by_shape (two as_object as_wait) _ f said_of (saying w) (two-is as_object Object as_wait Wait object-is wait-is) says

-- the words of an object, a message for it, and how long is waited for it
sent : (w : Word) (f : Ref × List ℕ × Timeout → Call) → ((x : Ref × List ℕ × Timeout) → said_of (f x) ≡ saying w (Object x.0 ∷ Bytes x.1 ∷ Wait x.2 ∷ [])) → (args : List Arg) (c : Call)
    → option_map f (three as_object as_bytes as_wait args) ≡ Some c → said_of c ≡ saying w args
sent w f says = by_shape (three as_object as_bytes as_wait) _ f said_of (saying w) (three-is as_object Object as_bytes Bytes as_wait Wait object-is bytes-is wait-is) says

-- what is made a call is written so
pub said_of-call_of : (w : Word) (args : List Arg) (c : Call) → call_of w args ≡ Some c → said_of c ≡ saying w args
said_of-call_of word.Submit = by_shape (one_or_two as_object as_object) _ (λ p. call.Submit p.0 p.1) said_of (saying word.Submit) (one_or_two-is as_object Object as_object Object object-is object-is) (λ x. refl)
said_of-call_of word.Cancel = one_object word.Cancel call.Cancel (λ x. refl)
said_of-call_of word.CancelSync = one_object word.CancelSync call.CancelSync (λ x. refl)
said_of-call_of word.Flush = one_object word.Flush call.Flush (λ x. refl)
said_of-call_of word.Schedule = delayed word.Schedule (λ p. call.Schedule p.0 p.1 p.2) (λ x. refl)
said_of-call_of word.Reschedule = delayed word.Reschedule (λ p. call.Reschedule p.0 p.1 p.2) (λ x. refl)
said_of-call_of word.Remaining = one_object word.Remaining call.Remaining (λ x. refl)
said_of-call_of word.Busy = one_object word.Busy call.Busy (λ x. refl)
said_of-call_of word.Start = one_object word.Start call.Start (λ x. refl)
said_of-call_of word.Drain = by_shape (two as_object (as_truth Drain)) _ (λ p. call.Drain p.0 p.1) said_of (saying word.Drain) (two-is as_object Object (as_truth Drain) (Truth Drain) object-is (truth-is Drain)) (λ x. refl)
said_of-call_of word.Unplug = one_object word.Unplug call.Unplug (λ x. refl)
said_of-call_of word.Stop = one_object word.Stop call.Stop (λ x. refl)
said_of-call_of word.Tick = by_shape (one as_number) _ call.Tick said_of (saying word.Tick) (one-is as_number Number number-is) (λ x. refl)
said_of-call_of word.Take = waiting word.Take (λ p. call.Take p.0 p.1) (λ x. refl)
said_of-call_of word.Give = one_object word.Give call.Give (λ x. refl)
said_of-call_of word.Reset = one_object word.Reset call.Reset (λ x. refl)
said_of-call_of word.Count = one_object word.Count call.Count (λ x. refl)
said_of-call_of word.Put = sent word.Put (λ p. call.Put p.0 p.1 p.2) (λ x. refl)
said_of-call_of word.PutFront = by_shape (two as_object as_bytes) _ (λ p. call.PutFront p.0 p.1) said_of (saying word.PutFront) (two-is as_object Object as_bytes Bytes object-is bytes-is) (λ x. refl)
said_of-call_of word.Get = waiting word.Get (λ p. call.Get p.0 p.1) (λ x. refl)
said_of-call_of word.Peek = one_object word.Peek call.Peek (λ x. refl)
said_of-call_of word.PeekAt = by_shape (two as_object as_number) _ (λ p. call.PeekAt p.0 p.1) said_of (saying word.PeekAt) (two-is as_object Object as_number Number object-is number-is) (λ x. refl)
said_of-call_of word.Purge = one_object word.Purge call.Purge (λ x. refl)
said_of-call_of word.Used = one_object word.Used call.Used (λ x. refl)
said_of-call_of word.Free = one_object word.Free call.Free (λ x. refl)
said_of-call_of word.Raise = by_shape (two as_object as_result) _ (λ p. call.Raise p.0 p.1) said_of (saying word.Raise) (two-is as_object Object as_result Number object-is result-is) (λ x. refl)
said_of-call_of word.Clear = one_object word.Clear call.Clear (λ x. refl)
said_of-call_of word.Check = one_object word.Check call.Check (λ x. refl)
said_of-call_of word.Poll = by_shape wait_events _ (λ p. call.Poll p.0 p.1) said_of (saying word.Poll) wait_events-is (λ x. refl)
said_of-call_of word.Claim = waiting word.Claim (λ p. call.Claim p.0 p.1) (λ x. refl)
said_of-call_of word.Finish = one_object word.Finish call.Finish (λ x. refl)
said_of-call_of word.Publish = sent word.Publish (λ p. call.Publish p.0 p.1 p.2) (λ x. refl)
said_of-call_of word.Notify = waiting word.Notify (λ p. call.Notify p.0 p.1) (λ x. refl)
said_of-call_of word.Read = waiting word.Read (λ p. call.Read p.0 p.1) (λ x. refl)
said_of-call_of word.Mask = by_shape (three as_object as_object (as_truth State)) _ (λ p. call.Mask p.0 p.1 p.2) said_of (saying word.Mask) (three-is as_object Object as_object Object (as_truth State) (Truth State) object-is object-is (truth-is State)) (λ x. refl)
said_of-call_of word.Enable = by_shape (two as_object (as_truth State)) _ (λ p. call.Enable p.0 p.1) said_of (saying word.Enable) (two-is as_object Object (as_truth State) (Truth State) object-is (truth-is State)) (λ x. refl)
said_of-call_of word.SubWait = waiting word.SubWait (λ p. call.SubWait p.0 p.1) (λ x. refl)
said_of-call_of word.Grant = two_objects word.Grant (λ p. call.Grant p.0 p.1) (λ x. refl)
said_of-call_of word.Release = one_object word.Release call.Release (λ x. refl)
said_of-call_of word.Revoke = two_objects word.Revoke (λ p. call.Revoke p.0 p.1) (λ x. refl)
said_of-call_of word.Public = one_object word.Public call.Public (λ x. refl)
said_of-call_of word.Init = one_object word.Init call.Init (λ x. refl)
said_of-call_of word.User = without word.User call.User refl

-- what is made a call can be kept: the events of a poll are few
few-poll : (args : List Arg) (wait : Timeout) (events : List PollEvent) → call_of word.Poll args ≡ Some (call.Poll wait events) → is_few events ≡ true
few-poll args wait events said =
    let made = one_part (λ (p : Timeout × List PollEvent). call.Poll p.0 p.1) (wait_events args) (call.Poll wait events) said in
    let same : made.0.1 ≡ events = cc made.2 in ap is_few (sym same) ∙ by_args args made.0 made.1 where
      by_args : (args : List Arg) (p : Timeout × List PollEvent) → wait_events args ≡ Some p → is_few p.1 ≡ true
      by_args (Wait t ∷ more) p e =
          let read = one_part (λ (es : List PollEvent). (t, es)) (events_of more) p e in
          option_and_then_some few_events (all_events more) read.0 read.1
          (λ all are few.
          let found = cond_some (is_few all) all read.0 few in
          ap (λ (q : Timeout × List PollEvent). is_few q.1) (sym read.2) ∙ ap is_few (sym found.1) ∙ found.0)
      by_args more p e = absurd (cc)

pub few-call : (w : Word) (args : List Arg) (c : Call) → call_of w args ≡ Some c → has_few_events c ≡ true
few-call w args (call.Poll wait events) said =
    let is : word.Poll ≡ w = ap (λ s. s.word) (said_of-call_of w args (call.Poll wait events) said) in
    few-poll args wait events (ap (λ v. call_of v args) is ∙ said)
few-call w args c said = refl

-- the kinds of a name, a priority and one of the two words of a choice
playing : (k : Kind) (choice : Choice) (f : List ℕ × ℤ × Bool → Decl) → ((x : List ℕ × ℤ × Bool) → written_of (f x) ≡ written k (Name x.0 ∷ Priority x.1 ∷ Truth choice x.2 ∷ []))
    → (args : List Arg) (d : Decl) → option_map f (three as_name as_priority (as_truth choice) args) ≡ Some d → written_of d ≡ written k args
playing k choice f says =
    by_shape (three as_name as_priority (as_truth choice)) _ f written_of (written k) (three-is as_name Name as_priority Priority (as_truth choice) (Truth choice) name-is priority-is (truth-is choice)) says

-- the kinds of a name and two numbers, behind which `raw` may stand
numbered : (k : Kind) (f : List ℕ × ℕ × ℕ × Bool → Decl) → ((x : List ℕ × ℕ × ℕ × Bool) → written_of (f x) ≡ written k (Name x.0 ∷ Number x.1 ∷ Number x.2 ∷ raw_said x.3)) → (args : List Arg) (d : Decl)
    → option_map f (three_raw as_name as_number as_number args) ≡ Some d → written_of d ≡ written k args
numbered k f says = by_shape (three_raw as_name as_number as_number) _ f written_of (written k) (three_raw-is as_name Name as_number Number as_number Number name-is number-is number-is) says

-- what is made a declaration is written so
pub written_of-decl_of : (k : Kind) (args : List Arg) (d : Decl) → decl_of k args ≡ Some d → written_of d ≡ written k args
written_of-decl_of kind.Thread = playing kind.Thread Mode (λ p. decl.Thread p.0 p.1 p.2) (λ x. refl)
written_of-decl_of kind.Queue = playing kind.Queue State (λ p. decl.Queue p.0 p.1 p.2) (λ x. refl)
written_of-decl_of kind.Item = by_shape (one as_name) _ decl.Item written_of (written kind.Item) (one-is as_name Name name-is) (λ x. refl)
written_of-decl_of kind.Sem = numbered kind.Sem (λ p. decl.Sem p.0 p.1 p.2 p.3) (λ x. refl)
written_of-decl_of kind.Msgq = numbered kind.Msgq (λ p. decl.Msgq p.0 p.1 p.2 p.3) (λ x. refl)
written_of-decl_of kind.Signal = by_shape (one_raw as_name) _ (λ p. decl.Signal p.0 p.1) written_of (written kind.Signal) (one_raw-is as_name Name name-is) (λ x. refl)
written_of-decl_of kind.Listener = by_shape (one as_name) _ decl.Listener written_of (written kind.Listener) (one-is as_name Name name-is) (λ x. refl)
written_of-decl_of kind.Sub = by_shape (two as_name as_number) _ (λ p. decl.Sub p.0 p.1) written_of (written kind.Sub) (two-is as_name Name as_number Number name-is number-is) (λ x. refl)
written_of-decl_of kind.Chan = by_shape channel_parts _ (λ p. decl.Chan p.0 p.1 p.2 p.3) written_of (written kind.Chan) channel_parts-is (λ x. refl)

-- what a channel's line declares has few observers
pub few-channel : (args : List Arg) (name message : List ℕ) (valid : Valid) (observers : List ℕ) → decl_of kind.Chan args ≡ Some (decl.Chan name message valid observers) → fews.is_few observers ≡ true
few-channel args name message valid observers said =
    let made = one_part (λ (p : ChannelParts). decl.Chan p.0 p.1 p.2 p.3) (channel_parts args) (decl.Chan name message valid observers) said in
    let same : made.0.3 ≡ observers = cc made.2 in ap fews.is_few (sym same) ∙ (channel_parts-are args made.0 made.1).1
