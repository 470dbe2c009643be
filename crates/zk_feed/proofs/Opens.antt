-- The history of the fan of a feed: opens alone, which told of all subscribers.
use Rattle.std.proofs.Common.{◌≡◌, ℕ, ◌⊎◌, Bool, true, false, ◌==◌, ◌||◌, inl, inr, ⊎_elim, All, List, [], ◌∷◌, ◌++◌, Vec, Global, get_or, refl, sym, ap, subst, ◌∙◌}
use Rattle.std.proofs.lemmas.List.Elements.{All-append, All-weaker, filter_passes}
use Rattle.zk_base.specs.declared.ids.Who.{Who}
use Rattle.zk_base.specs.declared.ids.Entry.{Entry}
use Rattle.zk_base.specs.Legal.{IsLegal}
use Rattle.zk_base.proofs.Lists.{All-front}
use Rattle.zk_turn.specs.Passes.{given_to, pass_mine, pass_players, pass_seen}
use Rattle.zk_turn.specs.Players.{has, is_by, GoesOn}
use Rattle.zk_msgsub.specs.declared.fan_state.FanOp.{FanOp}
use Rattle.zk_msgsub.specs.declared.fan_state.FanOp.TheVariants.{Open}
use Rattle.zk_msgsub.specs.declared.fan_state.FanReply.{FanReply}
use Rattle.zk_msgsub.specs.declared.fan_state.FanReply.TheVariants.{Subs}
use Rattle.zk_msgsub.specs.declared.seats.PubSeat.{PubSeat}
use Rattle.zk_msgsub.specs.Fan.{Roster, fan_machine}
use Rattle.zk_msgsub.specs.FanSeen.{fan_start}
use Rattle.zk_msgsub.specs.Notes.{upto}
use Rattle.zk_msgsub.specs.Publishers.{FanPass}
use Rattle.zk_msgsub.proofs.Callers.{opens-tell}
use Rattle.zk_feed.specs.declared.shared.Shared.{Shared}
use Rattle.zk_feed.specs.Feeding.{AreRows, IsGathered, IsOpen, JoinsTwo, OpensAlone, ToldAll}

abbrev pub FanEntry : Type 0
FanEntry = Entry FanOp FanReply

-- of these players, opens alone
abbrev pub AreOpens : List Who → List FanEntry → Type 0
AreOpens players h = All (λ e. is_by players e ≡ true → e.op ≡ Open) h

not-both : {P : Type 0} (b : Bool) → b ≡ false → b ≡ true → P
not-both b off on = let bad = sym off ∙ on in absurd (cc)

-- entries of others change nothing
pub opens-go-on : (players : List Who) (seen history : List FanEntry) → GoesOn players seen history → AreOpens players seen →
    AreOpens players history
opens-go-on players seen history goes opens =
    let P : FanEntry → Type 0 = λ e. is_by players e ≡ true → e.op ≡ Open in
    subst (All P) (sym goes.longer)
    (All-append P seen goes.later opens
    (All-weaker (λ e. is_by players e ≡ false) P (λ e off on. not-both (is_by players e) off on) goes.later goes.others))

-- nor do they where all told of all subscribers
pub told-before : (many : ℕ) (players : List Who) (seen history : List FanEntry) → GoesOn players seen history →
    ToldAll many history → ToldAll many seen
told-before many players seen history goes told =
    let P : FanEntry → Type 0 = λ e. e.reply ≡ Subs (upto many) in
    All-front P seen goes.later (subst (All P) goes.longer told)

or-cases : (a b : Bool) → (a || b) ≡ true → (a ≡ true) ⊎ (b ≡ true)
or-cases true b is = inl refl
or-cases false b is = inr is

or-assoc : (a b c : Bool) → ((a || b) || c) ≡ (a || (b || c))
or-assoc true b c = refl
or-assoc false b c = refl

-- one of both has the number
has-append : (xs ys : List Who) (n : ℕ) → has (xs ++ ys) n ≡ (has xs n || has ys n)
has-append [] ys n = refl
has-append (x ∷ xs) ys n =
    ap (λ (b : Bool). (x.number == n) || b) (has-append xs ys n) ∙ sym (or-assoc (x.number == n) (has xs n) (has ys n))

-- of the players of both
opens-both : (xs ys : List Who) (h : List FanEntry) → AreOpens xs h → AreOpens ys h → AreOpens (xs ++ ys) h
opens-both xs ys h one other k d within by =
    let n = (get_or h k d).who.number in
    ⊎_elim (λ mine. one k d within mine) (λ theirs. other k d within theirs)
    (or-cases (has xs n) (has ys n) (sym (has-append xs ys n) ∙ by))

-- a pass that two were put into
pub opens-joined : (f : Shared) (all pass new : FanPass) → JoinsTwo f all pass new → OpensAlone all → OpensAlone pass →
    OpensAlone new
opens-joined f all pass new joins one other =
    subst (λ (players : List Who). AreOpens players (pass_seen new)) (sym joins.players)
    (opens-both (pass_players all) (pass_players pass) (pass_seen new)
    (opens-go-on (pass_players all) (pass_seen all) (pass_seen new) joins.first one)
    (opens-go-on (pass_players pass) (pass_seen pass) (pass_seen new) joins.second other))

-- where all entries are of its players, all are opens, and so each told of all subscribers
pub all-told : (f : Shared) (pass : FanPass) → IsOpen f → OpensAlone pass → pass_mine pass ≡ pass_seen pass →
    IsLegal fan_machine (fan_start (given_to f.fan)) (pass_seen pass) → ToldAll f.size.subscribers (pass_seen pass)
all-told f pass stands opens mine legal =
    let seen = pass_seen pass in
    let by : All (λ e. is_by (pass_players pass) e ≡ true) seen =
    subst (All (λ e. is_by (pass_players pass) e ≡ true)) mine (filter_passes (is_by (pass_players pass)) seen) in
    let all : All (λ e. e.op ≡ Open) seen = λ k d within. opens k d within (by k d within) in
    opens-tell (upto f.size.subscribers) seen
    (subst (λ (s : Roster). IsLegal fan_machine s seen) stands.start legal) all

-- and so the rows are those of all messages
pub all-rows : (f : Shared) (many : ℕ) (pass : FanPass) (rows : List (Vec PubSeat Global)) → IsOpen f →
    IsGathered f many pass rows →
    pass_mine pass ≡ pass_seen pass → IsLegal fan_machine (fan_start (given_to f.fan)) (pass_seen pass) →
    AreRows f.subs.items f.size.messages rows
all-rows f many pass rows stands are mine legal = are.told (all-told f pass stands are.opens mine legal)
