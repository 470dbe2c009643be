-- The names of the threads and then those of the queues are those of the players.
use Rattle.std.proofs.Common.{◌≡◌, ℕ, ◌+◌, ◌-◌, ◌<◌, suc, List, [], ◌++◌, sym, ◌∙◌, ap, append_assoc, arith}
use Rattle.std.specs.List.{flat_map}
use Rattle.std.proofs.lemmas.Grind.{flat_map-append}
use Rattle.zk_line.specs.declared.types.Decl.{Decl}
use Rattle.zk_line.specs.Objects.{places, is_thread, is_queue, name_at}
use Rattle.zk_scenario.specs.Players.{players}
use Rattle.zk_show_text.specs.Header.{letters_line, letters_from}

pub all_names : (cell : List ℕ → List ℕ) (decls seen : List Decl) (threads queues front base first second : List ℕ)
    → seen ≡ decls → threads ≡ places is_thread decls → queues ≡ places is_queue decls → base ≡ front
    → first ≡ base ++ flat_map (λ object. cell (name_at seen object)) threads
    → second ≡ first ++ flat_map (λ object. cell (name_at seen object)) queues
    → second ≡ front ++ flat_map (λ object. cell (name_at decls object)) (players decls)
all_names cell decls seen threads queues front base first second same isthreads isqueues isfront isfirst issecond =
    let text : List Decl → ℕ → List ℕ = λ ds object. cell (name_at ds object) in
    let a : first ≡ front ++ flat_map (text decls) (places is_thread decls) =
    isfirst ∙ ap (λ l. l ++ flat_map (text seen) threads) isfront
    ∙ ap (λ ds. front ++ flat_map (text ds) threads) same ∙ ap (λ os. front ++ flat_map (text decls) os) isthreads in
    let b : second ≡ (front ++ flat_map (text decls) (places is_thread decls)) ++ flat_map (text decls) (places is_queue decls) =
    issecond ∙ ap (λ l. l ++ flat_map (text seen) queues) a
    ∙ ap (λ ds. (front ++ flat_map (text decls) (places is_thread decls)) ++ flat_map (text ds) queues) same
    ∙ ap (λ os. (front ++ flat_map (text decls) (places is_thread decls)) ++ flat_map (text decls) os) isqueues in
    b ∙ append_assoc front (flat_map (text decls) (places is_thread decls)) (flat_map (text decls) (places is_queue decls))
    ∙ ap (λ l. front ++ l) (sym (flat_map-append (text decls) (places is_thread decls) (places is_queue decls)))

-- the lines of letters at so many places, from one on
pub letters_next : (decls : List Decl) (size place places : ℕ) → place < places
    → letters_from decls size place (places - place) ≡ letters_line decls size place ++ letters_from decls size (place + 1) (places - (place + 1))
letters_next decls size place places within =
    let next : places - place ≡ suc (places - (place + 1)) = omega arith in
    ap (letters_from decls size place) next
