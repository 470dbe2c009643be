-- Callers that are put in the order of their numbers, and what their kernel leaves.
use Rattle.std.proofs.Common.{◌≡◌, Some, List, length, map, get_or, All, IsPermutation, ap, ◌∙◌}
use Rattle.std.specs.List.{slice_get}
use Rattle.std.specs.Option.{option_map}
use Rattle.std.specs.List.Sorted.{IsNonDecreasingBy}
use Rattle.std.proofs.lemmas.List.{length-map}
use Rattle.std.proofs.lemmas.List.Sorted.{All-permutation, IsPermutation-sym}
use Rattle.std.proofs.lemmas.Option.{slice_get-get_or, slice_get-map}
use Rattle.zk_worker.specs.Places.{PlayerPlace}
use Rattle.zk_world.specs.Sound.{IsSound}
use Rattle.zk_kernel.specs.declared.caller.Caller.{Caller}
use Rattle.zk_cells.specs.Kernels.{Shared}
use Rattle.zk_cells.specs.Lasting.{Closes}
use Rattle.zk_kernel.specs.Callers.{IsCaller, number_of, place_of, shown_to}
use Rattle.zk_kernel.specs.Gathered.{AreInOrder}
use Rattle.zk_kernel.specs.Rests.{Left, AreAllCallers, HasClosed}
use Rattle.zk_kernel.proofs.Numbers.{in-place}

-- sorted by their numbers, each stands at its number
pub in-order : (k : Shared) (given sorted : List Caller) → AreAllCallers k given → IsPermutation given sorted → length sorted ≡ length given → IsNonDecreasingBy number_of sorted → AreInOrder k sorted
in-order k given sorted all moved long up = record {
  own = All-permutation (IsCaller k) given sorted moved all.own;
  all = long ∙ all.all;
  numbers = in-place number_of given sorted all.once moved long up;
}

-- what is left of them in order is left of them in whatever order they were given
pub closed-any : (k : Shared) (given sorted : List Caller) (left : Left) → AreInOrder k sorted → IsPermutation given sorted → length sorted ≡ length given →
    left.scenario ≡ k.scenario → left.world.players ≡ map place_of sorted → All (λ c. Closes (number_of c) (shown_to c) left.world.shown) sorted → IsSound left.scenario left.world → HasClosed k given left
closed-any k given sorted left order moved long scenario players seen sound =
    let P : Caller → Type 0 = λ c. slice_get left.world.players (number_of c) ≡ Some (place_of c) in
    let Q : Caller → Type 0 = λ c. Closes (number_of c) (shown_to c) left.world.shown in
    let back = IsPermutation-sym given sorted moved in
    record {
      scenario = scenario;
      count = ap length players ∙ length-map sorted place_of ∙ long;
      players = All-permutation P sorted given back at;
      seen = All-permutation Q sorted given back seen;
      sound = sound;
    }
  where
    at : All (λ c. slice_get left.world.players (number_of c) ≡ Some (place_of c)) sorted
    at i d within =
        let c = get_or sorted i d in
        let there = slice_get-get_or sorted i d within in
        ap (λ (l : List PlayerPlace). slice_get l (number_of c)) players
        ∙ ap (slice_get (map place_of sorted)) (order.numbers i c there)
        ∙ slice_get-map place_of sorted i ∙ ap (option_map place_of) there
