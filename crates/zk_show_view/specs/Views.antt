use Rattle.std.specs.Prelude.{ℕ, if◌then◌else◌, Option, Some, None, List, [], ◌∷◌, codes}
use Rattle.std.specs.Str.{bytes_eq}
use Rattle.zk_show_view.specs.declared.view.View.{View}
use Rattle.zk_show_view.specs.declared.view.View.TheVariants.{Text, Svg, Json, Page, Why}

-- the view that the words ask for, if they are the name of one
abbrev pub view_of : List (List ℕ) → Option View
view_of (word ∷ []) =
    if bytes_eq word (codes "text") then Some Text else
    if bytes_eq word (codes "svg") then Some Svg else
    if bytes_eq word (codes "json") then Some Json else
    if bytes_eq word (codes "page") then Some Page else
    if bytes_eq word (codes "why") then Some Why else None
view_of words = None
