-- The names of the declarations, with one more.
use Rattle.std.proofs.Common.{◌≡◌, ℕ, Bool, true, cond, Option, None, Some, List, [], ◌∷◌, ◌++◌, length, slice_get, is_some, refl, sym, ap, subst, ◌∙◌, ⊎_elim, arith, length-append}
use Rattle.std.specs.Str.{bytes_eq}
use Rattle.std.proofs.lemmas.Bool.{cases_order}
use Rattle.std.proofs.lemmas.Option.{none-some, slice_get_past}
use Rattle.std.proofs.lemmas.Slice.Eq.{bytes_eq-Decides}
use Rattle.zk_base.specs.Names.{is_name}
use Rattle.zk_line.specs.declared.types.Decl.{Decl}
use Rattle.zk_line.specs.Objects.{AreNames, name_of, object_of}
use Rattle.zk_line.proofs.Lists.{slice_get-append_left, slice_get-push, position-push}

-- an element of a list with one more is one of the list, or the last
at-push : (P : ℕ → Decl → Type 0) (decls : List Decl) (d : Decl) → ((n : ℕ) (x : Decl) → slice_get decls n ≡ Some x → P n x) → P (length decls) d
    → (n : ℕ) (x : Decl) → slice_get (decls ++ d ∷ []) n ≡ Some x → P n x
at-push P decls d held last n x e =
    ⊎_elim
    (λ at.
    let here : d ≡ x = cc (slice_get-push decls d, ap (slice_get (decls ++ d ∷ [])) at) in
    subst (λ (k : ℕ). P k x) (sym at) (subst (P (length decls)) here last))
    (⊎_elim
    (λ below. held n x (sym (slice_get-append_left decls (d ∷ []) n below) ∙ e))
    (λ above. absurd (none-some x (sym (slice_get_past (decls ++ d ∷ []) n (omega (arith, length-append decls (d ∷ [])))) ∙ e))))
    (cases_order n (length decls))

-- the object of a name, with a declaration more
object_of-push : (decls : List Decl) (d : Decl) (name : List ℕ) →
    object_of (decls ++ d ∷ []) name ≡ cond (is_some (object_of decls name)) (object_of decls name) (cond (bytes_eq (name_of d) name) (Some (length decls)) None)
object_of-push decls d name = position-push (λ x. bytes_eq (name_of x) name) decls d

-- a declaration more, whose name is well formed and new
pub AreNames-push : (decls : List Decl) (d : Decl) → AreNames decls → is_name (name_of d) ≡ true → object_of decls (name_of d) ≡ None → AreNames (decls ++ d ∷ [])
AreNames-push decls d are named fresh = record {
  formed = at-push (λ n x. is_name (name_of x) ≡ true) decls d are.formed named;
  distinct = at-push (λ n x. object_of (decls ++ d ∷ []) (name_of x) ≡ Some n) decls d
      (λ n x e. object_of-push decls d (name_of x) ∙ ap (λ (o : Option ℕ). cond (is_some o) o (cond (bytes_eq (name_of d) (name_of x)) (Some (length decls)) None)) (are.distinct n x e))
      (object_of-push decls d (name_of d) ∙ ap (λ (o : Option ℕ). cond (is_some o) o (cond (bytes_eq (name_of d) (name_of d)) (Some (length decls)) None)) fresh
      ∙ ap (λ (b : Bool). cond b (Some (length decls)) None) ((bytes_eq-Decides (name_of d) (name_of d)).1 refl));
}
