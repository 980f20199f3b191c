-- The names of a plan, as items may name them.
use Rattle.std.proofs.Common.{◌≡◌, ℕ, ◌+◌, ◌-◌, ◌<◌, ◌≤◌, List, [], ◌∷◌, ◌++◌, length, drop, get_or, sym, ◌∙◌, ap, add-one, append_assoc, append-nil}
use Rattle.std.specs.List.{last_or, list_any}
use Rattle.std.specs.Prelude.{None, slice_get}
use Rattle.std.proofs.lemmas.List.{drop_more, drop_all}
use Rattle.sp_plan.specs.declared.plan.Element.{Element}
use Rattle.sp_query.specs.declared.query.Ident.{Ident}
use Rattle.sp_compile.specs.Scopes.{PatternName}
use Rattle.sp_compile.proofs.LastElement.{last_is}
use Rattle.sp_returns.specs.declared.item.Return.{Return}
use Rattle.sp_returns.specs.Scopes.{is_never, named_from}

-- the last item is at the last place
pub last_item : (returns : List Return) → last_or None returns ≡ slice_get returns (length returns - 1)
last_item returns = last_is returns

-- one name more
pub named_more : (elements : List Element) (idents : List Ident) (i : ℕ) (ident : Ident) (so_far all : List PatternName) → i < length idents → ident ≡ get_or idents i ident → so_far ++ named_from elements i (drop i idents) ≡ all
    → (so_far ++ record { name = ident; element = 0; negated = list_any (is_never i) elements } ∷ []) ++ named_from elements (i + 1) (drop (i + 1) idents) ≡ all
named_more elements idents i ident so_far all inside is whole =
    let one : PatternName = record { name = ident; element = 0; negated = list_any (is_never i) elements } in
    let rest = drop (i + 1) idents in
    let opened : drop i idents ≡ ident ∷ rest = drop_more idents i ident inside ∙ ap (λ (y : Ident). y ∷ rest) (sym is) in
    append_assoc so_far (one ∷ []) (named_from elements (i + 1) rest)
    ∙ ap (λ (n : ℕ). so_far ++ one ∷ named_from elements n rest) (add-one i)
    ∙ ap (λ (l : List Ident). so_far ++ named_from elements i l) (sym opened)
    ∙ whole

-- all names
pub named_all : (elements : List Element) (idents : List Ident) (i : ℕ) (so_far all : List PatternName) → length idents ≤ i → so_far ++ named_from elements i (drop i idents) ≡ all → so_far ≡ all
named_all elements idents i so_far all end whole =
    sym (append-nil so_far) ∙ ap (λ (l : List Ident). so_far ++ named_from elements i l) (sym (drop_all i idents end)) ∙ whole
