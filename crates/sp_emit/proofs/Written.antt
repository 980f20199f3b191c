-- Bindings written one after another.
use Rattle.std.proofs.Common.{◌≡◌, ◌+◌, ◌<◌, ◌++◌, ◌∷◌, [], ℕ, List, length, get_or, take, ap, sym, ◌∙◌}
use Rattle.std.proofs.lemmas.List.{flat_map_more, take_more}
use Rattle.std.specs.List.{flat_map}
use Rattle.sp_plan.specs.declared.plan.Plan.{Plan}
use Rattle.sp_plan.specs.Lines.{binding_text}
use Rattle.sp_emit.proofs.Named.{Binding}

-- one binding more
pub one_more : (q : Plan) (start before after : List ℕ) (bound : List Binding) (i : ℕ) (pair : Binding) → i < length bound → pair ≡ get_or bound i pair
    → before ≡ start ++ flat_map (binding_text q) (take i bound) → after ≡ before ++ binding_text q pair → after ≡ start ++ flat_map (binding_text q) (take (i + 1) bound)
one_more q start before after bound i pair inside is so_far now =
    now ∙ ap (λ (l : List ℕ). l ++ binding_text q pair) so_far ∙ flat_map_more (binding_text q) start (take i bound) pair
    ∙ ap (λ (l : List Binding). start ++ flat_map (binding_text q) l) ((λ j. take i bound ++ is j ∷ []) ∙ sym (take_more bound i pair inside))
