-- What a source gave, through one call after another.
use Rattle.std.proofs.Common.{ℕ, List, [], ◌++◌, Some, None, refl, sym, ◌∙◌, ap, append_assoc}
use Rattle.sp_io.specs.Outside.{Told, Gave}

pub gave_none : (t : Told) → Gave t [] t
gave_none (Some bytes) = refl
gave_none None = tt

pub gave_more : (a b c : Told) (xs ys : List ℕ) → Gave a xs b → Gave b ys c → Gave a (xs ++ ys) c
gave_more (Some a) (Some b) (Some c) xs ys first second = first ∙ ap (λ (l : List ℕ). xs ++ l) second ∙ sym (append_assoc xs ys c)
gave_more (Some a) (Some b) None xs ys first second = absurd second
gave_more (Some a) None c xs ys first second = absurd first
gave_more None (Some b) c xs ys first second = absurd first
gave_more None None (Some c) xs ys first second = absurd second
gave_more None None None xs ys first second = tt
