-- What a sink holds, through one call after another.
use Rattle.std.proofs.Common.{ℕ, List, [], ◌++◌, Some, None, refl, sym, ◌∙◌, ap, append_assoc}
use Rattle.std.proofs.lemmas.List.{append-nil}
use Rattle.sp_io.specs.Outside.{Told, Grew, GrewWithin}

pub grew_none : (t : Told) → Grew t [] t
grew_none (Some bytes) = sym (append-nil bytes)
grew_none None = tt

pub grew_more : (a b c : Told) (xs ys : List ℕ) → Grew a xs b → Grew b ys c → Grew a (xs ++ ys) c
grew_more (Some a) (Some b) (Some c) xs ys first second = second ∙ ap (λ (l : List ℕ). l ++ ys) first ∙ append_assoc a xs ys
grew_more (Some a) (Some b) None xs ys first second = absurd second
grew_more (Some a) None c xs ys first second = absurd first
grew_more None (Some b) c xs ys first second = absurd first
grew_more None None (Some c) xs ys first second = absurd second
grew_more None None None xs ys first second = tt

pub within_all : (a b : Told) (xs more : List ℕ) → Grew a xs b → GrewWithin a (xs ++ more) b
within_all a b xs more grew = (xs, (more, refl), grew)

-- the beginning of bytes is one of more bytes
pub within_longer : (a b : Told) (xs more : List ℕ) → GrewWithin a xs b → GrewWithin a (xs ++ more) b
within_longer a b xs more within =
    (within.0, (within.1.0 ++ more, ap (λ (l : List ℕ). l ++ more) within.1.1 ∙ append_assoc within.0 within.1.0 more), within.2)

-- behind what was taken whole stands a beginning of what follows
pub within_more : (a b c : Told) (xs ys more : List ℕ) → Grew a xs b → GrewWithin b ys c → GrewWithin a (xs ++ (ys ++ more)) c
within_more a b c xs ys more grew within =
    let front = within.0 in
    (xs ++ front, (within.1.0 ++ more, ap (λ (l : List ℕ). xs ++ (l ++ more)) within.1.1 ∙ ap (λ (l : List ℕ). xs ++ l) (append_assoc front within.1.0 more) ∙ sym (append_assoc xs front (within.1.0 ++ more))), grew_more a b c xs front grew within.2)

pub within_none : (a : Told) (more : List ℕ) → GrewWithin a more a
within_none a more = ([], (more, refl), grew_none a)

pub grew_whole : (a b : Told) (xs : List ℕ) → Grew a xs b → GrewWithin a xs b
grew_whole a b xs grew = (xs, ([], sym (append-nil xs)), grew)
