use Rattle.std.proofs.Common.{◌≡◌, ◌≢◌, List, ℕ, ◌++◌, Option, Some, None, MatchOption, sym, ◌∙◌, ap}
use Rattle.std.specs.Prelude.{codes}
use Rattle.std.specs.Borrow.{Bor}
use Rattle.std.proofs.lemmas.List.{append_cancel_left}
use Rattle.sp_emit.proofs.bindings.behind_name.Goals as goal

behind : (text name first second : List ℕ) (o : Option (Bor (List ℕ))) → text ≡ codes " " ++ first → first ≡ name ++ second
    → MatchOption o ((rest : List ℕ) → second ≢ codes "=" ++ rest) (λ rest. second ≡ codes "=" ++ rest.now)
    → MatchOption o ((rest : List ℕ) → text ≢ codes " " ++ (name ++ (codes "=" ++ rest))) (λ rest. text ≡ codes " " ++ (name ++ (codes "=" ++ rest.now)))
behind text name first second None e f none = λ rest g.
    none rest (append_cancel_left name second (codes "=" ++ rest) (sym f ∙ append_cancel_left (codes " ") first (name ++ (codes "=" ++ rest)) (sym e ∙ g)))
behind text name first second (Some rest) e f some = e ∙ ap (λ (l : List ℕ). codes " " ++ l) (f ∙ ap (λ (l : List ℕ). name ++ l) some)

pub returns : goal.returns
returns c = behind _ _ _ _ _ c.in_ok-behind.ensures c.in_ok-behind-2.ensures c.behind-3.ensures
