use Rattle.std.proofs.Common.{◌≡◌, ℕ, ◌<◌, ◌==◌, List, [], ◌∷◌, Bool, true, false, length, Option, Some, None, refl, sym, subst, ◌∙◌, arith}
use Rattle.std.specs.Prelude.{if◌then◌else◌}
use Rattle.std.specs.List.{All, last_or}
use Rattle.std.proofs.lemmas.List.Elements.{All-head, All-tail}
use Rattle.sp_match.specs.inside.Kept.{name_under}
use Rattle.sp_match.proofs.run.Run.undo.Goals as goal

-- where there is a last pair, its name is small and there is one
last_named : (n : ℕ) (bs : List (ℕ × ℕ)) (p : ℕ × ℕ) → p.0 < 32 → All (λ pair. pair.0 < 32) bs → (o : Option ℕ) → name_under n (last_or (Some p) bs) ≡ o → (name : ℕ) → o ≡ Some name → name < 32
last_named n [] p small all o is name some = one (p.1 == n) is
  where
    one : (b : Bool) → (if b then Some p.0 else None) ≡ o → name < 32
    one true e = let same : p.0 ≡ name = cc in subst (λ m. m < 32) same small
    one false e = absurd (cc (e, some))
last_named n (q ∷ bs) p small all o is name some = last_named n bs q (All-head (λ pair. pair.0 < 32) q bs all) (All-tail (λ pair. pair.0 < 32) q bs all) o is name some

named : (n : ℕ) (bs : List (ℕ × ℕ)) → All (λ pair. pair.0 < 32) bs → (name : ℕ) → name_under n (last_or None bs) ≡ Some name → (name < 32) × (0 < length bs)
named n [] all name is = absurd (cc is)
named n (p ∷ bs) all name is = (last_named n bs p (All-head (λ pair. pair.0 < 32) p bs all) (All-tail (λ pair. pair.0 < 32) p bs all) (name_under n (last_or (Some p) bs)) refl name is, omega arith)

pub take_last-requires-clause-named : goal.take_last-requires-clause-named
take_last-requires-clause-named c = (named c.args.number c.args.self.now.bound.items c.requires.named c.in-Some.name (sym c.last_under.ensures ∙ c.in-Some.is)).0

pub take_last-requires-clause-some : goal.take_last-requires-clause-some
take_last-requires-clause-some c = let some = (named c.args.number c.args.self.now.bound.items c.requires.named c.in-Some.name (sym c.last_under.ensures ∙ c.in-Some.is)).1 in omega (arith, some, c.requires.same)
