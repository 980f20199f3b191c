-- The span of the tokens at the front.
use Rattle.std.proofs.Common.{◌≡◌, ◌++◌, ◌-◌, ◌<◌, List, [], ◌∷◌, length, get_or, refl, ◌∙◌, ap, arith, length-append}
use Rattle.sp_lex.specs.declared.token.Token.{Token}
use Rattle.sp_lex.specs.declared.token.Span.{Span}
use Rattle.sp_query.specs.Grammar.{span, last_to}

last_at : (t : Token) (front rest : List Token) (d : Token) → (get_or (t ∷ (front ++ rest)) (length front) d).span.to ≡ last_to (t ∷ front)
last_at t [] rest d = refl
last_at t (u ∷ front) rest d = last_at u front rest d

pub spans : (front rest s : List Token) (d e : Token) → s ≡ front ++ rest → length rest < length s
    → ◌≡◌ {A = Span} (record { from = (get_or s 0 d).span.from; to = (get_or s (length s - length rest - 1) e).span.to }) (span front)
spans [] rest s d e c h = absurd (let k : length s ≡ length rest = ap length c in omega arith)
spans (t ∷ front) rest s d e c h =
    let k : length s - length rest - 1 ≡ length front = omega (arith, ap length c, length-append front rest) in
    let i : (get_or s 0 d).span.from ≡ t.span.from = ap (λ l. (get_or l 0 d).span.from) c in
    let j : (get_or s (length s - length rest - 1) e).span.to ≡ last_to (t ∷ front) = (λ x. (get_or (c x) (k x) e).span.to) ∙ last_at t front rest e in
    λ x. record { from = i x; to = j x }
