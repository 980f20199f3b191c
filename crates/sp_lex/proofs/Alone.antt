-- A text has these tokens and no others, or this fault and no other.
use Rattle.std.proofs.Common.{◌≡◌, ◌≢◌, ℕ, List, [], ◌∷◌, inl, inr, refl, sym, ◌∙◌, ap}
use Rattle.sp_lex.specs.declared.token.LexFault.{LexFault}
use Rattle.sp_lex.specs.declared.token.LexFault.TheVariants as fault
use Rattle.sp_lex.specs.declared.token.Token.{Token}
use Rattle.sp_lex.specs.Spelling.{Refuses, Tokens}
use Rattle.sp_lex.proofs.Faults.{fault_no_tokens, one_fault}
use Rattle.sp_lex.proofs.Lexing.{split}

nothing_is_something : (t : Token) (ts : List Token) → [] ≡ t ∷ ts → ⊥
nothing_is_something t ts h = cc

pub one_tokens : (at : ℕ) (text : List ℕ) (ts us : List Token) → Tokens at text ts → Tokens at text us → ts ≡ us
one_tokens at text [] [] d e = refl
one_tokens at text (t ∷ ts) [] d e = let rest = split at text t d.0 d.1 [] e in absurd (nothing_is_something t rest.0 rest.1)
one_tokens at text ts (u ∷ us) d e =
    let rest = split at text u e.0 e.1 ts d in
    rest.1 ∙ ap (λ l. u ∷ l) (one_tokens u.span.to e.0 rest.0 us rest.2 e.2)

pub same_fault : (text : List ℕ) (one other : LexFault) → one ≢ fault.Memory → other ≢ fault.Memory → Refuses text one → Refuses text other → one ≡ other
same_fault text one other some same x y = elim (one_fault one other text some x y) [ inl is ↦ sym is | inr none ↦ absurd (same none) ]

pub not_both : (text : List ℕ) (tokens : List Token) (e : LexFault) → e ≢ fault.Memory → Tokens 0 text tokens → Refuses text e → ⊥
not_both text tokens e some t x = fault_no_tokens e text tokens some x t
