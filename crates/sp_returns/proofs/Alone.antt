-- A text is items or has a fault, and not two of these.
use Rattle.std.proofs.Common.{◌≡◌, ◌≢◌, ℕ, List, refl, sym, ◌∙◌, ap, subst}
use Rattle.sp_lex.specs.declared.token.LexFault.{LexFault}
use Rattle.sp_lex.specs.declared.token.LexFault.TheVariants as l
use Rattle.sp_lex.specs.declared.token.Token.{Token}
use Rattle.sp_lex.specs.Spelling.{Tokens}
use Rattle.sp_lex.specs.Spelling as s
use Rattle.sp_lex.proofs.Alone as lexed
use Rattle.sp_parse.specs.declared.fault.ParseFault.{ParseFault}
use Rattle.sp_parse.specs.declared.fault.ParseFault.TheVariants as f
use Rattle.sp_parse.specs.Parses.{place}
use Rattle.sp_returns.specs.declared.item.Return.{Return}
use Rattle.sp_returns.specs.Grammar.{IsReturnList}
use Rattle.sp_returns.specs.Parses.{IsUnexpected, IsTooDeep, Refuses}
use Rattle.sp_returns.proofs.Places as p
use Rattle.sp_returns.proofs.Places.{Halt, unexpected_halt, deep_halt}

-- the tokens of a text are these only
same_tokens : (text : List ℕ) (ts us : List Token) → Tokens 0 text ts → Tokens 0 text us → ts ≡ us
same_tokens = lexed.one_tokens 0

module _ (text : List ℕ) (ts : List Token) (t : Tokens 0 text ts) where
  no_tokens_fault : (e : LexFault) → s.Refuses text e → e ≢ l.Memory → ⊥
  no_tokens_fault e h some = lexed.not_both text ts e some t h

  only : (us : List Token) → Tokens 0 text us → us ≡ ts
  only us u = same_tokens text us ts u t

  same_place : (us rest other : List Token) (at there : ℕ) → Tokens 0 text us → Halt ts rest → at ≡ place text rest → Halt us other → there ≡ place text other → at ≡ there
  same_place us rest other at there u h e i d = e ∙ ap (place text) (p.same_rest ts rest other h (subst (λ k. Halt k other) (only us u) i)) ∙ sym d

  unexpected_is : (rest : List Token) (at : ℕ) → IsUnexpected ts rest → at ≡ place text rest → (fault : ParseFault) → fault ≢ f.Memory → Refuses text fault → f.Unexpected at ≡ fault
  unexpected_is rest at x e f.Memory some h = absurd (some refl)
  unexpected_is rest at x e (f.Lex d) some h = absurd (no_tokens_fault d h.0 h.1)
  unexpected_is rest at x e (f.Unexpected there) some h = ap f.Unexpected (same_place h.0 rest h.1 at there h.2 (unexpected_halt x) e (unexpected_halt h.3) h.4)
  unexpected_is rest at x e (f.TooDeep there) some h = absurd (p.not_both ts rest h.1 x (subst (λ k. IsTooDeep k h.1) (only h.0 h.2) h.3))

  deep_is : (rest : List Token) (at : ℕ) → IsTooDeep ts rest → at ≡ place text rest → (fault : ParseFault) → fault ≢ f.Memory → Refuses text fault → f.TooDeep at ≡ fault
  deep_is rest at x e f.Memory some h = absurd (some refl)
  deep_is rest at x e (f.Lex d) some h = absurd (no_tokens_fault d h.0 h.1)
  deep_is rest at x e (f.Unexpected there) some h = absurd (p.not_both ts h.1 rest (subst (λ k. IsUnexpected k h.1) (only h.0 h.2) h.3) x)
  deep_is rest at x e (f.TooDeep there) some h = ap f.TooDeep (same_place h.0 rest h.1 at there h.2 (deep_halt x) e (deep_halt h.3) h.4)

lex_is : (text : List ℕ) (d : LexFault) → s.Refuses text d → d ≢ l.Memory → (fault : ParseFault) → fault ≢ f.Memory → Refuses text fault → f.Lex d ≡ fault
lex_is text d x n f.Memory some h = absurd (some refl)
lex_is text d x n (f.Lex e) some h = ap f.Lex (lexed.same_fault text d e n h.1 x h.0)
lex_is text d x n (f.Unexpected there) some h = absurd (lexed.not_both text h.0 d n h.2 x)
lex_is text d x n (f.TooDeep there) some h = absurd (lexed.not_both text h.0 d n h.2 x)

pub same_fault : (text : List ℕ) (one other : ParseFault) → one ≢ f.Memory → other ≢ f.Memory → Refuses text one → Refuses text other → one ≡ other
same_fault text f.Memory other some same x y = absurd (some refl)
same_fault text (f.Lex d) other some same x y = lex_is text d x.0 x.1 other same y
same_fault text (f.Unexpected at) other some same x y = unexpected_is text x.0 x.2 x.1 at x.3 x.4 other same y
same_fault text (f.TooDeep at) other some same x y = deep_is text x.0 x.2 x.1 at x.3 x.4 other same y

pub not_both : (text : List ℕ) (returns : List Return) (fault : ParseFault) → fault ≢ f.Memory → IsReturnList text returns → Refuses text fault → ⊥
not_both text returns fault some q h =
    p.faultless text q.tokens q.tokens refl (λ ts t. same_tokens text ts q.tokens t q.of_text) (no_tokens_fault text q.tokens q.of_text) returns q.derives fault h some
