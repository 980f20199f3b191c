-- A text halts at one place only, and for one reason.
use Rattle.std.proofs.Common.{◌≡◌, ◌≢◌, ◌⊎◌, ◌+◌, ◌≤◌, ℕ, List, [], ◌∷◌, ◌++◌, length, refl, sym, ◌∙◌, ap, subst, inl, append_assoc, append-nil, length-append, arith}
use Rattle.sp_lex.specs.declared.token.Token.{Token}
use Rattle.sp_lex.specs.declared.token.LexFault.{LexFault}
use Rattle.sp_lex.specs.declared.token.LexFault.TheVariants as l
use Rattle.sp_lex.specs.Spelling.{Tokens}
use Rattle.sp_lex.specs.Spelling as s
use Rattle.sp_parse.specs.declared.stop.Stop.TheVariants as stop
use Rattle.sp_parse.specs.declared.fault.ParseFault.{ParseFault}
use Rattle.sp_parse.specs.declared.fault.ParseFault.TheVariants as f
use Rattle.sp_parse.specs.Parses.{place}
use Rattle.sp_returns.specs.declared.item.Return.{Return}
use Rattle.sp_returns.specs.Grammar.{DerivesReturns, IsReturnList}
use Rattle.sp_returns.specs.Parses.{BeginsReturns, NotWith, NeedsMore, IsUnexpected, IsTooDeep, Halts, Refuses}

-- ---- tokens

-- what is common to both reasons
pub record Halt (tokens rest : List Token) : Type 0 where
  pub front : List Token
  pub cut : tokens ≡ front ++ rest
  pub begins : BeginsReturns 64 front
  pub none : NotWith 64 front rest

abbrev pub unexpected_halt : {tokens rest : List Token} → IsUnexpected tokens rest → Halt tokens rest
unexpected_halt x = record { front = x.front; cut = x.cut; begins = x.begins; none = x.none 64 }

abbrev pub deep_halt : {tokens rest : List Token} → IsTooDeep tokens rest → Halt tokens rest
deep_halt x = record { front = x.front; cut = x.cut; begins = x.begins; none = x.none }

-- fewer tokens begin a returns too
begins_less : (levels : ℕ) (front : List Token) (t : Token) (more : List Token) → BeginsReturns levels (front ++ t ∷ more) → BeginsReturns levels (front ++ t ∷ [])
begins_less levels front t more b = (more ++ b.0, b.1, subst (λ l. DerivesReturns levels l b.1) (append_assoc front (t ∷ more) b.0 ∙ sym (append_assoc front (t ∷ []) (more ++ b.0))) b.2)

shifted : (p : List Token) (t : Token) (z : List Token) → p ++ t ∷ z ≡ (p ++ t ∷ []) ++ z
shifted p t z = sym (append_assoc p (t ∷ []) z)

-- what begins a returns is no longer than a front that begins none with its next token
no_longer : (p f r g q : List Token) → f ++ r ≡ g ++ q → NotWith 64 (p ++ f) r → BeginsReturns 64 (p ++ g) → length g ≤ length f
no_longer p f r [] q e n b = omega arith
no_longer p [] [] (u ∷ g) q e n b = absurd cc
no_longer p [] (t ∷ r) (u ∷ g) q e n b =
    let same : u ≡ t = cc in
    absurd (n (subst (λ l. BeginsReturns 64 (l ++ t ∷ [])) (sym (append-nil p)) (subst (λ x. BeginsReturns 64 (p ++ x ∷ [])) same (begins_less 64 p u g b))))
no_longer p (t ∷ f) r (u ∷ g) q e n b =
    let same : u ≡ t = cc in
    let rest : f ++ r ≡ g ++ q = cc in
    let h : length g ≤ length f = no_longer (p ++ t ∷ []) f r g q rest (subst (λ l. NotWith 64 l r) (shifted p t f) n) (subst (λ l. BeginsReturns 64 l) (shifted p t g) (subst (λ x. BeginsReturns 64 (p ++ x ∷ g)) same b)) in
    omega arith

same_cut : (f r g q : List Token) → f ++ r ≡ g ++ q → length f ≡ length g → (f ≡ g) × (r ≡ q)
same_cut [] r [] q e h = (refl, e)
same_cut [] r (u ∷ g) q e h = absurd (omega arith)
same_cut (t ∷ f) r [] q e h = absurd (omega arith)
same_cut (t ∷ f) r (u ∷ g) q e h =
    let i = same_cut f r g q (cc) (omega arith) in
    (let j : f ≡ g = i.0 in cc, i.1)

same_halt : (tokens r q : List Token) → (x : Halt tokens r) → (y : Halt tokens q) → (x.front ≡ y.front) × (r ≡ q)
same_halt tokens r q x y =
    let e : x.front ++ r ≡ y.front ++ q = sym x.cut ∙ y.cut in
    let i : length y.front ≤ length x.front = no_longer [] x.front r y.front q e x.none y.begins in
    let j : length x.front ≤ length y.front = no_longer [] y.front q x.front r (sym e) y.none x.begins in
    same_cut x.front r y.front q e (omega arith)

pub same_rest : (tokens r q : List Token) → Halt tokens r → Halt tokens q → r ≡ q
same_rest tokens r q x y = (same_halt tokens r q x y).1

not_both_at : (front rest : List Token) → ((levels : ℕ) → NotWith levels front rest) → NeedsMore front rest → ⊥
not_both_at front [] n m = m
not_both_at front (t ∷ rest) n m = n m.0 m.1

-- no token is both unexpected and too deep
pub not_both : (tokens r q : List Token) → IsUnexpected tokens r → IsTooDeep tokens q → ⊥
not_both tokens r q x y =
    let i = same_halt tokens q r (deep_halt y) (unexpected_halt x) in
    not_both_at x.front r x.none (subst (λ l. NeedsMore l r) i.0 (subst (λ l. NeedsMore y.front l) i.1 y.more))

all_of : (front rest : List Token) → length front ≡ length front + length rest → rest ≡ []
all_of front [] h = refl
all_of front (t ∷ rest) h = absurd (omega arith)

no_items_at : (tokens front rest : List Token) (returns : List Return) → tokens ≡ front ++ rest → rest ≡ [] → NotWith 64 front rest → DerivesReturns 64 tokens returns → ⊥
no_items_at tokens front [] returns c e n d = n returns (subst (λ l. DerivesReturns 64 l returns) (c ∙ append-nil front) d)
no_items_at tokens front (t ∷ rest) returns c e n d = absurd cc

-- what halts is no list of items
pub no_returns : (tokens rest : List Token) (returns : List Return) → Halt tokens rest → DerivesReturns 64 tokens returns → ⊥
no_returns tokens rest returns x d =
    let i : length tokens ≤ length x.front = no_longer [] x.front rest tokens [] (sym x.cut ∙ sym (append-nil tokens)) x.none ([], returns, subst (λ l. DerivesReturns 64 l returns) (sym (append-nil tokens)) d) in
    let j : length tokens ≡ length x.front + length rest = ap length x.cut ∙ length-append x.front rest in
    let k : length rest ≡ 0 = omega arith in
    no_items_at tokens x.front rest returns x.cut (all_of x.front rest (omega arith)) x.none d

-- ---- texts

-- the tokens of a text are these only, whatever way they were found
pub derives_too : (text : List ℕ) (items tokens : List Token) → tokens ≡ items → ((ts : List Token) → Tokens 0 text ts → ts ≡ items) → (returns : List Return) → IsReturnList text returns → DerivesReturns 64 tokens returns
derives_too text items tokens same only returns q = subst (λ t. DerivesReturns 64 t returns) (only q.tokens q.of_text ∙ sym same) q.derives

module _ (text : List ℕ) (items tokens : List Token) (same : tokens ≡ items) (only : (ts : List Token) → Tokens 0 text ts → ts ≡ items) (lexed : (fault : LexFault) → s.Refuses text fault → fault ≢ l.Memory → ⊥) where
  halts_too : (ts rest : List Token) → Tokens 0 text ts → Halt ts rest → Halt tokens rest
  halts_too ts rest t h = subst (λ x. Halt x rest) (only ts t ∙ sym same) h

  -- a returns has no fault
  pub faultless : (returns : List Return) → DerivesReturns 64 tokens returns → (fault : ParseFault) → Refuses text fault → fault ≢ f.Memory → ⊥
  faultless returns d f.Memory h n = n refl
  faultless returns d (f.Lex e) h n = lexed e h.0 h.1
  faultless returns d (f.Unexpected at) h n = no_returns tokens h.1 returns (halts_too h.0 h.1 h.2 (unexpected_halt h.3)) d
  faultless returns d (f.TooDeep at) h n = no_returns tokens h.1 returns (halts_too h.0 h.1 h.2 (deep_halt h.3)) d

  module _ (left at : ℕ) (at_is : (front rest : List Token) → tokens ≡ front ++ rest → length rest ≡ left → at ≡ place text rest) where
    same_place : (rest other : List Token) (h : Halt tokens rest) → length rest ≡ left → Halt tokens other → at ≡ place text other
    same_place rest other h e i = at_is h.front rest h.cut e ∙ ap (place text) (same_rest tokens rest other h i)

    pub unexpected_only : Halts tokens (stop.Unexpected left) → (fault : ParseFault) → Refuses text fault → fault ≢ f.Memory → (f.Unexpected at ≡ fault) ⊎ (f.Unexpected at ≡ f.Memory)
    unexpected_only x f.Memory h n = absurd (n refl)
    unexpected_only x (f.Lex e) h n = absurd (lexed e h.0 h.1)
    unexpected_only x (f.Unexpected there) h n = inl (ap f.Unexpected (same_place x.0 h.1 (unexpected_halt x.2) x.1 (halts_too h.0 h.1 h.2 (unexpected_halt h.3)) ∙ sym h.4))
    unexpected_only x (f.TooDeep there) h n = absurd (not_both tokens x.0 h.1 x.2 (subst (λ t. IsTooDeep t h.1) (only h.0 h.2 ∙ sym same) h.3))

    pub deep_only : Halts tokens (stop.TooDeep left) → (fault : ParseFault) → Refuses text fault → fault ≢ f.Memory → (f.TooDeep at ≡ fault) ⊎ (f.TooDeep at ≡ f.Memory)
    deep_only x f.Memory h n = absurd (n refl)
    deep_only x (f.Lex e) h n = absurd (lexed e h.0 h.1)
    deep_only x (f.Unexpected there) h n = absurd (not_both tokens h.1 x.0 (subst (λ t. IsUnexpected t h.1) (only h.0 h.2 ∙ sym same) h.3) x.2)
    deep_only x (f.TooDeep there) h n = inl (ap f.TooDeep (same_place x.0 h.1 (deep_halt x.2) x.1 (halts_too h.0 h.1 h.2 (deep_halt h.3)) ∙ sym h.4))
