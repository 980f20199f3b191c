-- What tokens answer that are read as items to their end.
use Rattle.std.proofs.Common.{◌≡◌, ◌≢◌, ◌++◌, ℕ, List, [], ◌∷◌, length, Result, Ok, Err, Bor, IfOk, IfErr, MatchResult, ◌⊎◌, inl, inr, refl, sym, ◌∙◌, ap, subst, append_assoc, append-nil, length-append, arith}
use Rattle.std.specs.Global.{Vec}
use Rattle.sp_lex.specs.declared.token.Token.{Token}
use Rattle.sp_parse.specs.declared.stop.Stop.{Stop}
use Rattle.sp_parse.specs.declared.stop.Stop.TheVariants as stop
use Rattle.sp_parse.specs.Reads.{Found, Fault, wrong, deep, Within, Opens, Stuck, Stops, Answers, Ends}
use Rattle.sp_parse.proofs.Reading as r
use Rattle.sp_returns.specs.declared.item.Return.{Return}
use Rattle.sp_returns.specs.Follow.{after_items}
use Rattle.sp_returns.specs.Grammar.{DerivesReturns}
use Rattle.sp_returns.specs.Parses.{NotWith, NeedsMore, IsUnexpected, Halts}

-- ---- what tokens answer

at_end : (l : List Token) → l ≡ l ++ []
at_end l = sym (append-nil l)

with_next : (front : List Token) (t : Token) (more : List Token) → front ++ t ∷ more ≡ ((front ++ t ∷ []) ++ more) ++ []
with_next front t more = sym (append_assoc front (t ∷ []) more) ∙ at_end ((front ++ t ∷ []) ++ more)

stuck_none : (f : Fault) (n : ℕ) (s rest : List Token) → (x : Stuck DerivesReturns after_items 64 s f rest) → Within f 64 n → NotWith n x.front rest
stuck_none f n s [] x w = λ q_ h. x.none n [] x.front [] q_ w h refl refl
stuck_none f n s (t ∷ rest) x w = λ b. x.none n b.0 ((x.front ++ t ∷ []) ++ b.0) [] b.1 w b.2 refl (with_next x.front t b.0)

needs : (front rest : List Token) → Opens deep (DerivesReturns 65) front rest → NeedsMore front rest
needs front [] o = absurd cc
needs front (t ∷ rest) o = (65, (o.0, o.1, subst (λ l. DerivesReturns 65 l o.1) (sym (append_assoc front (t ∷ []) o.0)) o.3))

longer : (front : List Token) (t : Token) (z : List Token) → (front ++ t ∷ []) ++ z ≡ front → ⊥
longer front t z e = let h : length ((front ++ t ∷ []) ++ z) ≡ length front = ap length e in omega (arith, length-append (front ++ t ∷ []) z, length-append front (t ∷ []))

no_more : (n : ℕ) (s rest : List Token) (q_ : List Return) → (x : Found DerivesReturns after_items 64 s q_ rest) → length rest ≢ 0 → NotWith n x.front rest
no_more n s [] q_ x h = absurd (h refl)
no_more n s (t ∷ rest) q_ x h = λ b. longer x.front t b.0 (x.only n b.0 ((x.front ++ t ∷ []) ++ b.0) [] b.1 b.2 refl (with_next x.front t b.0)).0

-- what halts is no list of items
no_items : (f : Fault) (s rest : List Token) → (x : Stuck DerivesReturns after_items 64 s f rest) → Within f 64 64 → (p : List Return) → DerivesReturns 64 s p → ⊥
no_items f s rest x w p d =
    let i = r.look_self rest in
    x.none 64 i.0 s [] p w d refl (ap (λ l. x.front ++ l) i.1 ∙ sym x.cut ∙ at_end s)

pub halts : (s : List Token) (e : Stop) → Stops DerivesReturns after_items 64 s e → Halts s e
halts s stop.Memory h = tt
halts s (stop.Unexpected count) h = (h.0, h.1, record { front = h.2.front; cut = h.2.cut; begins = (h.2.more, h.2.value, h.2.begins); none = λ n. stuck_none wrong n s h.0 h.2 tt })
halts s (stop.TooDeep count) h = (h.0, h.1, record { front = h.2.front; cut = h.2.cut; begins = (h.2.more, h.2.value, h.2.begins); none = stuck_none deep 64 s h.0 h.2 refl; more = needs h.2.front h.0 h.2.opens })

-- Tokens behind items are unexpected.
pub halts_behind : (s rest : List Token) (q_ : List Return) → Found DerivesReturns after_items 64 s q_ rest → length rest ≢ 0 → IsUnexpected s rest
halts_behind s rest q_ x h = record { front = x.front; cut = x.cut; begins = ([], q_, subst (λ l. DerivesReturns 64 l q_) (at_end x.front) (x.derives 64 (omega arith))); none = λ n. no_more n s rest q_ x h }

pub spells : (s rest : List Token) (q_ : List Return) → Found DerivesReturns after_items 64 s q_ rest → length rest ≡ 0 → DerivesReturns 64 s q_
spells s [] q_ x h = subst (λ l. DerivesReturns 64 l q_) (sym (x.cut ∙ append-nil x.front)) (x.derives 64 (omega arith))
spells s (t ∷ rest) q_ x h = absurd cc

pub only_items : (s rest : List Token) (q_ : List Return) → Found DerivesReturns after_items 64 s q_ rest → length rest ≡ 0 → (n : ℕ) (p : List Return) → DerivesReturns n s p → p ≡ q_
only_items s [] q_ x h n p d = (x.only n [] s [] p d refl (sym x.cut ∙ at_end s)).1
only_items s (t ∷ rest) q_ x h n p d = absurd cc

halted_all : (s : List Token) (e : Stop) → Stops DerivesReturns after_items 64 s e → (p : List Return) → DerivesReturns 64 s p → e ≡ stop.Memory
halted_all s stop.Memory h p d = refl
halted_all s (stop.Unexpected count) h p d = absurd (no_items wrong s h.0 h.2 tt p d)
halted_all s (stop.TooDeep count) h p d = absurd (no_items deep s h.0 h.2 refl p d)

pub rest_is_none : (s rest : List Token) (q_ : List Return) → Found DerivesReturns after_items 64 s q_ rest → length rest ≢ 0 → (p : List Return) → DerivesReturns 64 s p → ⊥
rest_is_none s rest q_ x h p d =
    let i = r.look_self rest in
    let j = x.only 64 i.0 s [] p d refl (ap (λ l. x.front ++ l) i.1 ∙ sym x.cut ∙ at_end s) in
    let k_ : length s ≡ length x.front = ap length j.0 in
    h (omega (arith, ap length x.cut, length-append x.front rest))

abbrev pub Read : Type 0
Read = Result (Vec Return × Bor (List Token)) Stop

-- what was read, and the rest
abbrev pub seen : Vec Return × Bor (List Token) → List Return × List Token
seen p = (p.0.items, p.1.now)

module _ (s : List Token) (read : Read) (a : Answers DerivesReturns after_items 64 s seen read) where
  read_all : (q_ : Vec Return) (rest : Bor (List Token)) → read ≡ Ok (q_, rest) → Found DerivesReturns after_items 64 s q_.items rest.now
  read_all q_ rest e = subst (λ (x : Read). Answers DerivesReturns after_items 64 s seen x) e a

  read_stops : (x : Stop) → read ≡ Err x → Stops DerivesReturns after_items 64 s x
  read_stops x e = subst (λ (y : Read). Answers DerivesReturns after_items 64 s seen y) e a

  -- why nothing was read, where want of memory is told apart
  passed : (x : Stop) → (P : Stop → Type 0) → P stop.Memory → ((y : Stop) → Stops DerivesReturns after_items 64 s y → P y) → (x ≡ stop.Memory) ⊎ (read ≡ Err x) → P x
  passed x P memory of h = elim h as (λ _. P x) [
    | inl g ↦ subst P (sym g) memory
    | inr g ↦ of x (read_stops x g)
  ]

  pub ends_found : (y : Result (Vec Return) Stop) → Ends read y → IfOk y (λ returns. DerivesReturns 64 s returns.items)
  ends_found (Ok q_) h = spells s h.0.now q_.items (read_all q_ h.0 h.1) h.2
  ends_found (Err x) h = tt

  pub ends_all : (y : Result (Vec Return) Stop) → Ends read y → (returns : List Return) → DerivesReturns 64 s returns → MatchResult y (λ answer. returns ≡ answer.items) (λ e. e ≡ stop.Memory)
  ends_all (Ok q_) h returns d = only_items s h.0.now q_.items (read_all q_ h.0 h.1) h.2 64 returns d
  ends_all (Err x) h returns d = elim h as (λ _. x ≡ stop.Memory) [
    | inl g ↦ passed x (λ y. y ≡ stop.Memory) refl (λ y i. halted_all s y i returns d) g
    | inr g ↦ absurd (rest_is_none s g.1.now g.0.items (read_all g.0 g.1 g.2) g.3 returns d)
  ]

  pub ends_halts : (y : Result (Vec Return) Stop) → Ends read y → IfErr y (λ x. Halts s x)
  ends_halts (Ok q_) h = tt
  ends_halts (Err x) h = elim h as (λ _. Halts s x) [
    | inl g ↦ passed x (λ y. Halts s y) tt (λ y i. halts s y i) g
    | inr g ↦ subst (λ y. Halts s y) (sym g.4) (g.1.now, refl, halts_behind s g.1.now g.0.items (read_all g.0 g.1 g.2) g.3)
  ]
