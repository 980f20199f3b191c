-- Long sequences: a clause, and then those behind it.
use Rattle.std.proofs.Common.{◌≡◌, ℕ, Bool, false, List, ◌++◌, Option, Some, None, true, ap, ◌∙◌}
use Rattle.sp_lex.specs.declared.token.Token.{Token}
use Rattle.sp_parse.specs.declared.stop.Stop.{Stop}
use Rattle.sp_query.specs.Phrase.{Both, Optional}
use Rattle.sp_parse.specs.Reads.{among, heads, never, Found, Stops}
use Rattle.sp_parse.proofs.Reading as r
use Rattle.sp_parse.proofs.Nested.{Some_of}
use Rattle.sp_parse.proofs.Reading.{Begins}

-- C may go on with the clause, and what is behind it doesn't begin so.
module _ {A B : Type 0} (L : ℕ → List Token → A → Type 0) (M : ℕ → List Token → B → Type 0) (C : Token → Bool)
    (apart : (n : ℕ) (y v : List Token) (b : B) → M n y b → heads never v ≡ false → heads C (y ++ v) ≡ false) (room : ℕ) (s : List Token) where
  -- the clause isn't there
  pub first_stops : Some_of M → (x : Stop) → Stops L C room s x → Stops (λ n. Both (L n) (M n)) never room s x
  first_stops some x h = r.stops_as L (λ n. Both (L n) (M n)) C never room room s s x (λ f rest y. r.both_stuck_left L M C never room apart s rest f some y) h

  -- what is behind it isn't there
  pub next_stops : (m : List Token) (a : A) (x : Stop) → Found L C room s a m → Stops M never room m x → Stops (λ n. Both (L n) (M n)) never room s x
  next_stops m a x i h = r.stops_as M (λ n. Both (L n) (M n)) never never room room m s x (λ f rest y. r.both_stuck_right L M C never room apart s m rest a f i y) h

  pub both_found : (m rest : List Token) (a : A) (b : B) → Found L C room s a m → Found M never room m b rest → Found (λ n. Both (L n) (M n)) never room s (a, b) rest
  both_found m rest a b i h = r.both_found L M C never room apart s m rest a b i h

-- ---- a phrase or nothing, and then another

optional_heads : {A B : Type 0} (F G : Token → Bool) (L : ℕ → List Token → A → Type 0) (M : ℕ → List Token → B → Type 0) → Begins F L → Begins G M
    → (n : ℕ) (o : Option A) (front back : List Token) (b : B) → Optional (L n) front o → M n back b → heads (among F G) (front ++ back) ≡ true
optional_heads F G L M x y n None front back b d e = ap (λ l. heads (among F G) (l ++ back)) d ∙ r.among_second F G back (y n back b e)
optional_heads F G L M x y n (Some a) front back b d e = r.heads_append (among F G) front back (r.among_first F G front (x n front a d))

pub optional_begins : {A B : Type 0} (F G : Token → Bool) (L : ℕ → List Token → A → Type 0) (M : ℕ → List Token → B → Type 0) → Begins F L → Begins G M
    → Begins (among F G) (λ n. Both (Optional (L n)) (M n))
optional_begins F G L M x y n u p d = ap (heads (among F G)) d.cut ∙ optional_heads F G L M x y n p.0 d.front d.back p.1 d.left d.right
