-- Tokens that are phrases, with the values that they have; what is known of a phrase's parts makes the whole.
use Rattle.std.proofs.Common.{◌≡◌, ℕ, zero, suc, List, [], ◌∷◌, ◌++◌, take, drop, Option, Some, refl, sym, subst, append-nil}
use Rattle.std.proofs.lemmas.List.{take-append-drop}
use Rattle.sp_lex.specs.declared.token.Token.{Token}
use Rattle.sp_query.specs.declared.tree.Tree.{Tree}
use Rattle.sp_query.specs.Phrase.{One, Both, Either, left, right, Built, Steps, ends, steps, Repeat}
use Rattle.sp_query.specs.Grammar.{Operand, Factor, Sum, TestOf, Atom, Pred}

-- These tokens are such a phrase of a value.
pub record Gives {A : Type 0} (L : List Token → A → Type 0) (tokens : List Token) : Type 0 where
  pub value : A
  pub phrase : L tokens value

abbrev pub one : {A : Type 0} {f : Token → Option A} {t : Token} (a : A) → f t ≡ Some a → Gives (One f) (t ∷ [])
one {t = t} a is = record { value = a; phrase = record { token = t; alone = refl; is = is } }

-- the first of the tokens, so many, are one phrase, and the others another
abbrev pub both : {A B : Type 0} {L : List Token → A → Type 0} {M : List Token → B → Type 0} {tokens : List Token} (n : ℕ) → Gives L (take n tokens) → Gives M (drop n tokens) → Gives (Both L M) tokens
both {tokens = tokens} n x y = record {
  value = (x.value, y.value);
  phrase = record { front = take n tokens; back = drop n tokens; cut = sym (take-append-drop n tokens); left = x.phrase; right = y.phrase };
}

abbrev pub one_way : {A : Type 0} {L M : List Token → A → Type 0} {tokens : List Token} → Gives L tokens → Gives (Either L M) tokens
one_way x = record { value = x.value; phrase = left x.phrase }

abbrev pub other_way : {A : Type 0} {L M : List Token → A → Type 0} {tokens : List Token} → Gives M tokens → Gives (Either L M) tokens
other_way x = record { value = x.value; phrase = right x.phrase }

abbrev pub built : {A B : Type 0} {g : List Token → A → B} {L : List Token → A → Type 0} {tokens : List Token} → Gives L tokens → Gives (Built g L) tokens
built {g = g} {tokens = tokens} x = record { value = g tokens x.value; phrase = record { of = x.value; is = refl; phrase = x.phrase } }

-- The tokens go on with what stands in front of them.
pub record GoesOn {A B : Type 0} (step : List Token → B → Type 0) (join : List Token → A → B → A) (front : List Token) (a : A) (rest : List Token) : Type 0 where
  pub value : A
  pub goes_on : Steps step join front a rest value

abbrev pub no_more : {A B : Type 0} {step : List Token → B → Type 0} {join : List Token → A → B → A} {front : List Token} {a : A} → GoesOn step join front a []
no_more {a = a} = record { value = a; goes_on = ends }

-- one step of so many tokens, and what goes on with it
abbrev pub more : {A B : Type 0} {step : List Token → B → Type 0} {join : List Token → A → B → A} {front : List Token} {a : A} {rest : List Token} (n : ℕ) (x : Gives step (take n rest))
    → GoesOn step join (front ++ take n rest) (join (front ++ take n rest) a x.value) (drop n rest) → GoesOn step join front a rest
more {step = step} {join = join} {front = front} {a = a} {rest = rest} n x y = record {
  value = y.value;
  goes_on = subst (λ (l : List Token). Steps step join front a l y.value) (take-append-drop n rest) (steps (take n rest) (drop n rest) x.value y.value x.phrase y.goes_on);
}

abbrev pub repeat : {A B : Type 0} {start : List Token → A → Type 0} {step : List Token → B → Type 0} {join : List Token → A → B → A} {tokens : List Token} (n : ℕ) (x : Gives start (take n tokens))
    → GoesOn step join (take n tokens) x.value (drop n tokens) → Gives (Repeat start step join) tokens
repeat {tokens = tokens} n x y = record {
  value = y.value;
  phrase = record { front = take n tokens; rest = drop n tokens; first = x.value; cut = sym (take-append-drop n tokens); begins = x.phrase; goes_on = y.goes_on };
}

-- ---- expressions and predicates

pub as_factor : (room : ℕ) (tokens : List Token) (t : Tree) → Operand tokens t → Factor room tokens t
unfolding Factor
as_factor zero tokens t operand = operand
as_factor (suc room) tokens t operand = left operand

pub as_atom : (room : ℕ) (tokens : List Token) (t : Tree) → TestOf (Sum room) tokens t → Atom room tokens t
unfolding Atom
as_atom zero tokens t test = test
as_atom (suc room) tokens t test = left test

-- a phrase with nothing behind it that goes on with it
abbrev pub alone : {A B : Type 0} {start : List Token → A → Type 0} {step : List Token → B → Type 0} {join : List Token → A → B → A} (tokens : List Token) (a : A) → start tokens a → Repeat start step join tokens a
alone tokens a begins = record { front = tokens; rest = []; first = a; cut = sym (append-nil tokens); begins = begins; goes_on = ends }

abbrev pub sum : {tokens : List Token} → Gives Operand tokens → Gives (Sum 64) tokens
sum {tokens = tokens} x = record { value = x.value; phrase = alone tokens x.value (alone tokens x.value (as_factor 64 tokens x.value x.phrase)) }

abbrev pub pred : {tokens : List Token} → Gives (TestOf (Sum 64)) tokens → Gives (Pred 64) tokens
pred {tokens = tokens} x = record { value = x.value; phrase = alone tokens x.value (alone tokens x.value (as_atom 64 tokens x.value x.phrase)) }
