-- Ways to build phrases: a phrase of values A says which tokens stand for which value.
use Rattle.std.specs.Prelude.{◌≡◌, List, [], ◌∷◌, ◌++◌, Option, Some, None}
use Rattle.sp_lex.specs.declared.token.Token.{Token}

-- one token, which is read as a value
pub record One {A : Type 0} (f : Token → Option A) (tokens : List Token) (a : A) : Type 0 where
  pub token : Token
  pub alone : tokens ≡ token ∷ []
  pub is : f token ≡ Some a

-- one phrase, and then another
pub record Both {A B : Type 0} (L : List Token → A → Type 0) (M : List Token → B → Type 0) (tokens : List Token) (p : A × B) : Type 0 where
  pub front : List Token
  pub back : List Token
  pub cut : tokens ≡ front ++ back
  pub left : L front p.0
  pub right : M back p.1

-- one phrase or another
pub data Either {A : Type 0} (L M : List Token → A → Type 0) (tokens : List Token) (a : A) : Type 0 where
  left : L tokens a → Either L M tokens a
  right : M tokens a → Either L M tokens a

-- a phrase, whose value is made into another, for which its tokens count too
pub record Built {A B : Type 0} (g : List Token → A → B) (L : List Token → A → Type 0) (tokens : List Token) (b : B) : Type 0 where
  pub of : A
  pub is : b ≡ g tokens of
  pub phrase : L tokens of

-- a phrase or nothing
abbrev pub Optional : {A : Type 0} → (List Token → A → Type 0) → List Token → Option A → Type 0
Optional L tokens None = tokens ≡ []
Optional L tokens (Some a) = L tokens a

-- what goes on from the tokens so far and their value: any number of steps, each of which makes a value of the tokens so far, the value so far and its own
pub data Steps {A B : Type 0} (step : List Token → B → Type 0) (join : List Token → A → B → A) : List Token → A → List Token → A → Type 0 where
  ends : {front : List Token} {a : A} → Steps step join front a [] a
  steps : {front : List Token} {a : A} (back rest : List Token) (b : B) (c : A) → step back b → Steps step join (front ++ back) (join (front ++ back) a b) rest c → Steps step join front a (back ++ rest) c

-- a phrase, and then any number of steps
pub record Repeat {A B : Type 0} (start : List Token → A → Type 0) (step : List Token → B → Type 0) (join : List Token → A → B → A) (tokens : List Token) (c : A) : Type 0 where
  pub front : List Token
  pub rest : List Token
  pub first : A
  pub cut : tokens ≡ front ++ rest
  pub begins : start front first
  pub goes_on : Steps step join front first rest c
