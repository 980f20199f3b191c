-- What reading a phrase from the front of tokens answers.
use Rattle.std.specs.Prelude.{◌≡◌, ◌≢◌, ℕ, suc, ◌≤◌, Bool, true, false, List, [], ◌∷◌, ◌++◌, ◌⊎◌, length, Option, Some, None, is_some, ◌||◌, Result, Ok, Err}
use Rattle.std.specs.Borrow.{Bor}
use Rattle.sp_lex.specs.declared.token.Token.{Token}
use Rattle.sp_query.specs.declared.tree.Tree.{Tree}
use Rattle.sp_query.specs.declared.tree.Node.{Node}
use Rattle.sp_query.specs.Grammar.{tree}
use Rattle.sp_parse.specs.declared.stop.Stop.{Stop}
use Rattle.sp_parse.specs.declared.stop.Stop.TheVariants as stop

-- whether the first of these tokens is one of a kind
abbrev pub heads : (Token → Bool) → List Token → Bool
heads C [] = false
heads C (t ∷ ts) = C t

-- no token
abbrev pub never : Token → Bool
never t = false

-- the tokens that are read as something
abbrev pub reads_as : {A : Type 0} → (Token → Option A) → Token → Bool
reads_as f t = is_some (f t)

-- these tokens and those
abbrev pub among : (Token → Bool) → (Token → Bool) → Token → Bool
among C D t = C t || D t

-- all that is known of tokens of which the first is known, or that there are none
abbrev pub look : List Token → List Token → List Token
look [] more = []
look (t ∷ ts) more = t ∷ more

-- The front is such a phrase. Of whatever begins with the front and the first token of the rest, only the front is such a phrase, unless a token that may go on with it comes next.
pub record Found {A : Type 0} (L : ℕ → List Token → A → Type 0) (C : Token → Bool) (room : ℕ) (tokens : List Token) (a : A) (rest : List Token) : Type 0 where
  pub front : List Token
  pub cut : tokens ≡ front ++ rest
  pub derives : (n : ℕ) → room ≤ n → L n front a
  pub only : (n : ℕ) (more u v : List Token) (b : A) → L n u b → heads C v ≡ false → front ++ look rest more ≡ u ++ v → (u ≡ front) × (b ≡ a)

pub data Fault : Type 0 where
  wrong : Fault
  deep : Fault

-- at which numbers of levels the token isn't taken
abbrev pub Within : Fault → ℕ → ℕ → Type 0
Within wrong room n = Unit {0}
Within deep room n = n ≡ room

-- a token that opens a level more than may be opened begins a phrase with one level more
abbrev pub Opens : {A : Type 0} → Fault → (List Token → A → Type 0) → List Token → List Token → Type 0
Opens wrong L front rest = Unit {0}
Opens {A} deep L front rest = (more : List Token) × (a : A) × (heads (λ _. true) rest ≡ true) × L (front ++ look rest more) a

-- The tokens before the rest begin such a phrase. With the first token of the rest they begin none, and hold none that ends.
pub record Stuck {A : Type 0} (L : ℕ → List Token → A → Type 0) (C : Token → Bool) (room : ℕ) (tokens : List Token) (fault : Fault) (rest : List Token) : Type 0 where
  pub front : List Token
  pub cut : tokens ≡ front ++ rest
  pub more : List Token
  pub value : A
  pub begins : L room (front ++ more) value
  pub opens : Opens fault (L (suc room)) front rest
  pub none : (n : ℕ) (more u v : List Token) (b : A) → Within fault room n → L n u b → heads C v ≡ false → front ++ look rest more ≡ u ++ v → ⊥

-- what the first of these tokens is read as
abbrev pub head_as : {A : Type 0} → (Token → Option A) → List Token → Option A
head_as f [] = None
head_as f (t ∷ ts) = f t

abbrev pub Stops : {A : Type 0} → (ℕ → List Token → A → Type 0) → (Token → Bool) → ℕ → List Token → Stop → Type 0
Stops L C room tokens stop.Memory = Unit {0}
Stops L C room tokens (stop.Unexpected left) = (rest : List Token) × (length rest ≡ left) × Stuck L C room tokens wrong rest
Stops L C room tokens (stop.TooDeep left) = (rest : List Token) × (length rest ≡ left) × Stuck L C room tokens deep rest

-- what a function answers that reads such a phrase at the front of the tokens
abbrev pub Answers : {Y A : Type 0} → (ℕ → List Token → A → Type 0) → (Token → Bool) → ℕ → List Token → (Y → A × List Token) → Result Y Stop → Type 0
Answers L C room tokens view (Ok y) = Found L C room tokens (view y).0 (view y).1
Answers L C room tokens view (Err e) = Stops L C room tokens e

-- what a function answers that reads one token
abbrev pub TakesNone : {A : Type 0} → (Token → Option A) → List Token → Stop → Type 0
TakesNone f tokens stop.Memory = Unit {0}
TakesNone f tokens (stop.Unexpected left) = (head_as f tokens ≡ None) × (left ≡ length tokens)
TakesNone f tokens (stop.TooDeep left) = ⊥

abbrev pub Takes : {Y A : Type 0} → (Token → Option A) → List Token → (Y → A × List Token) → Result Y Stop → Type 0
Takes f tokens view (Ok y) = (t : Token) × (tokens ≡ t ∷ (view y).1) × (f t ≡ Some (view y).0)
Takes f tokens view (Err e) = TakesNone f tokens e

-- this is why nothing was read, or want of memory
abbrev pub PassesOn : {Y : Type 0} → Result Y Stop → Stop → Type 0
PassesOn read x = (x ≡ stop.Memory) ⊎ (read ≡ Err x)

-- what a function answers that puts what was read behind a list
abbrev pub Adds : {A : Type 0} → List A → Result (A × Bor (List Token)) Stop → Result (List A × Bor (List Token)) Stop → Type 0
Adds {A} list read (Ok p) = (item : A) × (read ≡ Ok (item, p.1)) × (p.0 ≡ list ++ item ∷ [])
Adds list read (Err x) = PassesOn read x

-- what a function answers that reads a token behind what was read
abbrev pub Closes : {A : Type 0} → (Token → Option (Unit {0})) → Result (A × Bor (List Token)) Stop → Result (A × Bor (List Token)) Stop → Type 0
Closes f read (Ok p) = (before : Bor (List Token)) × (read ≡ Ok (p.0, before)) × ((t : Token) × (before.now ≡ t ∷ p.1.now) × (f t ≡ Some tt))
Closes {A} f read (Err x) = PassesOn read x ⊎ ((item : A) × (before : Bor (List Token)) × (read ≡ Ok (item, before)) × TakesNone f before.now x)

-- what a function answers that takes what was read where nothing is behind it
abbrev pub Ends : {A : Type 0} → Result (A × Bor (List Token)) Stop → Result A Stop → Type 0
Ends read (Ok item) = (rest : Bor (List Token)) × (read ≡ Ok (item, rest)) × (length rest.now ≡ 0)
Ends {A} read (Err x) = PassesOn read x ⊎ ((item : A) × (rest : Bor (List Token)) × (read ≡ Ok (item, rest)) × (length rest.now ≢ 0) × (x ≡ stop.Unexpected (length rest.now)))

-- what a function answers that makes a tree of an operand, an operator and the operand that was read behind it
abbrev pub Joins : List Token → Tree → Node → Result (Tree × Bor (List Token)) Stop → Result (Tree × Bor (List Token)) Stop → Type 0
Joins tokens left node read (Ok p) = (right : Tree) × (read ≡ Ok (right, p.1)) × ((front : List Token) → tokens ≡ front ++ p.1.now → p.0 ≡ tree node (left ∷ right ∷ []) front)
Joins tokens left node read (Err x) = PassesOn read x

-- what a function answers that looks for an operator
abbrev pub Operator : {O : Type 0} → (Token → Option O) → List Token → Option (O × Bor (List Token)) → Type 0
Operator f tokens None = head_as f tokens ≡ None
Operator f tokens (Some p) = (t : Token) × (tokens ≡ t ∷ p.1.now) × (f t ≡ Some p.0)

-- a phrase for which one level less may be opened
pub record Deeper {A : Type 0} (L : ℕ → List Token → A → Type 0) (n : ℕ) (tokens : List Token) (a : A) : Type 0 where
  pub below : ℕ
  pub is : n ≡ suc below
  pub phrase : L below tokens a
