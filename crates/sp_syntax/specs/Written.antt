-- Texts that are written token by token.
use Rattle.std.specs.Prelude.{ℕ, List, [], ◌∷◌, ◌++◌}
use Rattle.sp_lex.specs.declared.token.Token.{Token}
use Rattle.sp_lex.specs.declared.token.Kernel.{Kernel}
use Rattle.sp_lex.specs.Spelling.{IsToken, IsLong}

-- In front of a blank these bytes are a token of this kernel, whatever follows, and no long number.
abbrev pub IsSpelled : Kernel → List ℕ → Type 0
IsSpelled kernel front = (rest : List ℕ) → IsToken kernel front (32 ∷ rest) × (IsLong (front ++ 32 ∷ rest) → ⊥)

-- The text is tokens of these kernels, with a blank behind each.
pub data Written : List Kernel → List ℕ → Type 0 where
  none : Written [] []
  some : (kernel : Kernel) (front : List ℕ) (kernels : List Kernel) (text : List ℕ) → IsSpelled kernel front → Written kernels text → Written (kernel ∷ kernels) (front ++ 32 ∷ text)

-- the kernels of tokens
abbrev pub kernels : List Token → List Kernel
kernels [] = []
kernels (t ∷ ts) = t.kernel ∷ kernels ts
