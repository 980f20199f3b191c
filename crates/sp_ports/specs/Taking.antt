-- What an outlet takes: matches, each as its line.
use Rattle.std.specs.Prelude.{◌≡◌, ◌+◌, ◌-◌, ◌^◌, ℕ, List, [], ◌∷◌, ◌++◌, length, min, max}
use Rattle.sp_io.specs.Outside.{Told, Grew, GrewWithin}
use Rattle.sp_plan.specs.declared.found.Match.{Match}
use Rattle.sp_plan.specs.declared.plan.Plan.{Plan}
use Rattle.sp_plan.specs.Lines.{line, text}

-- an outlet as its callers see it: the text that it holds, where it is told; how many matches it took; and how often it failed
pub record OutletState : Type 0 where
  pub held : Told
  pub taken : ℕ
  pub faults : ℕ

-- a count with so many more, up to the last value of its type; it never falls
abbrev pub counted : ℕ → ℕ → ℕ
counted n more = max n (min (n + more) (2 ^ 64 - 1))

-- an outlet took these matches whole: it grew by their lines, and counted each
pub record Took (q : Plan) (matches : List Match) (old new : OutletState) : Type 0 where
  pub lines : Grew old.held (text q matches) new.held
  pub count : new.taken ≡ counted old.taken (length matches)

-- the line of the first of these matches, if there is one
abbrev pub first_line : Plan → List Match → List ℕ
first_line q [] = []
first_line q (found ∷ others) = line q found

-- an outlet took the first of these matches whole, and at most a beginning of the line of the next one stands behind theirs
pub record TookFirst (q : Plan) (matches : List Match) (old new : OutletState) : Type 0 where
  pub first : List Match
  pub others : List Match
  pub are : matches ≡ first ++ others
  pub between : OutletState
  pub took : Took q first old between
  pub front : GrewWithin between.held (first_line q others) new.held
  pub count : new.taken ≡ between.taken

-- an outlet failed at the match behind these, which it took: of that match's line stands a beginning
pub record FailedAt (q : Plan) (first : List Match) (found : Match) (old new : OutletState) : Type 0 where
  pub between : OutletState
  pub took : Took q first old between
  pub front : GrewWithin between.held (line q found) new.held
  pub count : new.taken ≡ between.taken
