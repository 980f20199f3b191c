-- The texts of trees, put behind those so far.
use Rattle.std.specs.Prelude.{◌≡◌, ℕ, List, fold}
use Rattle.sp_plan.specs.Texts.{with_text}
use Rattle.sp_query.specs.declared.tree.Tree.{Tree}
use Rattle.sp_compile.specs.Stands.{Literals}

-- The texts of these trees were put, each that was new, behind those before.
pub record Gathers (trees : List Tree) (before after : List (List ℕ)) : Type 0 where
  pub literals : List (List ℕ)
  pub of_trees : Literals trees literals
  pub gathered : after ≡ fold with_text before literals
