-- The left operands of a tree.
use Rattle.std.specs.Prelude.{◌≡◌, List, [], ◌∷◌, ◌++◌}
use Rattle.std.specs.Borrow.{Bor}
use Rattle.sp_query.specs.declared.tree.Tree.{Tree, out-Tree}

-- From the root of a tree to one below it, these are the nodes on the way, each one's left part the next.
pub data Spine (root : Tree) : List (Bor Tree) → Tree → Type 0 where
  ends : (here : Tree) → here ≡ root → Spine root [] here
  goes : (nodes all : List (Bor Tree)) (node : Bor Tree) (here right : Tree) → Spine root nodes node.now → (out-Tree node.now).parts ≡ here ∷ right ∷ [] → all ≡ nodes ++ node ∷ [] → Spine root all here

-- What is known of a tree on the way back to the root, with these nodes still to go.
pub record Climbs (root : Tree) (nodes : List (Bor Tree)) (known : Tree → Type 0) : Type 0 where
  pub here : Tree
  pub spine : Spine root nodes here
  pub answer : known here
