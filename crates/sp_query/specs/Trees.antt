-- Trees as their parts.
use Rattle.std.specs.Prelude.{List}
use Rattle.sp_lex.specs.declared.token.Span.{Span}
use Rattle.sp_query.specs.declared.tree.Tree.{Tree, roll-Tree}
use Rattle.sp_query.specs.declared.tree.Node.{Node}

-- the tree of this root, these parts and this place
abbrev pub tree_at : Node → List Tree → Span → Tree
tree_at node parts span = roll-Tree (record { node = node; parts = parts; span = span })
