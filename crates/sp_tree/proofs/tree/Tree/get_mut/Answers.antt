use Rattle.std.proofs.Common.{◌∙◌}
use Rattle.std.specs.Option.{ghost_name_of}
use borrow.Follows.Closed.{read_of}
use Rattle.sp_tree.proofs.Zipped.{found_joined}
use Rattle.sp_tree.proofs.Renewed.{tree}
use Rattle.sp_tree.proofs.Written.{joined_written, tree_written}
use Rattle.sp_tree.proofs.tree.Tree.get_mut.Goals as goal

pub invariant_of-self-lent : goal.invariant_of-self-lent
invariant_of-self-lent g c = λ _. (
  (λ w. tree_written c.self.inside.versions.items c.self.inside.values c.args.id w c.self.invariant),
  c.self.invariant,
)

pub returns : goal.returns
returns g c = rw (← c.self.view_is) (
  (λ i. read_of (ghost_name_of c.get_mut.result) (λ w. record {
    entries = joined_written c.self.inside.versions.items c.self.inside.values.entries c.args.id w c.self.invariant.both.ids i;
    next = c.self.inside.values.next;
    bound = c.self.inside.values.bound;
  }) (tree c.self.inside.versions.items c.self.inside.values)),
  record { writes_back = tt; value = c.get_mut.ensures.value ∙ found_joined c.self.inside.versions.items c.self.inside.values.entries c.args.id c.self.invariant.both.ids },
)
