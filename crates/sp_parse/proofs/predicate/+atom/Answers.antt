use Rattle.std.proofs.Common.{[], ◌∷◌, sym, ◌∙◌, ap}
use Rattle.sp_query.specs.Trees.{tree_at}
use Rattle.sp_query.specs.Grammar.{kernel, both_hold, one_holds, joined, Atom, ConjOf, Pred}
use Rattle.sp_query.specs.declared.mark.Mark.TheVariants as m
use Rattle.sp_parse.specs.Follow.{after_sum, after_conj, after_pred}
use Rattle.sp_parse.proofs.Nested as d
use Rattle.sp_parse.proofs.Levels as l
use Rattle.sp_parse.proofs.Forms as o
use Rattle.sp_query.specs.declared.tree.Node.TheVariants as n
use Rattle.sp_parse.proofs.Repeats as g
use Rattle.sp_parse.proofs.Reading.{exit, read_found, read_stops}
use Rattle.sp_parse.proofs.Atoms as f
use Rattle.sp_parse.proofs.predicate.+atom.Goals as goal

pub squared-returns-in_err-rest : goal.squared-returns-in_err-rest
squared-returns-in_err-rest t c = exit _ _ _ _ _ _ _ c.from_residual.ensures.1 (o.between_first_stops m.LeftSquare Pred m.RightSquare after_pred f.pred_some f.square_out c.args.room _ _ c.in_err-rest.ensures)

pub squared-returns : goal.squared-returns
squared-returns t c = o.between_closes m.LeftSquare Pred m.RightSquare after_pred f.pred_some f.square_out c.args.room _ _ _ _ c.in_ok-rest.ensures c.pred.ensures c.closed.ensures

pub atom-returns-then-room-eq0 : goal.atom-returns-then-room-eq0
atom-returns-then-room-eq0 t c = f.full_not _ _ c.if-room-eq0.true (sym c.begins.ensures ∙ c.if-begins.true)

pub atom-returns-then-begins : goal.atom-returns-then-begins
atom-returns-then-begins t c = f.denied_at _ _ _ c.args.room c.if-room-eq0.false (sym c.begins.ensures ∙ c.if-begins.true) c.denied.ensures

pub atom-returns-then-room-eq0-2 : goal.atom-returns-then-room-eq0-2
atom-returns-then-room-eq0-2 t c = f.full_square _ _ c.if-room-eq0-2.true (sym c.begins-2.ensures ∙ c.if-begins-2.true)

pub atom-returns-then-begins-2 : goal.atom-returns-then-begins-2
atom-returns-then-begins-2 t c = f.squared_at _ _ _ c.args.room c.if-room-eq0-2.false (sym c.begins-2.ensures ∙ c.if-begins-2.true) c.squared.ensures

pub atom-returns : goal.atom-returns
atom-returns t c = f.test_at _ _ _ c.args.room (sym c.begins.ensures ∙ c.if-begins.false) (sym c.begins-2.ensures ∙ c.if-begins-2.false) c.test.ensures

pub denied-returns-in_err-rest : goal.denied-returns-in_err-rest
denied-returns-in_err-rest t c = exit _ _ _ _ _ _ _ c.from_residual.ensures.1 (d.prefix_stops m.Not Atom after_sum f.atom_some (l.applied n.Not) c.args.room _ _ c.in_err-rest.ensures)

pub denied-returns-in_err-part : goal.denied-returns-in_err-part
denied-returns-in_err-part t c = exit _ _ _ _ _ _ _ c.from_residual-in_err-part.ensures.1 (d.prefix_stops_later m.Not Atom after_sum f.atom_some (l.applied n.Not) c.args.room _ _ _ c.in_ok-rest.ensures c.in_err-part.ensures)

pub denied-returns : goal.denied-returns
denied-returns t c = d.prefix_found m.Not Atom after_sum f.atom_some (l.applied n.Not) c.args.room _ _ _ _ _ c.in_ok-rest.ensures c.in_ok-part.ensures
    (λ front e. c.in_ok-tree.ensures ∙ ap (tree_at n.Not (c.in_ok-part.part ∷ [])) (c.span_of.ensures front e))

pub pred-returns-in_err-tree : goal.pred-returns-in_err-tree
pred-returns-in_err-tree t c = exit _ _ _ _ _ _ _ c.from_residual.ensures.1
    (g.start_stops (kernel one_holds) (λ n. ConjOf (Atom n)) joined after_conj f.one_apart c.args.room _ _ c.in_err-tree.ensures)

pub pred-loop-node-init : goal.pred-loop-node-init
pred-loop-node-init t c = g.starts (kernel one_holds) (λ n. ConjOf (Atom n)) joined after_conj f.one_apart c.args.room _ _ _ c.in_ok-tree.ensures

pub pred-joined-requires : goal.pred-joined-requires
pred-joined-requires t c = g.step_shortens (kernel one_holds) (λ n. ConjOf (Atom n)) joined after_conj f.one_apart c.args.room _ _ _ _ _ _ c.in-Some.ensures c.loop-node.invariant c.conj-in-Some.ensures

pub pred-returns-in_err-tree-2 : goal.pred-returns-in_err-tree-2
pred-returns-in_err-tree-2 t c = exit _ _ _ _ _ _ _ c.from_residual-in_err-tree-2.ensures.1
    (g.step_stops (kernel one_holds) (λ n. ConjOf (Atom n)) joined after_conj f.one_apart c.args.room _ _ _ _ _ _ c.in-Some.ensures c.loop-node.invariant (read_stops (λ n. ConjOf (Atom n)) after_conj c.args.room _ _ _ c.conj-in-Some.ensures c.in_err-tree-2.ensures))

pub pred-loop-node-smaller : goal.pred-loop-node-smaller
pred-loop-node-smaller t c = (g.steps_on (kernel one_holds) (λ n. ConjOf (Atom n)) joined after_conj f.one_apart c.args.room _ _ _ _ _ _ _ c.in-Some.ensures c.loop-node.invariant
    (read_found (λ n. ConjOf (Atom n)) after_conj c.args.room _ _ _ _ c.conj-in-Some.ensures c.in_ok-tree-2.ensures.1)).shorter

pub pred-loop-node-preserved : goal.pred-loop-node-preserved
pred-loop-node-preserved t c = (g.steps_on (kernel one_holds) (λ n. ConjOf (Atom n)) joined after_conj f.one_apart c.args.room _ _ _ _ _ _ _ c.in-Some.ensures c.loop-node.invariant
    (read_found (λ n. ConjOf (Atom n)) after_conj c.args.room _ _ _ _ c.conj-in-Some.ensures c.in_ok-tree-2.ensures.1)).goes _ c.in_ok-tree-2.ensures.2

pub pred-returns : goal.pred-returns
pred-returns t c = g.group_ends (kernel one_holds) (λ n. ConjOf (Atom n)) joined after_conj f.one_apart c.args.room _ _ _ c.in_default.ensures c.loop-node.invariant

pub conj-returns-in_err-tree : goal.conj-returns-in_err-tree
conj-returns-in_err-tree t c = exit _ _ _ _ _ _ _ c.from_residual.ensures.1
    (g.start_stops (kernel both_hold) Atom joined after_sum f.both_apart c.args.room _ _ c.in_err-tree.ensures)

pub conj-loop-node-init : goal.conj-loop-node-init
conj-loop-node-init t c = g.starts (kernel both_hold) Atom joined after_sum f.both_apart c.args.room _ _ _ c.in_ok-tree.ensures

pub conj-joined-requires : goal.conj-joined-requires
conj-joined-requires t c = g.step_shortens (kernel both_hold) Atom joined after_sum f.both_apart c.args.room _ _ _ _ _ _ c.in-Some.ensures c.loop-node.invariant c.atom-in-Some.ensures

pub conj-returns-in_err-tree-2 : goal.conj-returns-in_err-tree-2
conj-returns-in_err-tree-2 t c = exit _ _ _ _ _ _ _ c.from_residual-in_err-tree-2.ensures.1
    (g.step_stops (kernel both_hold) Atom joined after_sum f.both_apart c.args.room _ _ _ _ _ _ c.in-Some.ensures c.loop-node.invariant (read_stops Atom after_sum c.args.room _ _ _ c.atom-in-Some.ensures c.in_err-tree-2.ensures))

pub conj-loop-node-smaller : goal.conj-loop-node-smaller
conj-loop-node-smaller t c = (g.steps_on (kernel both_hold) Atom joined after_sum f.both_apart c.args.room _ _ _ _ _ _ _ c.in-Some.ensures c.loop-node.invariant
    (read_found Atom after_sum c.args.room _ _ _ _ c.atom-in-Some.ensures c.in_ok-tree-2.ensures.1)).shorter

pub conj-loop-node-preserved : goal.conj-loop-node-preserved
conj-loop-node-preserved t c = (g.steps_on (kernel both_hold) Atom joined after_sum f.both_apart c.args.room _ _ _ _ _ _ _ c.in-Some.ensures c.loop-node.invariant
    (read_found Atom after_sum c.args.room _ _ _ _ c.atom-in-Some.ensures c.in_ok-tree-2.ensures.1)).goes _ c.in_ok-tree-2.ensures.2

pub conj-returns : goal.conj-returns
conj-returns t c = g.group_ends (kernel both_hold) Atom joined after_sum f.both_apart c.args.room _ _ _ c.in_default.ensures c.loop-node.invariant
