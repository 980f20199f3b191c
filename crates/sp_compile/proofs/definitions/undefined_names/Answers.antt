use Rattle.std.proofs.Common.{◌≡◌, ◌+◌, ◌++◌, ◌∷◌, [], take, sym, ap, subst, arith, rules}
use Rattle.std.specs.List.{All}
use Rattle.std.proofs.lemmas.List.Elements.{All-push}
use Rattle.sp_plan.specs.declared.plan.Name.{Name}
use Rattle.sp_plan.specs.Bounds.{PredWithin}
use Rattle.sp_compile.specs.Naming.{StandSoFar}
use Rattle.sp_compile.proofs.Naming.{undefined_more}
use Rattle.sp_compile.proofs.definitions.undefined_names.Goals as goal

pub loop-named-preserved : goal.loop-named-preserved
loop-named-preserved c =
    let query = c.args.query.now in
    let one = c.in_ok-undefined_name.field-0 in
    let items = c.loop-named.planned.items in
    let pushed : c.push.new.self.items ≡ items ++ one ∷ [] = search rules in
    let bounded : PredWithin one.pred = subst PredWithin (sym (ap (λ (n : Name). n.pred) c.in_ok-undefined_name.ensures)) tt in (
      λ texts. subst (λ l. StandSoFar query texts [] (take (c.loop-named.named-index + 1) c.args.names.now) l) (sym pushed)
          (undefined_more query texts c.args.names.now c.loop-named.named-index c.named-item.result items one (omega arith) c.named-item.is c.in_ok-undefined_name.ensures (c.loop-named.invariant.0 texts)),
      subst (λ l. All (λ (n : Name). PredWithin n.pred) l) (sym pushed) (All-push (λ (n : Name). PredWithin n.pred) items one c.loop-named.invariant.1 bounded),
    )
