use Rattle.std.proofs.Common.{◌≡◌, ◌∙◌, take, map, subst, arith}
use Rattle.std.proofs.lemmas.List.{take_all}
use Rattle.sp_compile.specs.Gathers.{Gathers}
use Rattle.sp_compile.specs.Stands.{all_trees, opening_trees}
use Rattle.sp_compile.proofs.Gathering.{gathers_none, gathers_mapped, gathers_append}
use Rattle.sp_compile.proofs.texts.texts.Goals as goal

pub loop-define-init : goal.loop-define-init
loop-define-init c = gathers_none _

pub loop-define-preserved : goal.loop-define-preserved
loop-define-preserved c = gathers_mapped (λ define. define.1) c.as_slice-define-items.result.now c.loop-define.define-index c.define-item.result _ _ _ (omega arith) c.define-item.is c.loop-define.invariant c.in_ok-add_tree.ensures

pub returns : goal.returns
returns c =
    let query = c.args.query.now in
    let whole : take c.loop-define.define-index c.as_slice-define-items.result.now ≡ query.defines = take_all _ _ (omega arith) ∙ c.as_slice-define-items.ensures in
    let defines = subst (λ l. Gathers (map (λ define. define.1) l) c.new-texts.result.items c.loop-define.texts.items) whole c.loop-define.invariant in
    let all = gathers_append (map (λ define. define.1) query.defines) (opening_trees query.opening) _ _ _ defines c.in_ok-add_opening.ensures in
    subst (λ l. Gathers (all_trees query) l c.add_opening.new.texts.items) c.new-texts.ensures.items all
