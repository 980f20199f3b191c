use Rattle.std.proofs.Common.{◌≡◌, ℕ, ◌+◌, List, [], ◌∷◌, ◌++◌, map, length, take, drop, sym, ap, subst, ◌∙◌, arith}
use Rattle.std.proofs.lemmas.Grind.{common_steps}
use Rattle.std.specs.List.{All}
use Rattle.std.proofs.lemmas.List.{length-map, map_push, take_at}
use Rattle.std.proofs.lemmas.List.Elements.{All-push}
use Rattle.sp_plan.specs.declared.plan.Plan.{Plan}
use Rattle.sp_match.specs.declared.run.Run.{Run}
use Rattle.sp_match.specs.inside.Kept.{Kept, empty, kept}
use Rattle.sp_match.specs.inside.Good.{Good, Undoes}
use Rattle.sp_match.proofs.GrownRunIsGood.{good_empty}
use Rattle.sp_match.proofs.RunsUndo.{undoes_take}
use Rattle.sp_match.proofs.starting.open.Goals as goal

-- the runs with a new one behind them
pushed : (rs now : List Run) (r : Run) (n : ℕ) → now ≡ rs ++ r ∷ [] → kept r ≡ empty n → map kept now ≡ map kept rs ++ empty n ∷ []
pushed rs now r n is new = ap (map kept) is ∙ map_push kept rs r ∙ ap (λ (k : Kept). map kept rs ++ k ∷ []) new

-- and what undoes them
undone : (q : Plan) (number : ℕ) (rs now new tail : List Run) (n size : ℕ) → map kept now ≡ map kept rs ++ empty n ∷ [] → length new ≡ size → Undoes q number (map kept now) (map kept new)
    → Undoes q number (map kept rs) (take (length rs) (map kept (take size (new ++ tail))))
undone q number rs now new tail n size is long u =
    subst (λ (l : List Run). Undoes q number (map kept rs) (take (length rs) (map kept l))) (sym (take_at new tail size long))
    (subst (λ (m : ℕ). Undoes q number (map kept rs) (take m (map kept new))) (length-map rs kept)
    (undoes_take q number (map kept rs) (map kept new) (empty n) (subst (λ (l : List Kept). Undoes q number l (map kept new)) is u)))

pub bind-requires-clause-good : goal.bind-requires-clause-good
bind-requires-clause-good c =
    let q = c.args.offer.now.plan.now in
    let old = map kept c.args.runs.now.items in
    let is = pushed c.args.runs.now.items c.deref_mut.result.now c.run.result (c.args.count + 1) (c.deref_mut.ensures.value ∙ c.in_ok-push.ensures.items) c.run.ensures.run in
    subst (All (Good q)) (sym is) (All-push (Good q) old (empty (c.args.count + 1)) c.requires.good (good_empty q (c.args.count + 1)))

pub returns-in_err-bind-clause-undoes : goal.returns-in_err-bind-clause-undoes
returns-in_err-bind-clause-undoes c =
    undone c.args.offer.now.plan.now c.args.offer.now.number c.args.runs.now.items c.deref_mut.result.now c.bind.new.runs (drop (length c.bind.new.runs) c.push.new.self.items) (c.args.count + 1) c.push.new.self.len
    (pushed c.args.runs.now.items c.deref_mut.result.now c.run.result (c.args.count + 1) (c.deref_mut.ensures.value ∙ c.in_ok-push.ensures.items) c.run.ensures.run)
    (c.bind.auto.runs ∙ c.deref_mut.ensures.len) c.in_err-bind.ensures.undoes

pub returns-clause-undoes : goal.returns-clause-undoes
returns-clause-undoes c =
    undone c.args.offer.now.plan.now c.args.offer.now.number c.args.runs.now.items c.deref_mut.result.now c.bind.new.runs (drop (length c.bind.new.runs) c.push.new.self.items) (c.args.count + 1) c.push.new.self.len
    (pushed c.args.runs.now.items c.deref_mut.result.now c.run.result (c.args.count + 1) (c.deref_mut.ensures.value ∙ c.in_ok-push.ensures.items) c.run.ensures.run)
    (c.bind.auto.runs ∙ c.deref_mut.ensures.len) c.in_ok-bind.ensures.undoes

pub returns-clause-good : goal.returns-clause-good
returns-clause-good c =
    subst (λ (l : List Run). All (Good c.args.offer.now.plan.now) (map kept l)) (sym (take_at c.bind.new.runs (drop (length c.bind.new.runs) c.push.new.self.items) c.push.new.self.len (c.bind.auto.runs ∙ c.deref_mut.ensures.len))) c.in_ok-bind.ensures.undoes.good

pub returns-in_err-push-clause-undoes : goal.returns-in_err-push-clause-undoes
returns-in_err-push-clause-undoes c = grind (arith, common_steps)

pub returns-in_err-push-2-clause-undoes : goal.returns-in_err-push-2-clause-undoes
returns-in_err-push-2-clause-undoes c = grind (arith, common_steps)

pub bind-requires-clause-below : goal.bind-requires-clause-below
bind-requires-clause-below c = grind (arith, common_steps)

pub returns-clause-runs : goal.returns-clause-runs
returns-clause-runs c = grind (arith, common_steps)

pub returns-clause-told : goal.returns-clause-told
returns-clause-told c = grind (arith, common_steps)
