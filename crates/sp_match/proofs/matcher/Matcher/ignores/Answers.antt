use Rattle.std.proofs.Common.{◌≡◌, ℕ, false, List, [], None, map, refl, sym, ap, subst, ◌∙◌}
use Rattle.sp_plan.specs.declared.plan.Plan.{Plan}
use Rattle.sp_plan.specs.Windows.{Numbered}
use Rattle.sp_plan.specs.Runs.{Run, guarded, takes}
use Rattle.sp_match.specs.declared.known.Known.{Known}
use Rattle.sp_match.specs.declared.known.Known.TheVariants.{Never}
use Rattle.sp_match.specs.public.Known.{IsKnown}
use Rattle.sp_match.specs.public.Matching.{IsAfter, Matching, TellsEvent, TellsWanted, wanted_as_before}
use Rattle.sp_match.specs.inside.Kept.{Kept, kept, started}
use Rattle.sp_match.specs.inside.Keeping.{IsKept}
use Rattle.sp_match.proofs.MatcherAfterEvent.{ordered_as}
use Rattle.sp_match.proofs.NothingIsDone.{untouched}
use Rattle.sp_match.proofs.matcher.Matcher.ignores.Goals as goal

-- an event that no run takes, and that is held against none
never : (q : Plan) (count : ℕ) (ks : List Kept) (m : Matching) → (record { plan = q; open_runs = map started ks; started = count }) ≡ m → IsKept q count ks
    → (known : Known) → known ≡ Never → (x : Numbered) → IsKnown m.plan x.1 known → IsAfter x m m × TellsEvent x m [] × TellsWanted x m (wanted_as_before m)
never q count ks m view own known is x so =
    let every : (r : Run) → (takes m.plan r x.1 ≡ None) × (guarded m.plan r x.1 ≡ false) = subst (IsKnown m.plan x.1) is so in
    untouched m.plan x (every []).0 m
    (λ s stands. ordered_as count ks s own.ordered (sym stands.open_is ∙ sym (ap (λ (n : Matching). n.open_runs) view)) (sym stands.started_is ∙ sym (ap (λ (n : Matching). n.started) view)))
    (λ i run within. every _) refl

pub returns-in-Never-clause-stands : goal.returns-in-Never-clause-stands
returns-in-Never-clause-stands c = λ yes x so. (never _ c.self.inside.count (map kept c.self.inside.runs.items) c.args.self.now c.self.view_is c.self.invariant.0 c.args.known c.in-Never.is x so).0

pub returns-in-Never-clause-told : goal.returns-in-Never-clause-told
returns-in-Never-clause-told c = λ yes x so. (never _ c.self.inside.count (map kept c.self.inside.runs.items) c.args.self.now c.self.view_is c.self.invariant.0 c.args.known c.in-Never.is x so).1

pub returns-in-Never-clause-wanted : goal.returns-in-Never-clause-wanted
returns-in-Never-clause-wanted c = λ yes x so. (never _ c.self.inside.count (map kept c.self.inside.runs.items) c.args.self.now c.self.view_is c.self.invariant.0 c.args.known c.in-Never.is x so).2
