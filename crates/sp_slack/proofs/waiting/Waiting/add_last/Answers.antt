use Rattle.std.proofs.Common.{◌≡◌, List, [], ◌∷◌, ◌++◌, ℤ, true, Some, None, Option, sym, ◌∙◌, ap, subst, refl}
use Rattle.std.specs.BTreeMap.{values}
use Rattle.std.specs.List.{All}
use Rattle.sp_plan.specs.declared.event.Event.{Event}
use Rattle.sp_slack.specs.HeldBack.{is_before, is_up_to, with_time}
use Rattle.sp_slack.proofs.Keeping.{placed_more}
use Rattle.sp_slack.proofs.Merging.{held, in_order, more_in_line, still_earlier}
use Rattle.sp_slack.proofs.waiting.Waiting.add_last.Goals as goal

pub invariant_of-self-2-clause-in_line : goal.invariant_of-self-2-clause-in_line
invariant_of-self-2-clause-in_line c =
    let s = c.args.self.now in
    let e = c.args.event in
    subst (λ (t : Option ℤ). All (λ x. is_up_to t x ≡ true) c.push_back.new.self.items) (sym c.greatest_with-greatest.ensures.is)
    (subst (All (λ x. is_up_to (with_time s.greatest e) x ≡ true)) (sym c.in_ok-push_back.ensures.items) (more_in_line s.greatest e s.line.items s.in_line))

pub invariant_of-self-2-clause-earlier : goal.invariant_of-self-2-clause-earlier
invariant_of-self-2-clause-earlier c =
    let s = c.args.self.now in
    let e = c.args.event in
    subst (λ (t : Option ℤ). All (λ x. is_before t x ≡ true) (values s.behind)) (sym c.greatest_with-greatest.ensures.is) (still_earlier s.greatest e (values s.behind) s.earlier)

pub invariant_of-self-2-clause-placed : goal.invariant_of-self-2-clause-placed
invariant_of-self-2-clause-placed c = placed_more c.args.self.now.came c.args.self.now.behind.entries c.args.self.now.placed

pub returns-clause-held : goal.returns-clause-held
returns-clause-held c =
    let s = c.args.self.now in
    let e = c.args.event in
    ap (λ (l : List Event). held l (values s.behind)) c.in_ok-push_back.ensures.items ∙ in_order s.greatest s.line.items (values s.behind) e s.in_line s.earlier c.requires.in_order
