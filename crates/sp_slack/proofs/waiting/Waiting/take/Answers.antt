use Rattle.std.proofs.Common.{◌≡◌, List, [], ◌∷◌, ◌++◌, true, Some, None, Option, option_to_list, sym, ◌∙◌, ap, subst, refl}
use Rattle.std.specs.BTreeMap.{values}
use Rattle.std.specs.Map.{values_of}
use Rattle.std.specs.List.{All}
use Rattle.sp_plan.specs.Events.{NeverGoesBack}
use Rattle.sp_plan.specs.declared.event.Event.{Event}
use Rattle.sp_slack.specs.HeldBack.{first_held, is_before}
use Rattle.sp_slack.proofs.Keeping.{placed_taken}
use Rattle.sp_slack.proofs.Merging.{held, from_line, from_behind, rise_of, taken_values, all_rest, ordered_rest}
use Rattle.sp_slack.proofs.waiting.Waiting.take.Goals as goal

pub returns-then-first-clause-taken : goal.returns-then-first-clause-taken
returns-then-first-clause-taken c = λ e is.
    let s = c.args.self.now in
    let f = c.args.first in
    let behind : List Event = values s.behind in
    let rest : List Event = c.pop_front.new.self.items in
    let line : s.line.items ≡ e ∷ rest = c.pop_front.ensures.items ∙ ap (λ (o : Option Event). option_to_list o ++ rest) is in
    ap (λ (l : List Event). held l behind) line
    ∙ (from_line e rest behind f (subst (λ (l : List Event). first_held l behind ≡ Some f) line c.requires) c.if-first.true (rise_of behind s.rising)).0

pub invariant_of-self-2-clause-earlier : goal.invariant_of-self-2-clause-earlier
invariant_of-self-2-clause-earlier c =
    let s = c.args.self.now in
    taken_values (All (λ x. is_before s.greatest x ≡ true)) (all_rest (is_before s.greatest)) c.pop_first.result s.behind.entries c.pop_first.new.self.entries c.pop_first.ensures.removal c.pop_first.ensures.unchanged s.earlier

pub invariant_of-self-2-clause-placed : goal.invariant_of-self-2-clause-placed
invariant_of-self-2-clause-placed c =
    let s = c.args.self.now in
    placed_taken s.came c.pop_first.result s.behind.entries c.pop_first.new.self.entries s.placed c.pop_first.ensures.removal c.pop_first.ensures.unchanged

pub invariant_of-self-2-clause-rising : goal.invariant_of-self-2-clause-rising
invariant_of-self-2-clause-rising c =
    let s = c.args.self.now in
    taken_values NeverGoesBack ordered_rest c.pop_first.result s.behind.entries c.pop_first.new.self.entries c.pop_first.ensures.removal c.pop_first.ensures.unchanged s.rising

pub returns-clause-taken : goal.returns-clause-taken
returns-clause-taken c = λ e is.
    let s = c.args.self.now in
    let f = c.args.first in
    let rest : List Event = values c.pop_first.new.self in
    let same : c.in_ok-event.event ≡ e = cc is in
    let behind : values s.behind ≡ e ∷ rest = ap values_of c.in_ok-event.ensures.removal ∙ ap (λ (x : Event). x ∷ rest) same in
    ap (held s.line.items) behind
    ∙ (from_behind s.line.items e rest f (subst (λ (l : List Event). first_held s.line.items l ≡ Some f) behind c.requires) c.if-first.false (rise_of (e ∷ rest) (subst NeverGoesBack behind s.rising))).0
