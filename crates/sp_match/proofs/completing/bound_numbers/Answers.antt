use Rattle.std.proofs.Common.{◌≡◌, map, sym, ap, ◌∙◌, rules}
use Rattle.std.specs.List.{filter}
use Rattle.std.proofs.lemmas.Fn.{filter_same}
use Rattle.sp_plan.specs.Runs.{numbers_under}
use Rattle.sp_match.specs.inside.Kept.{kept, pairs}
use Rattle.sp_match.specs.public.Seen.{seen_name}
use Rattle.sp_match.proofs.NegatedAreLeftOut.{all_left, bindings_left, stays}
use Rattle.sp_match.proofs.completing.bound_numbers.Goals as goal

pub returns-then-negated_count-eq0 : goal.returns-then-negated_count-eq0
returns-then-negated_count-eq0 c =
    let r = pairs (kept c.args.run.now) in
    c.in_ok-lists.ensures ∙ ap (map (λ name. (name, numbers_under r name))) (all_left c.args.plan.now c.requires.compiled (sym c.negated_count.ensures.count ∙ c.if-negated_count-eq0.true))

pub returns : goal.returns
returns c =
    let q = c.args.plan.now in
    let left : c.retain.new.self.items ≡ filter (λ list. stays q.elements list.0) c.in_ok-lists.lists.items =
    filter_same _ (λ list. stays q.elements list.0) _ (λ x b f' k. search rules) _ _ c.retain.ensures.filtered in
    ap (map seen_name) left ∙ bindings_left q (pairs (kept c.args.run.now)) c.in_ok-lists.lists.items c.requires.compiled c.in_ok-lists.ensures
