use Rattle.std.proofs.Common.{rules, ◌==◌, not, filter, sym, ap, subst, ◌∙◌}
use Rattle.std.specs.List.Sorted.{IsStrictlyIncreasing}
use Rattle.std.proofs.lemmas.Fn.{filter_same}
use Rattle.std.proofs.lemmas.List.Kept.{IsStrictlyIncreasing-filter}
use Rattle.sp_base.specs.Numbers.{NumberList}
use Rattle.sp_base.proofs.numbers.Numbers.remove.Goals as goal

pub invariant_of-self : goal.invariant_of-self
invariant_of-self c =
    subst IsStrictlyIncreasing (sym (filter_same _ (λ m. not (m == c.args.n)) _ (λ x b f' k. search rules) _ _ c.retain.ensures.filtered))
    (IsStrictlyIncreasing-filter (λ m. not (m == c.args.n)) c.self.inside.list.items c.self.invariant)

pub returns : goal.returns
returns c =
    filter_same _ (λ m. not (m == c.args.n)) _ (λ x b f' k. search rules) _ _ c.retain.ensures.filtered
    ∙ ap (λ (v : NumberList). filter (λ m. not (m == c.args.n)) v.list) c.self.view_is
