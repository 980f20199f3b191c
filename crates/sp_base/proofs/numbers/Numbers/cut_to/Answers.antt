use Rattle.std.proofs.Common.{◌≡◌, sym, ap, subst, ◌∙◌, rules}
use Rattle.std.specs.List.{filter}
use Rattle.std.specs.List.Sorted.{IsStrictlyIncreasing}
use Rattle.std.proofs.lemmas.List.Kept.{IsStrictlyIncreasing-filter}
use Rattle.sp_base.specs.Numbers.{is_within}
use Rattle.sp_base.proofs.numbers.Numbers.cut_to.Goals as goal

pub invariant_of-result : goal.invariant_of-result
invariant_of-result c =
    let p = is_within c.args.first c.args.count in
    let copied : c.in_ok-to_vec.field-0.items ≡ c.within.result.now = search rules in
    subst IsStrictlyIncreasing
    (ap (filter p) (sym c.deref.ensures.value) ∙ sym (copied ∙ c.within.ensures))
    (IsStrictlyIncreasing-filter p c.self.inside.list.items c.self.invariant)
