use Rattle.std.proofs.Common.{ℕ, ◌||◌, List, ap, subst, ◌∙◌}
use Rattle.std.specs.List.Sorted.{IsStrictlyIncreasing}
use Rattle.std.proofs.lemmas.Result.{on_ok_weaker}
use Rattle.sp_base.specs.Numbers.{is_among}
use Rattle.sp_match.proofs.run.copy_numbers.Goals as goal

pub returns : goal.returns
returns c =
    let others = c.args.others.now.list in
    let rising : IsStrictlyIncreasing others = subst IsStrictlyIncreasing c.list.ensures.list c.list.ensures.rising in
    on_ok_weaker c.union.result
    (λ members. c.rising_same.ensures c.union.new.self.list others c.union.ensures.rising rising
    (λ n. members n ∙ ap (λ (l : List ℕ). is_among l n || is_among others n) c.clear.ensures.list))
    c.union.ensures.members
