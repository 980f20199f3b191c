use Rattle.std.proofs.Common.{ℕ, List, take, get_or, sym, ap, ◌∙◌, subst, arith}
use Rattle.std.specs.List.Sorted.{IsStrictlyIncreasing}
use Rattle.std.proofs.lemmas.List.Sums.{fold_more}
use Rattle.sp_base.proofs.RisingLists.{numbers_rise, put_is}
use Rattle.sp_base.specs.Numbers.{with_number}
use Rattle.sp_core.proofs.homecoming.put_all.Goals as goal

pub loop-n-preserved : goal.loop-n-preserved
loop-n-preserved c =
    let i = c.loop-n.n-index in
    let old = c.args.numbers.now.list in
    let now = c.loop-n.numbers.list in
    let more = c.args.more.now in
    let rises : IsStrictlyIncreasing old = subst (λ (l : List ℕ). IsStrictlyIncreasing l) c.list.ensures.list c.list.ensures.rising in
    let rising : IsStrictlyIncreasing now = subst (λ (l : List ℕ). IsStrictlyIncreasing l) (sym c.loop-n.invariant.list) (numbers_rise old (take i more) rises) in
    let put = put_is c.rising_same.ensures now _ c.put.new.self.list rising c.put.ensures.rising c.put.ensures.members in
    record {
      list = put ∙ ap (λ (l : List ℕ). with_number l (get_or more i 0)) c.loop-n.invariant.list ∙ sym (fold_more with_number old more i 0 (omega arith));
      spare = omega arith;
    }
