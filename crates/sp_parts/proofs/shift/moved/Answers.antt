use Rattle.std.proofs.Common.{◌≡◌, ◌∙◌, length, take, ap, sym, refl, subst, arith}
use Rattle.std.specs.List.Sorted.{IsStrictlyIncreasing}
use Rattle.std.proofs.lemmas.List.{take_all}
use Rattle.sp_parts.specs.Moving.{moved_by}
use Rattle.sp_parts.proofs.MovedOn.{moved_rises}
use Rattle.sp_parts.proofs.shift.moved.Goals as goal

pub unreachable-requires : goal.unreachable-requires
unreachable-requires c =
    let numbers = c.args.numbers.now in
    let by = c.args.by in
    let rising : IsStrictlyIncreasing numbers = subst IsStrictlyIncreasing c.list.ensures.list c.list.ensures.rising in
    let size = ap length c.list-number-items.ensures.list in
    let all : take c.loop-number.number-index numbers ≡ numbers = take_all c.loop-number.number-index numbers (omega arith) in
    let is : c.deref.result.now ≡ moved_by by numbers = c.deref.ensures.value ∙ c.loop-number.invariant ∙ ap (moved_by by) all in
    let none = rw c.in-None.is at c.in_ok-places.ensures.none in
    none refl (subst IsStrictlyIncreasing (sym is) (moved_rises by numbers rising))
