use Rattle.std.proofs.Common.{ℕ, ◌+◌, ◌++◌, Bool, List, take, sym, subst, arith}
use Rattle.std.proofs.lemmas.List.{take_all}
use Rattle.sp_cert.specs.Flags.{AreFlags}
use Rattle.sp_cert.proofs.Flagging.{flag_set, flag_none}
use Rattle.sp_cert.proofs.flags.set_flags.Goals as goal
use Rattle.sp_cert.proofs.flags.set_flags.Goals.{then-number-first+then-place-flags, then-number-first+else-place-flags, else-number-first}

pub loop-number-preserved : goal.loop-number-preserved
loop-number-preserved c = λ before are.
    let i = c.loop-number.number-index in
    let numbers = c.args.numbers.now in
    let flags = c.loop-number.flags in
    let now = c.loop-number.invariant before are in
    let P : List Bool → Type 0 = λ l. AreFlags c.args.first (before ++ take (i + 1) numbers) l in
    elim c.if-number-first.branch [
      | then-number-first+then-place-flags w ↦ subst P (sym w.flags-is) (flag_set c.args.first before numbers flags i (omega arith) now (omega arith) (omega arith))
      | then-number-first+else-place-flags w ↦ subst P (sym w.flags-is) (flag_none c.args.first before numbers flags i (omega arith) now (λ low. omega arith))
      | else-number-first w ↦ subst P (sym w.flags-is) (flag_none c.args.first before numbers flags i (omega arith) now (λ low. absurd (omega arith)))
    ]

pub returns : goal.returns
returns c = λ before are.
    subst (λ (l : List ℕ). AreFlags c.args.first (before ++ l) c.loop-number.flags) (take_all c.loop-number.number-index c.args.numbers.now (omega arith)) (c.loop-number.invariant before are)
