use Rattle.std.proofs.Common.{◌≡◌, ℕ, List, subst, arith, length-drop}
use Rattle.std.specs.Prelude.{Some}
use Rattle.sp_cut.specs.Scan.{scan}
use Rattle.sp_cut.specs.Ends.{MarkAt}
use Rattle.sp_cut.proofs.Marks.{past_mark, end_at_mark, none_ahead}
use Rattle.sp_cut.proofs.ends.first_end.Goals as goal

pub returns-then-bytes-at-eq10 : goal.returns-then-bytes-at-eq10
returns-then-bytes-at-eq10 c =
    let mark = subst (λ (ahead : List ℕ). MarkAt c.marks.state ahead c.in-Some.size) c.split_at.ensures.back c.in-Some.ensures in
    end_at_mark c.args.quoted c.args.bytes.now c.marks.state c.marks.from c.marks.invariant.state c.in-Some.size mark c.if-bytes-at-eq10.true

pub marks-preserved : goal.marks-preserved
marks-preserved c =
    let mark = subst (λ (ahead : List ℕ). MarkAt c.marks.state ahead c.in-Some.size) c.split_at.ensures.back c.in-Some.ensures in
    record {
      within = omega (arith, mark.within, length-drop c.marks.from c.args.bytes.now);
      state = past_mark c.args.quoted c.args.bytes.now c.marks.state c.marks.from c.marks.invariant.state c.in-Some.size mark c.if-bytes-at-eq10.false;
    }

pub returns : goal.returns
returns c =
    none_ahead c.args.quoted c.args.bytes.now c.marks.state c.marks.from c.marks.invariant.state
    (subst (λ (ahead : List ℕ). scan c.marks.state ahead ≡ Some c.marks.state) c.split_at.ensures.back c.in_default.ensures)
