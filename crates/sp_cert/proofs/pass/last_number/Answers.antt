use Rattle.std.proofs.Common.{◌≡◌, ◌+◌, ◌∙◌, sym, ap, arith}
use Rattle.sp_plan.specs.declared.found.Match.{Match}
use Rattle.sp_cert.proofs.Matches.{number_at, go_on_more}
use Rattle.sp_cert.proofs.pass.last_number.Goals as goal
use Rattle.sp_cert.proofs.pass.last_number.Goals.{then-one-eq0-via-then-one-eq0, then-one-eq0-via-else-one-eq0+then-one-last}

pub returns-then-one-eq0 : goal.returns-then-one-eq0
returns-then-one-eq0 c = λ on.
    let one = c.one-item.result in
    let i = c.loop-one.one-index in
    let last = c.loop-one.invariant.last_is in
    let at : one.number ≡ c.args.number + i + 1 = ap (λ (m : Match). m.number) c.one-item.is ∙ number_at c.args.number i c.args.matches.now one (omega arith) on in
    elim c.then-one-eq0.branch [ then-one-eq0-via-then-one-eq0 w ↦ omega arith | then-one-eq0-via-else-one-eq0+then-one-last w ↦ omega arith ]

pub loop-one-preserved : goal.loop-one-preserved
loop-one-preserved c =
    let one = c.one-item.result in
    let i = c.loop-one.one-index in
    let last = c.loop-one.invariant.last_is in
    let number : one.number ≡ c.args.number + i + 1 = omega arith in
    record {
      on = go_on_more c.args.number i c.args.matches.now one (omega arith) c.loop-one.invariant.on (sym (ap (λ (m : Match). m.number) c.one-item.is) ∙ number);
      last_is = omega arith;
    }
