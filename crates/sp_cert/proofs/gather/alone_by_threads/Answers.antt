use Rattle.std.proofs.Common.{◌≡◌, ◌+◌, ◌/◌, ◌%◌, length, get_or, Ok, sym, ap, ◌∙◌, subst, arith}
use Rattle.std.specs.Prelude.{min}
use Rattle.sp_listing.specs.declared.proof.WindowProof.{WindowProof}
use Rattle.sp_listing.specs.Listing.{seen}
use Rattle.sp_cert.specs.Checking.{StandsAlone}
use Rattle.sp_cert.specs.Leading.{IsLeading}
use Rattle.sp_cert.proofs.Chunks.{Led, counted_within, counted_more, counted_to, all_hold}
use Rattle.sp_cert.proofs.gather.alone_by_threads.Goals as goal
use Rattle.sp_cert.proofs.gather.alone_by_threads.Goals.{else-loop-count-test, then-loop-count-test+in_ok-count+then-count-size}

pub overflow_add-total : goal.overflow_add-total
overflow_add-total g c =
    let P = λ (proof : WindowProof). StandsAlone c.args.plan.now c.args.events.now c.args.windows.now.ended (seen proof) in
    let counts = c.in_ok-counts.counts.items in
    let n = c.loop-count.count-index in
    let size = length c.args.proofs.now / 16 + 1 in
    let known : get_or counts n (Ok 0) ≡ Ok c.in_ok-count.count = ap (λ l. get_or l n (Ok 0)) (sym c.deref-count-items.ensures.value) ∙ c.in_ok-count.was in
    let each = (c.in_ok-counts.ensures.each n (Ok 0) (omega arith)).1 in
    let led : Led P c.args.proofs.now size n (get_or counts n (Ok 0)) = record { part = each.argument.now; is = each.argument_is; leading = each.call } in
    let within = counted_within P c.args.proofs.now size n c.loop-count.total c.in_ok-count.count c.loop-count.invariant (get_or counts n (Ok 0)) led known in
    omega arith

pub loop-count-preserved : goal.loop-count-preserved
loop-count-preserved g c =
    let P = λ (proof : WindowProof). StandsAlone c.args.plan.now c.args.events.now c.args.windows.now.ended (seen proof) in
    let counts = c.in_ok-counts.counts.items in
    let n = c.loop-count.count-index in
    let size = length c.args.proofs.now / 16 + 1 in
    let known : get_or counts n (Ok 0) ≡ Ok c.in_ok-count.count = ap (λ l. get_or l n (Ok 0)) (sym c.deref-count-items.ensures.value) ∙ c.in_ok-count.was in
    let each = (c.in_ok-counts.ensures.each n (Ok 0) (omega arith)).1 in
    let led : Led P c.args.proofs.now size n (get_or counts n (Ok 0)) = record { part = each.argument.now; is = each.argument_is; leading = each.call } in
    counted_more P c.args.proofs.now size n c.loop-count.total c.in_ok-count.count c.loop-count.invariant (get_or counts n (Ok 0)) led known c.if-count-size.false

pub returns : goal.returns
returns g c =
    let P = λ (proof : WindowProof). StandsAlone c.args.plan.now c.args.events.now c.args.windows.now.ended (seen proof) in
    let counts = c.in_ok-counts.counts.items in
    let n = c.loop-count.count-index in
    let size = length c.args.proofs.now / 16 + 1 in
    elim c.loop-count-test.branch [
      | else-loop-count-test w ↦
          let many : n ≡ length c.args.proofs.now / size + min 1 (length c.args.proofs.now % size) = omega (arith, c.deref-count-items.ensures.len, c.in_ok-counts.ensures.len, w.loop-count-test.false) in
          subst (IsLeading P c.args.proofs.now) (sym w.total-is) (all_hold P c.args.proofs.now size n c.loop-count.total (omega arith) many c.loop-count.invariant)
      | then-loop-count-test+in_ok-count+then-count-size w ↦
          let known : get_or counts n (Ok 0) ≡ Ok w.in_ok-count.count = ap (λ l. get_or l n (Ok 0)) (sym c.deref-count-items.ensures.value) ∙ w.in_ok-count.was in
          let each = (c.in_ok-counts.ensures.each n (Ok 0) (omega (arith, w.loop-count-test.true))).1 in
          let led : Led P c.args.proofs.now size n (get_or counts n (Ok 0)) = record { part = each.argument.now; is = each.argument_is; leading = each.call } in
          subst (IsLeading P c.args.proofs.now) (sym w.total-is) (counted_to P c.args.proofs.now size n c.loop-count.total w.in_ok-count.count c.loop-count.invariant (get_or counts n (Ok 0)) led known w.if-count-size.true)
    ]
