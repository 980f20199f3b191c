use Rattle.std.proofs.Common.{◌≡◌, length, subst, arith}
use Rattle.sp_parts.specs.Stretches.{IsStretch, as_window, windows_of}
use Rattle.sp_parts.proofs.Stretching.{begun, gone_on, stopped, all_gone}
use Rattle.sp_parts.proofs.stretch.stretch_end.Goals as goal

pub loop-place-init : goal.loop-place-init
loop-place-init c = begun (windows_of c.args.windows.now c.args.events.now) c.args.begin (as_window c.span_at-last.result) c.span_at-last.ensures

pub loop-place-preserved : goal.loop-place-preserved
loop-place-preserved c =
    gone_on (windows_of c.args.windows.now c.args.events.now) c.args.begin c.loop-place.place c.loop-place.last (as_window c.span_at-span.result) c.loop-place.invariant c.span_at-span.ensures c.if-span-last.false

pub returns-then-span-last : goal.returns-then-span-last
returns-then-span-last c =
    stopped (windows_of c.args.windows.now c.args.events.now) c.args.begin c.loop-place.place c.loop-place.last (as_window c.span_at-span.result) c.loop-place.invariant c.span_at-span.ensures c.if-span-last.true

pub returns : goal.returns
returns c =
    let w = c.args.windows.now in
    let ws = windows_of w c.args.events.now in
    let count : c.count-count.result ≡ length ws = c.count-count.ensures c.args.events.now w.ended c.requires.stands in
    let high = c.loop-place.invariant.within in
    let all : c.loop-place.place ≡ c.count-count.result = omega arith in
    subst (IsStretch ws c.args.begin) all (all_gone ws c.args.begin c.loop-place.place c.loop-place.last c.loop-place.invariant (omega arith))
