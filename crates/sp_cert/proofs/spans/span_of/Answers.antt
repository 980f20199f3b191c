use Rattle.std.proofs.Common.{◌≡◌, Some, sym, ap, subst}
use Rattle.sp_window.specs.declared.windows.Window.{Window}
use Rattle.sp_cert.specs.Spans.{IsSpan}
use Rattle.sp_cert.proofs.Shown.{ends}
use Rattle.sp_cert.proofs.spans.span_of.Goals as goal

pub unreachable-requires : goal.unreachable-requires
unreachable-requires c =
    let w = c.args.windows.now in
    let its = ends c.args.plan.now c.args.events.now w c.args.number c.get.result c.requires.windows c.requires.low c.requires.closed (c.get.ensures c.args.events.now w.ended c.requires.windows.stands) in
    c.in_default.not-Some (record { first = its.from; end = Some its.until }) its.is

pub unreachable-requires-in_default-end : goal.unreachable-requires-in_default-end
unreachable-requires-in_default-end c =
    let w = c.args.windows.now in
    let its = ends c.args.plan.now c.args.events.now w c.args.number c.get.result c.requires.windows c.requires.low c.requires.closed (c.get.ensures c.args.events.now w.ended c.requires.windows.stands) in
    let same : c.in-Some.window ≡ record { first = its.from; end = Some its.until } = cc (c.in-Some.is, its.is) in
    c.in_default-end.not-Some its.until (ap (λ (x : Window). x.end) same)

pub returns : goal.returns
returns c =
    let w = c.args.windows.now in
    let its = ends c.args.plan.now c.args.events.now w c.args.number c.get.result c.requires.windows c.requires.low c.requires.closed (c.get.ensures c.args.events.now w.ended c.requires.windows.stands) in
    let same : c.in-Some.window ≡ record { first = its.from; end = Some its.until } = cc (c.in-Some.is, its.is) in
    let last : its.until ≡ c.in-Some-end.last = cc (c.in-Some-end.is, ap (λ (x : Window). x.end) same) in
    subst (IsSpan c.args.plan.now c.args.events.now c.args.number c.in-Some.window.first) last
    (subst (λ f. IsSpan c.args.plan.now c.args.events.now c.args.number f its.until) (ap (λ (x : Window). x.first) (sym same)) its.span)
