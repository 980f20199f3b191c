use Rattle.std.proofs.Common.{◌≡◌, ◌∙◌, ap, arith}
use Rattle.sp_window.specs.declared.windows.Window.{Window}
use Rattle.sp_seq.proofs.Spanning.{shows, spans, first_low}
use Rattle.sp_seq.proofs.engine.closed_window.Goals as goal

pub unreachable-requires : goal.unreachable-requires
unreachable-requires c =
    let w = c.args.windows.now in
    let of = c.requires.compiled.windowed in
    let shown = shows w.plan c.args.events.now w.ended c.args.number (c.windows_hold.ensures w.plan of) (c.closed_come_first.ensures w.plan of) c.requires.stands.good c.requires.some c.requires.closed in
    c.in_default.not-Some shown.window (c.get.ensures c.args.events.now w.ended c.requires.stands ∙ shown.is)

pub unreachable-requires-in_default-end : goal.unreachable-requires-in_default-end
unreachable-requires-in_default-end c =
    let w = c.args.windows.now in
    let of = c.requires.compiled.windowed in
    let shown = shows w.plan c.args.events.now w.ended c.args.number (c.windows_hold.ensures w.plan of) (c.closed_come_first.ensures w.plan of) c.requires.stands.good c.requires.some c.requires.closed in
    let same : c.in-Some.window ≡ shown.window = cc (c.in-Some.is, c.get.ensures c.args.events.now w.ended c.requires.stands, shown.is) in
    c.in_default-end.not-Some shown.end (ap (λ (x : Window). x.end) same ∙ shown.end_is)

pub overflow_sub-result : goal.overflow_sub-result
overflow_sub-result c =
    let w = c.args.windows.now in
    let of = c.requires.compiled.windowed in
    let holds = c.windows_hold.ensures w.plan of in
    let front = c.closed_come_first.ensures w.plan of in
    let shown = shows w.plan c.args.events.now w.ended c.args.number holds front c.requires.stands.good c.requires.some c.requires.closed in
    let low = first_low w.plan c.args.events.now w.ended c.args.number holds front c.requires.stands.good c.requires.some c.requires.closed in
    let same : c.in-Some.window ≡ shown.window = cc (c.in-Some.is, c.get.ensures c.args.events.now w.ended c.requires.stands, shown.is) in
    omega (arith, low, ap (λ (x : Window). x.first) same, shown.first_is)

pub returns-clause-span : goal.returns-clause-span
returns-clause-span c =
    let w = c.args.windows.now in
    let of = c.requires.compiled.windowed in
    let holds = c.windows_hold.ensures w.plan of in
    let front = c.closed_come_first.ensures w.plan of in
    let shown = shows w.plan c.args.events.now w.ended c.args.number holds front c.requires.stands.good c.requires.some c.requires.closed in
    let same : c.in-Some.window ≡ shown.window = cc (c.in-Some.is, c.get.ensures c.args.events.now w.ended c.requires.stands, shown.is) in
    let last : c.in-Some-end.end ≡ shown.end = cc (c.in-Some-end.is, ap (λ (x : Window). x.end) same, shown.end_is) in
    spans w.plan c.args.events.now w.ended c.args.number holds front c.requires.stands.good c.requires.some c.requires.closed c.in-Some.window.first c.in-Some-end.end
    (ap (λ (x : Window). x.first) same ∙ shown.first_is) (omega (arith, last, shown.size_is))
