use Rattle.std.proofs.Common.{◌≡◌, Some, length, arith, ap, sym, ◌∙◌}
use Rattle.std.specs.Prelude.{is_some, unwrap_or}
use Rattle.std.specs.Option.{option_map}
use Rattle.sp_plan.specs.Windows.{Window}
use Rattle.sp_window.specs.declared.windows.Window as shown_as
use Rattle.sp_window.specs.Standing.{shown}
use Rattle.sp_parts.proofs.Stretching.{few_windows, at_place, shown_is}
use Rattle.sp_parts.proofs.stretch.span_at.Goals as goal

pub overflow_add-place : goal.overflow_add-place
overflow_add-place c =
    let w = c.args.windows.now in
    let few = few_windows w.plan c.requires.compiled.windowed c.args.events.now w.ended c.requires.stands.good in
    let most = c.requires.stands.few in
    omega arith

pub unreachable-requires : goal.unreachable-requires
unreachable-requires c =
    let w = c.args.windows.now in
    let at = at_place w.plan c.requires.compiled.windowed c.args.events.now w.ended c.requires.stands.good c.args.place c.requires.within in
    c.in_default.not-Some (shown at.w) (c.get.ensures c.args.events.now w.ended c.requires.stands ∙ ap (option_map shown) at.by_number)

pub returns : goal.returns
returns c =
    let w = c.args.windows.now in
    let n = length c.args.events.now in
    let at = at_place w.plan c.requires.compiled.windowed c.args.events.now w.ended c.requires.stands.good c.args.place c.requires.within in
    let got : c.get.result ≡ Some (shown at.w) = c.get.ensures c.args.events.now w.ended c.requires.stands ∙ ap (option_map shown) at.by_number in
    let same : shown at.w ≡ c.in-Some.window = cc (c.in-Some.is, got) in
    let first = ap (λ (x : shown_as.Window). x.first) same in
    let last = ap (λ (x : shown_as.Window). unwrap_or x.end n) same ∙ sym c.unwrap_or.ensures in
    let closed = ap (λ (x : shown_as.Window). is_some x.end) same ∙ sym c.is_some.ensures in
    at.here ∙ ap (λ (x : Window). Some x) (sym (shown_is n at.w at.own)) ∙ (λ i. Some (record { first = first i; last = last i; closed = closed i }))
