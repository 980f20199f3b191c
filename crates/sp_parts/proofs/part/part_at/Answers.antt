use Rattle.std.proofs.Common.{◌-◌, ◌∙◌, sym}
use Rattle.sp_parts.specs.Stretches.{as_window}
use Rattle.sp_parts.proofs.Stretching.{own_at, in_order, stretch_part}
use Rattle.sp_parts.proofs.part.part_at.Goals as goal

pub events_between-own-requires-clause-low : goal.events_between-own-requires-clause-low
events_between-own-requires-clause-low c =
    let w = c.args.windows.now in
    (own_at w.plan c.requires.compiled.windowed c.args.events.now w.ended c.requires.stands.good c.args.begin c.args.end c.args.begin (as_window c.span_at-first.result) c.span_at-first.ensures).low

pub events_between-own-requires-clause-some : goal.events_between-own-requires-clause-some
events_between-own-requires-clause-some c =
    let w = c.args.windows.now in
    in_order w.plan c.requires.compiled.windowed c.args.events.now w.ended c.requires.stands.good c.args.begin c.args.end c.requires.stretch (as_window c.span_at-first.result) (as_window c.span_at-last.result) c.span_at-first.ensures c.span_at-last.ensures

pub events_between-own-requires-clause-within : goal.events_between-own-requires-clause-within
events_between-own-requires-clause-within c =
    let w = c.args.windows.now in
    (own_at w.plan c.requires.compiled.windowed c.args.events.now w.ended c.requires.stands.good c.args.begin c.args.end (c.args.end - 1) (as_window c.span_at-last.result) c.span_at-last.ensures).high

pub returns : goal.returns
returns c =
    let w = c.args.windows.now in
    let own = c.in_ok-copies.ensures ∙ c.events_between-own.ensures in
    let same = stretch_part w.plan c.requires.compiled.windowed c.args.events.now w.ended c.requires.stands.good c.args.begin c.args.end c.requires.stretch (as_window c.span_at-first.result) (as_window c.span_at-last.result) c.span_at-first.ensures c.span_at-last.ensures in
    (λ i. record { first = c.span_at-first.result.first; windows = c.args.begin; closed = c.span_at-last.result.closed; events = own i }) ∙ sym same
