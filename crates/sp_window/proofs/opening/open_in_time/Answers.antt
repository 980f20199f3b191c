use Rattle.std.proofs.Common.{◌+◌, ◌-◌, ◌*◌, ◌/◌, ◌++◌, ℕ, map, ap, ◌∙◌, sym}
use Rattle.std.specs.List.{range_with_len}
use Rattle.sp_window.specs.declared.record.Limit.TheVariants.{AtTime}
use Rattle.sp_window.specs.declared.record.Record.{Record}
use Rattle.sp_window.specs.Openings as spec
use Rattle.sp_window.proofs.Spans.{begun_is}
use Rattle.sp_window.proofs.opening.open_in_time.Goals as goal

pub returns-clause-opened : goal.returns-clause-opened
returns-clause-opened c =
    let f : ℕ → Record = λ k. spec.open_at c.args.number (AtTime (k * c.args.step + c.args.size)) in
    let end = c.args.time / c.args.step + 1 in
    let first = c.first_span-first.ensures in
    c.in_ok-open_spans.ensures.opened
    ∙ ap (λ n. c.args.records.now.items ++ map f (range_with_len n (end - n))) first
    ∙ ap (λ l. c.args.records.now.items ++ map f l) (sym (begun_is c.args.step c.args.size c.args.next c.args.time c.requires.step))
