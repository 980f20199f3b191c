use Rattle.std.proofs.Common.{◌≡◌, ◌+◌, ◌-◌, ◌*◌, ◌∷◌, [], ◌++◌, ℕ, map, ap, ◌∙◌, sym, arith, rules, append_assoc}
use Rattle.std.specs.List.{range_with_len}
use Rattle.std.proofs.lemmas.List.FromFn.{map-range_with_len_more}
use Rattle.sp_window.specs.declared.record.Limit.TheVariants.{AtTime}
use Rattle.sp_window.specs.declared.record.Record.{Record}
use Rattle.sp_window.specs.Openings as spec
use Rattle.sp_window.proofs.opening.open_spans.Goals as goal

pub loop-span-preserved : goal.loop-span-preserved
loop-span-preserved c =
    let f : ℕ → Record = λ k. spec.open_at c.args.number (AtTime (k * c.args.step + c.args.size)) in
    let before = c.args.records.now.items in
    let span = c.loop-span.span in
    let size : span + 1 - c.args.first ≡ span - c.args.first + 1 = omega arith in
    let at : c.args.first + (span - c.args.first) ≡ span = omega arith in
    let pushed : c.push.new.self.items ≡ c.loop-span.records.items ++ f span ∷ [] = search rules in
    let items = pushed ∙ ap (λ l. l ++ f span ∷ []) c.loop-span.invariant.items ∙ append_assoc before (map f (range_with_len c.args.first (span - c.args.first))) (f span ∷ [])
    ∙ ap (λ l. before ++ l) (sym (map-range_with_len_more f c.args.first (span - c.args.first) span at) ∙ ap (λ n. map f (range_with_len c.args.first n)) (sym size)) in
    record { items = items; within = omega arith }

pub returns-clause-opened : goal.returns-clause-opened
returns-clause-opened c =
    let f : ℕ → Record = λ k. spec.open_at c.args.number (AtTime (k * c.args.step + c.args.size)) in
    let size : c.loop-span.span - c.args.first ≡ c.args.end - c.args.first = omega arith in
    c.loop-span.invariant.items ∙ ap (λ n. c.args.records.now.items ++ map f (range_with_len c.args.first n)) size
