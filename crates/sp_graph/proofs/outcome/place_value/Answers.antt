use Rattle.std.proofs.Common.{rules, ◌≡◌, refl, sym, ◌∙◌, ap, subst, map, string_bytes, to_z, of_z}
use Rattle.std.specs.Prelude.{Some, unsigned_abs}
use Rattle.std.specs.Int.{w128}
use Rattle.std.proofs.lemmas.Int.{to_z-of_z}
use Rattle.sp_plan.specs.declared.event.Value.TheVariants.{Symbol}
use Rattle.sp_plan.specs.declared.plan.Kind.{Kind}
use Rattle.sp_plan.specs.Texts.{symbol_of, with_text}
use Rattle.sp_graph.specs.Derived.{text_at, value_of}
use Rattle.sp_graph.specs.Answers.{IsPlaced}
use Rattle.sp_graph.proofs.outcome.place_value.Goals as goal

pub returns-in_ok-symbol-in-Text-clause-value : goal.returns-in_ok-symbol-in-Text-clause-value
returns-in_ok-symbol-in-Text-clause-value c =
    let texts = map string_bytes c.args.texts.now in
    let known = c.args.table.now.known in
    let number = c.args.number in
    let itself : to_z w128 (of_z w128 number) ≡ number = search (rules, to_z-of_z) in
    let text : text_at texts c.place_of-place.result ≡ text_at texts (unsigned_abs number) =
    c.place_of-place.ensures ∙ ap (text_at texts) (c.unsigned_abs.ensures.value ∙ ap unsigned_abs itself) in
    let symbol : c.in_ok-symbol-in-Text.symbol ≡ symbol_of known (text_at texts (unsigned_abs number)) =
    c.in_ok-symbol-in-Text.ensures.number ∙ ap (symbol_of known) text in
    let after : c.number.new.self.known ≡ with_text known (text_at texts (unsigned_abs number)) =
    c.in_ok-symbol-in-Text.ensures.known ∙ ap (with_text known) text in
    subst (λ (kind : Kind). IsPlaced texts known (value_of kind number) (Some (Symbol c.in_ok-symbol-in-Text.symbol)) c.number.new.self.known) (sym c.in-Text.is)
    (refl, (λ j. (Symbol (symbol j), after j)))
