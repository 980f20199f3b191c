use Rattle.std.proofs.Common.{◌++◌, [], ◌∷◌, List, Global, map, sym, ◌∙◌, ap}
use Rattle.std.specs.Prelude.{String, string_bytes}
use Rattle.std.proofs.lemmas.List.{map-append}
use Rattle.sp_rows.proofs.Walks.{next_taken}
use Rattle.sp_intake.specs.Reader.{texts_of}
use Rattle.sp_intake.specs.RowsSeen.{reader_of}
use Rattle.sp_intake.proofs.reader.RowReader.texts.Goals as goal

pub loop-number-preserved : goal.loop-number-preserved
loop-number-preserved c =
    let told = c.in_ok-from_str-in-Some.field-0 in
    ap (λ (texts : List (String Global)). map string_bytes texts) c.in_ok-push-in-Some.ensures.items
    ∙ map-append string_bytes c.loop-number.texts.items (told ∷ [])
    ∙ (λ i. c.loop-number.invariant i ++ c.in_ok-from_str-in-Some.ensures.ok i ∷ [])
    ∙ sym (next_taken (texts_of (reader_of c.args.self.now)) c.loop-number.number c.in-Some.text.now (sym c.in-Some.ensures))
