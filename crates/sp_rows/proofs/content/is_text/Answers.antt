use Rattle.std.proofs.Common.{◌∙◌, sym}
use Rattle.std.proofs.lemmas.Str.{IsUtf8-from_ascii, is_utf8-from_IsUtf8}
use Rattle.sp_rows.proofs.Utf8.{is_text_is}
use Rattle.sp_rows.proofs.content.is_text.Goals as goal

pub returns-then-is_ascii : goal.returns-then-is_ascii
returns-then-is_ascii c =
    let cell = c.args.cell.now in
    sym (is_utf8-from_IsUtf8 cell (IsUtf8-from_ascii cell (rw c.if-is_ascii.true at c.is_ascii.ensures.cases)))

pub returns : goal.returns
returns c = c.is_ok.ensures.value ∙ is_text_is _ _ c.args.cell.now c.from_utf8.result c.from_utf8.ensures.cases
