use Rattle.std.proofs.lemmas.Str.{is_utf8-from_IsUtf8}
use Rattle.sp_rows.proofs.texts.Texts.of.Goals as goal

pub find-requires : goal.find-requires
find-requires c = is_utf8-from_IsUtf8 c.as_bytes.result.now c.as_bytes.ensures.utf8
