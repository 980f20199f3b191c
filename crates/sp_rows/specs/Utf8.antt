-- Cells whose texts are UTF-8.
use Rattle.std.specs.Prelude.{◌≡◌, true}
use Rattle.std.specs.Str.{is_utf8}
use Rattle.sp_rows.specs.Rows.{Cell, number, text, fault}

-- where a cell gives a text, it is UTF-8
abbrev pub GivesUtf8 : Cell → Type 0
GivesUtf8 (number n) = Unit {0}
GivesUtf8 (text t) = is_utf8 t ≡ true
GivesUtf8 (fault kind) = Unit {0}
