-- Parts that are not too long for a row.
use Rattle.std.proofs.Common.{◌≡◌, ℕ, ◌-◌, ◌≤◌, Bool, true, false, List, length, take, drop, arith, length-drop}
use Rattle.std.specs.Prelude.{if◌then◌else◌, ◌==◌, slice_get}
use Rattle.std.proofs.lemmas.Bool.Decides.{nat_tests}
use Rattle.std.proofs.lemmas.List.{length-take}
use Rattle.sp_base.specs.Marks.{is_mark, without_mark}
use Rattle.sp_base.specs.Limits.{row_limit}
use Rattle.sp_cut.specs.CutRows.{is_cr, is_long, without_cr}
use Rattle.sp_cut.specs.Left.{Left}
use Rattle.sp_cut.specs.Part.{part_of}

-- one of two lists that are both no longer than this
shorter_choice : (b : Bool) (xs ys : List ℕ) (most : ℕ) → length xs ≤ most → length ys ≤ most → length (if b then xs else ys) ≤ most
shorter_choice true xs ys most first second = first
shorter_choice false xs ys most first second = second

-- without a carriage return no part is longer
cr_shorter : (part : List ℕ) → length (without_cr part) ≤ length part
cr_shorter part =
    shorter_choice (is_cr (slice_get part (length part - 1))) (take (length part - 1) part) part (length part) (omega (arith, length-take (length part - 1) part)) (omega arith)

-- nor without a byte order mark
mark_shorter : (bytes : List ℕ) → length (without_mark bytes) ≤ length bytes
mark_shorter bytes = shorter_choice (is_mark (take 3 bytes)) (drop 3 bytes) bytes (length bytes) (omega (arith, length-drop 3 bytes)) (omega arith)

-- so many bytes are no more as a part
part_shorter : (left : Left) (size : ℕ) → length (part_of left size) ≤ size
part_shorter left size =
    let first : length (take size left.bytes) ≤ size = omega (arith, length-take size left.bytes) in
    shorter_choice (left.given == 0) (without_mark (take size left.bytes)) (take size left.bytes) size (omega (arith, first, mark_shorter (take size left.bytes))) first

-- bytes that are not more than a row may have are not too long
pub not_long : (left : Left) (size : ℕ) → size ≤ row_limit → false ≡ is_long (part_of left size)
not_long left size few =
    let short : length (without_cr (part_of left size)) ≤ row_limit = omega (arith, few, cr_shorter (part_of left size), part_shorter left size) in
    grind (arith, nat_tests, short)
