use Rattle.std.proofs.Common.{◌≡◌, true, false, length, map, refl, ap, sym, ◌∙◌, arith}
use Rattle.std.specs.Prelude.{nat_le, is_some}
use Rattle.sp_compile.specs.Checks.{is_among}
use Rattle.sp_compile.proofs.Limits.{name_of}
use Rattle.sp_compile.proofs.Taken.{place_among, few_names}
use Rattle.sp_compile.proofs.columns.column_fault.Goals as goal

pub returns-then-is_some : goal.returns-then-is_some
returns-then-is_some c =
    let before = c.args.before.now in
    let few : nat_le 64 (length (map name_of before)) ≡ false = few_names name_of before 64 (omega arith) in
    let taken : is_among (map name_of before) c.args.column.now.name.text ≡ true = sym (place_among name_of before c.args.column.now.name.text) ∙ sym (ap is_some c.column_place.ensures) ∙ sym c.is_some.ensures ∙ c.if-is_some.true in
    rw (few, taken) refl

pub returns-then-has_wrong_digits : goal.returns-then-has_wrong_digits
returns-then-has_wrong_digits c =
    let before = c.args.before.now in
    let few : nat_le 64 (length (map name_of before)) ≡ false = few_names name_of before 64 (omega arith) in
    let free : is_among (map name_of before) c.args.column.now.name.text ≡ false = sym (place_among name_of before c.args.column.now.name.text) ∙ sym (ap is_some c.column_place.ensures) ∙ sym c.is_some.ensures ∙ c.if-is_some.false in
    rw (few, free, ← c.has_wrong_digits.ensures, c.if-has_wrong_digits.true) refl

pub returns-else-has_wrong_digits : goal.returns-else-has_wrong_digits
returns-else-has_wrong_digits c =
    let before = c.args.before.now in
    let few : nat_le 64 (length (map name_of before)) ≡ false = few_names name_of before 64 (omega arith) in
    let free : is_among (map name_of before) c.args.column.now.name.text ≡ false = sym (place_among name_of before c.args.column.now.name.text) ∙ sym (ap is_some c.column_place.ensures) ∙ sym c.is_some.ensures ∙ c.if-is_some.false in
    rw (few, free, ← c.has_wrong_digits.ensures, c.if-has_wrong_digits.false) refl
