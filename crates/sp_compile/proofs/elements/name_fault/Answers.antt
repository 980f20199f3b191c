use Rattle.std.proofs.Common.{◌≡◌, true, false, length, map, refl, ap, sym, ◌∙◌, arith}
use Rattle.std.specs.Prelude.{nat_le, is_some}
use Rattle.sp_compile.specs.Checks.{is_among}
use Rattle.sp_compile.proofs.Limits.{text_of}
use Rattle.sp_compile.proofs.Taken.{place_among, few_names}
use Rattle.sp_compile.proofs.elements.name_fault.Goals as goal

pub returns-then-is_some : goal.returns-then-is_some
returns-then-is_some c =
    let before = c.args.before.now in
    let few : nat_le 32 (length (map text_of before)) ≡ false = few_names text_of before 32 (omega arith) in
    let taken : is_among (map text_of before) c.args.name.now.text ≡ true = sym (place_among text_of before c.args.name.now.text) ∙ sym (ap is_some c.name_place.ensures) ∙ sym c.is_some.ensures ∙ c.if-is_some.true in
    rw (few, taken) refl

pub returns-else-is_some : goal.returns-else-is_some
returns-else-is_some c =
    let before = c.args.before.now in
    let few : nat_le 32 (length (map text_of before)) ≡ false = few_names text_of before 32 (omega arith) in
    let free : is_among (map text_of before) c.args.name.now.text ≡ false = sym (place_among text_of before c.args.name.now.text) ∙ sym (ap is_some c.name_place.ensures) ∙ sym c.is_some.ensures ∙ c.if-is_some.false in
    rw (few, free) refl
