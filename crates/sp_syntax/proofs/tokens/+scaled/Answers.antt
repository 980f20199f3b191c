use Rattle.std.proofs.Common.{◌≡◌, ◌∷◌, ◌++◌, [], ◌+◌, ◌-◌, ◌/◌, ◌%◌, arith, subst, sym}
use Rattle.std.specs.Fmt.{decimal}
use Rattle.sp_syntax.specs.Printing.{IsDecimalOf}
use Rattle.sp_syntax.proofs.Adding.{adds_text, adds_before}
use Rattle.sp_syntax.proofs.Numbers.{without_decimals, one_decimal_more}
use Rattle.sp_syntax.proofs.tokens.+scaled.Goals as goal

pub returns-then-scale-eq0 : goal.returns-then-scale-eq0
returns-then-scale-eq0 t c =
    let units = c.args.units in
    adds_text _ _ (decimal units ++ 46 ∷ []) (IsDecimalOf units c.args.scale) c.in_ok-write.ensures.bytes
    (subst (λ z. IsDecimalOf units z (decimal units ++ 46 ∷ [])) (sym c.if-scale-eq0.true) (without_decimals units (omega (arith, c.ranges.units.fits))))

pub returns : goal.returns
returns t c =
    let units = c.args.units in
    let scale = c.args.scale in
    let one : (scale - 1) + 1 ≡ scale = omega arith in
    adds_before _ _ _ (decimal (units % 10)) (IsDecimalOf (units / 10) (scale - 1)) (IsDecimalOf units scale) c.in_ok-scaled.ensures c.in_ok-write-2.ensures.bytes
    (λ y p. subst (λ z. IsDecimalOf units z (y ++ decimal (units % 10))) one (one_decimal_more units (scale - 1) y p))
