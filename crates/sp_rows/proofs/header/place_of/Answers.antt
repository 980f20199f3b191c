use Rattle.std.proofs.Common.{◌≡◌, ℕ, ◌<◌, ◌≤◌, true, List, [], length, get_or, ◌∙◌, ap, sym, arith}
use Rattle.std.specs.Str.{bytes_eq}
use Rattle.sp_rows.specs.Numbers.{trimmed}
use Rattle.sp_rows.specs.Shapes.{fields_in}
use Rattle.sp_rows.proofs.FirstPlace.{place_here, place_nowhere}
use Rattle.sp_rows.proofs.header.place_of.Goals as goal

pub returns-then-is_named : goal.returns-then-is_named
returns-then-is_named c =
    let cells = fields_in c.args.cells.now in
    let place = c.loop-place.place in
    let named : bytes_eq (trimmed (get_or cells place [])) c.args.column.now.name ≡ true =
    ap (bytes_eq (trimmed (get_or cells place []))) (sym (c.as_bytes-name.ensures.value ∙ c.as_str.ensures)) ∙ sym c.is_named.ensures ∙ c.if-is_named.true in
    let inside : place < length cells = omega (arith, c.len-place-end.ensures) in
    sym (place_here (λ (cell : List ℕ). bytes_eq (trimmed cell) c.args.column.now.name) cells place [] inside c.loop-place.invariant named)

pub returns : goal.returns
returns c =
    let cells = fields_in c.args.cells.now in
    let past : length cells ≤ c.loop-place.place = omega (arith, c.len-place-end.ensures) in
    sym (place_nowhere (λ (cell : List ℕ). bytes_eq (trimmed cell) c.args.column.now.name) cells c.loop-place.place [] past c.loop-place.invariant)
