-- The printed code of a fault, and its place.
use Rattle.std.specs.Prelude.{ℕ}
use Rattle.sp_compile.specs.declared.fault.CompileFault.{CompileFault}
use Rattle.sp_compile.specs.declared.fault.CompileFault.TheVariants as f

-- 21 to 30; want of memory has none
abbrev pub code_of : CompileFault → ℕ
code_of (f.Unknown span) = 21
code_of (f.Twice span) = 22
code_of (f.WrongKind span) = 23
code_of (f.PlusLast span) = 24
code_of (f.LateReference span) = 25
code_of (f.TooWide span) = 26
code_of (f.BadWindow span) = 27
code_of (f.TooMany span) = 28
code_of (f.NeverEnds span) = 29
code_of (f.NeverBound span) = 30
code_of f.Memory = 0

-- where its part of the text begins
abbrev pub place_of : CompileFault → ℕ
place_of (f.Unknown span) = span.from
place_of (f.Twice span) = span.from
place_of (f.WrongKind span) = span.from
place_of (f.PlusLast span) = span.from
place_of (f.LateReference span) = span.from
place_of (f.TooWide span) = span.from
place_of (f.BadWindow span) = span.from
place_of (f.TooMany span) = span.from
place_of (f.NeverEnds span) = span.from
place_of (f.NeverBound span) = span.from
place_of f.Memory = 0
