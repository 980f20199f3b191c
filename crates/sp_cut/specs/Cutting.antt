-- How a cutter keeps what is left.
use Rattle.std.specs.Prelude.{◌≤◌, length, drop}
use Rattle.sp_cut.specs.declared.cut.Cutter.TheInside.{Inside}
use Rattle.sp_cut.specs.Left.{Left}
use Rattle.sp_cut.specs.Scan.{IsScanned}

-- the bytes behind those of the rows given
abbrev pub left_of : Inside → Left
left_of a = record { bytes = drop a.start a.bytes.items; given = a.given; ended = a.ended }

-- the first of the bytes that are left were gone through
pub record IsCutting (a : Inside) : Type 0 where
  pub within : a.start ≤ length a.bytes.items
  pub scanned : IsScanned (drop a.start a.bytes.items) a.scanned a.quoted
