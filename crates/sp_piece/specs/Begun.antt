-- The matcher of a piece.
use Rattle.std.specs.Prelude.{Option, Some, None}
use Rattle.sp_match.specs.public.Matching.{Matching}
use Rattle.sp_piece.specs.declared.own.Place.{Place}
use Rattle.sp_piece.specs.declared.own.Place.TheVariants.{Begun, Rooms}

-- the matcher that stands there, where it is no rooms for one
abbrev pub begun : Place → Option Matching
begun (Rooms worn) = None
begun (Begun m) = Some m
