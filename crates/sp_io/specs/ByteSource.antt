-- A source in memory that never fails.
use Rattle.std.specs.Prelude.{◌≡◌, ℕ, List, [], Bool, true, false, drop, Some, refl}
use Rattle.sp_io.specs.declared.byte_source.ByteSource.{ByteSource}
use Rattle.sp_io.specs.Outside.{SourceState, IsUsedUp}

-- the bytes that are left; none where the source has ended
abbrev pub rest_of : Bool → List ℕ → List ℕ
rest_of true bytes = []
rest_of false bytes = bytes

-- the source as its callers see it: it has no faults
abbrev pub source_state : ByteSource → SourceState
source_state b = record { left = Some (rest_of b.ended (drop b.given b.bytes.items)); faults = 0; ended = b.ended }

pub used_up_by : (ended : Bool) (bytes : List ℕ) → ended ≡ true → rest_of ended bytes ≡ []
used_up_by true bytes is = refl
used_up_by false bytes is = cc

pub used_up : (b : ByteSource) → (source_state b).ended ≡ true → IsUsedUp (source_state b).left
used_up b is = used_up_by b.ended (drop b.given b.bytes.items) is
