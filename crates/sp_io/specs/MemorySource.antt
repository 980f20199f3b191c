-- A source in memory.
use Rattle.std.specs.Prelude.{◌≡◌, ℕ, ◌-◌, true, Option, Some, None}
use Rattle.sp_io.specs.declared.memory_source.MemSource.{MemSource}
use Rattle.sp_io.specs.ByteSource as byte_source
use Rattle.sp_io.specs.Outside.{SourceState, IsUsedUp}

-- the source as its callers see it: its bytes and its end are those of a source that never fails
abbrev pub source_state : MemSource → SourceState
source_state m = record (byte_source.source_state m.inner) { faults = m.failed }

-- how many bytes a call gives at most
abbrev pub piece_of : MemSource → ℕ
piece_of m = m.piece

abbrev pub less : Option ℕ → ℕ → Option ℕ
less None given = None
less (Some limit) given = Some (limit - given)

-- how many bytes are given yet before each call fails, where calls are to fail
abbrev pub until_fault : MemSource → Option ℕ
until_fault m = less m.fail_after m.inner.given

pub used_up : (m : MemSource) → (source_state m).ended ≡ true → IsUsedUp (source_state m).left
used_up m is = byte_source.used_up m.inner is
