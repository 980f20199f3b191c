-- Which events a version has read and not skipped, and which of them it should not have.
use Rattle.std.specs.Prelude.{◌≡◌, ℕ, ◌+◌, Bool, not, ◌&&◌, nat_le, nat_lt, List, Option}
use Rattle.sp_base.specs.Numbers.{is_among}
use Rattle.sp_plan.specs.declared.event.Event.{Event}
use Rattle.sp_plan.specs.declared.plan.Plan.{Plan}
use Rattle.sp_plan.specs.WindowNumbers.{first}
use Rattle.sp_group.specs.Machine as machine
use Rattle.sp_group.specs.Machine.{is_read}
use Rattle.sp_group.specs.Rising.{least}
use Rattle.sp_version.specs.declared.version.Version.{Version}

-- whether it has read the event of this number, and did not skip it
abbrev pub reads : Version → ℕ → Bool
reads v i = nat_le v.first i && nat_lt i (v.first + v.position) && not (is_among v.skipped.list i)

-- the least of some numbers that is one of so many from first on, and is not skipped
abbrev pub least_unskipped : List ℕ → ℕ → ℕ → List ℕ → Option ℕ
least_unskipped numbers first count skipped =
    least (λ i. is_among numbers i && (nat_le first i && nat_lt i (first + count) && not (is_among skipped i))) first count

-- the least event that it has read, did not skip, and that is suppressed
abbrev pub conflict : Version → List ℕ → Option ℕ
conflict v suppressed = least (λ i. is_among suppressed i && reads v i) v.first v.position

-- it is, with its window's first event, what the machine's version is
pub record IsVersion (q : Plan) (events : List Event) (v : Version) (w : machine.Version) : Type 0 where
  pub first : v.first ≡ first q events w.window
  pub position : v.position ≡ w.position
  pub skipped : v.skipped.list ≡ w.skipped

-- It has read and not skipped what the machine's version has.
abbrev pub ReadsAlike : Type 0
ReadsAlike = (q : Plan) (events : List Event) (v : Version) (w : machine.Version) → IsVersion q events v w → (i : ℕ) → reads v i ≡ is_read q events w i
