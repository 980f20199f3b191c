-- How many versions of a state of the machine are out for reading, ready for it, or either.
use Rattle.std.specs.Prelude.{ℕ, List, filter, length}
use Rattle.sp_plan.specs.declared.plan.Plan.{Plan}
use Rattle.sp_group.specs.Machine.{Version, Machine, is_out}
use Rattle.sp_group.specs.Steps.{is_busy, is_ready}

-- the live versions for which a ticket is out
abbrev pub out_versions : Machine → List Version
out_versions m = filter (λ v. is_out m.tickets v.id) m.versions

-- the live versions that could be leased
abbrev pub ready_versions : Plan → ℕ → Machine → List Version
ready_versions q bound m = filter (is_ready q bound m) m.versions

abbrev pub busy_count : Plan → ℕ → Machine → ℕ
busy_count q bound m = length (filter (is_busy q bound m) m.versions)
