-- A label with the membership of one run turned round. No public clause cites this.
use Rattle.std.specs.Prelude.{ℕ, List, not, filter, ◌==◌, if◌then◌else◌}
use Rattle.sp_base.specs.Numbers.{is_among, with_number}

abbrev pub turned_round : List ℕ → ℕ → List ℕ
turned_round label run = if is_among label run then filter (λ r. not (r == run)) label else with_number label run
