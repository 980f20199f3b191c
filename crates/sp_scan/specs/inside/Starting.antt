-- Whether an event may start a run: what the open runs say of it when it comes, and what its handling has come to.
use Rattle.std.specs.Prelude.{ℕ, Bool, true, false, not, ◌&&◌, List, [], ◌∷◌, is_none, nat_lt}
use Rattle.std.specs.List.{list_all}
use Rattle.sp_base.specs.Numbers.{is_among}
use Rattle.sp_plan.specs.declared.event.Event.{Event}
use Rattle.sp_plan.specs.declared.plan.Plan.{Plan}
use Rattle.sp_plan.specs.declared.plan.Select.{Select}
use Rattle.sp_plan.specs.declared.plan.Select.TheVariants.{First, Last, Each}
use Rattle.sp_plan.specs.Runs.{Run, takes}

-- whether there is no run
abbrev pub is_idle : List Run → Bool
is_idle [] = true
is_idle (run ∷ runs) = false

-- whether the runs that are open when the event comes let it start one: none is open, or none takes it
abbrev pub are_free : Select → Plan → List Run → Event → Bool
are_free First q runs e = is_idle runs
are_free Last q runs e = list_all (λ run. is_none (takes q run e)) runs
are_free Each q runs e = true

-- whether its handling lets it start one, in which these numbers were used and so many runs kept
abbrev pub has_room : Select → List ℕ → ℕ → ℕ → Bool
has_room First taken count number = true
has_room Last taken count number = true
has_room Each taken count number = not (is_among taken number) && nat_lt count 64
