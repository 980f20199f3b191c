-- How often a list told that there are no more.
use Rattle.std.proofs.Common.{◌≡◌, ◌≤◌, ℕ, Bool, true, false, List, [], ◌∷◌, subst, sym, arith}
use Rattle.std.specs.Prelude.{if◌then◌else◌}
use Rattle.sp_plan.specs.declared.event.Event.{Event}
use Rattle.sp_ports.specs.Stopping.{is_end}
use Rattle.sp_lists.specs.Listing.{Listing, after, after_of, stops_of}

stops_by : (ends : Bool) (m n : ℕ) → m ≤ n → (if ends then 0 else m) ≤ (if ends then 0 else n)
stops_by true m n le = omega arith
stops_by false m n le = le

stops_behind : (l : Listing) (events : List Event) → stops_of l ≤ stops_of (after_of l events)
stops_behind l [] = stops_by (is_end l.stop) l.told (after_of l []).told (omega arith)
stops_behind l (e ∷ events) = stops_by (is_end l.stop) l.told l.told (omega arith)

-- the count of stops never falls
pub never_falls : (old new : Listing) → new ≡ after old → stops_of old ≤ stops_of new
never_falls old new is = subst (λ (l : Listing). stops_of old ≤ stops_of l) (sym is) (stops_behind old old.left)
