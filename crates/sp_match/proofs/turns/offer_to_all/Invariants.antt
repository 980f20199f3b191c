use Rattle.std.proofs.Common.{◌≡◌, [], map}
use Rattle.sp_plan.specs.Runs.{State}
use Rattle.sp_match.specs.inside.Kept.{kept, started}
use Rattle.sp_match.specs.inside.Good.{Undoes}
use Rattle.sp_match.specs.inside.Going.{Going}
use Rattle.sp_match.specs.inside.Offer.{IsShared}
use Rattle.sp_match.specs.public.Seen.{seen}
use Rattle.sp_match.proofs.turns.offer_to_all.Given as goal

abbrev pub invariant-loop-at : goal.invariant-loop-at
invariant-loop-at l = record {
  going : (s : State) → s.open_runs ≡ map started (map kept l.initial.runs) → Going l.offer.plan.now (l.offer.number, l.offer.event.now) s (map kept l.initial.runs) l.at (map kept l.runs) (map seen l.list.items) l.so_far;
  quiet : map seen l.list.items ≡ [] → map kept l.runs ≡ map kept l.initial.runs;
  shared : IsShared l.offer l.shared;
  undoes : Undoes l.offer.plan.now l.offer.number (map kept l.initial.runs) (map kept l.runs);
}
