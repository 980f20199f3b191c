-- How a run came about, and one that ended before it began.
use Rattle.std.proofs.Common.{◌≡◌, ℕ, zero, suc, ◌+◌, ◌<◌, Bool, false, List, [], take, Option, refl, sym, subst, ap, ◌∙◌, arith}
use Rattle.std.specs.Prelude.{Ok, Err, IfOk}
use Rattle.std.specs.declared.result.Result.{Result}
use Rattle.sp_plan.specs.declared.event.Event.{Event}
use Rattle.sp_plan.specs.declared.plan.Plan.{Plan}
use Rattle.sp_plan.specs.Sequential.{whole}
use Rattle.sp_hub.specs.declared.entry.HubEntry.{HubEntry}
use Rattle.sp_hub.specs.declared.exchange.History.{History}
use Rattle.sp_hub.specs.Calls.{by_seat}
use mathlib.Core.List.{IsPrefix}
use Rattle.sp_hub.specs.History.{is_take_by, IsLegal, taken, posted}
use Rattle.sp_core.specs.Running.{Running}
use Rattle.sp_ports.specs.Taking.{OutletState}
use Rattle.sp_ports.specs.declared.stop.Stop.{Stop}
use Rattle.sp_spread.specs.Journaled.{MakesNoChild}
use Rattle.sp_spread.specs.Laws.{ReturnsFollowReadings}
use Rattle.sp_spread.specs.Limiting.{AsksAtMost}
use Rattle.sp_splitter.specs.Lending.{longest_lease}
use Rattle.sp_split.specs.Driving.{CameAbout, FellShort, most_asked, seats_for}
use Rattle.sp_split.specs.declared.crew.Crew.{Crew}
use Rattle.sp_split.specs.declared.ended.Went as went
use Rattle.sp_split.specs.declared.ended.Why.{Why}
use Rattle.sp_split.specs.Serving.{CameBy, Ends, Serves, WoundUp, ending}
use Rattle.sp_split.proofs.Taken.{took_none, took_first}

-- with instances
seats_are : (n : ℕ) → 0 < n → seats_for n ≡ n + 1
seats_are zero some = absurd (omega (arith, some))
seats_are (suc n) some = refl

-- with instances a lease asks for as many events as the longest at most
most_is : (q : Plan) (n batch : ℕ) → 0 < n → most_asked q n batch ≡ longest_lease q batch
most_is q zero batch some = absurd (omega (arith, some))
most_is q (suc n) batch some = refl

pub came_about : (n : ℕ) (c : Running) (collected : ℕ) (h : History) → 0 < n → CameBy n c collected → WoundUp (n + 1) collected h → ReturnsFollowReadings → CameAbout n c h
came_about n c collected h some came wound law = record {
  alone = λ none. absurd (omega (arith, some, none));
  spread = λ _. came.spread;
  few = λ _. came.few;
  never = λ _. came.never;
  calls = λ _. let low = law c.journal in let read = came.read in let enough = wound.enough in let fewer = wound.fewer in omega arith;
  legal = wound.legal;
  takes = wound.takes ∙ ap (λ (k : ℕ). by_seat is_take_by k h.entries) (sym (seats_are n some));
  puts = wound.puts ∙ sym (seats_are n some);
  read = λ _. let low = law c.journal in let read = came.read in let enough = wound.enough in omega arith;
  fewer = wound.fewer;
  over = λ seat some few. wound.over seat some (omega (arith, few));
}

take_none : (k : ℕ) → ◌≡◌ {A = List HubEntry} (take k []) []
take_none zero = refl
take_none (suc k) = refl

no_entry_legal : IsLegal []
no_entry_legal = record {
  takes = λ k. subst (λ (l : List HubEntry). IsPrefix (taken l) (posted l)) (sym (take_none k)) ([], refl);
  closes = omega arith;
}

-- without one
pub came_alone : (c : Running) (h : History) → MakesNoChild c.journal → h ≡ record { entries = []; takes = []; puts = []; over = [] } → CameAbout 0 c h
came_alone c h alone none = subst (CameAbout 0 c) (sym none) (record {
  alone = λ _. (alone, refl);
  spread = λ no. absurd (omega (arith, no));
  few = λ no. absurd (omega (arith, no));
  never = λ no. absurd (omega (arith, no));
  calls = λ no. absurd (omega (arith, no));
  legal = no_entry_legal;
  takes = refl;
  puts = refl;
  read = λ no. absurd (omega (arith, no));
  fewer = omega arith;
  over = λ seat some few. absurd (omega (arith, some, few));
})

-- nothing was given
pub fell_at_once : (gave : List Event → Type 0) (ended : Bool) (q : Plan) (s : OutletState) → gave [] → FellShort gave ended q s s
fell_at_once gave ended q s given = record {
  events = [];
  input_ended = false;
  given = given;
  ends = λ no. absurd (cc);
  took = took_first q [] (whole q [] false).matches (whole q [] false).matches s s refl (took_none q s);
  no_fault = refl;
}

-- what was served, with what the hub did
pub ends_with : {V : Type 0} {T : V → Type 0} {E : Type 0} (gave : List Event → Type 0) (ended : Bool) (before behind : ℕ) (kept : Option Stop) (n batch : ℕ) (c : Running) (old new : OutletState) (end : Result went.Went E) (collected : ℕ) (history : History) (crew : Crew V T)
    → Serves gave ended before behind kept n batch c old new end collected → 0 < n → WoundUp (n + 1) collected history → ReturnsFollowReadings
    → Ends gave ended before behind kept n batch c old new (ending history crew end)
ends_with gave ended before behind kept n batch c old new (Ok w) collected history crew served some wound law = record {
  drove = served.drove;
  about = came_about n w.core collected history some served.came wound law;
  asked = subst (λ (most : ℕ). AsksAtMost most w.core.journal) (sym (most_is w.core.plan n batch some)) served.asked;
  short = tt;
}
ends_with gave ended before behind kept n batch c old new (Err e) collected history crew served some wound law = record { drove = tt; about = tt; asked = tt; short = served.short }

-- and with those that are left of its crew
pub if_ending : {V : Type 0} {T : V → Type 0} {E : Type 0} (P : Crew V T → Why → Running → Type 0) (history : History) (crew : Crew V T) (end : Result went.Went E)
    → IfOk end (λ w. P crew w.why w.core) → IfOk (ending history crew end) (λ e. P e.crew e.why e.core)
if_ending P history crew (Ok w) so = so
if_ending P history crew (Err e) so = tt
