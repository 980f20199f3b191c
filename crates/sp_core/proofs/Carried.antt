-- A job that is given back, beside what went out under its ticket.
use Rattle.std.proofs.Common.{◌≡◌, ℕ, zero, suc, ◌+◌, ◌-◌, ◌<◌, ◌≤◌, List, [], ◌∷◌, length, map, get_or, Some, None, sym, ap, subst, ◌∙◌, arith}
use Rattle.std.specs.List.{slice_get}
use Rattle.std.specs.Option.{option_map}
use Rattle.sp_plan.specs.WindowNumbers.{first, size}
use Rattle.sp_match.specs.public.Matching.{SameMatching}
use Rattle.sp_piece.specs.declared.job.Job.{Job}
use Rattle.sp_version.specs.declared.version.Version.{Version}
use Rattle.sp_window.specs.Laws as laws
use Rattle.sp_group.specs.Family.{entry_at}
use Rattle.sp_group.specs.Machine as machine
use Rattle.sp_group.specs.Machine.{Ticket, is_suppressed, ticket_at}
use Rattle.sp_rules.specs.Kept as kept
use Rattle.sp_rules.specs.Schedules.{EverySchedule, Reached}
use Rattle.sp_tree.specs.Grown.{Entry, kin, value_of}
use Rattle.sp_core.specs.declared.lent.Lent.{Lent}
use Rattle.sp_core.specs.Carrying.{Carries, lent_events, ticket_of}
use Rattle.sp_core.specs.Holding.{Holding, Holds, IsCore, machine_of, running, version_of}
use Rattle.sp_core.specs.Returning.{HasValues, IsCarried, IsPlaceOf}
use Rattle.sp_core.proofs.Entries.{found, found_of_all, local, version_found, version_is}
use Rattle.sp_core.proofs.Journal.{reached}
use Rattle.sp_core.proofs.Renewing.{at_entry}
use Rattle.sp_core.proofs.SamePlans.{same_back, same_on}
use Rattle.sp_core.proofs.Told.{fed_within, number_of}

-- what is kept at a place is the ticket there
pub ticket_there : (ls : List Lent) (place : ℕ) (t : Ticket) (d : Lent) → slice_get (map ticket_of ls) place ≡ Some t → d ≡ get_or ls place d → t ≡ ticket_of d
ticket_there [] place t d at is = absurd (cc)
ticket_there (l ∷ ls) zero t d at is = let same : ticket_of l ≡ t = cc in sym same ∙ ap ticket_of (sym is)
ticket_there (l ∷ ls) (suc place) t d at is = ticket_there ls place t d at is

pub out_there : (ls : List Lent) (n place : ℕ) (d : Lent) → IsPlaceOf (map ticket_of ls) n place → d ≡ get_or ls place d → ticket_at (map ticket_of ls) n ≡ Some (ticket_of d)
out_there ls n place d at is = at.3 ∙ ap Some (ticket_there ls place at.0 d at.1 is)

-- A ticket that is out for a live version.
pub record IsOutFor (h : Holding) (n : ℕ) (d : Lent) (e : Entry Version) : Type 0 where
  pub core : IsCore h
  pub reached : Reached h.plan h.tree.bound (machine_of h)
  pub number : d.ticket ≡ n
  pub out : ticket_at (map ticket_of h.tickets) n ≡ Some (ticket_of d)
  pub live : entry_at kin h.tree.entries d.version ≡ Some e

module _ (h : Holding) (n : ℕ) (d : Lent) (e : Entry Version) (a : IsOutFor h n d e) where
  pub held : Holds h.plan h.events (map ticket_of h.tickets) e
  held = found_of_all (Holds h.plan h.events (map ticket_of h.tickets)) h.tree.entries d.version e a.core.versions a.live

  pub here : kept.Local h.plan h.events h.ended (map ticket_of h.tickets) (is_suppressed h.plan (machine_of h) d.version) (version_of e)
  here = local h a.reached d.version e a.live

  pub lent_is : kept.Lent h.plan h.events h.ended (is_suppressed h.plan (machine_of h) d.version) (version_of e) (ticket_of d)
  lent_is = here.lent n (ticket_of d) a.out (sym (at_entry h.tree.entries d.version e a.live))

  -- what it lends are events that were fed
  pub low : laws.Holds h.plan → 1 ≤ d.first
  low holds =
      let from = holds.low h.events e.value.window (number_of h a.core e.value.window here.there) in
      let begins : d.first ≡ first h.plan h.events e.value.window + e.value.position = lent_is.begins in
      omega (arith, from, begins)

  pub high : laws.Holds h.plan → d.first - 1 + d.count ≤ length h.events
  high holds =
      let from = low holds in
      let within = fed_within h a.core holds e.value.window here.there in
      let begins : d.first ≡ first h.plan h.events e.value.window + e.value.position = lent_is.begins in
      let fits : e.value.position + d.count ≤ size h.plan h.events e.value.window = lent_is.fits in
      omega (arith, from, within.0, begins, fits)

  -- a job with all that was lent is carried
  pub carried : (job : Job) → job.ticket ≡ n → HasValues job d → job.events ≡ lent_events h.events (ticket_of d) → SameMatching e.value.matcher job.before
      → IsCarried (running h) job
  carried job number values events same = (
    ticket_of d,
    version_of e,
    ap (ticket_at (map ticket_of h.tickets)) number ∙ a.out,
    version_is h.tree.entries d.version e a.live,
    record {
      ticket = number ∙ sym a.number;
      version = values.version;
      first = values.first;
      events = events;
      snapshot = values.snapshot;
      closes = values.closes;
      plan = same_on job.before.plan e.value.matcher.plan h.plan (same_back e.value.matcher.plan job.before.plan same.plan) held.plan;
      stands = record {
        open_is = sym same.open_runs ∙ held.stands.open_is;
        started_is = sym same.started ∙ held.stands.started_is;
      };
    },
  )

  -- and one that is carried has all that was lent
  pub record HasAllLent (job : Job) : Type 0 where
    pub values : HasValues job d
    pub events : job.events ≡ lent_events h.events (ticket_of d)
    pub same : SameMatching e.value.matcher job.before

  pub has_all : (job : Job) → job.ticket ≡ n → IsCarried (running h) job → HasAllLent job
  has_all job number is =
      let found : Some is.0 ≡ Some (ticket_of d) = sym is.2 ∙ ap (ticket_at (map ticket_of h.tickets)) number ∙ a.out in
      let ticket : is.0 ≡ ticket_of d = cc in
      let at : Some is.1 ≡ Some (version_of e) = sym is.3 ∙ ap (λ (t : Ticket). machine.version_at (machine_of h).versions t.version) ticket ∙ version_is h.tree.entries d.version e a.live in
      let version : is.1 ≡ version_of e = cc in
      let c = subst (λ (t : Ticket). Carries h.plan (machine_of h) t (version_of e) job) ticket (subst (λ (v : machine.Version). Carries h.plan (machine_of h) is.0 v job) version is.4) in
      record {
        values = record { version = c.version; first = c.first; closes = c.closes; snapshot = c.snapshot };
        events = c.events;
        same = record {
          plan = same_on e.value.matcher.plan h.plan job.before.plan held.plan (same_back job.before.plan h.plan c.plan);
          open_runs = held.stands.open_is ∙ sym c.stands.open_is;
          started = held.stands.started_is ∙ sym c.stands.started_is;
        };
      }

-- the same, of what is found at a place and under an id
pub record IsFound (h : Holding) (n : ℕ) (d : Lent) (v : Version) : Type 0 where
  pub entry : Entry Version
  pub value : entry.value ≡ v
  pub is : IsOutFor h n d entry

pub found_out : EverySchedule → (h : Holding) → IsCore h → (n place : ℕ) (d : Lent) (v : Version) → IsPlaceOf (map ticket_of h.tickets) n place → d ≡ get_or h.tickets place d
    → Some v ≡ value_of (entry_at kin h.tree.entries d.version) → IsFound h n d v
found_out law h k n place d v at is got =
    let f = found (entry_at kin h.tree.entries d.version) v got in record {
      entry = f.entry;
      value = f.value;
      is = record {
        core = k;
        reached = reached law h k;
        number = sym (ap (λ (t : Ticket). t.number) (ticket_there h.tickets place at.0 d at.1 is)) ∙ at.2;
        out = out_there h.tickets n place d at is;
        live = f.is;
      };
    }

-- a job that is carried is of a live version
pub not_carried : (h : Holding) (n : ℕ) (d : Lent) (job : Job) → ticket_at (map ticket_of h.tickets) n ≡ Some (ticket_of d) → entry_at kin h.tree.entries d.version ≡ None
    → job.ticket ≡ n → IsCarried (running h) job → ⊥
not_carried h n d job out none number is =
    let found : Some is.0 ≡ Some (ticket_of d) = sym is.2 ∙ ap (ticket_at (map ticket_of h.tickets)) number ∙ out in
    let ticket : is.0 ≡ ticket_of d = cc in
    let at : Some is.1 ≡ None = sym is.3 ∙ ap (λ (t : Ticket). machine.version_at (machine_of h).versions t.version) ticket ∙ gone in
    cc
  where
    gone : machine.version_at (machine_of h).versions d.version ≡ None
    gone = version_found h.tree.entries d.version ∙ ap (option_map version_of) none

-- a place at which a ticket stands is one of theirs
pub place_within : (ls : List Lent) (place : ℕ) (t : Ticket) → slice_get (map ticket_of ls) place ≡ Some t → place < length ls
place_within [] place t at = absurd (cc)
place_within (l ∷ ls) zero t at = omega arith
place_within (l ∷ ls) (suc place) t at = let rest = place_within ls place t at in omega arith
