-- What an instance did, job by job.
use Rattle.std.proofs.Common.{◌≡◌, ℕ, ◌+◌, List, [], ◌∷◌, ◌++◌, length, map, None, refl, sym, ap, subst, ◌∙◌, append_assoc, arith}
use Rattle.std.proofs.lemmas.List.{append-nil, length-append, length-map, map-append}
use Rattle.sp_hub.specs.State.{Sitting}
use Rattle.sp_hub.specs.Calls.{puts, takes}
use Rattle.sp_hub.specs.declared.taken.Taken.{Taken}
use Rattle.sp_hub.specs.declared.taken.Taken.TheVariants as taken
use Rattle.std.proofs.lemmas.List.Elements.{All-nil, All-cons, All-append}
use Rattle.sp_piece.specs.declared.job.Job.{Job}
use Rattle.sp_piece.specs.Pieced.{Pieced}
use Rattle.sp_instance.specs.Doing.{given_by, IsDone, Worked, WorkedSome}
use Rattle.sp_instance.specs.Seats.{Counts, PutAll}

-- before the first job nothing was done
pub none_yet : (did : List Job → List Pieced → Type 0) → did [] [] → Worked did
none_yet did none = record { jobs = []; pieces = []; were = none; theirs = refl; done = All-nil IsDone }

-- one job more was taken and done, and its piece put
pub one_more : (did more : List Job → List Pieced → Type 0) (job : Job) (piece : Pieced)
    → ((jobs : List Job) (pieces : List Pieced) → did jobs pieces → more (jobs ++ job ∷ []) (pieces ++ piece ∷ []))
    → piece.job ≡ job → IsDone piece → Worked did → Worked more
one_more did more job piece goes same done w = record {
  jobs = w.jobs ++ job ∷ [];
  pieces = w.pieces ++ piece ∷ [];
  were = goes w.jobs w.pieces w.were;
  theirs = map-append (λ (p : Pieced). p.job) w.pieces (piece ∷ []) ∙ ap (λ (l : List Job). l ++ piece.job ∷ []) w.theirs ∙ ap (λ (j : Job). w.jobs ++ j ∷ []) same;
  done = All-append IsDone w.pieces (piece ∷ []) w.done (All-cons IsDone piece [] done (All-nil IsDone));
}

-- the same of so many jobs
pub none_some : (did : List Job → List Pieced → Type 0) → did [] [] → WorkedSome did 0
unfolding none_yet
none_some did none = record { worked = none_yet did none; counted = refl }

pub one_some : (did more : List Job → List Pieced → Type 0) (job : Job) (piece : Pieced)
    → ((jobs : List Job) (pieces : List Pieced) → did jobs pieces → more (jobs ++ job ∷ []) (pieces ++ piece ∷ []))
    → piece.job ≡ job → IsDone piece → (count : ℕ) → WorkedSome did count → WorkedSome more (count + 1)
unfolding one_more
one_some did more job piece goes same done count w = record {
  worked = one_more did more job piece goes same done w.worked;
  counted = length-append w.worked.jobs (job ∷ []) ∙ ap (λ (k : ℕ). k + 1) w.counted;
}

-- no job was there
pub none_taken : (mid new : Sitting) (answer : Taken Job) → ((job : Job) → answer ≡ taken.Job job → ⊥) → new ≡ takes (λ (job : Job). job.ticket) mid answer → mid.holding ≡ None
    → (given_by answer ≡ []) × (new.holding ≡ None)
none_taken mid new (taken.Job job) none is free = absurd (none job refl)
none_taken mid new taken.Empty none is free = (refl, ap (λ (s : Sitting). s.holding) is ∙ free)
none_taken mid new taken.Closed none is free = (refl, ap (λ (s : Sitting). s.holding) is ∙ free)

-- which leaves what was done
pub as_it_was : (did more : List Job → List Pieced → Type 0) (given : List Job) → given ≡ [] → ((jobs : List Job) (pieces : List Pieced) → did jobs pieces → more (jobs ++ given) pieces)
    → Worked did → Worked more
as_it_was did more given none goes w = record {
  jobs = w.jobs;
  pieces = w.pieces;
  were = subst (λ (l : List Job). more l w.pieces) (ap (λ (l : List Job). w.jobs ++ l) none ∙ append-nil w.jobs) (goes w.jobs w.pieces w.were);
  theirs = w.theirs;
  done = w.done;
}

pub some_as_it_was : (did more : List Job → List Pieced → Type 0) (count : ℕ) (given : List Job) → given ≡ [] → ((jobs : List Job) (pieces : List Pieced) → did jobs pieces → more (jobs ++ given) pieces)
    → WorkedSome did count → WorkedSome more count
unfolding as_it_was
some_as_it_was did more count given none goes w = record { worked = as_it_was did more given none goes w.worked; counted = w.counted }

-- a seat that was given a job more, or none
pub counts_given : (old mid new : Sitting) (jobs : List Job) (pieces : List Pieced) (answer : Taken Job) → Counts old jobs pieces mid → new ≡ takes (λ (job : Job). job.ticket) mid answer → Counts old (jobs ++ given_by answer) pieces new
counts_given old mid new jobs pieces (taken.Job job) was is =
    let calls : new.calls ≡ mid.calls + 1 = ap (λ (s : Sitting). s.calls) is in
    let before = was.calls in
    let more = length-append jobs (job ∷ []) in
    record {
      number = ap (λ (s : Sitting). s.number) is ∙ was.number;
      calls = omega (arith, calls, before, more);
      put = ap (λ (s : Sitting). s.put) is ∙ was.put;
    }
counts_given old mid new jobs pieces taken.Empty was is = record {
  number = ap (λ (s : Sitting). s.number) is ∙ was.number;
  calls = ap (λ (s : Sitting). s.calls) is ∙ was.calls ∙ ap (λ (l : List Job). old.calls + length l) (sym (append-nil jobs));
  put = ap (λ (s : Sitting). s.put) is ∙ was.put;
}
counts_given old mid new jobs pieces taken.Closed was is = record {
  number = ap (λ (s : Sitting). s.number) is ∙ was.number;
  calls = ap (λ (s : Sitting). s.calls) is ∙ was.calls ∙ ap (λ (l : List Job). old.calls + length l) (sym (append-nil jobs));
  put = ap (λ (s : Sitting). s.put) is ∙ was.put;
}

-- a seat that put a piece more
pub counts_put : (old mid new : Sitting) (jobs : List Job) (pieces : List Pieced) (piece : Pieced) → Counts old jobs pieces mid → new ≡ puts mid piece.job.ticket → Counts old jobs (pieces ++ piece ∷ []) new
counts_put old mid new jobs pieces piece was is =
    let ticket = λ (p : Pieced). p.job.ticket in
    record {
      number = ap (λ (s : Sitting). s.number) is ∙ was.number;
      calls = ap (λ (s : Sitting). s.calls) is ∙ was.calls;
      put = ap (λ (s : Sitting). s.put) is ∙ ap (λ (l : List ℕ). l ++ piece.job.ticket ∷ []) was.put ∙ append_assoc old.put (map ticket pieces) (piece.job.ticket ∷ [])
          ∙ ap (λ (l : List ℕ). old.put ++ l) (sym (map-append ticket pieces (piece ∷ [])));
    }

-- a seat that counts jobs and their pieces put a ticket for each job
pub put_all : (old new : Sitting) → Worked (λ jobs pieces. Counts old jobs pieces new) → PutAll old new
put_all old new w =
    let as_many : length w.pieces ≡ length w.jobs = sym (length-map w.pieces (λ (p : Pieced). p.job)) ∙ ap length w.theirs in
    let tickets = map (λ (p : Pieced). p.job.ticket) w.pieces in
    let calls = w.were.calls in
    let many : length tickets ≡ length w.pieces = length-map w.pieces (λ (p : Pieced). p.job.ticket) in
    record { tickets = tickets; number = w.were.number; calls = omega (arith, calls, as_many, many); put = w.were.put }
