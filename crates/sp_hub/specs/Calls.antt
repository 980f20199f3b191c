-- What each call does to the locked state and to its holder.
use Rattle.std.specs.Prelude.{ℕ, ◌+◌, ◌-◌, Bool, true, false, if◌then◌else◌, List, [], ◌∷◌, ◌++◌, map, Some, None}
use Rattle.std.specs.List.{count_by, filter, range_with_len}
use Rattle.sp_hub.specs.declared.entry.HubEntry.{HubEntry}
use Rattle.sp_hub.specs.declared.entry.HubEntry.TheVariants.{Post, Take, Close}
use Rattle.sp_hub.specs.declared.taken.Taken.{Taken}
use Rattle.sp_hub.specs.declared.taken.Taken.TheVariants as taken
use Rattle.sp_hub.specs.State.{Exchange, Posting, Sitting}

module _ {J : Type 0} where
  -- the state with an entry more
  abbrev pub noted : Exchange J → HubEntry → Exchange J
  noted s e = record s { entries = s.entries ++ e ∷ [] }

  abbrev pub after_post : Exchange J → J → ℕ → Exchange J
  after_post s job ticket = record (noted s (Post ticket)) { jobs = s.jobs ++ job ∷ [] }

  abbrev pub after_close : Exchange J → Exchange J
  after_close s = if s.closed then s else record (noted s Close) { closed = true }

  -- the state after a seat asked for a job: the oldest job is gone
  abbrev pub job_taken : (J → ℕ) → ℕ → Exchange J → List J → Exchange J
  job_taken ticket_of seat s [] = s
  job_taken ticket_of seat s (job ∷ rest) = record (noted s (Take seat (ticket_of job))) { jobs = rest }

  abbrev pub after_take : (J → ℕ) → ℕ → Exchange J → Exchange J
  after_take ticket_of seat s = job_taken ticket_of seat s s.jobs

-- the oldest job, or why there is none
abbrev pub oldest : {J : Type 0} → List J → Bool → Taken J
oldest [] closed = if closed then taken.Closed else taken.Empty
oldest (job ∷ rest) closed = taken.Job job

-- the poster after a post
abbrev pub posts : Posting → ℕ → Posting
posts p ticket = record p { last = ticket; waiting = p.waiting + 1; calls = p.calls + 1 }

-- the poster after it collected a ticket that this seat put
abbrev pub collects : Posting → ℕ → ℕ → Posting
collects p seat ticket = record p { waiting = p.waiting - 1; got = p.got ++ (seat, ticket) ∷ [] }

-- the seat after it asked for a job
abbrev pub takes : {J : Type 0} → (J → ℕ) → Sitting → Taken J → Sitting
takes ticket_of s (taken.Job job) = record s { holding = Some (ticket_of job); calls = s.calls + 1; over = false }
takes ticket_of s taken.Empty = record s { over = false }
takes ticket_of s taken.Closed = record s { over = true }

-- the seat after it put the piece of this ticket
abbrev pub puts : Sitting → ℕ → Sitting
puts s ticket = record s { holding = None; put = s.put ++ ticket ∷ [] }

-- a seat that asked for nothing yet
abbrev pub fresh_seat : ℕ → Sitting
fresh_seat number = record { number = number; holding = None; calls = 0; over = false; put = [] }

-- the seats of a new hub, numbered from 0
abbrev pub fresh_seats : ℕ → List Sitting
fresh_seats count = map fresh_seat (range_with_len 0 count)

abbrev pub fresh_poster : ℕ → Posting
fresh_poster room = record { last = 0; waiting = 0; room = room; closed = false; calls = 0; got = [] }

-- for each seat, by number, how many entries of a kind are its own
abbrev pub by_seat : (ℕ → HubEntry → Bool) → ℕ → List HubEntry → List ℕ
by_seat kind count entries = map (λ seat. count_by (kind seat) entries) (range_with_len 0 count)

-- of these seats, the numbers of those whose last answer was that no job will come
abbrev pub told_over : List Sitting → List ℕ
told_over seats = map (λ seat. seat.number) (filter (λ seat. seat.over) seats)
