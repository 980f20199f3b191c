-- When an entry is right by itself, and when behind others.
use Rattle.std.specs.Prelude.{◌≡◌, ◌≤◌, ◌<◌, ℕ, ◌+◌, Bool, List, length, map, take, Option, Some, None, slice_get}
use Rattle.std.specs.List.{All, range_with_len}
use Rattle.sp_plan.specs.declared.event.Event.{Event}
use Rattle.sp_plan.specs.declared.plan.Plan.{Plan}
use Rattle.sp_plan.specs.declared.found.Match.{Match}
use Rattle.sp_plan.specs.Windows.{closed}
use Rattle.sp_plan.specs.WindowNumbers.{first, size}
use Rattle.sp_scan.specs.declared.found.Found.{Found}
use Rattle.sp_scan.specs.Scanning.{scanned_of}
use Rattle.sp_listing.specs.declared.proof.WindowProof.{WindowProof}
use Rattle.sp_listing.specs.Listing.{Entry, seen}
use Rattle.sp_cert.specs.Leading.{IsLeading}
use Rattle.sp_cert.specs.Proofs.{those_within, used_by, matches_of, used_of}

-- what a match tells of its run: the numbers of its events, and those that it uses
abbrev pub run_of : Match → Found
run_of one = record { bound = one.bound; used = one.used }

-- A match of the window tells of the run, whatever the match's number.
pub record TellsOf (window : ℕ) (one : Match) (run : Found) : Type 0 where
  pub window_is : one.window ≡ window
  pub run_is : run_of one ≡ run

-- Matches of the window tell of the runs, one of each in their order.
pub record TellOf (window : ℕ) (matches : List Match) (runs : List Found) : Type 0 where
  pub windows_are : All (λ one. one.window ≡ window) matches
  pub runs_are : map run_of matches ≡ runs

-- The numbers of matches go on by one behind this one.
abbrev pub GoOn : ℕ → List Match → Type 0
GoOn number matches = map (λ one. one.number) matches ≡ range_with_len (number + 1) (length matches)

-- An entry is right by itself: it has the events of a closed window, the runs over those that it doesn't skip match as it tells, whatever
-- the numbers of its matches, and it tells what these use.
pub record StandsAlone (q : Plan) (events : List Event) (ended : Bool) (entry : Entry) : Type 0 where
  pub low : 1 ≤ entry.window
  pub closed_is : entry.window ≤ closed q events ended
  pub first_is : entry.first ≡ first q events entry.window
  pub last_is : entry.last + 1 ≡ first q events entry.window + size q events entry.window
  pub tell : TellOf entry.window entry.matches (scanned_of q events entry.first entry.last entry.skipped)
  pub used_is : entry.used ≡ those_within entry.first entry.last (used_by entry.matches)

-- So many of the proofs that the program holds are right by themselves, from the first on, and the next one, where there is one, isn't.
abbrev pub AloneTo : Plan → List Event → Bool → List WindowProof → ℕ → Type 0
AloneTo q events ended proofs n = IsLeading (λ proof. StandsAlone q events ended (seen proof)) proofs n

-- An entry is right behind others: its window is the next one, it skips what they used, and its matches have the next numbers.
pub record FollowsOn (before : List Entry) (entry : Entry) : Type 0 where
  pub window_is : entry.window ≡ length before + 1
  pub skipped_is : entry.skipped ≡ those_within entry.first entry.last (used_of before)
  pub numbers_are : GoOn (length (matches_of before)) entry.matches

-- Each of the entries is right by itself and behind those before it.
abbrev pub AreRight : Plan → List Event → Bool → List Entry → Type 0
AreRight q events ended entries = (n : ℕ) (entry : Entry) → slice_get entries n ≡ Some entry → StandsAlone q events ended entry × FollowsOn (take n entries) entry

-- The entry is right behind these, and this is the number of the last match then; or it isn't, and there is none.
abbrev pub IsFollowing : List Entry → Entry → Option ℕ → Type 0
IsFollowing before entry None = ¬ FollowsOn before entry
IsFollowing before entry (Some last) = FollowsOn before entry × (last ≡ length (matches_of before) + length entry.matches)

-- Of the entries so many are right behind those before them, and the next one, where there is one, isn't.
pub record FollowTo (entries : List Entry) (n : ℕ) : Type 0 where
  pub within : n ≤ length entries
  pub all : (k : ℕ) (entry : Entry) → k < n → slice_get entries k ≡ Some entry → FollowsOn (take k entries) entry
  pub stops : (entry : Entry) → slice_get entries n ≡ Some entry → ¬ FollowsOn (take n entries) entry

-- An entry has some of so many events.
pub record LiesWithin (count : ℕ) (entry : Entry) : Type 0 where
  pub low : 1 ≤ entry.first
  pub some : entry.first ≤ entry.last
  pub within : entry.last ≤ count
