-- What contracts see of the locked state and of its holders.
use Rattle.std.specs.Prelude.{◌≡◌, ℕ, ◌+◌, ◌≤◌, Bool, if◌then◌else◌, List, ◌++◌, map, length, Option, Some, None}
use Rattle.std.specs.List.{count_by}
use Rattle.atomic_table.specs.Seated.{TableId}
use Rattle.sp_hub.specs.declared.entry.HubEntry.{HubEntry}
use Rattle.sp_hub.specs.History.{posted, taken, is_close, is_call, IsLegal}

-- the jobs listed, oldest first, whether it is closed, and all entries
pub record Exchange (J : Type 0) : Type 0 where
  pub jobs : List J
  pub closed : Bool
  pub entries : List HubEntry

-- what a poster knows: its last ticket, how many are posted and not collected, how many may be, whether it closed, how many entries it made, and what it collected, in order: each ticket with the seat that put it
pub record Posting : Type 0 where
  pub last : ℕ
  pub waiting : ℕ
  pub room : ℕ
  pub closed : Bool
  pub calls : ℕ
  pub got : List (ℕ × ℕ)

-- what a seat knows: its number, the ticket that it holds, how many entries it made, whether its last answer was that no job will come, and the tickets that it put, in order
pub record Sitting : Type 0 where
  pub number : ℕ
  pub holding : Option ℕ
  pub calls : ℕ
  pub over : Bool
  pub put : List ℕ

-- how many tickets a seat holds
abbrev pub held : Option ℕ → ℕ
held None = 0
held (Some ticket) = 1

-- the history replays to the state, the ledger counts its entries, and it has room for those that are sure to come
pub record Keeps {J : Type 0} (job_ticket : J → ℕ) (jobs : List J) (closed : Bool) (entries : List HubEntry) (total room : ℕ) : Type 0 where
  pub legal : IsLegal entries
  pub listed : posted entries ≡ taken entries ++ map job_ticket jobs
  pub shut : count_by is_close entries ≡ (if closed then 1 else 0)
  pub counted : total ≡ count_by is_call entries
  pub spare : length entries + length jobs + (if closed then 0 else 1) ≤ room

-- how many seats a hub has, and how many tickets may be posted and not collected
pub record Extent : Type 0 where
  pub seats : ℕ
  pub room : ℕ

-- a hub that is not named yet: the ledger's name and parts, the queue's table, and the numbers of the hub
pub record Blueprint : Type 0 where
  pub name : ℕ
  pub parts : ℕ
  pub table : TableId
  pub seats : ℕ
  pub room : ℕ
