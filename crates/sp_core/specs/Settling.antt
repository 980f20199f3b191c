-- What a piece brings to its version in the tree: what has to hold for it, and what it does.
use Rattle.std.specs.Prelude.{◌≡◌, ℕ, ◌+◌, ◌<◌, ◌≤◌, true, false, List, length, Some, IfSome}
use Rattle.std.specs.List.{All, flat_map}
use Rattle.std.specs.List.Sorted.{IsStrictlyIncreasing}
use Rattle.sp_base.specs.Numbers.{RisingSame, is_among}
use Rattle.sp_plan.specs.declared.plan.Plan.{Plan}
use Rattle.sp_plan.specs.Compiled.{IsCompiled}
use Rattle.sp_match.specs.declared.moves.Moves.{Moves}
use Rattle.sp_match.specs.public.Matching.{Matching}
use Rattle.sp_piece.specs.Alike.{ReadingsTellMatches, SamePlansReadAlike}
use Rattle.sp_piece.specs.Pieced.{Pieced, LedTo, Tells}
use Rattle.sp_group.specs.Family.{entry_at}
use Rattle.sp_group.specs.Rising.{IsLabel}
use Rattle.sp_rules.specs.ByGroups.{ComingHomeAddsMatches, ReturnsByGroups, VersionsHaveGroups}
use Rattle.sp_rules.specs.ComingHome.{PiecesComeHome}
use Rattle.sp_rules.specs.Lawful.{Lawful}
use Rattle.sp_rules.specs.Returning.{ReadingsAndReturn}
use Rattle.sp_rules.specs.Schedules.{EverySchedule}
use Rattle.sp_tree.specs.Decided.{rule_of}
use Rattle.sp_tree.specs.Grown.{Grown, Entry, is_open, kin, pruned, with_all_groups, with_value}
use Rattle.sp_version.specs.declared.version.Version.{Version}
use Rattle.sp_core.specs.declared.homecoming.Brought.{Brought}
use Rattle.sp_core.specs.Homecoming.{AreNumbered, IsBrought, IsReady, IsSameButRooms, IsTakenUp, completions, ended_in, is_grouped, outcome_of, spent_run}

-- what the layers below say of pieces that come home
pub record HomeLaws : Type 0 where
  pub schedules : EverySchedule
  pub lawful : (q : Plan) → IsCompiled q → Lawful q
  pub home : PiecesComeHome
  pub returns : ReadingsAndReturn
  pub groups : ReturnsByGroups
  pub have : VersionsHaveGroups
  pub adds : ComingHomeAddsMatches
  pub alike : SamePlansReadAlike
  pub tell : ReadingsTellMatches
  pub rising : RisingSame

-- A piece has read no more than was lent to it, and the closing only where that was lent, behind all events.
pub record IsWithin (p : Pieced) : Type 0 where
  pub within : p.read ≤ length p.job.events
  pub last : p.closed ≡ true → (p.job.closes ≡ true) × (p.read ≡ length p.job.events)

-- The version of a piece is live, and its groups are a label; and all runs that the piece led to or told of have numbers from 1 on.
pub record CanBring (t : Grown Version) (p : Pieced) : Type 0 where
  pub entry : Entry Version
  pub live : entry_at kin t.entries p.job.version ≡ Some entry
  pub label : IsLabel entry.version.groups
  pub numbered : (after : Matching) → LedTo p after → AreNumbered after
  pub given : (moves : List Moves) → Tells p moves → All (λ run. 1 ≤ run) (flat_map spent_run (completions moves))

-- What is brought is made of what the piece led to and told.
pub record IsFrom (t : Grown Version) (p : Pieced) (b : Brought) : Type 0 where
  pub after : Matching
  pub led : LedTo p after
  pub moves : List Moves
  pub tells : Tells p moves
  pub brought : (e : Entry Version) → entry_at kin t.entries p.job.version ≡ Some e → IsBrought e.value.window e.version.groups after moves b
  pub rising : IsStrictlyIncreasing b.groups

-- The version of a piece is live, and can read so many events more; the groups that are brought rise, and the version's open groups and the
-- runs that completed are among them; and whatever matcher the piece led to has the same groups.
pub record CanSettle (t : Grown Version) (p : Pieced) (b : Brought) : Type 0 where
  pub entry : Entry Version
  pub live : entry_at kin t.entries p.job.version ≡ Some entry
  pub few : entry.value.position + p.read < 4294967296
  pub rising : IsStrictlyIncreasing b.groups
  pub more : All (λ r. is_among b.groups r ≡ true) entry.version.groups
  pub spent : (r : ℕ) → is_among b.completed.items r ≡ true → is_among b.groups r ≡ true
  pub alike : (m n : Matching) → LedTo p m → LedTo p n → (r : ℕ) → is_grouped m r ≡ is_grouped n r

-- A run with a group that opened and completed in what a piece read: it completed, no group of the version is of it, and the matcher to
-- which the piece led has none either.
pub record IsPassing (t : Grown Version) (p : Pieced) (completed : List ℕ) (run : ℕ) : Type 0 where
  pub among : is_among completed run ≡ true
  pub closed : is_open t p.job.version run ≡ false
  pub after : Matching
  pub led : LedTo p after
  pub ended : is_grouped after run ≡ false

-- the version of a piece has room for what is brought
abbrev pub HasRooms : Grown Version → Pieced → List ℕ → Brought → Type 0
HasRooms t p passed b = IfSome (entry_at kin t.entries p.job.version) (λ e. IsReady e.value p passed b)

-- The version of a piece is live, has room for what is brought, and can read so many events more.
pub record CanTakeUp (t : Grown Version) (p : Pieced) (passed : List ℕ) (b : Brought) : Type 0 where
  pub entry : Entry Version
  pub live : entry_at kin t.entries p.job.version ≡ Some entry
  pub few : entry.value.position + p.read < 4294967296
  pub ready : IsReady entry.value p passed b

-- The version of a piece has taken up what was read and brought.
pub record HasTakenUp (old : Grown Version) (p : Pieced) (b : Brought) (new : Grown Version) : Type 0 where
  pub entry : Entry Version
  pub live : entry_at kin old.entries p.job.version ≡ Some entry
  pub value : Version
  pub taken : IsTakenUp entry.value p b value
  pub tree : new ≡ with_value old p.job.version value

-- the tree where the version of an id has this value and these groups
abbrev pub with_settled : Grown Version → ℕ → Version → List ℕ → Grown Version
with_settled t id value groups = with_all_groups (with_value t id value) id groups

-- The version of a piece has taken up what was read and brought, and those of its groups that are open no more are decided.
pub record IsSettled (old : Grown Version) (p : Pieced) (b : Brought) (new : Grown Version) : Type 0 where
  pub entry : Entry Version
  pub live : entry_at kin old.entries p.job.version ≡ Some entry
  pub value : Version
  pub taken : IsTakenUp entry.value p b value
  pub tree : new ≡ pruned (rule_of p.job.version (outcome_of b.completed.items) (ended_in value.matcher b.groups)) (with_settled old p.job.version value b.groups)

-- The tree is the same but for the rooms of the version of an id.
pub record IsSameTree (old : Grown Version) (id : ℕ) (new : Grown Version) : Type 0 where
  pub entry : Entry Version
  pub live : entry_at kin old.entries id ≡ Some entry
  pub value : Version
  pub same : IsSameButRooms entry.value value
  pub tree : new ≡ with_value old id value
