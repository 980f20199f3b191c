-- What a turn does to a core, whatever takes it.
use Rattle.std.proofs.Common.{◌≡◌, ℕ, ◌+◌, ◌≤◌, false, List, ◌++◌, length, None, Ok, Err, sym, ◌∙◌, ap, subst, arith}
use Rattle.std.specs.Prelude.{IfOk, OnOk}
use Rattle.std.specs.declared.result.Result.{Result}
use Rattle.sp_base.specs.Limits.{batch_limit}
use Rattle.sp_hub.specs.State.{Posting, Sitting}
use Rattle.sp_plan.specs.declared.found.Match.{Match}
use Rattle.sp_piece.specs.declared.job.Job.{Job}
use Rattle.sp_core.specs.Running.{Running}
use Rattle.sp_plan.specs.declared.plan.Plan.{Plan}
use Rattle.sp_spread.specs.Limiting.{AsksAtMost}
use Rattle.sp_splitter.specs.Lending.{longest_lease}
use Rattle.sp_splitter.specs.Stages.{Goes, IsSpreading, ReadOfCollected, Went}
use Rattle.sp_splitter.specs.Splitting.{IsBelowKept}
use Rattle.sp_split.specs.Serving.{CameServing, CanTurn, Filled, IsServing}
use Rattle.sp_split.specs.Stages.{Advanced}

-- a core that went on so has advanced
pub advanced_by : (n most : ℕ) (old new : Running) (ms : List Match) → Went n most old new → new.machine.emitted ≡ old.machine.emitted ++ ms → Advanced old new ms
advanced_by n most old new ms went emitted = record {
  plan = went.plan;
  bound = went.bound;
  events = went.events;
  ended = went.ended;
  fed_are = λ are. went.fed_are ∙ are ∙ sym went.events;
  emitted = emitted;
}

-- no lease asks for more than the longest, where the plan is the same
longest_kept : (batch : ℕ) (old new : Running) → new.plan ≡ old.plan → AsksAtMost (longest_lease old.plan batch) new.journal → AsksAtMost (longest_lease new.plan batch) new.journal
longest_kept batch old new same asked = subst (λ (q : Plan). AsksAtMost (longest_lease q batch) new.journal) (sym same) asked

-- a splitter was fed
pub serving_fed : (n batch : ℕ) (kept : List Job) (old new : Running) (by : Posting) (seat : Sitting) → Filled old new → IsServing n batch kept old by seat → IsServing n batch kept new by seat
serving_fed n batch kept old new by seat filled is = record {
  spreading = filled.goes n is.spreading;
  never = (filled.within n batch).never is.few is.never;
  asked = longest_kept batch old new filled.on.on.plan ((filled.within n (longest_lease old.plan batch)).asked is.asked);
  few = subst (λ (k : ℕ). k ≤ n + 1) (sym filled.out) is.few;
  read = subst (λ (k : ℕ). k ≤ length by.got) (sym filled.read) is.read;
  can = subst (λ (k : ℕ). CanTurn n batch kept k by) (sym filled.next_ticket) is.can;
  free = is.free;
}

-- a splitter took a turn
came_turned : (n batch : ℕ) (kept : List Job) (old new : Running) (before by : Posting) (seat : Sitting) → Went n (longest_lease old.plan batch) old new → ReadOfCollected old new before by → by.closed ≡ false
    → IsServing n batch kept old before seat → CameServing n batch new by
came_turned n batch kept old new before by seat went read unclosed is = record {
  came = record {
    spread = went.spread is.spreading;
    few = went.few is.few;
    never = went.within.never is.few is.never;
    read = let low = is.read in omega (arith, read, low);
  };
  asked = longest_kept batch old new went.plan (went.within.asked is.asked);
  unclosed = unclosed;
}

pub serving_came_on : (m n b batch : ℕ) (kept : List Job) (old new : Running) (before by : Posting) (seat : Sitting) → m ≡ n → b ≡ batch → Went n (longest_lease old.plan batch) old new → ReadOfCollected old new before by
    → by.closed ≡ false → IsServing n batch kept old before seat → CameServing m b new by
serving_came_on m n b batch kept old new before by seat same same' went read unclosed is =
    subst (λ (k : ℕ). CameServing k b new by) (sym same)
    (subst (λ (k : ℕ). CameServing n k new by) (sym same') (came_turned n batch kept old new before by seat went read unclosed is))

-- and may take another
pub serving_turned : (m n b batch : ℕ) (kept left : List Job) (old new : Running) (before by : Posting) (seat last : Sitting) → m ≡ n → b ≡ batch → Went n (longest_lease old.plan batch) old new → Goes n old new
    → ReadOfCollected old new before by → CanTurn m b left new.machine.next_ticket by → last.holding ≡ None → IsServing n batch kept old before seat → IsServing m b left new by last
serving_turned m n b batch kept left old new before by seat last same same' went goes read can free is =
    let came = serving_came_on m n b batch kept old new before by seat same same' went read can.unclosed is in record {
      spreading = subst (λ (k : ℕ). IsSpreading k new) (sym same) (goes is.spreading);
      never = came.came.never;
      asked = came.asked;
      few = came.came.few;
      read = came.came.read;
      can = can;
      free = free;
    }

-- so it may behind a turn for which there was memory
pub ready_behind : {T E : Type 0} (m n b batch : ℕ) (kept left : List Job) (old new : Running) (before by : Posting) (seat : Sitting) (r : Result T E) → m ≡ n → b ≡ batch → Went n (longest_lease old.plan batch) old new
    → OnOk r (Goes n old new) → ReadOfCollected old new before by → by.room ≡ before.room → by.closed ≡ false → OnOk r (IsBelowKept by.last left new.machine.next_ticket) → IsServing n batch kept old before seat
    → OnOk r (IsServing m b left new by seat)
ready_behind m n b batch kept left old new before by seat (Ok x) same same' went goes read room unclosed last is =
    serving_turned m n b batch kept left old new before by seat seat same same' went goes read
    (record {
      few = subst (λ (k : ℕ). k ≤ 16) (sym same) is.can.few;
      some = subst (λ (k : ℕ). 1 ≤ k) (sym same') is.can.some;
      most = subst (λ (k : ℕ). k ≤ batch_limit) (sym same') is.can.most;
      room = room ∙ is.can.room ∙ ap (λ (k : ℕ). k + 1) (sym same);
      unclosed = unclosed;
      last = last;
    })
    is.free is
ready_behind m n b batch kept left old new before by seat (Err e) same same' went goes read room unclosed last is = tt

pub if_ok_on : {T E : Type 0} (P : T → Type 0) (B : Type 0) (r : Result T E) → ((x : T) → P x → B) → IfOk r P → OnOk r B
if_ok_on P B (Ok x) f p = f x p
if_ok_on P B (Err e) f p = tt

-- a splitter that was fed, and else is the same
pub serving_filled : (m n b batch : ℕ) (left kept : List Job) (old new : Running) (by : Posting) (seat : Sitting) → m ≡ n → b ≡ batch → left ≡ kept → Filled old new → IsServing n batch kept old by seat
    → IsServing m b left new by seat
serving_filled m n b batch left kept old new by seat one two three filled is = rw (one, two, three) (serving_fed n batch kept old new by seat filled is)
