-- What comes of pieces that are given back.
use Rattle.std.proofs.Common.{◌≡◌, ℕ, ◌+◌, ◌≤◌, true, false, List, [], ◌∷◌, ◌++◌, length, Option, Some, None, is_some, refl, sym, ap, ◌∙◌, arith}
use Rattle.std.proofs.lemmas.List.{length-append}
use Rattle.std.proofs.lemmas.List.Folds.{flat_map-map}
use Rattle.sp_chance.proofs.Teaching.{taught_none, taught_then}
use Rattle.sp_match.specs.declared.moves.Moves.{Moves}
use Rattle.sp_match.specs.public.Matching.{runs_of}
use Rattle.sp_hub.specs.Calls.{collects}
use Rattle.sp_hub.specs.State.{Posting}
use Rattle.sp_group.specs.declared.step.Step.TheVariants as s
use Rattle.sp_group.specs.Machine.{Version}
use Rattle.sp_rules.specs.Returning.{readings}
use Rattle.sp_piece.specs.Pieced.{Pieced, Tells}
use Rattle.sp_piece.specs.Reading.{Account, seen_moves}
use Rattle.sp_core.specs.declared.given.Given.{Given}
use Rattle.sp_core.specs.declared.given.Given.TheVariants as g
use Rattle.sp_core.specs.Returning.{IsGiven, after_return}
use Rattle.sp_core.specs.Running.{IsDone, Running}
use Rattle.sp_spread.specs.Journaled.{readings_entered}
use Rattle.sp_splitter.specs.Gathering.{AreTold, Gathered, IsLearned, IsLesson, none_back, one_back, wanted_of}
use Rattle.sp_splitter.specs.Knowing.{Known}
use Rattle.sp_splitter.specs.Stages.{Collected, Goes, NoneEmitted, ReadOfCollected, Went}
use Rattle.sp_splitter.proofs.Stepping.{back_done, goes_back, goes_homecoming, goes_none, goes_then, none_emitted_back, none_emitted_homecoming, none_read_back, one_read, went_back, went_homecoming, went_none, went_then}

-- a piece was given back, or nothing was done
pub record Brings (old new : Running) : Type 0 where
  pub went : (n batch : ℕ) → Went n batch old new
  pub goes : (n : ℕ) → Goes n old new
  pub emitted : NoneEmitted old new
  pub read : readings_entered new.journal ≤ readings_entered old.journal + 1

pub brings_none : (old new : Running) → new ≡ old → Brings old new
brings_none old new same =
    let read : readings_entered new.journal ≡ readings_entered old.journal = ap (λ (z : Running). readings_entered z.journal) same in
    record {
      went = λ n batch. went_none n batch old new same;
      goes = λ n. goes_none n old new same;
      emitted = ap (λ (z : Running). z.machine.emitted) same;
      read = omega arith;
    }

brings_back : (number : ℕ) (old new : Running) → Known old → IsDone (s.Return number) old new → Brings old new
brings_back number old new known done =
    let read = none_read_back number old new done in
    record {
      went = λ n batch. went_back n batch number old new known done;
      goes = λ n. goes_back n number old new known done;
      emitted = none_emitted_back number old new done;
      read = omega arith;
    }

brings_home : (number times : ℕ) (old new : Running) → Known old → new ≡ after_return old number times → Brings old new
brings_home number times old new known is = record {
  went = λ n batch. went_homecoming n batch number times old new known is;
  goes = λ n. goes_homecoming n number times old new known is;
  emitted = none_emitted_homecoming number times old new is;
  read = one_read number times old new is;
}

pub brings_given : (old new : Running) (p : Pieced) (given : Given) → Known old → IsGiven old new p given → Brings old new
brings_given old new p g.Home known (t, v, out, carries, is, taken) = brings_home p.job.ticket (readings p.read p.closed) old new known is
brings_given old new p (g.Stale id) known (t, out, of, gone, is) = brings_back p.job.ticket old new known (back_done p.job.ticket t old new out is)
brings_given old new p (g.NotOut n) known (number, out, is) = brings_none old new is
brings_given old new p (g.Differs lent back) known (t, v, out, carries, was, is, same, left) =
    brings_back p.job.ticket old new known (back_done p.job.ticket t old new out.out same)

-- pieces were collected and given back, one after another
pub record BringsAll (old new : Running) (before after : Posting) : Type 0 where
  pub went : (n batch : ℕ) → Went n batch old new
  pub goes : (n : ℕ) → Goes n old new
  pub emitted : NoneEmitted old new
  pub read : ReadOfCollected old new before after
  pub by : Collected before after

pub brings_all_none : (c : Running) (by : Posting) → BringsAll c c by by
brings_all_none c by = record {
  went = λ n batch. went_none n batch c c refl;
  goes = λ n. goes_none n c c refl;
  emitted = refl;
  read = omega arith;
  by = record { last = refl; room = refl; closed = refl; calls = refl };
}

-- one more
pub brings_all_then : (a b c : Running) (first second third : Posting) (seat ticket : ℕ) → BringsAll a b first second → Brings b c → third ≡ collects second seat ticket → BringsAll a c first third
brings_all_then a b c first second third seat ticket all one is =
    let calls : third.calls ≡ second.calls = ap (λ (z : Posting). z.calls) is in
    let got : length third.got ≡ length second.got + 1 = ap (λ (z : Posting). length z.got) is ∙ length-append second.got ((seat, ticket) ∷ []) in
    let read = all.read in
    let more = one.read in
    record {
      went = λ n batch. went_then n batch a b c (all.goes n) (all.went n batch) (one.went n batch);
      goes = λ n. goes_then n a b c (all.goes n) (one.goes n);
      emitted = one.emitted ∙ all.emitted;
      read = omega arith;
      by = record {
        last = ap (λ (z : Posting). z.last) is ∙ all.by.last;
        room = ap (λ (z : Posting). z.room) is ∙ all.by.room;
        closed = ap (λ (z : Posting). z.closed) is ∙ all.by.closed;
        calls = calls ∙ all.by.calls;
      };
    }

-- ---- what is learned of pieces

-- the moves of a piece tell what is gathered of its reading
pub told_of : (p : Pieced) (moves : List Moves) → Tells p moves → AreTold p (wanted_of moves)
told_of p moves tells = record {
  some = (runs_of p.job.before, record { open_is = refl; started_is = refl });
  told = λ s stands. sym (flat_map-map (λ (a : Account). a.wanted) seen_moves moves) ∙ ap (λ (a : Account). a.wanted) (tells s stands);
}

-- of a version that is live
pub lesson_live : (o : Option Version) (p : Pieced) (pairs : List (ℕ × ℕ)) → is_some o ≡ true → AreTold p pairs → IsLesson o p pairs
lesson_live None p pairs live told = absurd (cc)
lesson_live (Some v) p pairs live told = told

-- and of one that is gone
pub lesson_gone : (o : Option Version) (p : Pieced) → is_some o ≡ false → IsLesson o p []
lesson_gone None p gone = refl
lesson_gone (Some v) p gone = absurd (cc)

pub gathered_none : (taught : List (ℕ × ℕ) → Type 0) (c : Running) (by : Posting) → Gathered taught taught c c by by
gathered_none taught c by = record { count = 0; pairs = []; back = none_back; collected = omega arith; taught_on = taught_none taught }

-- one piece more
pub gathered_then : (first then last : List (ℕ × ℕ) → Type 0) (a b c : Running) (x y z : Posting) (seat ticket : ℕ) (p : Pieced) (given : Given)
    → Gathered first then a b x y → IsLearned then last b p → IsGiven b c p given → z ≡ collects y seat ticket → Gathered first last a c x z
gathered_then first then last a b c x y z seat ticket p given all one back is =
    let more : length z.got ≡ length y.got + 1 = ap (λ (w : Posting). length w.got) is ∙ length-append y.got ((seat, ticket) ∷ []) in
    let before : length y.got ≡ length x.got + all.count = all.collected in
    record {
      count = all.count + 1;
      pairs = all.pairs ++ one.lesson;
      back = one_back b c all.count all.pairs one.lesson p given all.back one.is back;
      collected = omega (arith, more, before);
      taught_on = taught_then first then last all.pairs one.lesson all.taught_on one.taught_on;
    }
