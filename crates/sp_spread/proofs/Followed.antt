-- Each return that follows on a reading has a reading of its own.
use Rattle.std.proofs.Common.{◌≡◌, ◌+◌, ◌≤◌, Bool, true, false, cond, ◌&&◌, List, [], ◌∷◌, arith}
use Rattle.std.proofs.lemmas.List.Sums.{sum_by-cons}
use Rattle.sp_group.specs.declared.step.Entry.{Entry}
use Rattle.sp_spread.specs.Journaled.{is_reading, is_return, returns_behind, readings_entered}
use Rattle.sp_spread.specs.Laws.{ReturnsFollowReadings}

-- returns that follow on a reading are no more than the readings, and one that came before
behind_at_most : (read : Bool) (journal : List Entry) → returns_behind read journal ≤ cond read 1 0 + readings_entered journal
behind_at_most read [] = omega arith
behind_at_most read (e ∷ es) =
    let more : readings_entered (e ∷ es) ≡ cond (is_reading e.step) 1 0 + readings_entered es = sum_by-cons (λ (x : Entry). cond (is_reading x.step) 1 0) e es in
    let least = one read (is_reading e.step) (is_return e.step) (behind_at_most (is_reading e.step) es) in
    omega arith
  where
    one : (before now back : Bool) → returns_behind now es ≤ cond now 1 0 + readings_entered es
        → cond (before && back) 1 0 + returns_behind now es ≤ cond before 1 0 + (cond now 1 0 + readings_entered es)
    one true now true most = omega arith
    one true now false most = omega arith
    one false now back most = omega arith

pub returns_follow : ReturnsFollowReadings
returns_follow journal = let most = behind_at_most false journal in omega arith
