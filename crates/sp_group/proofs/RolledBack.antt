-- A worked run: a version that has read an event which its parent's group took afterwards is rolled back, and once more when it becomes
-- the root.
use Rattle.std.proofs.Common.{◌≡◌, ℕ, true, false, List, [], ◌∷◌, ◌++◌, map, Some, None, refl}
use Rattle.std.specs.List.{filter}
use Rattle.sp_group.specs.declared.refusal.Refusal.TheVariants as r
use Rattle.sp_group.specs.declared.step.Entry.{Entry}
use Rattle.sp_group.specs.declared.step.Step.{Step}
use Rattle.sp_group.specs.declared.step.Step.TheVariants as s
use Rattle.sp_group.specs.Machine.{opening, conflict}
use Rattle.sp_group.specs.Steps.{Refused, Done, Fed, Ended, Spawned, Read, Closed, Home, Rolled, Finished, steps, is_ready, replay}
use Rattle.sp_group.proofs.Worked.{abc, fed, root, child, replies, answers, state_after, out, found}

-- a x b c: the root reads a; its child, under the guess that a's group completes, reads b; then the root reads x and b too
abbrev read_both : List Step
read_both = fed (0 ∷ 3 ∷ 1 ∷ 2 ∷ []) ++ root ∷ s.Lease 1 1 ∷ s.Event 1 ∷ s.Return 1 ∷ child 1 (1 ∷ []) ∷ s.Lease 2 1 ∷ s.Event 2 ∷ s.Return 2
    ∷ s.Lease 1 2 ∷ s.Event 3 ∷ s.Event 3 ∷ s.Return 3 ∷ []

both_read : answers abc 64 read_both ≡
    Done (Fed 1) ∷ Done (Fed 2) ∷ Done (Fed 3) ∷ Done (Fed 4) ∷ Done (Spawned 1) ∷ out 1 1 1 1 [] false ∷ Done (Read 1 false) ∷ Done Home
    ∷ Done (Spawned 2) ∷ out 2 2 3 1 [] false ∷ Done (Read 3 false) ∷ Done Home ∷ out 3 1 2 2 [] false ∷ Done (Read 2 false)
    ∷ Done (Read 3 false) ∷ Done Home ∷ []
both_read = refl

-- the child is in conflict with b, and the root alone is ready
in_conflict : map (conflict abc (steps abc 64 opening read_both)) (steps abc 64 opening read_both).versions ≡ Some 3 ∷ None ∷ []
in_conflict = refl

root_is_ready : map (λ v. v.id) (filter (is_ready abc 64 (steps abc 64 opening read_both)) (steps abc 64 opening read_both).versions) ≡ 1 ∷ []
root_is_ready = refl

-- the child can't be leased, and is rolled back
abbrev roll_back : List Step
roll_back = s.Lease 2 1 ∷ s.Roll 2 ∷ []

rolls_back : replies abc 64 (steps abc 64 opening read_both) roll_back ≡ Refused (r.Conflict 3) ∷ Done (Rolled 3) ∷ []
rolls_back = refl

rolled_back : state_after abc 64 (read_both ++ roll_back) ≡ record {
  events = 4;
  ended = false;
  windows = 2;
  finished = 0;
  emitted = 0;
  consumed = [];
  versions =
      (record { id = 1; parent = None; window = 1; label = []; position = 3; skipped = []; done = false; out = None; groups = (1, 1 ∷ 3 ∷ []) ∷ [] })
      ∷ (record { id = 3; parent = (Some 1); window = 2; label = 1 ∷ []; position = 0; skipped = []; done = false; out = None; groups = [] }) ∷ [];
  tickets = [];
}
rolled_back = refl

-- it reads b, which it skips, and c, before the root reads c, matches and is finished: then it is in conflict again
abbrev read_on : List Step
read_on = s.Lease 3 2 ∷ s.Event 4 ∷ s.Event 4 ∷ s.Return 4 ∷ s.Lease 1 1 ∷ s.Event 5 ∷ s.Event 5 ∷ s.Return 5 ∷ s.Finish ∷ s.End
    ∷ s.Lease 4 9 ∷ s.Event 6 ∷ s.Event 6 ∷ s.Event 6 ∷ s.Return 6 ∷ s.Finish ∷ []

reads_on : replies abc 64 (steps abc 64 opening (read_both ++ roll_back)) read_on ≡
    out 4 3 3 2 (3 ∷ []) false ∷ Done (Read 3 true) ∷ Done (Read 4 false) ∷ Done Home ∷ out 5 1 4 1 [] true ∷ Done (Read 4 false)
    ∷ Done Closed ∷ Done Home ∷ Done (Finished 1 (found 1 1 ((1 ∷ []) ∷ (3 ∷ []) ∷ (4 ∷ []) ∷ []) (1 ∷ 3 ∷ 4 ∷ []) ∷ []) (Some 4))
    ∷ Done Ended ∷ out 6 4 3 2 (3 ∷ 4 ∷ []) true ∷ Done (Read 3 true) ∷ Done (Read 4 true) ∷ Done Closed ∷ Done Home
    ∷ Done (Finished 2 [] None) ∷ []
reads_on = refl

-- the same steps as a journal, where readings of one ticket stand together
abbrev entry : ℕ → Step → Entry
entry times step = record { step = step; times = times }

abbrev journal : List Entry
journal = map (entry 1) (fed (0 ∷ 3 ∷ 1 ∷ 2 ∷ []) ++ root ∷ s.Lease 1 1 ∷ s.Event 1 ∷ s.Return 1 ∷ child 1 (1 ∷ []) ∷ s.Lease 2 1 ∷ s.Event 2
    ∷ s.Return 2 ∷ s.Lease 1 2 ∷ []) ++ entry 2 (s.Event 3) ∷ entry 1 (s.Return 3) ∷ []

journal_is_replayed : replay abc 64 journal ≡ steps abc 64 opening read_both
journal_is_replayed = refl
