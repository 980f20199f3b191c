-- The lines of two worked states, by computation.
use Rattle.std.proofs.Common.{◌≡◌, true, false, [], ◌∷◌, Some, None, refl}
use Rattle.std.specs.Prelude.{codes}
use Rattle.std.specs.Fmt.{digits}
use Rattle.sp_group.specs.Seen.{StateSeen}
use Rattle.sp_emit.specs.StateLines.{lines_of_state}

-- three open groups, the later runs' begun before the first one's; the child takes the second to complete
abbrev three_groups : StateSeen
three_groups = record {
  events = 4;
  ended = false;
  windows = 2;
  finished = 0;
  emitted = 0;
  consumed = [];
  versions =
      (record { id = 1; parent = None; window = 1; label = []; position = 4; skipped = []; done = false; out = None; groups = (1, 4 ∷ []) ∷ (2, 3 ∷ []) ∷ (3, 4 ∷ []) ∷ [] })
      ∷ (record { id = 2; parent = (Some 1); window = 2; label = 2 ∷ []; position = 0; skipped = []; done = false; out = None; groups = [] }) ∷ [];
  tickets = [];
}

three_groups_told : lines_of_state three_groups ≡
    codes "state events=4 ended=0 windows=2 finished=0 live=2 consumed=-\n"
    ∷ codes "v=1 parent=- window=1 label=- position=4 skipped=- done=0 out=- groups=1:4;2:3;3:4\n"
    ∷ codes "v=2 parent=1 window=2 label=2 position=0 skipped=- done=0 out=- groups=-\n" ∷ []
unfolding digits
three_groups_told = refl

-- two tickets are out: one unread, the other read but for its return
abbrev two_tickets : StateSeen
two_tickets = record {
  events = 4;
  ended = false;
  windows = 2;
  finished = 0;
  emitted = 0;
  consumed = [];
  versions =
      (record { id = 1; parent = None; window = 1; label = []; position = 1; skipped = []; done = false; out = Some 3; groups = (1, 1 ∷ []) ∷ [] })
      ∷ (record { id = 2; parent = (Some 1); window = 2; label = 1 ∷ []; position = 0; skipped = []; done = false; out = Some 2; groups = [] }) ∷ [];
  tickets =
      (record { ticket = 2; version = 2; first = 3; count = 1; read = 0; snapshot = []; closes = false })
      ∷ (record { ticket = 3; version = 1; first = 2; count = 3; read = 3; snapshot = []; closes = true }) ∷ [];
}

two_tickets_told : lines_of_state two_tickets ≡
    codes "state events=4 ended=0 windows=2 finished=0 live=2 consumed=-\n"
    ∷ codes "v=1 parent=- window=1 label=- position=1 skipped=- done=0 out=3 groups=1:1\n"
    ∷ codes "v=2 parent=1 window=2 label=1 position=0 skipped=- done=0 out=2 groups=-\n"
    ∷ codes "t=2 v=2 first=3 count=1 read=0 snapshot=- closes=0\n"
    ∷ codes "t=3 v=1 first=2 count=3 read=3 snapshot=- closes=1\n" ∷ []
unfolding digits
two_tickets_told = refl
