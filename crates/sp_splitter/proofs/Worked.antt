-- For how many events a version is leased, on worked states, by computation.
use Rattle.std.proofs.Common.{◌≡◌, ℕ, Bool, true, false, [], ◌∷◌, Option, Some, None, replicate, refl}
use Rattle.sp_plan.specs.declared.plan.Plan.{Plan}
use Rattle.sp_plan.specs.declared.plan.Select.TheVariants.{First}
use Rattle.sp_plan.specs.declared.plan.Length.TheVariants.{Events}
use Rattle.sp_plan.specs.declared.plan.Opening.TheVariants.{EveryEvents}
use Rattle.sp_plan.proofs.Worked.{a_then_b, events, names_ab, plan}
use Rattle.sp_group.specs.Machine.{Version, opening}
use Rattle.sp_core.specs.Running.{Running, begun}
use Rattle.sp_splitter.specs.Lending.{asked}

-- windows of forty events from each second one on, and of thirty that lie apart
abbrev overlapping : Bool → Plan
overlapping consumed = plan (names_ab consumed consumed) a_then_b First (Events 40) (EveryEvents 2)

abbrev apart : Plan
apart = plan (names_ab true true) a_then_b First (Events 30) (EveryEvents 30)

-- a version that has read so many events of a window
abbrev reading : ℕ → Option ℕ → ℕ → Bool → Version
reading id parent position done = record { id = id; parent = parent; window = id; label = []; position = position; skipped = []; done = done }

-- sixty events, a root of window 1, and its child of window 2, which has read so many
abbrev two : Plan → Version → ℕ → Running
two q root position =
    let c = begun q 64 in
    record c { machine = record opening { events = events (replicate 60 0); versions = reading 2 (Some 1) position false ∷ root ∷ []; next_id = 3 } }

-- a root asks for a batch
root_asks : asked false 12 (two (overlapping true) (reading 1 None 24 false) 24) 1 ≡ 12
root_asks = refl

-- a child that has read fewer than two batches asks for one
early : asked false 12 (two (overlapping true) (reading 1 None 2 false) 23) 2 ≡ 12
early = refl

-- the root has read none of what the child reads next: the child asks for eight
nothing_read_before : asked false 12 (two (overlapping true) (reading 1 None 26 false) 24) 2 ≡ 8
nothing_read_before = refl

-- it has read ten events more than the child
ten_read_before : asked false 12 (two (overlapping true) (reading 1 None 36 false) 24) 2 ≡ 10
ten_read_before = refl

-- more than a batch
many_read_before : asked false 12 (two (overlapping true) (reading 1 None 39 false) 24) 2 ≡ 12
many_read_before = refl

-- a batch may be less than eight
least_batch : asked false 1 (two (overlapping true) (reading 1 None 4 false) 2) 2 ≡ 1
least_batch = refl

-- a root that is done reads no more
root_done : asked false 12 (two (overlapping true) (reading 1 None 26 true) 24) 2 ≡ 12
root_done = refl

-- what consumes nothing keeps nothing from a child
nothing_consumed : asked false 12 (two (overlapping false) (reading 1 None 26 false) 24) 2 ≡ 12
nothing_consumed = refl

-- a version that is not live
not_live : asked false 12 (two (overlapping true) (reading 1 None 26 false) 24) 3 ≡ 12
not_live = refl

-- no event of the child's window is one of the root's
windows_apart : asked false 12 (two apart (reading 1 None 20 false) 24) 2 ≡ 12
windows_apart = refl

-- a child that is shy asks for one event, however much it has read, and a root for a batch
shy_child : asked true 12 (two (overlapping true) (reading 1 None 36 false) 24) 2 ≡ 1
shy_child = refl

shy_early : asked true 12 (two (overlapping true) (reading 1 None 2 false) 23) 2 ≡ 1
shy_early = refl

shy_root : asked true 12 (two (overlapping true) (reading 1 None 24 false) 24) 1 ≡ 12
shy_root = refl
