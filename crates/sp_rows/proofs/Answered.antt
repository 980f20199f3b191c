-- Facts of an answer.
use Rattle.std.proofs.Common.{ℕ, Bool, false, List, refl, ap, subst}
use Rattle.std.specs.Prelude.{◌≡◌, Option, Some, None, Result, Ok, Err, OnOk, OnErr, IfErr}
use Rattle.sp_plan.specs.declared.event.Event.{Event}
use Rattle.sp_plan.specs.declared.plan.Plan.{Plan}
use Rattle.sp_rows.specs.declared.fault.RowError.{RowError}
use Rattle.sp_rows.specs.declared.fault.RowError.TheVariants.{Fault, Memory}
use Rattle.sp_rows.specs.declared.progress.Progress.{Progress}
use Rattle.sp_rows.specs.Rows.{RowResult, RowsRead, nothing, event, refused, event_row, given_if}
use Rattle.sp_rows.specs.Progress.{reading, ErrorIs, Gave, Answers, given_as}

-- what holds, holds where a call succeeds
pub on_ok : {T E P : Type 0} (r : Result T E) → P → OnOk r P
on_ok (Ok x) p = p
on_ok (Err e) p = tt

-- what a row gives is answered where its event, if it gives one, was put in
pub answers_as : (given : RowResult) (before after : RowsRead) (put : Option Event) (r : Result (Unit {0}) RowError) → OnOk r (Gave given after put) → IfErr r (λ error. ErrorIs given error) → OnErr r (after ≡ before)
    → Answers given before after (given_as r put)
answers_as given before after None (Ok done) gave error same = gave
answers_as given before after (Some e) (Ok done) gave error same = gave
answers_as given before after put (Err e) gave error same = (error, same)

on_err_ap : {T E X Y : Type 0} (r : Result T E) (f : X → Y) (x y : X) → OnErr r (x ≡ y) → OnErr r (f x ≡ f y)
on_err_ap (Ok t) f x y same = tt
on_err_ap (Err e) f x y same = ap f same

-- a fault is told, whether times may go back or not
fault_if : (loose : Bool) (given : RowResult) (error : RowError) → ErrorIs given error → ErrorIs (given_if loose given) error
fault_if loose given (Fault found) is = ap (given_if loose) is
fault_if loose given Memory is = tt

error_if : {T : Type 0} (loose : Bool) (given : RowResult) (r : Result T RowError) → IfErr r (λ error. ErrorIs given error) → IfErr r (λ error. ErrorIs (given_if loose given) error)
error_if loose given (Ok x) is = tt
error_if loose given (Err error) is = fault_if loose given error is

-- where times may not go back, a row gives what it gives
pub given_strict : (given : RowResult) → given_if false given ≡ given
given_strict (nothing r) = refl
given_strict (event e r) = refl
given_strict (refused f) = refl

-- the same of a row behind a header with these places
pub answers_at : (loose : Bool) (q own : Plan) (items given : List ℕ) (cells : List (List ℕ)) (old new : Progress) (put : Option Event) (r : Result (Unit {0}) RowError) → own ≡ q → given ≡ items
    → OnOk r (Gave (given_if loose (event_row own (reading (Some given) old) cells given)) (reading (Some given) new) put)
    → IfErr r (λ error. ErrorIs (event_row own (reading (Some given) old) cells given) error) → OnErr r (new ≡ old)
    → Answers (given_if loose (event_row q (reading (Some items) old) cells items)) (reading (Some items) old) (reading (Some items) new) (given_as r put)
answers_at loose q own items given cells old new put r plan places gave error same =
    subst (λ (q : Plan). Answers (given_if loose (event_row q (reading (Some items) old) cells items)) (reading (Some items) old) (reading (Some items) new) (given_as r put)) plan
    (subst (λ (l : List ℕ). Answers (given_if loose (event_row own (reading (Some l) old) cells l)) (reading (Some l) old) (reading (Some l) new) (given_as r put)) places
    (answers_as (given_if loose (event_row own (reading (Some given) old) cells given)) (reading (Some given) old) (reading (Some given) new) put r gave (error_if loose (event_row own (reading (Some given) old) cells given) r error) (on_err_ap r (λ (p : Progress). reading (Some given) p) new old same)))
