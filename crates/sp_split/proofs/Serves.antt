-- What was served, from its beginning, and by how it ended.
use Rattle.std.proofs.Common.{◌≡◌, ℕ, Bool, List, [], length, Option, sym, subst}
use Rattle.std.specs.Prelude.{Ok, Err, IfOk, OnOk}
use Rattle.std.specs.declared.result.Result.{Result}
use Rattle.sp_plan.specs.declared.event.Event.{Event}
use Rattle.sp_hub.specs.State.{Posting}
use Rattle.sp_core.specs.Running.{Running, begun}
use Rattle.sp_ports.specs.Taking.{OutletState}
use Rattle.sp_ports.specs.declared.stop.Stop.{Stop}
use Rattle.sp_split.specs.declared.ended.Why.{Why}
use Rattle.sp_split.specs.declared.feeding.Fed.{Fed}
use Rattle.sp_split.specs.declared.feeding.Fed.TheVariants as f
use Rattle.sp_split.specs.Going.{IsGoing}
use Rattle.sp_split.specs.Serving.{CameServing, Serves, went_by}
use Rattle.sp_split.specs.Stretches.{EndsBy}
use Rattle.sp_split.proofs.Prompt.{going_first}

-- before the first round
pub going_fresh : {A : Type 0} (gave : A → List Event → A → Type 0) (asks : A → List Event → List Event → A → Type 0) (ended : A → Bool) (stops : A → ℕ) (cause : A → Option Stop) (a : A) (c : Running) (s : OutletState)
    (last : Fed) → last ≡ f.More → c ≡ begun c.plan c.bound → gave a [] a → asks a [] [] a → IsGoing gave asks ended stops cause a a c c s s last
going_fresh gave asks ended stops cause a c s last more fresh given none =
    subst (λ (fed : Fed). IsGoing gave asks ended stops cause a a c c s s fed) (sym more) (going_first gave asks ended stops cause a c s fresh given none)

-- a run that ended so, and came so to where it stands
pub serves_by : {E : Type 0} (gave : List Event → Type 0) (ended : Bool) (before behind : ℕ) (kept : Option Stop) (n batch : ℕ) (first last : Running) (old new : OutletState) (end : Result Why E) (by : Posting)
    → EndsBy gave ended before behind kept first last old new end → CameServing n batch last by → Serves gave ended before behind kept n batch first old new (went_by last end) (length by.got)
serves_by gave ended before behind kept n batch first last old new (Ok why) by ends came = record { drove = ends.drove; came = came.came; asked = came.asked; short = tt }
serves_by gave ended before behind kept n batch first last old new (Err e) by ends came = record { drove = tt; came = tt; asked = tt; short = ends.short }

-- what is so where there was memory
pub on_went : {E : Type 0} (B : Type 0) (c : Running) (end : Result Why E) → OnOk end B → OnOk (went_by c end) B
on_went B c (Ok why) so = so
on_went B c (Err e) so = tt

-- what is so of the reason
pub if_went : {E : Type 0} (P : Why → Running → Type 0) (c : Running) (end : Result Why E) → IfOk end (λ why. P why c) → IfOk (went_by c end) (λ w. P w.why w.core)
if_went P c (Ok why) so = so
if_went P c (Err e) so = tt
