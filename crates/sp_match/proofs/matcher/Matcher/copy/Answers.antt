use Rattle.std.proofs.Common.{◌≡◌, Result, Ok, Err}
use Rattle.std.specs.Prelude.{IfOk}
use Rattle.sp_match.specs.public.Matching.{Matching}
use Rattle.sp_match.proofs.matcher.Matcher.copy.Goals as goal

-- equal parts are equal matchers
all_parts : {E : Type 0} (m : Matching) (result : Result Matching E) → IfOk result (λ n. n.plan ≡ m.plan) → IfOk result (λ n. n.open_runs ≡ m.open_runs) → IfOk result (λ n. n.started ≡ m.started)
    → IfOk result (λ n. n ≡ m)
all_parts m (Ok n) plan runs count = λ i. record { plan = plan i; open_runs = runs i; started = count i }
all_parts m (Err e) plan runs count = plan

pub returns : goal.returns
returns c = all_parts c.args.self.now c.copy_under.result c.copy_under.ensures.plan c.copy_under.ensures.runs c.copy_under.ensures.count
