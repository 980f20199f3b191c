-- A piece that reads all that is left is led there by steps.
use Rattle.std.proofs.Common.{◌≡◌, ℕ, zero, suc, ◌+◌, ◌-◌, ◌<◌, ◌≤◌, Bool, true, false, cond, List, length, Option, refl, sym, ◌∙◌, ap, arith}
use Rattle.std.specs.Prelude.{nat_lt, not, ◌&&◌}
use Rattle.std.proofs.lemmas.Bool.Decides.{nat_tests}
use Rattle.sp_match.specs.public.Matching.{Matching}
use Rattle.sp_match.specs.declared.moves.Moves.{Moves}
use Rattle.sp_piece.specs.declared.job.Job.{Job}
use Rattle.sp_piece.specs.Pieced.{Pieced, StepsLead, after_step, after_steps}
use Rattle.sp_piece.specs.Keeping.{HasReadOn, IsKept, going}
use Rattle.sp_piece.proofs.Kept.{at}

-- a piece of which an event is still to be read was not closed
pub as_going : (job : Job) (read : ℕ) (closed short : Bool) (now : Option Matching) (list : List Moves) → IsKept (at job read closed short) now list → read < length job.events → IsKept (going job read) now list
as_going job read true short now list kept within = absurd (omega (arith, (kept.last refl).0))
as_going job read false short now list kept within = record {
  within = kept.within;
  led = record { plan = kept.led.plan; stands = kept.led.stands };
  tells = kept.tells;
  below = kept.below;
  last = λ h. absurd (cc h);
}

lt_true : (a b : ℕ) → a < b → nat_lt a b ≡ true
lt_true a b less = grind (arith, nat_tests)

-- where a lent event is left, a step reads it
step_reads : (job : Job) (read : ℕ) → read < length job.events → after_step (going job read) ≡ going job (read + 1)
step_reads job read within =
    ap {B = Pieced} (λ (b : Bool). record { job = job; read = cond b (read + 1) read; closed = cond (not b && not false && job.closes) true false; short = false })
    (lt_true read (length job.events) within)

-- as many steps as events are left
steps_read : (job : Job) (read n : ℕ) → read + n ≤ length job.events → going job (read + n) ≡ after_steps n (going job read)
steps_read job read zero within = let same : read + zero ≡ read = omega arith in ap (going job) same
steps_read job read (suc n) within =
    let next : read + suc n ≡ read + n + 1 = omega arith in
    ap (going job) next ∙ sym (step_reads job (read + n) (omega arith)) ∙ ap after_step (steps_read job read n (omega arith))

-- a piece that has read on was led there by steps
going_on : (job : Job) (read n : ℕ) → read ≤ n → n ≤ length job.events → StepsLead (going job read) (going job n)
going_on job read n order within =
    let all : read + (n - read) ≡ n = omega arith in
    (n - read, ap (going job) (sym all) ∙ steps_read job read (n - read) (omega arith))

is_going : (p : Pieced) → p.short ≡ false → p.closed ≡ false → p ≡ going p.job p.read
is_going p whole open_ = λ i. record { job = p.job; read = p.read; closed = open_ i; short = whole i }

pub read_on_leads : (p later : Pieced) → p.short ≡ false → p.closed ≡ false → HasReadOn p later → StepsLead p later
read_on_leads p later whole open_ on =
    let old : p ≡ going p.job p.read = is_going p whole open_ in
    let new : later ≡ going p.job on.0 = on.3 ∙ λ i. record { job = p.job; read = on.0; closed = open_ i; short = whole i } in
    let there = going_on p.job p.read on.0 on.1 on.2 in
    (there.0, new ∙ there.1 ∙ ap (after_steps there.0) (sym old))

-- one step more
pub one_more : (p mid later : Pieced) → StepsLead p mid → later ≡ after_step mid → StepsLead p later
one_more p mid later led is = (suc led.0, is ∙ ap after_step led.1)
