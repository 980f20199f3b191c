-- A piece that takes up what was kept stands where steps lead it.
use Rattle.std.proofs.Common.{◌≡◌, ℕ, ◌+◌, ◌≤◌, Bool, true, false, cond, length, refl, sym, ◌∙◌, ap, arith}
use Rattle.std.specs.Prelude.{nat_lt, not, ◌&&◌}
use Rattle.std.proofs.lemmas.Bool.Decides.{nat_tests}
use Rattle.sp_piece.specs.declared.job.Job.{Job}
use Rattle.sp_piece.specs.Pieced.{Pieced, StepsLead, after_step, read_whole}
use Rattle.sp_piece.specs.Keeping.{going}
use Rattle.sp_piece.proofs.Kept.{at}
use Rattle.sp_piece.proofs.Stepping.{one_more, read_on_leads}

lt_false : (n : ℕ) → nat_lt n n ≡ false
lt_false n = grind (arith, nat_tests)

module _ (job : Job) (read : ℕ) (within : read ≤ length job.events) where
  -- all of its events are read
  abbrev all_read : Pieced
  all_read = going job (length job.events)

  all_led : StepsLead (going job read) all_read
  all_led = read_on_leads (going job read) all_read refl refl (length job.events, within, omega arith, refl)

  -- one step behind them, by whether an event is left and the closing is lent
  abbrev behind : Bool → Bool → Pieced
  behind left closes = record { job = job; read = cond left (length job.events + 1) (length job.events); closed = cond (not left && not false && closes) true false; short = false }

  closing_read : job.closes ≡ true → behind false true ≡ after_step all_read
  closing_read closes = sym (ap (λ (left : Bool). behind left job.closes) (lt_false (length job.events)) ∙ ap (behind false) closes)

  all_and_closing : (closes : Bool) → job.closes ≡ closes → StepsLead (going job read) (at job (length job.events) job.closes false)
  all_and_closing true is = one_more (going job read) all_read (at job (length job.events) job.closes false) all_led (ap (λ (closes : Bool). at job (length job.events) closes false) is ∙ closing_read is)
  all_and_closing false is = (all_led.0, ap (λ (closes : Bool). at job (length job.events) closes false) is ∙ all_led.1)

by_cases : (job : Job) (read : ℕ) (closed short : Bool) → read ≤ length job.events → (closed ≡ true → read ≡ length job.events) → (closed ≡ true → job.closes ≡ true)
    → StepsLead (at job read closed short) (read_whole (at job read closed short))
by_cases job read closed true within last lent = (0, refl)
by_cases job read true false within last lent = (0, λ i. record { job = job; read = sym (last refl) i; closed = lent refl i; short = false })
by_cases job read false false within last lent = all_and_closing job read within job.closes refl

-- steps lead it to where all that is lent is read
pub whole_is_led : (p : Pieced) → p.read ≤ length p.job.events → (p.closed ≡ true → p.read ≡ length p.job.events) → (p.closed ≡ true → p.job.closes ≡ true) → StepsLead p (read_whole p)
whole_is_led p within last lent = by_cases p.job p.read p.closed p.short within last lent
