-- What a reading that was kept says of a job that lends the same.
use Rattle.std.proofs.Common.{◌≡◌, ℕ, ◌+◌, Bool, true, false, not, List, [], Option, Some, None, length, map, refl, sym, ◌∙◌, ap, subst, arith}
use Rattle.std.proofs.Math.Bool.{beq}
use Rattle.std.specs.Option.{option_map}
use Rattle.sp_plan.specs.Runs.{State}
use Rattle.sp_match.specs.public.Laws.{Below}
use Rattle.sp_match.specs.public.Matching.{Matching, SameRuns, Stands, runs_of}
use Rattle.sp_match.specs.declared.moves.Moves.{Moves}
use Rattle.sp_piece.specs.declared.job.Job.{Job}
use Rattle.sp_piece.specs.Alike.{ReadAlike, SamePlansReadAlike, by_plan}
use Rattle.sp_piece.specs.Reading.{Account, accounts_to, completing, gathered, joined, read_to, seen_moves}
use Rattle.sp_piece.specs.Pieced.{loan}
use Rattle.sp_piece.specs.Keeping.{IsKept, current}
use Rattle.sp_piece.specs.Done.{IsDone, Lent, LendsSame, lent_by, loan_of, under, whole}
use Rattle.sp_piece.proofs.Consuming.{consume_alike}
use Rattle.sp_piece.proofs.Kept.{at}

-- flags between which no difference was found
pub same_flags : (a b : Bool) → not (beq a b) ≡ false → a ≡ b
same_flags true true found = refl
same_flags true false found = found
same_flags false true found = sym found
same_flags false false found = refl

-- a piece that has read all that its job lends is a whole reading
whole_done : (job : Job) (read : ℕ) (closed short : Bool) (now : Option Matching) (list : List Moves) → IsKept (at job read closed short) now list → read ≡ length job.events → closed ≡ job.closes → IsDone (lent_by job) now list
whole_done job read closed short now list kept all end =
    let k : IsKept (at job (length job.events) job.closes short) now list =
    subst (λ (b : Bool). IsKept (at job (length job.events) b short) now list) end (subst (λ (n : ℕ). IsKept (at job n closed short) now list) all kept) in
    record { plan = k.led.plan; stands = k.led.stands; tells = k.tells; below = k.below }

-- and so are copies of what it has
pub copy_done : (job : Job) (read : ℕ) (closed short : Bool) (now after : Option Matching) (list entries : List Moves) (lent : Lent) → IsKept (at job read closed short) now list
    → read ≡ length job.events → closed ≡ job.closes → lent ≡ lent_by job → after ≡ now → map seen_moves entries ≡ map seen_moves list → IsDone lent after entries
copy_done job read closed short now after list entries lent kept all end lends led told =
    let done : IsDone (lent_by job) now list = whole_done job read closed short now list kept all end in
    subst (λ (l : Lent). IsDone l after entries) (sym lends)
    (subst (λ (o : Option Matching). IsDone (lent_by job) o entries) (sym led)
    (record { plan = done.plan; stands = done.stands; tells = λ s stands. ap joined told ∙ done.tells s stands; below = done.below }))

module _ (alike : SamePlansReadAlike) (lent : Lent) (job : Job) (same : LendsSame lent job) where
  both : ReadAlike lent.before.plan job.before.plan
  both = alike lent.before.plan job.before.plan same.before.plan

  -- what was lent, place by place, to be read by the plan of the kept reading
  lends : loan_of lent ≡ by_plan lent.before.plan (loan job)
  lends = λ i. record { plan = lent.before.plan; events = same.events i; first = same.like.first i; snapshot = same.like.snapshot i }

  stood : (s : State) → Stands job.before s → Stands lent.before s
  stood s stands = record { open_is = same.before.open_runs ∙ stands.open_is; started_is = same.before.started ∙ stands.started_is }

  leads : (s : State) → read_to (loan_of lent) s (length lent.events) lent.closes ≡ read_to (loan job) s (length job.events) job.closes
  leads s = (λ i. read_to (lends i) s (length (same.events i)) (same.like.closes i)) ∙ both.read (loan job) s (length job.events) job.closes

  tells : (s : State) → gathered lent.before.plan (joined (accounts_to (loan_of lent) s (length lent.events) lent.closes)) ≡ gathered job.before.plan (joined (accounts_to (loan job) s (length job.events) job.closes))
  tells s =
      (λ i. gathered lent.before.plan (joined (accounts_to (lends i) s (length (same.events i)) (same.like.closes i))))
      ∙ ap (λ (accounts : List Account). gathered lent.before.plan (joined accounts)) (both.told (loan job) s (length job.events) job.closes)
      ∙ ap (λ (so : Bool). completing so (joined (accounts_to (loan job) s (length job.events) job.closes))) (consume_alike lent.before.plan job.before.plan same.before.plan)

  -- a matcher with the runs to which the kept reading led, by the plan of the job
  led_on : (after now : Option Matching) (list entries : List Moves) → IsDone lent after list → (current now job.before).plan ≡ job.before.plan
      → SameRuns (current now job.before) (current after lent.before) → map seen_moves entries ≡ map seen_moves list → IsKept (whole job) now entries
  led_on after now list entries done plan runs told =
      let m : Matching = current after lent.before in
      let n : Matching = current now job.before in
      record {
        within = omega arith;
        led = record {
          plan = plan;
          stands = λ s stands.
              let there = subst (Stands m) (leads s) (done.stands s (stood s stands)) in
              record { open_is = runs.0 ∙ there.open_is; started_is = runs.1 ∙ there.started_is };
        };
        tells = λ s stands. ap joined told ∙ done.tells s (stood s stands) ∙ tells s;
        below =
            let number : lent.first + length lent.events ≡ job.first + length job.events = λ i. same.like.first i + length (same.events i) in
            let open_ : runs_of m ≡ runs_of n = λ i. record { open_runs = sym runs.0 i; matched = []; started = sym runs.1 i } in
            subst (λ (k : ℕ). Below k (runs_of n)) number (subst (λ (s : State). Below (lent.first + length lent.events) s) open_ done.below);
        last = λ closed. (refl, closed);
      }

  under_plan : (after : Option Matching) → (current (option_map (under job.before.plan) after) job.before).plan ≡ job.before.plan
  under_plan None = refl
  under_plan (Some m) = refl

  under_runs : (after : Option Matching) → SameRuns (current (option_map (under job.before.plan) after) job.before) (current after lent.before)
  under_runs None = (sym same.before.open_runs, sym same.before.started)
  under_runs (Some m) = (refl, refl)

  -- it is where reading would have led
  pub taken_up : (after now : Option Matching) (list entries : List Moves) → IsDone lent after list → now ≡ option_map (under job.before.plan) after → map seen_moves entries ≡ map seen_moves list
      → IsKept (whole job) now entries
  taken_up after now list entries done is told =
      subst (λ (o : Option Matching). IsKept (whole job) o entries) (sym is)
      (led_on after (option_map (under job.before.plan) after) list entries done (under_plan after) (under_runs after) told)
