-- What a piece keeps when it reads events that change nothing.
use Rattle.std.proofs.Common.{◌≡◌, ℕ, zero, suc, ◌+◌, ◌-◌, ◌<◌, ◌≤◌, Bool, true, false, List, [], ◌∷◌, ◌++◌, length, map, Option, Some, refl, sym, ◌∙◌, ap, subst, arith}
use Rattle.std.specs.Prelude.{filter, slice_get, nat_lt, get_or}
use Rattle.std.specs.List.{AllZip}
use Rattle.std.proofs.lemmas.List.{append-nil, append_assoc, length-map, nil_from_length}
use Rattle.std.proofs.lemmas.Option.{get_or_from_slice_get}
use Rattle.std.proofs.lemmas.Bool.Decides.{nat_tests}
use Rattle.sp_plan.specs.declared.event.Event.{Event}
use Rattle.sp_plan.specs.declared.plan.Plan.{Plan}
use Rattle.sp_plan.specs.Windows.{Numbered}
use Rattle.sp_plan.specs.Runs.{Started, State, handle}
use Rattle.sp_plan.specs.Moves.{left}
use Rattle.sp_match.specs.declared.known.Known.{Known}
use Rattle.sp_match.specs.public.Known.{IsKnown}
use Rattle.sp_match.specs.public.Laws.{Below, is_completion}
use Rattle.sp_match.specs.public.Matching.{Matching, Stands, runs_of, shown, wanted_as_before}
use Rattle.sp_match.specs.public.Seen.{seen_run}
use Rattle.sp_match.specs.declared.run.Run.{Run}
use Rattle.sp_match.specs.declared.moves.Moves.{Moves}
use Rattle.sp_piece.specs.declared.job.Job.{Job}
use Rattle.sp_piece.specs.Reading.{Loan, Account, account, accounts_on, completing, joined, read_on, seen_moves, skips}
use Rattle.sp_piece.specs.Pieced.{loan}
use Rattle.sp_piece.specs.Keeping.{IsKept, NoneSkipped, PassesBy, TellsOn, current, going, wanted_where}
use Rattle.sp_wants.specs.Stretches.{repeated}
use Rattle.sp_piece.proofs.Kept.{below_next, joined_both, joined_nothing, on_handled, told_handled}
use Rattle.sp_piece.proofs.Wants.{of_wants}

-- no list, however often, is no list
repeated_none : {A : Type 0} (n : ℕ) → repeated {A = A} n [] ≡ []
repeated_none zero = refl
repeated_none (suc n) = append-nil (repeated n []) ∙ repeated_none n

-- where no run is open nothing is wanted
none_open : (runs : List Run) (m : Matching) → map seen_run runs ≡ map (shown m.plan) m.open_runs → length runs ≡ 0 → m.open_runs ≡ []
none_open runs m same none =
    nil_from_length m.open_runs (sym (length-map m.open_runs (shown m.plan)) ∙ ap length (sym same) ∙ length-map runs seen_run ∙ none)

no_wants : (so : Bool) (m : Matching) → m.open_runs ≡ [] → wanted_where so m ≡ []
no_wants true m none = ap (map (λ (run : Started). (left m.plan run.1, left m.plan run.1))) none
no_wants false m none = refl

told_nothing : (ws : List (ℕ × ℕ)) (list : List Moves) (times : ℕ) → ws ≡ [] → TellsOn (of_wants (repeated times ws)) list list
told_nothing ws list times none =
    sym (ap (λ (us : List (ℕ × ℕ)). joined (map seen_moves list ++ of_wants (repeated times us) ∷ [])) none
    ∙ ap (λ (us : List (ℕ × ℕ)). joined (map seen_moves list ++ of_wants us ∷ [])) (repeated_none times) ∙ joined_nothing (map seen_moves list))

pub nothing_wanted : (so : Bool) (runs : List Run) (m : Matching) (list : List Moves) (times : ℕ) → map seen_run runs ≡ map (shown m.plan) m.open_runs → length runs ≡ 0
    → TellsOn (of_wants (repeated times (wanted_where so m))) list list
nothing_wanted so runs m list times same none = told_nothing (wanted_where so m) list times (no_wants so m (none_open runs m same none))

-- and neither where that is not told
pub nothing_told : (so : Bool) (m : Matching) (list : List Moves) (times : ℕ) → so ≡ false → TellsOn (of_wants (repeated times (wanted_where so m))) list list
nothing_told so m list times silent = told_nothing (wanted_where so m) list times (ap (λ (b : Bool). wanted_where b m) silent)

-- an event that changes nothing adds what the runs want
joined_wants : (xs : List Account) (ws : List (ℕ × ℕ)) → joined (xs ++ of_wants ws ∷ []) ≡ (record { told = (joined xs).told; wanted = (joined xs).wanted ++ ws })
joined_wants xs ws =
    joined_both xs (of_wants ws ∷ [])
    ∙ λ i. record { told = append-nil (joined xs).told i; wanted = (joined xs).wanted ++ append-nil ws i }

-- gathered of it, that is what they want where that is told
quiet_behind : (so : Bool) (m : Matching) (a b : Account) (xs : List Account) → a ≡ completing so (joined xs) → [] ≡ b.told → wanted_as_before m ≡ b.wanted
    → record a { wanted = a.wanted ++ wanted_where so m } ≡ completing so (joined (xs ++ b ∷ []))
quiet_behind so m a b xs same told wanted =
    ap {B = Account} (λ (c : Account). record { told = c.told; wanted = c.wanted ++ wanted_where so m }) same
    ∙ λ i. record { told = first i; wanted = wants so i }
  where
    first : filter is_completion (joined xs).told ≡ filter is_completion (joined (xs ++ b ∷ [])).told
    first =
        ap (filter is_completion) (sym (append-nil (joined xs).told) ∙ ap (λ ts. (joined xs).told ++ ts) (told ∙ sym (append-nil b.told)) ∙ sym (ap (λ (c : Account). c.told) (joined_both xs (b ∷ []))))

    wants : (so : Bool) → (completing so (joined xs)).wanted ++ wanted_where so m ≡ (completing so (joined (xs ++ b ∷ []))).wanted
    wants true = ap (λ ws. (joined xs).wanted ++ ws) (wanted ∙ sym (append-nil b.wanted)) ∙ sym (ap (λ (c : Account). c.wanted) (joined_both xs (b ∷ [])))
    wants false = refl

-- a lent event, and what is known of it
record There (q : Plan) (events : List Event) (known : List Known) (i : ℕ) : Type 0 where
  event : Event
  is : Known
  at : slice_get events i ≡ Some event
  known_at : slice_get known i ≡ Some is
  sure : IsKnown q event is

there : (q : Plan) (events : List Event) (known : List Known) (i : ℕ) → AllZip (IsKnown q) events known → i < length events → There q events known i
there q [] known i all within = absurd (omega (arith, within))
there q (e ∷ events) [] i all within = absurd all
there q (e ∷ events) (k ∷ known) zero all within = record { event = e; is = k; at = refl; known_at = refl; sure = all.0 }
there q (e ∷ events) (k ∷ known) (suc i) all within =
    let t = there q events known i all.1 (omega (arith, within)) in
    record { event = t.event; is = t.is; at = t.at; known_at = t.known_at; sure = t.sure }

-- The matcher stands for the runs after the first n lent events, and this is told of them.
record Goes (job : Job) (m : Matching) (a : Account) (n : ℕ) : Type 0 where
  stands : (s : State) → Stands job.before s → Stands m (read_on (loan job) s n)
  tells : (s : State) → Stands job.before s → a ≡ completing job.wants (joined (accounts_on (loan job) s n))
  below : Below (job.first + n) (runs_of m)

module _ (job : Job) (m : Matching) (plan : m.plan ≡ job.before.plan) where
  -- one event that changes nothing
  quiet_one : (a : Account) (n : ℕ) (e : Event) (k : Known) → Goes job m a n → skips (loan job) n ≡ false → slice_get job.events n ≡ Some e → IsKnown job.before.plan e k → PassesBy m k
      → Goes job m (record { told = a.told; wanted = a.wanted ++ wanted_where job.wants m }) (n + 1)
  quiet_one a n e k goes shown at known passes =
      let l : Loan = loan job in
      let x : Numbered = (job.first + n, e) in
      let sure : IsKnown m.plan e k = subst (λ (q : Plan). IsKnown q e k) (sym plan) known in
      record {
        stands = λ s stands.
            subst (Stands m) (sym (on_handled l s n e shown at))
            (subst (λ (q : Plan). Stands m (handle q (read_on l s n) x)) plan (passes.stands x sure (read_on l s n) (goes.stands s stands)));
        tells = λ s stands.
            let t : State = read_on l s n in
            quiet_behind job.wants m a (account m.plan t x) (accounts_on l s n) (goes.tells s stands) (passes.told x sure t (goes.stands s stands)) (passes.wanted x sure t (goes.stands s stands))
            ∙ ap (λ (q : Plan). completing job.wants (joined (accounts_on l s n ++ account q t x ∷ []))) plan
            ∙ ap (λ (accounts : List Account). completing job.wants (joined accounts)) (sym (told_handled l s n e shown at));
        below =
            let next : job.first + n + 1 ≡ job.first + (n + 1) = omega arith in
            subst (λ (i : ℕ). Below i (runs_of m)) next (below_next (job.first + n) (runs_of m) goes.below);
      }

  -- several, one after another
  quiet_on : (a : Account) (read n : ℕ) → Goes job m a read → read + n ≤ length job.events → NoneSkipped job read (read + n)
      → ((i : ℕ) (k : Known) → read ≤ i → i < read + n → slice_get job.known i ≡ Some k → PassesBy m k)
      → Goes job m (record { told = a.told; wanted = a.wanted ++ repeated n (wanted_where job.wants m) }) (read + n)
  quiet_on a read zero goes within shown quiet =
      let same : read ≡ read + zero = omega arith in
      subst (λ (ws : List (ℕ × ℕ)). Goes job m (record { told = a.told; wanted = ws }) (read + zero)) (sym (append-nil a.wanted)) (subst (Goes job m a) same goes)
  quiet_on a read (suc n) goes within shown quiet =
      let ws : List (ℕ × ℕ) = wanted_where job.wants m in
      let at : read + n + 1 ≡ read + suc n = omega arith in
      let few : read + n < length job.events = omega arith in
      let before = quiet_on a read n goes (omega arith) (λ i low high. shown i low (omega (arith, high))) (λ i k low high. quiet i k low (omega (arith, high))) in
      let t = there job.before.plan job.events job.known (read + n) job.lendable.known_are few in
      let passes : PassesBy m t.is = quiet (read + n) t.is (omega arith) (omega arith) t.known_at in
      let after = quiet_one (record { told = a.told; wanted = a.wanted ++ repeated n ws }) (read + n) t.event t.is before (shown (read + n) (omega arith) (omega arith)) t.at t.sure passes in
      subst (λ (us : List (ℕ × ℕ)). Goes job m (record { told = a.told; wanted = us }) (read + suc n)) (append_assoc a.wanted (repeated n ws) ws)
      (subst (Goes job m (record { told = a.told; wanted = (a.wanted ++ repeated n ws) ++ ws })) at after)

-- Events from one place to another were read that change nothing, and what the runs want was told for each.
pub kept_quiet : (job : Job) (read quiet : ℕ) (now : Option Matching) (list more : List Moves) → IsKept (going job read) now list → read ≤ quiet → quiet ≤ length job.events
    → NoneSkipped job read quiet → ((i : ℕ) (k : Known) → read ≤ i → i < quiet → slice_get job.known i ≡ Some k → PassesBy (current now job.before) k)
    → TellsOn (of_wants (repeated (quiet - read) (wanted_where job.wants (current now job.before)))) list more → IsKept (going job quiet) now more
kept_quiet job read quiet now list more kept order within shown passes on =
    let m : Matching = current now job.before in
    let ws : List (ℕ × ℕ) = repeated (quiet - read) (wanted_where job.wants m) in
    let a : Account = joined (map seen_moves list) in
    let all : read + (quiet - read) ≡ quiet = omega arith in
    let goes : Goes job m a read = record {
      stands = kept.led.stands;
      tells = λ s stands. kept.tells s stands ∙ ap (λ (so : Bool). completing so (joined (accounts_on (loan job) s read))) (sym job.wanting);
      below = kept.below;
    } in
    let after : Goes job m (record { told = a.told; wanted = a.wanted ++ ws }) quiet =
    subst (Goes job m (record { told = a.told; wanted = a.wanted ++ ws })) all
    (quiet_on job m kept.led.plan a read (quiet - read) goes (omega arith) (λ i low high. shown i low (omega (arith, high))) (λ i k low high. passes i k low (omega (arith, high)))) in
    record {
      within = within;
      led = record { plan = kept.led.plan; stands = after.stands };
      tells = λ s stands. on ∙ joined_wants (map seen_moves list) ws ∙ after.tells s stands ∙ ap (λ (so : Bool). completing so (joined (accounts_on (loan job) s quiet))) job.wanting;
      below = after.below;
      last = λ h. absurd (cc h);
    }

-- what is known of one event more changes nothing
pub one_more_quiet : (m : Matching) (known : List Known) (from place : ℕ) (d : Known) → ((i : ℕ) (k : Known) → from ≤ i → i < place → slice_get known i ≡ Some k → PassesBy m k)
    → PassesBy m (get_or known place d) → (i : ℕ) (k : Known) → from ≤ i → i < place + 1 → slice_get known i ≡ Some k → PassesBy m k
one_more_quiet m known from place d before here i k low high at = one (nat_lt i place) refl
  where
    one : (b : Bool) → nat_lt i place ≡ b → PassesBy m k
    one true less = before i k low (grind (arith, nat_tests)) at
    one false most =
        let same : place ≡ i = grind (arith, nat_tests) in
        subst (PassesBy m) (ap (λ (j : ℕ). get_or known j d) same ∙ get_or_from_slice_get known i k d at) here
