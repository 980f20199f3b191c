-- What a piece keeps when it reads one event more.
use Rattle.std.proofs.Common.{◌≡◌, ℕ, zero, suc, ◌+◌, ◌<◌, ◌≤◌, Bool, true, false, List, [], ◌∷◌, ◌++◌, get_or, length, map, Option, Some, refl, sym, ◌∙◌, ap, subst, arith}
use Rattle.std.specs.Prelude.{filter, slice_get, if◌then◌else◌, not, nat_lt, ◌&&◌}
use Rattle.std.proofs.lemmas.Bool.{ltb-true}
use Rattle.std.proofs.lemmas.Bool.Decides.{nat_tests}
use Rattle.std.specs.List.{All, AllZip}
use Rattle.std.proofs.lemmas.List.{append-nil}
use Rattle.std.proofs.lemmas.List.Concat.{flat_map-append}
use Rattle.std.proofs.lemmas.List.Elements.{All-weaker, filter-append}
use Rattle.sp_plan.specs.declared.event.Event.{Event}
use Rattle.sp_plan.specs.declared.plan.Plan.{Plan}
use Rattle.sp_plan.specs.Windows.{Numbered}
use Rattle.sp_plan.specs.Runs.{Pair, Started, State, handle, after_closing}
use Rattle.sp_plan.specs.Reading.{after_event}
use Rattle.sp_match.specs.declared.known.Known.{Known}
use Rattle.sp_match.specs.public.Known.{IsKnown}
use Rattle.sp_match.specs.public.Laws.{Below, is_completion}
use Rattle.sp_match.specs.public.Matching.{IsAfter, Matching, Stands, TellsEvent, TellsWanted, runs_of, wanted_as_before}
use Rattle.sp_match.specs.declared.moves.Moves.{Moves}
use Rattle.sp_piece.specs.declared.job.Job.{Job}
use Rattle.sp_piece.specs.Reading.{Loan, Account, account, closing_account, completing, consumes, joined, gathered, skips, read_on, accounts_on, event_accounts, seen_moves}
use Rattle.sp_piece.specs.Pieced.{Pieced, loan, has_closing, has_event}
use Rattle.sp_piece.specs.Keeping.{ClosedOff, current, HandledOn, IsKept, TellsOn, TellsSame, wanted_where}
use Rattle.sp_piece.proofs.MatchesTold.{closing_completes_none}

-- an event passed over changes no runs, and tells nothing
on_skipped : (l : Loan) (s : State) (n : ℕ) → skips l n ≡ true → read_on l s (n + 1) ≡ read_on l s n
on_skipped l s n skip =
    let next : n + 1 ≡ suc n = omega arith in
    ap (read_on l s) next
    ∙ ap (λ (b : Bool). if b then read_on l s n else after_event l.plan (read_on l s n) (l.first + n) (slice_get l.events n)) skip

told_skipped : (l : Loan) (s : State) (n : ℕ) → skips l n ≡ true → accounts_on l s (n + 1) ≡ accounts_on l s n
told_skipped l s n skip =
    let next : n + 1 ≡ suc n = omega arith in
    ap (accounts_on l s) next
    ∙ ap (λ (b : Bool). accounts_on l s n ++ (if b then [] else event_accounts l.plan (read_on l s n) (l.first + n) (slice_get l.events n))) skip
    ∙ append-nil (accounts_on l s n)

-- an event that is not passed over is handled, and told of behind the others
pub on_handled : (l : Loan) (s : State) (n : ℕ) (e : Event) → skips l n ≡ false → slice_get l.events n ≡ Some e
    → read_on l s (n + 1) ≡ handle l.plan (read_on l s n) (l.first + n, e)
on_handled l s n e seen there =
    let next : n + 1 ≡ suc n = omega arith in
    ap (read_on l s) next
    ∙ ap (λ (b : Bool). if b then read_on l s n else after_event l.plan (read_on l s n) (l.first + n) (slice_get l.events n)) seen
    ∙ ap (λ (o : Option Event). after_event l.plan (read_on l s n) (l.first + n) o) there

pub told_handled : (l : Loan) (s : State) (n : ℕ) (e : Event) → skips l n ≡ false → slice_get l.events n ≡ Some e
    → accounts_on l s (n + 1) ≡ accounts_on l s n ++ account l.plan (read_on l s n) (l.first + n, e) ∷ []
told_handled l s n e seen there =
    let next : n + 1 ≡ suc n = omega arith in
    ap (accounts_on l s) next
    ∙ ap (λ (b : Bool). accounts_on l s n ++ (if b then [] else event_accounts l.plan (read_on l s n) (l.first + n) (slice_get l.events n))) seen
    ∙ ap (λ (o : Option Event). accounts_on l s n ++ event_accounts l.plan (read_on l s n) (l.first + n) o) there

-- what is told by accounts behind others comes behind what those tell
pub joined_both : (xs ys : List Account) → joined (xs ++ ys) ≡ (record { told = (joined xs).told ++ (joined ys).told; wanted = (joined xs).wanted ++ (joined ys).wanted })
joined_both xs ys = λ i. record { told = flat_map-append (λ (a : Account). a.told) xs ys i; wanted = flat_map-append (λ (a : Account). a.wanted) xs ys i }

pub joined_behind : (xs ys zs : List Account) → joined xs ≡ joined ys → joined (xs ++ zs) ≡ joined (ys ++ zs)
joined_behind xs ys zs same =
    joined_both xs zs ∙ ap {B = Account} (λ (a : Account). record { told = a.told ++ (joined zs).told; wanted = a.wanted ++ (joined zs).wanted }) same ∙ sym (joined_both ys zs)

-- an account that tells nothing
pub joined_nothing : (xs : List Account) → joined (xs ++ (record { told = []; wanted = [] }) ∷ []) ≡ joined xs
joined_nothing xs = joined_both xs _ ∙ λ i. record { told = append-nil (joined xs).told i; wanted = append-nil (joined xs).wanted i }

-- what is gathered of one account more comes behind what is gathered of the others
completed_behind : (xs : List Account) (a : Account) → filter is_completion (joined xs).told ++ (filter is_completion a.told ++ []) ≡ filter is_completion (joined (xs ++ a ∷ [])).told
completed_behind xs a =
    ap (λ ts. filter is_completion (joined xs).told ++ ts) (append-nil (filter is_completion a.told) ∙ sym (ap (filter is_completion) (append-nil a.told)))
    ∙ sym (filter-append is_completion (joined xs).told (joined (a ∷ [])).told)
    ∙ sym (ap (λ (b : Account). filter is_completion b.told) (joined_both xs (a ∷ [])))

pub gathered_behind : (so : Bool) (ms xs : List Account) (a : Account) → joined ms ≡ completing so (joined xs) → joined (ms ++ completing so a ∷ []) ≡ completing so (joined (xs ++ a ∷ []))
gathered_behind so ms xs a same = λ i. record { told = told i; wanted = wanted so same i }
  where
    told : (joined (ms ++ completing so a ∷ [])).told ≡ filter is_completion (joined (xs ++ a ∷ [])).told
    told =
        ap (λ (b : Account). b.told) (joined_both ms (completing so a ∷ []))
        ∙ ap (λ (b : Account). b.told ++ (filter is_completion a.told ++ [])) same
        ∙ completed_behind xs a

    wanted : (b : Bool) → joined ms ≡ completing b (joined xs) → (joined (ms ++ completing b a ∷ [])).wanted ≡ (completing b (joined (xs ++ a ∷ []))).wanted
    wanted true before =
        ap (λ (c : Account). c.wanted) (joined_both ms (completing true a ∷ []))
        ∙ ap (λ (c : Account). c.wanted ++ (a.wanted ++ [])) before
        ∙ sym (ap (λ (c : Account). c.wanted) (joined_both xs (a ∷ [])))
    wanted false before =
        ap (λ (c : Account). c.wanted) (joined_both ms (completing false a ∷ []))
        ∙ ap (λ (c : Account). c.wanted ++ []) before

-- of an event that changes nothing it is what the open runs want
gathered_quiet : (so : Bool) (m : Matching) (a : Account) → [] ≡ a.told → wanted_as_before m ≡ a.wanted → completing so a ≡ (record { told = []; wanted = wanted_where so m })
gathered_quiet true m a told wanted = λ i. record { told = filter is_completion (sym told i); wanted = sym wanted i }
gathered_quiet false m a told wanted = λ i. record { told = filter is_completion (sym told i); wanted = [] }

-- nothing is gathered of the closing
gathered_closed : (so : Bool) (q : Plan) (s : State) (xs : List Account) → completing so (joined xs) ≡ completing so (joined (xs ++ closing_account q s ∷ []))
gathered_closed so q s xs = λ i. record { told = same i; wanted = wants so i }
  where
    shut : Account
    shut = closing_account q s

    same : filter is_completion (joined xs).told ≡ filter is_completion (joined (xs ++ shut ∷ [])).told
    same =
        sym (append-nil (filter is_completion (joined xs).told))
        ∙ ap (λ ts. filter is_completion (joined xs).told ++ ts) (sym (append-nil (filter is_completion shut.told) ∙ closing_completes_none q s s.open_runs))
        ∙ completed_behind xs shut

    all : (joined xs).wanted ≡ (joined (xs ++ shut ∷ [])).wanted
    all = sym (append-nil (joined xs).wanted) ∙ sym (ap (λ (c : Account). c.wanted) (joined_both xs (shut ∷ [])))

    wants : (b : Bool) → (completing b (joined xs)).wanted ≡ (completing b (joined (xs ++ shut ∷ []))).wanted
    wants true = all
    wants false = refl

abbrev is_below : ℕ → Pair → Type 0
is_below n pair = pair.number < n

abbrev holds_below : ℕ → Started → Type 0
holds_below n run = All (is_below n) run.1

-- what is below a number is below the next one
pub below_next : (n : ℕ) (s : State) → Below n s → Below (n + 1) s
below_next n s below = record {
  events = All-weaker (holds_below n) (holds_below (n + 1)) (λ run all. All-weaker (is_below n) (is_below (n + 1)) (λ pair less. omega arith) run.1 all) s.open_runs below.events;
  started = let less = below.started in omega arith;
}

abbrev pub at : Job → ℕ → Bool → Bool → Pieced
at job read closed short = record { job = job; read = read; closed = closed; short = short }

-- the lent event of this number is passed over
pub kept_skipped : (job : Job) (read : ℕ) (closed short : Bool) (now : Option Matching) (list : List Moves) → IsKept (at job read closed short) now list
    → read < length job.events → skips (loan job) read ≡ true → IsKept (at job (read + 1) closed short) now list
kept_skipped job read true short now list kept within skip = absurd (omega (arith, (kept.last refl).0))
kept_skipped job read false short now list kept within skip = record {
  within = omega arith;
  led = record {
    plan = kept.led.plan;
    stands = λ s stands. subst (Stands (current now job.before)) (sym (on_skipped (loan job) s read skip)) (kept.led.stands s stands);
  };
  tells = λ s stands. kept.tells s stands ∙ ap (λ (accounts : List Account). gathered job.before.plan (joined accounts)) (sym (told_skipped (loan job) s read skip));
  below =
      let same : job.first + read + 1 ≡ job.first + (read + 1) = omega arith in
      subst (λ n. Below n (runs_of (current now job.before))) same (below_next _ _ kept.below);
  last = λ h. absurd (cc h);
}

-- it is handled
pub kept_handled : (job : Job) (read : ℕ) (closed short : Bool) (now later : Option Matching) (list more : List Moves) (e : Event)
    → IsKept (at job read closed short) now list → read < length job.events → skips (loan job) read ≡ false → slice_get job.events read ≡ Some e
    → HandledOn job.wants (job.first + read, e) (current now job.before) (current later job.before) list more → IsKept (at job (read + 1) closed short) later more
kept_handled job read true short now later list more e kept within seen there handled = absurd (omega (arith, (kept.last refl).0))
kept_handled job read false short now later list more e kept within seen there handled =
    let l = loan job in
    let plan : (current now job.before).plan ≡ job.before.plan = kept.led.plan in
    record {
      within = omega arith;
      led = record {
        plan = handled.plan ∙ plan;
        stands = λ s stands.
            subst (Stands (current later job.before)) (sym (on_handled l s read e seen there))
            (subst (λ q. Stands (current later job.before) (handle q (read_on l s read) (job.first + read, e))) plan
            (handled.stands (read_on l s read) (kept.led.stands s stands)));
      };
      tells = λ s stands.
          handled.told (read_on l s read) (kept.led.stands s stands)
          ∙ gathered_behind job.wants (map seen_moves list) (accounts_on l s read) (account (current now job.before).plan (read_on l s read) (job.first + read, e))
          (kept.tells s stands ∙ ap (λ (so : Bool). completing so (joined (accounts_on l s read))) (sym job.wanting))
          ∙ ap (λ (q : Plan). completing job.wants (joined (accounts_on l s read ++ account q (read_on l s read) (job.first + read, e) ∷ []))) plan
          ∙ ap (λ (accounts : List Account). completing job.wants (joined accounts)) (sym (told_handled l s read e seen there))
          ∙ ap (λ (so : Bool). completing so (joined (accounts_on l s (read + 1)))) job.wanting;
      below =
          let same : job.first + read + 1 ≡ job.first + (read + 1) = omega arith in
          subst (λ n. Below n (runs_of (current later job.before))) same handled.below;
      last = λ h. absurd (cc h);
    }

-- the closing is read, by which no run completes
pub kept_closed : (job : Job) (read : ℕ) (closed short : Bool) (now later : Option Matching) (list : List Moves) → IsKept (at job read closed short) now list
    → closed ≡ false → read ≡ length job.events → job.closes ≡ true → ClosedOff (current now job.before) (current later job.before) → IsKept (at job read true short) later list
kept_closed job read closed short now later list kept open_ all lent off =
    let l = loan job in
    let k : IsKept (at job read false short) now list = subst (λ (b : Bool). IsKept (at job read b short) now list) open_ kept in
    record {
      within = k.within;
      led = record {
        plan = off.plan ∙ k.led.plan;
        stands = λ s stands. record { open_is = off.none; started_is = off.count ∙ (k.led.stands s stands).started_is };
      };
      tells = λ s stands. k.tells s stands ∙ gathered_closed (consumes job.before.plan) l.plan (read_on l s read) (accounts_on l s read);
      below = record {
        events = subst (All (holds_below (job.first + read))) (sym off.none) (λ i d less. absurd (omega (arith, less)));
        started = subst (λ (n : ℕ). n < job.first + read) (sym off.count) k.below.started;
      };
      last = λ h. (all, lent);
    }

-- where it tells the same, nothing else changes
pub kept_same : (p : Pieced) (now : Option Matching) (list more : List Moves) → IsKept p now list → TellsSame list more → IsKept p now more
kept_same p now list more kept same = record {
  within = kept.within;
  led = kept.led;
  tells = λ s stands. sym same ∙ kept.tells s stands;
  below = kept.below;
  last = kept.last;
}

-- it changes nothing: what the open runs want is told
pub passed_by : (so : Bool) (x : Numbered) (m : Matching) (list more : List Moves) → IsAfter x m m → TellsEvent x m [] → TellsWanted x m (wanted_as_before m)
    → TellsOn (record { told = []; wanted = wanted_where so m }) list more → Below x.0 (runs_of m) → HandledOn so x m m list more
passed_by so x m list more after told wanted on below = record {
  plan = refl;
  stands = after;
  told = λ s stands. on ∙ ap (λ (a : Account). joined (map seen_moves list ++ a ∷ [])) (sym (gathered_quiet so m (account m.plan s x) (told s stands) (wanted s stands)));
  below = below_next x.0 (runs_of m) below;
}

-- where nothing was read the matcher is the job's
pub unread : (p : Pieced) (now : Option Matching) (list : List Moves) → IsKept p now list → p.read ≡ 0 → p.closed ≡ false → current now p.job.before ≡ p.job.before
unread p now list kept none not_closed =
    let before = p.job.before in
    let m = current now before in
    let first : Stands before (runs_of before) = record { open_is = refl; started_is = refl } in
    let led : Stands m (runs_of before) =
    subst (Stands m) ((λ i. if not_closed i then after_closing (read_on (loan p.job) (runs_of before) p.read) else read_on (loan p.job) (runs_of before) (none i))) (kept.led.stands (runs_of before) first) in
    λ i. record { plan = kept.led.plan i; open_runs = led.open_is i; started = led.started_is i }

-- what is known of the lent event at a place
pub known_at : (q : Plan) (events : List Event) (known : List Known) (i : ℕ) (e : Event) (k : Known) → AllZip (IsKnown q) events known → i < length events → e ≡ get_or events i e → k ≡ get_or known i k → IsKnown q e k
known_at q [] known i e k all within e_is k_is = absurd (omega (arith, within))
known_at q (x ∷ xs) [] i e k all within e_is k_is = absurd all
known_at q (x ∷ xs) (y ∷ ys) zero e k all within e_is k_is = subst (IsKnown q e) (sym k_is) (subst (λ (z : Event). IsKnown q z y) (sym e_is) all.0)
known_at q (x ∷ xs) (y ∷ ys) (suc i) e k all within e_is k_is = known_at q xs ys i e k all.1 (omega (arith, within)) e_is k_is

-- something is known of each lent event
pub as_many : (q : Plan) (events : List Event) (known : List Known) → AllZip (IsKnown q) events known → length known ≡ length events
as_many q [] [] all = refl
as_many q [] (y ∷ ys) all = absurd all
as_many q (x ∷ xs) [] all = absurd all
as_many q (x ∷ xs) (y ∷ ys) all = ap suc (as_many q xs ys all.1)

and_right : (a b : Bool) → (a && b) ≡ true → b ≡ true
and_right true b both = both
and_right false b both = absurd (cc)

-- where an event is still to be read, fewer were read than lent
pub read_within : (p : Pieced) → has_event p ≡ true → p.read < length p.job.events
read_within p has = ltb-true _ _ (and_right (not p.short) (nat_lt p.read (length p.job.events)) has)

all_four : (a b c d : Bool) → (not a && not b && not c && d) ≡ true → (b ≡ false) × (c ≡ false) × (d ≡ true)
all_four true b c d all = absurd (cc)
all_four false true c d all = absurd (cc)
all_four false false true d all = absurd (cc)
all_four false false false false all = absurd (cc)
all_four false false false true all = (refl, refl, refl)

-- where the closing is next, all lent events were read, and it is lent
pub closing_next : (p : Pieced) → p.read ≤ length p.job.events → has_closing p ≡ true → (p.read ≡ length p.job.events) × (p.closed ≡ false) × (p.job.closes ≡ true)
closing_next p within has =
    let four = all_four p.short (nat_lt p.read (length p.job.events)) p.closed p.job.closes has in
    let last = four.0 in
    (grind (arith, nat_tests), four.1, four.2)
