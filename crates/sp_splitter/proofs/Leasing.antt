-- Versions are leased, one after another: how many tickets are out then, and which versions are ready still.
use Rattle.std.proofs.Common.{◌≡◌, ℕ, ◌+◌, ◌<◌, ◌≤◌, Bool, true, false, cond, not, ◌&&◌, ◌||◌, ◌==◌, is_some, is_none, List, [], ◌∷◌, ◌++◌, length, take, drop, map, filter, get_or, Option, None, Some, refl, sym, ap, subst, ◌∙◌, arith}
use Rattle.std.specs.List.{All, count_by, sum}
use Rattle.std.proofs.lemmas.Bool.Decides.{nat_tests}
use Rattle.std.proofs.lemmas.List.{length-append}
use Rattle.std.proofs.lemmas.List.Elements.{All-head, All-tail}
use Rattle.std.proofs.lemmas.List.Sums.{count_by_more_yes, sum_by-cons, sum_by-take-drop}
use Rattle.sp_base.specs.Numbers.{is_among}
use Rattle.sp_rules.proofs.Lists.{and_both, and_left, and_right, filter_mem, mem_filter, same_bool}
use Rattle.sp_plan.specs.declared.event.Event.{Event}
use Rattle.sp_plan.specs.declared.plan.Plan.{Plan}
use Rattle.sp_piece.specs.declared.job.Job.{Job}
use Rattle.sp_group.specs.declared.refusal.Refusal.{Refusal}
use Rattle.sp_group.specs.declared.step.Step.TheVariants as s
use Rattle.sp_group.specs.Machine as machine
use Rattle.sp_group.specs.Machine.{Machine, Ticket, is_out, version_at}
use Rattle.sp_group.specs.Refusing.{refusal, lease_refusal}
use Rattle.sp_group.specs.Effects.{leased}
use Rattle.sp_group.specs.Steps.{is_ready, out_count}
use Rattle.sp_version.specs.declared.version.Version.{Version}
use Rattle.sp_tree.specs.Grown.{Grown, Entry}
use Rattle.sp_core.specs.Holding.{Holds, version_of}
use Rattle.sp_core.specs.Showing.{IsTreeOf}
use Rattle.sp_core.proofs.Conflicting.{out_is}
use Rattle.sp_core.specs.Leasing.{IsLeased}
use Rattle.sp_core.specs.Running.{IsDone, Running, after, refused}
use Rattle.sp_spread.specs.Laws.{ready_numbers}
use Rattle.sp_splitter.specs.Knowing.{Known}
use Rattle.sp_splitter.specs.Keeping.{AreApart, Lends}
use Rattle.sp_splitter.specs.Lending.{asked, leased_all}
use Rattle.sp_splitter.specs.Splitting.{RiseBetween, IsBelowKept}
use Rattle.sp_splitter.proofs.Stepping.{asked_once, never_once, out_lease, spread_lease}
use Rattle.sp_splitter.proofs.Untouched.{kept_itself, kept_then, kept_lease, spread_out_kept}

and_true : (b : Bool) → (b && true) ≡ b
and_true true = refl
and_true false = refl

-- nothing was leased
pub lends_itself : (shy : Bool) (batch : ℕ) (c : Running) → Lends shy batch [] c c
lends_itself shy batch c = record {
  keeps = kept_itself c;
  spread = λ n out spread. spread;
  out = omega arith;
  never = λ n few never. never;
  asked = λ asked. asked;
  left = λ id. sym (and_true (is_among (ready_numbers c.plan c.bound c.machine) id));
  are = refl;
}

leased_more : (shy : Bool) (batch : ℕ) (ns ms : List ℕ) (c : Running) → leased_all shy batch (ns ++ ms) c ≡ leased_all shy batch ms (leased_all shy batch ns c)
leased_more shy batch [] ms c = refl
leased_more shy batch (n ∷ ns) ms c = leased_more shy batch ns ms (after c (s.Lease n (asked shy batch c n)))

among_filter : (p : ℕ → Bool) (ns : List ℕ) (n : ℕ) → is_among (filter p ns) n ≡ (is_among ns n && p n)
among_filter p ns n =
    same_bool (is_among (filter p ns) n) (is_among ns n && p n)
    (λ h. and_both (is_among ns n) (p n) (mem_filter n p ns h).0 (mem_filter n p ns h).1)
    (λ h. filter_mem n p ns (and_left (is_among ns n) (p n) h) (and_right (is_among ns n) (p n) h))

among_more : (ns : List ℕ) (m n : ℕ) → is_among (ns ++ m ∷ []) n ≡ (is_among ns n || m == n)
among_more [] m n = or_false (m == n)
  where
    or_false : (b : Bool) → (b || false) ≡ (false || b)
    or_false true = refl
    or_false false = refl
among_more (k ∷ ns) m n = one (k == n) (among_more ns m n)
  where
    one : (b : Bool) → is_among (ns ++ m ∷ []) n ≡ (is_among ns n || m == n) → (b || is_among (ns ++ m ∷ []) n) ≡ ((b || is_among ns n) || m == n)
    one true rest = refl
    one false rest = rest

both_left : (a b c : Bool) → ((a && not b) && not c) ≡ (a && not (b || c))
both_left true true c = refl
both_left true false c = refl
both_left false b c = refl

same_either : (m n : ℕ) → (m == n) ≡ (n == m)
same_either m n = grind (arith, nat_tests)

-- one lease more
pub lends_more : (shy : Bool) (batch id : ℕ) (done : List ℕ) (old mid new : Running) → Known mid → Lends shy batch done old mid → IsDone (s.Lease id (asked shy batch mid id)) mid new
    → asked shy batch mid id ≤ batch → Lends shy batch (done ++ id ∷ []) old new
lends_more shy batch id done old mid new known lends is most =
    let count = asked shy batch mid id in
    let keeps = kept_lease id count mid new known is in
    let law = known.lawful.busy.by_lease id count is.0 in
    let ready : ready_numbers new.plan new.bound new.machine ≡ filter (λ other. not (other == id)) (ready_numbers mid.plan mid.bound mid.machine) =
    ap (λ (z : Running). ready_numbers z.plan z.bound z.machine) is.1 ∙ law.0 in
    let more : length (done ++ id ∷ []) ≡ length done + 1 = length-append done (id ∷ []) in
    let grown : out_count new.machine ≡ out_count mid.machine + 1 = out_lease id count mid new known is in
    let before : out_count mid.machine ≡ out_count old.machine + length done = lends.out in
    record {
      keeps = kept_then old mid new lends.keeps keeps;
      spread = λ n out spread. spread_lease n id count mid new known is (spread_out_kept n old mid lends.keeps out) (lends.spread n out spread);
      out = omega arith;
      never = λ n few never. never_once n (s.Lease id count) mid new known is (omega arith) few (lends.never n (omega arith) never);
      asked = λ before. asked_once batch (s.Lease id count) mid new is most (lends.asked before);
      left = λ x. ap (λ (ns : List ℕ). is_among ns x) ready ∙ among_filter (λ other. not (other == id)) (ready_numbers mid.plan mid.bound mid.machine) x
          ∙ (λ i. lends.left x i && not (same_either x id i)) ∙ both_left (is_among (ready_numbers old.plan old.bound old.machine) x) (is_among done x) (id == x)
          ∙ ap (λ (b : Bool). is_among (ready_numbers old.plan old.bound old.machine) x && not b) (sym (among_more done id x));
      are = is.1 ∙ ap (λ (z : Running). after z (s.Lease id (asked shy batch z id))) lends.are ∙ sym (leased_more shy batch done (id ∷ []) old);
    }

-- what is among the ready versions is not refused
ready_passes : (q : Plan) (bound : ℕ) (m : Machine) (vs : List machine.Version) (id n : ℕ)
    → is_among (map (λ (v : machine.Version). v.id) (filter (is_ready q bound m) vs)) id ≡ true → refusal q bound m (s.Lease id n) ≡ None
ready_passes q bound m [] id n among = absurd (cc)
ready_passes q bound m (v ∷ vs) id n among = one (ready_passes q bound m vs id n) (is_ready q bound m v) refl among
  where
    nothing : (o : Option Refusal) → is_none o ≡ true → o ≡ None
    nothing None is = refl
    nothing (Some r) is = absurd (cc)

    this : (is_among (map (λ (v : machine.Version). v.id) (filter (is_ready q bound m) vs)) id ≡ true → refusal q bound m (s.Lease id n) ≡ None)
        → (b : Bool) → (v.id == id) ≡ b → is_ready q bound m v ≡ true → (b || is_among (map (λ (v : machine.Version). v.id) (filter (is_ready q bound m) vs)) id) ≡ true
        → refusal q bound m (s.Lease id n) ≡ None
    this rest true same ready or =
        let is : v.id ≡ id = grind (arith, nat_tests) in
        subst (λ (z : ℕ). refusal q bound m (s.Lease z n) ≡ None) is (nothing (refusal q bound m (s.Lease v.id 1)) ready)
    this rest false same ready or = rest or

    one : (is_among (map (λ (v : machine.Version). v.id) (filter (is_ready q bound m) vs)) id ≡ true → refusal q bound m (s.Lease id n) ≡ None)
        → (b : Bool) → is_ready q bound m v ≡ b → is_among (map (λ (v : machine.Version). v.id) (cond b (v ∷ filter (is_ready q bound m) vs) (filter (is_ready q bound m) vs))) id ≡ true
        → refusal q bound m (s.Lease id n) ≡ None
    one rest true ready among = this rest (v.id == id) refl ready among
    one rest false ready among = rest among

none_counted : (ns : List ℕ) (n : ℕ) → count_by (λ m. m == n) ns ≡ 0 → is_among ns n ≡ false
none_counted [] n none = refl
none_counted (m ∷ ns) n none = one (none_counted ns n) (m == n) (sym (sum_by-cons (λ (k : ℕ). cond (k == n) 1 0) m ns) ∙ none)
  where
    one : (count_by (λ m. m == n) ns ≡ 0 → is_among ns n ≡ false) → (b : Bool) → cond b 1 0 + count_by (λ m. m == n) ns ≡ 0 → (b || is_among ns n) ≡ false
    one rest true none = absurd (omega arith)
    one rest false none = rest (omega arith)

-- the next one is not among those that were leased
fresh : (ids : List ℕ) (k : ℕ) (d : ℕ) → k < length ids → AreApart ids → is_among (take k ids) (get_or ids k d) ≡ false
fresh ids k d low apart =
    let id = get_or ids k d in
    let itself : (id == id) ≡ true = grind (arith, nat_tests) in
    let more : count_by (λ m. m == id) (take (k + 1) ids) ≡ count_by (λ m. m == id) (take k ids) + 1 = count_by_more_yes (λ m. m == id) ids k d low itself in
    let parts : count_by (λ m. m == id) (take (k + 1) ids) + count_by (λ m. m == id) (drop (k + 1) ids) ≡ count_by (λ m. m == id) ids =
    sum_by-take-drop (λ m. cond (m == id) 1 0) ids (k + 1) in
    let most : count_by (λ m. m == id) ids ≤ 1 = apart id in
    none_counted (take k ids) id (omega arith)

-- the next one is ready still
pub next_passes : {shy : Bool} (batch : ℕ) (ids : List ℕ) (k d n : ℕ) (old mid : Running) → k < length ids → AreApart ids
    → All (λ id. is_among (ready_numbers old.plan old.bound old.machine) id ≡ true) ids → Lends shy batch (take k ids) old mid
    → refused mid (s.Lease (get_or ids k d) n) ≡ None
next_passes batch ids k d n old mid low apart all lends =
    let others : is_among (take k ids) (get_or ids k d) ≡ false = fresh ids k d low apart in
    let ready = all k d low in
    ready_passes mid.plan mid.bound mid.machine mid.machine.versions (get_or ids k d) n (lends.left (get_or ids k d) ∙ λ i. ready i && not (others i))

-- rising numbers with a greater one behind them
rise_more : (low : ℕ) (ns : List ℕ) (n : ℕ) → RiseBetween low ns n → RiseBetween low (ns ++ n ∷ []) (n + 1)
rise_more low [] n rise = (rise, omega arith)
rise_more low (m ∷ ns) n rise = (rise.0, rise_more m ns n rise.1)

tickets_more : (kept : List Job) (job : Job) → map (λ (j : Job). j.ticket) (kept ++ job ∷ []) ≡ map (λ (j : Job). j.ticket) kept ++ job.ticket ∷ []
tickets_more [] job = refl
tickets_more (j ∷ kept) job = ap (λ (ns : List ℕ). j.ticket ∷ ns) (tickets_more kept job)

next_leased : (q : Plan) (m : Machine) (id n : ℕ) (bound : ℕ) → refusal q bound m (s.Lease id n) ≡ None → (leased q m n (version_at m.versions id)).next_ticket ≡ m.next_ticket + 1
next_leased q m id n bound passes = one (version_at m.versions id) passes
  where
    one : (o : Option machine.Version) → lease_refusal q m id o ≡ None → (leased q m n o).next_ticket ≡ m.next_ticket + 1
    one None refused = absurd (cc)
    one (Some v) passes = refl

-- the job of a lease, behind the kept ones
pub below_more : (last id batch : ℕ) (old new : Running) (kept : List Job) (job : Job) → IsDone (s.Lease id batch) old new → job.ticket ≡ old.machine.next_ticket
    → IsBelowKept last kept old.machine.next_ticket → IsBelowKept last (kept ++ job ∷ []) new.machine.next_ticket
below_more last id batch old new kept job done is below =
    let next : new.machine.next_ticket ≡ old.machine.next_ticket + 1 =
    ap (λ (z : Running). z.machine.next_ticket) done.1 ∙ next_leased old.plan old.machine id batch old.bound done.0 in
    let tickets : map (λ (j : Job). j.ticket) (kept ++ job ∷ []) ≡ map (λ (j : Job). j.ticket) kept ++ old.machine.next_ticket ∷ [] =
    tickets_more kept job ∙ ap (λ (n : ℕ). map (λ (j : Job). j.ticket) kept ++ n ∷ []) is in
    subst (λ (ns : List ℕ). RiseBetween last ns new.machine.next_ticket) (sym tickets)
    (subst (λ (n : ℕ). RiseBetween last (map (λ (j : Job). j.ticket) kept ++ old.machine.next_ticket ∷ []) n) (sym next)
    (rise_more last (map (λ (j : Job). j.ticket) kept) old.machine.next_ticket below))

-- the entries with a ticket are those of the versions for which one is out
out_marked : (q : Plan) (events : List Event) (tickets : List Ticket) (es : List (Entry Version)) → All (Holds q events tickets) es
    → sum (map (λ e. cond (is_some e.value.out) 1 0) es) ≡ length (filter (λ v. is_out tickets v.id) (map version_of es))
out_marked q events tickets [] all = refl
out_marked q events tickets (e ∷ es) all =
    let holds = All-head (Holds q events tickets) e es all in
    let here : is_some e.value.out ≡ is_out tickets e.version.id = ap is_some holds.out ∙ out_is tickets e.version.id in
    let rest = out_marked q events tickets es (All-tail (Holds q events tickets) e es all) in
    sum_by-cons (λ (x : ℕ). x) (cond (is_some e.value.out) 1 0) (map (λ (e : Entry Version). cond (is_some e.value.out) 1 0) es)
    ∙ (λ i. cond (here i) 1 0 + rest i) ∙ one (is_out tickets e.version.id)
  where
    others : List machine.Version
    others = filter (λ v. is_out tickets v.id) (map version_of es)

    one : (b : Bool) → cond b 1 0 + length others ≡ length (cond b (version_of e ∷ others) others)
    one true = omega arith
    one false = omega arith

-- they are as many as tickets are out for live versions
pub out_total : (c : Running) (t : Grown Version) → Known c → IsTreeOf c t → sum (map (λ e. cond (is_some e.value.out) 1 0) t.entries) ≡ out_count c.machine
out_total c t known tree =
    out_marked c.plan c.machine.events c.machine.tickets t.entries tree.holds
    ∙ ap (λ (vs : List machine.Version). length (filter (λ v. is_out c.machine.tickets v.id) vs)) tree.versions ∙ sym known.lawful.out.versions

-- the job of a lease has the next ticket
pub leased_ticket : (c : Running) (id n : ℕ) (job : Job) → IsLeased c id n job → job.ticket ≡ c.machine.next_ticket
leased_ticket c id n job (v, at, carries) = carries.ticket

pub below_after : (last id batch : ℕ) (old new : Running) (kept now : List Job) → IsDone (s.Lease id batch) old new
    → ((job : Job) × (job.ticket ≡ old.machine.next_ticket) × (now ≡ kept ++ job ∷ [])) → IsBelowKept last kept old.machine.next_ticket
    → IsBelowKept last now new.machine.next_ticket
below_after last id batch old new kept now done (job, ticket, items) below =
    subst (λ (jobs : List Job). IsBelowKept last jobs new.machine.next_ticket) (sym items) (below_more last id batch old new kept job done ticket below)

-- one job more is kept
pub kept_more : (next : ℕ) (old kept now : List Job) (k : ℕ) → ((job : Job) × (job.ticket ≡ next) × (now ≡ kept ++ job ∷ [])) → length kept ≡ length old + k
    → length now ≡ length old + (k + 1)
kept_more next old kept now k (job, ticket, items) before =
    let more : length now ≡ length kept + 1 = ap length items ∙ length-append kept (job ∷ []) in
    omega arith
