-- Tickets whose versions are gone return with nothing read, one after another; and which of the kept jobs are left then.
use Rattle.std.proofs.Common.{◌≡◌, ℕ, zero, suc, ◌+◌, ◌<◌, ◌≤◌, ◌⊎◌, inl, inr, Bool, true, false, cond, is_some, is_none, List, [], ◌∷◌, ◌++◌, length, take, drop, map, filter, get_or, Option, None, Some, Bor, ◌==◌, refl, sym, ap, subst, ◌∙◌, append_assoc, add-one, arith}
use Rattle.std.specs.List.{All, remove}
use Rattle.std.proofs.lemmas.List.Elements.{All-push}
use Rattle.std.specs.Option.{option_copied}
use Rattle.std.proofs.lemmas.List.{append-nil, drop_all, drop_more, take_all, take_more}
use Rattle.sp_rules.proofs.Lists.{below_or}
use Rattle.sp_rules.proofs.Tickets.{without_at}
use Rattle.sp_piece.specs.declared.job.Job.{Job}
use Rattle.sp_piece.specs.Pieced.{Pieced}
use Rattle.sp_plan.specs.declared.plan.Plan.{Plan}
use Rattle.sp_version.specs.declared.version.Version as held
use Rattle.sp_tree.specs.Grown.{Grown, Entry, kin, value_of}
use Rattle.sp_group.specs.Family.{entry_at}
use Rattle.sp_group.specs.declared.step.Step.TheVariants as s
use Rattle.sp_group.specs.Machine.{Machine, Ticket, Version, version_at, ticket_at}
use Rattle.sp_group.specs.Effects.{home, returned, without}
use Rattle.sp_group.specs.Steps.{out_count}
use Rattle.sp_core.specs.declared.lent.Lent.{Lent}
use Rattle.sp_core.specs.declared.given.Given.{Given}
use Rattle.sp_core.specs.declared.given.Given.TheVariants as g
use Rattle.sp_core.specs.Returning.{IsGiven}
use Rattle.sp_core.specs.Holding.{version_of}
use Rattle.sp_core.specs.Running.{IsDone, Running, after}
use Rattle.sp_core.specs.Showing.{IsTreeOf}
use Rattle.sp_spread.specs.Laws.{IsStale}
use Rattle.sp_splitter.specs.Knowing.{Known}
use Rattle.sp_splitter.specs.Keeping.{Clears}
use Rattle.sp_splitter.specs.Lending.{returned_all}
use Rattle.sp_splitter.specs.Splitting.{RiseBetween, IsBelowKept}
use Rattle.sp_splitter.specs.Stages.{NoneEmitted, NoneRead, Went}
use Rattle.sp_splitter.proofs.Stepping.{back_done, goes_back, goes_then, none_emitted_back, none_read_back, went_back, within_itself, within_then}
use Rattle.sp_splitter.proofs.Untouched.{kept_itself, kept_then, kept_stale, stale_effect, stale_refusal, went_kept}

none_without : (n k : ℕ) (ts : List Ticket) → ticket_at ts k ≡ None → ticket_at (without n ts) k ≡ None
none_without n k ts none = by (ticket_at (without n ts) k) refl
  where
    by : (o : Option Ticket) → ticket_at (without n ts) k ≡ o → o ≡ None
    by None is = refl
    by (Some t) is = let there = (without_at n ts k t is).1 in absurd (cc)

not_within : (n : ℕ) (ts : List Ticket) → ticket_at (without n ts) n ≡ None
not_within n ts = by (ticket_at (without n ts) n) refl
  where
    by : (o : Option Ticket) → ticket_at (without n ts) n ≡ o → o ≡ None
    by None is = refl
    by (Some t) is = absurd ((without_at n ts n t is).0 refl)

pub clears_itself : (c : Running) → Clears c c
clears_itself c = record {
  keeps = kept_itself c;
  none_more = λ n none. none;
  goes = λ n spreading. spreading;
  within = λ n batch. within_itself n batch c;
  out = refl;
  next_ticket = refl;
  back = [];
  are = refl;
}

-- where nothing was done
pub clears_none : (old new : Running) → new ≡ old → Clears old new
clears_none old new same = subst (λ (z : Running). Clears old z) (sym same) (clears_itself old)

returned_more : (ns ms : List ℕ) (c : Running) → returned_all (ns ++ ms) c ≡ returned_all ms (returned_all ns c)
returned_more [] ms c = refl
returned_more (n ∷ ns) ms c = returned_more ns ms (after c (s.Return n))

-- one after another
pub clears_then : (a b c : Running) → Clears a b → Clears b c → Clears a c
clears_then a b c first then = record {
  keeps = kept_then a b c first.keeps then.keeps;
  none_more = λ n none. then.none_more n (first.none_more n none);
  goes = λ n. goes_then n a b c (first.goes n) (then.goes n);
  within = λ n batch. within_then n batch a b c (λ few. subst (λ (z : ℕ). z ≤ n + 1) (sym first.out) few) (first.within n batch) (then.within n batch);
  out = then.out ∙ first.out;
  next_ticket = then.next_ticket ∙ first.next_ticket;
  back = first.back ++ then.back;
  are = then.are ∙ ap (returned_all then.back) first.are ∙ sym (returned_more first.back then.back a);
}

stale_tickets : (n : ℕ) (old new : Running) → IsStale old.machine n → new ≡ after old (s.Return n) → new.machine.tickets ≡ without n old.machine.tickets
stale_tickets n old new stale is =
    ap (λ (z : Running). z.machine.tickets) is ∙ ap (λ (z : Machine). z.tickets) (stale_effect old.plan old.machine n stale)

-- the return of what is stale
pub clears_stale : (n : ℕ) (old new : Running) → Known old → IsStale old.machine n → new ≡ after old (s.Return n) → Clears old new
clears_stale n old new known stale is = record {
  keeps = kept_stale n old new known stale is;
  none_more = λ k none. ap (λ (ts : List Ticket). ticket_at ts k) (stale_tickets n old new stale is) ∙ none_without n k old.machine.tickets none;
  goes = λ m. goes_back m n old new known (stale_refusal old n stale, is);
  within = λ m batch. (went_back m batch n old new known (stale_refusal old n stale, is)).within;
  out = ap (λ (z : Running). out_count z.machine) is ∙ known.lawful.out.by_stale n stale;
  next_ticket = ap (λ (z : Running). z.machine.next_ticket) is ∙ ap (λ (z : Machine). z.next_ticket) (stale_effect old.plan old.machine n stale);
  back = n ∷ [];
  are = is;
}

-- a piece that is stale was returned
stale_given : (old new : Running) (p : Pieced) (id : ℕ) → Known old → IsGiven old new p (g.Stale id) → Clears old new
stale_given old new p id known (t, out, is, gone, same) =
    clears_stale p.job.ticket old new known (record { ticket = t; out = out; gone = ap (version_at old.machine.versions) is ∙ gone }) same

stale_ended : (old new : Running) (p : Pieced) (id : ℕ) → IsGiven old new p (g.Stale id) → ticket_at new.machine.tickets p.job.ticket ≡ None
stale_ended old new p id (t, out, is, gone, same) =
    let stale : IsStale old.machine p.job.ticket = record { ticket = t; out = out; gone = ap (version_at old.machine.versions) is ∙ gone } in
    ap (λ (ts : List Ticket). ticket_at ts p.job.ticket) (stale_tickets p.job.ticket old new stale same) ∙ not_within p.job.ticket old.machine.tickets

-- a piece whose ticket is not out changes nothing
none_given : (old new : Running) (p : Pieced) (n : ℕ) → IsGiven old new p (g.NotOut n) → Clears old new
none_given old new p n (is, out, same) = clears_none old new same

none_ended : (old new : Running) (p : Pieced) (n : ℕ) → IsGiven old new p (g.NotOut n) → ticket_at new.machine.tickets p.job.ticket ≡ None
none_ended old new p n (is, out, same) =
    ap (λ (z : Running). ticket_at z.machine.tickets p.job.ticket) same ∙ ap (ticket_at old.machine.tickets) (sym is) ∙ out

-- the return of a piece that is not what was lent
differs_given : (old new : Running) (p : Pieced) (lent : Lent) (back : Pieced) → IsGiven old new p (g.Differs lent back) → IsDone (s.Return p.job.ticket) old new
differs_given old new p lent back (t, v, out, differs, is, same, done, left) = back_done p.job.ticket t old new out.out done

next_home : (q : Plan) (m : Machine) (n : ℕ) (t : Ticket) (o : Option Version) → (home q m n t o).next_ticket ≡ m.next_ticket
next_home q m n t None = refl
next_home q m n t (Some v) = refl

next_returned : (q : Plan) (m : Machine) (n : ℕ) (o : Option Ticket) → (returned q m n o).next_ticket ≡ m.next_ticket
next_returned q m n None = refl
next_returned q m n (Some t) = next_home q m n t (version_at m.versions t.version)

-- a return gives no ticket
next_back : (n : ℕ) (old new : Running) → IsDone (s.Return n) old new → new.machine.next_ticket ≡ old.machine.next_ticket
next_back n old new done =
    ap (λ (z : Running). z.machine.next_ticket) done.1 ∙ next_returned old.plan old.machine n (ticket_at old.machine.tickets n)

-- a stage that clears went well
pub went_clears : (n batch : ℕ) (old new : Running) → Clears old new → Went n batch old new
went_clears n batch old new clears = went_kept n batch old new clears.keeps (λ spreading. (clears.goes n spreading).spread) (λ few. subst (λ (z : ℕ). z ≤ n + 1) (sym clears.out) few)
    (clears.within n batch)

-- a piece was given back, and nothing that was read came home
pub record Unread (old new : Running) : Type 0 where
  pub went : (n batch : ℕ) → Went n batch old new
  pub emitted : NoneEmitted old new
  pub read : NoneRead old new
  pub next : new.machine.next_ticket ≡ old.machine.next_ticket

unread_clears : (old new : Running) → Clears old new → Unread old new
unread_clears old new clears = record {
  went = λ n batch. went_clears n batch old new clears;
  emitted = clears.keeps.emitted;
  read = clears.keeps.read;
  next = clears.next_ticket;
}

unread_back : (n : ℕ) (old new : Running) → Known old → IsDone (s.Return n) old new → Unread old new
unread_back n old new known done = record {
  went = λ m batch. went_back m batch n old new known done;
  emitted = none_emitted_back n old new done;
  read = none_read_back n old new done;
  next = next_back n old new done;
}

-- none comes home whose version is gone
not_home : (old new : Running) (p : Pieced) → version_at old.machine.versions p.job.version ≡ None → ¬ IsGiven old new p g.Home
not_home old new p gone (t, v, out, carries, is, taken) =
    let live = sym (ap (version_at old.machine.versions) carries.version ∙ out.live) ∙ gone in cc

-- what is given back of a version that is gone
pub unread_given : (old new : Running) (p : Pieced) (given : Given) → Known old → version_at old.machine.versions p.job.version ≡ None → IsGiven old new p given
    → Unread old new
unread_given old new p g.Home known gone is = absurd (not_home old new p gone is)
unread_given old new p (g.Stale id) known gone is = unread_clears old new (stale_given old new p id known is)
unread_given old new p (g.NotOut n) known gone is = unread_clears old new (none_given old new p n is)
unread_given old new p (g.Differs lent back) known gone is = unread_back p.job.ticket old new known (differs_given old new p lent back is)

-- and where it is what was lent
pub clears_given : (old new : Running) (p : Pieced) (given : Given) → Known old → version_at old.machine.versions p.job.version ≡ None
    → ((lent : Lent) (back : Pieced) → ¬ (given ≡ g.Differs lent back)) → IsGiven old new p given
    → Clears old new × (ticket_at new.machine.tickets p.job.ticket ≡ None)
clears_given old new p g.Home known gone same is = absurd (not_home old new p gone is)
clears_given old new p (g.Stale id) known gone same is = (stale_given old new p id known is, stale_ended old new p id is)
clears_given old new p (g.NotOut n) known gone same is = (none_given old new p n is, none_ended old new p n is)
clears_given old new p (g.Differs lent back) known gone same is = absurd (same lent back refl)

dropped_at : {X : Type 0} (n : ℕ) (ys : List X) → n < length ys → drop n (remove ys n) ≡ drop (suc n) ys
dropped_at zero [] below = absurd (omega arith)
dropped_at zero (y ∷ ys) below = refl
dropped_at (suc n) [] below = absurd (omega arith)
dropped_at (suc n) (y ∷ ys) below = dropped_at n ys (omega arith)

module _ {X : Type 0} (test : X → Bool) where
  one_more : (x : X) (xs : List X) → test x ≡ true → filter test (x ∷ xs) ≡ x ∷ filter test xs
  one_more x xs passes = ap (λ (b : Bool). cond b (x ∷ filter test xs) (filter test xs)) passes

  one_less : (x : X) (xs : List X) → test x ≡ false → filter test (x ∷ xs) ≡ filter test xs
  one_less x xs fails = ap (λ (b : Bool). cond b (x ∷ filter test xs) (filter test xs)) fails

  -- the first of those that were not looked at stays
  pub left_on : (all kept : List X) (place : ℕ) (x : X) → place < length kept → x ≡ get_or kept place x → test x ≡ true
      → filter test all ≡ take place kept ++ filter test (drop place kept) → filter test all ≡ take (place + 1) kept ++ filter test (drop (place + 1) kept)
  left_on all kept place x low is passes left =
      let here : drop place kept ≡ x ∷ drop (place + 1) kept = drop_more kept place x low ∙ ap (λ (y : X). y ∷ drop (place + 1) kept) (sym is) in
      let front : take (place + 1) kept ≡ take place kept ++ x ∷ [] = take_more kept place x low ∙ ap (λ (y : X). take place kept ++ y ∷ []) (sym is) in
      left ∙ ap (λ (ys : List X). take place kept ++ filter test ys) here ∙ ap (λ (ys : List X). take place kept ++ ys) (one_more x (drop (place + 1) kept) passes)
      ∙ sym (append_assoc (take place kept) (x ∷ []) (filter test (drop (place + 1) kept))) ∙ ap (λ (ys : List X). ys ++ filter test (drop (place + 1) kept)) (sym front)

  -- it goes
  pub left_without : (all kept : List X) (place : ℕ) (x : X) → place < length kept → x ≡ get_or kept place x → test x ≡ false
      → filter test all ≡ take place kept ++ filter test (drop place kept)
      → filter test all ≡ take place (remove kept place) ++ filter test (drop place (remove kept place))
  left_without all kept place x low is fails left =
      let here : drop place kept ≡ x ∷ drop (suc place) kept = drop_more kept place x low ∙ ap (λ (y : X). y ∷ drop (place + 1) kept) (sym is) ∙ ap (λ (n : ℕ). x ∷ drop n kept) (add-one place) in
      left ∙ ap (λ (ys : List X). take place kept ++ filter test ys) here ∙ ap (λ (ys : List X). take place kept ++ ys) (one_less x (drop (suc place) kept) fails)
      ∙ λ i. sym (front place kept low) i ++ filter test (sym (dropped_at place kept low) i)
    where
      front : (n : ℕ) (ys : List X) → n < length ys → take n (remove ys n) ≡ take n ys
      front zero ys below = refl
      front (suc n) [] below = absurd (omega arith)
      front (suc n) (y ∷ ys) below = ap (λ (zs : List X). y ∷ zs) (front n ys (omega arith))

-- numbers that rise from a greater one rise from a lesser one too
rise_lower : (low mid : ℕ) (ns : List ℕ) (high : ℕ) → low ≤ mid → RiseBetween mid ns high → RiseBetween low ns high
rise_lower low mid [] high below rise = omega arith
rise_lower low mid (n ∷ ns) high below rise = (omega arith, rise.1)

-- kept jobs without one of them
pub below_without : (last next : ℕ) (kept : List Job) (place : ℕ) → IsBelowKept last kept next → IsBelowKept last (remove kept place) next
below_without last next [] zero rise = rise
below_without last next [] (suc place) rise = rise
below_without last next (job ∷ kept) zero rise = rise_lower last job.ticket (map (λ (j : Job). j.ticket) kept) next (omega arith) rise.1
below_without last next (job ∷ kept) (suc place) rise = (rise.0, below_without job.ticket next kept place rise.1)

copied_is_some : {T : Type 0} (r : Option (Bor T)) → is_some (option_copied r) ≡ is_some r
copied_is_some None = refl
copied_is_some (Some x) = refl

held_at : (es : List (Entry held.Version)) (id : ℕ) → is_some (version_at (map version_of es) id) ≡ is_some (value_of (entry_at kin es id))
held_at [] id = refl
held_at (e ∷ es) id = one (e.version.id == id) (held_at es id)
  where
    one : (b : Bool) → is_some (version_at (map version_of es) id) ≡ is_some (value_of (entry_at kin es id))
        → is_some (cond b (Some (version_of e)) (version_at (map version_of es) id)) ≡ is_some (value_of (cond b (Some e) (entry_at kin es id)))
    one true rest = refl
    one false rest = rest

-- a version is live where the tree of a later core holds it
pub live_then : (old mid : Running) (t : Grown held.Version) (id : ℕ) (r : Option (Bor held.Version)) → Clears old mid → IsTreeOf mid t
    → option_copied r ≡ value_of (entry_at kin t.entries id) → is_some (version_at old.machine.versions id) ≡ is_some r
live_then old mid t id r clears tree is =
    ap (λ (vs : List Version). is_some (version_at vs id)) (sym clears.keeps.versions ∙ sym tree.versions) ∙ held_at t.entries id
    ∙ ap is_some (sym is) ∙ copied_is_some r

-- a version that the tree does not hold is not live
pub gone_now : (mid : Running) (t : Grown held.Version) (id : ℕ) (r : Option (Bor held.Version)) → IsTreeOf mid t
    → option_copied r ≡ value_of (entry_at kin t.entries id) → is_some r ≡ false → version_at mid.machine.versions id ≡ None
gone_now mid t id r tree is none = nothing (version_at mid.machine.versions id) (live_then mid mid t id r (clears_itself mid) tree is ∙ none)
  where
    nothing : (o : Option Version) → is_some o ≡ false → o ≡ None
    nothing None h = refl
    nothing (Some v) h = absurd (cc)

-- which jobs are left to be kept, as far as was looked
abbrev pub AreLeft : Running → List Job → List Job → ℕ → Type 0
AreLeft old all kept place =
    filter (λ job. is_some (version_at old.machine.versions job.version)) all
    ≡ take place kept ++ filter (λ job. is_some (version_at old.machine.versions job.version)) (drop place kept)

pub left_live : (old : Running) (all kept : List Job) (place : ℕ) (job : Job) → place < length kept → job ≡ get_or kept place job
    → is_some (version_at old.machine.versions job.version) ≡ true → AreLeft old all kept place → AreLeft old all kept (place + 1)
left_live old all kept place job low is live left = left_on (λ j. is_some (version_at old.machine.versions j.version)) all kept place job low is live left

pub left_gone : (old : Running) (all kept : List Job) (place : ℕ) (job : Job) → place < length kept → job ≡ get_or kept place job
    → is_some (version_at old.machine.versions job.version) ≡ false → AreLeft old all kept place → AreLeft old all (remove kept place) place
left_gone old all kept place job low is gone left = left_without (λ j. is_some (version_at old.machine.versions j.version)) all kept place job low is gone left

-- where all were looked at, those that are left are kept
pub left_all : (old : Running) (all kept : List Job) (place : ℕ) → length kept ≤ place → AreLeft old all kept place
    → kept ≡ filter (λ job. is_some (version_at old.machine.versions job.version)) all
left_all old all kept place high left =
    sym (left ∙ (λ i. take_all place kept high i ++ filter (λ job. is_some (version_at old.machine.versions job.version)) (drop_all place kept high i))
    ∙ append-nil kept)

-- what is not below a number is not less
pub not_below : (i n : ℕ) → (i < n → false ≡ true) → n ≤ i
not_below i n none = by (below_or i n)
  where
    by : (i < n) ⊎ (n ≤ i) → n ≤ i
    by (inl below) = let no = none below in absurd (cc)
    by (inr high) = high

-- the tickets of the jobs that went are out no more
pub record Ended (old mid : Running) (all rest : List Job) : Type 0 where
  went : List Job
  parts : filter (λ job. is_none (version_at old.machine.versions job.version)) all ≡ went ++ filter (λ job. is_none (version_at old.machine.versions job.version)) rest
  none_out : All (λ job. ticket_at mid.machine.tickets job.ticket ≡ None) went

pub ended_none : (c : Running) (all : List Job) → Ended c c all all
ended_none c all = record { went = []; parts = refl; none_out = λ k d low. absurd (omega arith) }

none_of : {X : Type 0} (o : Option X) → is_some o ≡ true → is_none o ≡ false
none_of None some = absurd (cc)
none_of (Some x) some = refl

none_is : {X : Type 0} (o : Option X) → is_some o ≡ false → is_none o ≡ true
none_is None some = refl
none_is (Some x) some = absurd (cc)

-- one that is live stays
pub ended_live : (old mid : Running) (all kept : List Job) (place : ℕ) (job : Job) → place < length kept → job ≡ get_or kept place job
    → is_some (version_at old.machine.versions job.version) ≡ true → Ended old mid all (drop place kept) → Ended old mid all (drop (place + 1) kept)
ended_live old mid all kept place job low is live ended =
    let test = λ (j : Job). is_none (version_at old.machine.versions j.version) in
    let here : drop place kept ≡ job ∷ drop (place + 1) kept = drop_more kept place job low ∙ ap (λ (y : Job). y ∷ drop (place + 1) kept) (sym is) in
    let fewer : filter test (drop place kept) ≡ filter test (drop (place + 1) kept) =
    ap (filter test) here ∙ one_less test job (drop (place + 1) kept) (none_of (version_at old.machine.versions job.version) live) in
    record { went = ended.went; parts = ended.parts ∙ ap (λ (js : List Job). ended.went ++ js) fewer; none_out = ended.none_out }

-- one that is gone went
pub ended_gone : (old mid new : Running) (all kept : List Job) (place : ℕ) (job : Job) → place < length kept → job ≡ get_or kept place job
    → is_some (version_at old.machine.versions job.version) ≡ false → Clears mid new → ticket_at new.machine.tickets job.ticket ≡ None
    → Ended old mid all (drop place kept) → Ended old new all (drop place (remove kept place))
ended_gone old mid new all kept place job low is gone clears none ended =
    let test = λ (j : Job). is_none (version_at old.machine.versions j.version) in
    let out = λ (j : Job). ticket_at new.machine.tickets j.ticket ≡ None in
    let here : drop place kept ≡ job ∷ drop (suc place) kept =
    drop_more kept place job low ∙ ap (λ (y : Job). y ∷ drop (place + 1) kept) (sym is) ∙ ap (λ (n : ℕ). job ∷ drop n kept) (add-one place) in
    let rest : filter test (drop place kept) ≡ job ∷ filter test (drop (suc place) kept) =
    ap (filter test) here ∙ one_more test job (drop (suc place) kept) (none_is (version_at old.machine.versions job.version) gone) in
    record {
      went = ended.went ++ job ∷ [];
      parts = ended.parts ∙ ap (λ (js : List Job). ended.went ++ js) rest ∙ sym (append_assoc ended.went (job ∷ []) (filter test (drop (suc place) kept)))
          ∙ ap (λ (js : List Job). (ended.went ++ job ∷ []) ++ filter test js) (sym (dropped_at place kept low));
      none_out = All-push out ended.went job (λ k d below. clears.none_more _ (ended.none_out k d below)) none;
    }

-- where all were looked at
pub ended_all : (old mid : Running) (all rest : List Job) → rest ≡ [] → Ended old mid all rest
    → All (λ job. ticket_at mid.machine.tickets job.ticket ≡ None) (filter (λ job. is_none (version_at old.machine.versions job.version)) all)
ended_all old mid all rest none ended =
    let test = λ (j : Job). is_none (version_at old.machine.versions j.version) in
    let are : filter test all ≡ ended.went = ended.parts ∙ ap (λ (js : List Job). ended.went ++ filter test js) none ∙ append-nil ended.went in
    subst (λ (js : List Job). All (λ job. ticket_at mid.machine.tickets job.ticket ≡ None) js) (sym are) ended.none_out
