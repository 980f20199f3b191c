-- The return of a live version's ticket keeps what is kept.
use Rattle.std.proofs.Common.{◌≡◌, ℕ, ◌+◌, ◌<◌, ◌≤◌, ◌⊎◌, Bool, true, false, cond, not, ◌&&◌, ◌||◌, nat_lt, nat_le, List, filter, Option, Some, None, inl, inr, ⊎_elim, refl, sym, ap, ◌∙◌, subst, arith}
use Rattle.sp_base.proofs.RisingLists.{mem_left, mem_right, mem_cases, numbers_rise}
use Rattle.sp_base.specs.Numbers.{is_among, with_numbers}
use Rattle.sp_plan.specs.declared.event.Event.{Event}
use Rattle.sp_plan.specs.declared.plan.Plan.{Plan}
use Rattle.sp_plan.specs.Runs.{State, after_closing}
use Rattle.sp_plan.specs.Reading.{reading}
use Rattle.sp_plan.specs.Windows.{closed}
use Rattle.sp_plan.specs.WindowNumbers.{first, size}
use Rattle.sp_group.specs.Family.{prune}
use Rattle.sp_group.specs.Machine.{Version, Ticket, Machine, kin, version_at, ticket_at, is_bare, is_hit, is_read, inner, is_group, suppressed_by, is_suppressed}
use Rattle.sp_group.specs.Effects.{after_ticket, home, after_reading, without}
use Rattle.sp_rules.specs.Kept.{Lent, Local, Kept}
use Rattle.sp_rules.proofs.Facts.{ReadsOn, Facts}
use Rattle.sp_rules.proofs.Lists.{or_cases, or_left, or_right, and_left, and_right, and_both, same_bool, absent, le_is, lt_is, le_true, lt_true, not_true, below_or, mem_filter, filter_mem}
use Rattle.sp_rules.proofs.Tickets.{bare_at, without_at, without_out, without_bare, without_ordered}
use Rattle.sp_rules.proofs.Labels.{Outcome, itself, child, other, outcome, reading_prunes}
use Rattle.sp_rules.proofs.Tree.{at_id, Each, Pruned, prune_is, Prunes, from, prune_shape, prune_grows}
use Rattle.sp_rules.proofs.Locals.{local_grows, root_supp}

-- the numbers that a ticket's reading passed over
abbrev passed_over : Ticket → List ℕ
passed_over t = filter (λ i. nat_lt i (t.first + t.read)) t.snapshot

-- what reading on keeps, the window's closing included, holds between the runs of the version before and after its ticket came home
pub home_goes : (q : Plan) → Facts q → (P : State → State → Type 0)
    → ((events : List Event) (skipped : List ℕ) (first n k : ℕ) → P (reading q events skipped first n) (reading q events skipped first (n + k)))
    → ((events : List Event) (skipped : List ℕ) (first n k : ℕ) → P (reading q events skipped first n) (after_closing (reading q events skipped first (n + k))))
    → (E : List Event) (b : Bool) (S : ℕ → Bool) (v : Version) (t : Ticket) → Lent q E b S v t → P (inner q E v) (inner q E (after_ticket v t))
home_goes q k P on closing E b S v t l = subst (λ (z : Bool). P (cond z (after_closing before) before) (cond (z || t.closing_read) (after_closing after) after)) (sym l.undone) (reading_on t.closing_read)
  where
    f : ℕ
    f = first q E v.window

    before : State
    before = reading q E v.skipped (first q E v.window) v.position

    skipped : List ℕ
    skipped = with_numbers v.skipped (passed_over t)

    after : State
    after = reading q E (with_numbers v.skipped (passed_over t)) (first q E v.window) (v.position + t.read)

    agree : (i : ℕ) → first q E v.window ≤ i → i < first q E v.window + v.position → is_among v.skipped i ≡ is_among (with_numbers v.skipped (passed_over t)) i
    agree i lo hi = same_bool (is_among v.skipped i) (is_among skipped i) (λ h. mem_left i v.skipped (passed_over t) h)
        (λ h. ⊎_elim (λ (y : is_among v.skipped i ≡ true). y)
        (λ (y : is_among (passed_over t) i ≡ true).
        let a = mem_filter i (λ i. nat_lt i (t.first + t.read)) t.snapshot y in
        let c = (l.snapshot i a.0).1 in let d = l.begins in absurd (omega arith))
        (mem_cases i v.skipped (passed_over t) h))

    same : reading q E v.skipped (first q E v.window) v.position ≡ reading q E (with_numbers v.skipped (passed_over t)) (first q E v.window) v.position
    same = k.reading_agrees E v.skipped skipped f v.position agree

    reading_on : (c : Bool) → P before (cond c (after_closing after) after)
    reading_on false = subst (λ (z : State). P z after) (sym same) (on E skipped f v.position t.read)
    reading_on true = subst (λ (z : State). P z (after_closing after)) (sym same) (closing E skipped f v.position t.read)

-- the runs of the version before and after its ticket came home
pub home_leads : (q : Plan) → Facts q → (E : List Event) (b : Bool) (S : ℕ → Bool) (v : Version) (t : Ticket) → Lent q E b S v t → ReadsOn q (inner q E v) (inner q E (after_ticket v t))
home_leads q k = home_goes q k (ReadsOn q) k.reads_on k.reads_closing

-- the version has read the number, and did not skip it
abbrev pub HasRead : Plan → List Event → Version → ℕ → Type 0
HasRead q E v i = (first q E v.window ≤ i) × (i < first q E v.window + v.position) × (is_among v.skipped i ≡ false)

pub read_cases : (q : Plan) (E : List Event) (v : Version) (i : ℕ) → is_read q E v i ≡ true → HasRead q E v i
read_cases q E v i x =
    let l = nat_le (first q E v.window) i in
    let r = nat_lt i (first q E v.window + v.position) in
    let m = not (is_among v.skipped i) in
    let z = and_left (l && r) m x in
    (le_true (first q E v.window) i (and_left l r z), lt_true i (first q E v.window + v.position) (and_right l r z), not_true (is_among v.skipped i) (and_right (l && r) m x))

pub read_is : (q : Plan) (E : List Event) (v : Version) (i : ℕ) → HasRead q E v i → is_read q E v i ≡ true
read_is q E v i h =
    let l = nat_le (first q E v.window) i in
    let r = nat_lt i (first q E v.window + v.position) in
    let m = not (is_among v.skipped i) in
    and_both (l && r) m (and_both l r (le_is (first q E v.window) i h.0) (lt_is i (first q E v.window + v.position) h.1)) (ap not h.2)

pub hit_cases : (q : Plan) (s : Machine) (v : Version) (i : ℕ) → is_hit q s v i ≡ true → (is_suppressed q s v.id i ≡ true) × (HasRead q s.events v i ⊎ (is_bare s.tickets v.id i ≡ true))
hit_cases q s v i x =
    let a = is_suppressed q s v.id i in
    let b = is_read q s.events v i in
    let c = is_bare s.tickets v.id i in
    (and_left a (b || c) x, ⊎_elim (λ (y : b ≡ true). inl (read_cases q s.events v i y)) (λ (y : c ≡ true). inr y) (or_cases b c (and_right a (b || c) x)))

pub hit_read : (q : Plan) (s : Machine) (v : Version) (i : ℕ) → is_suppressed q s v.id i ≡ true → HasRead q s.events v i → is_hit q s v i ≡ true
hit_read q s v i a h =
    let a' = is_suppressed q s v.id i in
    let b = is_read q s.events v i in
    let c = is_bare s.tickets v.id i in
    and_both a' (b || c) a (or_left b c (read_is q s.events v i h))

pub hit_bare : (q : Plan) (s : Machine) (v : Version) (i : ℕ) → is_suppressed q s v.id i ≡ true → is_bare s.tickets v.id i ≡ true → is_hit q s v i ≡ true
hit_bare q s v i a h =
    let a' = is_suppressed q s v.id i in
    let b = is_read q s.events v i in
    let c = is_bare s.tickets v.id i in
    and_both a' (b || c) a (or_right b c h)

pub home_prunes : (q : Plan) → Facts q → (s : Machine) (n : ℕ) (t : Ticket) (v : Version) → ticket_at s.tickets n ≡ Some t → version_at s.versions t.version ≡ Some v → Kept q s → Prunes q (inner q s.events) (after_reading q v.id (after_ticket v t) (inner q s.events v) (inner q s.events (after_ticket v t))) (λ u. version_at s.versions u.id ≡ Some u)
home_prunes q k s n t v at is h =
    let vid = at_id s.versions t.version v is in
    let mine = (h.sane.each t.version v is).lent n t at (sym vid) in
    let l = home_leads q k s.events s.ended (is_suppressed q s t.version) v t mine in
    reading_prunes q s.events s.finished s.versions v (after_ticket v t) h.sane.shape (subst (λ (z : ℕ). version_at s.versions z ≡ Some v) (sym vid) is) refl refl refl refl l

pub home_keeps : (q : Plan) → Facts q → (s : Machine) (n : ℕ) (t : Ticket) (v : Version) → ticket_at s.tickets n ≡ Some t → version_at s.versions t.version ≡ Some v → Kept q s → Kept q (home q s n t (Some v))
home_keeps q k s n t v at is h = record {
  sane = record {
    shape = prune_shape q f kk Is s.finished pr vs ws pruned h.sane.shape isall;
    each = λ id w e. let x = back id w e in loc id w e x.0 x.1 (outcome q v.id new (f v) (f new) x.0 w x.2);
    ids = λ id w e. let x = back id w e in h.sane.ids id x.0 x.1;
    newest_first = without_ordered n s.tickets h.sane.newest_first;
    numbers = λ m x e. h.sane.numbers m x (without_at n s.tickets m x e).1;
    unborn = λ id le. without_out n s.tickets id (h.sane.unborn id le);
    emitted = h.sane.emitted;
    consumed = h.sane.consumed;
    good = h.sane.good;
    closed = h.sane.closed;
  };
  clear = λ id w e root i x. let y = back id w e in clear id w e root i x y.0 y.1 (outcome q v.id new (f v) (f new) y.0 w y.2);
}
  where
    f : Version → State
    f = inner q s.events

    new : Version
    new = after_ticket v t

    vs : List Version
    vs = s.versions

    vid : v.id ≡ t.version
    vid = at_id s.versions t.version v is

    mine : Lent q s.events s.ended (is_suppressed q s t.version) v t
    mine = (h.sane.each t.version v is).lent n t at (sym vid)

    kk : Version → Option Version
    kk = after_reading q v.id new (f v) (f new)

    ws : List Version
    ws = prune kin kk s.versions

    Is : Version → Type 0
    Is u = version_at s.versions u.id ≡ Some u

    isall : Each Is vs
    isall id u e = subst (λ (z : ℕ). version_at s.versions z ≡ Some u) (sym (at_id s.versions id u e)) e

    pr : Prunes q f kk Is
    pr = let l = home_leads q k s.events s.ended (is_suppressed q s t.version) v t mine in
        reading_prunes q s.events s.finished s.versions v (after_ticket v t) h.sane.shape (isall t.version v is) refl refl refl refl l

    pruned : Pruned kk vs ws
    pruned = prune_is kk s.versions

    back : (id : ℕ) (w : Version) → version_at ws id ≡ Some w → (u : Version) × (version_at vs id ≡ Some u) × (kk u ≡ Some w)
    back id w e = from q f kk Is s.finished pr vs ws pruned h.sane.shape isall id w e

    S : ℕ → ℕ → Bool
    S = is_suppressed q s

    S' : ℕ → ℕ → Bool
    S' = suppressed_by q f s.consumed ws

    grows : (id : ℕ) (w : Version) → version_at ws id ≡ Some w → (i : ℕ) → S id i ≡ true → S' id i ≡ true
    grows id w e i x = prune_grows q f s.consumed kk Is s.finished pr vs ws pruned h.sane.shape isall id w e i x

    -- no other ticket of the version is out
    gone : (m : ℕ) (x : Ticket) → ticket_at (without n s.tickets) m ≡ Some x → x.version ≡ v.id → ⊥
    gone m x e o = let y = without_at n s.tickets m x e in y.0 ((h.sane.each t.version v is).only m n x t y.1 at o (sym vid))

    same_v : (u : Version) (id : ℕ) → version_at vs id ≡ Some u → u.id ≡ v.id → u ≡ v
    same_v u id e o = let a = isall id u e in let b = isall t.version v is in let c : version_at s.versions v.id ≡ Some u = subst (λ (z : ℕ). version_at s.versions z ≡ Some u) o a in cc

    read_end : t.closing_read ≡ true → (v.window ≤ closed q s.events s.ended) × (v.position + t.read ≡ size q s.events v.window)
    read_end c = let y = mine.shuts c in let z = mine.closes y.0 in (z.0, let a = z.1 in let b = y.1 in omega arith)

    new_loc : (T : ℕ → Bool) → ((i : ℕ) → S t.version i ≡ true → T i ≡ true) → Local q s.events s.ended (without n s.tickets) T new
    new_loc T g =
        let l = h.sane.each t.version v is in
        record {
          there = l.there;
          reads = let a = mine.fits in let b = mine.reads in omega arith;
          rising = numbers_rise v.skipped (passed_over t) l.rising;
          skips = λ i m. ⊎_elim (λ (y : is_among v.skipped i ≡ true). g i (l.skips i y))
              (λ (y : is_among (passed_over t) i ≡ true). g i (mine.snapshot i (mem_filter i (λ i. nat_lt i (t.first + t.read)) t.snapshot y).0).0)
              (mem_cases i v.skipped (passed_over t) m);
          read_them = λ i m. ⊎_elim (λ (y : is_among v.skipped i ≡ true). let z = l.read_them i y in omega arith)
              (λ (y : is_among (passed_over t) i ≡ true). let z = lt_true i (t.first + t.read) (mem_filter i (λ i. nat_lt i (t.first + t.read)) t.snapshot y).1 in let b = mine.begins in omega arith)
              (mem_cases i v.skipped (passed_over t) m);
          done = λ d. ⊎_elim (λ (y : v.done ≡ true). let z = mine.undone in absurd (cc)) (λ (y : t.closing_read ≡ true). read_end y) (or_cases v.done t.closing_read d);
          lent = λ m x e o. absurd (gone m x e o);
          only = λ m m' x x' e e' o o'. absurd (gone m x e o);
        }

    kept_loc : (id : ℕ) (u w : Version) → version_at vs id ≡ Some u → version_at ws id ≡ Some w → Local q s.events s.ended (without n s.tickets) (S' id) u
    kept_loc id u w e e' = local_grows q s.events s.ended s.tickets (without n s.tickets) (S id) (S' id) u (grows id w e') (λ m x ex. (without_at n s.tickets m x ex).1) (h.sane.each id u e)

    relabelled : (T : ℕ → Bool) (u : Version) (l : List ℕ) → Local q s.events s.ended (without n s.tickets) T u → Local q s.events s.ended (without n s.tickets) T (record u { label = l })
    relabelled T u l x = record { there = x.there; reads = x.reads; rising = x.rising; skips = x.skips; read_them = x.read_them; done = x.done; lent = λ m t e o. let y = x.lent m t e o in record { begins = y.begins; fits = y.fits; closes = y.closes; undone = y.undone; snapshot = y.snapshot; reads = y.reads; shuts = y.shuts }; only = x.only }

    loc : (id : ℕ) (w : Version) → version_at ws id ≡ Some w → (u : Version) → version_at vs id ≡ Some u → Outcome q v.id new (f v) (f new) u w → Local q s.events s.ended (without n s.tickets) (S' id) w
    loc id w e u ue (itself o x) =
        let idv : id ≡ t.version = sym (at_id vs id u ue) ∙ o ∙ vid in
        subst (λ (z : Version). Local q s.events s.ended (without n s.tickets) (S' id) z) (sym x)
        (new_loc (S' id) (λ i y. grows id w e i (subst (λ (z : ℕ). S z i ≡ true) (sym idv) y)))
    loc id w e u ue (child o p st x) = subst (λ (z : Version). Local q s.events s.ended (without n s.tickets) (S' id) z) (sym x) (relabelled (S' id) u (filter (is_group q (f new)) u.label) (kept_loc id u w ue e))
    loc id w e u ue (other o p x) = subst (λ (z : Version). Local q s.events s.ended (without n s.tickets) (S' id) z) (sym x) (kept_loc id u w ue e)

    read_again : (i : ℕ) → S v.id i ≡ true → first q s.events v.window ≤ i → i < first q s.events v.window + (v.position + t.read) → is_among (with_numbers v.skipped (passed_over t)) i ≡ false → is_hit q s v i ≡ true
    read_again i sup lo hi off = ⊎_elim
        (λ (y : i < first q s.events v.window + v.position). hit_read q s v i sup (lo, y, absent (is_among v.skipped i) (λ m. mem_left i v.skipped (passed_over t) m) off))
        (λ (y : first q s.events v.window + v.position ≤ i).
        let a = mine.begins in let b = mine.reads in
        hit_bare q s v i sup (subst (λ (z : ℕ). is_bare s.tickets z i ≡ true) (sym vid) (bare_at s.tickets n t i at (omega arith) (omega arith)
        (absent (is_among t.snapshot i) (λ m. mem_right i v.skipped (passed_over t) (filter_mem i (λ i. nat_lt i (t.first + t.read)) t.snapshot m (lt_is i (t.first + t.read) (omega arith)))) off))))
        (below_or i (first q s.events v.window + v.position))

    clear : (id : ℕ) (w : Version) → version_at ws id ≡ Some w → w.parent ≡ None → (i : ℕ) → is_hit q (home q s n t (Some v)) w i ≡ true → (u : Version) → version_at vs id ≡ Some u → Outcome q v.id new (f v) (f new) u w → ⊥
    clear id w e root i x u ue (itself o wx) =
        let ho = hit_cases q (home q s n t (Some v)) new i (subst (λ (z : Version). is_hit q (home q s n t (Some v)) z i ≡ true) wx x) in
        let vroot : v.parent ≡ None = ap (λ (z : Version). z.parent) (sym wx) ∙ root in
        let idv : id ≡ v.id = sym (at_id vs id u ue) ∙ o in
        let sup : S v.id i ≡ true = root_supp q f s.consumed vs v.id v (isall t.version v is) vroot i ∙ sym (root_supp q f s.consumed ws id w e root i) ∙ ap (λ (z : ℕ). S' z i) idv ∙ ho.0 in
        ⊎_elim
        (λ (y : HasRead q s.events new i).
        h.clear t.version v is vroot i (read_again i sup y.0 y.1 y.2))
        (λ (y : is_bare (without n s.tickets) v.id i ≡ true). h.clear t.version v is vroot i (hit_bare q s v i sup (without_bare n s.tickets v.id i y)))
        ho.1
    clear id w e root i x u ue (child o p st wx) = let z : Some v.id ≡ None = sym p ∙ ap (λ (z : Version). z.parent) (sym wx) ∙ root in absurd (cc)
    clear id w e root i x u ue (other o p wx) =
        let uroot : u.parent ≡ None = ap (λ (z : Version). z.parent) (sym wx) ∙ root in
        let ho = hit_cases q (home q s n t (Some v)) u i (subst (λ (z : Version). is_hit q (home q s n t (Some v)) z i ≡ true) wx x) in
        let idu = at_id vs id u ue in
        let sup : S u.id i ≡ true = root_supp q f s.consumed vs u.id u (isall id u ue) uroot i ∙ sym (root_supp q f s.consumed ws id w e root i) ∙ ap (λ (z : ℕ). S' z i) (sym idu) ∙ ho.0 in
        ⊎_elim
        (λ (y : HasRead q s.events u i). h.clear id u ue uroot i (hit_read q s u i sup y))
        (λ (y : is_bare (without n s.tickets) u.id i ≡ true). h.clear id u ue uroot i (hit_bare q s u i sup (without_bare n s.tickets u.id i y)))
        ho.1
