-- The conflict of a version, as a core holds it and its tickets.
use Rattle.std.proofs.Common.{◌≡◌, ℕ, ◌+◌, ◌-◌, ◌<◌, ◌≤◌, Bool, true, false, not, ◌&&◌, ◌||◌, List, [], map, Option, Some, None, is_some, ⊎_elim, refl, sym, ap, subst, ◌∙◌, arith}
use Rattle.std.specs.Prelude.{IsSome, nat_le, nat_lt}
use Rattle.std.specs.Option.{option_map}
use Rattle.std.proofs.lemmas.Bool.Decides.{nat_tests}
use Rattle.std.proofs.lemmas.Option.{none-some, same_Some}
use Rattle.sp_base.specs.Numbers.{is_among}
use Rattle.sp_plan.specs.declared.plan.Plan.{Plan}
use Rattle.sp_plan.specs.WindowNumbers.{first, size}
use Rattle.sp_group.specs.Family.{entry_at}
use Rattle.sp_group.specs.Machine as machine
use Rattle.sp_group.specs.Machine.{conflict, is_bare, is_hit, is_lent, is_read, is_suppressed, out_for, ticket_at, version_at}
use Rattle.sp_version.specs.declared.version.Version.{Version}
use Rattle.sp_tree.specs.Grown.{Entry, kin, parent_of, value_of}
use Rattle.sp_rules.specs.Schedules.{Reached}
use Rattle.sp_rules.proofs.Home.{HasRead, hit_cases}
use Rattle.sp_rules.proofs.Lists.{absent, and_both, and_left, and_right, le_is, least_none, lt_is, or_left, or_right}
use Rattle.sp_rules.proofs.Tickets.{at_bare}
use Rattle.sp_spread.specs.Calm.{AreCalm}
use Rattle.sp_core.specs.declared.lent.Lent.{Lent}
use Rattle.sp_core.specs.Carrying.{ticket_of}
use Rattle.sp_core.specs.Holding.{Holding, Holds, IsCore, machine_of, version_of}
use Rattle.sp_core.specs.News.{AreNew, is_new}
use Rattle.sp_core.specs.Suppressing.{conflict_at, conflict_of, is_unskipped, least_suppressed}
use Rattle.sp_core.proofs.Entries.{Found, found, found_of_all, not_found, version_found, version_is}
use Rattle.sp_core.proofs.Renewing.{at_entry}
use Rattle.sp_core.proofs.InConflict.{IsLocal, Out, conflict_lent, conflict_none, conflict_read, is_bare_for, out_is, read_least}
use Rattle.sp_core.proofs.Least.{least_alike, least_nothing, least_within}

-- a version that is held under an id: the machine's version, and what the rules say of it
pub record Held (h : Holding) (id : ℕ) (held : Version) : Type 0 where
  pub version : machine.Version
  pub at : version_at (machine_of h).versions id ≡ Some version
  pub id_is : version.id ≡ id
  pub window : version.window ≡ held.window
  pub first : held.first ≡ first h.plan h.events version.window
  pub position : version.position ≡ held.position
  pub skipped : version.skipped ≡ held.skipped.list
  pub done : version.done ≡ held.done
  pub out : held.out ≡ out_for (machine_of h).tickets version.id
  pub local : IsLocal h.plan (machine_of h) version

pub held_version : (h : Holding) → IsCore h → Reached h.plan h.tree.bound (machine_of h) → (id : ℕ) (held : Version)
    → Some held ≡ value_of (entry_at kin h.tree.entries id) → Held h id held
held_version h core r id held is =
    let f : Found (entry_at kin h.tree.entries id) held = found (entry_at kin h.tree.entries id) held is in
    let e : Entry Version = f.entry in
    let own : e.version.id ≡ id = at_entry h.tree.entries id e f.is in
    let holds : Holds h.plan h.events (map ticket_of h.tickets) e = found_of_all (Holds h.plan h.events (map ticket_of h.tickets)) h.tree.entries id e core.versions f.is in
    let at : version_at (machine_of h).versions id ≡ Some (version_of e) = version_is h.tree.entries id e f.is in
    let same : e.value ≡ held = f.value in
    record {
      version = version_of e;
      at = at;
      id_is = own;
      window = ap (λ (v : Version). v.window) same;
      first = ap (λ (v : Version). v.first) (sym same) ∙ holds.first;
      position = ap (λ (v : Version). v.position) same;
      skipped = ap (λ (v : Version). v.skipped.list) same;
      done = ap (λ (v : Version). v.done) same;
      out = ap (λ (v : Version). v.out) (sym same) ∙ holds.out;
      local = r.kept.sane.each e.version.id (version_of e) (ap (version_at (machine_of h).versions) own ∙ at);
    }

-- where none is suppressed before a number, the least is looked for from there on
pub least_from_is : (q : Plan) (m : machine.Machine) (id first count : ℕ) (skipped : List ℕ) (before : ℕ) → before ≤ count
    → ((i : ℕ) → first ≤ i → i < first + before → is_unskipped q m id first count skipped i ≡ false)
    → least_suppressed q m id (first + before) (count - before) skipped ≡ least_suppressed q m id first count skipped
least_from_is q m id first count skipped before few old =
    least_alike (is_unskipped q m id (first + before) (count - before) skipped) (is_unskipped q m id first count skipped) (first + before) (count - before) alike
    ∙ sym (least_within (is_unskipped q m id first count skipped) first count (first + before) (count - before) (omega arith) (omega arith) old behind)
  where
    within : (s b : Bool) (i : ℕ) → first + before ≤ i → i < first + count → (s && (nat_le (first + before) i && nat_lt i (first + before + (count - before)) && b)) ≡ (s && (nat_le first i && nat_lt i (first + count) && b))
    within s b i low high =
        let one : nat_le (first + before) i ≡ true = le_is (first + before) i low in
        let two : nat_lt i (first + before + (count - before)) ≡ true = lt_is i (first + before + (count - before)) (omega arith) in
        let three : nat_le first i ≡ true = le_is first i (omega arith) in
        let four : nat_lt i (first + count) ≡ true = lt_is i (first + count) high in
        rw (one, two, three, four) refl

    alike : (i : ℕ) → first + before ≤ i → i < first + before + (count - before) → is_unskipped q m id (first + before) (count - before) skipped i ≡ is_unskipped q m id first count skipped i
    alike i low high = within (is_suppressed q m id i) (not (is_among skipped i)) i low (omega arith)

    past : (s b : Bool) (i : ℕ) → first + count ≤ i → (s && (nat_le first i && nat_lt i (first + count) && b)) ≡ false
    past s b i high = grind (arith, nat_tests)

    behind : (i : ℕ) → first + before + (count - before) ≤ i → is_unskipped q m id first count skipped i ≡ false
    behind i high = past (is_suppressed q m id i) (not (is_among skipped i)) i (omega arith)

-- the least that is suppressed of what is held as read
abbrev pub held_least : Holding → ℕ → Version → Option ℕ
held_least h id held = least_suppressed h.plan (machine_of h) id held.first held.position held.skipped.list

not_from : (from i : ℕ) → i < from → nat_le from i ≡ false
not_from from i low = grind (arith, nat_tests)

some_number : (o : Option ℕ) → is_some o ≡ true → (n : ℕ) × (o ≡ Some n)
some_number None is = absurd (cc is)
some_number (Some n) is = (n, refl)

pub no_number : (o : Option ℕ) → is_some o ≡ false → o ≡ None
no_number None is = refl
no_number (Some n) is = absurd (cc is)

-- no version is found
pub version_gone : (h : Holding) (id : ℕ) → None ≡ value_of (entry_at kin h.tree.entries id) → version_at (machine_of h).versions id ≡ None
version_gone h id none = version_found h.tree.entries id ∙ ap (option_map version_of) (not_found (entry_at kin h.tree.entries id) none)

pub conflict_gone : (h : Holding) (id : ℕ) → None ≡ value_of (entry_at kin h.tree.entries id) → None ≡ conflict_at h.plan (machine_of h) id
conflict_gone h id none = sym (ap (conflict_of h.plan (machine_of h)) (version_gone h id none))

module _ (h : Holding) (core : IsCore h) (r : Reached h.plan h.tree.bound (machine_of h)) (id : ℕ) (held : Version) (live : Some held ≡ value_of (entry_at kin h.tree.entries id)) where
  own : Held h id held
  own = held_version h core r id held live

  conflict_is : conflict h.plan (machine_of h) own.version ≡ conflict_at h.plan (machine_of h) id
  conflict_is = sym (ap (conflict_of h.plan (machine_of h)) own.at)

  least_is : held_least h id held ≡ read_least h.plan (machine_of h) own.version
  least_is =
      ap (λ (n : ℕ). least_suppressed h.plan (machine_of h) n held.first held.position held.skipped.list) (sym own.id_is)
      ∙ ap (λ (n : ℕ). least_suppressed h.plan (machine_of h) own.version.id n held.position held.skipped.list) own.first
      ∙ ap (λ (n : ℕ). least_suppressed h.plan (machine_of h) own.version.id (first h.plan h.events own.version.window) n held.skipped.list) (sym own.position)
      ∙ ap (λ (ns : List ℕ). least_suppressed h.plan (machine_of h) own.version.id (first h.plan h.events own.version.window) own.version.position ns) (sym own.skipped)

  -- the version is live
  pub is_live : IsSome (version_at (machine_of h).versions id)
  is_live = ap is_some own.at

  -- what it has read comes first
  pub found_read : is_some (held_least h id held) ≡ true → held_least h id held ≡ conflict_at h.plan (machine_of h) id
  found_read some =
      let n = some_number (held_least h id held) some in
      least_is ∙ conflict_read h.plan (machine_of h) own.version r.kept.sane.newest_first own.local n.0 (sym least_is ∙ n.1) ∙ conflict_is

  -- nothing is out
  pub found_none : is_some (held_least h id held) ≡ false → held.out ≡ None → None ≡ conflict_at h.plan (machine_of h) id
  found_none none out =
      sym (conflict_none h.plan (machine_of h) own.version own.local (sym least_is ∙ no_number (held_least h id held) none) (sym own.out ∙ out)) ∙ conflict_is

  -- the ticket that is out is there
  out_there : (n : ℕ) → held.out ≡ Some n → Out (machine_of h).tickets own.version.id n
  out_there n out = out_is (machine_of h).tickets own.version.id n r.kept.sane.newest_first (sym own.out ∙ out)

  pub never_gone : (n : ℕ) → held.out ≡ Some n → None ≡ ticket_at (machine_of h).tickets n → ⊥
  never_gone n out gone = none-some (out_there n out).ticket (gone ∙ (out_there n out).is)

  -- what is lent to it comes next
  pub found_lent : is_some (held_least h id held) ≡ false → (n : ℕ) (l : Lent) → held.out ≡ Some n → Some (ticket_of l) ≡ ticket_at (machine_of h).tickets n
      → least_suppressed h.plan (machine_of h) id l.first l.count l.snapshot.list ≡ conflict_at h.plan (machine_of h) id
  found_lent none n l out is =
      let o = out_there n out in
      let same : o.ticket ≡ ticket_of l = same_Some o.ticket (ticket_of l) (sym o.is ∙ sym is) in
      let of : l.version ≡ own.version.id = sym (ap (λ (t : machine.Ticket). t.version) same) ∙ o.of in
      ap (λ (k : ℕ). least_suppressed h.plan (machine_of h) k l.first l.count l.snapshot.list) (sym own.id_is)
      ∙ conflict_lent h.plan (machine_of h) own.version r.kept.sane.newest_first own.local (sym least_is ∙ no_number (held_least h id held) none) n (ticket_of l) (sym is) of
      ∙ conflict_is

  -- what is suppressed of what it read, or of what is lent to it, is new to it
  new_hit : (i : ℕ) → is_hit h.plan (machine_of h) own.version i ≡ true → is_new h.news held.window i ≡ true
  new_hit i hit = subst (λ (w : ℕ). is_new h.news w i ≡ true) own.window (core.news_are id own.version own.at i hit)

  read_is : (i : ℕ) → is_unskipped h.plan (machine_of h) id held.first held.position held.skipped.list i
      ≡ (is_suppressed h.plan (machine_of h) own.version.id i && is_read h.plan h.events own.version i)
  read_is i =
      ap (λ (n : ℕ). is_unskipped h.plan (machine_of h) n held.first held.position held.skipped.list i) (sym own.id_is)
      ∙ ap (λ (n : ℕ). is_unskipped h.plan (machine_of h) own.version.id n held.position held.skipped.list i) own.first
      ∙ ap (λ (n : ℕ). is_unskipped h.plan (machine_of h) own.version.id (first h.plan h.events own.version.window) n held.skipped.list i) (sym own.position)
      ∙ ap (λ (ns : List ℕ). is_unskipped h.plan (machine_of h) own.version.id (first h.plan h.events own.version.window) own.version.position ns i) (sym own.skipped)

  pub old_read : (from : ℕ) → ((i : ℕ) → is_new h.news held.window i ≡ nat_le from i) → (i : ℕ) → i < from
      → is_unskipped h.plan (machine_of h) id held.first held.position held.skipped.list i ≡ false
  old_read from new i low = absent (is_unskipped h.plan (machine_of h) id held.first held.position held.skipped.list i) (λ is.
      let both = sym (read_is i) ∙ is in
      let s = is_suppressed h.plan (machine_of h) own.version.id i in
      let r = is_read h.plan h.events own.version i in
      new_hit i (and_both s (r || is_bare (machine_of h).tickets own.version.id i) (and_left s r both) (or_left r (is_bare (machine_of h).tickets own.version.id i) (and_right s r both))))
      (new i ∙ not_from from i low)

  pub old_lent : (from : ℕ) → ((i : ℕ) → is_new h.news held.window i ≡ nat_le from i) → (n : ℕ) (l : Lent) → held.out ≡ Some n → Some (ticket_of l) ≡ ticket_at (machine_of h).tickets n → (i : ℕ) → i < from
      → is_unskipped h.plan (machine_of h) id l.first l.count l.snapshot.list i ≡ false
  old_lent from new n l out is i low = absent (is_unskipped h.plan (machine_of h) id l.first l.count l.snapshot.list i) (λ some.
      let o = out_there n out in
      let same : o.ticket ≡ ticket_of l = same_Some o.ticket (ticket_of l) (sym o.is ∙ sym is) in
      let of : l.version ≡ own.version.id = sym (ap (λ (t : machine.Ticket). t.version) same) ∙ o.of in
      let s = is_suppressed h.plan (machine_of h) own.version.id i in
      let r = is_read h.plan h.events own.version i in
      let both : (is_suppressed h.plan (machine_of h) own.version.id i && is_lent (ticket_of l) i) ≡ true =
      sym (ap (λ (k : ℕ). is_unskipped h.plan (machine_of h) k l.first l.count l.snapshot.list i) (sym own.id_is)) ∙ some in
      let bare = is_bare_for (machine_of h).tickets own.version.id i n (ticket_of l) (sym is) of (and_right s (is_lent (ticket_of l) i) both) in
      new_hit i (and_both s (r || is_bare (machine_of h).tickets own.version.id i) (and_left s (is_lent (ticket_of l) i) both) (or_right r (is_bare (machine_of h).tickets own.version.id i) bare)))
      (new i ∙ not_from from i low)

  -- where nothing is new to it, it is in no conflict
  pub nothing_new : ((i : ℕ) → is_new h.news held.window i ≡ false) → None ≡ conflict_at h.plan (machine_of h) id
  nothing_new new =
      sym (least_nothing (is_hit h.plan (machine_of h) own.version) (first h.plan h.events own.version.window) (size h.plan h.events own.version.window)
      (λ i low high. absent (is_hit h.plan (machine_of h) own.version i) (new_hit i) (new i)))
      ∙ conflict_is

-- the root is in no conflict, and neither is what is not live
pub none_above : (h : Holding) → Reached h.plan h.tree.bound (machine_of h) → (id : ℕ) → parent_of (entry_at kin h.tree.entries id) ≡ None → None ≡ conflict_at h.plan (machine_of h) id
none_above h r id top = one (entry_at kin h.tree.entries id) refl top
  where
    one : (o : Option (Entry Version)) → entry_at kin h.tree.entries id ≡ o → parent_of o ≡ None → None ≡ conflict_at h.plan (machine_of h) id
    one None is top = sym (ap (conflict_of h.plan (machine_of h)) (version_found h.tree.entries id ∙ ap (option_map version_of) is))
    one (Some e) is top =
        let at : version_at (machine_of h).versions id ≡ Some (version_of e) = version_is h.tree.entries id e is in
        sym (least_nothing (is_hit h.plan (machine_of h) (version_of e)) (first h.plan h.events e.value.window) (size h.plan h.events e.value.window)
        (λ i low high. absent (is_hit h.plan (machine_of h) (version_of e) i) {c = false} (λ hit. absurd (r.kept.clear id (version_of e) at top i hit)) refl))
        ∙ sym (ap (conflict_of h.plan (machine_of h)) at)

-- where no version is in conflict, none reads what is suppressed for it
pub calm_hits : (q : Plan) (bound : ℕ) (m : machine.Machine) → Reached q bound m → AreCalm q m → AreNew q m []
calm_hits q bound m r calm id v at i hit =
    let l = r.kept.sane.each id v at in
    let f = first q m.events v.window in
    let within : (f ≤ i) × (i < f + size q m.events v.window) = ⊎_elim
    (λ (y : HasRead q m.events v i). (y.0, let high = y.1 in let few = l.reads in omega arith))
    (λ (y : is_bare m.tickets v.id i ≡ true).
    let b = at_bare m.tickets r.kept.sane.newest_first v.id i y in
    let lent = l.lent b.0 b.1 b.2 b.3 in
    (let begins = lent.begins in let low = b.4 in omega arith, let begins = lent.begins in let fits = lent.fits in let high = b.5 in omega arith))
    (hit_cases q m v i hit).1 in
    let none = least_none (is_hit q m v) f (size q m.events v.window) i (ap is_some (calm id v at)) within.0 within.1 in
    absurd (cc)
