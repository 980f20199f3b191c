-- A version is written to, its groups are set, and those that ended are decided.
use Rattle.std.proofs.Common.{◌≡◌, ℕ, ◌+◌, ◌<◌, Bool, true, false, cond, ◌||◌, ◌==◌, List, [], ◌∷◌, ◌++◌, filter, Option, Some, Result, Ok, Err, refl, sym, ap, subst, ◌∙◌}
use Rattle.std.specs.Prelude.{nat_lt, IfSome}
use Rattle.std.specs.Result.{OnErr, OnOk}
use Rattle.std.proofs.lemmas.Option.{same_Some}
use Rattle.sp_base.specs.Numbers.{with_numbers}
use Rattle.sp_piece.specs.Pieced.{Pieced}
use Rattle.sp_version.specs.declared.version.Version.{Version}
use Rattle.sp_group.specs.Family.{entry_at}
use Rattle.sp_tree.specs.Decided.{rule_of}
use Rattle.sp_tree.specs.Grown.{AreGrown, Entry, Grown, kin, pruned, regrouped, value_of, with_all_groups, with_value, written}
use Rattle.sp_core.specs.declared.homecoming.Brought.{Brought}
use Rattle.sp_core.specs.Homecoming.{CanDecide, IsDecided, IsReady, IsSameButRooms, IsTakenUp, ended_in, outcome_of}
use Rattle.sp_core.specs.Settling.{CanSettle, CanTakeUp, HasRooms, HasTakenUp, IsSameTree, IsSettled, with_settled}
use Rattle.sp_core.proofs.Owner.{settled, settled_at}

-- what holds in any case holds after an error
pub on_err : {A E : Type 0} (result : Result A E) (X : Type 0) → X → OnErr result X
on_err (Ok a) X x = tt
on_err (Err e) X x = x

-- of what holds where there is none nothing is asked after an error
pub on_none : {A E : Type 0} (result : Result A E) (X : Type 0) (e : E) → result ≡ Err e → OnOk result X
on_none (Ok a) X e is = absurd (cc)
on_none (Err x) X e is = tt

-- what follows from what holds follows after an error, and after none
pub over_ok : {A E : Type 0} (result : Result A E) (X Y : Type 0) → (X → Y) → OnOk result X → OnOk result Y
over_ok (Ok a) X Y f x = f x
over_ok (Err e) X Y f x = tt

pub over_err : {A E : Type 0} (result : Result A E) (X Y : Type 0) → (X → Y) → OnErr result X → OnErr result Y
over_err (Ok a) X Y f x = tt
over_err (Err e) X Y f x = f x

-- the entry of the id has what was written
pub written_at : (es : List (Entry Version)) (id : ℕ) (value : Version) (e : Entry Version) → entry_at kin es id ≡ Some e → entry_at kin (written es id value) id ≡ Some (record e { value = value })
written_at [] id value e at = absurd (cc)
written_at (x ∷ es) id value e at = one (x.version.id == id) refl at (written_at es id value e)
  where
    one : (b : Bool) → (x.version.id == id) ≡ b → cond b (Some x) (entry_at kin es id) ≡ Some e
        → (entry_at kin es id ≡ Some e → entry_at kin (written es id value) id ≡ Some (record e { value = value }))
        → entry_at kin (cond b (record x { value = value } ∷ es) (x ∷ written es id value)) id ≡ Some (record e { value = value })
    one true is here rest =
        let same : x ≡ e = cc in
        ap (λ b. cond b (Some (record x { value = value })) (entry_at kin es id)) is ∙ ap (λ (y : Entry Version). Some (record y { value = value })) same
    one false is there rest = ap (λ b. cond b (Some x) (entry_at kin (written es id value) id)) is ∙ rest there

-- the last of two values stays
written_twice : (es : List (Entry Version)) (id : ℕ) (v w : Version) → written (written es id v) id w ≡ written es id w
written_twice [] id v w = refl
written_twice (x ∷ es) id v w = one (x.version.id == id) refl (written_twice es id v w)
  where
    one : (b : Bool) → (x.version.id == id) ≡ b → written (written es id v) id w ≡ written es id w
        → written (cond b (record x { value = v } ∷ es) (x ∷ written es id v)) id w ≡ cond b (record x { value = w } ∷ es) (x ∷ written es id w)
    one true is rest = ap (λ b. cond b (record x { value = w } ∷ es) (record x { value = v } ∷ written es id w)) is
    one false is rest = ap (λ b. cond b (record x { value = w } ∷ written es id v) (x ∷ written (written es id v) id w)) is ∙ ap (λ (z : List (Entry Version)). x ∷ z) rest

-- A value is written before or after the groups are set, or one is opened.
pub written_grouped : (es : List (Entry Version)) (id : ℕ) (groups : List ℕ) (w : Version) → written (regrouped id groups es) id w ≡ regrouped id groups (written es id w)
written_grouped [] id groups w = refl
written_grouped (x ∷ es) id groups w = one (x.version.id == id) refl (written_grouped es id groups w)
  where
    mine : Entry Version
    mine = record { version = record x.version { groups = groups }; value = x.value }

    one : (b : Bool) → (x.version.id == id) ≡ b → written (regrouped id groups es) id w ≡ regrouped id groups (written es id w)
        → written (cond b (mine ∷ es) (x ∷ regrouped id groups es)) id w ≡ regrouped id groups (cond b (record x { value = w } ∷ es) (x ∷ written es id w))
    one true is rest =
        ap (λ b. cond b (record mine { value = w } ∷ es) (mine ∷ written es id w)) is
        ∙ sym (ap (λ b. cond b (record mine { value = w } ∷ es) (record x { value = w } ∷ regrouped id groups es)) is)
    one false is rest =
        ap (λ b. cond b (record x { value = w } ∷ regrouped id groups es) (x ∷ written (regrouped id groups es) id w)) is
        ∙ ap (λ (z : List (Entry Version)). x ∷ z) rest
        ∙ sym (ap (λ b. cond b (mine ∷ written es id w) (x ∷ regrouped id groups (written es id w))) is)

-- the entry of the id has the groups that were set
pub grouped_at : (es : List (Entry Version)) (id : ℕ) (groups : List ℕ) (e : Entry Version) → entry_at kin es id ≡ Some e → entry_at kin (regrouped id groups es) id ≡ Some (settled groups e.value e)
grouped_at [] id groups e at = absurd (cc)
grouped_at (x ∷ es) id groups e at = one (x.version.id == id) refl at (grouped_at es id groups e)
  where
    one : (b : Bool) → (x.version.id == id) ≡ b → cond b (Some x) (entry_at kin es id) ≡ Some e
        → (entry_at kin es id ≡ Some e → entry_at kin (regrouped id groups es) id ≡ Some (settled groups e.value e))
        → entry_at kin (cond b (settled groups x.value x ∷ es) (x ∷ regrouped id groups es)) id ≡ Some (settled groups e.value e)
    one true is here rest =
        let same : x ≡ e = cc in
        ap (λ b. cond b (Some (settled groups x.value x)) (entry_at kin es id)) is ∙ ap (λ (y : Entry Version). Some (settled groups y.value y)) same
    one false is there rest = ap (λ b. cond b (Some x) (entry_at kin (regrouped id groups es) id)) is ∙ rest there

-- Groups say nothing of rooms, nor of what is taken up.
pub ready_ungrouped : (held : Version) (p : Pieced) (passed : List ℕ) (b : Brought) (groups : List ℕ) → IsReady held p passed b → IsReady held p passed (record b { groups = groups })
ready_ungrouped held p passed b groups r = record {
  passed_is = r.passed_is;
  room_for = record { skipped = r.room_for.skipped; used = r.room_for.used; matches = r.room_for.matches; copies = r.room_for.copies };
}

pub taken_grouped : (old : Version) (p : Pieced) (b : Brought) (groups : List ℕ) (new : Version) → IsTakenUp old p (record b { groups = groups }) new → IsTakenUp old p b new
taken_grouped old p b groups new t = record {
  window = t.window;
  first = t.first;
  position = t.position;
  skipped = t.skipped;
  matcher = t.matcher;
  matches = t.matches;
  copies = t.copies;
  used = t.used;
  done = t.done;
  out = t.out;
}

-- A version takes up the same, whatever rooms it had.
taken_same : (held value : Version) (p : Pieced) (b : Brought) (new : Version) → IsSameButRooms held value → IsTakenUp value p b new → IsTakenUp held p b new
taken_same held value p b new s t = record {
  window = t.window ∙ s.window;
  first = t.first ∙ s.first;
  position = t.position ∙ ap (λ (n : ℕ). n + p.read) s.position;
  skipped = t.skipped ∙ (λ i. with_numbers (s.skipped i) (filter (λ n. nat_lt n (p.job.first + p.read)) p.job.snapshot.list));
  matcher = t.matcher;
  matches = t.matches ∙ (λ i. s.matches i ++ b.matches.items);
  copies = t.copies ∙ (λ i. s.copies i ++ b.copies.items);
  used = t.used ∙ (λ i. with_numbers (s.used i) b.used.list);
  done = t.done ∙ ap (λ (d : Bool). d || p.closed) s.done;
  out = t.out;
}

module _ (old : Grown Version) (p : Pieced) (passed : List ℕ) (b : Brought) (can : CanTakeUp old p passed b) (id : ℕ) (id_is : id ≡ p.job.version) (held : Version)
    (got : Some held ≡ value_of (entry_at kin old.entries id)) where
  taker_is : held ≡ can.entry.value
  taker_is = same_Some held can.entry.value (got ∙ ap (λ (k : ℕ). value_of (entry_at kin old.entries k)) id_is ∙ ap value_of can.live)

  pub taker_few : held.position + p.read < 4294967296
  taker_few = subst (λ (v : Version). v.position + p.read < 4294967296) (sym taker_is) can.few

  pub taker_ready : IsReady held p passed b
  taker_ready = subst (λ (v : Version). IsReady v p passed b) (sym taker_is) can.ready

  pub has_taken_up : (value : Version) → IsTakenUp held p b value → HasTakenUp old p b (with_value old id value)
  has_taken_up value taken = record {
    entry = can.entry;
    live = can.live;
    value = value;
    taken = subst (λ (v : Version). IsTakenUp v p b value) taker_is taken;
    tree = ap (λ (k : ℕ). with_value old k value) id_is;
  }

module _ (old : Grown Version) (p : Pieced) (b : Brought) (can : CanSettle old p b) (id : ℕ) (id_is : id ≡ p.job.version) where
  live : entry_at kin old.entries id ≡ Some can.entry
  live = ap (entry_at kin old.entries) id_is ∙ can.live

  -- The version has got rooms.
  module _ (held : Version) (got : Some held ≡ value_of (entry_at kin old.entries id)) (value : Version) (same : IsSameButRooms held value) where
    held_is : held ≡ can.entry.value
    held_is = same_Some held can.entry.value (got ∙ ap value_of live)

    same_here : IsSameButRooms can.entry.value value
    same_here = subst (λ (v : Version). IsSameButRooms v value) held_is same

    pub same_tree : IsSameTree old p.job.version (with_value old id value)
    same_tree = record {
      entry = can.entry;
      live = can.live;
      value = value;
      same = same_here;
      tree = ap (λ (k : ℕ). with_value old k value) id_is;
    }

    pub same_then : (new : Grown Version) → new ≡ with_value old id value → IsSameTree old p.job.version new
    same_then new is = subst (λ (t : Grown Version). IsSameTree old p.job.version t) (sym is) same_tree

    abbrev roomy : Entry Version
    roomy = record can.entry { value = value }

    roomy_live : entry_at kin (written old.entries id value) p.job.version ≡ Some roomy
    roomy_live = ap (entry_at kin (written old.entries id value)) (sym id_is) ∙ written_at old.entries id value can.entry live

    pub can_still : CanSettle (with_value old id value) p b
    can_still = record {
      entry = roomy;
      live = roomy_live;
      few = subst (λ (n : ℕ). n + p.read < 4294967296) (sym same_here.position) can.few;
      rising = can.rising;
      more = can.more;
      spent = can.spent;
      alike = can.alike;
    }

    pub has_rooms : (passed : List ℕ) → IsReady value p passed b → HasRooms (with_value old id value) p passed b
    has_rooms passed ready = subst (λ (o : Option (Entry Version)). IfSome o (λ e. IsReady e.value p passed b)) (sym roomy_live) ready

    pub settled_over : (new : Grown Version) → IsSettled (with_value old id value) p b new → IsSettled old p b new
    settled_over new s =
        let mine : s.entry ≡ roomy = same_Some s.entry roomy (sym s.live ∙ roomy_live) in
        record {
          entry = can.entry;
          live = can.live;
          value = s.value;
          taken = taken_same can.entry.value value p b s.value same_here (subst (λ (e : Entry Version). IsTakenUp e.value p b s.value) mine s.taken);
          tree =
              s.tree
              ∙ ap (λ (k : ℕ). pruned (rule_of p.job.version (outcome_of b.completed.items) (ended_in s.value.matcher b.groups)) (with_settled (with_value old k value) p.job.version s.value b.groups)) id_is
              ∙ ap (λ (es : List (Entry Version)). pruned (rule_of p.job.version (outcome_of b.completed.items) (ended_in s.value.matcher b.groups)) (with_all_groups (record old { entries = es }) p.job.version b.groups))
              (written_twice old.entries p.job.version value s.value);
        }

  -- All groups are set.
  module _ (passed : List ℕ) (rooms : HasRooms old p passed b) (none : List ℕ) (set : Grown Version) (set_is : set ≡ with_all_groups old id b.groups) where
    ready : IsReady can.entry.value p passed b
    ready = subst (λ (o : Option (Entry Version)). IfSome o (λ e. IsReady e.value p passed b)) can.live rooms

    set_live : entry_at kin set.entries p.job.version ≡ Some (settled b.groups can.entry.value can.entry)
    set_live = ap (λ (t : Grown Version). entry_at kin t.entries p.job.version) set_is ∙ ap (entry_at kin (regrouped id b.groups old.entries)) (sym id_is) ∙ grouped_at old.entries id b.groups can.entry live

    pub can_take : CanTakeUp set p passed (record b { groups = none })
    can_take = record { entry = settled b.groups can.entry.value can.entry; live = set_live; few = can.few; ready = ready_ungrouped can.entry.value p passed b none ready }

    module _ (now : Grown Version) (taken : HasTakenUp set p (record b { groups = none }) now) where
      now_is : now ≡ with_settled old id taken.value b.groups
      now_is =
          taken.tree
          ∙ ap (λ (k : ℕ). with_value set k taken.value) (sym id_is)
          ∙ ap (λ (t : Grown Version). with_value t id taken.value) set_is
          ∙ ap (λ (es : List (Entry Version)). record old { entries = es }) (written_grouped old.entries id b.groups taken.value)

      at : entry_at kin now.entries id ≡ Some (settled b.groups taken.value can.entry)
      at = ap (λ (t : Grown Version). entry_at kin t.entries id) now_is ∙ settled_at id b.groups taken.value old.entries can.entry live

      is_taken : IsTakenUp can.entry.value p b taken.value
      is_taken =
          let mine : taken.entry ≡ settled b.groups can.entry.value can.entry = same_Some taken.entry (settled b.groups can.entry.value can.entry) (sym taken.live ∙ set_live) in
          taken_grouped can.entry.value p b none taken.value (subst (λ (e : Entry Version). IsTakenUp e.value p (record b { groups = none }) taken.value) mine taken.taken)

      pub can_decide : AreGrown now → CanDecide now id
      can_decide grown = record {
        entry = settled b.groups taken.value can.entry;
        live = at;
        rising = can.rising;
        grown = grown;
      }

      pub is_settled : (completed : List ℕ) (new : Grown Version) → completed ≡ b.completed.items → IsDecided now id completed new → IsSettled old p b new
      is_settled completed new runs decided = record {
        entry = can.entry;
        live = can.live;
        value = taken.value;
        taken = is_taken;
        tree =
            decided (settled b.groups taken.value can.entry) at
            ∙ ap (pruned (rule_of id (outcome_of completed) (ended_in taken.value.matcher b.groups))) now_is
            ∙ ap (λ (ns : List ℕ). pruned (rule_of id (outcome_of ns) (ended_in taken.value.matcher b.groups)) (with_settled old id taken.value b.groups)) runs
            ∙ ap (λ (k : ℕ). pruned (rule_of k (outcome_of b.completed.items) (ended_in taken.value.matcher b.groups)) (with_settled old k taken.value b.groups)) id_is;
      }
