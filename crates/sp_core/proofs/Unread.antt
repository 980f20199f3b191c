-- What a live version has not read, and the ticket under which it goes out.
use Rattle.std.proofs.Common.{◌≡◌, ℕ, ◌+◌, ◌-◌, ◌≤◌, Bool, true, false, cond, ◌&&◌, nat_le, min, refl, sym, ap, ◌∙◌, arith}
use Rattle.std.specs.Prelude.{filter}
use Rattle.std.specs.List.{range_with_len}
use Rattle.std.proofs.lemmas.Bool.Decides.{nat_tests}
use Rattle.sp_plan.specs.WindowNumbers.{first, size}
use Rattle.sp_version.specs.declared.version.Version.{Version}
use Rattle.sp_group.specs.Machine.{is_suppressed}
use Rattle.sp_group.specs.Effects.{lent_count, next_number, unread}
use Rattle.sp_window.specs.Laws as laws
use Rattle.sp_core.specs.declared.lent.Lent.{Lent}
use Rattle.sp_core.specs.Holding.{Holding, IsCore, machine_of, running}
use Rattle.sp_core.specs.Leasing.{HasBegun, IsLent, is_closed}
use Rattle.sp_core.specs.Suppressing.{suppressed_within}
use Rattle.sp_core.proofs.HeldConflict.{Held}
use Rattle.sp_core.proofs.Told.{fed_within}

-- what is put down of a lease of a version, of which at most n events are asked for
pub record IsPutDown (h : Holding) (id n : ℕ) (lent : Lent) (v : Version) : Type 0 where
  pub ticket : lent.ticket ≡ h.next_ticket
  pub version : lent.version ≡ id
  pub begins : lent.first ≡ v.first + v.position
  pub count : lent.count ≡ min (size h.plan h.events v.window - v.position) n
  pub snapshot : lent.snapshot.list ≡ suppressed_within h.plan (machine_of h) id lent.first lent.count
  pub closes : lent.closes ≡ (is_closed (running h) v.window && nat_le (size h.plan h.events v.window - v.position) n)

lesser_is : (u n : ℕ) → min u n ≡ cond (nat_le u n) u n
lesser_is u n = one (nat_le u n) refl
  where
    one : (b : Bool) → nat_le u n ≡ b → min u n ≡ cond b u n
    one true is = let least : u ≤ n = grind (arith, nat_tests) in omega arith
    one false is = let more : ¬ (u ≤ n) = grind (arith, nat_tests) in omega arith

module _ (h : Holding) (id : ℕ) (v : Version) (d : Held h id v) where
  pub reads : v.position ≤ size h.plan h.events v.window
  reads = let same = ap (size h.plan h.events) d.window in omega (arith, same, d.position, d.local.reads)

  pub next_few : IsCore h → laws.Holds h.plan → HasBegun (running h) v.window → v.first + v.position ≤ 1048577
  next_few k holds begun =
      let within = fed_within h k holds v.window begun in
      let same = ap (first h.plan h.events) d.window in
      omega (arith, within.0, within.1, reads, same, d.first)

  -- the ticket is that of the machine's lease
  pub is_lent : (lent : Lent) (n : ℕ) → IsPutDown h id n lent v → IsLent (running h) id n lent
  is_lent lent n put =
      let q = h.plan in
      let m = machine_of h in
      let u = d.version in
      let begins : lent.first ≡ next_number q m u =
      put.begins ∙ ap (λ k. k + v.position) d.first ∙ ap (λ k. first q h.events u.window + k) (sym d.position) in
      let left : size q h.events v.window - v.position ≡ unread q m u =
      ap (λ w. size q h.events w - v.position) (sym d.window) ∙ ap (λ k. size q h.events u.window - k) (sym d.position) in
      let count : lent.count ≡ lent_count q m n u = put.count ∙ ap (λ k. min k n) left ∙ lesser_is (unread q m u) n in
      let snapshot : lent.snapshot.list ≡ filter (is_suppressed q m u.id) (range_with_len (next_number q m u) (lent_count q m n u)) =
      put.snapshot ∙ ap (λ k. suppressed_within q m k lent.first lent.count) (sym d.id_is)
      ∙ ap (λ k. suppressed_within q m u.id k lent.count) begins ∙ ap (suppressed_within q m u.id (next_number q m u)) count in
      let closes : lent.closes ≡ (is_closed (running h) u.window && nat_le (unread q m u) n) =
      put.closes ∙ ap (λ w. is_closed (running h) w && nat_le (size q h.events v.window - v.position) n) (sym d.window)
      ∙ ap (λ k. is_closed (running h) u.window && nat_le k n) left in (
        u,
        d.at,
        λ i. record {
          number = put.ticket i;
          version = (put.version ∙ sym d.id_is) i;
          first = begins i;
          count = count i;
          snapshot = snapshot i;
          closes = closes i;
          read = 0;
          closing_read = false;
        },
      )
