-- A version that is hit by no more than before is in no conflict where it was in none before.
use Rattle.std.proofs.Common.{◌≡◌, ℕ, zero, suc, ◌+◌, Bool, true, false, List, Option, Some, None, is_some, refl, sym, subst, arith}
use Rattle.sp_plan.specs.declared.event.Event.{Event}
use Rattle.sp_plan.specs.declared.plan.Plan.{Plan}
use Rattle.sp_plan.specs.WindowNumbers.{first, size}
use Rattle.sp_group.specs.Rising.{least}
use Rattle.sp_group.specs.Machine.{Version, Machine, is_out, is_hit, conflict}
use Rattle.sp_group.specs.Effects.{fresh}
use Rattle.sp_rules.proofs.Lists.{least_some}
use Rattle.sp_rules.proofs.Spawning.{fresh_clear}

-- where fewer numbers pass, there is no least one where there was none
least_less : (p o : ℕ → Bool) → ((i : ℕ) → o i ≡ true → p i ≡ true) → (a n : ℕ) → least p a n ≡ None → least o a n ≡ None
least_less p o less a zero none = refl
least_less p o less a (suc n) none = grind (arith, less a, least_less p o less (a + 1) n)

pub none_is : {A : Type 0} (o : Option A) → is_some o ≡ false → o ≡ None
none_is None h = refl
none_is (Some x) h = absurd (cc)

pub stays_clear : (q : Plan) (m n : Machine) (v w : Version) → n.events ≡ m.events → w.window ≡ v.window → ((i : ℕ) → is_hit q n w i ≡ true → is_hit q m v i ≡ true)
    → conflict q m v ≡ None → conflict q n w ≡ None
stays_clear q m n v w events window less none =
    subst (λ (E : List Event). least (is_hit q n w) (first q E w.window) (size q E w.window) ≡ None) (sym events)
    (subst (λ (x : ℕ). least (is_hit q n w) (first q m.events x) (size q m.events x) ≡ None) (sym window)
    (least_less (is_hit q m v) (is_hit q n w) less (first q m.events v.window) (size q m.events v.window) none))

-- a version that has read nothing, and for which nothing is out
pub fresh_is_clear : (q : Plan) (m : Machine) (p : Option ℕ) (w : ℕ) (l : List ℕ) (id : ℕ) → is_out m.tickets id ≡ false → conflict q m (fresh id p w l) ≡ None
fresh_is_clear q m p w l id free =
    none_is (conflict q m (fresh id p w l)) (least_some (is_hit q m (fresh id p w l)) (first q m.events w) (size q m.events w) (λ i x. fresh_clear q m p w l id i free x))
