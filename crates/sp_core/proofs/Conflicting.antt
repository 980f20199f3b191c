-- Only what has been read, or is out, can be in conflict.
use Rattle.std.proofs.Common.{◌≡◌, ℕ, ◌+◌, Bool, true, false, cond, ◌&&◌, ◌||◌, ◌==◌, nat_lt, nat_le, List, [], ◌∷◌, Some, is_some, refl, sym, ap, ◌∙◌, arith}
use Rattle.std.proofs.lemmas.Bool.{true≢false}
use Rattle.std.proofs.lemmas.Bool.Decides.{nat_tests}
use Rattle.sp_plan.specs.declared.plan.Plan.{Plan}
use Rattle.sp_plan.specs.WindowNumbers.{first, size}
use Rattle.sp_group.specs.Machine.{Machine, Version, Ticket, is_out, out_for, is_bare, is_lent, is_hit, is_read, is_suppressed, conflict}
use Rattle.sp_core.proofs.Least.{least_nothing}

-- a ticket is out for a version exactly where its number is found
pub out_is : (ts : List Ticket) (id : ℕ) → is_some (out_for ts id) ≡ is_out ts id
out_is [] id = refl
out_is (t ∷ ts) id = one (t.version == id) (out_is ts id)
  where
    one : (b : Bool) → is_some (out_for ts id) ≡ is_out ts id → is_some (cond b (Some t.number) (out_for ts id)) ≡ (b || is_out ts id)
    one true rest = refl
    one false rest = rest

bare_if : (ts : List Ticket) (id i : ℕ) → is_out ts id ≡ false → is_bare ts id i ≡ false
bare_if [] id i h = refl
bare_if (t ∷ ts) id i h = one (t.version == id) h (bare_if ts id i)
  where
    one : (b : Bool) → (b || is_out ts id) ≡ false → (is_out ts id ≡ false → is_bare ts id i ≡ false) → (b && is_lent t i || is_bare ts id i) ≡ false
    one true h rest = absurd (cc)
    one false h rest = rest h

unread : (from position i : ℕ) (b : Bool) → nat_lt 0 position ≡ false → (nat_le from i && nat_lt i (from + position) && b) ≡ false
unread from position i b h = grind (arith, nat_tests)

and_neither : (a b c : Bool) → b ≡ false → c ≡ false → (a && (b || c)) ≡ false
and_neither true b c h k = grind arith
and_neither false b c h k = refl

-- a version that is in conflict has read something, or something is out for it
pub touched : (q : Plan) (m : Machine) (v : Version) → is_some (conflict q m v) ≡ true → (nat_lt 0 v.position || is_out m.tickets v.id) ≡ true
touched q m v h = one (nat_lt 0 v.position) (is_out m.tickets v.id) refl refl
  where
    none : nat_lt 0 v.position ≡ false → is_out m.tickets v.id ≡ false → (i : ℕ) → is_hit q m v i ≡ false
    none read out i =
        and_neither (is_suppressed q m v.id i) (is_read q m.events v i) (is_bare m.tickets v.id i)
        (unread (first q m.events v.window) v.position i _ read) (bare_if m.tickets v.id i out)

    one : (a b : Bool) → nat_lt 0 v.position ≡ a → is_out m.tickets v.id ≡ b → (a || b) ≡ true
    one true b read out = refl
    one false true read out = refl
    one false false read out = absurd (true≢false (sym h ∙ ap is_some (least_nothing (is_hit q m v) (first q m.events v.window) (size q m.events v.window) (λ i low high. none read out i))))
