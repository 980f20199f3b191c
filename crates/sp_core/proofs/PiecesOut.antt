-- The pieces of a bench and the tickets of its machine: where the piece of a number stands, and what becomes of the tickets where it is read
-- on and where it goes out.
use Rattle.std.proofs.Common.{◌≡◌, ℕ, ◌<◌, zero, suc, Bool, true, false, cond, not, ◌==◌, List, [], ◌∷◌, length, map, get_or, set, Some, refl, sym, ap, ◌∙◌, arith}
use Rattle.std.specs.List.{remove}
use Rattle.std.specs.Option.{option_map}
use Rattle.std.proofs.lemmas.Bool.Decides.{nat_tests}
use Rattle.std.proofs.lemmas.List.{length-map}
use Rattle.std.proofs.lemmas.Option.{same_Some, slice_get-get_or, slice_get-map, slice_get_within}
use Rattle.sp_piece.specs.Pieced.{Pieced}
use Rattle.sp_group.specs.Machine.{Ticket, ticket_at}
use Rattle.sp_group.specs.Effects.{read_if, read_on, without}
use Rattle.sp_rules.specs.Kept.{NewestFirst}
use Rattle.sp_core.specs.Returning.{IsPlaceOf}
use Rattle.sp_core.specs.OnBench.{ticket_in, unread}
use Rattle.sp_core.proofs.OneStepOn.{found_at}
use Rattle.sp_core.proofs.TicketsLeft.{map_remove, taken_out}

-- the piece of a number stands there
pub record IsPieceAt (ps : List Pieced) (n place : ℕ) : Type 0 where
  pub few : place < length ps
  pub number : (d : Pieced) → (get_or ps place d).job.ticket ≡ n

-- it stands where the core's ticket does
pub piece_at : (ps : List Pieced) (n place : ℕ) → IsPlaceOf (map unread (map ticket_in ps)) n place → IsPieceAt ps n place
piece_at ps n place at =
    let within = slice_get_within (map unread (map ticket_in ps)) place at.0 at.1 in
    let few : place < length ps = omega (arith, within, length-map (map ticket_in ps) unread, length-map ps ticket_in) in
    record {
      few = few;
      number = λ d.
          let there : Some (unread (ticket_in (get_or ps place d))) ≡ Some at.0 =
          sym (ap (λ o. option_map unread (option_map ticket_in o)) (slice_get-get_or ps place d few))
          ∙ sym (ap (option_map unread) (slice_get-map ticket_in ps place))
          ∙ sym (slice_get-map unread (map ticket_in ps) place)
          ∙ at.1 in
          ap (λ (t : Ticket). t.number) (same_Some _ _ there) ∙ at.2;
    }

-- a number that is found nowhere is read on nowhere
none_read : (n : ℕ) (ts : List Ticket) → ((u : Ticket) → ticket_at ts n ≡ Some u → ⊥) → read_on n ts ≡ ts
none_read n [] none = refl
none_read n (x ∷ ts) none = one (x.number == n) none (none_read n ts)
  where
    one : (b : Bool) → ((u : Ticket) → cond b (Some x) (ticket_at ts n) ≡ Some u → ⊥) → (((u : Ticket) → ticket_at ts n ≡ Some u → ⊥) → read_on n ts ≡ ts)
        → read_if b x ∷ read_on n ts ≡ x ∷ ts
    one true none rest = absurd (none x refl)
    one false none rest = ap (λ us. x ∷ us) (rest none)

-- the piece at a place is read on, and so is its ticket
pub read_at : (ps : List Pieced) (place : ℕ) (d p : Pieced) → NewestFirst (map ticket_in ps) → place < length ps
    → ticket_in p ≡ read_if true (ticket_in (get_or ps place d))
    → map ticket_in (set ps place p) ≡ read_on (get_or ps place d).job.ticket (map ticket_in ps)
read_at [] place d p newest few reads = absurd (omega arith)
read_at (x ∷ ps) zero d p newest few reads =
    let own : (x.job.ticket == x.job.ticket) ≡ true = grind (arith, nat_tests) in
    let none : (u : Ticket) → ticket_at (map ticket_in ps) x.job.ticket ≡ Some u → ⊥ = λ u there. let low = newest.0 x.job.ticket u there in omega arith in
    ap (λ t. t ∷ map ticket_in ps) (reads ∙ sym (ap (λ b. read_if b (ticket_in x)) own))
    ∙ ap (λ us. read_if (x.job.ticket == x.job.ticket) (ticket_in x) ∷ us) (sym (none_read x.job.ticket (map ticket_in ps) none))
read_at (x ∷ ps) (suc place) d p newest few reads =
    let n = (get_or ps place d).job.ticket in
    let low = newest.0 n (ticket_in (get_or ps place d)) (found_at ps newest.1 place d (omega arith)) in
    let other : (x.job.ticket == n) ≡ false = grind (arith, nat_tests) in
    ap (λ us. ticket_in x ∷ us) (read_at ps place d p newest.1 (omega arith) reads)
    ∙ ap (λ b. read_if b (ticket_in x) ∷ read_on n (map ticket_in ps)) (sym other)

-- the piece at a place goes out, and so does its ticket
pub gone_at : (ps : List Pieced) (place : ℕ) (d : Pieced) → NewestFirst (map ticket_in ps) → place < length ps
    → map ticket_in (remove ps place) ≡ without (get_or ps place d).job.ticket (map ticket_in ps)
gone_at ps place d newest few =
    map_remove ticket_in ps place
    ∙ taken_out (map ticket_in ps) place (ticket_in (get_or ps place d)) newest
    (slice_get-map ticket_in ps place ∙ ap (option_map ticket_in) (slice_get-get_or ps place d few))

-- before anything of them was read they are the same where one is read on, and where one goes out
pub unread_read : (n : ℕ) (ts : List Ticket) → map unread (read_on n ts) ≡ map unread ts
unread_read n [] = refl
unread_read n (x ∷ ts) = ap (λ us. unread x ∷ us) (unread_read n ts)

pub unread_without : (n : ℕ) (ts : List Ticket) → map unread (without n ts) ≡ without n (map unread ts)
unread_without n [] = refl
unread_without n (x ∷ ts) = one (x.number == n) (unread_without n ts)
  where
    one : (b : Bool) → map unread (without n ts) ≡ without n (map unread ts)
        → map unread (cond (not b) (x ∷ without n ts) (without n ts)) ≡ cond (not b) (unread x ∷ without n (map unread ts)) (without n (map unread ts))
    one true rest = rest
    one false rest = ap (λ us. unread x ∷ us) rest
