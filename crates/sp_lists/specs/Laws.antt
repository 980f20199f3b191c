-- Laws of what a list gives: where it was not asked it gave nothing, and what it gives is good.
use Rattle.std.specs.Prelude.{◌≡◌, ℕ, true, List, [], ◌∷◌, ◌++◌, Option, Some, None, slice_get, refl}
use Rattle.std.specs.List.{All}
use Rattle.std.specs.Option.{option_to_list}
use Rattle.std.proofs.Common.{zero, suc, subst, arith, length-append}
use Rattle.std.proofs.lemmas.List.Elements.{All-nil, All-cons, All-head, All-tail}
use Rattle.sp_plan.specs.declared.event.Event.{Event}
use Rattle.sp_plan.specs.declared.plan.Plan.{Plan}
use Rattle.sp_plan.specs.Events.{fits}
use Rattle.sp_ports.specs.Giving.{AreGood}
use Rattle.sp_lists.specs.Listing.{Listing, Gives, AsksNever}

-- the items of a list stay where they are when others come behind them
get_in_front : {X : Type 0} (xs ys : List X) (k : ℕ) (x : X) → slice_get xs k ≡ Some x → slice_get (xs ++ ys) k ≡ Some x
get_in_front [] ys k x at = absurd (cc at)
get_in_front (z ∷ xs) ys zero x at = at
get_in_front (z ∷ xs) ys (suc k) x at = get_in_front xs ys k x at

-- what holds of all items holds of the first ones
all_in_front : {X : Type 0} (P : X → Type 0) (xs ys : List X) → All P (xs ++ ys) → All P xs
all_in_front P [] ys all = All-nil P
all_in_front P (x ∷ xs) ys all = All-cons P x xs (All-head P x (xs ++ ys) all) (all_in_front P xs ys (All-tail P x (xs ++ ys) all))

-- good events are so without the last ones
pub good_in_front : (q : Plan) (xs ys : List Event) → AreGood q (xs ++ ys) → AreGood q xs
good_in_front q xs ys are = record {
  good = (
    all_in_front (λ e. fits q e ≡ true) xs ys are.good.0,
    λ i j x y le at there. are.good.1 i j x y le (get_in_front xs ys i x at) (get_in_front xs ys j y there),
  );
  few = let few = are.few in omega (arith, length-append xs ys);
}

-- and without the first one
pub good_but_first : (q : Plan) (x : Event) (xs : List Event) → AreGood q (x ∷ xs) → AreGood q xs
good_but_first q x xs are = record {
  good = (
    All-tail (λ e. fits q e ≡ true) x xs are.good.0,
    λ i j y z le at there. are.good.1 (suc i) (suc j) y z (omega arith) at there,
  );
  few = let few = are.few in omega arith;
}

-- and without one that was taken from their front
pub good_behind : (q : Plan) (xs ys : List Event) (taken : Option Event) → xs ≡ option_to_list taken ++ ys → AreGood q xs → AreGood q ys
good_behind q xs ys None is are = subst (AreGood q) is are
good_behind q xs ys (Some x) is are = good_but_first q x ys (subst (AreGood q) is are)

pub gives_none : (l : Listing) → Gives l [] l
gives_none l = record { are = refl; stop = refl }

pub asks_never : (l : Listing) → AsksNever l [] [] l
asks_never l = record { none = refl; gave = gives_none l }

pub gives_good : (old new : Listing) (events : List Event) → AreGood old.plan old.left → Gives old events new → AreGood old.plan events
gives_good old new events good gave = good_in_front old.plan events new.left (subst (AreGood old.plan) gave.are good)
