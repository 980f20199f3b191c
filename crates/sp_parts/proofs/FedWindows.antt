-- What holds while the windows of good events are fed.
use Rattle.std.proofs.Common.{◌≡◌, ℕ, ℤ, pos, ◌+◌, ◌<◌, ◌≤◌, ◌≤ℤ◌, false, true, List, [], ◌∷◌, ◌++◌, length, get_or, take, drop, sym, ap, ◌∙◌, subst, arith}
use Rattle.std.proofs.lemmas.Int.{ints}
use Rattle.std.proofs.lemmas.List.{take_more, take-append-drop}
use Rattle.sp_plan.specs.declared.event.Event.{Event}
use Rattle.sp_plan.specs.declared.plan.Plan.{Plan}
use Rattle.sp_plan.specs.Events.{fits}
use Rattle.sp_plan.specs.WindowNumbers.{Good}
use Rattle.sp_window.specs.Standing.{Kept, Stands}
use Rattle.sp_window.specs.Times.{stamp}
use Rattle.sp_window.proofs.Feeding.{in_time, good_less, Fed as Behind}
use Rattle.sp_parts.proofs.Places.{good_front}

-- so many events were fed
pub record Fed (w : Kept) (events : List Event) (i : ℕ) (q : Plan) : Type 0 where
  pub stands : Stands w (take i events) false
  pub plan_is : w.plan ≡ q
  pub fed_is : w.fed ≡ i
  pub more : w.ended ≡ false

module _ (w : Kept) (events : List Event) (i : ℕ) (q : Plan) (fed : Fed w events i q) (d e : Event) (within : i < length events) (is : e ≡ get_or events i d) (good : Good q events) where
  -- the events fed, and the one at hand
  one_more : take i events ++ e ∷ [] ≡ take (i + 1) events
  one_more = ap (λ (x : Event). take i events ++ x ∷ []) is ∙ sym (take_more events i d within)

  behind : Behind q (take i events) e
  behind = good_less q (take i events) e (subst (Good q) (sym one_more) (good_front q (take (i + 1) events) (drop (i + 1) events) (subst (Good q) (sym (take-append-drop (i + 1) events)) good)))

  -- the event at hand fits
  pub fits_next : fits w.plan e ≡ true
  fits_next = ap (λ (p : Plan). fits p e) fed.plan_is ∙ behind.fits_it

  -- and is no earlier than the last one
  pub in_order : pos w.time ≤ℤ e.time
  in_order = not_before w.time (stamp e) e.time (in_time q e behind.fits_it).is (let rise = behind.rises in let at = fed.stands.time_is in omega arith)
    where
      not_before : (m n : ℕ) (t : ℤ) → t ≡ pos n → m ≤ n → pos m ≤ℤ t
      not_before m n t same le = omega (arith, ints)

  -- one event more
  pub fed_next : (w' : Kept) → ((before : List Event) → Stands w before false → Stands w' (before ++ e ∷ []) false) → w'.fed ≡ w.fed + 1 → w'.plan ≡ w.plan → w'.ended ≡ false → Fed w' events (i + 1) q
  fed_next w' stands count plan more = record {
    stands = subst (λ (l : List Event). Stands w' l false) one_more (stands (take i events) fed.stands);
    plan_is = plan ∙ fed.plan_is;
    fed_is = let at = fed.fed_is in omega arith;
    more = more;
  }
