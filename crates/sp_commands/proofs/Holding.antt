-- Events that a slack holds back one after another, none of them late, and gives again.
use Rattle.std.proofs.Common.{◌≡◌, ℕ, ℤ, pos, ◌+◌, ◌≤◌, ◌≤ℤ◌, true, false, List, [], ◌∷◌, ◌++◌, length, take, min, Some, refl, sym, ◌∙◌, ap, subst, arith, length-append}
use Rattle.std.specs.Prelude.{slice_get}
use Rattle.std.specs.List.{All}
use Rattle.std.proofs.Math.Seq.{take-length}
use Rattle.std.proofs.lemmas.List.{take_min}
use Rattle.std.proofs.lemmas.List.Elements.{All-tail}
use Rattle.sp_base.specs.Limits.{event_limit, number_limit}
use Rattle.sp_plan.specs.declared.event.Event.{Event}
use Rattle.sp_rows.proofs.Walks.{next_taken}
use Rattle.sp_slack.proofs.Sorting.{slacked_few}
use Rattle.sp_slack.specs.HeldBack.{is_late, AreTimely}
use Rattle.sp_slack.specs.Standing.{Kept, Stands, all_given}
use Rattle.sp_slack.specs.declared.late.Offered.{Offered}
use Rattle.sp_slack.specs.declared.late.Offered.TheVariants.{Kept as IsKept, Late}

abbrev pub IsTimed : Event → Type 0
IsTimed e = (pos 0 ≤ℤ e.time) × (e.time ≤ℤ pos number_limit)

-- a slack holds all events so far, and none of the rest will be late
pub record Holds (slack : ℤ) (k : Kept) (so_far rest : List Event) : Type 0 where
  pub stands : Stands k so_far 0
  pub offered : k.offered ≡ length so_far
  pub going : k.ended ≡ false
  pub slack_is : k.slack ≡ slack
  pub few : length so_far + length rest ≤ event_limit
  pub timed : All IsTimed rest
  pub timely : AreTimely slack so_far rest

-- one event more
module _ (slack : ℤ) (old new : Kept) (so_far : List Event) (e : Event) (rest : List Event) (holds : Holds slack old so_far (e ∷ rest)) (answer : Offered)
    (kept : answer ≡ IsKept → (is_late old.slack so_far e ≡ false) × Stands new (so_far ++ e ∷ []) 0)
    (late : (now end : ℤ) → answer ≡ Late now end → is_late old.slack so_far e ≡ true)
    (offered : new.offered ≡ old.offered + 1) (slack_is : new.slack ≡ old.slack) (going : new.ended ≡ false) where
  stands : Stands new (so_far ++ e ∷ []) 0
  stands = by answer refl
    where
      by : (a : Offered) → answer ≡ a → Stands new (so_far ++ e ∷ []) 0
      by IsKept is = (kept is).1
      by (Late now end) is =
          let on_time : is_late old.slack so_far e ≡ false = ap (λ (s : ℤ). is_late s so_far e) holds.slack_is ∙ holds.timely.0 in
          let clash : true ≡ false = sym (late now end is) ∙ on_time in
          absurd (cc clash)

  pub holds_more : Holds slack new (so_far ++ e ∷ []) rest
  holds_more = record {
    stands = stands;
    offered = omega (arith, offered, holds.offered, length-append so_far (e ∷ []));
    going = going;
    slack_is = slack_is ∙ holds.slack_is;
    few = omega (arith, holds.few, length-append so_far (e ∷ []));
    timed = All-tail IsTimed e rest holds.timed;
    timely = holds.timely.1;
  }

-- ---- given again

take_all : {X : Type 0} (n : ℕ) (xs : List X) → length xs ≤ n → take n xs ≡ xs
take_all n xs long =
    let least : min n (length xs) ≡ length xs = omega (arith, long) in
    sym (take_min n xs) ∙ ap (λ (m : ℕ). take m xs) least ∙ take-length xs

-- a slack that held some events gave the first of those that are to be given, as many as there are turns
pub record Gave (first now : Kept) (events : List Event) (given : List Event) (turns : ℕ) : Type 0 where
  pub stands : Stands now events turns
  pub rest : now ≡ record first { held = now.held }
  pub count : length given ≡ turns
  pub are : given ≡ take turns (all_given first events)

pub none_given : (k : Kept) (events : List Event) → Stands k events 0 → Gave k k events [] 0
none_given k events stands = record { stands = stands; rest = refl; count = refl; are = refl }

module _ (first now : Kept) (events given : List Event) (turns : ℕ) (gave : Gave first now events given turns) where
  same_given : all_given now events ≡ all_given first events
  same_given = ap (λ (k : Kept). all_given k events) gave.rest

  -- no more are to be given
  pub all_gave : length (all_given now events) ≡ turns → given ≡ all_given first events
  all_gave whole =
      gave.are ∙ take_all turns (all_given first events) (omega (arith, whole, ap length same_given))

  -- there were as many turns as events
  pub turns_over : length events ≤ turns → given ≡ all_given first events
  turns_over over = gave.are ∙ take_all turns (all_given first events) (omega (arith, over, slacked_few first.slack events first.ended))

  -- one more
  module _ (new : Kept) (e : Event) (is : slice_get (all_given now events) turns ≡ Some e) (stands : Stands new events (turns + 1)) (rest : new ≡ record now { held = new.held }) where
    pub one_given : Gave first new events (given ++ e ∷ []) (turns + 1)
    one_given = record {
      stands = stands;
      rest = rest ∙ ap (λ (k : Kept). record k { held = new.held }) gave.rest;
      count = omega (arith, gave.count, length-append given (e ∷ []));
      are = ap (λ (l : List Event). l ++ e ∷ []) gave.are ∙ sym (next_taken (all_given first events) turns e (subst (λ (l : List Event). slice_get l turns ≡ Some e) same_given is));
    }
