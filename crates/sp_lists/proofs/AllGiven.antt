-- Where a list told that there are no more events, it had given all.
use Rattle.std.proofs.Common.{◌≡◌, ◌<◌, ℕ, zero, suc, refl, Bool, true, false, ◌&&◌, List, [], ◌∷◌, ◌++◌, length, Some, None, sym, ◌∙◌, ap, arith}
use Rattle.std.specs.Prelude.{nat_lt, if◌then◌else◌}
use Rattle.std.proofs.lemmas.List.{append-nil}
use Rattle.sp_plan.specs.declared.event.Event.{Event}
use Rattle.sp_ports.specs.declared.stop.Stop.{Stop}
use Rattle.sp_ports.specs.Stopping.{is_end}
use Rattle.sp_lists.specs.declared.list_intake.ListIntake.{ListIntake}
use Rattle.sp_lists.specs.Listing.{listing, Gives, cause_of, has_ended, is_over}

told_some : (n : ℕ) → nat_lt 0 n ≡ true → 0 < n
told_some zero is = absurd (cc is)
told_some (suc n) is = omega arith

none_of : (events : List Event) → length events ≡ 0 → events ≡ []
none_of [] none = refl
none_of (e ∷ events) none = absurd (omega arith)

ends : (a b : Bool) → (a && b) ≡ true → (a ≡ true) × (b ≡ true)
ends true true is = (refl, refl)
ends true false is = absurd (cc is)
ends false b is = absurd (cc is)

chosen : (over : Bool) (stop reason : Stop) → (if over then Some stop else None) ≡ Some reason → (over ≡ true) × (stop ≡ reason)
chosen true stop reason is = (refl, cc is)
chosen false stop reason is = absurd (cc is)

module _ (old new : ListIntake) (given : List Event) (gives : Gives (listing old) given (listing new)) where
  all_given : is_over (listing new) ≡ true → given ≡ (listing old).left
  all_given over =
      let none : (listing new).left ≡ [] = none_of (listing new).left (sym new.events.rest.ok.0 ∙ new.last (told_some new.told over)) in
      sym (gives.are ∙ ap (λ (l : List Event). given ++ l) none ∙ append-nil given)

  -- its input has ended: it ends with its end, and all was given
  pub ended_all : has_ended (listing new) ≡ true → (given ≡ (listing old).left) × (is_end (listing old).stop ≡ true)
  ended_all ended =
      let both = ends (is_end new.stop) (is_over (listing new)) ended in
      (all_given both.1, ap is_end (sym gives.stop) ∙ both.0)

  -- it stopped: for its own reason, and all was given
  pub stopped_all : (reason : Stop) → cause_of (listing new) ≡ Some reason → (given ≡ (listing old).left) × (reason ≡ (listing old).stop)
  stopped_all reason cause =
      let told = chosen (is_over (listing new)) new.stop reason cause in
      (all_given told.0, sym told.1 ∙ gives.stop)
