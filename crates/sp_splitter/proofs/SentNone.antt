-- What comes into the journal before work is sent out: no entry makes a child, and none leases.
use Rattle.std.proofs.Common.{◌≡◌, ℕ, zero, suc, false, List, [], ◌∷◌, ◌++◌, None, inl, inr, refl, sym, ap, ◌∙◌, append_assoc}
use Rattle.std.specs.List.{All}
use Rattle.std.proofs.lemmas.List.{append-nil}
use Rattle.std.proofs.lemmas.List.Elements.{All-append, All-cons, All-nil}
use Rattle.sp_group.specs.declared.step.Entry.{Entry}
use Rattle.sp_group.specs.declared.step.Step.{Step}
use Rattle.sp_group.specs.declared.step.Step.TheVariants as s
use Rattle.sp_group.specs.Steps.{is_lease}
use Rattle.sp_rules.specs.Returning.{readings}
use Rattle.sp_piece.specs.Pieced.{Pieced}
use Rattle.sp_core.specs.declared.emitted.Emitted.{Emitted}
use Rattle.sp_core.specs.declared.given.Given.{Given}
use Rattle.sp_core.specs.declared.given.Given.TheVariants as g
use Rattle.sp_core.specs.Returning.{IsGiven, after_return}
use Rattle.sp_core.specs.Running.{Running, after, once}
use Rattle.sp_spread.specs.Journaled.{MakesNoChild, makes_child}
use Rattle.sp_splitter.specs.Finishing.{Finishes, none_finished, one_finished}
use Rattle.sp_splitter.specs.Gathering.{GivesBack, none_back, one_back}
use Rattle.sp_splitter.specs.Planting.{Plants}
use Rattle.sp_splitter.specs.Rolling.{Rolls, none_rolled, one_rolled}
use Rattle.sp_splitter.specs.Stages.{SendsNone}
use Rattle.sp_splitter.specs.Turning.{TidiedUp}
use Rattle.sp_splitter.proofs.Stepping.{home_entries, journal_homecoming}

-- these entries neither lease nor make a child
pub record AreTidy (entries : List Entry) : Type 0 where
  pub no_child : MakesNoChild entries
  pub no_lease : All (λ (e : Entry). is_lease e.step ≡ false) entries

tidy_none : AreTidy []
tidy_none = record { no_child = All-nil (λ (e : Entry). makes_child e.step ≡ false); no_lease = All-nil (λ (e : Entry). is_lease e.step ≡ false) }

tidy_one : (e : Entry) (es : List Entry) → makes_child e.step ≡ false → is_lease e.step ≡ false → AreTidy es → AreTidy (e ∷ es)
tidy_one e es child lease rest = record {
  no_child = All-cons (λ (e : Entry). makes_child e.step ≡ false) e es child rest.no_child;
  no_lease = All-cons (λ (e : Entry). is_lease e.step ≡ false) e es lease rest.no_lease;
}

sends : (old new : Running) (entries : List Entry) → new.journal ≡ old.journal ++ entries → AreTidy entries → SendsNone old new
sends old new entries entered tidy = record { entries = entries; entered = entered; no_child = tidy.no_child; no_lease = tidy.no_lease }

-- nothing was done
pub sends_same : (old new : Running) → new ≡ old → SendsNone old new
sends_same old new same = sends old new [] (ap (λ (c : Running). c.journal) same ∙ sym (append-nil old.journal)) tidy_none

-- one thing behind another
pub sends_then : (a b c : Running) → SendsNone a b → SendsNone b c → SendsNone a c
sends_then a b c first then = record {
  entries = first.entries ++ then.entries;
  entered = then.entered ∙ ap (λ (es : List Entry). es ++ then.entries) first.entered ∙ append_assoc a.journal first.entries then.entries;
  no_child = All-append (λ (e : Entry). makes_child e.step ≡ false) first.entries then.entries first.no_child then.no_child;
  no_lease = All-append (λ (e : Entry). is_lease e.step ≡ false) first.entries then.entries first.no_lease then.no_lease;
}

-- one step
sends_step : (x : Step) (old new : Running) → makes_child x ≡ false → is_lease x ≡ false → new ≡ after old x → SendsNone old new
sends_step x old new child lease is = sends old new (once x ∷ []) (ap (λ (c : Running). c.journal) is) (tidy_one (once x) [] child lease tidy_none)

-- a piece that came home
tidy_home : (number times : ℕ) → AreTidy (home_entries number times)
tidy_home number zero = tidy_one (once (s.Return number)) [] refl refl tidy_none
tidy_home number (suc times) =
    tidy_one (record { step = s.Event number; times = suc times }) (once (s.Return number) ∷ []) refl refl (tidy_one (once (s.Return number)) [] refl refl tidy_none)

sends_home : (number times : ℕ) (old new : Running) → new ≡ after_return old number times → SendsNone old new
sends_home number times old new is = sends old new (home_entries number times) (journal_homecoming number times old new is) (tidy_home number times)

-- a piece that was given back
sends_given : (old new : Running) (p : Pieced) (given : Given) → IsGiven old new p given → SendsNone old new
sends_given old new p g.Home (t, v, out, carries, is, taken) = sends_home p.job.ticket (readings p.read p.closed) old new is
sends_given old new p (g.Stale id) (t, out, of, gone, is) = sends_step (s.Return p.job.ticket) old new refl refl is
sends_given old new p (g.NotOut n) (number, out, is) = sends_same old new is
sends_given old new p (g.Differs lent back) (t, v, out, carries, was, is, same, rest) = sends_step (s.Return p.job.ticket) old new refl refl same

-- ---- the stages

pub sends_gathered : (old new : Running) (count : ℕ) (pairs : List (ℕ × ℕ)) → GivesBack old new count pairs → SendsNone old new
sends_gathered old new count pairs none_back = sends_same old old refl
sends_gathered old new count pairs (one_back c d n before lesson p given back learned is) =
    sends_then old c d (sends_gathered old c n before back) (sends_given c d p given is)

sends_rolls : (old new : Running) → Rolls old new → SendsNone old new
sends_rolls old new none_rolled = sends_same old old refl
sends_rolls old new (one_rolled c d id rolls first done) = sends_then old c d (sends_rolls old c rolls) (sends_step (s.Roll id) c d refl refl done.1)

sends_finishes : (old new : Running) (all : List Emitted) → Finishes old new all → SendsNone old new
sends_finishes old new all none_finished = sends_same old old refl
sends_finishes old new all (one_finished c d before finished finishes told done) =
    sends_then old c d (sends_finishes old c before finishes) (sends_step s.Finish c d refl refl done.1)

sends_plants : (old new : Running) → Plants old new → SendsNone old new
sends_plants old new (inl done) = sends_step (s.Spawn None []) old new refl refl done.1
sends_plants old new (inr none) = sends_same old new none.1

pub sends_tidied : (old new : Running) (finished : List Emitted) → TidiedUp old new finished → SendsNone old new
sends_tidied old new finished t =
    sends_then old t.rolled new (sends_rolls old t.rolled t.rolls)
    (sends_then t.rolled t.done new (sends_finishes t.rolled t.done finished t.finishes) (sends_plants t.done new t.plants))
