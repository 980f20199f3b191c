-- What steps that feed nothing do to a core that stands alone.
use Rattle.std.proofs.Common.{◌≡◌, ◌≤◌, false, List, [], ◌∷◌, ◌++◌, refl, sym, ◌∙◌, ap, subst, arith}
use Rattle.std.proofs.Math.Nat.{le_trans}
use Rattle.std.proofs.lemmas.Grind.{flat_map-append}
use Rattle.std.proofs.lemmas.List.{append-nil}
use Rattle.std.proofs.lemmas.List.Elements.{All-nil, All-cons, All-append}
use Rattle.sp_base.specs.Limits.{batch_limit}
use Rattle.sp_plan.specs.declared.event.Event.{Event}
use Rattle.sp_group.specs.declared.step.Entry.{Entry}
use Rattle.sp_group.specs.declared.step.Step.{Step}
use Rattle.sp_group.specs.Effects.{effect}
use Rattle.sp_group.specs.Machine.{Machine}
use Rattle.sp_core.specs.Running.{Running, after, once}
use Rattle.sp_spread.specs.Journaled.{fed, fed_by, makes_child, MakesNoChild}
use Rattle.sp_spread.specs.Limiting.{AsksAtMost, asked_by}
use Rattle.sp_split.specs.Stages.{WentOn, WorkedOn}

-- more entries, none of which makes a version below another
pub no_child_more : (journal more : List Entry) → MakesNoChild journal → MakesNoChild more → MakesNoChild (journal ++ more)
no_child_more journal more first second = All-append (λ (e : Entry). makes_child e.step ≡ false) journal more first second

pub no_child_once : (x : Step) → makes_child x ≡ false → MakesNoChild (once x ∷ [])
no_child_once x is = All-cons (λ (e : Entry). makes_child e.step ≡ false) (once x) [] is (All-nil (λ (e : Entry). makes_child e.step ≡ false))

-- more entries, none of which feeds
pub none_fed : (journal more : List Entry) → fed more ≡ [] → fed (journal ++ more) ≡ fed journal
none_fed journal more none = flat_map-append (λ (e : Entry). fed_by e.step) journal more ∙ ap (λ (l : List Event). fed journal ++ l) none ∙ append-nil (fed journal)

-- the machine has the input of another, and no fewer windows are finished
pub record SameInput (m n : Machine) : Type 0 where
  pub events : n.events ≡ m.events
  pub ended : n.ended ≡ m.ended
  pub finished : m.finished ≤ n.finished

-- more entries, none of which feeds, makes a version below another or asks for more events than a lease may
pub worked_by : (old new : Running) (more : List Entry) → new.plan ≡ old.plan → new.bound ≡ old.bound → new.journal ≡ old.journal ++ more → fed more ≡ [] → MakesNoChild more
    → AsksAtMost batch_limit more → SameInput old.machine new.machine → WorkedOn old new
worked_by old new more plan bound journal none alone asks same = record {
  on = record {
    plan = plan;
    bound = bound;
    fed_are = λ are. ap fed journal ∙ none_fed old.journal more none ∙ are ∙ sym same.events;
    alone = λ before. subst MakesNoChild (sym journal) (no_child_more old.journal more before alone);
    asked = λ before.
        subst (AsksAtMost batch_limit) (sym journal) (All-append (λ (e : Entry). asked_by e.step ≤ batch_limit) old.journal more before asks);
  };
  events = same.events;
  ended = same.ended;
  finished = same.finished;
}

pub asked_once : (x : Step) → asked_by x ≤ batch_limit → AsksAtMost batch_limit (once x ∷ [])
asked_once x most = All-cons (λ (e : Entry). asked_by e.step ≤ batch_limit) (once x) [] most (All-nil (λ (e : Entry). asked_by e.step ≤ batch_limit))

-- a step that feeds nothing, makes no version below another and asks for no more events than a lease may
pub worked_step : (old new : Running) (x : Step) → new ≡ after old x → fed_by x ≡ [] → makes_child x ≡ false → asked_by x ≤ batch_limit
    → SameInput old.machine (effect old.plan old.machine x) → WorkedOn old new
worked_step old new x is none alone most same =
    worked_by old new (once x ∷ []) (ap (λ (c : Running). c.plan) is) (ap (λ (c : Running). c.bound) is) (ap (λ (c : Running). c.journal) is)
    (ap (λ (l : List Event). l ++ []) none) (no_child_once x alone) (asked_once x most) (subst (λ (c : Running). SameInput old.machine c.machine) (sym is) same)

pub worked_none : (old new : Running) → new ≡ old → WorkedOn old new
worked_none old new is =
    worked_by old new [] (ap (λ (c : Running). c.plan) is) (ap (λ (c : Running). c.bound) is) (ap (λ (c : Running). c.journal) is ∙ sym (append-nil old.journal))
    refl (All-nil (λ (e : Entry). makes_child e.step ≡ false)) (All-nil (λ (e : Entry). asked_by e.step ≤ batch_limit)) (subst (λ (c : Running). SameInput old.machine c.machine) (sym is) (record { events = refl; ended = refl; finished = omega arith }))

pub went_on : (a b c : Running) → WentOn a b → WentOn b c → WentOn a c
went_on a b c first second = record {
  plan = second.plan ∙ first.plan;
  bound = second.bound ∙ first.bound;
  fed_are = λ are. second.fed_are (first.fed_are are);
  alone = λ before. second.alone (first.alone before);
  asked = λ before. second.asked (first.asked before);
}

pub worked_more : (a b c : Running) → WorkedOn a b → WorkedOn b c → WorkedOn a c
worked_more a b c first second = record {
  on = went_on a b c first.on second.on;
  events = second.events ∙ first.events;
  ended = second.ended ∙ first.ended;
  finished = le_trans first.finished second.finished;
}
