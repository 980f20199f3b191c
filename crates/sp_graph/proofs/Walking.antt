-- The matches taken one after another.
use Rattle.std.proofs.Common.{◌≡◌, ℕ, ◌+◌, ◌<◌, true, false, ◌==◌, List, [], ◌∷◌, ◌++◌, length, get_or, take, drop, Some, None, refl, sym, ◌∙◌, ap, subst, take-append-drop}
use Rattle.std.specs.Prelude.{Option, is_some}
use Rattle.std.specs.List.{fold, list_any}
use Rattle.std.proofs.lemmas.List.{take_more}
use Rattle.std.proofs.lemmas.List.Sums.{fold-append}
use Rattle.sp_base.specs.Limits.{event_limit, number_limit}
use Rattle.sp_plan.specs.declared.event.Event.{Event}
use Rattle.sp_plan.specs.declared.event.Value.{Value}
use Rattle.sp_plan.specs.declared.plan.Column.{Column}
use Rattle.sp_plan.specs.declared.plan.Expr.{Expr}
use Rattle.sp_plan.specs.declared.plan.Plan.{Plan}
use Rattle.sp_plan.specs.declared.found.Match.{Match}
use Rattle.sp_plan.specs.Values.{BoundEvents}
use Rattle.sp_graph.specs.Answers.{IsMade}
use Rattle.sp_graph.specs.Tables.{last_of_each}
use Rattle.sp_graph.proofs.Fitting.{AreGood, derived_good}
use Rattle.sp_graph.proofs.LastBound.{given_by_last}
use Rattle.sp_graph.specs.Derived.{Deriving, bound_of, derived, event_of, given, is_past, start, stopped_by, with_match}

-- no limit was passed yet
abbrev pub going : List Event → List (List ℕ) → Deriving
going events known = record { events = events; texts = known; limit = None }

module _ (returns : List Expr) (events : List Event) (texts : List (List ℕ)) (second : Plan) where
  -- behind a limit no match counts
  stays : (d : Deriving) (ms : List Match) → is_some d.limit ≡ true → fold (with_match returns events texts second) d ms ≡ d
  stays d [] stopped = refl
  stays d (m ∷ ms) stopped = rw stopped (stays d ms stopped)

  module _ (ms : List Match) (i : ℕ) (m : Match) (inside : i < length ms) (here : m ≡ get_or ms i m) (d : Deriving)
      (is : d ≡ derived returns events texts second (take i ms)) where
    -- one match more
    one_more : (e : Deriving) → with_match returns events texts second d m ≡ e → e ≡ derived returns events texts second (take (i + 1) ms)
    one_more e next =
        sym next ∙ (λ j. with_match returns events texts second (is j) m)
        ∙ sym (ap (derived returns events texts second) (take_more ms i m inside ∙ ap (λ (x : Match). take i ms ++ x ∷ []) (sym here))
        ∙ fold-append (with_match returns events texts second) (start second) (take i ms) (m ∷ []))

    -- one that passes a limit ends it
    ended : (e : Deriving) → with_match returns events texts second d m ≡ e → is_some e.limit ≡ true → derived returns events texts second ms ≡ e
    ended e next stopped =
        sym (ap (derived returns events texts second) (take-append-drop (i + 1) ms))
        ∙ fold-append (with_match returns events texts second) (start second) (take (i + 1) ms) (drop (i + 1) ms)
        ∙ ap (λ (f : Deriving). fold (with_match returns events texts second) f (drop (i + 1) ms)) (sym (one_more e next))
        ∙ stays e (drop (i + 1) ms) stopped

  module _ (own : List Event) (known : List (List ℕ)) (m : Match) where
    -- a value of it is past the limit
    value_past : list_any is_past (given second.schema.columns returns (bound_of events m)) ≡ true
        → with_match returns events texts second (going own known) m ≡ stopped_by (going own known) number_limit
    value_past past = rw past refl

    -- there are as many events as may be
    events_full : list_any is_past (given second.schema.columns returns (bound_of events m)) ≡ false → (length own == event_limit) ≡ true
        → with_match returns events texts second (going own known) m ≡ stopped_by (going own known) event_limit
    events_full within full = rw (within, full) refl

    -- it gives an event
    event_given : (e : Event) (after : List (List ℕ)) → list_any is_past (given second.schema.columns returns (bound_of events m)) ≡ false
        → (length own == event_limit) ≡ false → (e, after) ≡ event_of texts known (given second.schema.columns returns (bound_of events m))
        → with_match returns events texts second (going own known) m ≡ going (own ++ e ∷ []) after
    event_given e after within room made = rw (within, room) (λ j. going (own ++ (sym made j).0 ∷ []) (sym made j).1)

-- ---- all events

-- are good
pub all_are_good : (returns : List Expr) (events : List Event) (texts : List (List ℕ)) (second : Plan) (ms : List Match) (own : List Event)
    → length returns ≡ length second.schema.columns → own ≡ (derived returns events texts second ms).events → AreGood second own
all_are_good returns events texts second ms own sizes is = subst (AreGood second) (sym is) (derived_good returns events texts second sizes ms)

-- ---- what was made of a match

-- what a match gives over the last event of each name
values_are : (columns : List Column) (returns : List Expr) (events : List Event) (m : Match) (bound : BoundEvents) → bound ≡ last_of_each events m.bound
    → given columns returns bound ≡ given columns returns (bound_of events m)
values_are columns returns events m bound last = (λ j. given columns returns (last j)) ∙ given_by_last columns returns events m.bound

none_made : (texts known after : List (List ℕ)) (values own : List Value) (o : Option Event) → IsMade texts known values o after → values ≡ own → o ≡ None
    → list_any is_past own ≡ true
none_made texts known after values own o is same none = ap (list_any is_past) (sym same) ∙ subst (λ (o : Option Event). IsMade texts known values o after) none is

one_made : (texts known after : List (List ℕ)) (values own : List Value) (o : Option Event) (e : Event) → IsMade texts known values o after → values ≡ own → o ≡ Some e
    → (list_any is_past own ≡ false) × ((e, after) ≡ event_of texts known own)
one_made texts known after values own o e is same some =
    subst (λ (l : List Value). IsMade texts known l (Some e) after) same (subst (λ (o : Option Event). IsMade texts known values o after) some is)

-- ---- a match, by what was made of it

module _ (returns : List Expr) (events : List Event) (texts : List (List ℕ)) (second : Plan) (ms : List Match) (i : ℕ) (m : Match) (inside : i < length ms)
    (here : m ≡ get_or ms i m) (own : List Event) (known : List (List ℕ)) (is : going own known ≡ derived returns events texts second (take i ms)) (bound : BoundEvents)
    (last : bound ≡ last_of_each events m.bound) (after : List (List ℕ)) (o : Option Event) (made : IsMade texts known (given second.schema.columns returns bound) o after) where
  values : given second.schema.columns returns bound ≡ given second.schema.columns returns (bound_of events m)
  values = values_are second.schema.columns returns events m bound last

  one : (e : Event) → o ≡ Some e
      → (list_any is_past (given second.schema.columns returns (bound_of events m)) ≡ false) × ((e, after) ≡ event_of texts known (given second.schema.columns returns (bound_of events m)))
  one e some = one_made texts known after (given second.schema.columns returns bound) (given second.schema.columns returns (bound_of events m)) o e made values some

  -- no event of it is made
  pub past_ends : o ≡ None → derived returns events texts second ms ≡ stopped_by (going own known) number_limit
  past_ends none =
      let past = none_made texts known after (given second.schema.columns returns bound) (given second.schema.columns returns (bound_of events m)) o made values none in
      ended returns events texts second ms i m inside here (going own known) is (stopped_by (going own known) number_limit) (value_past returns events texts second own known m past) refl

  -- its event is one too many
  pub full_ends : (e : Event) → o ≡ Some e → (length own == event_limit) ≡ true → derived returns events texts second ms ≡ stopped_by (going own known) event_limit
  full_ends e some full =
      ended returns events texts second ms i m inside here (going own known) is (stopped_by (going own known) event_limit)
      (events_full returns events texts second own known m (one e some).0 full) refl

  -- its event is added
  pub goes_on : (e : Event) → o ≡ Some e → (length own == event_limit) ≡ false → going (own ++ e ∷ []) after ≡ derived returns events texts second (take (i + 1) ms)
  goes_on e some room =
      let all = one e some in
      one_more returns events texts second ms i m inside here (going own known) is (going (own ++ e ∷ []) after) (event_given returns events texts second own known m e after all.0 room all.1)
