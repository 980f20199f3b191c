-- Plans that stand for one query are alike, and so have one outcome.
use Rattle.std.proofs.Common.{◌≡◌, ℕ, zero, suc, Bool, true, false, List, [], ◌∷◌, ◌++◌, length, Option, Some, None, refl, sym, ◌∙◌, ap, subst}
use Rattle.std.specs.Prelude.{slice_get}
use Rattle.std.specs.List.{fold}
use Rattle.sp_plan.specs.declared.event.Event.{Event}
use Rattle.sp_plan.specs.declared.plan.Plan.{Plan}
use Rattle.sp_plan.specs.declared.plan.Name.{Name}
use Rattle.sp_plan.specs.declared.plan.Pred.{Pred}
use Rattle.sp_plan.specs.declared.plan.Opening.{Opening}
use Rattle.sp_plan.specs.declared.plan.Opening.TheVariants.{EveryEvents, EveryTime, When}
use Rattle.sp_plan.specs.Lines.{text}
use Rattle.sp_ports.specs.declared.stop.Stop.{Stop}
use Rattle.sp_plan.specs.Sequential.{Progress, whole}
use Rattle.sp_plan.specs.Texts.{with_text}
use Rattle.sp_plan.specs.Values.{BoundEvents, holds}
use Rattle.sp_listing.specs.Listing.{listing_text}
use Rattle.sp_cert.specs.Proofs.{proofs}
use Rattle.sp_query.specs.declared.query.Ident.{Ident}
use Rattle.sp_query.specs.declared.query.Query.{Query}
use Rattle.sp_query.specs.declared.query.QueryOpening.{QueryOpening}
use Rattle.sp_query.specs.declared.query.QueryOpening.TheVariants as o
use Rattle.sp_query.specs.declared.tree.Tree.{Tree, out-Tree}
use Rattle.sp_compile.specs.Checks.{scope_of}
use Rattle.sp_compile.specs.Meaning.{Truth}
use Rattle.sp_compile.specs.Scopes.{Scope, PatternName, pattern_names}
use Rattle.sp_compile.specs.Stands.{Literals, none, some, literal_of, all_trees, StandsForDefinition, StandForNames, StandsForOpening, Stands, definition_of}
use Rattle.sp_commands.specs.Alike.{Alike, HoldAlike, NamesAlike, OpeningsAlike, PlansMatchAlike, PlansRunAlike}
use Rattle.sp_answer.specs.Outcome.{outcome}
use Rattle.sp_commands.specs.Ends.{Came, CameFrom, came, came_within, late_status, status_of, reading_outcome}
use Rattle.sp_commands.specs.Run.{text_by, told_outcome}
use Rattle.sp_ports.specs.Stopping.{is_end}
use Rattle.sp_slack.specs.HeldBack.{slacked}
use Rattle.sp_intake.specs.Loose.{Lateness, Loose}
use Rattle.sp_intake.specs.Reading.{Reading, stop_of}
use Rattle.sp_commands.proofs.Alike.{read_same, loose_same, whole_same, lines_same}
use Rattle.sp_commands.proofs.AlikeListings.{proofs_same, listing_text_same}

-- trees have one list of texts
one_literals : (trees : List Tree) (a b : List (List ℕ)) → Literals trees a → Literals trees b → a ≡ b
one_literals _ _ _ none none = refl
one_literals (_ ∷ _) _ _ (some t rest own others texts parts more is) (some _ _ own' others' texts' parts' more' is') =
    is ∙ (λ i. literal_of (out-Tree t).node ++ (one_literals (out-Tree t).parts own own' parts parts' i ++ one_literals rest others others' more more' i)) ∙ sym is'

-- what predicates of plans are, given what trees mean
abbrev pub OneTruth : Type 0
OneTruth = (scope : Scope) (texts : List (List ℕ)) (event : Event) (bound : BoundEvents) (tree : Tree) (one other : Bool) → Truth scope texts event bound tree one → Truth scope texts event bound tree other → one ≡ other

opening_itself : (x : Opening) → OpeningsAlike x x
opening_itself (When p) = λ e b. refl
opening_itself (EveryEvents n) = refl
opening_itself (EveryTime s) = refl

module _ (truth : OneTruth) (query : Query) (texts : List (List ℕ)) where
  definition_alike : (name : PatternName) (d : Option (Ident × Tree)) (p r : Pred) → StandsForDefinition query texts name d p → StandsForDefinition query texts name d r → HoldAlike p r
  definition_alike name None p r first second = λ e b. ap (λ (x : Pred). holds x e b) (first ∙ sym second)
  definition_alike name (Some define) p r first second = λ e b. truth (scope_of query (Some name)) texts e b define.1 (holds p e b) (holds r e b) (first e b) (second e b)

  names_alike : (names : List (PatternName)) (xs ys : List Name) → StandForNames query texts names xs → StandForNames query texts names ys → (i : ℕ) → NamesAlike (slice_get xs i) (slice_get ys i)
  names_alike [] [] [] first second i = tt
  names_alike [] [] (y ∷ ys) first second i = absurd second
  names_alike [] (x ∷ xs) ys first second i = absurd first
  names_alike (name ∷ names) [] ys first second i = absurd first
  names_alike (name ∷ names) (x ∷ xs) [] first second i = absurd second
  names_alike (name ∷ names) (x ∷ xs) (y ∷ ys) first second zero =
      (first.0.text ∙ sym second.0.text, first.0.consumed ∙ sym second.0.consumed, definition_alike name (definition_of query name.name.text) x.pred y.pred first.0.pred second.0.pred)
  names_alike (name ∷ names) (x ∷ xs) (y ∷ ys) first second (suc i) = names_alike names xs ys first.1 second.1 i

  count_alike : (names : List (PatternName)) (xs ys : List Name) → StandForNames query texts names xs → StandForNames query texts names ys → length xs ≡ length ys
  count_alike [] [] [] first second = refl
  count_alike [] [] (y ∷ ys) first second = absurd second
  count_alike [] (x ∷ xs) ys first second = absurd first
  count_alike (name ∷ names) [] ys first second = absurd first
  count_alike (name ∷ names) (x ∷ xs) [] first second = absurd second
  count_alike (name ∷ names) (x ∷ xs) (y ∷ ys) first second = ap suc (count_alike names xs ys first.1 second.1)

  openings_alike : (opening : QueryOpening) (x y : Opening) → StandsForOpening query texts opening x → StandsForOpening query texts opening y → OpeningsAlike x y
  openings_alike (o.Every number unit span) x y first second = subst (OpeningsAlike x) (first ∙ sym second) (opening_itself x)
  openings_alike (o.When tree) (When p) (When r) first second = λ e b. truth (scope_of query None) texts e b tree (holds p e b) (holds r e b) (first e b) (second e b)
  openings_alike (o.When tree) (When p) (EveryEvents n) first second = absurd second
  openings_alike (o.When tree) (When p) (EveryTime s) first second = absurd second
  openings_alike (o.When tree) (EveryEvents n) y first second = absurd first
  openings_alike (o.When tree) (EveryTime s) y first second = absurd first

module _ (truth : OneTruth) (query : Query) (x y : Plan) (first : Stands x query) (second : Stands y query) where
  texts_alike : x.texts ≡ y.texts
  texts_alike = first.texts ∙ ap (fold with_text []) (one_literals (all_trees query) first.literals second.literals first.of_trees second.of_trees) ∙ sym second.texts

  pub stand_alike : Alike x y
  stand_alike =
      let names = subst (λ (texts : List (List ℕ)). StandForNames query texts (pattern_names query) y.names) (sym texts_alike) second.names in
      let opening = subst (λ (texts : List (List ℕ)). StandsForOpening query texts query.opening y.opening) (sym texts_alike) second.opening in
      record {
        schema = λ i. record { columns = (first.columns ∙ sym second.columns) i; time = (first.time ∙ sym second.time) i };
        texts = texts_alike;
        count = count_alike truth query x.texts (pattern_names query) x.names y.names first.names names;
        names = names_alike truth query x.texts (pattern_names query) x.names y.names first.names names;
        elements = first.elements ∙ sym second.elements;
        select = first.select ∙ sym second.select;
        length_is = first.length ∙ sym second.length;
        opening = openings_alike truth query x.texts query.opening x.opening y.opening first.opening opening;
      }

-- alike plans have one outcome, where their texts are one
pub outcome_by : (one other : CameFrom) (T U : List Event → Stop → List ℕ) → ((bytes : List ℕ) (ended : Bool) → one bytes ended ≡ other bytes ended) → ((events : List Event) (stop : Stop) → T events stop ≡ U events stop)
    → (bytes : List ℕ) (ended : Bool) → reading_outcome one T bytes ended ≡ reading_outcome other U bytes ended
outcome_by one other T U came same bytes ended =
    let c = other bytes ended in
    ap (λ (x : Came). outcome x.status (T x.events x.stop)) (came bytes ended) ∙ ap (outcome c.status) (same c.events c.stop)

module _ (x y : Plan) (alike : Alike x y) where
  pub came_same : (bytes : List ℕ) (ended : Bool) → came x bytes ended ≡ came y bytes ended
  came_same bytes ended = ap (λ (r : Reading). let c : Came = record { events = r.events; stop = stop_of r ended; status = status_of (stop_of r ended) } in c) (read_same x y alike bytes ended)

  within_same : (l : Lateness) (bytes : List ℕ) (ended : Bool) → came_within x l bytes ended ≡ came_within y l bytes ended
  within_same l bytes ended =
      ap (λ (r : Loose).
      let stop = stop_of r.reading ended in
      let c : Came = record { events = slacked l.slack r.reading.events (is_end stop); stop = stop; status = late_status l.rule r.late stop } in c)
      (loose_same x y alike l bytes ended)

  pub text_same : (proof : Bool) (events : List Event) (stop : Stop) → text_by proof x events stop ≡ text_by proof y events stop
  text_same false events stop = lines_same x y alike (whole x events (is_end stop)).matches ∙ ap (λ (w : Progress). text y w.matches) (whole_same x y alike events (is_end stop))
  text_same true events stop = listing_text_same x y alike (proofs x events (is_end stop)) ∙ ap (listing_text y) (proofs_same x y alike events (is_end stop))

  alike_run : (proof : Bool) (l : Lateness) (bytes : List ℕ) (ended : Bool) → told_outcome (text_by proof) x l bytes ended ≡ told_outcome (text_by proof) y l bytes ended
  alike_run proof l = outcome_by (came_within x l) (came_within y l) (text_by proof x) (text_by proof y) (within_same l) (text_same proof)

pub plans_run_alike : OneTruth → PlansRunAlike
plans_run_alike truth query x y first second = alike_run x y (stand_alike truth query x y first.stands second.stands)

pub plans_match_alike : OneTruth → PlansMatchAlike
plans_match_alike truth query x y first second =
    let alike = stand_alike truth query x y first.stands second.stands in
    (alike.schema, whole_same x y alike)
