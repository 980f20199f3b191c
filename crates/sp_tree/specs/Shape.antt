-- What hangs below a version, without the places in memory where it lies. No public clause cites this.
use Rattle.std.specs.Prelude.{ℕ, ◌+◌, ◌==◌, ◌&&◌, Bool, true, false, not, List, [], ◌∷◌, ◌++◌, filter, if◌then◌else◌}
use Rattle.sp_base.specs.Numbers.{is_among}
use Rattle.sp_group.specs.Deciding.{others, foresaw}
use Rattle.sp_group.specs.declared.outcome.Outcome.{Outcome}
use Rattle.sp_group.specs.declared.outcome.Outcome.TheVariants.{Completed, Abandoned}
use Rattle.sp_tree.specs.declared.vertex.Below as code

-- nothing, a child by its id, or an open group by its run, with what is under its two edges
pub data Shape : Type 0 where
  Nothing : Shape
  Child : (id : ℕ) → Shape
  Group : (run : ℕ) → (completed abandoned : Shape) → Shape

abbrev pub shape_of : code.Below → Shape
shape_of code.Nothing = Nothing
shape_of (code.Child id) = Child id
shape_of (code.Group' p run completed abandoned) = Group run (shape_of completed) (shape_of abandoned)

abbrev pub is_nothing : Shape → Bool
is_nothing Nothing = true
is_nothing (Child id) = false
is_nothing (Group run completed abandoned) = false

-- a group, where something is under one of its edges
abbrev pub vertex : ℕ → Shape → Shape → Shape
vertex run completed abandoned = if is_nothing completed && is_nothing abandoned then Nothing else Group run completed abandoned

-- the children whose label has the run, and those whose label lacks it
abbrev pub having : ℕ → List (List ℕ × ℕ) → List (List ℕ × ℕ)
having run children = filter (λ c. is_among c.0 run) children

abbrev pub lacking : ℕ → List (List ℕ × ℕ) → List (List ℕ × ℕ)
lacking run children = filter (λ c. not (is_among c.0 run)) children

-- What hangs below a version with these open groups and these children, each with its label and its id: along each way the groups by rising
-- run, with the children behind the last one whose labels take this way.
abbrev pub built : List ℕ → List (List ℕ × ℕ) → Shape
built [] [] = Nothing
built [] (c ∷ cs) = Child c.1
built (g ∷ gs) cs = vertex g (built gs (having g cs)) (built gs (lacking g cs))

-- where more groups are open: what stood at the place of a new one is under its abandon edge
abbrev pub filled : List ℕ → Shape → Shape
filled [] s = s
filled (g ∷ gs) Nothing = Nothing
filled (g ∷ gs) (Child id) = Group g Nothing (filled gs (Child id))
filled (g ∷ gs) (Group run completed abandoned) =
    if run == g then Group run (filled gs completed) (filled gs abandoned)
    else Group g Nothing (filled gs (Group run completed abandoned))

-- how many vertices that takes
abbrev pub unfilled : List ℕ → Shape → ℕ
unfilled [] s = 0
unfilled (g ∷ gs) Nothing = 0
unfilled (g ∷ gs) (Child id) = 1 + unfilled gs (Child id)
unfilled (g ∷ gs) (Group run completed abandoned) =
    if run == g then unfilled gs completed + unfilled gs abandoned
    else 1 + unfilled gs (Group run completed abandoned)

-- a group with something under one edge alone, the one that the label takes
abbrev pub one_edge : List ℕ → ℕ → Shape → Shape
one_edge label g s = if is_among label g then Group g s Nothing else Group g Nothing s

-- with a child at the end of the way that its label takes through the open groups
abbrev pub planted : List ℕ → List ℕ → ℕ → Shape → Shape
planted [] label id s = Child id
planted (g ∷ gs) label id Nothing = one_edge label g (planted gs label id Nothing)
planted (g ∷ gs) label id (Child other) = one_edge label g (planted gs label id Nothing)
planted (g ∷ gs) label id (Group run completed abandoned) =
    if is_among label g then Group run (planted gs label id completed) abandoned
    else Group run completed (planted gs label id abandoned)

-- how many vertices that takes
abbrev pub unplanted : List ℕ → List ℕ → Shape → ℕ
unplanted [] label s = 0
unplanted (g ∷ gs) label Nothing = 1 + unplanted gs label Nothing
unplanted (g ∷ gs) label (Child other) = 1 + unplanted gs label Nothing
unplanted (g ∷ gs) label (Group run completed abandoned) =
    if is_among label g then unplanted gs label completed else unplanted gs label abandoned

-- what is under an edge
abbrev pub under : Outcome → Shape → Shape → Shape
under Completed completed abandoned = completed
under Abandoned completed abandoned = abandoned

-- where a group is decided: what is under its right edge is in its place
abbrev pub cut : ℕ → Outcome → Shape → Shape
cut run outcome Nothing = Nothing
cut run outcome (Child id) = Child id
cut run outcome (Group r completed abandoned) =
    if r == run then under outcome completed abandoned
    else vertex r (cut run outcome completed) (cut run outcome abandoned)

-- where the child at the end of a label's way has another id
abbrev pub renumbered : List ℕ → ℕ → Shape → Shape
renumbered label id Nothing = Nothing
renumbered label id (Child old) = Child id
renumbered label id (Group run completed abandoned) =
    if is_among label run then Group run (renumbered label id completed) abandoned
    else Group run completed (renumbered label id abandoned)

-- the children that are there
abbrev pub ids_below : Shape → List ℕ
ids_below Nothing = []
ids_below (Child id) = id ∷ []
ids_below (Group run completed abandoned) = ids_below completed ++ ids_below abandoned

-- the children of a version whose group is decided: those whose labels foresaw it, which lose the group
abbrev pub children_decided : ℕ → Outcome → List (List ℕ × ℕ) → List (List ℕ × ℕ)
children_decided run outcome [] = []
children_decided run outcome (c ∷ cs) =
    if foresaw run outcome c.0 then (others run c.0, c.1) ∷ children_decided run outcome cs else children_decided run outcome cs

-- children but the one of this id
abbrev pub children_but : ℕ → List (List ℕ × ℕ) → List (List ℕ × ℕ)
children_but id children = filter (λ c. not (c.1 == id)) children

-- the edges on a label's way
abbrev pub way : List ℕ → Shape → List (ℕ × Outcome)
way label Nothing = []
way label (Child id) = []
way label (Group run completed abandoned) = if is_among label run then (run, Completed) ∷ way label completed else (run, Abandoned) ∷ way label abandoned
