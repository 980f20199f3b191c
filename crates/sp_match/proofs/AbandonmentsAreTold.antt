-- The abandonments told of moves are those of the runs that are gone after them.
use Rattle.std.proofs.Common.{◌≡◌, ℕ, ◌+◌, ◌<◌, ◌≤◌, ◌⊎◌, inl, inr, ⊎_elim, Bool, true, false, cond, not, ◌||◌, ◌==◌, List, [], ◌∷◌, map, refl, sym, ap, ◌∙◌, subst, arith}
use Rattle.std.specs.List.{filter, list_any}
use Rattle.std.proofs.lemmas.Bool.Decides.{nat_tests}
use Rattle.std.proofs.lemmas.List.Folds.{list_any-append}
use Rattle.sp_plan.specs.declared.plan.Plan.{Plan}
use Rattle.sp_plan.specs.Runs.{Started, State}
use Rattle.sp_plan.specs.Moves.{Move, Opened, Grown, Completed, Abandoned, is_run, without_run, abandoned, abandons, apply, apply_all, moves, closing, tell, told}
use Rattle.sp_match.specs.public.Laws.{Sound, Leads, is_open, is_matched, is_abandonment, IsGone, AbandonmentsAreTold}
use Rattle.sp_match.proofs.MovesAreHandling.{ordered_rises, moves_are_handling}
use Rattle.sp_match.proofs.RunsAreSound.{sound_moved}
use Rattle.sp_match.proofs.GroupsGrow.{or_left, or_right, apart, without_there, with_pair_there}
use Rattle.sp_match.proofs.MovesLeadOn.{there_given, either, moves_lead_on}
use Rattle.sp_match.proofs.MovesNameOpenRuns.{NamesOpen, Proper, proper_moves}

-- whether an abandonment is told doesn't depend on the runs before it
told_abandons : (q : Plan) (s : State) (ms : List Move) (r : ℕ) → list_any (is_abandonment r) (told q s ms) ≡ list_any (abandons r) ms
told_abandons q s [] r = refl
told_abandons q s (m ∷ ms) r = λ i. one m i || told_abandons q (apply s m) ms r i
  where
    one : (m : Move) → is_abandonment r (tell q s m) ≡ abandons r m
    one Opened = refl
    one (Grown n pair) = refl
    one (Completed n) = refl
    one (Abandoned n) = refl

-- where the run of another number is taken away
others_stay : (r x : ℕ) (xs : List Started) → (r == x) ≡ false → list_any (is_run x) (without_run r xs) ≡ list_any (is_run x) xs
others_stay r x [] other = refl
others_stay r x (y ∷ ys) other = one (is_run r y) refl (others_stay r x ys other)
  where
    one : (b : Bool) → is_run r y ≡ b → list_any (is_run x) (without_run r ys) ≡ list_any (is_run x) ys
        → list_any (is_run x) (cond (not b) (y ∷ without_run r ys) (without_run r ys)) ≡ list_any (is_run x) (y ∷ ys)
    one true is rest = let differs : is_run x y ≡ false = grind (arith, nat_tests) in rw differs rest
    one false is rest = ap (λ (b : Bool). is_run x y || b) rest

-- the run of a number alone
own_stays : (r : ℕ) (xs : List Started) → list_any (is_run r) (filter (is_run r) xs) ≡ list_any (is_run r) xs
own_stays r [] = refl
own_stays r (y ∷ ys) = one (is_run r y) refl (own_stays r ys)
  where
    one : (b : Bool) → is_run r y ≡ b → list_any (is_run r) (filter (is_run r) ys) ≡ list_any (is_run r) ys
        → list_any (is_run r) (cond b (y ∷ filter (is_run r) ys) (filter (is_run r) ys)) ≡ (b || list_any (is_run r) ys)
    one true is rest = or_left (is_run r y) (list_any (is_run r) (filter (is_run r) ys)) is
    one false is rest = rest

-- what doesn't hold
is_not : (b : Bool) → (b ≡ true → ⊥) → b ≡ false
is_not true none = absurd (none refl)
is_not false none = refl

-- an open run that a move doesn't abandon is open after it, or has matched
lives : (s : State) (m : Move) (r : ℕ) → is_open s r ≡ true → abandons r m ≡ false → (is_open (apply s m) r ≡ true) ⊎ (is_matched (apply s m) r ≡ true)
lives s Opened r opened stays =
    inl (list_any-append (is_run r) s.open_runs ((s.started + 1, []) ∷ []) ∙ or_left (list_any (is_run r) s.open_runs) (list_any (is_run r) ((s.started + 1, []) ∷ [])) opened)
lives s (Grown n pair) r opened stays = inl (with_pair_there n r pair s.open_runs ∙ opened)
lives s (Completed n) r opened stays = one (n == r) refl
  where
    one : (b : Bool) → (n == r) ≡ b → (is_open (apply s (Completed n)) r ≡ true) ⊎ (is_matched (apply s (Completed n)) r ≡ true)
    one true is =
        let same : r ≡ n = grind (arith, nat_tests) in
        let there : list_any (is_run r) (filter (is_run n) s.open_runs) ≡ true = subst (λ (z : ℕ). list_any (is_run r) (filter (is_run z) s.open_runs) ≡ true) same (own_stays r s.open_runs ∙ opened) in
        inr (list_any-append (is_run r) s.matched (filter (is_run n) s.open_runs) ∙ or_right (is_matched s r) (list_any (is_run r) (filter (is_run n) s.open_runs)) there)
    one false is = inl (others_stay n r s.open_runs is ∙ opened)
lives s (Abandoned n) r opened stays = inl (others_stay n r s.open_runs stays ∙ opened)

-- a run that is still to start is open after a move, or still to start
begins : (s : State) (m : Move) (r : ℕ) → s.started < r → (is_open (apply s m) r ≡ true) ⊎ ((apply s m).started < r)
begins s Opened r above = one ((s.started + 1) == r) refl
  where
    one : (b : Bool) → ((s.started + 1) == r) ≡ b → (is_open (apply s Opened) r ≡ true) ⊎ (s.started + 1 < r)
    one true is =
        inl (list_any-append (is_run r) s.open_runs ((s.started + 1, []) ∷ []) ∙ or_right (is_open s r) (list_any (is_run r) ((s.started + 1, []) ∷ [])) (or_left ((s.started + 1) == r) false is))
    one false is = inr (grind (arith, nat_tests))
begins s (Grown n pair) r above = inr above
begins s (Completed n) r above = inr above
begins s (Abandoned n) r above = inr above

-- a match stays
stays_matched : (q : Plan) (t u : State) (r : ℕ) → Leads q t u → is_matched t r ≡ true → is_matched u r ≡ true
stays_matched q t u r leads matched =
    let stays = leads.matched_stays in
    ap (list_any (is_run r)) stays.1 ∙ list_any-append (is_run r) t.matched stays.0 ∙ or_left (is_matched t r) (list_any (is_run r) stays.0) matched

-- a run that is gone stays so
stays_gone : (q : Plan) (t u : State) (r : ℕ) → Leads q t u → r ≤ t.started → is_open t r ≡ false → is_matched t r ≡ false → (is_open u r ≡ false) × (is_matched u r ≡ false)
stays_gone q t u r leads low shut unmatched = (
  is_not (is_open u r) (λ opened. not_open (leads.open_before r opened)),
  is_not (is_matched u r) (λ matched. not_matched (leads.matched_before r matched)),
)
  where
    not_open : ((is_open t r ≡ true) ⊎ (t.started < r)) → ⊥
    not_open (inl opened) = cc
    not_open (inr above) = absurd (omega arith)

    not_matched : ((is_matched t r ≡ true) ⊎ (is_open t r ≡ true) ⊎ (t.started < r)) → ⊥
    not_matched (inl matched) = cc
    not_matched (inr rest) = not_open rest

-- the run that a move abandons is gone after it
leaves_now : (s : State) (m : Move) (r : ℕ) → Sound s → NamesOpen s m → abandons r m ≡ true → (is_open s r ≡ true) × (is_open (apply s m) r ≡ false) × (is_matched (apply s m) r ≡ false)
leaves_now s Opened r sound names leaves = absurd (cc)
leaves_now s (Grown n pair) r sound names leaves = absurd (cc)
leaves_now s (Completed n) r sound names leaves = absurd (cc)
leaves_now s (Abandoned n) r sound names leaves =
    let same : n ≡ r = grind (arith, nat_tests) in
    let opened : is_open s r ≡ true = subst (λ (z : ℕ). is_open s z ≡ true) same names in (
      opened,
      is_not (is_open (apply s (Abandoned n)) r) (λ there. (without_there n r s.open_runs there).0 (sym same)),
      is_not (is_matched s r) (λ matched. apart s r sound opened matched),
    )

-- what was open in between was open before, or started on the way
was_before : (q : Plan) (s t u : State) (r : ℕ) → Sound t → Leads q s t → Leads q t u → ((is_open t r ≡ true) ⊎ ((t.started < r) × (r ≤ u.started)))
    → (is_open s r ≡ true) ⊎ ((s.started < r) × (r ≤ u.started))
was_before q s t u r sound first second (inl opened) =
    let low = there_given t.started r t.open_runs sound.ordered.given opened in
    let grows = second.started_grows in
    ⊎_elim (λ (before : is_open s r ≡ true). inl before) (λ (above : s.started < r). inr (above, omega arith)) (first.open_before r opened)
was_before q s t u r sound first second (inr since) =
    let grows = first.started_grows in
    let above = since.0 in
    inr (omega arith, since.1)

-- a run that is abandoned is gone at the end
gone : (q : Plan) (s : State) (ms : List Move) (r : ℕ) → Sound s → Proper s ms → list_any (abandons r) ms ≡ true → IsGone s (apply_all s ms) r
gone q s [] r sound proper abandoned = absurd (cc)
gone q s (m ∷ ms) r sound proper abandoned =
    let t : State = apply s m in
    let u : State = apply_all t ms in
    let kept : Sound t = sound_moved s m sound in
    let first : Leads q s t = moves_lead_on q s (m ∷ []) sound in
    let second : Leads q t u = moves_lead_on q t ms kept in
    ⊎_elim
    (λ (here : abandons r m ≡ true).
    let now = leaves_now s m r sound proper.0 here in
    let low : r ≤ t.started = let given = there_given s.started r s.open_runs sound.ordered.given now.0 in let grows = first.started_grows in omega arith in
    let end = stays_gone q t u r second low now.1 now.2 in
    record { was = inl now.0; not_open = end.0; not_matched = end.1 })
    (λ (behind : list_any (abandons r) ms ≡ true).
    let rest = gone q t ms r kept proper.1 behind in
    record { was = was_before q s t u r kept first second rest.was; not_open = rest.not_open; not_matched = rest.not_matched })
    (either (abandons r m) (list_any (abandons r) ms) abandoned)

-- a run that is gone at the end and isn't abandoned by the first move is gone by the others
was_after : (q : Plan) (s u : State) (m : Move) (r : ℕ) → Leads q (apply s m) u → is_matched u r ≡ false → abandons r m ≡ false → ((is_open s r ≡ true) ⊎ ((s.started < r) × (r ≤ u.started)))
    → (is_open (apply s m) r ≡ true) ⊎ (((apply s m).started < r) × (r ≤ u.started))
was_after q s u m r leads unmatched stays (inl opened) =
    ⊎_elim (λ (still : is_open (apply s m) r ≡ true). inl still)
    (λ (matched : is_matched (apply s m) r ≡ true). let kept = stays_matched q (apply s m) u r leads matched in absurd (cc)) (lives s m r opened stays)
was_after q s u m r leads unmatched stays (inr since) =
    ⊎_elim (λ (now : is_open (apply s m) r ≡ true). inl now) (λ (above : (apply s m).started < r). inr (above, since.1)) (begins s m r since.0)

-- a run that is gone at the end was abandoned
abandoned_once : (q : Plan) (s : State) (ms : List Move) (r : ℕ) → Sound s → IsGone s (apply_all s ms) r → list_any (abandons r) ms ≡ true
abandoned_once q s [] r sound end = never end.was end.not_open
  where
    never : ((is_open s r ≡ true) ⊎ ((s.started < r) × (r ≤ s.started))) → is_open s r ≡ false → false ≡ true
    never (inl opened) shut = cc
    never (inr since) shut = absurd (omega arith)
abandoned_once q s (m ∷ ms) r sound end =
    let kept : Sound (apply s m) = sound_moved s m sound in
    one (abandons r m) refl (moves_lead_on q (apply s m) ms kept) (abandoned_once q (apply s m) ms r kept)
  where
    one : (b : Bool) → abandons r m ≡ b → Leads q (apply s m) (apply_all (apply s m) ms) → (IsGone (apply s m) (apply_all (apply s m) ms) r → list_any (abandons r) ms ≡ true)
        → (b || list_any (abandons r) ms) ≡ true
    one true is leads rest = refl
    one false is leads rest =
        rest (record { was = was_after q s (apply_all (apply s m) ms) m r leads end.not_matched is end.was; not_open = end.not_open; not_matched = end.not_matched })

-- the closing abandons the open runs
abandons_all : (r : ℕ) (runs : List Started) → list_any (abandons r) (map abandoned runs) ≡ list_any (is_run r) runs
abandons_all r [] = refl
abandons_all r (run ∷ runs) = ap (λ (b : Bool). is_run r run || b) (abandons_all r runs)

-- the law of abandonments
pub abandonments_are_told : AbandonmentsAreTold
abandonments_are_told = record {
  handled = λ q s x r sound.
      let led = moves_are_handling q s x sound.ordered in
      let same = told_abandons q s (moves q s x) r in (
        λ is. subst (λ (t : State). IsGone s t r) led (gone q s (moves q s x) r sound (proper_moves q s x (ordered_rises s sound.ordered)) (sym same ∙ is)),
        λ end. same ∙ abandoned_once q s (moves q s x) r sound (subst (λ (t : State). IsGone s t r) (sym led) end),
      );
  closed = λ q s r. told_abandons q s (closing s) r ∙ abandons_all r s.open_runs;
}
