-- Moves lead on, whatever they are.
use Rattle.std.proofs.Common.{◌≡◌, ℕ, ◌+◌, ◌<◌, ◌≤◌, ◌⊎◌, inl, inr, ⊎_elim, Bool, true, false, ◌||◌, ◌==◌, List, [], ◌∷◌, ◌++◌, refl, sym, ap, ◌∙◌, subst, append_assoc, arith}
use Rattle.std.specs.List.{All, filter, list_any}
use Rattle.std.proofs.lemmas.Bool.Decides.{nat_tests}
use Rattle.std.proofs.lemmas.List.{append-nil}
use Rattle.std.proofs.lemmas.List.Elements.{All-head, All-tail}
use Rattle.std.proofs.lemmas.List.Folds.{list_any-append}
use Rattle.sp_base.specs.Numbers.{is_among}
use Rattle.sp_plan.specs.declared.plan.Plan.{Plan}
use Rattle.sp_plan.specs.Runs.{Pair, Started, State}
use Rattle.sp_plan.specs.Moves.{Move, Opened, Grown, Completed, Abandoned, is_run, apply, apply_all, moves, closing}
use Rattle.sp_match.specs.public.Laws.{Sound, Leads, is_open, is_matched, group, used_by, MovesLeadOn, HandlingIsLawful}
use Rattle.sp_match.proofs.MovesAreHandling.{IsGiven, moves_are_handling}
use Rattle.sp_match.proofs.ClosingEndsRuns.{closing_ends_runs}
use Rattle.sp_match.proofs.RunsAreSound.{sound_moved, sound_all, sound_handled}
use Rattle.sp_match.proofs.GroupsGrow.{in_group, group_append, or_left, or_right, group_there, apart, without_there, without_group, own_there, own_group, with_pair_there, with_pair_group}

-- the number of a run that is there was given
pub there_given : (n r : ℕ) (xs : List Started) → All (IsGiven n) xs → list_any (is_run r) xs ≡ true → r ≤ n
there_given n r [] given there = absurd (cc)
there_given n r (x ∷ xs) given there = one (is_run r x) refl there (there_given n r xs (All-tail (IsGiven n) x xs given))
  where
    one : (b : Bool) → is_run r x ≡ b → (b || list_any (is_run r) xs) ≡ true → (list_any (is_run r) xs ≡ true → r ≤ n) → r ≤ n
    one true is there rest = let here = (All-head (IsGiven n) x xs given).1 in let same : x.0 ≡ r = grind (arith, nat_tests) in omega arith
    one false is there rest = rest there

group_given : (q : Plan) (s : State) (r i : ℕ) → Sound s → is_among (group q s r) i ≡ true → r ≤ s.started
group_given q s r i sound among = there_given s.started r s.open_runs sound.ordered.given (group_there q s.open_runs r i among)

-- no run with a group has matched
group_apart : (q : Plan) (s : State) (r i : ℕ) → Sound s → is_matched s r ≡ true → is_among (group q s r) i ≡ true → ⊥
group_apart q s r i sound matched among = apart s r sound (group_there q s.open_runs r i among) matched

-- an or that holds
pub either : (a b : Bool) → (a || b) ≡ true → (a ≡ true) ⊎ (b ≡ true)
either true b holds = inl refl
either false b holds = inr holds

there_either : (xs ys : List Started) (r : ℕ) → list_any (is_run r) (xs ++ ys) ≡ true → (list_any (is_run r) xs ≡ true) ⊎ (list_any (is_run r) ys ≡ true)
there_either xs ys r there = either (list_any (is_run r) xs) (list_any (is_run r) ys) (sym (list_any-append (is_run r) xs ys) ∙ there)

-- nothing done leads on
pub leads_same : (q : Plan) (s : State) → Sound s → Leads q s s
leads_same q s sound = record {
  matched_stays = ([], sym (append-nil s.matched));
  group_grows = λ r i there among. among;
  match_contains = λ r i matched among. absurd (group_apart q s r i sound matched among);
  started_grows = omega arith;
  open_before = λ r there. inl there;
  matched_before = λ r matched. inl matched;
}

-- what leads on twice leads on
module _ (q : Plan) (s t u : State) (sound : Sound s) (first : Leads q s t) (second : Leads q t u) where
  -- a run with a group is open in between
  mid_open : (r i : ℕ) → is_open u r ≡ true → is_among (group q s r) i ≡ true → is_open t r ≡ true
  mid_open r i there among =
      let low = group_given q s r i sound among in
      let grows = first.started_grows in
      ⊎_elim (λ (before : is_open t r ≡ true). before) (λ (above : t.started < r). absurd (omega arith)) (second.open_before r there)

  -- what a match has used stays used
  stays_used : (r i : ℕ) → is_among (used_by q t r) i ≡ true → is_among (used_by q u r) i ≡ true
  stays_used r i among =
      let stays = second.matched_stays in
      ap (λ (runs : List Started). in_group q runs r i) stays.1 ∙ group_append q t.matched stays.0 r i
      ∙ or_left (in_group q t.matched r i) (in_group q stays.0 r i) among

  contains : (r i : ℕ) → is_matched u r ≡ true → is_among (group q s r) i ≡ true → is_among (used_by q u r) i ≡ true
  contains r i matched among =
      let low = group_given q s r i sound among in
      let grows = first.started_grows in
      ⊎_elim (λ (before : is_matched t r ≡ true). stays_used r i (first.match_contains r i before among))
      (λ (rest : (is_open t r ≡ true) ⊎ (t.started < r)).
      ⊎_elim (λ (before : is_open t r ≡ true). second.match_contains r i matched (first.group_grows r i before among)) (λ (above : t.started < r). absurd (omega arith)) rest)
      (second.matched_before r matched)

  opened : (r : ℕ) → is_open u r ≡ true → (is_open s r ≡ true) ⊎ (s.started < r)
  opened r there =
      let grows = first.started_grows in
      ⊎_elim (λ (before : is_open t r ≡ true). first.open_before r before) (λ (above : t.started < r). inr (omega arith)) (second.open_before r there)

  ended : (r : ℕ) → is_matched u r ≡ true → (is_matched s r ≡ true) ⊎ (is_open s r ≡ true) ⊎ (s.started < r)
  ended r matched =
      let grows = first.started_grows in
      ⊎_elim (λ (before : is_matched t r ≡ true). first.matched_before r before)
      (λ (rest : (is_open t r ≡ true) ⊎ (t.started < r)).
      ⊎_elim (λ (before : is_open t r ≡ true). inr (first.open_before r before)) (λ (above : t.started < r). inr (inr (omega arith))) rest)
      (second.matched_before r matched)

  pub leads_on : Leads q s u
  leads_on = record {
    matched_stays = (
      first.matched_stays.0 ++ second.matched_stays.0,
      second.matched_stays.1 ∙ ap (λ (runs : List Started). runs ++ second.matched_stays.0) first.matched_stays.1
          ∙ append_assoc s.matched first.matched_stays.0 second.matched_stays.0,
    );
    group_grows = λ r i there among. second.group_grows r i there (first.group_grows r i (mid_open r i there among) among);
    match_contains = contains;
    started_grows = let x = first.started_grows in let y = second.started_grows in omega arith;
    open_before = opened;
    matched_before = ended;
  }

-- each move
opened_leads : (q : Plan) (s : State) → Sound s → Leads q s (apply s Opened)
opened_leads q s sound = record {
  matched_stays = ([], sym (append-nil s.matched));
  group_grows = λ r i there among. group_append q s.open_runs ((s.started + 1, []) ∷ []) r i
      ∙ or_left (in_group q s.open_runs r i) (in_group q ((s.started + 1, []) ∷ []) r i) among;
  match_contains = λ r i matched among. absurd (group_apart q s r i sound matched among);
  started_grows = omega arith;
  open_before = λ r there. ⊎_elim (λ (before : is_open s r ≡ true). inl before) (λ (new : list_any (is_run r) ((s.started + 1, []) ∷ []) ≡ true). inr (above r new))
      (there_either s.open_runs ((s.started + 1, []) ∷ []) r there);
  matched_before = λ r matched. inl matched;
}
  where
    above : (r : ℕ) → (((s.started + 1) == r) || false) ≡ true → s.started < r
    above r new = one ((s.started + 1) == r) refl new
      where
        one : (b : Bool) → ((s.started + 1) == r) ≡ b → (b || false) ≡ true → s.started < r
        one true is new = let same : s.started + 1 ≡ r = grind (arith, nat_tests) in omega arith
        one false is new = absurd (cc)

grown_leads : (q : Plan) (s : State) (n : ℕ) (pair : Pair) → Sound s → Leads q s (apply s (Grown n pair))
grown_leads q s n pair sound = record {
  matched_stays = ([], sym (append-nil s.matched));
  group_grows = λ r i there among. with_pair_group q n r i pair s.open_runs among;
  match_contains = λ r i matched among. absurd (group_apart q s r i sound matched among);
  started_grows = omega arith;
  open_before = λ r there. inl (sym (with_pair_there n r pair s.open_runs) ∙ there);
  matched_before = λ r matched. inl matched;
}

abandoned_leads : (q : Plan) (s : State) (n : ℕ) → Sound s → Leads q s (apply s (Abandoned n))
abandoned_leads q s n sound = record {
  matched_stays = ([], sym (append-nil s.matched));
  group_grows = λ r i there among. without_group q n r i s.open_runs (without_there n r s.open_runs there).0 ∙ among;
  match_contains = λ r i matched among. absurd (group_apart q s r i sound matched among);
  started_grows = omega arith;
  open_before = λ r there. inl (without_there n r s.open_runs there).1;
  matched_before = λ r matched. inl matched;
}

completed_leads : (q : Plan) (s : State) (n : ℕ) → Sound s → Leads q s (apply s (Completed n))
completed_leads q s n sound = record {
  matched_stays = (filter (is_run n) s.open_runs, refl);
  group_grows = λ r i there among. without_group q n r i s.open_runs (without_there n r s.open_runs there).0 ∙ among;
  match_contains = λ r i matched among. ⊎_elim (λ (before : is_matched s r ≡ true). absurd (group_apart q s r i sound before among))
      (λ (now : list_any (is_run r) (filter (is_run n) s.open_runs) ≡ true). uses r i (own_there n r s.open_runs now).0 among)
      (there_either s.matched (filter (is_run n) s.open_runs) r matched);
  started_grows = omega arith;
  open_before = λ r there. inl (without_there n r s.open_runs there).1;
  matched_before = λ r matched. ⊎_elim (λ (before : is_matched s r ≡ true). inl before)
      (λ (now : list_any (is_run r) (filter (is_run n) s.open_runs) ≡ true).
      let own = own_there n r s.open_runs now in
      inr (inl (subst (λ (z : ℕ). is_open s z ≡ true) (sym own.0) own.1)))
      (there_either s.matched (filter (is_run n) s.open_runs) r matched);
}
  where
    -- the match has used the group of its run
    uses : (r i : ℕ) → r ≡ n → in_group q s.open_runs r i ≡ true → in_group q (s.matched ++ filter (is_run n) s.open_runs) r i ≡ true
    uses r i same among =
        let own : in_group q (filter (is_run n) s.open_runs) n i ≡ true = own_group q n i s.open_runs ∙ subst (λ (z : ℕ). in_group q s.open_runs z i ≡ true) same among in
        let there : in_group q (filter (is_run n) s.open_runs) r i ≡ true = subst (λ (z : ℕ). in_group q (filter (is_run n) s.open_runs) z i ≡ true) (sym same) own in
        group_append q s.matched (filter (is_run n) s.open_runs) r i ∙ or_right (in_group q s.matched r i) (in_group q (filter (is_run n) s.open_runs) r i) there

leads_moved : (q : Plan) (s : State) (m : Move) → Sound s → Leads q s (apply s m)
leads_moved q s Opened sound = opened_leads q s sound
leads_moved q s (Grown n pair) sound = grown_leads q s n pair sound
leads_moved q s (Completed n) sound = completed_leads q s n sound
leads_moved q s (Abandoned n) sound = abandoned_leads q s n sound

-- Any moves lead on.
pub moves_lead_on : MovesLeadOn
moves_lead_on q s [] sound = leads_same q s sound
moves_lead_on q s (m ∷ ms) sound =
    leads_on q s (apply s m) (apply_all (apply s m) ms) sound (leads_moved q s m sound) (moves_lead_on q (apply s m) ms (sound_moved s m sound))

-- So do an event and the closing.
pub handling_is_lawful : HandlingIsLawful
handling_is_lawful = record {
  handled_sound = sound_handled;
  handled_leads = λ q s x sound. subst (λ (t : State). Leads q s t) (moves_are_handling q s x sound.ordered) (moves_lead_on q s (moves q s x) sound);
  closed_sound = λ s sound. subst (λ (t : State). Sound t) (closing_ends_runs s) (sound_all s (closing s) sound);
  closed_leads = λ q s sound. subst (λ (t : State). Leads q s t) (closing_ends_runs s) (moves_lead_on q s (closing s) sound);
}
