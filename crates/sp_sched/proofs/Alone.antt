-- A text is a schedule of one list of steps, or has one first bad line.
use Rattle.std.proofs.Common.{◌≡◌, ℕ, suc, ◌+◌, List, [], ◌∷◌, ◌++◌, length, refl, sym, ◌∙◌, ap, subst}
use Rattle.sp_sched.specs.declared.step.TraceStep.{TraceStep}
use Rattle.sp_sched.specs.Schedules.{AreSteps, IsBad, OneSchedule, lines}
use Rattle.sp_sched.specs.Schedules.AreSteps.{none, blank, step}
use Rattle.sp_sched.proofs.Bytes.{some_text}
use Rattle.sp_sched.proofs.Words.{one_step}

-- ---- one list of steps

are_one : (ls ms : List (List ℕ)) (xs ys : List TraceStep) → AreSteps ls xs → AreSteps ms ys → ls ≡ ms → xs ≡ ys
are_one _ _ _ _ none none e = refl
are_one _ _ _ _ none (blank ms ys b) e = absurd cc
are_one _ _ _ _ none (step y ms ys can b) e = absurd cc
are_one _ _ _ _ (blank ls xs a) none e = absurd cc
are_one _ _ _ _ (blank ls xs a) (blank ms ys b) e = are_one ls ms xs ys a b cc
are_one _ _ _ _ (blank ls xs a) (step y ms ys can b) e = absurd (some_text y cc)
are_one _ _ _ _ (step x ls xs can a) none e = absurd cc
are_one _ _ _ _ (step x ls xs can a) (blank ms ys b) e = absurd (some_text x cc)
are_one _ _ _ _ (step x ls xs can a) (step y ms ys stands b) e =
    let same : x ≡ y = one_step x y can stands cc in
    let rest : xs ≡ ys = are_one ls ms xs ys a b cc in
    cc

-- ---- one bad line

-- the first line of steps is not bad
good_line : (ls : List (List ℕ)) (xs : List TraceStep) → AreSteps ls xs → (line : List ℕ) (rest : List (List ℕ)) → ls ≡ line ∷ rest
    → IsBad line → ⊥
good_line _ _ none line rest e bad = cc
good_line _ _ (blank ls xs a) line rest e bad = bad.0 cc
good_line _ _ (step x ls xs can a) line rest e bad = bad.1 x can cc

-- the lines behind the first are steps too
later_lines : (ls : List (List ℕ)) (xs : List TraceStep) → AreSteps ls xs → (line : List ℕ) (rest : List (List ℕ)) → ls ≡ line ∷ rest
    → (ys : List TraceStep) × AreSteps rest ys
later_lines _ _ none line rest e = absurd cc
later_lines _ _ (blank ls xs a) line rest e = let same : ls ≡ rest = cc in (xs, subst (λ (l : List (List ℕ)). AreSteps l xs) same a)
later_lines _ _ (step x ls xs can a) line rest e = let same : ls ≡ rest = cc in (xs, subst (λ (l : List (List ℕ)). AreSteps l xs) same a)

-- among lines that are steps none is bad
none_bad : (front : List (List ℕ)) (line : List ℕ) (rest : List (List ℕ)) (xs : List TraceStep) → AreSteps (front ++ line ∷ rest) xs
    → IsBad line → ⊥
none_bad [] line rest xs a bad = good_line (line ∷ rest) xs a line rest refl bad
none_bad (l ∷ front) line rest xs a bad =
    let later = later_lines (l ∷ (front ++ line ∷ rest)) xs a l (front ++ line ∷ rest) refl in
    none_bad front line rest later.0 later.1 bad

-- two first bad lines of one text have as many lines before them
same_place : (front more : List (List ℕ)) (line other : List ℕ) (rest those : List (List ℕ)) (xs ys : List TraceStep)
    → AreSteps front xs → AreSteps more ys → IsBad line → IsBad other → front ++ line ∷ rest ≡ more ++ other ∷ those → length front ≡ length more
same_place [] [] line other rest those xs ys a b bad worse e = refl
same_place [] (m ∷ more) line other rest those xs ys a b bad worse e =
    let same : m ≡ line = cc in
    absurd (good_line (m ∷ more) ys b line more (ap (λ l. l ∷ more) same) bad)
same_place (l ∷ front) [] line other rest those xs ys a b bad worse e =
    let same : l ≡ other = cc in
    absurd (good_line (l ∷ front) xs a other front (ap (λ l. l ∷ front) same) worse)
same_place (l ∷ front) (m ∷ more) line other rest those xs ys a b bad worse e =
    let one = later_lines (l ∷ front) xs a l front refl in
    let two = later_lines (m ∷ more) ys b m more refl in
    ap suc (same_place front more line other rest those one.0 two.0 one.1 two.1 bad worse cc)

pub one_schedule : OneSchedule
one_schedule = record {
  steps = λ text one other a b. are_one (lines text) (lines text) one other a b refl;
  bad = λ text one other a b.
      let same = same_place a.front b.front a.line b.line a.rest b.rest a.steps b.steps a.good b.good a.bad b.bad (sym a.are ∙ b.are) in
      a.at ∙ ap (λ n. n + 1) same ∙ sym b.at;
  apart = λ text steps number a b. none_bad b.front b.line b.rest steps (subst (λ (l : List (List ℕ)). AreSteps l steps) b.are a) b.bad;
}
