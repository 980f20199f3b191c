-- A journal that is longer by a step still leads to the state, and all that holds of states that steps lead to holds of a core's.
use Rattle.std.proofs.Common.{◌≡◌, ℕ, ◌+◌, ◌≤◌, List, [], ◌∷◌, ◌++◌, length, None, sym, ap, subst, ◌∙◌, refl, arith, replicate}
use Rattle.std.specs.List.{fold}
use Rattle.std.proofs.lemmas.Grind.{flat_map-append}
use Rattle.std.proofs.lemmas.List.{length-append}
use Rattle.std.proofs.lemmas.List.Sums.{fold-append}
use Rattle.sp_plan.specs.declared.plan.Plan.{Plan}
use Rattle.sp_group.specs.declared.step.Entry.{Entry}
use Rattle.sp_group.specs.declared.step.Step.{Step}
use Rattle.sp_group.specs.Machine.{Machine, opening}
use Rattle.sp_group.specs.Effects.{effect}
use Rattle.sp_group.specs.Steps.{step, steps, after_entry, unless_refused}
use Rattle.sp_rules.specs.Schedules.{FitsStep, Fits, Reached, EverySchedule}
use Rattle.sp_core.specs.Running.{flat, once, refused}
use Rattle.sp_core.specs.Holding.{Holding, IsReplayed, IsCore, machine_of, running}

-- steps that fit, and then others that fit the state to which these lead
pub fits_on : (q : Plan) (bound : ℕ) (m : Machine) (xs ys : List Step) → Fits q bound m xs → Fits q bound (steps q bound m xs) ys → Fits q bound m (xs ++ ys)
fits_on q bound m [] ys a b = b
fits_on q bound m (x ∷ xs) ys a b = (a.0, fits_on q bound (step q bound m x) xs ys a.1 b)

-- the journal with more entries, whose steps fit and lead to the new state
pub replayed_by : (h k : Holding) (es : List Entry) → IsReplayed h → k.plan ≡ h.plan → k.tree.bound ≡ h.tree.bound → k.journal ≡ h.journal ++ es
    → Fits h.plan h.tree.bound (machine_of h) (flat es) → steps h.plan h.tree.bound (machine_of h) (flat es) ≡ machine_of k
    → k.tree.next ≤ length k.journal + 1 → k.next_ticket ≤ length k.journal + 1 → IsReplayed k
replayed_by h k es r plan bound journal fit leads ids tickets =
    let q = h.plan in
    let b = h.tree.bound in
    let all : flat k.journal ≡ flat h.journal ++ flat es = ap flat journal ∙ flat_map-append (λ (e : Entry). replicate e.times e.step) h.journal es in
    let fits : Fits q b opening (flat h.journal ++ flat es) =
    fits_on q b opening (flat h.journal) (flat es) r.fits (subst (λ (m : Machine). Fits q b m (flat es)) (sym r.leads) fit) in
    let led : steps q b opening (flat h.journal ++ flat es) ≡ machine_of k =
    fold-append (step q b) opening (flat h.journal) (flat es) ∙ ap (λ (m : Machine). steps q b m (flat es)) r.leads ∙ leads in
    record {
      fits = subst (λ (p : Plan). Fits p k.tree.bound opening (flat k.journal)) (sym plan)
          (subst (λ (n : ℕ). Fits q n opening (flat k.journal)) (sym bound) (subst (λ (xs : List Step). Fits q b opening xs) (sym all) fits));
      leads = ap (λ (p : Plan). steps p k.tree.bound opening (flat k.journal)) plan
          ∙ ap (λ (n : ℕ). steps q n opening (flat k.journal)) bound ∙ ap (steps q b opening) all ∙ led;
      ids = ids;
      tickets = tickets;
    }

-- the journal with one step more, which was not refused
pub replayed_on : (h k : Holding) (x : Step) → IsReplayed h → k.plan ≡ h.plan → k.tree.bound ≡ h.tree.bound → k.journal ≡ h.journal ++ once x ∷ []
    → FitsStep h.plan h.tree.bound (machine_of h) x → refused (running h) x ≡ None → machine_of k ≡ effect h.plan (machine_of h) x
    → k.tree.next ≤ h.tree.next + 1 → k.next_ticket ≤ h.next_ticket + 1 → IsReplayed k
replayed_on h k x r plan bound journal fit passes does ids tickets =
    let done : step h.plan h.tree.bound (machine_of h) x ≡ effect h.plan (machine_of h) x =
    ap (λ o. unless_refused o (machine_of h) (effect h.plan (machine_of h) x)) passes in
    let more : length k.journal ≡ length h.journal + 1 = ap length journal ∙ length-append h.journal (once x ∷ []) in
    let a = r.ids in
    let b = r.tickets in
    replayed_by h k (once x ∷ []) r plan bound journal (fit, tt) (done ∙ sym does) (omega arith) (omega arith)

-- what holds of each state that steps lead to holds of a core's
pub reached : EverySchedule → (h : Holding) → IsCore h → Reached h.plan h.tree.bound (machine_of h)
reached law h c =
    subst (λ (m : Machine). Reached h.plan h.tree.bound m) c.replayed.leads (law h.plan h.tree.bound (flat h.journal) c.compiled c.some c.most c.replayed.fits)

-- a journal replayed entry by entry is its steps taken one after another
pub replay_is : (q : Plan) (bound : ℕ) (m : Machine) (es : List Entry) → fold (after_entry q bound) m es ≡ steps q bound m (flat es)
replay_is q bound m [] = refl
replay_is q bound m (e ∷ es) =
    replay_is q bound (after_entry q bound m e) es ∙ sym (fold-append (step q bound) m (replicate e.times e.step) (flat es))
