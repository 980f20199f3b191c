use Rattle.std.proofs.Common.{◌≡◌, true, false, List, map, refl, sym, subst, ◌∙◌, inl, inr}
use Rattle.std.specs.List.{All}
use Rattle.std.proofs.lemmas.Bool.{cases_Bool}
use Rattle.sp_plan.specs.Runs.{Run}
use Rattle.sp_match.specs.declared.run.Run.{Run as OpenRun}
use Rattle.sp_match.specs.inside.Kept.{kept, pairs}
use Rattle.sp_match.specs.inside.Going.{IsIdle}
use Rattle.sp_match.specs.inside.Takers.{AreHeld}
use Rattle.sp_match.proofs.RunsAreHeld.{same_pairs}
use Rattle.sp_match.proofs.settling.end_event.Goals as goal

pub returns-clause-held : goal.returns-clause-held
returns-clause-held c = λ fresh.
    let q = c.args.offer.now.plan.now in
    let new = map kept c.args.runs.now.items in
    let settled = map kept c.settle.new.runs.items in
    let hs = c.outlive-all_stay.new.self.names.items in
    elim (cases_Bool c.outlive-all_stay.result) as (λ _. AreHeld q (map pairs settled) hs) [
      | inl so ↦
          let idle : All IsIdle new = subst (λ (l : List OpenRun). All IsIdle (map kept l)) c.deref.ensures.value (c.outlive-all_stay.ensures.idle so) in
          let was : AreHeld q (map pairs new) hs = subst (λ (l : List OpenRun). AreHeld q (map pairs (map kept l)) hs) c.deref.ensures.value (c.outlive-all_stay.ensures.held fresh) in
          subst (λ (l : List Run). AreHeld q l hs) (same_pairs settled new new c.settle.ensures.runs refl idle) was
      | inr gone ↦ absurd (let f : false ≡ true = sym (c.outlive-all_stay.ensures.stale gone) ∙ fresh in cc)
    ]
