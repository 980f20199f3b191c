use Rattle.std.proofs.Common.{◌≡◌, List, map, sym, ap, ◌∙◌}
use Rattle.std.specs.Arc.{arc_value}
use Rattle.sp_match.specs.declared.run.Run.{Run}
use Rattle.sp_match.specs.public.Matching.{Matching}
use Rattle.sp_match.specs.inside.Kept.{kept, started}
use Rattle.sp_match.proofs.matcher.Matcher.same_runs.Goals as goal

pub returns-clause-shared : goal.returns-clause-shared
returns-clause-shared c = λ shared.
    let plan : arc_value c.self.inside.plan ≡ arc_value c.other.inside.plan = ap (λ (m : Matching). m.plan) c.self.view_is ∙ shared ∙ sym (ap (λ (m : Matching). m.plan) c.other.view_is) in
    let count : c.self.inside.count ≡ c.other.inside.count = c.if-self-other.false in
    let mine : map started (map kept c.deref.result.now) ≡ map started (map kept c.self.inside.runs.items) = ap (λ (l : List Run). map started (map kept l)) c.deref.ensures.value in
    let theirs : map started (map kept c.deref-2.result.now) ≡ map started (map kept c.other.inside.runs.items) = ap (λ (l : List Run). map started (map kept l)) c.deref-2.ensures.value in (
      λ t.
          let runs : map started (map kept c.self.inside.runs.items) ≡ map started (map kept c.other.inside.runs.items) = sym mine ∙ c.same_runs.ensures.0 t ∙ theirs in
          sym c.self.view_is ∙ (λ i. record { plan = plan i; open_runs = runs i; started = count i }) ∙ c.other.view_is,
      λ e. c.same_runs.ensures.1 (mine ∙ ap (λ (m : Matching). m.open_runs) (c.self.view_is ∙ e ∙ sym c.other.view_is) ∙ sym theirs),
    )
