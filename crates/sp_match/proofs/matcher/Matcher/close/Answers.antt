use Rattle.std.proofs.Common.{◌≡◌, List, [], ◌∷◌, ◌++◌, map, refl, sym, ap, ◌∙◌}
use Rattle.sp_plan.specs.Moves.{Told}
use Rattle.sp_match.specs.public.Matching.{Matching}
use Rattle.sp_match.specs.inside.Kept.{Kept, kept, started}
use Rattle.sp_match.specs.inside.Effects.{leaving_told}
use Rattle.sp_match.specs.public.Seen.{seen}
use Rattle.sp_match.proofs.MovesAreTold.{left_told, told_abandoned}
use Rattle.sp_match.proofs.matcher.Matcher.close.Goals as goal

all_leaving : (ks : List Kept) → map leaving_told ks ≡ map left_told (map started ks)
all_leaving [] = refl
all_leaving (k ∷ ks) = ap (λ (ts : List Told). leaving_told k ∷ ts) (all_leaving ks)

pub returns-clause-told : goal.returns-clause-told
returns-clause-told c = λ s stands.
    let q = c.args.self.now.plan in
    let rs = c.self.inside.runs.items in
    c.in_ok-abandon_all.ensures ∙ (λ i. map seen (c.new-moves.ensures.list i) ++ map leaving_told (map kept (c.deref.ensures.value i))) ∙ all_leaving (map kept rs)
    ∙ ap (λ (m : Matching). map left_told m.open_runs) c.self.view_is ∙ ap (map left_told) stands.open_is ∙ sym (told_abandoned q s s.open_runs)
