use Rattle.std.proofs.Common.{◌≡◌, ◌-◌, length, Some, None, sym, ap, ◌∙◌}
use Rattle.std.specs.Prelude.{slice_get}
use Rattle.std.specs.List.{last_or}
use Rattle.sp_match.specs.inside.Kept.{name_under}
use Rattle.sp_match.proofs.PairsOfRuns.{last_at}
use Rattle.sp_match.proofs.run.Run.last_under.Goals as goal

pub returns-in-Some : goal.returns-in-Some
returns-in-Some c =
    let bs = c.args.self.now.bound.items in
    let last : last_or None bs ≡ Some c.in-Some.pair.now = sym (c.in-Some.ensures.value ∙ ap (λ l. slice_get l (length l - 1)) c.deref.ensures.value ∙ last_at bs) in
    c.name_under.ensures ∙ sym (ap (name_under c.args.number) last)

pub returns-in-None : goal.returns-in-None
returns-in-None c =
    let bs = c.args.self.now.bound.items in
    let last : last_or None bs ≡ None = sym (c.in-None.ensures.value ∙ ap (λ l. slice_get l (length l - 1)) c.deref.ensures.value ∙ last_at bs) in
    sym (ap (name_under c.args.number) last)
