use Rattle.std.proofs.Common.{◌≢◌, ◌==◌, not, filter, sym, ap, subst, ◌∙◌}
use Rattle.std.proofs.lemmas.List.Kept.{IsStrictlyIncreasing-filter}
use Rattle.std.proofs.lemmas.List.Elements.{All-filter}
use Rattle.sp_group.specs.Rising.{IsLabel}
use Rattle.sp_group.proofs.label.Label.remove.Goals as goal

pub invariant_of-self : goal.invariant_of-self
invariant_of-self c =
    subst IsLabel (sym c.remove.ensures)
    record {
      rising = IsStrictlyIncreasing-filter (λ r. not (r == c.args.run)) c.self.inside.runs.list c.self.invariant.rising;
      given = All-filter (λ r. not (r == c.args.run)) (λ r. r ≢ 0) c.self.inside.runs.list c.self.invariant.given;
    }

pub returns : goal.returns
returns c = c.remove.ensures ∙ ap (filter (λ r. not (r == c.args.run))) c.self.view_is
