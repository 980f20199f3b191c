use Rattle.std.proofs.Common.{◌≡◌, ◌∙◌, sym, ap, map}
use Rattle.sp_chance.specs.Counted.{decoded}
use Rattle.sp_chance.specs.Recent.{Latest}
use Rattle.sp_chance.proofs.Ring.{whole-full, whole-fresh}
use Rattle.sp_chance.proofs.recent.Recent.whole.Goals as goal

pub returns-then-self : goal.returns-then-self
returns-then-self c =
    let begun : c.self.inside.since ≡ 0 = ap (λ (m : Latest). m.since) c.self.view_is ∙ c.requires in
    ap (map decoded) (sym (whole-full c.self.inside.codes c.self.inside.since c.self.inside.full begun c.if-self.true))
    ∙ ap (λ (m : Latest). m.ring) c.self.view_is

pub returns-else-self : goal.returns-else-self
returns-else-self c =
    let begun : c.self.inside.since ≡ 0 = ap (λ (m : Latest). m.since) c.self.view_is ∙ c.requires in
    ap (map decoded) (sym (whole-fresh c.self.inside.codes c.self.inside.since c.self.inside.full begun c.if-self.false))
    ∙ ap (λ (m : Latest). m.ring) c.self.view_is
