use Rattle.std.proofs.Common.{◌≡◌, ℕ, length, sym, ◌∙◌, ap, subst}
use Rattle.std.proofs.lemmas.Bool.Decides.{Decides-eqb}
use Rattle.sp_plan.specs.declared.event.Kept.TheVariants.{Few}
use Rattle.sp_plan.specs.Kept.{listed, Counted}
use Rattle.sp_plan.proofs.Parts.{few_size, few_same, few_alike}
use Rattle.sp_plan.proofs.event.Values.same.Goals as goal

pub returns-then-count-size : goal.returns-then-count-size
returns-then-count-size c =
    let f = c.in-Few-Few in
    let one = subst Counted f.is-0 c.self.invariant in
    let more = subst Counted f.is-1 c.other.invariant in
    let sizes : f.count ≡ f.size = c.if-count-size.true in
    let other = subst (λ (n : ℕ). Counted (Few n f.signs f.others)) (sym sizes) more in
    let seen : listed (Few f.count f.texts f.numbers) ≡ c.args.self.now = ap listed (sym f.is-0) ∙ c.self.view_is in
    let seen-2 : listed (Few f.count f.signs f.others) ≡ c.args.other.now = ap (λ (n : ℕ). listed (Few n f.signs f.others)) sizes ∙ ap listed (sym f.is-1) ∙ c.other.view_is in (
      λ h.
          let told = c.same_first.ensures.0 h in
          sym seen ∙ few_same f.count f.texts f.signs f.numbers f.others told.0 told.1 ∙ seen-2,
      λ e. c.same_first.ensures.1 (few_alike f.count f.texts f.signs f.numbers f.others one other (seen ∙ e ∙ sym seen-2)),
    )

pub returns-else-count-size : goal.returns-else-count-size
returns-else-count-size c =
    let f = c.in-Few-Few in
    let size = few_size f.count f.texts f.numbers (subst Counted f.is-0 c.self.invariant) in
    let size-2 = few_size f.size f.signs f.others (subst Counted f.is-1 c.other.invariant) in
    let seen : listed (Few f.count f.texts f.numbers) ≡ c.args.self.now = ap listed (sym f.is-0) ∙ c.self.view_is in
    let seen-2 : listed (Few f.size f.signs f.others) ≡ c.args.other.now = ap listed (sym f.is-1) ∙ c.other.view_is in (
      λ h. absurd (c.if-count-size.false ((Decides-eqb f.count f.size).0 h)),
      λ h. absurd (c.if-count-size.false (sym size ∙ ap length (seen ∙ h ∙ sym seen-2) ∙ size-2)),
    )
