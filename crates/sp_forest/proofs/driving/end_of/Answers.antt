use Rattle.std.proofs.Common.{◌≡◌, Bool, true, false, sym, ◌∙◌, ap}
use Rattle.std.specs.Prelude.{if◌then◌else◌}
use Rattle.std.proofs.lemmas.List.Folds.{list_all-map}
use Rattle.sp_split.specs.declared.ended.Why.TheVariants as why
use Rattle.sp_parts.specs.Parts.{Part}
use Rattle.sp_parts.specs.Seen.{seen}
use Rattle.sp_forest.proofs.driving.end_of.Goals as goal

pub returns-then-all_closed : goal.returns-then-all_closed
returns-then-all_closed c =
    let is : true ≡ _ = sym c.if-all_closed.true ∙ c.all_closed.ensures ∙ sym (list_all-map (λ (part : Part). part.closed) seen c.args.parts.now) in
    ap (λ (b : Bool). if b then why.Whole else why.Stopped c.args.stop) is

pub returns-else-all_closed : goal.returns-else-all_closed
returns-else-all_closed c =
    let is : false ≡ _ = sym c.if-all_closed.false ∙ c.all_closed.ensures ∙ sym (list_all-map (λ (part : Part). part.closed) seen c.args.parts.now) in
    ap (λ (b : Bool). if b then why.Whole else why.Stopped c.args.stop) is
