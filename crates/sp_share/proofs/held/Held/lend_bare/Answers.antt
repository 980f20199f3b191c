use Rattle.std.proofs.Common.{◌∙◌, ap, sym}
use Rattle.std.specs.Prelude.{not}
use Rattle.sp_share.proofs.Lending.{own_is}
use Rattle.sp_share.proofs.held.Held.lend_bare.Goals as goal

-- what goes out is what was its own
pub returns-then-is_small-clause-lent : goal.returns-then-is_small-clause-lent
returns-then-is_small-clause-lent c =
    let h = c.self.inside in
    c.in_ok-rooms_with.ensures ∙ c.replace-own.ensures.value ∙ sym (own_is h.matcher h.handle (c.is_none.ensures ∙ ap not c.if-is_none.true)) ∙ c.self.view_is
