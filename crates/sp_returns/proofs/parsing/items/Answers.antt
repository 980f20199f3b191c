use Rattle.std.proofs.Common.{refl}
use Rattle.sp_parse.specs.Reads.{never}
use Rattle.sp_parse.proofs.Reading.{exit}
use Rattle.sp_parse.proofs.Forms as f
use Rattle.sp_returns.specs.Grammar.{Item}
use Rattle.sp_returns.proofs.parsing.items.Goals as goal

pub returns-in_err-first : goal.returns-in_err-first
returns-in_err-first c = exit _ _ _ _ _ _ _ c.from_residual.ensures.1 (f.list_first_stops Item never (λ t h. refl) c.args.room _ _ c.in_err-first.ensures)

pub each-init : goal.each-init
each-init c = f.list_sets_out Item never (λ t h. refl) c.args.room _ _ _ _ _ c.new-list.ensures.items c.in_ok-add.ensures c.in_ok-first.ensures

pub returns-in_err-more : goal.returns-in_err-more
returns-in_err-more c = exit _ _ _ _ _ _ _ c.from_residual-in_err-more.ensures.1 (f.list_next_stops Item never (λ t h. refl) c.args.room _ _ _ _ _ c.in-Some.ensures c.each.invariant c.in_err-more.ensures)

pub each-preserved : goal.each-preserved
each-preserved c = f.list_goes_on Item never (λ t h. refl) c.args.room _ _ _ _ _ _ _ c.in_ok-add-2.ensures c.in-Some.ensures c.each.invariant c.in_ok-more.ensures

pub returns : goal.returns
returns c = f.list_arrives Item never (λ t h. refl) c.args.room _ _ _ c.in_default.ensures c.each.invariant
