use Rattle.std.proofs.Common.{◌<◌, ◌^◌, length, map, subst}
use Rattle.sp_forest.specs.Numbering.{numbered_from}
use Rattle.sp_forest.proofs.ListOn.{ListedSoFar, listed_fit, listed_next}
use Rattle.sp_forest.proofs.listing.list_parts.Goals as goal

pub list_part-requires : goal.list_part-requires
list_part-requires c =
    let l = c.loop-own in
    let old = c.args.all.now.items in
    let whole = numbered_from (length old) (map (λ own. own.items) c.args.found.items) in
    let so = subst (λ rest. ListedSoFar whole old l.all.items (map (λ own. own.items) rest)) c.in-Some.ensures.steps.0 l.invariant in
    record { fit = listed_fit whole old l.all.items c.in-Some.own.items (map (λ own. own.items) c.next.new.self.rest.items) so (λ one. one.number < 2 ^ 64) c.requires.fit }

pub loop-own-preserved : goal.loop-own-preserved
loop-own-preserved c =
    let l = c.loop-own in
    let old = c.args.all.now.items in
    let whole = numbered_from (length old) (map (λ own. own.items) c.args.found.items) in
    let so = subst (λ rest. ListedSoFar whole old l.all.items (map (λ own. own.items) rest)) c.in-Some.ensures.steps.0 l.invariant in
    listed_next whole old l.all.items c.in-Some.own.items (map (λ own. own.items) c.next.new.self.rest.items) so c.list_part.new.all.items c.in_ok-list_part.ensures
