use Rattle.std.proofs.Common.{refl}
use Rattle.sp_query.specs.Grammar.{kernel, name, Name}
use Rattle.sp_parse.specs.Reads.{never, reads_as}
use Rattle.sp_parse.proofs.Reading.{exit, read_found, read_stops}
use Rattle.sp_parse.proofs.Forms as f
use Rattle.sp_parse.proofs.EventClause as l
use Rattle.sp_parse.proofs.clauses.name_list.Goals as goal

pub returns-in_err-list : goal.returns-in_err-list
returns-in_err-list c room = exit _ _ room _ _ _ _ c.from_residual.ensures.1 (f.list_first_stops (λ _. Name) never (λ t h. refl) room _ _ (read_stops (λ _. Name) never room _ _ _ (c.ident.ensures room) c.in_err-list.ensures))

pub each-init : goal.each-init
each-init c room = f.list_sets_out (λ _. Name) never (λ t h. refl) room _ _ _ _ _ c.new.ensures c.in_ok-list.ensures.2 (read_found (λ _. Name) never room _ _ _ _ (c.ident.ensures room) c.in_ok-list.ensures.1)

pub returns-in_err-list-2 : goal.returns-in_err-list-2
returns-in_err-list-2 c room = exit _ _ room _ _ _ _ c.from_residual-in_err-list-2.ensures.1 (f.list_next_stops (λ _. Name) never (λ t h. refl) room _ _ _ _ _ c.in-Some.ensures (c.each.invariant room) (read_stops (λ _. Name) never room _ _ _ (c.ident-in-Some.ensures room) c.in_err-list-2.ensures))

pub each-smaller : goal.each-smaller
each-smaller c = f.list_falls (λ _. Name) never (λ t h. refl) 0 (reads_as (kernel name)) l.name_begins _ _ _ _ c.in-Some.ensures (read_found (λ _. Name) never 0 _ _ _ _ (c.ident-in-Some.ensures 0) c.in_ok-list-2.ensures.1)

pub each-preserved : goal.each-preserved
each-preserved c room = f.list_goes_on (λ _. Name) never (λ t h. refl) room _ _ _ _ _ _ _ c.in_ok-list-2.ensures.2 c.in-Some.ensures (c.each.invariant room) (read_found (λ _. Name) never room _ _ _ _ (c.ident-in-Some.ensures room) c.in_ok-list-2.ensures.1)

pub returns : goal.returns
returns c room = f.list_arrives (λ _. Name) never (λ t h. refl) room _ _ _ c.in_default.ensures (c.each.invariant room)
