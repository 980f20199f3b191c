use Rattle.std.proofs.Common.{inr, ℕ, List, map, ap, subst, arith}
use Rattle.std.specs.Prelude.{length}
use Rattle.sp_load.specs.Places.{text_of}
use Rattle.sp_listing.specs.Listing.{IsBadLine, seen}
use Rattle.sp_commands.specs.Check.{bad_line}
use Rattle.sp_commands.proofs.Checking.{few_matches, query_faulty}
use Rattle.sp_commands.proofs.checked.claim_of.Goals as goal

pub returns-in-Err-clause-refused : goal.returns-in-Err-clause-refused
returns-in-Err-clause-refused c = query_faulty (text_of c.args.texts.query) c.args.texts.content.items c.in-Err.refusal c.status_of_refusal.result c.status_of_refusal.ensures c.in-Err.ensures.refused

pub returns-in-Ok-read_listing-clause-few : goal.returns-in-Ok-read_listing-clause-few
returns-in-Ok-read_listing-clause-few c = omega (arith, few_matches c.in-Ok.plan (map seen c.in-Ok-read_listing.entries.items), ap length c.in-Ok-read_listing.ensures.text, ap length c.deref.ensures.value, c.requires.few)

pub returns-in-Err-BadLine-clause-refused : goal.returns-in-Err-BadLine-clause-refused
returns-in-Err-BadLine-clause-refused c =
    let bad = subst (λ (t : List ℕ). IsBadLine c.in-Ok.plan t c.in-Err-BadLine.line) c.deref.ensures.value (rw c.in-Err-BadLine.field-0-is at c.in-Err-BadLine.ensures.fault) in
    inr (λ bytes ended. bad_line c.in-Ok.plan c.in-Err-BadLine.line c.in-Ok.ensures.plan bad)
