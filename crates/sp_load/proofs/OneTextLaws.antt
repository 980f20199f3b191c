-- A text has one plan's query or one fault, and what stands at a place is one text.
use Rattle.std.proofs.Common.{◌≡◌, ◌≢◌, ℕ, ◌<◌, ◌≤◌, List, length, Option, Some, None, refl, sym, ◌∙◌, ap, subst, arith}
use Rattle.std.specs.Prelude.{IsSomeAnd}
use Rattle.sp_base.specs.Marks.{without_mark}
use Rattle.sp_base.specs.Limits.{query_limit}
use Rattle.sp_io.specs.Outside.{first_file}
use Rattle.sp_plan.specs.declared.plan.Plan.{Plan}
use Rattle.sp_query.specs.declared.query.Query.{Query as QueryTree}
use Rattle.sp_query.specs.Queries.{IsQuery}
use Rattle.sp_parse.specs.declared.fault.ParseFault.{ParseFault}
use Rattle.sp_parse.specs.declared.fault.ParseFault.TheVariants as parse_fault
use Rattle.sp_parse.specs.Parses as parses
use Rattle.sp_parse.specs.Codes as parse_codes
use Rattle.sp_compile.specs.declared.fault.CompileFault.{CompileFault}
use Rattle.sp_compile.specs.declared.fault.CompileFault.TheVariants as f
use Rattle.sp_compile.specs.Checks.{Checks}
use Rattle.sp_compile.specs.Told as told
use Rattle.sp_compile.specs.Told.{IsPlanOf}
use Rattle.sp_compile.specs.Codes as compile_codes
use Rattle.sp_load.specs.Places.{Place, HasText, in_word, in_file, IsLonger, long_word, long_file}
use Rattle.sp_load.specs.Queries.{IsPlanFor, IsFaulty, no_text, no_query, no_plan}
use Rattle.sp_load.specs.Laws.{OneReading, OneText}

-- ---- texts

-- what refuses a query is what its checks find
checks_of : (query : QueryTree) (fault : CompileFault) → fault ≢ f.Memory → told.Refuses query fault → Checks query (Some fault)
checks_of query f.Memory other refuses = absurd (other refl)
checks_of query (f.Unknown span) other refuses = refuses
checks_of query (f.Twice span) other refuses = refuses
checks_of query (f.WrongKind span) other refuses = refuses
checks_of query (f.PlusLast span) other refuses = refuses
checks_of query (f.LateReference span) other refuses = refuses
checks_of query (f.TooWide span) other refuses = refuses
checks_of query (f.BadWindow span) other refuses = refuses
checks_of query (f.TooMany span) other refuses = refuses
checks_of query (f.NeverEnds span) other refuses = refuses
checks_of query (f.NeverBound span) other refuses = refuses

-- the laws of texts and queries
pub record TextLaws : Type 0 where
  pub query : (text : List ℕ) (query other : QueryTree) → IsQuery text query → IsQuery text other → query ≡ other
  pub fault : (text : List ℕ) (one other : ParseFault) → one ≢ parse_fault.Memory → other ≢ parse_fault.Memory → parses.Refuses text one → parses.Refuses text other → one ≡ other
  pub apart : (text : List ℕ) (query : QueryTree) (fault : ParseFault) → fault ≢ parse_fault.Memory → IsQuery text query → parses.Refuses text fault → ⊥
  pub verdict : (query : QueryTree) (one other : Option CompileFault) → Checks query one → Checks query other → one ≡ other

module _ (laws : TextLaws) (text : List ℕ) where
  one_verdict : (query other : QueryTree) (found given : Option CompileFault) → IsQuery text query → IsQuery text other → Checks query found → Checks other given → found ≡ given
  one_verdict query other found given is so finds gives = laws.verdict other found given (subst (λ (q : QueryTree). Checks q found) (laws.query text query other is so) finds) gives

  plans : (x y : Plan) → IsPlanFor text x → IsPlanFor text y → (query : QueryTree) × IsPlanOf x query × IsPlanOf y query
  plans x y one other = (other.query, subst (IsPlanOf x) (laws.query text one.query other.query one.is_query other.is_query) one.is_plan, other.is_plan)

  apart : (q : Plan) (code at : ℕ) → IsPlanFor text q → IsFaulty text code at → ⊥
  apart q _ _ plan (no_text none) = none plan.utf8
  apart q _ _ plan (no_query fault utf8 refuses no_memory) = laws.apart text plan.query fault no_memory plan.is_query refuses
  apart q _ _ plan (no_plan query fault utf8 is refuses no_memory) =
      absurd (cc (one_verdict query plan.query (Some fault) None is plan.is_query (checks_of query fault no_memory refuses) plan.is_plan.checks))

  faults : (code at code' at' : ℕ) → IsFaulty text code at → IsFaulty text code' at' → (code ≡ code') × (at ≡ at')
  faults _ _ _ _ (no_text none) (no_text other) = (refl, refl)
  faults _ _ _ _ (no_text none) (no_query fault utf8 refuses no_memory) = absurd (none utf8)
  faults _ _ _ _ (no_text none) (no_plan query fault utf8 is refuses no_memory) = absurd (none utf8)
  faults _ _ _ _ (no_query fault utf8 refuses no_memory) (no_text none) = absurd (none utf8)
  faults _ _ _ _ (no_query fault utf8 refuses no_memory) (no_query other utf8' refuses' no_memory') =
      let same = laws.fault text fault other no_memory no_memory' refuses refuses' in
      (ap parse_codes.code_of same, ap parse_codes.place_of same)
  faults _ _ _ _ (no_query fault utf8 refuses no_memory) (no_plan query other utf8' is refuses' no_memory') = absurd (laws.apart text query fault no_memory is refuses)
  faults _ _ _ _ (no_plan query fault utf8 is refuses no_memory) (no_text none) = absurd (none utf8)
  faults _ _ _ _ (no_plan query fault utf8 is refuses no_memory) (no_query other utf8' refuses' no_memory') = absurd (laws.apart text query other no_memory' is refuses')
  faults _ _ _ _ (no_plan query fault utf8 is refuses no_memory) (no_plan query' other utf8' is' refuses' no_memory') =
      let found = one_verdict query query' (Some fault) (Some other) is is' (checks_of query fault no_memory refuses) (checks_of query' other no_memory' refuses') in
      let same : fault ≡ other = cc found in
      (ap compile_codes.code_of same, ap compile_codes.place_of same)

pub one_reading : TextLaws → OneReading
one_reading laws = record { plans = plans laws; faults = faults laws; apart = apart laws }

-- ---- places

-- a file within a limit is none that is longer
pub not_longer : (files : List (List ℕ × List ℕ)) (name content : List ℕ) (limit : ℕ) → first_file files name ≡ Some content → length content ≤ limit → IsSomeAnd (first_file files name) (λ held. limit < length held) → ⊥
not_longer files name content limit holds short longer =
    let over = subst (λ (o : Option (List ℕ)). IsSomeAnd o (λ held. limit < length held)) holds longer in
    absurd (omega (arith, short, over))

texts_at : (files : List (List ℕ × List ℕ)) (place : Place) (one other : List ℕ) → HasText (Some files) place one → HasText (Some files) place other → one ≡ other
texts_at files _ _ _ (in_word text short) (in_word _ short') = refl
texts_at files _ _ _ (in_file name content holds short) (in_file _ other holds' short') =
    let both : Some content ≡ Some other = sym holds ∙ holds' in
    let same : content ≡ other = cc both in
    ap without_mark same

apart_at : (files : List (List ℕ × List ℕ)) (place : Place) (text : List ℕ) → HasText (Some files) place text → IsLonger (Some files) query_limit place → ⊥
apart_at files _ _ (in_word text short) (long_word _ long) = omega (arith, short, long)
apart_at files _ _ (in_file name content holds short) (long_file _ long) = not_longer files name content query_limit holds short long

pub one_text : OneText
one_text = record { texts = texts_at; apart = apart_at }
